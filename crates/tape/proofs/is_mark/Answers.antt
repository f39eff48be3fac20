use mathlib.Core.Path.{◌∙◌}
use Rattle.tape.proofs.HeadLaws.{mark_starts}
use Rattle.tape.proofs.is_mark.Goals as goal

pub returns : goal.returns
returns c = c.starts_with.ensures.value ∙ mark_starts c.args.input.now c.requires c.type_inv.input
