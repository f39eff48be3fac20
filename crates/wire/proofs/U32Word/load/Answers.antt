use mathlib.Core.Path.{ap, ◌∙◌}
use native.Mathlib.Omega.{arith}
use Rattle.std.specs.Int.{w32, from_le_bytes}
use Rattle.wire.proofs.WordLaws.{word_read}
use Rattle.wire.proofs.U32Word.load.Goals as goal

pub returns : goal.returns
returns c = c.from_le_bytes.ensures ∙ ap (from_le_bytes w32) c.get_bytes.ensures ∙ word_read 3 4 c.args.s.now c.args.at (omega arith)
