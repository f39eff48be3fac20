use mathlib.Core.Path.{ap, ◌∙◌}
use native.Mathlib.Omega.{arith}
use Rattle.std.specs.Int.{w64, from_le_bytes}
use Rattle.wire.proofs.WordLaws.{word_read}
use Rattle.wire.proofs.U64Word.load.Goals as goal

pub returns : goal.returns
returns c = c.from_le_bytes.ensures ∙ ap (from_le_bytes w64) c.get_bytes.ensures ∙ word_read 7 8 c.args.s.now c.args.at (omega arith)
