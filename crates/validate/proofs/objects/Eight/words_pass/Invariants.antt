use Rattle.std.proofs.Common.{ℕ, ◌+◌, ◌*◌, ◌<◌, ◌≤◌}
use Rattle.wire.specs.Table.{row_at}
use Rattle.tables.specs.Layout.{mr_t}
use Rattle.validate.specs.Together.{first_word}
use Rattle.validate.proofs.BitLaws.{Between}
use Rattle.validate.proofs.objects.Eight.words_pass.Given as goal

abbrev pub invariant-loop-i : goal.invariant-loop-i
invariant-loop-i l = (l.i ≤ 8) × ((k : ℕ) → k < l.i → Between l.all l.any (first_word (row_at mr_t l.self.state.now (8 * l.self.g + k))))
