use Rattle.std.proofs.Common.{ℕ, ◌+◌, ◌*◌, ◌<◌, ◌≤◌}
use Rattle.wire.specs.Table.{row_at}
use Rattle.tables.specs.Layout.{mr_t}
use Rattle.tables.specs.declared.Region.{Region}
use Rattle.validate.specs.Together.{Gives}
use Rattle.validate.proofs.objects.Eight.numbers_pass.Given as goal

abbrev pub invariant-loop-i : goal.invariant-loop-i
invariant-loop-i g l = (l.i ≤ 8) × ((f : Region → ℕ) → Gives (goal.F-post g l.number) f → (k : ℕ) → k < l.i → f (row_at mr_t l.self.state.now (8 * l.self.g + k)) ≤ l.any)
