use Rattle.std.proofs.Common.{◌≡◌, ◌+◌, ◌*◌, ◌<◌, ◌≤◌, ℕ, false}
use Rattle.tables.specs.State.{card}
use Rattle.validate.specs.Search.{vacant}
use Rattle.validate.proofs.find.vacant_of_eight.Given as goal

abbrev pub invariant-loop-i : goal.invariant-loop-i
invariant-loop-i l = (l.i ≤ 8) × ((k : ℕ) → k < l.i → vacant ((card l.state).mr (8 * l.g + k)) ≡ false)
