use Rattle.std.proofs.Common.{◌≡◌, ◌≤◌, ℕ, Bool}
use Rattle.wire.specs.Scan.{any_below}
use Rattle.validate.specs.Together.{Tells}
use Rattle.validate.proofs.together.any_number.Given as goal

abbrev pub invariant-loop-n : goal.invariant-loop-n
invariant-loop-n g l = (l.n ≤ l.count) × ((p : ℕ → Bool) → Tells (goal.F-post g l.test) l.count p → l.found ≡ any_below l.n p)
