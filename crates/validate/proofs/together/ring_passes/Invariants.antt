use Rattle.std.proofs.Common.{◌≡◌, ◌<◌, ◌≤◌, ℕ, Bool, true}
use Rattle.wire.specs.Scan.{all_below}
use Rattle.wire.specs.Ring.{ring_place}
use Rattle.validate.specs.Together.{Tells}
use Rattle.validate.proofs.together.ring_passes.Given as goal

abbrev pub invariant-loop : goal.invariant-loop
invariant-loop g l =
    (l.counter ≤ l.count) × (l.at < l.cap) × (l.at ≡ ring_place l.cap l.first l.counter)
    × ((p : ℕ → Bool) → Tells (goal.F-post g l.test) l.cap p → all_below l.counter (λ j. p (ring_place l.cap l.first j)) ≡ true)
