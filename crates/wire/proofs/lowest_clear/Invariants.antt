use mathlib.Core.Path.{◌≡◌}
use Prim.Native.Nat.{◌≤◌, ◌-◌, ◌*◌}
use Rattle.wire.specs.Scan.{lowest, lowest_from, clear_at}
use Rattle.wire.proofs.lowest_clear.Given as goal

abbrev pub invariant-loop-i : goal.invariant-loop-i
invariant-loop-i l = (l.i ≤ l.words) × (lowest (8 * l.words) (clear_at l.s l.at) ≡ lowest_from (clear_at l.s l.at) (8 * l.words - 8 * l.i) (8 * l.i))

abbrev pub decreases-loop-i : goal.decreases-loop-i
decreases-loop-i l = l.words - l.i
