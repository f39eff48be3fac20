use Rattle.std.proofs.Common.{◌-◌, ◌*◌, ◌≤◌}
use Rattle.wire.specs.Scan.{all_below}
use Rattle.validate.specs.Accept.{mr_ok}
use Rattle.validate.specs.Together.{Enough}
use Rattle.validate.proofs.together.past_free.Given as goal

abbrev pub invariant-loop-g : goal.invariant-loop-g
invariant-loop-g l = (l.from ≤ l.g) × (l.g ≤ 32) × Enough (all_below (8 * l.from) (mr_ok l.state)) (all_below (8 * l.g) (mr_ok l.state))

abbrev pub decreases-loop-g : goal.decreases-loop-g
decreases-loop-g l = 32 - l.g
