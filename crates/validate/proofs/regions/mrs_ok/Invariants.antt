use Rattle.std.proofs.Common.{◌≡◌, ◌-◌, ◌*◌, ◌/◌, ◌≤◌, true}
use Rattle.wire.specs.Scan.{all_below}
use Rattle.validate.specs.Accept.{mr_ok}
use Rattle.tables.specs.Limits.{mr_count}
use Rattle.validate.proofs.regions.mrs_ok.Given as goal

abbrev pub invariant-loop-g : goal.invariant-loop-g
invariant-loop-g l = (l.g ≤ mr_count / 8) × (all_below (8 * l.g) (mr_ok l.state) ≡ true)

abbrev pub decreases-loop-g : goal.decreases-loop-g
decreases-loop-g l = mr_count / 8 - l.g
