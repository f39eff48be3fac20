use Rattle.std.proofs.Common.{◌≡◌, ◌*◌, ◌/◌, ◌≤◌, true, not}
use Rattle.wire.specs.Scan.{all_below}
use Rattle.tables.specs.Limits.{mr_count}
use Rattle.tables.specs.State.{card}
use Rattle.validate.specs.Search.{vacant}
use Rattle.validate.proofs.find.free_mrn.Given as goal

abbrev pub invariant-loop-g : goal.invariant-loop-g
invariant-loop-g l = (l.g ≤ mr_count / 8) × (all_below (8 * l.g) (λ k. not (vacant ((card l.state).mr k))) ≡ true)
