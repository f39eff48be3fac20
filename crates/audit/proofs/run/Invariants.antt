use mathlib.Core.Path.{◌≡◌}
use Prim.Native.Nat.{◌-◌, ◌≤◌}
use lib.ListN.{length}
use Rattle.audit.specs.Inside.{Stands}
use Rattle.audit.proofs.RunLaws.{Stand}
use Rattle.audit.proofs.run.Given as goal

abbrev pub invariant-loop : goal.invariant-loop
invariant-loop l =
    (length l.calls ≡ length l.initial.calls) × (length l.answers ≡ length l.initial.answers)
    × Stands l.position l.calls l.answers × (l.position.number ≤ l.counter)
    × Stand l.files (length l.initial.memory) l.state l.memory l.calls l.answers l.position (18446744073709551615 - l.counter)
