use mathlib.Core.Path.{◌≡◌}
use Prim.Native.Nat.{◌-◌, ◌≤◌}
use Rattle.wire.specs.Scan.{lowest_from}
use Rattle.tables.specs.State.{card}
use Rattle.rules.specs.Turn.{seat, passed_over, runnable}
use Rattle.engine.proofs.turn.first_runnable.Given as goal

abbrev pub invariant-loop-i : goal.invariant-loop-i
invariant-loop-i l =
    (l.i ≤ 8) × (passed_over l.next (runnable (card l.state)) ≡ lowest_from (λ k. runnable (card l.state) (seat l.next k)) (8 - l.i) l.i)
