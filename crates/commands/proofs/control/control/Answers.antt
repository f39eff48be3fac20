use Prim.Native.Nat.{◌≤◌}
use lib.ListN.{length}
use Rattle.tables.specs.Commands.{ack_least, ack_size, ack_need}
use Rattle.tables.proofs.AckLaws.{need_least}
use Rattle.commands.specs.Control.{outcome_ack}
use Rattle.commands.proofs.CallLaws.{outcome_room, control_short, control_done}
use borrow.Author.Rules.{rules}
use Rattle.commands.proofs.control.control.Goals as goal

pub returns-then-ack-ack_need : goal.returns-then-ack-ack_need
returns-then-ack-ack_need c =
    let s = c.in-Some.ensures.value in
    rw (c.from-then-ack-ack_need.ensures, ← s.1) (control_short _ _ _ s.0 (rw c.ack_need.ensures at c.if-ack-ack_need.true))

pub write_ack-requires : goal.write_ack-requires
write_ack-requires c =
    let done = c in
    let room = done in
    let need = room in
    let k = need.args.command.now in
    let a = length need.args.ack.now in
    let h : ack_need k ≤ a = rw need.ack_need.ensures at room.if-ack-ack_need.false in
    let s : ack_size (outcome_ack done.dispatch-outcome.result) ≤ ack_need k = outcome_room _ k done.dispatch-outcome.result _ done.dispatch-outcome.ensures in
    let m : ack_least ≤ ack_need k = need_least k in
    rw c.ack_of.ensures (search rules, search rules)

pub returns : goal.returns
returns c =
    let s = c.in-Some.ensures.value in
    rw (← s.1)
    (control_done _ _ _ s.0 (rw c.ack_need.ensures at c.if-ack-ack_need.false) c.dispatch-outcome.result _
    c.dispatch-outcome.ensures _ c.ack_of.ensures _ c.from-2.ensures _ c.write_ack.ensures)
