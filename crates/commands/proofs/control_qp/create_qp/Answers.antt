use Rattle.commands.proofs.CaseLaws.{passes, fails}
use Rattle.commands.proofs.PairCaseLaws.{create_qp_fields, create_qp_dead, create_qp_full, create_qp_done}
use Rattle.commands.proofs.control_qp.create_qp.Goals as goal

pub returns-then-not-create_fine : goal.returns-then-not-create_fine
returns-then-not-create_fine c = rw (c.ok_or.ensures.ok_part, c.in_ok-r.was) (create_qp_fields _ _ (fails c.create_fine.ensures c.if-not-create_fine.true))

pub returns-then-not-create_live : goal.returns-then-not-create_live
returns-then-not-create_live c =
    let fine = c in
    rw (fine.ok_or.ensures.ok_part, fine.in_ok-r.was)
    (create_qp_dead _ _ (passes fine.create_fine.ensures fine.if-not-create_fine.false) (fails c.create_live.ensures c.if-not-create_live.true))

pub returns-then-n-ge-QP_COUNT : goal.returns-then-n-ge-QP_COUNT
returns-then-n-ge-QP_COUNT c =
    let live = c in
    let fine = live in
    rw (fine.ok_or.ensures.ok_part, fine.in_ok-r.was)
    (create_qp_full _ _ (passes fine.create_fine.ensures fine.if-not-create_fine.false) (passes live.create_live.ensures live.if-not-create_live.false) _
    c.free_qpn-n.ensures c.if-n-ge-QP_COUNT.true)

pub returns : goal.returns
returns c =
    let room = c in
    let live = room in
    let fine = live in
    rw (fine.ok_or.ensures.ok_part, fine.in_ok-r.was)
    (create_qp_done _ _ (passes fine.create_fine.ensures fine.if-not-create_fine.false) (passes live.create_live.ensures live.if-not-create_live.false) _
    room.free_qpn-n.ensures room.if-n-ge-QP_COUNT.false _ c.put_pair.ensures)
