use Rattle.commands.proofs.CaseLaws.{create_cq_fields, create_cq_full, create_cq_done, passes, fails}
use Rattle.commands.proofs.control.create_cq.Goals as goal

pub returns-then-not-places_fine : goal.returns-then-not-places_fine
returns-then-not-places_fine c = rw (c.ok_or.ensures.ok_part, c.in_ok-places.was) (create_cq_fields _ _ (fails c.places_fine.ensures c.if-not-places_fine.true))

pub returns-then-n-ge-CQ_COUNT : goal.returns-then-n-ge-CQ_COUNT
returns-then-n-ge-CQ_COUNT c =
    let fine = c in
    rw (fine.ok_or.ensures.ok_part, fine.in_ok-places.was)
    (create_cq_full _ _ (passes fine.places_fine.ensures fine.if-not-places_fine.false) _ c.free_cqn-n.ensures c.if-n-ge-CQ_COUNT.true)

pub returns : goal.returns
returns c =
    let room = c in
    let fine = room in
    rw (fine.ok_or.ensures.ok_part, fine.in_ok-places.was)
    (create_cq_done _ _ (passes fine.places_fine.ensures fine.if-not-places_fine.false) _ room.free_cqn-n.ensures room.if-n-ge-CQ_COUNT.false _
    c.put_queue.ensures)
