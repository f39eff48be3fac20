use Rattle.commands.proofs.CaseLaws.{register_access, register_dead, register_range, register_full, register_done, passes, fails}
use Rattle.commands.proofs.control.register.Goals as goal

pub returns-then-not-access_ok : goal.returns-then-not-access_ok
returns-then-not-access_ok c = rw (c.ok_or.ensures.ok_part, c.in_ok-g.was) (register_access _ _ (fails c.access_ok.ensures c.if-not-access_ok.true))

pub returns-then-not-is_live : goal.returns-then-not-is_live
returns-then-not-is_live c =
    let known = c in
    rw (known.ok_or.ensures.ok_part, known.in_ok-g.was)
    (register_dead _ _ (passes known.access_ok.ensures known.if-not-access_ok.false) (fails c.is_live.ensures c.if-not-is_live.true))

pub returns-then-not-in_range : goal.returns-then-not-in_range
returns-then-not-in_range c =
    let live = c in
    let known = live in
    rw (known.ok_or.ensures.ok_part, known.in_ok-g.was)
    (register_range _ _ (passes known.access_ok.ensures known.if-not-access_ok.false) (passes live.is_live.ensures live.if-not-is_live.false)
    (rw (← c.load_memory.ensures) (fails c.in_range.ensures c.if-not-in_range.true)))

pub returns-then-n-ge-MR_COUNT : goal.returns-then-n-ge-MR_COUNT
returns-then-n-ge-MR_COUNT c =
    let range = c in
    let live = range in
    let known = live in
    rw (known.ok_or.ensures.ok_part, known.in_ok-g.was)
    (register_full _ _ (passes known.access_ok.ensures known.if-not-access_ok.false) (passes live.is_live.ensures live.if-not-is_live.false)
    (rw (← range.load_memory.ensures) (passes range.in_range.ensures range.if-not-in_range.false))
    _ c.free_mrn-n.ensures c.if-n-ge-MR_COUNT.true)

pub returns : goal.returns
returns c =
    let put = c in
    let room = put in
    let range = room in
    let live = range in
    let known = live in
    rw (known.ok_or.ensures.ok_part, known.in_ok-g.was)
    (register_done _ _ (passes known.access_ok.ensures known.if-not-access_ok.false) (passes live.is_live.ensures live.if-not-is_live.false)
    (rw (← range.load_memory.ensures) (passes range.in_range.ensures range.if-not-in_range.false))
    _ room.free_mrn-n.ensures room.if-n-ge-MR_COUNT.false
    _ put.put_region-variant.ensures.0 _ c.key_of.ensures _ put.put_region-variant.ensures.1)
