use Rattle.commands.proofs.CaseLaws.{passes, fails}
use Rattle.commands.proofs.PagesCaseLaws.{list_fits, listed_access, listed_dead, listed_range, listed_full, listed_done}
use Rattle.commands.proofs.pages.register_paged.Goals as goal

pub returns-then-not-access_ok : goal.returns-then-not-access_ok
returns-then-not-access_ok c = rw (c.ok_or.ensures.ok_part, c.in_ok-g.was) (listed_access _ _ _ (fails c.access_ok.ensures c.if-not-access_ok.true))

pub returns-then-not-is_live : goal.returns-then-not-is_live
returns-then-not-is_live c =
    let known = c in
    rw (known.ok_or.ensures.ok_part, known.in_ok-g.was)
    (listed_dead _ _ _ (passes known.access_ok.ensures known.if-not-access_ok.false) (fails c.is_live.ensures c.if-not-is_live.true))

pub returns-then-not-in_pages : goal.returns-then-not-in_pages
returns-then-not-in_pages c =
    let live = c in
    let known = live in
    rw (known.ok_or.ensures.ok_part, known.in_ok-g.was)
    (listed_range _ _ _ (passes known.access_ok.ensures known.if-not-access_ok.false) (passes live.is_live.ensures live.if-not-is_live.false)
    (rw (← c.load_memory.ensures) (fails c.in_pages.ensures c.if-not-in_pages.true)))

pub returns-then-n-ge-MR_COUNT : goal.returns-then-n-ge-MR_COUNT
returns-then-n-ge-MR_COUNT c =
    let range = c in
    let live = range in
    let known = live in
    rw (known.ok_or.ensures.ok_part, known.in_ok-g.was)
    (listed_full _ _ _ (passes known.access_ok.ensures known.if-not-access_ok.false) (passes live.is_live.ensures live.if-not-is_live.false)
    (rw (← range.load_memory.ensures) (passes range.in_pages.ensures range.if-not-in_pages.false))
    _ c.free_mrn-n.ensures c.if-n-ge-MR_COUNT.true)

pub put_pages-requires : goal.put_pages-requires
put_pages-requires c =
    let put = c in
    let room = put in
    let range = room in
    let read = range in
    let s = read in
    let inside = passes range.in_pages.ensures range.if-not-in_pages.false in
    let fits = list_fits s.args.state.now s.args.pages.now read.in_ok-g.g s.requires (rw range.load_memory.ensures at inside) in
    (room.if-n-ge-MR_COUNT.false, fits.0, fits.1)

pub returns : goal.returns
returns c =
    let pages = c in
    let put = pages in
    let room = put in
    let range = room in
    let live = range in
    let known = live in
    rw (known.ok_or.ensures.ok_part, known.in_ok-g.was)
    (listed_done _ _ _ (passes known.access_ok.ensures known.if-not-access_ok.false) (passes live.is_live.ensures live.if-not-is_live.false)
    (rw (← range.load_memory.ensures) (passes range.in_pages.ensures range.if-not-in_pages.false))
    _ room.free_mrn-n.ensures room.if-n-ge-MR_COUNT.false
    _ put.put_region-variant.ensures.0 _ c.key_of.ensures _ _ put.put_region-variant.ensures.1 pages.put_pages.ensures)
