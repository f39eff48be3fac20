use Rattle.commands.proofs.CaseLaws.{destroy_dead, destroy_used, destroy_done, passes, fails}
use mathlib.Core.Path.{sym, ◌∙◌}
use Rattle.commands.proofs.destroy.destroy.Goals as goal

pub returns-then-not-is_live : goal.returns-then-not-is_live
returns-then-not-is_live c =
    let s = c in
    rw (c.ok_or.ensures.ok_part, c.in_ok-n.was) (destroy_dead _ s.args.kind _ (fails c.is_live.ensures c.if-not-is_live.true))

pub returns-then-in_use : goal.returns-then-in_use
returns-then-in_use c =
    let live = c in
    let s = live in
    rw (live.ok_or.ensures.ok_part, live.in_ok-n.was)
    (destroy_used _ s.args.kind _ (passes live.is_live.ensures live.if-not-is_live.false) (sym c.in_use.ensures ∙ c.if-in_use.true))

pub returns : goal.returns
returns c =
    let unused = c in
    let live = unused in
    let s = live in
    rw (live.ok_or.ensures.ok_part, live.in_ok-n.was)
    (destroy_done _ s.args.kind _ (passes live.is_live.ensures live.if-not-is_live.false) (sym unused.in_use.ensures ∙ unused.if-in_use.false) _
    c.clear.ensures)
