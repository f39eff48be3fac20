use mathlib.Core.Path.{sym, ◌∙◌}
use Rattle.tables.proofs.ObjectLaws.{qp_below}
use Rattle.commands.proofs.CaseLaws.{passes, fails}
use Rattle.commands.proofs.PairCaseLaws.{modify_fields, modify_dead, modify_stays, modify_done}
use Rattle.commands.proofs.control_qp.modify_qp.Goals as goal

pub returns-then-modify_bad : goal.returns-then-modify_bad
returns-then-modify_bad c = rw (c.ok_or.ensures.ok_part, c.in_ok-r.was) (modify_fields _ _ (sym c.modify_bad.ensures ∙ c.if-modify_bad.true))

pub returns-then-not-is_live : goal.returns-then-not-is_live
returns-then-not-is_live c =
    let fine = c in
    rw (fine.ok_or.ensures.ok_part, fine.in_ok-r.was)
    (modify_dead _ _ (sym fine.modify_bad.ensures ∙ fine.if-modify_bad.false) (fails c.is_live.ensures c.if-not-is_live.true))

pub load_qp-p-requires : goal.load_qp-p-requires
load_qp-p-requires c =
    let live = c in
    let s = live in
    qp_below _ _ (passes live.is_live.ensures live.if-not-is_live.false)

pub returns-then-not-is_move : goal.returns-then-not-is_move
returns-then-not-is_move c =
    let live = c in
    let fine = live in
    rw (fine.ok_or.ensures.ok_part, fine.in_ok-r.was)
    (modify_stays _ _ (sym fine.modify_bad.ensures ∙ fine.if-modify_bad.false) (passes live.is_live.ensures live.if-not-is_live.false)
    (rw (← c.load_qp-p.ensures) (fails c.is_move.ensures c.if-not-is_move.true)))

pub move_pair-requires : goal.move_pair-requires
move_pair-requires c =
    let live = c in
    let fine = live in
    let s = fine in
    (qp_below _ _ (passes live.is_live.ensures live.if-not-is_live.false), sym fine.modify_bad.ensures ∙ fine.if-modify_bad.false)

pub returns : goal.returns
returns c =
    let moves = c in
    let live = moves in
    let fine = live in
    rw (fine.ok_or.ensures.ok_part, fine.in_ok-r.was)
    (modify_done _ _ (sym fine.modify_bad.ensures ∙ fine.if-modify_bad.false) (passes live.is_live.ensures live.if-not-is_live.false)
    (rw (← moves.load_qp-p.ensures) (passes moves.is_move.ensures moves.if-not-is_move.false)) _
    c.move_pair.ensures)
