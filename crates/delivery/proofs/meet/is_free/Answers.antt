use mathlib.Core.Path.{◌∙◌}
use Rattle.tables.proofs.ObjectLaws.{qp_below}
use Rattle.validate.proofs.AcceptedLaws.{accepted}
use Rattle.delivery.proofs.MeetLaws.{sender, sender_queue, error_free}
use Rattle.delivery.proofs.meet.is_free.Goals as goal

pub load_qp-own-requires : goal.load_qp-own-requires
load_qp-own-requires c = qp_below c.args.state.now c.args.q c.requires.1

pub has_place-requires : goal.has_place-requires
has_place-requires c =
    let a = c.args in
    sender_queue a.state.now a.q a.opcode _
    (sender a.state.now c.requires.0 (accepted _ c.requires.0).sized a.q c.requires.1 _ c.load_qp-own.ensures)

pub returns-then-own-eq-ERROR : goal.returns-then-own-eq-ERROR
returns-then-own-eq-ERROR c =
    let a = c.args in
    c.has_place.ensures
    ∙ error_free a.state.now a.q a.opcode _
    (sender a.state.now c.requires.0 (accepted _ c.requires.0).sized a.q c.requires.1 _ c.load_qp-own.ensures)
    c.if-own-eq-ERROR.true

pub meet-requires : goal.meet-requires
meet-requires c =
    let a = c.args in
    (sender a.state.now c.requires.0 (accepted _ c.requires.0).sized a.q c.requires.1 _ c.load_qp-own.ensures, c.if-own-eq-ERROR.false)
