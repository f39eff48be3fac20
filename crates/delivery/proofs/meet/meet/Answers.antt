use mathlib.Core.Path.{sym, ◌∙◌}
use Rattle.delivery.proofs.MeetLaws.{no_peer, peer_silent, queues_below, peer_met}
use Rattle.delivery.proofs.meet.meet.Goals as goal

pub returns-then-d-ge-QP_COUNT : goal.returns-then-d-ge-QP_COUNT
returns-then-d-ge-QP_COUNT c =
    let b = c in
    let a = b.args in
    no_peer a.state.now a.q a.opcode a.own b.requires.0 b.requires.1 c.if-d-ge-QP_COUNT.true

pub returns-then-not-answers_to : goal.returns-then-not-answers_to
returns-then-not-answers_to c =
    let b = c in
    let a = b.args in
    peer_silent a.state.now a.q a.opcode a.own b.requires.0 b.requires.1 c.if-d-ge-QP_COUNT.false _
    c.is_live-live.ensures _ c.load_qp-far.ensures
    (sym c.answers_to.ensures ∙ c.if-not-answers_to.true)

pub meet_peer-requires : goal.meet_peer-requires
meet_peer-requires c =
    let b = c in
    let a = b.args in
    let h = c.if-d-ge-QP_COUNT.false in
    let k = queues_below a.state.now a.q a.opcode a.own b.requires.0 b.requires.1 h _ c.is_live-live.ensures _
    c.load_qp-far.ensures (sym c.answers_to.ensures ∙ c.if-not-answers_to.false) in
    (k.0, k.1, h)

pub returns : goal.returns
returns c =
    let b = c in
    let a = b.args in
    c.meet_peer.ensures
    ∙ peer_met a.state.now a.q a.opcode a.own b.requires.0 b.requires.1 c.if-d-ge-QP_COUNT.false _
    c.is_live-live.ensures _ c.load_qp-far.ensures
    (sym c.answers_to.ensures ∙ c.if-not-answers_to.false)
