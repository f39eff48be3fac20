use mathlib.Core.Path.{sym, ◌∙◌}
use Rattle.tables.proofs.QueuedLaws.{least, most}
use Rattle.queues.proofs.EnqueueLaws.{enqueue_state, enqueue_full, enqueue_done}
use Rattle.queues.proofs.LiveLaws.{pair_below, queue_room}
use Rattle.queues.proofs.sends.enqueue_live.Goals as goal

pub returns-then-not-may_queue : goal.returns-then-not-may_queue
returns-then-not-may_queue c =
    let c1 = c in
    let a = c1.args in
    rw c.into.ensures (enqueue_state a.state.now a.q a.sent.now c1.requires.0 c1.requires.1 (sym c.may_queue.ensures ∙ c.if-not-may_queue.true))

pub returns-then-is_full : goal.returns-then-is_full
returns-then-is_full c =
    let c1 = c in
    let c2 = c1 in
    let a = c2.args in
    let takes = sym c1.may_queue.ensures ∙ c1.if-not-may_queue.false in
    rw c.into-then-is_full.ensures (enqueue_full a.state.now a.q a.sent.now c2.requires.0 c2.requires.1 takes (sym c.is_full.ensures ∙ c.if-is_full.true))

pub push_send-requires : goal.push_send-requires
push_send-requires c =
    let c1 = c in
    let c2 = c1 in
    let s = c2.requires.0 in
    let x = c2.args.sent.now in
    let room = queue_room s (sym c1.is_full.ensures ∙ c1.if-is_full.false) in
    record { q_lt_qp_count = (pair_below s, room); in_bounds = (least x c2.requires.1, most x c2.requires.1) }

pub returns : goal.returns
returns c =
    let c1 = c in
    let c2 = c1 in
    let c3 = c2 in
    let a = c3.args in
    let takes = sym c2.may_queue.ensures ∙ c2.if-not-may_queue.false in
    let room = sym c1.is_full.ensures ∙ c1.if-is_full.false in
    enqueue_done a.state.now a.q a.sent.now c3.requires.0 c3.requires.1 takes room _ c.push_send.ensures
