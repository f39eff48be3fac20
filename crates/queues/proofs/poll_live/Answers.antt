use mathlib.Core.Path.{ap}
use native.Mathlib.Omega.{arith}
use Rattle.tables.specs.declared.QueueHead.{QueueHead}
use Rattle.queues.proofs.LiveLaws.{queue_below, queue_first}
use Rattle.queues.proofs.PollLaws.{poll_empty, poll_done}
use Rattle.queues.proofs.poll_live.Goals as goal

pub load_cq-h-requires : goal.load_cq-h-requires
load_cq-h-requires c =
    let s = c.requires.0 in
    let b = queue_below s in
    omega arith

pub returns-then-h-eq0 : goal.returns-then-h-eq0
returns-then-h-eq0 c =
    let c1 = c in
    let c2 = c1 in
    let a = c2.args in
    rw c.into.ensures (poll_empty a.state.now a.n a.buffer.now c2.requires.1 c2.requires.0 _ c1.load_cq-h.ensures c.if-h-eq0.true)

pub take_front-front-requires : goal.take_front-front-requires
take_front-front-requires c =
    let c1 = c in
    let s = c1.requires.0 in
    let k = ap (λ (h : QueueHead). h.count) c1.load_cq-h.ensures in
    (queue_below s, queue_first s, omega arith)

pub returns : goal.returns
returns c =
    let c1 = c in
    let c2 = c1 in
    let c3 = c2 in
    let c4 = c3 in
    let c5 = c4 in
    let a = c5.args in
    poll_done a.state.now a.n a.buffer.now c5.requires.1 c5.requires.0 _ c4.load_cq-h.ensures c3.if-h-eq0.false
    _ c2.take_front-front.ensures.0 _ _ c2.take_front-front.ensures.1 c1.put_completion.ensures
