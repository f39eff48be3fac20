use Rattle.engine.proofs.DirectLaws.{error_queue, error_on}
use Rattle.engine.proofs.send.direct_error.Goals as goal

pub returns-then-is_queued : goal.returns-then-is_queued
returns-then-is_queued c =
    let b = c in
    rw c.into.ensures (error_queue b.args.state.now b.args.q b.args.own b.requires.0 b.requires.1 b.args.s _ c.is_queued.ensures c.if-is_queued.true)

pub returns : goal.returns
returns c =
    let k = c in
    let b = c in
    error_on b.args.state.now b.args.q b.args.own b.requires.0 b.requires.1 b.args.s _ k.is_queued.ensures k.if-is_queued.false _ _
    c.flush.ensures
