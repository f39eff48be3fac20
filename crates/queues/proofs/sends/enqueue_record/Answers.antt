use mathlib.Core.Path.{sym, ◌∙◌}
use Rattle.queues.proofs.EnqueueLaws.{enqueue_dead}
use Rattle.queues.proofs.sends.enqueue_record.Goals as goal

pub returns-then-not-is_live : goal.returns-then-not-is_live
returns-then-not-is_live c =
    let c1 = c in
    let a = c1.args in
    rw c.into.ensures (enqueue_dead a.state.now a.qpn a.sent.now c1.requires.0 c1.requires.1 (sym c.is_live.ensures ∙ c.if-not-is_live.true))

pub enqueue_live-requires : goal.enqueue_live-requires
enqueue_live-requires c =
    let c1 = c in
    let p = c1.requires in
    (record { ok = p.0; live = sym c1.is_live.ensures ∙ c1.if-not-is_live.false }, p.1)
