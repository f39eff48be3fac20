use mathlib.Core.Path.{sym, ◌∙◌}
use Rattle.queues.proofs.ReceiveLaws.{receive_dead}
use Rattle.queues.proofs.post_record.Goals as goal

pub returns-then-not-is_live : goal.returns-then-not-is_live
returns-then-not-is_live c =
    let c1 = c in
    let a = c1.args in
    λ x e. rw c.into.ensures (receive_dead a.state.now a.qpn x a.w e c1.requires (sym c.is_live.ensures ∙ c.if-not-is_live.true))

pub post_live-requires : goal.post_live-requires
post_live-requires c =
    let c1 = c in
    record { ok = c1.requires; live = sym c1.is_live.ensures ∙ c1.if-not-is_live.false }
