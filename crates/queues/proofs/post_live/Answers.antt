use mathlib.Core.Path.{sym, ◌∙◌}
use Rattle.queues.proofs.LiveLaws.{pair_below, receive_room}
use Rattle.queues.proofs.ReceiveLaws.{receive_state, receive_full, receive_done}
use Rattle.queues.proofs.post_live.Goals as goal

pub returns-then-in_state : goal.returns-then-in_state
returns-then-in_state c =
    let c1 = c in
    let a = c1.args in
    λ x e. rw c.into.ensures (receive_state a.state.now a.q x a.w e c1.requires (sym c.in_state.ensures ∙ c.if-in_state.true))

pub flush_new-requires : goal.flush_new-requires
flush_new-requires c =
    let c1 = c in
    record { pair = c1.requires; now = sym c1.flushes_at_once.ensures ∙ c1.if-flushes_at_once.true }

pub returns-then-flushes_at_once : goal.returns-then-flushes_at_once
returns-then-flushes_at_once c = c.flush_new.ensures

pub returns-then-is_full : goal.returns-then-is_full
returns-then-is_full c =
    let c1 = c in
    let c2 = c1 in
    let c3 = c2 in
    let a = c3.args in
    let takes = sym c2.in_state.ensures ∙ c2.if-in_state.false in
    let later = sym c1.flushes_at_once.ensures ∙ c1.if-flushes_at_once.false in
    λ x e. rw c.into-then-is_full.ensures (receive_full a.state.now a.q x a.w e c3.requires takes later (sym c.is_full.ensures ∙ c.if-is_full.true))

pub post_receive-requires : goal.post_receive-requires
post_receive-requires c =
    let c1 = c in
    let s = c1.requires in
    (pair_below s, receive_room s (sym c1.is_full.ensures ∙ c1.if-is_full.false))

pub returns : goal.returns
returns c =
    let c1 = c in
    let c2 = c1 in
    let c3 = c2 in
    let c4 = c3 in
    let a = c4.args in
    let takes = sym c3.in_state.ensures ∙ c3.if-in_state.false in
    let later = sym c2.flushes_at_once.ensures ∙ c2.if-flushes_at_once.false in
    let room = sym c1.is_full.ensures ∙ c1.if-is_full.false in
    λ x e. receive_done a.state.now a.q x a.w e c4.requires takes later room _ c.post_receive.ensures
