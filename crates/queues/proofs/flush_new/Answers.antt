use mathlib.Core.Path.{sym, ◌∙◌}
use Rattle.queues.proofs.ReceiveLaws.{receive_held, receive_flushed}
use Rattle.queues.proofs.flush_new.Goals as goal

pub returns-then-not-has_place : goal.returns-then-not-has_place
returns-then-not-has_place c =
    let c1 = c in
    let a = c1.args in
    λ x e. receive_held a.state.now a.q x a.w e c1.requires.pair c1.requires.now (sym c.has_place.ensures ∙ c.if-not-has_place.true)

pub put_flushed-requires : goal.put_flushed-requires
put_flushed-requires c =
    let c1 = c in
    record { pair = c1.requires.pair; place = sym c1.has_place.ensures ∙ c1.if-not-has_place.false }

pub returns : goal.returns
returns c =
    let c1 = c in
    let c2 = c1 in
    let a = c2.args in
    let place = sym c1.has_place.ensures ∙ c1.if-not-has_place.false in
    λ x e. receive_flushed a.state.now a.q x a.w e c2.requires.pair c2.requires.now place _ c.put_flushed.ensures
