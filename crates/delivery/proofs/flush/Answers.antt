use mathlib.Core.Path.{sym, ◌∙◌}
use Rattle.delivery.proofs.MeetLaws.{sender_queue, error_passes}
use Rattle.delivery.proofs.EndLaws.{flush_held, flush_needs, flush_done}
use borrow.Author.Rules.{rules}
use Rattle.delivery.proofs.flush.Goals as goal

pub has_place-requires : goal.has_place-requires
has_place-requires c =
    let b = c in
    let a = b.args in
    sender_queue a.state.now a.q a.s.opcode a.own b.requires.0

pub returns-then-not-has_place : goal.returns-then-not-has_place
returns-then-not-has_place c =
    let b = c in
    let a = b.args in
    flush_held a.state.now a.q a.own b.requires.0 a.s b.requires.1 (sym c.has_place.ensures ∙ c.if-not-has_place.true)

pub put_work-requires : goal.put_work-requires
put_work-requires c =
    let b = c in
    let a = b.args in
    flush_needs a.state.now a.q a.own b.requires.0 a.s b.requires.1 (search rules)
    (error_passes a.state.now a.q a.s.opcode a.own b.requires.0 b.requires.1
    (sym c.has_place.ensures ∙ c.if-not-has_place.false))

pub returns : goal.returns
returns c =
    let k = c in
    let b = c in
    let a = b.args in
    flush_done a.state.now a.q a.own b.requires.0 a.s b.requires.1 (search rules)
    (error_passes a.state.now a.q a.s.opcode a.own b.requires.0 b.requires.1
    (sym k.has_place.ensures ∙ k.if-not-has_place.false)) _ c.put_work.ensures
