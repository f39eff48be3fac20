-- The record that was copied out is the head of the queue (TurnLaws.head-of), and what is run is its request (TurnLaws.head-carried).
use mathlib.Core.Path.{ap, ◌∙◌}
use Rattle.tables.specs.declared.SendRecord.{SendRecord}
use Rattle.delivery.specs.Meet.{is_free}
use Rattle.engine.proofs.TurnLaws.{head_of_lem, head_free, head_bounded, head_carried}
use Rattle.engine.proofs.turn.run_head.Goals as goal

pub first_send-s-requires-clause-q_lt_qp_count : goal.first_send-s-requires-clause-q_lt_qp_count
first_send-s-requires-clause-q_lt_qp_count c =
    let h = head_of_lem c.args.state.now c.requires.0.accepted c.args.q c.requires.1 in
    (h.below, h.first)

pub new-r-requires : goal.new-r-requires
new-r-requires c =
    let l = c.args.state.now in
    let h = head_of_lem l c.requires.0.accepted c.args.q c.requires.1 in
    let f = c.first_send-s.ensures in
    let b = head_bounded l c.args.q h _ f.0 _ f.1 _ c.inline_of.ensures in
    record { few = b.plain; short = b.short }

pub finish-requires : goal.finish-requires
finish-requires c =
    let l = c.args.state.now in
    let h = head_of_lem l c.requires.0.accepted c.args.q c.requires.1 in
    let f = c.first_send-s.ensures in
    let b = head_bounded l c.args.q h _ f.0 _ f.1 _ c.inline_of.ensures in (
      c.requires.0,
      h.live,
      ap (λ (s : SendRecord). is_free l c.args.q s.opcode) c.new-r.ensures.same_head ∙ head_free l c.args.q h _ f.0 _ f.1 _ c.inline_of.ensures,
      record { plain = c.new-r.result.few; short = c.new-r.result.short; there = rw c.new-r.ensures.same_head b.there },
    )

pub returns : goal.returns
returns c =
    let l = c.args.state.now in
    let h = head_of_lem l c.requires.0.accepted c.args.q c.requires.1 in
    let f = c.first_send-s.ensures in
    head_carried l c.args.q h _ f.0 _ f.1 _ c.inline_of.ensures _ c.send_sges-sges.ensures c.args.memory.now _ _ _
    (rw c.new-r.ensures.asks at c.finish.ensures)
