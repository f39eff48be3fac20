use mathlib.Core.Path.{◌∙◌}
use Rattle.delivery.proofs.RequestLaws.{Told}
use Rattle.delivery.proofs.EndLaws.{Ending, peer_below, head_below, ending}
use borrow.Author.Rules.{rules}
use Rattle.delivery.proofs.carry_out.Goals as goal

pub taken_receive-w-requires : goal.taken_receive-w-requires
taken_receive-w-requires c =
    let a = c.args in
    let r = a.r.now in
    let told : Told c.args.r.now.head c.args.r.now.inline.now = record { limits = c.requires.bounded; wr = search rules; imm = search rules } in (
      peer_below a.state.now a.memory.now a.e.q c.requires.ready.accepted r.head r.sges.now r.inline.now told c.requires.met.good a.e c.requires.met.rows,
      head_below a.state.now a.memory.now a.e.q c.requires.ready.accepted r.head r.sges.now r.inline.now told c.requires.met.good a.e c.requires.met.rows,
    )

pub deliver-st-requires-clause-ready : goal.deliver-st-requires-clause-ready
deliver-st-requires-clause-ready c =
    let a = c.args in
    let r = a.r.now in
    let told : Told c.args.r.now.head c.args.r.now.inline.now = record { limits = c.requires.bounded; wr = search rules; imm = search rules } in
    let ends : Ending a.state.now a.memory.now a.e.q r.head r.sges.now r.inline.now a.e c.taken_receive-w.result c.total-total.result =
    ending a.state.now a.memory.now a.e.q c.requires.ready.accepted r.head r.sges.now r.inline.now told c.requires.met.good a.e
    c.requires.met.rows _ c.total-total.ensures _ c.taken_receive-w.ensures in
    (c.requires.ready, ends.count)

pub settle-requires : goal.settle-requires
settle-requires c =
    let a = c.args in
    let r = a.r.now in
    let told : Told c.args.r.now.head c.args.r.now.inline.now = record { limits = c.requires.bounded; wr = search rules; imm = search rules } in
    let ends : Ending a.state.now a.memory.now a.e.q r.head r.sges.now r.inline.now a.e c.taken_receive-w.result c.total-total.result =
    ending a.state.now a.memory.now a.e.q c.requires.ready.accepted r.head r.sges.now r.inline.now told c.requires.met.good a.e
    c.requires.met.rows _ c.total-total.ensures _ c.taken_receive-w.ensures in
    ends.settling _ _ c.deliver-st.ensures

pub returns : goal.returns
returns c =
    let a = c.args in
    let r = a.r.now in
    let told : Told c.args.r.now.head c.args.r.now.inline.now = record { limits = c.requires.bounded; wr = search rules; imm = search rules } in
    let ends : Ending a.state.now a.memory.now a.e.q r.head r.sges.now r.inline.now a.e c.taken_receive-w.result c.total-total.result =
    ending a.state.now a.memory.now a.e.q c.requires.ready.accepted r.head r.sges.now r.inline.now told c.requires.met.good a.e
    c.requires.met.rows _ c.total-total.ensures _ c.taken_receive-w.ensures in
    let y = ends.carried _ _ c.deliver-st.ensures in
    record { status = y.status; bytes = c.settle.ensures ∙ y.bytes; memory = y.memory }
