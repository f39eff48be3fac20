use mathlib.Core.Path.{◌≡◌, sym, ap, ◌∙◌}
use mathlib.Core.Bool.{true, false}
use native.Mathlib.Omega.{arith}
use lib.Dec.{leb}
use borrow.Author.Tests.{le-leb, lt-leb}
use Rattle.tables.specs.Records.{receive_sges}
use Rattle.rules.specs.Touch.{fills, sge_total, cut}
use Rattle.delivery.proofs.SettleLaws.{receive_list}
use Rattle.delivery.proofs.StatusLaws.{too_much}
use Rattle.delivery.proofs.deliver.deliver_far.Goals as goal

pub returns-then-sges_total-n : goal.returns-then-sges_total-n
returns-then-sges_total-n c =
    let a = c.args in
    let r = a.r.now in
    let e : fills c.args.r.now.head.opcode ≡ true = sym c.fills_receive.ensures ∙ c.if-fills_receive.true in
    let t : c.sges_total.result ≡ sge_total (receive_sges c.args.w) = c.sges_total.ensures ∙ ap sge_total (receive_list c.args.w) in
    let f : leb c.args.n (sge_total (receive_sges c.args.w)) ≡ false = lt-leb c.args.n (sge_total (receive_sges c.args.w)) (let h = c.if-sges_total-n.true in omega arith) in
    too_much a.state.now a.memory.now a.e r.head r.sges.now r.inline.now a.w a.n c.requires.side (rw (e, f))

pub deliver_to-requires-clause-fits : goal.deliver_to-requires-clause-fits
deliver_to-requires-clause-fits c =
    let e : fills c.args.r.now.head.opcode ≡ true = sym c.fills_receive.ensures ∙ c.if-fills_receive.true in
    let t : c.sges_total.result ≡ sge_total (receive_sges c.args.w) = c.sges_total.ensures ∙ ap sge_total (receive_list c.args.w) in
    let f : leb c.args.n (sge_total (receive_sges c.args.w)) ≡ true = le-leb c.args.n (sge_total (receive_sges c.args.w)) (let h = c.if-sges_total-n.false in omega arith) in
    rw (e, f)

pub deliver_to-requires-clause-list : goal.deliver_to-requires-clause-list
deliver_to-requires-clause-list c =
    let e : fills c.args.r.now.head.opcode ≡ true = sym c.fills_receive.ensures ∙ c.if-fills_receive.true in
    rw e (c.cut_to.ensures ∙ ap (cut c.args.n) (receive_list c.args.w))
