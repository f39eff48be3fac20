-- Each test of the code by its law of TurnLaws: a queue pair that is not live, an empty queue, and the tests that hold the head.
use mathlib.Core.Path.{◌≡◌, sym, ap, ◌∙◌}
use mathlib.Core.Logic.{◌≢◌}
use mathlib.Core.Bool.{true}
use borrow.Author.Tests.{eqb-true}
use Rattle.wire.specs.Table.{row_at}
use Rattle.tables.specs.Layout.{qp_flag_t, send_head_t}
use Rattle.tables.specs.State.{is_live}
use Rattle.tables.specs.declared.WaitingHead.{WaitingHead}
use Rattle.tables.proofs.ObjectLaws.{qp_live}
use Rattle.validate.proofs.AcceptedLaws.{accepted}
use Rattle.validate.proofs.SendLaws.{queue_first}
use Rattle.engine.proofs.TurnLaws.{dead, nothing_queued, runs_by}
use Rattle.engine.proofs.turn.can_run.Goals as goal

pub is_live-requires : goal.is_live-requires
is_live-requires c = c.requires.1

pub returns-then-not-is_live : goal.returns-then-not-is_live
returns-then-not-is_live c =
    let b = c in
    sym (dead b.args.state.now b.requires.0 b.args.q b.requires.1 (sym c.is_live.ensures ∙ c.if-not-is_live.true))

pub load_head-h-requires : goal.load_head-h-requires
load_head-h-requires c = c.requires.1

pub returns-then-h-eq0 : goal.returns-then-h-eq0
returns-then-h-eq0 c =
    let b = c in
    let live = sym c.is_live.ensures ∙ c.if-not-is_live.false in
    let none = ap (λ (x : WaitingHead). x.count) (sym c.load_head-h.ensures) ∙ c.if-h-eq0.true in
    sym (nothing_queued b.args.state.now b.requires.0 b.args.q b.requires.1 live none)

pub first_opcode-opcode-requires : goal.first_opcode-opcode-requires
first_opcode-opcode-requires c =
    let b = c in
    let live = sym c.is_live.ensures ∙ c.if-not-is_live.false in
    let ok = accepted b.args.state.now b.requires.0 in
    (b.requires.1, queue_first b.args.state.now ok b.args.q b.requires.1 (eqb-true _ 1 live))

pub is_free-requires : goal.is_free-requires
is_free-requires c =
    let b = c in
    let live : is_live (row_at qp_flag_t b.args.state.now b.args.q) ≡ true = sym c.is_live.ensures ∙ c.if-not-is_live.false in
    (b.requires.0, qp_live b.args.state.now b.args.q b.requires.1 ∙ live)

pub returns : goal.returns
returns c =
    let b = c in
    let live = sym c.is_live.ensures ∙ c.if-not-is_live.false in
    let some-queued : (row_at send_head_t b.args.state.now b.args.q).count ≢ 0 = (λ z. c.if-h-eq0.false (ap (λ (x : WaitingHead). x.count) c.load_head-h.ensures ∙ z)) in
    c.is_free.ensures
    ∙ sym (runs_by b.args.state.now b.requires.0 b.args.q b.requires.1 live some-queued _ c.first_opcode-opcode.ensures)
