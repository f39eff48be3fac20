use Rattle.tables.proofs.ObjectLaws.{qp_below}
use Rattle.delivery.specs.Meet.{Sender}
use Rattle.delivery.proofs.MeetLaws.{sender}
use Rattle.delivery.proofs.EndLaws.{free_passes, flush_needs, flush_leaves, dest_below, met_rows}
use borrow.Author.Rules.{rules}
use Rattle.delivery.proofs.finish.Goals as goal

pub load_qp-own-requires : goal.load_qp-own-requires
load_qp-own-requires c = qp_below c.args.state.now c.args.q c.requires.1

pub put_work-requires : goal.put_work-requires
put_work-requires c =
    let a = c.args in
    let its : Sender a.state.now a.q c.load_qp-own.result = sender a.state.now c.requires.0.accepted c.requires.0.size a.q c.requires.1 _ c.load_qp-own.ensures in
    flush_needs a.state.now a.q _ its a.r.now.head c.if-own-eq-ERROR.true (search rules) (free_passes a.state.now a.q a.r.now.head.opcode c.requires.2)

pub returns-then-own-eq-ERROR : goal.returns-then-own-eq-ERROR
returns-then-own-eq-ERROR c =
    let a = c.args in
    let its : Sender a.state.now a.q c.load_qp-own.result = sender a.state.now c.requires.0.accepted c.requires.0.size a.q c.requires.1 _ c.load_qp-own.ensures in
    flush_leaves a.state.now a.q _ its a.r.now.head c.if-own-eq-ERROR.true (search rules) (free_passes a.state.now a.q a.r.now.head.opcode c.requires.2) _
    c.put_work.ensures a.r.now.sges.now a.r.now.inline.now a.memory.now

pub load_qp-far-requires : goal.load_qp-far-requires
load_qp-far-requires c =
    let a = c.args in
    let its : Sender a.state.now a.q c.load_qp-own.result = sender a.state.now c.requires.0.accepted c.requires.0.size a.q c.requires.1 _ c.load_qp-own.ensures in
    dest_below a.state.now a.q _ its a.r.now.head c.if-own-eq-ERROR.false (free_passes a.state.now a.q a.r.now.head.opcode c.requires.2)

pub carry_out-requires-clause-met : goal.carry_out-requires-clause-met
carry_out-requires-clause-met c =
    let a = c.args in
    let its : Sender a.state.now a.q c.load_qp-own.result = sender a.state.now c.requires.0.accepted c.requires.0.size a.q c.requires.1 _ c.load_qp-own.ensures in
    met_rows a.state.now a.q _ its a.r.now.head c.if-own-eq-ERROR.false (free_passes a.state.now a.q a.r.now.head.opcode c.requires.2) _ c.load_qp-far.ensures
