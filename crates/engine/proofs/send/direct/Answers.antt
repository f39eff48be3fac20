use mathlib.Core.Path.{sym, ◌∙◌}
use Rattle.tables.specs.Records.{Request}
use Rattle.delivery.specs.Meet.{Sender}
use Rattle.delivery.specs.Asked.{asked}
use Rattle.engine.proofs.DirectLaws.{no_pair, not_live, not_ready, sends, has_queue, run_on}
use Rattle.engine.proofs.send.direct.Goals as goal

pub returns-then-q-ge-QP_COUNT : goal.returns-then-q-ge-QP_COUNT
returns-then-q-ge-QP_COUNT c =
    let r : Request = asked c.args.r.now in
    let b = c in
    rw c.into.ensures (no_pair b.args.state.now b.args.qpn r b.args.memory.now c.if-q-ge-QP_COUNT.true)

pub returns-then-not-is_live : goal.returns-then-not-is_live
returns-then-not-is_live c =
    let r : Request = asked c.args.r.now in
    let b = c in
    rw c.into-then-not-is_live.ensures
    (not_live b.args.state.now b.args.qpn r b.args.memory.now c.if-q-ge-QP_COUNT.false (sym c.is_live.ensures ∙ c.if-not-is_live.true))

pub returns-then-own-eq-ERROR : goal.returns-then-own-eq-ERROR
returns-then-own-eq-ERROR c =
    let b = c in
    c.direct_error.ensures b.args.r.now.sges.now b.args.r.now.inline.now b.args.memory.now

pub returns-then-own-ne-RTS : goal.returns-then-own-ne-RTS
returns-then-own-ne-RTS c =
    let r : Request = asked c.args.r.now in
    let its : let a = c.args in Sender a.state.now a.qpn c.load_qp-own.result = record {
      accepted = c.requires.0.accepted;
      size = c.requires.0.size;
      below = c.if-q-ge-QP_COUNT.false;
      live = sym c.is_live.ensures ∙ c.if-not-is_live.false;
      row = c.load_qp-own.ensures;
    } in
    let k = c in
    let b = k in
    let y = its in
    rw c.into-then-own-ne-RTS.ensures
    (not_ready b.args.state.now b.args.qpn r b.args.memory.now y.below y.live _ y.row c.if-own-eq-ERROR.false c.if-own-ne-RTS.true)

pub returns-then-is_queued : goal.returns-then-is_queued
returns-then-is_queued c =
    let r : Request = asked c.args.r.now in
    let its : let a = c.args in Sender a.state.now a.qpn c.load_qp-own.result = record {
      accepted = c.requires.0.accepted;
      size = c.requires.0.size;
      below = c.if-q-ge-QP_COUNT.false;
      live = sym c.is_live.ensures ∙ c.if-not-is_live.false;
      row = c.load_qp-own.ensures;
    } in
    let k = c in
    let b = k in
    let y = its in
    rw c.into-then-is_queued.ensures
    (has_queue b.args.state.now b.args.qpn r b.args.memory.now y.below y.live _ y.row
    (sends b.args.state.now b.args.qpn r b.args.memory.now y.below y.live _ y.row c.if-own-ne-RTS.false) _
    c.is_queued.ensures c.if-is_queued.true)

pub returns : goal.returns
returns c =
    let r : Request = asked c.args.r.now in
    let its : let a = c.args in Sender a.state.now a.qpn c.load_qp-own.result = record {
      accepted = c.requires.0.accepted;
      size = c.requires.0.size;
      below = c.if-q-ge-QP_COUNT.false;
      live = sym c.is_live.ensures ∙ c.if-not-is_live.false;
      row = c.load_qp-own.ensures;
    } in
    let k = c in
    let b = k in
    let e = c in
    let y = its in
    run_on b.args.state.now b.args.qpn r b.args.memory.now y.below y.live _ y.row
    (sends b.args.state.now b.args.qpn r b.args.memory.now y.below y.live _ y.row c.if-own-ne-RTS.false) _
    e.is_queued.ensures e.if-is_queued.false _ _ _ c.run.ensures
