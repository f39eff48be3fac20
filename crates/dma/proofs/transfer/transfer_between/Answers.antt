use native.Mathlib.Omega.{arith}
use Rattle.tables.specs.State.{card}
use Rattle.dma.proofs.SgeLaws.{one_total}
use Rattle.dma.proofs.MoveLaws.{both_lie, room, between}
use Rattle.dma.proofs.transfer.transfer_between.Goals as goal

pub run_of-requires : goal.run_of-requires
run_of-requires c =
    record { ready = c.requires.ready; s_value = (c.requires.message.sources, omega (arith, c.requires.message.most, one_total c.args.a)) }

pub run_of-requires-2 : goal.run_of-requires-2
run_of-requires-2 c =
    record { ready = c.requires.ready; s_value = (c.requires.message.targets, omega (arith, c.requires.message.most, c.requires.message.total, one_total c.args.b)) }

pub deliver_one-requires : goal.deliver_one-requires
deliver_one-requires c =
    let m = c.requires.message in
    let l = both_lie _ _ c.args.a c.args.b _ _ c.run_of.ensures c.run_of-2.ensures c.if-run_of-a.true in
    let x = room (card c.args.state.now) c.args.memory.now c.args.a l.0 _ c.place_of-x.ensures in
    let y = room (card c.args.state.now) c.args.memory.now c.args.b l.1 _ c.place_of-y.ensures in
    let p = one_total c.args.a in
    let q = one_total c.args.b in
    (omega (arith, m.most), omega (arith, m.total), x)

pub deliver_one-requires-else-back : goal.deliver_one-requires-else-back
deliver_one-requires-else-back c =
    let m = c.requires.message in
    let l = both_lie _ _ c.args.a c.args.b _ _ c.run_of.ensures c.run_of-2.ensures c.if-run_of-a.true in
    let x = room (card c.args.state.now) c.args.memory.now c.args.a l.0 _ c.place_of-x.ensures in
    let y = room (card c.args.state.now) c.args.memory.now c.args.b l.1 _ c.place_of-y.ensures in
    let p = one_total c.args.a in
    let q = one_total c.args.b in
    (omega (arith, m.most), x, omega (arith, m.total))

pub returns-then-back : goal.returns-then-back
returns-then-back c =
    let l = both_lie _ _ c.args.a c.args.b _ _ c.run_of.ensures c.run_of-2.ensures c.if-run_of-a.true in
    between (card c.args.state.now) c.args.memory.now _ c.args.a c.args.b c.place_of-x.result c.place_of-y.result c.args.back l.0 l.1
    c.place_of-x.ensures c.place_of-y.ensures c.requires.message.total (rw c.if-back.true c.deliver_one.ensures)

pub returns-else-back : goal.returns-else-back
returns-else-back c =
    let l = both_lie _ _ c.args.a c.args.b _ _ c.run_of.ensures c.run_of-2.ensures c.if-run_of-a.true in
    between (card c.args.state.now) c.args.memory.now _ c.args.a c.args.b c.place_of-x.result c.place_of-y.result c.args.back l.0 l.1
    c.place_of-x.ensures c.place_of-y.ensures c.requires.message.total (rw c.if-back.false c.deliver_one-else-back.ensures)
