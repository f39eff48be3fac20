use native.Mathlib.Omega.{arith}
use Rattle.tables.specs.State.{card}
use Rattle.dma.proofs.SgeLaws.{one_total}
use Rattle.dma.proofs.MoveLaws.{both_lie, room, moved_one}
use Rattle.dma.proofs.transfer.transfer_single.Goals as goal

pub run_of-requires : goal.run_of-requires
run_of-requires c =
    record { ready = c.requires.ready; s_value = (c.requires.message.sources, omega (arith, c.requires.message.most, one_total c.args.from)) }

pub run_of-requires-2 : goal.run_of-requires-2
run_of-requires-2 c =
    record { ready = c.requires.ready; s_value = (c.requires.message.targets, omega (arith, c.requires.message.most, c.requires.message.total, one_total c.args.to)) }

pub deliver_one-requires : goal.deliver_one-requires
deliver_one-requires c =
    let m = c.requires.message in
    let l = both_lie _ _ c.args.from c.args.to _ _ c.run_of.ensures c.run_of-2.ensures c.if-run_of-from.true in
    let x = room (card c.args.state.now) c.args.memory.now c.args.from l.0 _ c.place_of-a.ensures in
    let y = room (card c.args.state.now) c.args.memory.now c.args.to l.1 _ c.place_of-b.ensures in
    let p = one_total c.args.from in
    let q = one_total c.args.to in
    (omega (arith, m.most), x, omega (arith, m.total))

pub returns-then-run_of-from : goal.returns-then-run_of-from
returns-then-run_of-from c =
    let l = both_lie _ _ c.args.from c.args.to _ _ c.run_of.ensures c.run_of-2.ensures c.if-run_of-from.true in
    moved_one (card c.args.state.now) c.args.memory.now _ c.args.from c.args.to c.place_of-a.result c.place_of-b.result l.0 l.1
    c.place_of-a.ensures c.place_of-b.ensures c.requires.message.total c.deliver_one.ensures
