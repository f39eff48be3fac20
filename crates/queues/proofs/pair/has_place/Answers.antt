use native.Mathlib.Omega.{arith}
use Rattle.queues.proofs.LiveLaws.{pair_below, pair_queues, rcq_room}
use Rattle.queues.proofs.pair.has_place.Goals as goal

pub load_qp-p-requires : goal.load_qp-p-requires
load_qp-p-requires c = let s = c.requires in pair_below s

pub load_cq-u-requires : goal.load_cq-u-requires
load_cq-u-requires c =
    let c1 = c in
    let s = c1.requires in
    let b = pair_queues s in
    rw c1.load_qp-p.ensures (omega arith)

pub returns : goal.returns
returns c =
    let c1 = c in
    rcq_room c1.requires _ c1.load_qp-p.ensures _ c.load_cq-u.ensures
