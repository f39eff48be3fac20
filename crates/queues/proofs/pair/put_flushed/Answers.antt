use Rattle.queues.proofs.LiveLaws.{pair_below, pair_queues}
use Rattle.queues.proofs.PutLaws.{put_free, put_bytes_lem}
use native.Mathlib.Omega.{arith}
use Rattle.queues.proofs.pair.put_flushed.Goals as goal

pub load_qp-p-requires : goal.load_qp-p-requires
load_qp-p-requires c = let s = c.requires.pair in pair_below s

pub overflow_cast-e : goal.overflow_cast-e
overflow_cast-e c = let b = pair_below c.requires.pair in omega arith

pub push_completion-requires : goal.push_completion-requires
push_completion-requires c =
    let c1 = c in
    let f = c1.requires in
    rw c1.load_qp-p.ensures ((pair_queues f.pair).1, put_free f)

pub returns : goal.returns
returns c =
    let c1 = c in
    let c2 = c1 in
    let c3 = c2 in
    rw (c1.push_completion.ensures, c2.load_qp-p.ensures) (put_bytes_lem c3.requires c3.args.wr)
