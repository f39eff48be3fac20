use Rattle.queues.proofs.LiveLaws.{pair_below, pair_first}
use Rattle.queues.proofs.FlushLaws.{flush_waits, flush_bytes_lem}
use Rattle.queues.proofs.pair.complete_oldest.Goals as goal

pub oldest_receive-w-requires : goal.oldest_receive-w-requires
oldest_receive-w-requires c = let s = c.requires.placed.pair in (pair_below s, pair_first s)

pub drop_oldest-requires : goal.drop_oldest-requires
drop_oldest-requires c =
    let c1 = c in
    let c2 = c1 in
    let f = c2.requires in
    rw (c1.put_flushed.ensures, c2.oldest_receive-w.ensures) (pair_below f.placed.pair, flush_waits f)

pub returns : goal.returns
returns c =
    let c1 = c in
    let c2 = c1 in
    let c3 = c2 in
    rw (c1.drop_oldest.ensures, c2.put_flushed.ensures, c3.oldest_receive-w.ensures) (flush_bytes_lem c3.requires)
