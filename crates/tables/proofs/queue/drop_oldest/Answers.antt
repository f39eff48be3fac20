use Rattle.tables.proofs.FlagLaws.{head_dropped}
use Rattle.tables.proofs.queue.drop_oldest.Goals as goal

pub returns : goal.returns
returns c = rw (c.store_head.ensures, c.ring_place.ensures, c.places.ensures, c.load_head-h.ensures) (head_dropped c.args.queue c.args.state.now c.args.q)
