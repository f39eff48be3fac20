use Rattle.queues.proofs.LiveLaws.{pair_below, waiting_none}
use Rattle.queues.proofs.pair.none_waiting.Goals as goal

pub load_head-requires : goal.load_head-requires
load_head-requires c = pair_below c.requires

pub returns : goal.returns
returns c = rw (waiting_none c.requires, ← c.load_head.ensures)
