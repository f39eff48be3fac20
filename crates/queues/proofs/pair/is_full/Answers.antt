use Rattle.queues.proofs.LiveLaws.{pair_below, length_head}
use Rattle.queues.proofs.pair.is_full.Goals as goal

pub load_head-requires : goal.load_head-requires
load_head-requires c = pair_below c.requires

pub returns : goal.returns
returns c = rw (c.places.ensures, c.load_head.ensures) (length_head c.requires c.args.queue)
