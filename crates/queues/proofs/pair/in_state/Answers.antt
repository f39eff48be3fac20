use Rattle.queues.proofs.LiveLaws.{pair_below, pair_state}
use Rattle.queues.proofs.pair.in_state.Goals as goal

pub load_qp-requires : goal.load_qp-requires
load_qp-requires c = pair_below c.requires

pub returns : goal.returns
returns c = rw (pair_state c.requires, ← c.load_qp.ensures)
