use Rattle.tables.proofs.CompletionQueue.pop.Goals as goal

pub returns : goal.returns
returns c = rw c.ring_place.ensures
