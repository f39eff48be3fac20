use Rattle.tables.proofs.CompletionQueue.push.Goals as goal

pub returns : goal.returns
returns c = rw c.ring_place-at.ensures
