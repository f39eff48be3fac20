-- The record, and then its row of the column.
use Rattle.tables.proofs.sends.put_place.Goals as goal

pub returns : goal.returns
returns c = cc
