-- The word and the descriptor are what the two calls gave.
use lib.ListN.{take}
use Rattle.tape.specs.System.{Event, by_call}
use Rattle.tape.proofs.input.open.Goals as goal

pub returns-in_default : goal.returns-in_default
returns-in_default g c = (take c.unwrap_or-n.result c.arg.new.buf, by_call (Event.word _ _ _), by_call (Event.opened _ _))

pub returns-in-Ok-open : goal.returns-in-Ok-open
returns-in-Ok-open g c = (take c.unwrap_or-n.result c.arg.new.buf, by_call (Event.word _ _ _), by_call (Event.opened _ _))

pub returns-in-Err : goal.returns-in-Err
returns-in-Err g c = (take c.unwrap_or-n.result c.arg.new.buf, by_call (Event.word _ _ _), by_call (Event.opened _ _))
