-- The event is the call's own.
use Rattle.std.specs.Prelude.{Err}
use Rattle.tape.specs.System.{Event, by_call}
use Rattle.tape.proofs.InputLaws.{gives}
use Rattle.tape.proofs.input.read_once.Goals as goal

pub returns-in-Named-clause-gives : goal.returns-in-Named-clause-gives
returns-in-Named-clause-gives c = gives _ _ c.read.result (by_call (Event.read _ _ _))

pub returns-in-Standard-clause-gives : goal.returns-in-Standard-clause-gives
returns-in-Standard-clause-gives c = gives _ _ c.read-in-Standard.result (by_call (Event.read _ _ _))

pub returns-in-Missing-clause-gives : goal.returns-in-Missing-clause-gives
returns-in-Missing-clause-gives c = gives _ _ (Err c.from.result) (by_call (Event.read _ _ _))
