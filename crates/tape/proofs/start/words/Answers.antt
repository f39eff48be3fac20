-- The count is that of the words that were there, up to the first that was not.
use Rattle.tape.specs.System.{Event, by_call}
use Rattle.tape.proofs.start.words.Goals as goal

pub returns-in-Err-NotPresent : goal.returns-in-Err-NotPresent
returns-in-Err-NotPresent g c = by_call (Event.words _)

pub returns : goal.returns
returns g c = by_call (Event.words _)
