use Rattle.tape.specs.Inside.{Lies}
use Rattle.replay.proofs.run.Given as goal

abbrev pub invariant-loop : goal.invariant-loop
invariant-loop g l = Lies l.held l.window
