use mathlib.Core.Path.{◌≡◌}
use lib.ListN.{length, drop}
use Rattle.tables.specs.State.{card}
use Rattle.rules.specs.Lists.{stored}
use Rattle.dma.specs.Moves.{places}
use Rattle.dma.proofs.MoveLaws.{Left}
use Rattle.dma.proofs.transfer.scatter.Given as goal

abbrev pub invariant-loop-s : goal.invariant-loop-s
invariant-loop-s l =
    Left (card l.state) l.sges l.s-index l.at
    × (length l.memory ≡ length l.initial.memory)
    × (stored l.memory (places (card l.state) (drop l.s-index l.sges)) (drop l.at l.staging) ≡ stored l.initial.memory (places (card l.state) l.sges) l.staging)
