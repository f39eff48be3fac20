use mathlib.Core.Path.{◌≡◌}
use lib.ListN.{length, take, drop}
use Rattle.tables.specs.State.{card}
use mathlib.Core.List.{◌++◌}
use Rattle.dma.specs.Moves.{places, read_bytes}
use Rattle.dma.proofs.MoveLaws.{Left}
use Rattle.dma.proofs.transfer.gather.Given as goal

abbrev pub invariant-loop-s : goal.invariant-loop-s
invariant-loop-s l =
    Left (card l.state) l.sges l.s-index l.at
    × (length l.staging ≡ length l.initial.staging)
    × (take l.at l.staging ++ read_bytes l.memory (places (card l.state) (drop l.s-index l.sges)) ≡ read_bytes l.memory (places (card l.state) l.sges))
