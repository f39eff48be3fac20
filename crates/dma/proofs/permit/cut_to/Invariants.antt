use mathlib.Core.Path.{◌≡◌}
use mathlib.Core.List.{◌++◌}
use lib.ListN.{take, drop}
use Rattle.rules.specs.Touch.{cut}
use Rattle.dma.proofs.permit.cut_to.Given as goal

abbrev pub invariant-loop-s : goal.invariant-loop-s
invariant-loop-s l = take l.s-index l.sges ++ cut l.left (drop l.s-index l.sges) ≡ cut l.n l.initial.sges
