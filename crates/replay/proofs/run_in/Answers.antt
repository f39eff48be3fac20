use native.Mathlib.Omega.{arith}
use lib.ListN.{length-take}
use Rattle.replay.proofs.run_in.Goals as goal

pub slice_bounds-run-end-2 : goal.slice_bounds-run-end-2
slice_bounds-run-end-2 g c = simp length-take (omega arith)
