use mathlib.Core.Path.{refl, sym}
use Prim.Native.Nat.{ℕ}
use lib.ListN.{length-replicate}
use Rattle.tape.proofs.start.memory.Goals as goal

pub returns : goal.returns
returns c = record { value = sym (length-replicate {A = ℕ} 1048576 0); value_2 = refl }
