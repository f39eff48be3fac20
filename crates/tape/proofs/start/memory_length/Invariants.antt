use mathlib.Core.Path.{◌≡◌}
use Prim.Native.Nat.{◌≤◌}
use lib.ListN.{drop}
use Rattle.tape.specs.Length.{most_length, value_of, length_of}
use Rattle.tape.proofs.start.memory_length.Given as goal

abbrev pub invariant-loop-byte : goal.invariant-loop-byte
invariant-loop-byte l = (l.value ≤ most_length) × (length_of l.text ≡ value_of l.value (drop l.byte-index l.text))
