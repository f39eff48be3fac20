-- What the tests of a send record have shown of its head s and its inline bytes b. Assumes nothing.
use Rattle.std.specs.Prelude.{◌≡◌, true, false, List, ℕ, ◌≤◌, length}
use Rattle.tables.specs.Limits.{most_sges, most_inline}
use Rattle.tables.specs.Records.{is_inline}
use Rattle.tables.specs.declared.SendRecord.{SendRecord}
use Rattle.rules.specs.Touch.{reads}

-- "inline with opcode 4, inline length over 512, or count over 4 gives 4"
pub record Bounded (s : SendRecord) (b : List ℕ) : Type 0 where
  pub plain : is_inline s ≡ false → s.count ≤ most_sges
  pub short : is_inline s ≡ true → length b ≤ most_inline
  pub there : is_inline s ≡ true → reads s.opcode ≡ false
