-- The state that a reset leaves: every byte 0, then the memory length. Assumes nothing.
use Rattle.std.specs.Prelude.{List, ℕ, replicate}
use Rattle.wire.specs.Table.{put_row}
use Rattle.tables.specs.Layout.{state_size, memory_t}

abbrev pub zeros : ℕ → List ℕ
zeros n = replicate n 0

unfoldable pub reset_bytes : ℕ → List ℕ
reset_bytes memory = put_row memory_t (zeros state_size) 0 memory
