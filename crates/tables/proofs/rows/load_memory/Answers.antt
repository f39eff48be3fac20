use Rattle.tables.specs.Layout.{memory_t, memory_codec}
use Rattle.wire.specs.Table.{row_at, place}
use Rattle.wire.specs.Codec.{fields_at}
use Rattle.tables.proofs.rows.load_memory.Goals as goal

pub returns : goal.returns
unfolding row_at memory_t memory_codec fields_at place
returns c = cc
