use Rattle.tables.specs.Layout.{memory_t, memory_codec}
use Rattle.wire.specs.Table.{put_row, place}
use Rattle.wire.specs.Codec.{put_fields}
use Rattle.tables.proofs.rows.store_memory.Goals as goal

pub returns : goal.returns
unfolding put_row memory_t memory_codec put_fields place
returns c = cc
