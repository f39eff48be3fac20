use Rattle.tables.specs.Records.{completion_codec}
use Rattle.tables.specs.Layout.{entry_t}
use Rattle.wire.specs.Table.{put_row, place}
use Rattle.tables.proofs.rows.store_entry.Goals as goal

pub returns : goal.returns
unfolding put_row entry_t place completion_codec
returns c = cc
