use Rattle.tables.specs.Records.{completion_codec}
use Rattle.tables.specs.Layout.{entry_t}
use Rattle.wire.specs.Table.{row_at, place}
use Rattle.tables.proofs.rows.load_entry.Goals as goal

pub returns : goal.returns
unfolding row_at entry_t place completion_codec
returns c = cc
