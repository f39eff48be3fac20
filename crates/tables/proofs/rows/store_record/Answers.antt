use Rattle.tables.specs.Layout.{record_p}
use Rattle.wire.specs.Parts.{put_part, part_place}
use Rattle.tables.proofs.rows.store_record.Goals as goal

pub returns : goal.returns
unfolding record_p put_part part_place
returns c = c.copy_bytes.ensures
