use Rattle.tables.specs.Layout.{cq_t, queue_codec}
use Rattle.wire.specs.Table.{put_row, place}
use Rattle.wire.specs.Codec.{bytes_from}
use Rattle.tables.proofs.rows.store_cq.Goals as goal

pub returns : goal.returns
unfolding put_row cq_t queue_codec place bytes_from
returns c = cc
