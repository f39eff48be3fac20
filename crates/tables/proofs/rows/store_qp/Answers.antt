use Rattle.tables.specs.Layout.{qp_t, pair_codec}
use Rattle.wire.specs.Table.{put_row, place}
use Rattle.wire.specs.Codec.{bytes_from}
use Rattle.tables.proofs.rows.store_qp.Goals as goal

pub returns : goal.returns
unfolding put_row qp_t pair_codec place bytes_from
returns c = cc
