use Rattle.tables.specs.Layout.{turn_t, flag_codec}
use Rattle.wire.specs.Table.{put_row, place}
use Rattle.wire.specs.Codec.{put_fields}
use Rattle.tables.proofs.rows.store_turn.Goals as goal

pub returns : goal.returns
unfolding put_row turn_t flag_codec put_fields place
returns c = cc
