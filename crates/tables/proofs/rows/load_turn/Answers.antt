use Rattle.tables.specs.Layout.{turn_t, flag_codec}
use Rattle.wire.specs.Table.{row_at, place}
use Rattle.wire.specs.Codec.{fields_at}
use Rattle.tables.proofs.rows.load_turn.Goals as goal

pub returns : goal.returns
unfolding row_at turn_t flag_codec fields_at place
returns c = cc
