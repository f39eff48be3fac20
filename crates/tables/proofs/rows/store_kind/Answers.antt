use native.Mathlib.Nat.{add-zero}
use Rattle.tables.specs.Layout.{kind_t, kind_codec}
use Rattle.wire.specs.Table.{put_row, place}
use Rattle.wire.specs.Codec.{put_fields}
use Rattle.tables.proofs.rows.store_kind.Goals as goal

pub returns : goal.returns
unfolding put_row kind_t kind_codec put_fields place
returns c = rw add-zero (cc)
