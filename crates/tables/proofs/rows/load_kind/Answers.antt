use native.Mathlib.Nat.{add-zero}
use Rattle.tables.specs.Layout.{kind_t, kind_codec}
use Rattle.wire.specs.Table.{row_at, place}
use Rattle.wire.specs.Codec.{fields_at, bytes_from}
use Rattle.tables.proofs.rows.load_kind.Goals as goal

pub returns : goal.returns
unfolding row_at kind_t kind_codec fields_at place bytes_from
returns c = rw add-zero (cc)
