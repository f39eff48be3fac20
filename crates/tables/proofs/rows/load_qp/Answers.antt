use native.Mathlib.Nat.{add-zero}
use Rattle.tables.specs.Layout.{qp_t, pair_codec}
use Rattle.wire.specs.Table.{row_at, place}
use Rattle.wire.specs.Codec.{fields_at, bytes_from}
use Rattle.tables.proofs.rows.load_qp.Goals as goal

pub returns : goal.returns
unfolding row_at qp_t pair_codec fields_at place bytes_from
returns c = rw add-zero (cc)
