use native.Mathlib.Nat.{add-zero}
use Rattle.tables.specs.Layout.{cq_t, queue_codec}
use Rattle.wire.specs.Table.{row_at, place}
use Rattle.wire.specs.Codec.{fields_at, bytes_from}
use Rattle.tables.proofs.rows.load_cq.Goals as goal

pub returns : goal.returns
unfolding row_at cq_t queue_codec fields_at place bytes_from
returns c = rw add-zero (cc)
