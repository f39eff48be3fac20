use native.Mathlib.Nat.{add-zero}
use Rattle.tables.specs.Layout.{page_t, page_codec}
use Rattle.wire.specs.Table.{put_row, place}
use Rattle.wire.specs.Codec.{put_fields}
use Rattle.tables.proofs.rows.store_page.Goals as goal

pub returns : goal.returns
unfolding put_row page_t page_codec put_fields place
returns c = rw add-zero (cc)
