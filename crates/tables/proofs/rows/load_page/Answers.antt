use native.Mathlib.Nat.{add-zero}
use Rattle.tables.specs.Layout.{page_t, page_codec}
use Rattle.wire.specs.Table.{row_at, place}
use Rattle.wire.specs.Codec.{fields_at}
use Rattle.tables.proofs.rows.load_page.Goals as goal

pub returns : goal.returns
unfolding row_at page_t page_codec fields_at place
returns c = rw add-zero (cc)
