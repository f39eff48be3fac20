use Rattle.tables.specs.Layout.{mr_t, region_codec}
use Rattle.wire.specs.Table.{row_at, place}
use Rattle.wire.specs.Codec.{fields_at, bytes_from}
use Rattle.tables.proofs.rows.load_mr.Goals as goal

pub returns : goal.returns
unfolding row_at mr_t region_codec fields_at place bytes_from
returns c = rw (c.get_bytes.ensures, c.get.ensures, c.get-2.ensures, c.get-3.ensures)
