use Rattle.tables.specs.Layout.{mr_t, region_codec}
use Rattle.wire.specs.Table.{put_row, place}
use Rattle.wire.specs.Codec.{put_fields, bytes_from}
use Rattle.tables.proofs.rows.store_mr.Goals as goal

pub returns : goal.returns
unfolding put_row mr_t region_codec put_fields place bytes_from
returns c =
    let c1 = c in
    let c2 = c1 in
    let c3 = c2 in
    let c4 = c3 in
    rw (c1.put-3.ensures, c2.put-2.ensures, c3.put.ensures, c4.put_bytes.ensures)
