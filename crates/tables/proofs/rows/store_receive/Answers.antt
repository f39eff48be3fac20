use Prim.Native.Nat.{◌+◌, ◌*◌}
use Rattle.tables.specs.Layout.{receive_base, receive_t}
use Rattle.tables.proofs.ReadingLaws.{sge_put_within}
use Prim.Native.Nat.{ℕ}
use native.Mathlib.Nat.{add-zero}
use Rattle.wire.specs.Codec.{put_fields}
use Rattle.tables.specs.Records.{receive_codec}
use Rattle.wire.specs.Table.{put_row, place}
use Rattle.tables.proofs.rows.store_receive.Goals as goal

pub returns : goal.returns
unfolding put_row receive_t receive_codec put_fields place
returns c =
    let c1 = c in
    let c2 = c1 in
    let c3 = c2 in
    let c4 = c3 in
    let a = c4.args in
    let at : ℕ = receive_base + a.n * 56 in
    rw (add-zero, ← sge_put_within _ at 40 a.r.second, ← sge_put_within _ at 24 a.r.first, c1.put_sge-2.ensures, c2.put_sge.ensures, c3.put-2.ensures, c4.put.ensures)
