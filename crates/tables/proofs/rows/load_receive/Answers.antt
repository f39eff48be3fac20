use mathlib.Core.Path.{◌∙◌}
use Prim.Native.Nat.{◌+◌, ◌*◌}
use Rattle.tables.specs.Layout.{receive_base, receive_t}
use Rattle.tables.proofs.ReadingLaws.{sge_within}
use Prim.Native.Nat.{ℕ}
use native.Mathlib.Nat.{add-zero}
use Rattle.wire.specs.Codec.{fields_at}
use Rattle.tables.specs.Records.{receive_codec}
use Rattle.wire.specs.Table.{row_at, place}
use Rattle.tables.proofs.rows.load_receive.Goals as goal

pub returns : goal.returns
unfolding row_at receive_t receive_codec fields_at place
returns c =
    let a = c.args in
    let l = a.state.now in
    let at : ℕ = receive_base + a.n * 56 in
    let p = c.get_sge.ensures ∙ sge_within l at 24 in
    let q = c.get_sge-2.ensures ∙ sge_within l at 40 in
    rw (add-zero, p, q) (cc)
