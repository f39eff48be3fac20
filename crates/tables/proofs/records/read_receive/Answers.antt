use mathlib.Core.Logic.{inl, inr}
use mathlib.Core.Path.{refl, ◌∙◌}
use Rattle.wire.specs.Codec.{fields_at}
use Rattle.tables.specs.Records.{sge_codec, receive_codec}
use Rattle.tables.proofs.ReadingLaws.{receive_right, receive_sge}
use Rattle.tables.proofs.records.read_receive.Goals as goal

pub returns : goal.returns
unfolding fields_at sge_codec receive_codec
returns c =
    let x = c.args.request.now in
    let n = c.get-count in
    let h = c.if-request-lt-RECEIVE_HEAD.false in
    let m = c.if-count-gt-MOST_RECEIVE_SGES.false in
    let e = c.if-request-size.false in
    let p = c.sge_at.ensures ∙ receive_sge x n.result n.ensures h m e 24 (inl refl) in
    let q = c.sge_at-2.ensures ∙ receive_sge x n.result n.ensures h m e 40 (inr refl) in
    rw (← receive_right x n.result n.ensures h m e, p, q, c.get.ensures, n.ensures)
