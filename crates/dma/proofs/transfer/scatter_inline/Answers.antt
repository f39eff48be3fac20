use mathlib.Core.Path.{◌≡◌, sym, ap, ◌∙◌}
use mathlib.Core.List.{[], ◌∷◌}
use native.Mathlib.Omega.{arith}
use lib.ListN.{length, get_or}
use lib.Seq.{paste}
use Rattle.tables.specs.Records.{no_sge}
use Rattle.tables.specs.State.{card}
use Rattle.rules.specs.Touch.{sge_total}
use Rattle.dma.proofs.SgeLaws.{alone, one_total}
use Rattle.dma.proofs.MoveLaws.{whole_lies, room, written}
use Rattle.dma.proofs.transfer.scatter_inline.Goals as goal

pub run_of-requires : goal.run_of-requires
run_of-requires c =
    let e = alone c.args.to.now (omega arith) in
    let k : sge_total (get_or c.args.to.now 0 no_sge ∷ []) ≡ length c.args.bytes.now = rw e at c.requires.total.0 in
    record { ready = c.requires.ready; s_value = (rw e at c.requires.targets, omega (arith, k, one_total (get_or c.args.to.now 0 no_sge), c.requires.total.1)) }

pub deliver_inline-requires : goal.deliver_inline-requires
deliver_inline-requires c =
    let e = alone c.args.to.now (omega arith) in
    let t = get_or c.args.to.now 0 no_sge in
    let k : sge_total (t ∷ []) ≡ length c.args.bytes.now = rw e at c.requires.total.0 in
    let r = room (card c.args.state.now) c.args.memory.now t (whole_lies _ _ _ _ c.run_of.ensures c.if-run_of-t.true) _ c.place_of-at.ensures in
    (c.requires.total.1, omega (arith, one_total t, k))

pub returns-then-run_of-t : goal.returns-then-run_of-t
returns-then-run_of-t c =
    let e = alone c.args.to.now (omega arith) in
    let t = get_or c.args.to.now 0 no_sge in
    let k : sge_total (t ∷ []) ≡ length c.args.bytes.now = rw e at c.requires.total.0 in
    let n : t.length ≡ length c.args.bytes.now = sym (one_total t) ∙ k in
    rw e
    (written (card c.args.state.now) c.args.memory.now t (whole_lies _ _ _ _ c.run_of.ensures c.if-run_of-t.true) _ c.place_of-at.ensures _
    c.args.bytes.now (omega arith) (c.deliver_inline.ensures ∙ ap (paste c.args.memory.now c.place_of-at.result c.args.bytes.now) (sym n)))
