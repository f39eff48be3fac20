use mathlib.Core.Path.{ap, ◌≡◌, ◌∙◌}
use Rattle.rules.specs.Control.{new_variant}
use Rattle.tables.specs.State.{card}
use native.Mathlib.Omega.{arith}
use Prim.Native.Nat.{◌+◌}
use Rattle.wire.specs.Table.{row_at}
use Rattle.tables.specs.Layout.{mr_t}
use Rattle.tables.specs.declared.Region.{Region}
use Rattle.tables.proofs.ObjectLaws.{pd_below}
use Rattle.commands.proofs.CaseLaws.{new_variant_lem, variant_left}
use Rattle.commands.proofs.control.put_region.Goals as goal

pub overflow_add-variant : goal.overflow_add-variant
overflow_add-variant c =
    let s = c in
    let h = variant_left s.args.state.now _ s.requires.1 s.requires.0 in
    let e : c.load_mr-variant.result.variant ≡ (row_at mr_t s.args.state.now s.args.n).variant = ap (λ (x : Region). x.variant) c.load_mr-variant.ensures in
    rw e (omega arith)

pub overflow_cast-row-2 : goal.overflow_cast-row-2
overflow_cast-row-2 c =
    let s = c in
    omega (arith, pd_below s.args.state.now s.args.g.pd s.requires.3)

pub returns : goal.returns
returns c =
    let made = c in
    let s = made in
    let v : made.load_mr-variant.result.variant + 1 ≡ new_variant (card s.args.state.now) =
    ap (λ (x : Region). x.variant + 1) made.load_mr-variant.ensures ∙ new_variant_lem _ _ s.requires.1 s.requires.0 in
    (v, rw (c.store_flag.ensures, c.store_mr.ensures, v, s.requires.1))
