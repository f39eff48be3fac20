use mathlib.Core.Path.{◌≡◌, sym}
use Prim.Native.Nat.{◌/◌, ◌%◌}
use Rattle.wire.specs.Table.{row_at}
use Rattle.tables.specs.Layout.{mr_flag_t, mr_t}
use Rattle.dma.proofs.RegionLaws.{region_out, region_free, region_other, region_live}
use borrow.Author.Rules.{rules}
use Rattle.dma.proofs.permit.region_of.Goals as goal

pub returns-then-slot-ge-MR_COUNT : goal.returns-then-slot-ge-MR_COUNT
returns-then-slot-ge-MR_COUNT c = let a = c.args in sym (region_out a.state.now a.key (search rules))

pub returns-then-load_flag-ne1 : goal.returns-then-load_flag-ne1
returns-then-load_flag-ne1 c =
    let a = c.args in
    sym (region_free a.state.now a.key (search rules) (λ e. c.if-load_flag-ne1.true (cc)))

pub returns-then-r-key : goal.returns-then-r-key
returns-then-r-key c =
    let a = c.args in
    let e : row_at mr_flag_t a.state.now (a.key / 256) ≡ 1 = (cc) in
    sym (region_other a.state.now a.key (search rules) e (λ q. c.if-r-key.true (cc)))

pub returns : goal.returns
returns c =
    let a = c.args in
    let e : row_at mr_flag_t a.state.now (a.key / 256) ≡ 1 = (cc) in
    let f : (row_at mr_t a.state.now (a.key / 256)).variant ≡ a.key % 256 = (cc) in
    rw (region_live a.state.now a.key (search rules) e f) (cc)
