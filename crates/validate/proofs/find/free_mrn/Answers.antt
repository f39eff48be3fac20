use Rattle.std.proofs.Common.{◌≡◌, ◌*◌, sym, arith, rules}
use Rattle.wire.proofs.ScanLaws.{all_none}
use Rattle.tables.specs.Limits.{mr_count}
use Rattle.validate.proofs.SearchLaws.{eight_found, eight_past, none_vacant}
use Rattle.validate.proofs.find.free_mrn.Goals as goal

pub loop-g-init : goal.loop-g-init
loop-g-init c = (search rules, all_none _)

pub returns-in-Some : goal.returns-in-Some
returns-in-Some c =
    let h = c.loop-g in
    let f = c.in-Some.ensures in
    eight_found c.args.state.now h.g (search rules) h.invariant.1 c.in-Some.i f.1 f.0

pub loop-g-preserved : goal.loop-g-preserved
loop-g-preserved c =
    let h = c.loop-g in
    (search rules, eight_past c.args.state.now h.g (search rules) h.invariant.1 8 (sym c.in_default.ensures) (search rules))

pub returns : goal.returns
returns c =
    let h = c.loop-g in
    let e : 8 * h.g ≡ mr_count = omega arith in
    none_vacant _ (rw e at h.invariant.1)
