use Rattle.std.proofs.Common.{◌≡◌, ◌+◌, ◌*◌, false, sym, ◌∙◌, arith, rules}
use Rattle.wire.specs.Scan.{all_below}
use Rattle.wire.proofs.ScanLaws.{all_none, block_fails}
use Rattle.validate.specs.Accept.{mr_ok}
use Rattle.tables.specs.Limits.{mr_count}
use Rattle.validate.proofs.TestLaws.{eight_free, eight_tested}
use Rattle.validate.proofs.regions.mrs_ok.Goals as goal
use Rattle.validate.proofs.regions.mrs_ok.Goals.{then-get-ne0+else-not-eight_ok, else-get-ne0}

pub loop-g-init : goal.loop-g-init
loop-g-init c = (search rules, all_none _)

pub returns-then-not-eight_ok : goal.returns-then-not-eight_ok
returns-then-not-eight_ok c =
    let a = c.args in
    let g = c.loop-g.g in
    let e : all_below 8 (λ i. mr_ok a.state.now (8 * g + i)) ≡ false = sym c.eight_ok.ensures ∙ c.if-not-eight_ok.true in
    sym (block_fails mr_count (mr_ok a.state.now) (8 * g) 8 (search rules) e)

pub loop-g-preserved : goal.loop-g-preserved
loop-g-preserved c =
    let a = c.args in
    let h = c.loop-g in (
      search rules,
      c.past_free-g.ensures.2
          (elim c.if-get-ne0.branch [
            | then-get-ne0+else-not-eight_ok w ↦ eight_tested a.state.now h.g h.invariant.1 (sym w.eight_ok.ensures ∙ w.if-not-eight_ok.false)
            | else-get-ne0 w ↦ eight_free a.state.now h.g h.invariant.1 (sym c.get.ensures ∙ w.if-get-ne0.false)
          ]),
    )

pub returns : goal.returns
returns c =
    let h = c.loop-g in
    let e : 8 * h.g ≡ mr_count = omega arith in
    sym (rw e at h.invariant.1)
