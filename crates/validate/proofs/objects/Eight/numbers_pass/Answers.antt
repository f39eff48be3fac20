use Rattle.std.proofs.Common.{◌≡◌, ◌+◌, ◌*◌, arith, rules, leb-true}
use Rattle.wire.specs.Table.{row_at}
use Rattle.tables.specs.Layout.{mr_t}
use Rattle.validate.proofs.BitLaws.{or_more}
use Rattle.validate.proofs.TogetherLaws.{all_most}
use Rattle.validate.proofs.objects.Eight.numbers_pass.Goals as goal

pub loop-i-init : goal.loop-i-init
loop-i-init g c = (search rules, λ f t k h. absurd (omega arith))

pub loop-i-preserved : goal.loop-i-preserved
loop-i-preserved g c =
    let a = c.args in
    let h = c.loop-i in (
      search rules,
      λ f t. or_more (λ k. f (row_at mr_t a.self.state.now (8 * a.self.g + k))) h.i h.any c.number-any.result (rw (← c.row.ensures) (t c.row.result c.number-any.result c.number-any.ensures)) (h.invariant.1 f t),
    )

pub returns : goal.returns
returns g c f t e =
    let a = c.args in
    let h = c.loop-i in
    let z : h.i ≡ 8 = omega arith in
    all_most 8 (λ k. f (row_at mr_t a.self.state.now (8 * a.self.g + k))) h.any a.limit (leb-true h.any a.limit e) (rw z at (h.invariant.1 f t))
