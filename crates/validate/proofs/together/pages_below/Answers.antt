use Rattle.std.proofs.Common.{◌≡◌, ◌+◌, arith, rules}
use Rattle.wire.specs.Table.{row_at}
use Rattle.tables.specs.Layout.{page_t}
use Rattle.validate.proofs.TogetherLaws.{max_more, pages_by}
use Rattle.validate.proofs.together.pages_below.Goals as goal

pub loop-k-init : goal.loop-k-init
loop-k-init g c = (search rules, λ j h. absurd (omega arith))

pub loop-k-preserved : goal.loop-k-preserved
loop-k-preserved g c =
    let a = c.args in
    let h = c.loop-k in
    let j = c.requires.joins h.most c.load_page.result c.join-most.result c.join-most.ensures in
    (search rules, max_more (λ k. row_at page_t a.state.now (a.from + k)) h.k h.most c.join-most.result j.0 (rw (← c.load_page.ensures) j.1) h.invariant.1)

pub returns : goal.returns
returns g c e =
    let a = c.args in
    let h = c.loop-k in
    let z : h.k ≡ a.many = search rules in
    pages_by a.memory a.state.now a.from a.many h.most e (rw z at h.invariant.1)
