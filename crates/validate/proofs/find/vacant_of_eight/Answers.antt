use Rattle.std.proofs.Common.{◌≡◌, ℕ, ◌+◌, ◌*◌, ◌≤◌, sym, ◌∙◌, arith, rules}
use Rattle.wire.proofs.FlagLaws.{flags_most}
use Rattle.wire.proofs.ScanLaws.{lowest_none}
use Rattle.tables.specs.State.{card}
use Rattle.validate.specs.Search.{vacant}
use Rattle.validate.proofs.SearchLaws.{eight_taken, search_past, lowest_is}
use Rattle.validate.proofs.find.vacant_of_eight.Goals as goal

pub loop-i-init : goal.loop-i-init
loop-i-init c =
    let a = c.args in
    let start = c.lowest_clear-start.result in
    let most : start ≤ 8 = rw c.lowest_clear-start.ensures (flags_most _ _ 8) in
    (most, eight_taken a.state.now a.g (search rules) start c.lowest_clear-start.ensures most)

pub returns-then-is_vacant : goal.returns-then-is_vacant
returns-then-is_vacant c =
    let a = c.args in
    let h = c.loop-i in
    (search rules, sym (lowest_is 8 (λ k. vacant ((card a.state.now).mr (8 * a.g + k))) h.i (search rules) (search rules) h.invariant.1))

pub returns : goal.returns
returns c =
    let a = c.args in
    let e : c.loop-i.i ≡ 8 = search rules in
    let p = λ (k : ℕ). vacant ((card a.state.now).mr (8 * a.g + k)) in
    search_past 8 8 p (omega arith) (rw e at c.loop-i.invariant.1) ∙ lowest_none 8 8 p (omega arith)
