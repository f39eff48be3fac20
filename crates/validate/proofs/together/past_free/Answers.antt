use Rattle.std.proofs.Common.{◌≡◌, ◌+◌, ◌*◌, arith, rules}
use Rattle.validate.proofs.TestLaws.{more_free}
use Rattle.validate.proofs.together.past_free.Goals as goal

pub loop-g-init : goal.loop-g-init
loop-g-init c = (search rules, search rules, λ e. e)

pub returns-then-four_words-ne0 : goal.returns-then-four_words-ne0
returns-then-four_words-ne0 c = c.loop-g.invariant

pub loop-g-preserved : goal.loop-g-preserved
loop-g-preserved c =
    let h = c.loop-g in
    let z : 8 * (h.g + 4) ≡ 8 * h.g + 32 = omega arith in
    (search rules, search rules, λ e. rw z (more_free c.args.state.now h.g (h.invariant.2 e) 32 (c.four_words.ensures c.if-four_words-ne0.false)))

pub returns : goal.returns
returns c = c.loop-g.invariant
