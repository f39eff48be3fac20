use Rattle.commands.proofs.CaseLaws.{passes, fails}
use Rattle.commands.proofs.PagesCaseLaws.{count_long, count_fine}
use Rattle.commands.proofs.pages.count_ok.Goals as goal

pub returns-then-not-sum_within : goal.returns-then-not-sum_within
returns-then-not-sum_within c =
    let s = c in
    count_long s.args.g s.args.pages.now (fails c.sum_within.ensures c.if-not-sum_within.true)

pub returns : goal.returns
returns c =
    let short = c in
    let s = short in
    count_fine s.args.g s.args.pages.now (passes short.sum_within.ensures short.if-not-sum_within.false) _ c.pages_needed.ensures
