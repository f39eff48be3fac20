use native.Mathlib.Omega.{arith}
use mathlib.Core.Path.{sym, ◌∙◌}
use Rattle.commands.proofs.PagesLaws.{number_small, put_more, put_done}
use Rattle.commands.proofs.pages.put_pages.Goals as goal

pub overflow_cast-page : goal.overflow_cast-page
overflow_cast-page c = let s = c in omega (arith, number_small s.args.pages.now c.loop-k.k c.loop-k-test.true s.requires.2)

pub loop-k-preserved : goal.loop-k-preserved
loop-k-preserved c =
    let l = c.loop-k in
    put_more c.args.n l.k c.args.pages.now l.state _ c.loop-k-test.true c.store_page.ensures ∙ l.invariant

pub returns : goal.returns
returns c =
    let l = c.loop-k in
    sym (put_done c.args.n l.k c.args.pages.now l.state c.loop-k-test.false) ∙ l.invariant
