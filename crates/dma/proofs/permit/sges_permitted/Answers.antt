use mathlib.Core.Path.{sym, ◌∙◌}
use borrow.Author.Rules.{rules}
use Rattle.std.proofs.lemmas.Iterator.{YieldsList-from_slice}
use Rattle.std.proofs.lemmas.Iterator.Search.{all_from_yields_List}
use Rattle.tables.specs.declared.Sge.{Sge}
use Rattle.tables.specs.State.{card}
use Rattle.rules.specs.Touch.{range}
use Rattle.dma.specs.Grants.{allows, allows_all}
use Rattle.dma.proofs.SgeLaws.{tests_each}
use Rattle.dma.proofs.permit.sges_permitted.Goals as goal

pub returns : goal.returns
returns c =
    let a = c.args in
    all_from_yields_List (λ (s : Sge). allows_all (card a.state.now) a.p a.mask (range s.address s.key s.length)) _ _ _ c.all.ensures.ran
    (YieldsList-from_slice a.sges.now cc) (λ x b q k. search rules)
    ∙ sym (tests_each (allows (card a.state.now) a.p a.mask) a.sges.now)
