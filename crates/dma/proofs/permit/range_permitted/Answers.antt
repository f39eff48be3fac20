use mathlib.Core.Path.{sym, ◌∙◌}
use Rattle.tables.specs.State.{card}
use Rattle.dma.specs.Grants.{allows}
use Rattle.dma.proofs.RangeLaws.{empty_range, range_none, range_found}
use borrow.Author.Rules.{rules}
use Rattle.dma.proofs.permit.range_permitted.Goals as goal

pub returns-then-n-eq0 : goal.returns-then-n-eq0
returns-then-n-eq0 c = let a = c.args in sym (empty_range (allows (card a.state.now) a.p a.mask) a.address a.key a.n c.if-n-eq0.true)

pub returns-in-Some : goal.returns-in-Some
returns-in-Some c =
    let a = c.args in
    rw (c.has_use.ensures, c.holds_ends.ensures)
    (sym (range_found (card a.state.now) a.p a.mask a.key a.n a.address (search rules) _
    (sym c.region_of.ensures ∙ c.in-Some.is)))

pub returns-in-None : goal.returns-in-None
returns-in-None c =
    let a = c.args in
    sym (range_none (card a.state.now) a.p a.mask a.key a.n a.address (search rules) (sym c.region_of.ensures ∙ c.in-None.is))
