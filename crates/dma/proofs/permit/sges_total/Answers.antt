use mathlib.Core.Path.{◌≡◌, sym, ◌∙◌}
use mathlib.Core.List.{map}
use borrow.Author.Rules.{rules}
use Rattle.std.specs.Prelude.{sum}
use Rattle.tables.specs.declared.Sge.{Sge}
use Rattle.dma.proofs.SgeLaws.{total_sum}
use Rattle.dma.proofs.permit.sges_total.Goals as goal

pub returns : goal.returns
returns c =
    let e : c.sum.result ≡ sum (map (λ (s : Sge). s.length) c.args.sges.now) = search rules in
    e ∙ sym (total_sum c.args.sges.now)
