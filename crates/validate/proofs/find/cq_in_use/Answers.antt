use Rattle.std.proofs.Common.{rules}
use Rattle.tables.specs.State.{card}
use Rattle.validate.specs.Search.{qp_uses}
use Rattle.validate.proofs.SearchLaws.{qp_uses_lem}
use Rattle.validate.proofs.find.cq_in_use.Goals as goal

pub returns : goal.returns
returns c =
    let a = c.args in
    c.any_number.ensures (qp_uses (card a.state.now) a.cq) (λ n b h q. let law = qp_uses_lem a.state.now n a.cq h in search rules)
