use Rattle.std.proofs.Common.{rules}
use Rattle.tables.specs.State.{card}
use Rattle.validate.specs.Search.{qp_names}
use Rattle.validate.proofs.SearchLaws.{qp_names_lem}
use Rattle.validate.proofs.find.named_by_qp.Goals as goal

pub returns : goal.returns
returns c =
    let a = c.args in
    c.any_number.ensures (qp_names (card a.state.now) a.pd) (λ n b h q. let law = qp_names_lem a.state.now n a.pd h in search rules)
