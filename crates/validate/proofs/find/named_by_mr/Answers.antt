use Rattle.std.proofs.Common.{rules}
use Rattle.tables.specs.State.{card}
use Rattle.validate.specs.Search.{mr_names}
use Rattle.validate.proofs.SearchLaws.{mr_names_lem}
use Rattle.validate.proofs.find.named_by_mr.Goals as goal

pub returns : goal.returns
returns c =
    let a = c.args in
    c.any_number.ensures (mr_names (card a.state.now) a.pd) (λ n b h q. let law = mr_names_lem a.state.now n a.pd h in search rules)
