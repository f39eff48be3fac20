use Rattle.std.proofs.Common.{◌+◌, ◌*◌, rules}
use Rattle.wire.specs.Table.{row_at}
use Rattle.tables.specs.Layout.{mr_t}
use Rattle.validate.specs.Together.{range_ok}
use Rattle.validate.proofs.ChainLaws.{all_of}
use Rattle.validate.proofs.objects.Eight.ranges_pass.Goals as goal

pub returns : goal.returns
returns c =
    let a = c.args in
    all_of 8 (λ i. range_ok a.limit (row_at mr_t a.self.state.now (8 * a.self.g + i))) _ _ _ (search rules) c.all.ensures.ran (λ x b q k. search rules)
