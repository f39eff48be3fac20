use Rattle.std.proofs.Common.{rules}
use Rattle.tables.specs.Limits.{qp_count}
use Rattle.validate.specs.Accept.{qp_ok}
use Rattle.validate.proofs.ChainLaws.{all_of}
use Rattle.validate.proofs.accept.qps_ok.Goals as goal

pub returns : goal.returns
returns c = all_of qp_count (qp_ok c.args.state.now) _ _ _ (search rules) c.all.ensures.ran (λ x b q k. search rules)
