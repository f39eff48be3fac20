use Rattle.std.proofs.Common.{rules}
use Rattle.tables.specs.Limits.{cq_count}
use Rattle.validate.specs.Accept.{cq_ok}
use Rattle.validate.proofs.ChainLaws.{all_of}
use Rattle.validate.proofs.accept.cqs_ok.Goals as goal

pub returns : goal.returns
returns c = all_of cq_count (cq_ok c.args.state.now) _ _ _ (search rules) c.all.ensures.ran (λ x b q k. search rules)
