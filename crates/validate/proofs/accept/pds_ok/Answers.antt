use Rattle.std.proofs.Common.{rules}
use Rattle.tables.specs.Limits.{pd_count}
use Rattle.validate.specs.Accept.{pd_ok}
use Rattle.validate.proofs.ChainLaws.{all_of}
use Rattle.validate.proofs.accept.pds_ok.Goals as goal

pub returns : goal.returns
unfolding pd_ok
returns c = all_of pd_count (pd_ok c.args.state.now) _ _ _ (search rules) c.all.ensures.ran (λ x b q k. search rules)
