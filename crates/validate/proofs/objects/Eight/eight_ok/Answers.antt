use Rattle.std.proofs.Common.{◌+◌, ◌*◌, rules}
use Rattle.validate.specs.Accept.{mr_ok}
use Rattle.validate.proofs.ChainLaws.{all_of}
use Rattle.validate.proofs.objects.Eight.eight_ok.Goals as goal

pub returns-else-regions_pass : goal.returns-else-regions_pass
returns-else-regions_pass c =
    let a = c.args in
    all_of 8 (λ i. mr_ok a.self.state.now (8 * a.self.g + i)) _ _ _ (search rules) c.all.ensures.ran (λ x b q k. search rules)
