use Rattle.std.proofs.Common.{◌+◌, ◌*◌, sym, ◌∙◌, rules}
use Rattle.wire.specs.Table.{row_at}
use Rattle.tables.specs.Layout.{receive_t}
use Rattle.tables.specs.Limits.{most_waiting}
use Rattle.validate.specs.Accept.{receive_ok}
use Rattle.validate.proofs.ChainLaws.{all_of}
use Rattle.validate.proofs.objects.Pair.receives_pass.Goals as goal

pub returns-then-count-ge-MANY_WAITING : goal.returns-then-count-ge-MANY_WAITING
returns-then-count-ge-MANY_WAITING c e =
    let a = c.args in
    sym (all_of most_waiting (λ j. receive_ok (row_at receive_t a.self.state.now (most_waiting * a.self.n + j))) _ _ _ (search rules) c.all.ensures.ran (λ x b q k. search rules)) ∙ e
