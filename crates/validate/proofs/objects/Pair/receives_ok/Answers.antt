use Rattle.std.proofs.Common.{◌+◌, ◌*◌, sym, ◌∙◌, rules}
use Rattle.wire.specs.Table.{row_at}
use Rattle.tables.specs.Layout.{receive_t}
use Rattle.tables.specs.Limits.{most_waiting}
use Rattle.validate.specs.Accept.{receive_ok}
use Rattle.validate.proofs.TogetherLaws.{posted_by, posted_each}
use Rattle.validate.proofs.objects.Pair.receives_ok.Goals as goal

pub returns-then-receives_pass : goal.returns-then-receives_pass
returns-then-receives_pass c =
    let a = c.args in
    c.if-receives_pass.true ∙ sym (posted_by a.self.state.now a.self.n (c.receives_pass.ensures c.if-receives_pass.true) a.h.first a.h.count c.requires)

pub returns-else-receives_pass : goal.returns-else-receives_pass
returns-else-receives_pass c =
    let a = c.args in
    c.ring_passes.ensures (λ k. receive_ok (row_at receive_t a.self.state.now (most_waiting * a.self.n + k))) (λ k b h q. search rules)
    ∙ sym (posted_each a.self.state.now a.self.n a.h.first a.h.count c.requires)
