use Rattle.std.proofs.Common.{◌+◌, ◌*◌, sym, ◌∙◌, rules}
use Rattle.wire.specs.Table.{row_at}
use Rattle.tables.specs.Layout.{entry_t}
use Rattle.tables.specs.Limits.{most_places}
use Rattle.validate.specs.Accept.{completion_ok}
use Rattle.validate.proofs.TogetherLaws.{unread_by, unread_each}
use Rattle.validate.proofs.objects.Queue.entries_ok.Goals as goal

pub returns-then-completions_pass : goal.returns-then-completions_pass
returns-then-completions_pass c =
    let a = c.args in
    c.if-completions_pass.true ∙ sym (unread_by a.self.state.now a.self.n (c.completions_pass.ensures c.if-completions_pass.true) a.h.first a.h.count c.requires)

pub returns-else-completions_pass : goal.returns-else-completions_pass
returns-else-completions_pass c =
    let a = c.args in
    c.ring_passes.ensures (λ k. completion_ok (row_at entry_t a.self.state.now (most_places * a.self.n + k))) (λ k b h q. search rules)
    ∙ sym (unread_each a.self.state.now a.self.n a.h.first a.h.count c.requires)
