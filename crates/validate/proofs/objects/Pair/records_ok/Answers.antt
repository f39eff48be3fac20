use Rattle.std.proofs.Common.{◌+◌, ◌*◌, sym, ◌∙◌, rules}
use Rattle.tables.specs.Limits.{most_queued}
use Rattle.tables.specs.State.{place_at}
use Rattle.validate.specs.Accept.{queued_ok}
use Rattle.validate.proofs.TogetherLaws.{queued_by, queued_each}
use Rattle.validate.proofs.objects.Pair.records_ok.Goals as goal

pub returns-then-kinds_pass : goal.returns-then-kinds_pass
returns-then-kinds_pass c =
    let a = c.args in
    c.if-kinds_pass.true ∙ sym (queued_by a.self.state.now a.self.n (c.kinds_pass.ensures c.if-kinds_pass.true) a.h.first a.h.count c.requires)

pub returns-else-kinds_pass : goal.returns-else-kinds_pass
returns-else-kinds_pass c =
    let a = c.args in
    c.ring_passes.ensures (λ k. queued_ok (place_at a.self.state.now (most_queued * a.self.n + k))) (λ k b h q. search rules)
    ∙ sym (queued_each a.self.state.now a.self.n a.h.first a.h.count c.requires)
