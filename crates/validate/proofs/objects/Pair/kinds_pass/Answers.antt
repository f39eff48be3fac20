-- Where none is bad, every place passes.
use Rattle.std.proofs.Common.{ℕ, ◌+◌, ◌*◌, Bool, not, [], sym, ap, ◌∙◌, rules}
use borrow.Author.Tests.{not-true}
use Rattle.wire.specs.Table.{row_at}
use Rattle.wire.proofs.ScanLaws.{all_each, any_at}
use Rattle.tables.specs.Layout.{kind_t}
use Rattle.tables.specs.Limits.{most_queued}
use Rattle.tables.specs.Records.{send_bad, sent_in}
use Rattle.tables.specs.State.{place_at}
use Rattle.validate.specs.Accept.{queued_ok}
use Rattle.validate.proofs.objects.Pair.kinds_pass.Goals as goal

pub returns : goal.returns
returns c e =
    let a = c.args in
    let bad : ℕ → Bool = λ k. send_bad (sent_in (record { kind = row_at kind_t a.self.state.now (most_queued * a.self.n + k); body = [] })) in
    let is = c.any_number.ensures bad (λ k b h q. search rules) in
    all_each most_queued (λ k. queued_ok (place_at a.self.state.now (most_queued * a.self.n + k)))
    (λ k h. ap not (any_at most_queued bad k h (sym is ∙ not-true c.any_number.result e)))
