use mathlib.Core.Path.{sym, ap, ◌∙◌}
use Prim.Native.Nat.{ℕ}
use Rattle.tables.specs.Queue.{push_bytes}
use Rattle.delivery.specs.Settle.{sender_entry}
use Rattle.delivery.proofs.SettleLaws.{single_silent, single_told}
use Rattle.delivery.proofs.settle.settle_single.Goals as goal

pub returns-then-is_put : goal.returns-then-is_put
returns-then-is_put c =
    let b = c in
    let a = b.args in
    let put = c.put_work.ensures
    ∙ ap (λ (k : ℕ). push_bytes a.state.now a.e.own.scq (sender_entry a.e.q a.s.wr a.s.opcode a.st k)) c.told_length.ensures in
    single_told a.state.now a.e a.s a.st a.n b.requires.1 b.requires.2 (sym c.is_put.ensures ∙ c.if-is_put.true) _ _ put
    c.fail_if.ensures

pub returns-else-is_put : goal.returns-else-is_put
returns-else-is_put c =
    let b = c in
    let a = b.args in
    single_silent a.state.now a.e a.s a.st a.n b.requires.1 b.requires.2 (sym c.is_put.ensures ∙ c.if-is_put.false)
