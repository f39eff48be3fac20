use mathlib.Core.Path.{sym, ◌∙◌}
use Rattle.delivery.proofs.SettleLaws.{not_consumed, consumed}
use Rattle.delivery.proofs.settle.put_receiver.Goals as goal

pub returns-then-not-is_consumed : goal.returns-then-not-is_consumed
returns-then-not-is_consumed c =
    let a = c.args in
    not_consumed a.state.now a.e a.s a.st a.n a.w (sym c.is_consumed.ensures ∙ c.if-not-is_consumed.true)

pub returns : goal.returns
returns c =
    let a = c.args in
    rw (
      c.push_completion.ensures,
      c.told_imm.ensures,
      c.receiver_status.ensures,
      c.told_length-length.ensures,
      c.receiver_opcode-opcode.ensures,
    )
    (consumed a.state.now a.e a.s a.st a.n a.w
    (sym c.is_consumed.ensures ∙ c.if-not-is_consumed.false))
