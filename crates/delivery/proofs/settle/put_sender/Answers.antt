use mathlib.Core.Path.{sym, ◌∙◌}
use Rattle.delivery.proofs.SettleLaws.{put_silent, put_told}
use Rattle.delivery.proofs.settle.put_sender.Goals as goal

pub returns-then-is_put : goal.returns-then-is_put
returns-then-is_put c =
    let a = c.args in
    rw (c.put_work.ensures, c.told_length.ensures)
    (put_told a.state.now a.q a.own a.s a.st a.n (sym c.is_put.ensures ∙ c.if-is_put.true))

pub returns-else-is_put : goal.returns-else-is_put
returns-else-is_put c =
    let a = c.args in
    put_silent a.state.now a.q a.own a.s a.st a.n (sym c.is_put.ensures ∙ c.if-is_put.false)
