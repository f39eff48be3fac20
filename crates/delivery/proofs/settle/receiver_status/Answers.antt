use mathlib.Core.Path.{ap, ◌∙◌}
use Rattle.delivery.proofs.SettleLaws.{receive_list, status_long, status_refused}
use Rattle.rules.specs.Touch.{sge_total}
use Rattle.delivery.proofs.settle.receiver_status.Goals as goal

pub returns-then-sges_total-n : goal.returns-then-sges_total-n
returns-then-sges_total-n c =
    let a = c.args in
    let t = c.sges_total.ensures ∙ ap sge_total (receive_list a.w) in
    status_long a.w a.st a.n c.if-st-eq-SUCCESS.false c.sges_total.result t c.if-sges_total-n.true

pub returns : goal.returns
returns c =
    let a = c.args in
    let t = c.sges_total.ensures ∙ ap sge_total (receive_list a.w) in
    status_refused a.w a.st a.n c.if-st-eq-SUCCESS.false c.sges_total.result t c.if-sges_total-n.false
