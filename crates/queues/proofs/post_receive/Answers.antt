use mathlib.Core.Path.{sym, ◌∙◌}
use Rattle.queues.proofs.ReceiveLaws.{receive_bad}
use Rattle.queues.proofs.post_receive.Goals as goal

pub returns-in-Err : goal.returns-in-Err
returns-in-Err c =
    let s = c.in-Some.ensures.value in
    let a = c.args in
    rw (c.from.ensures, ← s.1) (receive_bad _ a.qpn a.posted.now s.0 _ (sym c.read_receive.ensures ∙ c.in-Err.is))
