use mathlib.Core.Path.{sym, ◌∙◌}
use Rattle.queues.proofs.FlushLaws.{flush_dead}
use Rattle.queues.proofs.flush.Goals as goal

pub returns-then-not-is_live : goal.returns-then-not-is_live
returns-then-not-is_live c =
    let s = c.in-Some.ensures.value in
    rw (c.into-then-not-is_live.ensures, ← s.1) (flush_dead _ c.args.qpn s.0 (sym c.is_live.ensures ∙ c.if-not-is_live.true))
