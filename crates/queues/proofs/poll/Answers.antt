use mathlib.Core.Path.{sym, ◌∙◌}
use Rattle.queues.proofs.PollLaws.{poll_short, poll_dead}
use Rattle.queues.proofs.poll.Goals as goal

pub returns-then-buffer-lt-ENTRY_SIZE : goal.returns-then-buffer-lt-ENTRY_SIZE
returns-then-buffer-lt-ENTRY_SIZE c =
    let s = c.in-Some.ensures.value in
    rw (c.into-then-buffer-lt-ENTRY_SIZE.ensures, ← s.1) (poll_short _ c.args.cqn _ s.0 c.if-buffer-lt-ENTRY_SIZE.true)

pub returns-then-not-is_live : goal.returns-then-not-is_live
returns-then-not-is_live c =
    let s = c.in-Some.ensures.value in
    rw (c.into-then-not-is_live.ensures, ← s.1)
    (poll_dead _ c.args.cqn _ c.if-buffer-lt-ENTRY_SIZE.false s.0 (sym c.is_live.ensures ∙ c.if-not-is_live.true))
