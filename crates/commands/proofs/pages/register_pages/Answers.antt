use Rattle.commands.proofs.PagesCallLaws.{pages_short, pages_done}
use Rattle.commands.proofs.pages.register_pages.Goals as goal

pub returns-then-ack-lt-ACK_LEAST : goal.returns-then-ack-lt-ACK_LEAST
returns-then-ack-lt-ACK_LEAST c =
    let s = c.in-Some.ensures.value in
    rw (c.from-then-ack-lt-ACK_LEAST.ensures, ← s.1) (pages_short _ _ _ _ s.0 c.if-ack-lt-ACK_LEAST.true)

pub choose-outcome-requires : goal.choose-outcome-requires
choose-outcome-requires c = c.in-Some.ensures.value.0

pub returns : goal.returns
returns c =
    let s = c.in-Some.ensures.value in
    rw (← s.1)
    (pages_done _ _ _ _ s.0 c.if-ack-lt-ACK_LEAST.false c.choose-outcome.result _
    c.choose-outcome.ensures _ c.ack_of.ensures _ c.from-2.ensures _ c.write_ack.ensures)
