-- "one that holds for ever (steps 1 and 2 and a flush without a place are the only holds)"; with 02, M-103, so are a send and a receive in error:
-- "Without a place it is held with 6." Assumes nothing.
use Rattle.std.specs.Prelude.{◌≡◌, Bool, false, cond, not, ◌&&◌, ◌||◌, ℕ}
use Rattle.tables.specs.Card.{Card}
use Rattle.rules.specs.Answer.{is_held}
use Rattle.rules.specs.Call.{Call, OnPair, given}
use Rattle.rules.specs.Calls.{step}
use Rattle.rules.specs.Lists.{is_empty}
use Rattle.rules.specs.Queues.{flushes_at_once}
use Rattle.rules.specs.Send.{peer_of, ready, room, has_places, is_in_error}
use Rattle.rules.specs.Touch.{takes}

-- step 1: "Peer (destination) none, not live, not in 2 or 3, or not naming this QP back"; "Opcodes 1, 2, 3 with no receive waiting there"
abbrev pub lacks_peer : Card → (q opcode : ℕ) → Bool
lacks_peer c q o = not (ready c q (c.qp q).dest) || (takes o && is_empty (c.qp (peer_of c q)).waiting)

-- step 2: "One free place in the send CQ, and for 1, 2, 3 one in the peer's receive CQ (two if it is the same CQ); else 6"
abbrev pub lacks_places : Card → (q opcode : ℕ) → Bool
lacks_places c q o = not (has_places c q (peer_of c q) o)

-- the completion queue n is "without a place"
abbrev pub no_place : Card → (n : ℕ) → Bool
no_place c n = not (room (c.cq n) 1)

-- where what a call does on a queue pair may be held
abbrev pub holds_on : Card → OnPair → Bool
holds_on c OnPair.nothing = false
-- steps 1 and 2; 02, M-103: "in state 6 .. with one free place in its own send .. CQ"
holds_on c (OnPair.sends q r) =
    cond (is_in_error (c.qp q)) (no_place c (c.qp q).scq) (lacks_peer c q r.opcode || lacks_places c q r.opcode)
-- 02, M-103: "its own .. receive CQ"; "if any wait, a receive joins the queue (.. no place needed)"
holds_on c (OnPair.receives q w) = flushes_at_once c q && no_place c (c.qp q).rcq
-- "Flush one: .. no place 6"
holds_on c (OnPair.flushes q) = no_place c (c.qp q).rcq
-- 02, M-108: held heads are passed over, and where all are "answer 9"
holds_on c (OnPair.enqueues q r) = false
holds_on c OnPair.turns = false

-- where a call on the card may be held
abbrev pub may_hold : Card → Call → Bool
may_hold c k = holds_on c (given k).pair

-- "are the only holds"
unfoldable pub OnlyHolds : Type 0
OnlyHolds = (c : Card) (k : Call) → may_hold c k ≡ false → is_held (step c k).answer ≡ false
