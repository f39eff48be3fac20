-- Document 01: post receive, flush and poll, the tests after those of the lent bytes, and the card after each; 02, M-103: a receive posted
-- in error. Assumes nothing.
use Rattle.std.specs.Prelude.{Bool, true, cond, not, ◌&&◌, List, [], ◌∷◌, ◌++◌, ℕ, eqb, leb, length, get_or}
use Rattle.wire.specs.Checks.{Check, ◌if◌}
use Rattle.wire.specs.Slots.{upd}
use Rattle.tables.specs.Limits.{most_waiting}
use Rattle.tables.specs.Card.{Card, Receive, with_cq, with_qp, with_waiting, tail, cq_live, with_entries}
use Rattle.tables.specs.State.{no_completion}
use Rattle.tables.specs.declared.Completion.{Completion}
use Rattle.rules.specs.Lists.{is_empty}
use Rattle.rules.specs.Send.{Put, put_all, room, oldest, consume_if, is_in_error}

-- ---- a receive that is flushed

-- "completes with status 4, opcode 3", for the receive with the work request number wr
abbrev pub flushed_put : Card → (q wr : ℕ) → Put
flushed_put c q wr = record {
  cqn = (c.qp q).rcq;
  entry = record { wr = wr; status = 4; opcode = 3; length = 0; imm = 0; owner = q };
}

-- ---- post receive

-- 02, M-103: a receive posted in state 6 is flushed at once. "Older waiting receives go first: if any wait, a receive joins the queue".
abbrev pub flushes_at_once : Card → (q : ℕ) → Bool
flushes_at_once c q = is_in_error (c.qp q) && is_empty (c.qp q).waiting

-- "2; state 0 .. gives 3; full 8. Keys aren't looked at." 02, M-103: "with one free place in its own .. receive CQ"; "Without a place it is
-- held with 6"; one that joins needs none, "or gives 8".
unfoldable pub join_checks : Card → (q : ℕ) → List Check
join_checks c q =
    2 if not (c.qp q).live ∷
    3 if eqb (c.qp q).state 0 ∷
    6 if (flushes_at_once c q && not (room (c.cq (c.qp q).rcq) 1)) ∷
    8 if leb most_waiting (length (c.qp q).waiting) ∷
    []

-- the receive waits behind the others
unfoldable pub joined : Card → (q : ℕ) → Receive → Card
joined c q w = with_qp c (upd c.qp q (with_waiting (c.qp q) ((c.qp q).waiting ++ (w ∷ []))))

-- the completions that are put
unfoldable pub join_puts : Card → (q : ℕ) → Receive → List Put
join_puts c q w = cond (flushes_at_once c q) (flushed_put c q w.wr ∷ []) []

-- 02, M-103: "answer 0, status 4, and a completion with status 4, byte length 0, and .. 3"; one that joins has "answer 0, status 0"
unfoldable pub join_status : Card → (q : ℕ) → ℕ
join_status c q = cond (flushes_at_once c q) 4 0

unfoldable pub received : Card → (q : ℕ) → Receive → Card
received c q w = cond (flushes_at_once c q) (with_cq c (put_all (join_puts c q w) c.cq)) (joined c q w)

-- ---- flush

-- "Flush one: 2; state not 6 gives 3; none waiting 9; no place 6"
unfoldable pub flush_checks : Card → (q : ℕ) → List Check
flush_checks c q =
    2 if not (c.qp q).live ∷
    3 if not (is_in_error (c.qp q)) ∷
    9 if is_empty (c.qp q).waiting ∷
    6 if not (room (c.cq (c.qp q).rcq) 1) ∷
    []

-- "then the oldest receive completes with status 4, opcode 3"
abbrev pub flush_put : Card → (q : ℕ) → Put
flush_put c q = flushed_put c q (oldest (c.qp q).waiting).wr

unfoldable pub flushed : Card → (q : ℕ) → Card
flushed c q = with_qp (with_cq c (put_all (flush_put c q ∷ []) c.cq)) (consume_if true q c.qp)

-- ---- poll

-- "2; empty 9"
unfoldable pub poll_checks : Card → (n : ℕ) → List Check
poll_checks c n = 2 if not (cq_live c n) ∷ 9 if is_empty (c.cq n).entries ∷ []

-- "the oldest completion leaves the queue"
unfoldable pub polled : Card → (n : ℕ) → Card
polled c n = with_cq c (upd c.cq n (with_entries (c.cq n) (tail (c.cq n).entries)))

-- it is what the poll gives back; nothing where the queue is empty, which is refused
abbrev pub oldest_entry : Card → (n : ℕ) → Completion
oldest_entry c n = get_or (c.cq n).entries 0 no_completion
