-- Document 02, M-108, "The card keeps send queues and takes turns": enqueue, and the turn call, which runs the request at the head of a queue as
-- post send would. Assumes nothing.
use Rattle.std.specs.Prelude.{Bool, not, ◌&&◌, List, [], ◌∷◌, ◌++◌, ℕ, ◌+◌, ◌%◌, leb, length, get_or}
use Rattle.wire.specs.Checks.{Check, ◌if◌, refusal}
use Rattle.wire.specs.Scan.{lowest}
use Rattle.wire.specs.Slots.{upd}
use Rattle.tables.specs.Card.{Card, with_qp, with_queue, with_turn, tail}
use Rattle.tables.specs.Limits.{qp_count, most_queued}
use Rattle.tables.specs.Records.{Request}
use Rattle.rules.specs.Lists.{is_empty, is_some}
use Rattle.rules.specs.Touch.{no_request}
use Rattle.rules.specs.Send.{pair_checks, hold_checks, send_effect}

-- ---- enqueue

-- "document 01's tests up to answer 3, accepts state 6 too, and answers 8 exactly when the queue is full"
unfoldable pub enqueue_checks : Card → (q : ℕ) → List Check
enqueue_checks c q = pair_checks c q ++ (8 if leb most_queued (length (c.qp q).queue) ∷ [])

-- the request stands behind the others
unfoldable pub enqueued : Card → (q : ℕ) → Request → Card
enqueued c q r = with_qp c (upd c.qp q (with_queue (c.qp q) ((c.qp q).queue ++ (r ∷ []))))

-- ---- which queue pair a turn serves: next is the first to visit, runs says whose head may run

-- "visits the QPs from the one after the last served (from 0 after a reset), wrapping"
abbrev pub seat : (next i : ℕ) → ℕ
seat next i = (next + i) % qp_count

-- "and runs the first whose head isn't held": how many it passes over; 8 where there is none
unfoldable pub passed_over : (next : ℕ) → (runs : ℕ → Bool) → ℕ
passed_over next runs = lowest qp_count (λ i. runs (seat next i))

abbrev pub served_by : (next : ℕ) → (runs : ℕ → Bool) → ℕ
served_by next runs = seat next (passed_over next runs)

-- "the one after" q
abbrev pub after : (q : ℕ) → ℕ
after q = (q + 1) % qp_count

-- ---- a turn

-- the head of a queue: the oldest enqueued
abbrev pub head_of : Card → (q : ℕ) → Request
head_of c q = get_or (c.qp q).queue 0 no_request

-- a queue pair "whose head isn't held"; "A QP in error has its head flushed as in M-103, held without a place"
unfoldable pub runnable : Card → (q : ℕ) → Bool
runnable c q = (c.qp q).live && not (is_empty (c.qp q).queue) && not (is_some (refusal (hold_checks c q (head_of c q))))

unfoldable pub served : Card → ℕ
served c = served_by c.turn (runnable c)

-- "if none, answer 9"
unfoldable pub turn_checks : Card → List Check
turn_checks c = 9 if leb qp_count (passed_over c.turn (runnable c)) ∷ []

-- "and the head leaves its queue"; the next turn begins after q
unfoldable pub head_gone : Card → (q : ℕ) → Card
head_gone c q = with_turn (with_qp c (upd c.qp q (with_queue (c.qp q) (tail (c.qp q).queue)))) (after q)

-- the request runs as a post send of it would
unfoldable pub turn_effect : Card → Card
turn_effect c = head_gone (send_effect c (served c) (head_of c (served c))) (served c)
