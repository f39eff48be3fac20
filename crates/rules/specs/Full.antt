-- Answer 8: "table or receive queue full, exactly if no number or place is free". Assumes nothing.
use Rattle.std.specs.Prelude.{◌≡◌, Bool, false, cond, not, List, [], ◌∷◌, ◌++◌, ℕ, eqb, leb, length}
use Rattle.wire.specs.Checks.{Check, ◌if◌, refusal}
use Rattle.wire.specs.Scan.{any_below}
use Rattle.tables.specs.Card.{Card, cq_live}
use Rattle.tables.specs.Commands.{Command}
use Rattle.tables.specs.Limits.{pd_count, cq_count, mr_count, qp_count, most_waiting, most_queued}
use Rattle.validate.specs.Search.{vacant}
use Rattle.rules.specs.Call.{Call, OnPair, given}
use Rattle.rules.specs.Calls.{checks}
use Rattle.rules.specs.Lists.{maybe}

-- "no number .. is free" among those below n
abbrev pub none_free : (n : ℕ) → (free : ℕ → Bool) → Bool
none_free n free = not (any_below n free)

-- of the regions; 02, M-109: "the lowest free slot that isn't retired; 8 is given exactly when there is none"
abbrev pub no_region_free : Card → Bool
no_region_free c = none_free mr_count (λ i. vacant (c.mr i))

-- of the table that a command takes a number in; the others take none
abbrev pub table_full : Card → Command → Bool
table_full c Command.query_device = false
table_full c Command.query_port = false
table_full c (Command.create_cq n) = none_free cq_count (λ i. not (cq_live c i))
table_full c (Command.destroy_cq n) = false
table_full c Command.create_pd = none_free pd_count (λ i. not (c.pd i))
table_full c (Command.destroy_pd n) = false
table_full c (Command.register g) = no_region_free c
table_full c (Command.deregister n) = false
table_full c (Command.create_qp r) = none_free qp_count (λ i. not (c.qp i).live)
table_full c (Command.modify_qp r) = false
table_full c (Command.destroy_qp q) = false

-- of the receive queue that a call posts on, and the send queue
abbrev pub queue_full : Card → OnPair → Bool
queue_full c OnPair.nothing = false
queue_full c (OnPair.sends q r) = false
queue_full c (OnPair.receives q w) = leb most_waiting (length (c.qp q).waiting)
queue_full c (OnPair.flushes q) = false
-- 02, M-108: "answers 8 exactly when the queue is full"
queue_full c (OnPair.enqueues q r) = leb most_queued (length (c.qp q).queue)
queue_full c OnPair.turns = false

-- no number, or no place in the receive queue, is free for the call
abbrev pub is_full : Card → Call → Bool
is_full c k = maybe (queue_full c (given k).pair) (table_full c) (given k).command

-- the tests with another answer than 8
abbrev pub others : List Check → List Check
others [] = []
others (t ∷ ts) = cond (eqb t.no 8) (others ts) (t ∷ others ts)

-- every call is refused by its other tests, and where they pass with 8 exactly if it is full
unfoldable pub FullExactly : Type 0
FullExactly = (c : Card) (k : Call) → refusal (checks c k) ≡ refusal (others (checks c k) ++ (8 if is_full c k ∷ []))
