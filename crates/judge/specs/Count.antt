-- Document 01: "Since a QP's creation, accepted receives equal its receive completions put, plus those dropped (the ones
-- waiting at each move to 0), plus those waiting." A statement along the list of calls; no table keeps a count. Assumes
-- nothing.
use Rattle.std.specs.Prelude.{◌≡◌, true, cond, ◌&&◌, List, [], ◌∷◌, ◌++◌, ℕ, ◌+◌, eqb, leb, length}
use Rattle.std.proofs.Math.Option.{Option, none, some}
use Rattle.tables.specs.Card.{Card, tail}
use Rattle.tables.specs.Commands.{Command, command_of}
use Rattle.validate.specs.Search.{free_cqn}
use Rattle.tables.specs.declared.Completion.{Completion}
use Rattle.rules.specs.declared.Answer.{Answer}
use Rattle.rules.specs.declared.Answer.TheVariants.{Done, Held, Refused}
use Rattle.rules.specs.Lists.{when, maybe}
use Rattle.rules.specs.Send.{Put, send_puts, send_status}
use Rattle.rules.specs.Turn.{served, head_of}
use Rattle.rules.specs.Queues.{flush_put, join_puts}
use Rattle.rules.specs.Call.{Call, OnPair, given}
use Rattle.judge.specs.Log.{Log, Note, PairNote, entry, note, begins}
use Rattle.judge.specs.Demand3.{Seen, Claim, heard, state_after, AfterReset}

-- ---- completions put

-- the completions that a call puts when it is done, by what it does on a queue pair
unfoldable pub puts_on : Card → OnPair → List Put
puts_on c OnPair.nothing = []
puts_on c (OnPair.sends q r) = send_puts c q r (send_status c q r)
puts_on c (OnPair.receives q w) = join_puts c q w
puts_on c (OnPair.flushes q) = flush_put c q ∷ []
puts_on c (OnPair.enqueues q r) = []
puts_on c OnPair.turns = let q = served c in send_puts c q (head_of c q) (send_status c q (head_of c q))

unfoldable pub puts : Card → Call → List Put
unfolding puts_on
puts c k = puts_on c (given k).pair

-- those that go into queue n
unfoldable pub put_into : (n : ℕ) → List Put → List Completion
put_into n [] = []
put_into n (p ∷ ps) = cond (eqb p.cqn n) (p.entry ∷ put_into n ps) (put_into n ps)

-- what stays of the unread completions es of queue n: a new queue has none, and one that is destroyed takes them along,
abbrev pub stays_by : Card → Command → (n : ℕ) → List Completion → List Completion
stays_by c Command.query_device n es = es
stays_by c Command.query_port n es = es
stays_by c (Command.create_cq p) n es = cond (eqb (free_cqn c) n) [] es
stays_by c (Command.destroy_cq i) n es = cond (eqb i n) [] es
stays_by c Command.create_pd n es = es
stays_by c (Command.destroy_pd i) n es = es
stays_by c (Command.register g) n es = es
stays_by c (Command.deregister i) n es = es
stays_by c (Command.create_qp r) n es = es
stays_by c (Command.modify_qp r) n es = es
stays_by c (Command.destroy_qp q) n es = es

-- and a poll takes the oldest
unfoldable pub stays : Card → Call → (n : ℕ) → List Completion
stays c (Call.reset m) n = []
stays c (Call.control k a) n = maybe (c.cq n).entries (λ x. stays_by c x n (c.cq n).entries) (command_of k)
stays c (Call.register_pages k ps a) n = (c.cq n).entries
stays c (Call.send q x m) n = (c.cq n).entries
stays c (Call.receive q x) n = (c.cq n).entries
stays c (Call.flush q) n = (c.cq n).entries
stays c (Call.enqueue q x m) n = (c.cq n).entries
stays c (Call.turn m) n = (c.cq n).entries
stays c (Call.poll i b) n = cond (eqb i n) (tail (c.cq n).entries) (c.cq n).entries

-- the completion queues after a call, by its answer; c is the card before it and c' the card after it
abbrev pub PutsBy : Answer → (c c' : Card) → Call → Type 0
PutsBy (Done s) c c' k = (n : ℕ) → (c'.cq n).entries ≡ stays c k n ++ put_into n (puts c k)
PutsBy (Held e) c c' k = c'.cq ≡ c.cq
PutsBy (Refused e) c c' k = c'.cq ≡ c.cq

-- every call puts what is counted as put, and no more
abbrev pub Puts : (cardOf : List ℕ → Card) → Claim
Puts cardOf st l x = PutsBy x.left.answer (cardOf st) (cardOf x.left.state) x.call

-- ---- receives counted

-- how many receive completions of q there are among them: opcode 3 or 4, owner q
unfoldable pub receive_puts : (q : ℕ) → List Put → ℕ
receive_puts q [] = 0
receive_puts q (p ∷ ps) = cond (eqb p.entry.owner q && leb 3 p.entry.opcode) 1 0 + receive_puts q ps

-- a queue pair's receives since its creation
pub record Tally : Type 0 where
  pub accepted : ℕ
  pub put : ℕ
  pub dropped : ℕ

abbrev pub none_yet : Tally
none_yet = record { accepted = 0; put = 0; dropped = 0 }

-- what a note of the queue pair counts, on which w receives waited before the call; 02, M-103: "The count of accepted
-- receives includes those flushed at once", which are put by the same call
abbrev pub counted_by : PairNote → (w : ℕ) → Tally → Tally
counted_by (PairNote.created r) w t = none_yet
counted_by (PairNote.changed r) w t =
    cond (eqb r.state 0) (record { accepted = t.accepted; put = t.put; dropped = t.dropped + w }) t
counted_by (PairNote.posted r s) w t = record { accepted = t.accepted + 1; put = t.put; dropped = t.dropped }
counted_by PairNote.flushed w t = t
counted_by (PairNote.enqueued r) w t = t
counted_by (PairNote.sent q r s) w t = t

abbrev pub noted : Note → (q w : ℕ) → Tally → Tally
noted (Note.of_key n) q w t = t
noted (Note.of_pair x n) q w t = when (eqb x q) (counted_by n w) t
noted Note.other q w t = t

abbrev pub completed : (n : ℕ) → Tally → Tally
completed n t = record { accepted = t.accepted; put = t.put + n; dropped = t.dropped }

abbrev pub unless_begun : Option Log → Tally → Tally
unless_begun none t = t
unless_begun (some base) t = none_yet

-- the tallies after a call, with the card c and the log l before it; v is the value and b the answer buffer that it leaves
unfoldable pub tallied : Card → Log → Call → Answer → (v : ℕ) → (b : List ℕ) → (ℕ → Tally) → ℕ → Tally
tallied c l k (Done s) v b t q =
    unless_begun (begins k)
    (completed (receive_puts q (puts c k)) (noted (note l (entry k s v b)) q (length (c.qp q).waiting) (t q)))
tallied c l k (Held e) v b t q = t q
tallied c l k (Refused n) v b t q = t q

unfoldable pub tally_after : (cardOf : List ℕ → Card) → (ℕ → Tally) → (st : List ℕ) → Log → List Seen → ℕ → Tally
tally_after cardOf t st l [] = t
tally_after cardOf t st l (x ∷ xs) =
    tally_after cardOf (tallied (cardOf st) l x.call x.left.answer x.left.value x.left.buffer t) x.left.state (heard l x) xs

-- after every list of calls that follows a reset answered 0, for every live queue pair
abbrev pub Counted : (Made : (st : List ℕ) → Seen → Type 0) → (cardOf : List ℕ → Card) → Type 0
Counted Made cardOf =
    AfterReset Made (λ st l xs. (q : ℕ) →
    let s = (cardOf (state_after st xs)).qp q in
    let t = tally_after cardOf (λ i. none_yet) st l xs q in
    s.live ≡ true → t.accepted ≡ t.put + t.dropped + length s.waiting)
