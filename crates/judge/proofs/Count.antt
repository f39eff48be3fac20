-- Completions put, and the receives of a queue pair, add up. Assumes nothing.
use mathlib.Core.Path.{◌≡◌, refl, sym, ap, ◌∙◌}
use mathlib.Core.Bool.{Bool, true, false, cond, not, ◌&&◌, ◌||◌, true≢false, false≢true}
use mathlib.Core.List.{List, [], ◌∷◌, ◌++◌, append-nil, append_assoc}
use mathlib.Core.Option.{Option, none, some}
use Prim.Native.Nat.{ℕ, ◌+◌, ◌≤◌}
use native.Mathlib.Omega.{arith}
use lib.Dec.{eqb, leb}
use lib.ListN.{length, length-append}
use borrow.Author.Tests.{eqb-true, ltb-false}
use Rattle.wire.specs.Checks.{Passed}
use Rattle.wire.proofs.SlotLaws.{split, same}
use Rattle.wire.specs.Slots.{upd}
use Rattle.tables.specs.Card.{Card, Cq, Qp, Receive, free_cq, tail, with_cq, with_queue}
use Rattle.tables.proofs.AckLaws.{need_least}
use Rattle.tables.specs.Commands.{Command, command_of, ack_least, encode_ack, numbers_of, ack_need}
use Rattle.validate.specs.Search.{free_cqn, free_qpn}
use Rattle.tables.specs.declared.Completion.{Completion}
use Rattle.rules.specs.Lists.{is_empty, when, maybe}
use Rattle.rules.specs.Touch.{receive_in, fills, reads}
use Rattle.tables.specs.Records.{Request, request_of}
use Rattle.rules.specs.Control.{command_checks, command_ack, command_effect}
use Rattle.rules.specs.Turn.{served, head_of, enqueued, head_gone, turn_effect}
use Rattle.rules.specs.Send.{Put, is_in_error, peer_of, consumes, fails, sender_opcode, receiver_opcode, sender_put, receiver_put, error_if, consume_if, send_status, send_puts, pushed, put_all, send_qps, send_effect}
use Rattle.rules.specs.Queues.{flushes_at_once, flushed_put, join_status, join_puts, flush_checks, flush_put, flushed, joined, received, polled}
use Rattle.rules.specs.Call.{Call}
use Rattle.rules.specs.Calls.{checks, control_checks, effect, status_of, value_of, buffer_after, buffer_refused, owed}
use Rattle.rules.specs.declared.Answer.TheVariants.{Done}
use Rattle.rules.proofs.Sent.{sent_live}
use Rattle.rules.proofs.Tests.{passed_before, passed_after}
use Rattle.judge.specs.Log.{Log, PairNote, note_command, ack_data, Note, next_on}
use Rattle.judge.specs.Whole.{Met}
use Rattle.judge.specs.Demand3.{Seen, heard, state_after, Linked, AfterReset}
use Rattle.judge.specs.Count.{puts, put_into, stays_by, stays, PutsBy, Puts, receive_puts, Tally, none_yet, counted_by, noted, completed, tallied, tally_after, Counted}
use Rattle.judge.proofs.Acks.{ack_back}
use Rattle.judge.proofs.Pairs.{error_waiting}
use Rattle.judge.proofs.Agree.{Going, sendable, turning, finds_receive}
use Rattle.judge.proofs.Run.{of_owed, of_refused, fresh_card}

-- ---- completions put

put_all_lem : (ps : List Put) (f : ℕ → Cq) (n : ℕ) → (put_all ps f n).entries ≡ (f n).entries ++ put_into n ps
unfolding put_all put_into
put_all_lem [] f n = sym (append-nil (f n).entries)
put_all_lem (p ∷ ps) f n = put_all_lem ps (pushed p f) n ∙ go (eqb p.cqn n) refl
  where
    rest : List Completion
    rest = put_into n ps

    go : (b : Bool) → eqb p.cqn n ≡ b → (pushed p f n).entries ++ rest ≡ (f n).entries ++ cond b (p.entry ∷ rest) rest
    go true e = rw e (ap (λ (x : ℕ). ((f x).entries ++ (p.entry ∷ [])) ++ rest) (eqb-true p.cqn n e) ∙ append_assoc (f n).entries (p.entry ∷ []) rest)
    go false e = rw e

-- a slot that is set to an empty queue
emptied : (b : Bool) (s t : Cq) → s.entries ≡ [] → (cond b s t).entries ≡ cond b [] t.entries
emptied true s t e = e
emptied false s t e = refl

command_puts : (c : Card) (k : Command) (n : ℕ) → ((command_effect c k).cq n).entries ≡ stays_by c k n (c.cq n).entries
unfolding command_effect
command_puts c Command.query_device n = refl
command_puts c Command.query_port n = refl
command_puts c (Command.create_cq p) n = emptied (eqb (free_cqn c) n) (record { live = true; places = p; entries = [] }) (c.cq n) refl
command_puts c (Command.destroy_cq i) n = emptied (eqb i n) free_cq (c.cq n) refl
command_puts c Command.create_pd n = refl
command_puts c (Command.destroy_pd i) n = refl
command_puts c (Command.register g) n = refl
command_puts c (Command.deregister i) n = refl
command_puts c (Command.create_qp r) n = refl
command_puts c (Command.modify_qp r) n = refl
command_puts c (Command.destroy_qp q) n = refl

known_puts : (c : Card) (o : Option Command) (n : ℕ)
    → ((maybe c (command_effect c) o).cq n).entries ≡ maybe (c.cq n).entries (λ k. stays_by c k n (c.cq n).entries) o
known_puts c none n = refl
known_puts c (some k) n = command_puts c k n

polled_puts : (c : Card) (i n : ℕ) → ((polled c i).cq n).entries ≡ cond (eqb i n) (tail (c.cq n).entries) (c.cq n).entries
unfolding polled
polled_puts c i = split i _ (rw (same i)) (λ j e. rw e)

received_puts : (c : Card) (q : ℕ) (w : Receive) (n : ℕ) → ((received c q w).cq n).entries ≡ (c.cq n).entries ++ put_into n (join_puts c q w)
unfolding received joined join_puts put_into
received_puts c q w n = go (flushes_at_once c q)
  where
    go : (b : Bool) → let ps = cond b (flushed_put c q w.wr ∷ []) [] in
        ((cond {A = Card} b (with_cq c (put_all ps c.cq)) (joined c q w)).cq n).entries ≡ (c.cq n).entries ++ put_into n ps
    go true = put_all_lem (flushed_put c q w.wr ∷ []) c.cq n
    go false = sym (append-nil (c.cq n).entries)

call_puts : (c : Card) (k : Call) (n : ℕ) → ((effect c k).cq n).entries ≡ stays c k n ++ put_into n (puts c k)
unfolding effect enqueued turn_effect head_gone send_effect flushed polled stays puts put_into
call_puts c (Call.reset m) n = refl
call_puts c (Call.control k a) n = known_puts c (command_of k) n ∙ sym (append-nil (maybe (c.cq n).entries (λ x. stays_by c x n (c.cq n).entries) (command_of k)))
call_puts c (Call.register_pages k ps a) n = sym (append-nil (c.cq n).entries)
call_puts c (Call.send q x m) n = put_all_lem (send_puts c q (request_of x) (send_status c q (request_of x))) c.cq n
call_puts c (Call.receive q x) n = received_puts c q (receive_in x) n
call_puts c (Call.flush q) n = put_all_lem (flush_put c q ∷ []) c.cq n
call_puts c (Call.enqueue q x m) n = sym (append-nil (c.cq n).entries)
call_puts c (Call.turn m) n =
    put_all_lem (send_puts c (served c) (head_of c (served c)) (send_status c (served c) (head_of c (served c)))) c.cq n
call_puts c (Call.poll i b) n = polled_puts c i n ∙ sym (append-nil (cond (eqb i n) (tail (c.cq n).entries) (c.cq n).entries))

pub call_puts_by : (st : List ℕ) (l : Log) (cardOf : List ℕ → Card) (accepts : List ℕ → Bool) (x : Seen) → Met cardOf accepts st x → Puts cardOf st l x
call_puts_by st l cardOf accepts x h =
    rw (h.answer, h.card)
    (of_owed (λ c k r. PutsBy r.answer c r.card k) (λ c k n. of_refused (λ r. PutsBy r c c k) (λ e. refl) (λ e. refl) n)
    (λ c k p. call_puts c k) cardOf accepts st x.call)

-- ---- a live queue pair's tally adds up

abbrev Sums : Qp → Tally → Type 0
Sums s t = s.live ≡ true → t.accepted ≡ t.put + t.dropped + length s.waiting

abbrev Counts : (ℕ → Qp) → (ℕ → Tally) → Type 0
Counts qp t = (q : ℕ) → Sums (qp q) (t q)

-- no completion more
same_sums : (s : Qp) (t : Tally) → Sums s t → Sums s (completed 0 t)
same_sums s t h e = let k = h e in omega arith

-- ---- control commands

module _ (c : Card) (t : ℕ → Tally) (a : Counts c.qp t) where
  abbrev Command_counts : Command → Type 0
  Command_counts k = (q : ℕ) → Sums ((command_effect c k).qp q) (noted (note_command k (numbers_of (command_ack c k))) q (length (c.qp q).waiting) (t q))

  changed_sums : (s : Qp) (v : Tally) (z : Bool) → v.accepted ≡ v.put + v.dropped + length s.waiting →
      let v' = cond z (record { accepted = v.accepted; put = v.put; dropped = v.dropped + length s.waiting }) v in
      v'.accepted ≡ v'.put + v'.dropped + length (cond z [] s.waiting)
  changed_sums s v true e = omega arith
  changed_sums s v false e = e

  command : (k : Command) → Command_counts k
  unfolding command_effect command_ack
  command Command.query_device = a
  command Command.query_port = a
  command (Command.create_cq n) = a
  command (Command.destroy_cq n) = a
  command Command.create_pd = a
  command (Command.destroy_pd n) = a
  command (Command.register g) = a
  command (Command.deregister n) = a
  command (Command.create_qp r) = split (free_qpn c) _ (rw same (λ e. refl)) (λ j e. rw e (a j))
  command (Command.modify_qp r) =
      split r.qpn _ (rw same (λ e. changed_sums (c.qp r.qpn) (t r.qpn) (eqb r.state 0) (a r.qpn e))) (λ j e. rw e (a j))
  command (Command.destroy_qp q) = split q _ (rw same (λ e. absurd (false≢true e))) (λ j e. rw e (a j))

-- ---- a receive leaves

rest_length : (ws : List Receive) → is_empty ws ≡ false → 1 + length (tail ws) ≡ length ws
rest_length [] e = absurd (true≢false e)
rest_length (w ∷ ws) e = omega arith

-- n of the receives that waited are completed, and ws wait on
takes_some : (s : Qp) (v : Tally) (n : ℕ) (ws : List Receive) → n + length ws ≡ length s.waiting → Sums s v →
    s.live ≡ true → v.accepted ≡ (v.put + n) + v.dropped + length ws
takes_some s v n ws e h l = let k = h l in omega arith

joins_one : (s : Qp) (v : Tally) (w : Receive) → Sums s v → s.live ≡ true →
    v.accepted + 1 ≡ (v.put + 0) + v.dropped + length (s.waiting ++ (w ∷ []))
joins_one s v w h l = let k = h l in let n = length-append s.waiting (w ∷ []) in omega arith

-- one that is flushed at once is accepted and put
flushes_one : (s : Qp) (v : Tally) → Sums s v → s.live ≡ true → v.accepted + 1 ≡ (v.put + 1) + v.dropped + length s.waiting
flushes_one s v h l = let k = h l in omega arith

posted_counts : (c : Card) (q : ℕ) (w : Receive) (t : ℕ → Tally) → Counts c.qp t → (st : ℕ) →
    Counts (received c q w).qp
    (λ j. completed (receive_puts j (join_puts c q w)) (when (eqb q j) (counted_by (PairNote.posted w st) (length (c.qp j).waiting)) (t j)))
unfolding received joined join_puts receive_puts
posted_counts c q w t a st = go (flushes_at_once c q)
  where
    go : (b : Bool) → let ps = cond b (flushed_put c q w.wr ∷ []) [] in
        Counts (cond {A = Card} b (with_cq c (put_all ps c.cq)) (joined c q w)).qp
        (λ j. completed (receive_puts j ps) (when (eqb q j) (counted_by (PairNote.posted w st) (length (c.qp j).waiting)) (t j)))
    go true = split q _ (rw same (flushes_one (c.qp q) (t q) (a q))) (λ j e. rw e (same_sums (c.qp j) (t j) (a j)))
    go false = split q _ (rw same (joins_one (c.qp q) (t q) w (a q))) (λ j e. rw e (same_sums (c.qp j) (t j) (a j)))

-- ---- a send

module _ (c : Card) (q : ℕ) (r : Request) (s : ℕ) where
  abbrev d : ℕ
  d = peer_of c q

  abbrev f : ℕ → Qp
  f = error_if (fails s) q c.qp

  sender_count : (j : ℕ) → (eqb q j && leb 3 (sender_opcode r.opcode)) ≡ false
  sender_count j = go (reads r.opcode) (fills r.opcode) (eqb q j)
    where
      go : (x y z : Bool) → (z && leb 3 (cond x 2 (cond y 0 1))) ≡ false
      go true y true = refl
      go true y false = refl
      go false true true = refl
      go false true false = refl
      go false false true = refl
      go false false false = refl

  receiver_count : (j : ℕ) → (eqb d j && leb 3 (receiver_opcode r.opcode)) ≡ eqb d j
  receiver_count j = go (eqb r.opcode 1) (eqb d j)
    where
      go : (x z : Bool) → (z && leb 3 (cond x 4 3)) ≡ z
      go true true = refl
      go true false = refl
      go false true = refl
      go false false = refl

  sent_count : (j : ℕ) → receive_puts j (send_puts c q r s) ≡ cond (consumes r.opcode s && eqb d j) 1 0
  unfolding receive_puts send_puts
  sent_count j =
      go (not (eqb s 0) || eqb (c.qp q).signal 0 || r.signaled) (consumes r.opcode s)
    where
      go : (x y : Bool) → receive_puts j (cond x (sender_put c q r s ∷ []) [] ++ cond y (receiver_put c q r s ∷ []) []) ≡ cond (y && eqb d j) 1 0
      go true true = rw (sender_count j, receiver_count j) (omega arith)
      go true false = rw (sender_count j)
      go false true = rw (receiver_count j) (omega arith)
      go false false = refl

  sent_waiting : (consumes r.opcode s ≡ true → is_empty (c.qp d).waiting ≡ false) → (j : ℕ) →
      cond (consumes r.opcode s && eqb d j) 1 0 + length (send_qps c q r s j).waiting ≡ length (c.qp j).waiting
  unfolding send_qps
  sent_waiting h j =
      rw (error_waiting (eqb s 7) d (consume_if (consumes r.opcode s) d f) j) (go (consumes r.opcode s) refl)
    where
      same_waiting : (i : ℕ) → (f i).waiting ≡ (c.qp i).waiting
      same_waiting i = error_waiting (fails s) q c.qp i

      go : (b : Bool) → consumes r.opcode s ≡ b → cond (b && eqb d j) 1 0 + length (consume_if b d f j).waiting ≡ length (c.qp j).waiting
      go false e = let k = ap length (same_waiting j) in omega arith
      go true e =
          split d (λ i. cond (eqb d i) 1 0 + length (consume_if true d f i).waiting ≡ length (c.qp i).waiting)
          (rw (same d, same_waiting d) (rest_length (c.qp d).waiting (h e)))
          (λ i x. rw x (let k = ap length (same_waiting i) in omega arith)) j

-- a note of a work request counts nothing by itself
sent_noted : (b t : Bool) (r : Request) (s w : ℕ) (v : Tally) → when b (counted_by (PairNote.sent t r s) w) v ≡ v
sent_noted true t r s w v = refl
sent_noted false t r s w v = refl

-- a request sent or run by a turn, whatever it does to the queues: f are the queue pairs after it
module _ (c : Card) (q : ℕ) (r : Request) (going : is_in_error (c.qp q) ≡ false → Going c q r) (t : ℕ → Tally) (a : Counts c.qp t) where
  abbrev st : ℕ
  st = send_status c q r

  sent_counts : (b : Bool) (f : ℕ → Qp) → ((j : ℕ) → (f j).live ≡ (send_qps c q r st j).live) → ((j : ℕ) → (f j).waiting ≡ (send_qps c q r st j).waiting) →
      (note : Request) →
      Counts f
      (λ j. completed (receive_puts j (send_puts c q r st)) (when (eqb q j) (counted_by (PairNote.sent b note st) (length (c.qp j).waiting)) (t j)))
  sent_counts b f lives waits note j e =
      rw (sent_noted (eqb q j) b note st (length (c.qp j).waiting) (t j), sent_count c q r st j, waits j)
      (takes_some (c.qp j) (t j) (cond (consumes r.opcode st && eqb (peer_of c q) j) 1 0) (send_qps c q r st j).waiting
      (sent_waiting c q r st (finds_receive c q r going) j) (a j) (sym (lives j ∙ sent_live c q r st j) ∙ e))

other_queue : (f : ℕ → Qp) (q : ℕ) (rs : List Request) (j : ℕ) →
    ((upd f q (with_queue (f q) rs) j).live ≡ (f j).live) × ((upd f q (with_queue (f q) rs) j).waiting ≡ (f j).waiting)
other_queue f q rs =
    split q (λ j. ((upd f q (with_queue (f q) rs) j).live ≡ (f j).live) × ((upd f q (with_queue (f q) rs) j).waiting ≡ (f j).waiting))
    (rw same (refl, refl)) (λ j e. rw e (refl, refl))

-- ---- every accepted call

counts_call : (c : Card) (k : Call) (l : Log) (t : ℕ → Tally) → Passed (checks c k) → Counts c.qp t →
    Counts (effect c k).qp (tallied c l k (Done (status_of c k)) (value_of c k) (buffer_after c k) t)
unfolding checks control_checks flush_checks effect send_effect enqueued turn_effect head_gone flushed polled status_of value_of buffer_after tallied puts receive_puts
counts_call c (Call.reset n) l t p a = λ q e. absurd (false≢true e)
counts_call c (Call.control k b) l t p a =
    known (command_of k) (passed_after (control_checks k b) (maybe [] (command_checks c) (command_of k)) p)
  where
    wide : ack_least ≤ length b
    wide =
        let n : ack_need k ≤ length b = ltb-false (length b) (ack_need k) (passed_before (control_checks k b) (maybe [] (command_checks c) (command_of k)) p).0 in
        let m : ack_least ≤ ack_need k = need_least k in
        omega arith

    known : (o : Option Command) → Passed (maybe [] (command_checks c) o) →
        Counts (maybe c (command_effect c) o).qp
        (λ q. completed 0 (noted (maybe Note.other (λ x. note_command x (maybe [] (λ y. ack_data y (maybe b (λ q. encode_ack (command_ack c q) b) o)) o)) o)
        q (length (c.qp q).waiting) (t q)))
    known none s = λ q. same_sums (c.qp q) (t q) (a q)
    known (some x) s =
        rw (ack_back b wide c x s)
        (λ q. same_sums ((command_effect c x).qp q) (noted (note_command x (numbers_of (command_ack c x))) q (length (c.qp q).waiting) (t q)) (command c t a x q))
counts_call c (Call.register_pages k ps b) l t p a = λ q. same_sums (c.qp q) (t q) (a q)
counts_call c (Call.send q x m) l t p a =
    let r : Request = request_of x in
    sent_counts c q r (sendable c q x m p).going t a false (send_qps c q r (send_status c q r)) (λ j. refl) (λ j. refl) r
counts_call c (Call.enqueue q x m) l t p a =
    split q _ (rw same (same_sums (c.qp q) (t q) (a q))) (λ j e. rw e (same_sums (c.qp j) (t j) (a j)))
counts_call c (Call.turn m) l t p a =
    let q : ℕ = served c in
    let r : Request = head_of c q in
    let f : ℕ → Qp = send_qps c q r (send_status c q r) in
    sent_counts c q r (turning c m p).going t a true (upd f q (with_queue (f q) (tail (f q).queue)))
    (λ j. (other_queue f q (tail (f q).queue) j).0) (λ j. (other_queue f q (tail (f q).queue) j).1) (next_on l q)
counts_call c (Call.receive q x) l t p a = posted_counts c q (receive_in x) t a (join_status c q)
counts_call c (Call.flush q) l t p a =
    split q _
    (rw same (λ e. takes_some (c.qp q) (t q) 1 (tail (c.qp q).waiting) (rest_length (c.qp q).waiting p.1.1.0) (a q) e))
    (λ j e. rw e (same_sums (c.qp j) (t j) (a j)))
counts_call c (Call.poll n b) l t p a = λ q. same_sums (c.qp q) (t q) (a q)

-- ---- the list

module _ (Made : (st : List ℕ) → Seen → Type 0) (cardOf : List ℕ → Card) (accepts : List ℕ → Bool)
    (met : (st : List ℕ) (x : Seen) → Made st x → Met cardOf accepts st x) where
  counts_on : (st : List ℕ) (l : Log) (k : Call) (t : ℕ → Tally) → Counts (cardOf st).qp t →
      let r = owed cardOf accepts st k in Counts r.card.qp (tallied (cardOf st) l k r.answer r.value r.buffer t)
  unfolding tallied
  counts_on st l k t a =
      of_owed (λ c k r. Counts c.qp t → Counts r.card.qp (tallied c l k r.answer r.value r.buffer t))
      (λ c k n h. of_refused (λ r. Counts c.qp (tallied c l k r 0 (buffer_refused n k) t)) (λ e. h) (λ e. h) n)
      (λ c k p h. counts_call c k l t p h) cardOf accepts st k a

  counts_list : (st : List ℕ) (l : Log) (t : ℕ → Tally) (xs : List Seen) → Counts (cardOf st).qp t → Linked Made st xs →
      Counts (cardOf (state_after st xs)).qp (tally_after cardOf t st l xs)
  unfolding Linked state_after tally_after
  counts_list st l t [] a h = a
  counts_list st l t (x ∷ xs) a h =
      let m = met st x h.0 in
      counts_list x.left.state (heard l x) (tallied (cardOf st) l x.call x.left.answer x.left.value x.left.buffer t) xs
      (rw (m.card, m.answer, m.value, m.buffer) (counts_on st l x.call t a)) h.1

  pub counted : Counted Made cardOf
  unfolding AfterReset
  counted x b xs links q = counts_list x.left.state b.base (λ i. none_yet) xs
      (rw (fresh_card Made cardOf accepts met x b).card (λ q e. absurd (false≢true e))) links q
