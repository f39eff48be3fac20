-- The card agrees with the log: what each accepted call does to both. Assumes nothing.
use mathlib.Core.Path.{◌≡◌, refl, sym, ap, subst, ◌∙◌}
use mathlib.Core.Bool.{Bool, true, false, cond, not, ◌&&◌, false≢true}
use mathlib.Core.List.{List, [], ◌∷◌}
use mathlib.Core.Option.{Option, none, some}
use Prim.Native.Nat.{ℕ, ◌+◌, ◌<◌, ◌≤◌}
use native.Mathlib.Nat.{mod-lt}
use native.Mathlib.Omega.{arith}
use lib.Dec.{eqb, leb}
use lib.ListN.{length, get_or}
use borrow.Author.Tests.{eqb-true, ltb-false, leb-false, not-false, not-true}
use Rattle.wire.specs.Checks.{refusal, Passed}
use Rattle.wire.specs.Scan.{lowest}
use Rattle.wire.proofs.CheckLaws.{passed}
use Rattle.wire.proofs.ScanLaws.{and_left, and_right, and_off, lowest_passes}
use Rattle.wire.proofs.SlotLaws.{split, same}
use Rattle.tables.specs.Limits.{mr_count, qp_count, most_address, most_message}
use Rattle.tables.specs.Card.{Card, Mr, Qp, Receive, fresh, with_cq}
use Rattle.tables.specs.State.{pages_needed}
use Rattle.tables.proofs.AckLaws.{need_least}
use Rattle.tables.specs.Commands.{Command, command_of, ack_least, encode_ack, numbers_of, ack_need}
use Rattle.tables.specs.Records.{send_checks}
use Rattle.tables.specs.declared.Registration.{Registration}
use Rattle.rules.specs.Lists.{All, is_some, is_empty, names, or_else, maybe}
use Rattle.rules.specs.Touch.{no_request, receive_in, takes, fills, total, sge_total, own_bytes, far_bytes}
use Rattle.tables.specs.Records.{Request, request_of}
use Rattle.rules.specs.Permit.{permits_all}
use Rattle.rules.specs.Control.{command_checks, command_ack, command_effect, registered}
use Rattle.rules.specs.Pages.{page_record_checks, page_list_checks}
use Rattle.validate.specs.Search.{free_mrn, free_qpn}
use Rattle.rules.specs.Turn.{seat, passed_over, runnable, head_of, served, enqueue_checks, enqueued, turn_checks, head_gone, turn_effect}
use Rattle.rules.specs.Send.{pair_checks, queue_checks, ready_checks, hold_checks, delivery_checks, is_in_error, peer_of, taken_by, ready, consumes, fails, error_if, consume_if, put_all, own_use, far_use, status_by, run_status, send_status, send_qps, send_effect}
use Rattle.rules.specs.Queues.{flushes_at_once, join_status, join_puts, joined, received, flush_checks, flushed, polled}
use Rattle.rules.specs.Call.{Call, registration_in}
use Rattle.rules.specs.Calls.{checks, memory_checks, control_checks, effect, status_of, value_of, buffer_after}
use Rattle.rules.specs.declared.Answer.TheVariants.{Done}
use Rattle.rules.proofs.Dropped.{has_slot, has_slot_paged}
use Rattle.rules.proofs.Sent.{sent_queue}
use Rattle.rules.proofs.Tests.{passed_before, passed_after}
use Rattle.rules.proofs.Variants.{slot_free}
use Rattle.judge.specs.Log.{Log, PairNote, note_registration, note_command, fed, ack_data, Note, told, enqueued_on, turns_on, queued, next_on}
use Rattle.judge.specs.Judge.{Standing, standing, domain, peer, accepted, consumed, told_of_both, errored, rights}
use Rattle.judge.specs.Distinct.{handed, Distinct}
use Rattle.judge.specs.Dropped.{ended}
use Rattle.judge.proofs.Acks.{keys_back, ack_back}
use Rattle.judge.proofs.Keys
use Rattle.judge.proofs.Keys.{Inside, Keys}
use Rattle.judge.proofs.Pairs
use Rattle.judge.proofs.Pairs.{Good, Pair, Said, said, said_by}

-- the tables agree with what a log says. The parameters are functions, so that where a call changes none of them the old agreement is the new one.
pub record Agreed (n t : ℕ) (mr : ℕ → Mr) (qp : ℕ → Qp) (st : ℕ → Option Standing) (en hd : ℕ → Bool) (D : Type 0) (sd : ℕ → Said) : Type 0 where
  pub keys : Keys n mr st en hd D
  pub pairs : (q : ℕ) → Pair (qp q) (sd q)
  -- the turn place is a queue pair's number
  pub turn : t < qp_count

abbrev pub Agree : Card → Log → Type 0
Agree c l = Agreed c.memory c.turn c.mr c.qp (standing l) (ended l) (handed l) (Distinct l) (said l)

-- ---- control commands

module _ (c : Card) (l : Log) (a : Agree c l) where
  -- a registration of either kind
  registers : (g : Registration) (ps : List ℕ) → free_mrn c < mr_count → Inside c.memory ps g →
      Agree (registered c g ps) (note_registration (numbers_of (command_ack c (Command.register g))) g ps ∷ l)
  unfolding command_ack standing ended handed Distinct told domain peer accepted consumed told_of_both errored rights enqueued_on turns_on
  registers g ps i fits =
      record {
        keys =
            Keys.registers c.memory c.mr (standing l) (ended l) (handed l) (Distinct l) a.keys (free_mrn c) g ps (slot_free c i).0 (slot_free c i).1
            fits;
        pairs = a.pairs;
        turn = a.turn;
      }

  command : (k : Command) → Passed (command_checks c k) → Agree (command_effect c k) (note_command k (numbers_of (command_ack c k)) ∷ l)
  unfolding command_checks command_effect command_ack standing ended handed Distinct told domain peer accepted consumed told_of_both errored rights enqueued_on turns_on
  command Command.query_device p = a
  command Command.query_port p = a
  command (Command.create_cq n) p = a
  command (Command.destroy_cq n) p = a
  command Command.create_pd p = a
  command (Command.destroy_pd n) p = a
  command (Command.register g) p =
      registers g [] (has_slot c g p)
      (Keys.flat_inside c.memory g (ltb-false c.memory (g.start + g.length) p.1.1.1.0)
      (ltb-false most_address (g.virt + g.length) p.1.1.1.1.0))
  command (Command.deregister n) p =
      record { keys = Keys.deregisters c.memory c.mr (standing l) (ended l) (handed l) (Distinct l) a.keys n; pairs = a.pairs; turn = a.turn }
  command (Command.create_qp r) p =
      record {
        keys = a.keys;
        pairs = split (free_qpn c) _ (rw same (λ e. Pairs.begins r (names (peer l (free_qpn c)) (free_qpn c)) (said l (free_qpn c)))) (λ j e. rw e (a.pairs j));
        turn = a.turn;
      }
  command (Command.modify_qp r) p =
      record {
        keys = a.keys;
        pairs = split r.qpn _ (rw same (λ e. Pairs.changes r (names (peer l r.qpn) r.qpn) (a.pairs r.qpn e))) (λ j e. rw e (a.pairs j));
        turn = a.turn;
      }
  command (Command.destroy_qp q) p =
      record { keys = a.keys; pairs = split q _ (rw same (λ e. absurd (false≢true e))) (λ j e. rw e (a.pairs j)); turn = a.turn }

  -- one over pages, by the numbers that the judge reads out of its ack
  paged : (g : Registration) (ps b : List ℕ) → ack_least ≤ length b → Passed (page_list_checks c g ps) →
      Agree (registered c g ps) (note_registration (ack_data (Command.register g) (encode_ack (command_ack c (Command.register g)) b)) g ps ∷ l)
  unfolding page_list_checks
  paged g ps b wide p =
      let i : free_mrn c < mr_count = has_slot_paged c g ps p in
      rw (keys_back b wide c g i)
      (registers g ps i
      (Keys.paged_inside c.memory g ps (eqb-true (length ps) (pages_needed g.start g.length) (not-false _ p.1.1.1.1.1.1.0))
      (not-false _ p.1.1.1.1.1.1.1.0) (ltb-false most_address (g.virt + g.length) p.1.1.1.0)))

pub start : (n : ℕ) → Agree (fresh n) []
unfolding standing ended handed Distinct told domain peer accepted consumed told_of_both errored rights enqueued_on turns_on
start n =
    record {
      keys = record {
        finds = λ k. refl;
        gone = λ k e. refl;
        given = λ k e. absurd (false≢true e);
        known = λ k e. absurd (false≢true e);
        spent = λ k e. absurd (false≢true e);
        distinct = tt;
        inside = λ i e. absurd (false≢true e);
        small = λ i. omega arith;
      };
      pairs = λ q e. absurd (false≢true e);
      turn = omega arith;
    }

-- ---- what an accepted send has passed

-- where it is not in error
pub record Going (c : Card) (q : ℕ) (r : Request) : Type 0 where
  pub named : is_some (c.qp q).dest ≡ true
  pub peer_live : (c.qp (peer_of c q)).live ≡ true
  pub has_receive : takes r.opcode ≡ true → is_empty (c.qp (peer_of c q)).waiting ≡ false

pub record Sendable (c : Card) (q : ℕ) (r : Request) (m : List ℕ) : Type 0 where
  pub whole : length m ≡ c.memory
  pub opcode : r.opcode ≤ 4
  pub inline : r.inline ≡ true → eqb r.opcode 4 ≡ false
  pub live : (c.qp q).live ≡ true
  pub going : is_in_error (c.qp q) ≡ false → Going c q r

ready_some : (c : Card) (q : ℕ) (o : Option ℕ) → ready c q o ≡ true → is_some o ≡ true
ready_some c q none e = e
ready_some c q (some d) e = refl

ready_live : (c : Card) (q : ℕ) (o : Option ℕ) → ready c q o ≡ true → (c.qp (or_else o qp_count)).live ≡ true
ready_live c q none e = absurd (false≢true e)
ready_live c q (some d) e = and_left _ _ (and_left _ _ e)

goes : (c : Card) (q : ℕ) (r : Request) → Passed (ready_checks c q r) → Going c q r
unfolding ready_checks
goes c q r p =
    let ok : ready c q (c.qp q).dest ≡ true = not-false _ p.0 in
    record {
      named = ready_some c q (c.qp q).dest ok;
      peer_live = ready_live c q (c.qp q).dest ok;
      has_receive = and_off _ _ p.1.0;
    }

pub sendable : (c : Card) (q : ℕ) (x m : List ℕ) → Passed (checks c (Call.send q x m)) → Sendable c q (request_of x) m
unfolding checks memory_checks pair_checks queue_checks hold_checks delivery_checks send_checks request_of
sendable c q x m p =
    let f = passed_before (send_checks x) (delivery_checks c q (request_of x)) p.1 in
    let d = passed_after (send_checks x) (delivery_checks c q (request_of x)) p.1 in
    record {
      whole = eqb-true _ _ (not-false _ p.0);
      opcode = ltb-false 4 _ f.1.0;
      inline = and_off _ _ f.1.1.1.0;
      live = not-false _ d.0;
      going = λ e. goes c q (request_of x) (rw e at d.1.1.1);
    }

-- ---- what an accepted turn has passed

none_is : {A : Type 0} (o : Option A) → not (is_some o) ≡ true → o ≡ none
none_is none e = refl
none_is (some a) e = absurd (false≢true e)

pub record Turning (c : Card) (m : List ℕ) : Type 0 where
  pub whole : length m ≡ c.memory
  pub live : (c.qp (served c)).live ≡ true
  pub waits : is_empty (c.qp (served c)).queue ≡ false
  pub going : is_in_error (c.qp (served c)) ≡ false → Going c (served c) (head_of c (served c))

pub turning : (c : Card) (m : List ℕ) → Passed (checks c (Call.turn m)) → Turning c m
unfolding checks memory_checks turn_checks served passed_over runnable hold_checks
turning c m p =
    let h : lowest qp_count (λ i. runnable c (seat c.turn i)) < qp_count = leb-false qp_count _ p.1.0 in
    let r : runnable c (served c) ≡ true = lowest_passes qp_count (λ i. runnable c (seat c.turn i)) h in
    let q : ℕ = served c in
    let first : Bool = (c.qp q).live && not (is_empty (c.qp q).queue) in
    let free : Bool = not (is_some (refusal (hold_checks c q (head_of c q)))) in
    let f : first ≡ true = and_left first free r in
    let t = passed (hold_checks c q (head_of c q)) (none_is (refusal (hold_checks c q (head_of c q))) (and_right first free r)) in
    record {
      whole = eqb-true _ _ (not-false _ p.0);
      live = and_left (c.qp q).live (not (is_empty (c.qp q).queue)) f;
      waits = not-true (is_empty (c.qp q).queue) (and_right (c.qp q).live (not (is_empty (c.qp q).queue)) f);
      going = λ e. goes c q (head_of c q) (rw e at t);
    }

first_good : (rs : List Request) → All Good rs → is_empty rs ≡ false → Good (get_or rs 0 no_request)
unfolding All
first_good [] h e = absurd (false≢true (sym e))
first_good (r ∷ rs) h e = h.0

module _ (c : Card) (l : Log) (a : Agree c l) where
  -- the head of a queue is what the log has as the next
  pub same_head : (q : ℕ) → (c.qp q).live ≡ true → next_on l q ≡ head_of c q
  unfolding queued
  same_head q e = ap (λ (rs : List Request). get_or rs 0 no_request) (sym (a.pairs q e).queue)

  pub turn_sendable : (m : List ℕ) → Turning c m → Sendable c (served c) (head_of c (served c)) m
  turn_sendable m t =
      let g = first_good (c.qp (served c)).queue (a.pairs (served c) t.live).good t.waits in
      record { whole = t.whole; opcode = g.opcode; inline = g.inline; live = t.live; going = t.going }

-- a request that takes a receive finds one
pub finds_receive : (c : Card) (q : ℕ) (r : Request) → (is_in_error (c.qp q) ≡ false → Going c q r) →
    consumes r.opcode (send_status c q r) ≡ true → is_empty (c.qp (peer_of c q)).waiting ≡ false
unfolding send_status
finds_receive c q r p = go (is_in_error (c.qp q)) refl
  where
    go : (b : Bool) → is_in_error (c.qp q) ≡ b → consumes r.opcode (cond b 4 (run_status c q r)) ≡ true → is_empty (c.qp (peer_of c q)).waiting ≡ false
    go true e h = absurd (false≢true (sym (Pairs.and_false (takes r.opcode)) ∙ h))
    go false e h = (p e).has_receive (and_left _ _ h)

-- one that is flushed has status 4, any other has another
pub is_four : (c : Card) (q : ℕ) (r : Request) → is_in_error (c.qp q) ≡ true → send_status c q r ≡ 4
unfolding send_status
is_four c q r e = rw e

pub not_four : (c : Card) (q : ℕ) (r : Request) → is_in_error (c.qp q) ≡ false → eqb (send_status c q r) 4 ≡ false
unfolding send_status run_status
not_four c q r e =
    rw e
    (go (fills r.opcode) (leb (total r) most_message) (permits_all c q (own_use r.opcode) (own_bytes r))
    (leb (total r) (sge_total (taken_by c q).sges))
    (permits_all c (peer_of c q) (far_use r.opcode) (far_bytes r (taken_by c q))))
  where
    go : (fill short own fits far : Bool) → eqb (status_by fill short own fits far) 4 ≡ false
    go fill false own fits far = refl
    go fill true false fits far = refl
    go true true true false far = refl
    go true true true true true = refl
    go true true true true false = refl
    go false true true fits true = refl
    go false true true fits false = refl

names_is : (o : Option ℕ) → is_some o ≡ true → (j : ℕ) → names o j ≡ eqb (or_else o qp_count) j
names_is none e j = absurd (false≢true e)
names_is (some d) e j = refl

-- the queue pairs after a request that runs, and after one that is flushed
module _ (c : Card) (q : ℕ) (r : Request) (l : Log) {m : List ℕ} (p : Sendable c q r m) (a : Agree c l) where
  abbrev Sent : (s j : ℕ) → Type 0
  Sent s j = Pair (send_qps c q r s j) (said_by (PairNote.sent false r s) (eqb q j) (names (peer l q) j) (said l j))

  run_pairs : (s : ℕ) → eqb s 4 ≡ false → Going c q r → (j : ℕ) → Sent s j
  unfolding send_qps
  run_pairs s n g j =
      let d : ℕ = peer_of c q in
      let f : ℕ → Qp = error_if (fails s) q c.qp in
      let one = Pairs.errors c.qp (said l) a.pairs q (fails s) in
      let two = Pairs.consumes_if f _ one d (consumes r.opcode s) (λ e. rw (Pairs.error_waiting (fails s) q c.qp d) (g.has_receive (and_left _ _ e))) in
      let three = Pairs.errors (consume_if (consumes r.opcode s) d f) _ two d (eqb s 7) in
      subst (Pair (send_qps c q r s j)) (Pairs.said_sent r s n (eqb q j) (names (peer l q) j) (said l j))
      (rw ((a.pairs q p.live).peer g.named, names_is (c.qp q).dest g.named j) (three j))

  flushed_qps : send_qps c q r 4 ≡ c.qp
  unfolding send_qps
  flushed_qps = rw (Pairs.and_false (takes r.opcode))

  flushed_pairs : is_in_error (c.qp q) ≡ true → (j : ℕ) → Sent 4 j
  flushed_pairs e j =
      subst (λ (f : ℕ → Qp). Pair (f j) (said_by (PairNote.sent false r 4) (eqb q j) (names (peer l q) j) (said l j))) (sym flushed_qps)
      (subst (Pair (c.qp j))
      (Pairs.said_flushed r (eqb q j) (names (peer l q) j) (said l j)
      (λ i. ap (errored l) (sym (eqb-true q j i)) ∙ sym (a.pairs q p.live).errs ∙ e))
      (a.pairs j))

  sent_pairs : (j : ℕ) → Sent (send_status c q r) j
  sent_pairs j = go (is_in_error (c.qp q)) refl
    where
      go : (b : Bool) → is_in_error (c.qp q) ≡ b → Sent (send_status c q r) j
      go true e = rw (is_four c q r e) (flushed_pairs e j)
      go false e = run_pairs (send_status c q r) (not_four c q r e) (p.going e) j

-- a request more in a queue
enqueued_agrees : (c : Card) (q : ℕ) (r : Request) (l : Log) → Agree c l → Good r → Agree (enqueued c q r) (Note.of_pair q (PairNote.enqueued r) ∷ l)
unfolding enqueued standing ended handed Distinct told told_of_both domain rights peer accepted consumed errored enqueued_on turns_on
enqueued_agrees c q r l a g =
    record {
      keys = a.keys;
      pairs = split q _ (rw same (λ e. Pairs.enqueues r (names (peer l q) q) g (a.pairs q e))) (λ j e. rw e (a.pairs j));
      turn = a.turn;
    }

record_good : (x : List ℕ) → Passed (send_checks x) → Good (request_of x)
unfolding send_checks request_of
record_good x f = record { opcode = ltb-false 4 _ f.1.0; inline = and_off _ _ f.1.1.1.0 }

-- a turn: the request at the head of a queue, and then the head leaves
module _ (c : Card) (l : Log) (m : List ℕ) (t : Turning c m) (a : Agree c l) where
  abbrev q : ℕ
  q = served c

  abbrev r : Request
  r = head_of c q

  abbrev s : ℕ
  s = send_status c q r

  still_waits : is_empty (send_qps c q r s q).queue ≡ false
  still_waits = rw (sent_queue c q r s q) t.waits

  turned_pairs : (j : ℕ) → Pair ((turn_effect c).qp j) (said_by (PairNote.sent true r s) (eqb q j) (names (peer l q) j) (said l j))
  unfolding turn_effect head_gone send_effect
  turned_pairs j =
      let sent = sent_pairs c q r l (turn_sendable c l a m t) a in
      subst (Pair ((turn_effect c).qp j)) (Pairs.said_turned r s (eqb q j) (names (peer l q) j) (said l j))
      (Pairs.turns_one (send_qps c q r s) (λ i. said_by (PairNote.sent false r s) (eqb q i) (names (peer l q) i) (said l i)) sent q still_waits j)

  turned_agrees : Agree (turn_effect c) (Note.of_pair q (PairNote.sent true (next_on l q) s) ∷ l)
  unfolding turn_effect head_gone send_effect standing ended handed Distinct told told_of_both domain rights peer accepted consumed errored enqueued_on turns_on
  turned_agrees = rw (same_head c l a q t.live) (record { keys = a.keys; pairs = turned_pairs; turn = mod-lt (q + 1) (omega arith) })

-- a receive: one that is flushed leaves the queue pairs
posted_pairs : (c : Card) (q : ℕ) (w : Receive) (l : Log) → Agree c l →
    (j : ℕ) → Pair ((received c q w).qp j) (said_by (PairNote.posted w (join_status c q)) (eqb q j) (names (peer l q) j) (said l j))
unfolding received joined join_status
posted_pairs c q w l a = go (flushes_at_once c q)
  where
    go : (b : Bool) (j : ℕ) →
        Pair ((cond {A = Card} b (with_cq c (put_all (join_puts c q w) c.cq)) (joined c q w)).qp j)
        (said_by (PairNote.posted w (cond b 4 0)) (eqb q j) (names (peer l q) j) (said l j))
    go true j = here (eqb q j)
      where
        here : (own : Bool) → Pair (c.qp j) (said_by (PairNote.posted w 4) own (names (peer l q) j) (said l j))
        here true = a.pairs j
        here false = a.pairs j
    go false j =
        split q (λ j. Pair ((joined c q w).qp j) (said_by (PairNote.posted w 0) (eqb q j) (names (peer l q) j) (said l j)))
        (rw same (λ e. Pairs.joins w (names (peer l q) q) (a.pairs q e))) (λ j e. rw e (a.pairs j)) j

posted_agrees : (c : Card) (q : ℕ) (w : Receive) (l : Log) → Agree c l →
    Agree (received c q w) (Note.of_pair q (PairNote.posted w (join_status c q)) ∷ l)
unfolding received joined standing ended handed Distinct told told_of_both domain rights peer accepted consumed errored enqueued_on turns_on
posted_agrees c q w l a = record { keys = go (flushes_at_once c q); pairs = posted_pairs c q w l a; turn = place (flushes_at_once c q) }
  where
    place : (b : Bool) → (cond {A = Card} b (with_cq c (put_all (join_puts c q w) c.cq)) (joined c q w)).turn < qp_count
    place true = a.turn
    place false = a.turn

    go : (b : Bool) → let c' = cond {A = Card} b (with_cq c (put_all (join_puts c q w) c.cq)) (joined c q w) in
        Keys c'.memory c'.mr (standing l) (ended l) (handed l) (Distinct l)
    go true = a.keys
    go false = a.keys

-- ---- every accepted call

pub accepted_call : (c : Card) (k : Call) (l : Log) → Passed (checks c k) → Agree c l → Agree (effect c k) (fed l k (Done (status_of c k)) (value_of c k) (buffer_after c k))
unfolding checks memory_checks control_checks page_record_checks flush_checks effect send_effect flushed polled status_of value_of buffer_after fed standing ended handed Distinct told domain peer accepted consumed told_of_both errored rights enqueued_on turns_on
accepted_call c (Call.reset n) l p a = start n
accepted_call c (Call.control k b) l p a =
    known (command_of k) (passed_after (control_checks k b) (maybe [] (command_checks c) (command_of k)) p)
  where
    wide : ack_least ≤ length b
    wide =
        let n : ack_need k ≤ length b = ltb-false (length b) (ack_need k) (passed_before (control_checks k b) (maybe [] (command_checks c) (command_of k)) p).0 in
        let m : ack_least ≤ ack_need k = need_least k in
        omega arith

    known : (o : Option Command) → Passed (maybe [] (command_checks c) o) →
        Agree (maybe c (command_effect c) o)
        (maybe Note.other (λ x. note_command x (maybe [] (λ y. ack_data y (maybe b (λ q. encode_ack (command_ack c q) b) o)) o)) o ∷ l)
    known none t = a
    known (some x) t = rw (ack_back b wide c x t) (command c l a x t)
accepted_call c (Call.register_pages k ps b) l p a =
    paged c l a (registration_in k) ps b (ltb-false (length b) ack_least p.0)
    (passed_after (page_record_checks k b) (page_list_checks c (registration_in k) ps) p)
accepted_call c (Call.send q x m) l p a =
    record { keys = a.keys; pairs = sent_pairs c q (request_of x) l (sendable c q x m p) a; turn = a.turn }
accepted_call c (Call.enqueue q x m) l p a =
    enqueued_agrees c q (request_of x) l a (record_good x (passed_before (send_checks x) (enqueue_checks c q) p.1))
accepted_call c (Call.turn m) l p a = turned_agrees c l m (turning c m p) a
accepted_call c (Call.receive q x) l p a = posted_agrees c q (receive_in x) l a
accepted_call c (Call.flush q) l p a =
    record {
      keys = a.keys;
      pairs = λ j. subst (Pair (consume_if true q c.qp j)) (Pairs.said_flush (eqb q j) (names (peer l q) j) (said l j))
          (Pairs.takes_one c.qp (said l) a.pairs q p.1.1.0 j);
      turn = a.turn;
    }
accepted_call c (Call.poll n b) l p a = a
