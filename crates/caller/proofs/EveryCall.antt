-- Every call on every state has an outcome that the promise of the exported functions allows: what a call that passes its tests owes, by
-- the laws that the functions are proved by. Assumes nothing.
use mathlib.Core.Path.{◌≡◌, refl, sym, ap, ◌∙◌}
use mathlib.Core.Bool.{Bool, true, false, not}
use mathlib.Core.List.{List, ◌++◌}
use mathlib.Core.Option.{Option, none, some, some-ne-none}
use Prim.Native.Nat.{ℕ, ◌+◌, ◌*◌, ◌<◌, ◌≤◌}
use lib.ListN.{length}
use borrow.Author.Tests.{not-false, eqb-true, eqb-false, leb-false, ltb-false, le-ltb}
use Rattle.wire.specs.Checks.{Check, refusal, Passed}
use Rattle.wire.specs.Codec.{decode, encode}
use Rattle.wire.specs.Table.{row_at}
use Rattle.wire.proofs.CheckLaws.{passed}
use Rattle.wire.proofs.ScanLaws.{and_off}
use Rattle.tables.specs.Commands.{command_of, ack_least, ack_need}
use Rattle.tables.specs.Layout.{state_size, cq_t, turn_t}
use Rattle.tables.specs.Limits.{qp_count}
use Rattle.tables.specs.Queue.{front_at, pop_bytes, post_bytes}
use Rattle.tables.specs.Records.{receive_codec, receive_checks, receive_read, send_checks, completion_codec}
use Rattle.tables.specs.Reset.{reset_bytes}
use Rattle.tables.specs.State.{card}
use Rattle.tables.specs.declared.Ack.TheVariants as ack
use Rattle.tables.specs.declared.QueueHead.{QueueHead}
use Rattle.std.specs.Prelude.{Ok}
use Rattle.tables.specs.declared.ReceiveRecord.{ReceiveRecord}
use Rattle.validate.specs.Accept.{accepts, memory_ok, may_queue}
use Rattle.rules.specs.Answer.{code_of, is_done}
use Rattle.rules.specs.Bytes.{command_bytes, flushed_bytes, flush_bytes, paged_bytes}
use Rattle.rules.specs.Call.{Call, Outcome, registration_in}
use Rattle.rules.specs.Calls.{checks, memory_checks, reset_checks, control_checks, buffer_checks, owed, owed_checks}
use Rattle.rules.specs.Contract.{OwesAll, Exports, bytes_after}
use Rattle.rules.specs.Control.{command_ack, new_keys}
use Rattle.rules.specs.Lists.{maybe}
use Rattle.rules.specs.Pages.{page_record_checks}
use Rattle.rules.specs.Queues.{flushes_at_once, join_checks, flush_checks, poll_checks}
use Rattle.rules.specs.Send.{pair_checks, delivery_checks, room}
use Rattle.rules.specs.Turn.{enqueue_checks, turn_checks, passed_over, runnable}
use Rattle.tables.specs.Records.{request_of}
use Rattle.rules.proofs.Exported.{refused_owes}
use Rattle.rules.proofs.Tests.{first_of, refusal_append, passed_after}
use Rattle.commands.specs.Control.{class_checks}
use Rattle.commands.specs.Pages.{record_checks}
use Rattle.commands.proofs.CallLaws.{control_done}
use Rattle.commands.proofs.PagesCallLaws.{pages_done}
use Rattle.queues.specs.Live.{LiveQueue, LivePair}
use Rattle.queues.proofs.LiveLaws.{unread_none}
use Rattle.queues.proofs.ResetLaws.{reset_done}
use Rattle.queues.proofs.ReceiveLaws.{receive_done, receive_flushed}
use Rattle.queues.proofs.FlushLaws.{flush_done}
use Rattle.queues.proofs.PollLaws.{poll_done}
use Rattle.queues.proofs.EnqueueLaws.{enqueue_done}
use Rattle.engine.proofs.OwedLaws.{ran}
use Rattle.engine.proofs.TurnLaws.{turn_done}

-- the call k on the state l has an outcome
record HasOutcome (l : List ℕ) (k : Call) : Type 0 where
  left : Outcome
  owes : OwesAll l k left

abbrev outcome : (l : List ℕ) (k : Call) (o : Outcome) → OwesAll l k o → HasOutcome l k
outcome l k o w = record { left = o; owes = w }

-- tests that all pass, and the first of them
front_none : (xs ys : List Check) → refusal (xs ++ ys) ≡ none → refusal xs ≡ none
front_none xs ys e = go (refusal xs) (rw (refusal_append xs ys) at e)
  where
    go : (o : Option ℕ) → first_of o (refusal ys) ≡ none → o ≡ none
    go none p = refl
    go (some n) p = absurd (some-ne-none n p)

-- ---- a call that passes its tests

module _ (l : List ℕ) where
  reset_ends : (n : ℕ) → Passed (owed_checks card accepts l (Call.reset n)) → HasOutcome l (Call.reset n)
  unfolding checks reset_checks
  reset_ends n p =
      let ok : memory_ok n ≡ true = not-false _ p.1.0 in
      outcome _ _ _
      (reset_done l n (eqb-true (length l) state_size (not-false _ p.0)) ok (reset_bytes n) refl)

  control_ends : (k a : List ℕ) → refusal (owed_checks card accepts l (Call.control k a)) ≡ none → HasOutcome l (Call.control k a)
  unfolding checks control_checks
  control_ends k a e =
      let p = passed (owed_checks card accepts l (Call.control k a)) e in
      let good : accepts l ≡ true = not-false _ p.0 in
      let room : ack_need k ≤ length a = ltb-false (length a) (ack_need k) p.1.0 in
      let none-met : refusal (class_checks (card l) k) ≡ none = rw (good, le-ltb (length a) (ack_need k) room) at e in
      outcome _ _ _
      (control_done l k a good room (Ok (maybe ack.Done (command_ack (card l)) (command_of k))) (maybe l (command_bytes l) (command_of k))
      (record { outcome = rw none-met; bytes = rw none-met }) _ refl _ refl _ refl)

  pages_ends : (k ps a : List ℕ) → refusal (owed_checks card accepts l (Call.register_pages k ps a)) ≡ none → HasOutcome l (Call.register_pages k ps a)
  unfolding checks page_record_checks
  pages_ends k ps a e =
      let p = passed (owed_checks card accepts l (Call.register_pages k ps a)) e in
      let good : accepts l ≡ true = not-false _ p.0 in
      let room : ack_least ≤ length a = ltb-false (length a) ack_least p.1.0 in
      let none-met : refusal (record_checks (card l) k ps) ≡ none = rw (good, le-ltb (length a) ack_least room) at e in
      outcome _ _ _
      (pages_done l k ps a good room (Ok (new_keys (card l))) (paged_bytes l (registration_in k) ps)
      (record { outcome = rw none-met; bytes = rw none-met }) _ refl _ refl _ refl)

  send_ends : (q : ℕ) (x m : List ℕ) → refusal (owed_checks card accepts l (Call.send q x m)) ≡ none → HasOutcome l (Call.send q x m)
  unfolding checks memory_checks
  send_ends q x m e =
      let p = passed (owed_checks card accepts l (Call.send q x m)) e in
      let rest : refusal (send_checks x ++ delivery_checks (card l) q (request_of x)) ≡ none = rw (p.0, p.1.0) at e in
      outcome _ _ _
      (ran l q x m (not-false _ p.0) (eqb-true (length m) (card l).memory (not-false _ p.1.0))
      (front_none (send_checks x) (delivery_checks (card l) q (request_of x)) rest) _ _ _ (record { answer = refl; bytes = refl; memory = refl }))

  enqueue_ends : (q : ℕ) (x m : List ℕ) → refusal (owed_checks card accepts l (Call.enqueue q x m)) ≡ none → HasOutcome l (Call.enqueue q x m)
  unfolding checks memory_checks enqueue_checks pair_checks
  enqueue_ends q x m e =
      let p = passed (owed_checks card accepts l (Call.enqueue q x m)) e in
      let rest : refusal (send_checks x ++ enqueue_checks (card l) q) ≡ none = rw (p.0, p.1.0) at e in
      let j = passed_after (send_checks x) (enqueue_checks (card l) q) p.1.1 in
      let s : LivePair l q = record { ok = not-false _ p.0; live = not-false _ j.0 } in
      let takes : may_queue ((card l).qp q).state ≡ true = not-false _ j.1.0 in
      outcome _ _ _
      (enqueue_done l q x s (front_none (send_checks x) (enqueue_checks (card l) q) rest) takes j.1.1.0 _ refl m
      (eqb-true (length m) (card l).memory (not-false _ p.1.0)))

  turn_ends : (m : List ℕ) → Passed (owed_checks card accepts l (Call.turn m)) → HasOutcome l (Call.turn m)
  unfolding checks memory_checks turn_checks card
  turn_ends m p =
      let next : ℕ = row_at turn_t l 0 in
      let i : ℕ = passed_over next (runnable (card l)) in
      let some_runs : i < qp_count = leb-false qp_count i p.1.1.0 in
      outcome _ _ _
      (turn_done l m (not-false _ p.0) (eqb-true (length m) (card l).memory (not-false _ p.1.0)) next refl i refl some_runs _ _ _
      (record { status = refl; bytes = refl; memory = refl }))

  receive_ends : (q : ℕ) (x : List ℕ) → Passed (owed_checks card accepts l (Call.receive q x)) → HasOutcome l (Call.receive q x)
  unfolding checks receive_checks join_checks receive_read
  receive_ends q x p = go (flushes_at_once (card l) q) refl
    where
      r : ReceiveRecord
      r = decode receive_codec x 0

      well : receive_read x ≡ Ok r
      well = rw (p.1.0, p.1.1.0, p.1.1.1.0)

      j : Passed (join_checks (card l) q)
      j = p.1.1.1.1

      s : LivePair l q
      s = record { ok = not-false _ p.0; live = not-false _ j.0 }

      go : (b : Bool) → flushes_at_once (card l) q ≡ b → HasOutcome l (Call.receive q x)
      go true e =
          let free : room ((card l).cq ((card l).qp q).rcq) 1 ≡ true =
          not-false _ (and_off (flushes_at_once (card l) q) (not (room ((card l).cq ((card l).qp q).rcq) 1)) j.1.1.0 e) in
          outcome _ _ _ (receive_flushed l q x r well s e free (flushed_bytes l q r.wr) refl)
      go false e = outcome _ _ _ (receive_done l q x r well s j.1.0 e j.1.1.1.0 (post_bytes l q r) refl)

  flush_ends : (q : ℕ) → Passed (owed_checks card accepts l (Call.flush q)) → HasOutcome l (Call.flush q)
  unfolding checks flush_checks
  flush_ends q p =
      let j = p.1 in
      let s : LivePair l q = record { ok = not-false _ p.0; live = not-false _ j.0 } in
      outcome _ _ _
      (flush_done l q s (not-false _ j.1.0) j.1.1.0 (not-false _ j.1.1.1.0) (flush_bytes l q) refl)

  poll_ends : (n : ℕ) (b : List ℕ) → Passed (owed_checks card accepts l (Call.poll n b)) → HasOutcome l (Call.poll n b)
  unfolding checks buffer_checks poll_checks completion_codec
  poll_ends n b p =
      let h : QueueHead = row_at cq_t l n in
      let s : LiveQueue l n = record { ok = not-false _ p.0; live = not-false _ p.1.1.0 } in
      let some-unread : h.count ≡ 0 → ⊥ = eqb-false h.count 0 (sym (unread_none s) ∙ p.1.1.1.0) in
      outcome _ _ _
      (poll_done l n b (ltb-false (length b) 24 p.1.0) s h refl some-unread (front_at l n) refl (pop_bytes l n)
      (encode completion_codec b 0 (front_at l n)) refl refl)

  done_ends : (k : Call) → refusal (owed_checks card accepts l k) ≡ none → HasOutcome l k
  done_ends (Call.reset n) e = reset_ends n (passed (owed_checks card accepts l (Call.reset n)) e)
  done_ends (Call.control k a) e = control_ends k a e
  done_ends (Call.register_pages k ps a) e = pages_ends k ps a e
  done_ends (Call.send q x m) e = send_ends q x m e
  done_ends (Call.enqueue q x m) e = enqueue_ends q x m e
  done_ends (Call.turn m) e = turn_ends m (passed (owed_checks card accepts l (Call.turn m)) e)
  done_ends (Call.receive q x) e = receive_ends q x (passed (owed_checks card accepts l (Call.receive q x)) e)
  done_ends (Call.flush q) e = flush_ends q (passed (owed_checks card accepts l (Call.flush q)) e)
  done_ends (Call.poll n b) e = poll_ends n b (passed (owed_checks card accepts l (Call.poll n b)) e)

  -- ---- any call

  has_outcome : (k : Call) → HasOutcome l k
  has_outcome k = go (refusal (owed_checks card accepts l k)) refl
    where
      go : (o : Option ℕ) → refusal (owed_checks card accepts l k) ≡ o → HasOutcome l k
      go none e = done_ends k e
      go (some n) e = outcome _ _ _ (refused_owes l k n e)

  -- it is what the call owes, on the bytes that the rules give
  pub exports : (k : Call) →
      let r = owed card accepts l k in Exports l k (code_of r.answer + 65536 * r.value) (bytes_after l k) r.memory r.buffer
  exports k =
      let o = (has_outcome k).owes in
      record {
        code = refl;
        state = refl;
        tables = ap card (sym o.bytes) ∙ o.meets.card;
        memory = refl;
        buffer = refl;
        sound = λ d. ap accepts (sym o.bytes) ∙ o.meets.sound (ap is_done o.meets.answer ∙ d);
      }
