-- The cases of an enqueue. Assumes nothing.
use mathlib.Core.Path.{◌≡◌, refl, sym, ap, ◌∙◌}
use mathlib.Core.Bool.{true, false, cond, not}
use mathlib.Core.List.{List, []}
use mathlib.Core.Option.{none, some}
use Prim.Native.Nat.{ℕ}
use lib.ListN.{length}
use lib.Dec.{leb}
use borrow.Author.Tests.{eq-eqb, ne_eqb}
use Rattle.wire.specs.Checks.{refusal}
use Rattle.wire.specs.Codec.{decode}
use Rattle.wire.specs.Table.{row_at}
use Rattle.tables.specs.Layout.{qp_t}
use Rattle.tables.specs.Limits.{most_queued}
use Rattle.tables.specs.Queue.{queue_bytes}
use Rattle.tables.specs.Records.{send_codec, send_checks, send_read}
use Rattle.tables.specs.State.{card}
use Rattle.std.specs.Prelude.{Ok, Err}
use Rattle.tables.specs.Refusal.{refusal_number}
use Rattle.tables.specs.declared.refusal.Refusal.{Refusal}
use Rattle.tables.proofs.RefusalLaws.{result_ok}
use Rattle.rules.specs.Answer.{refused}
use Rattle.tables.specs.declared.SendRecord.{SendRecord}
use Rattle.tables.proofs.QueuedLaws as queued
use Rattle.validate.specs.Accept.{accepts, may_queue}
use Rattle.validate.proofs.SendLaws.{queue_first, enqueue_accepted}
use Rattle.rules.specs.Bytes.{effect_bytes}
use Rattle.rules.specs.Call.{Call}
use Rattle.rules.specs.Calls.{owed_checks, checks, memory_checks, status_of, effect, memory_after, buffer_after}
use Rattle.rules.specs.Contract.{Owes}
use Rattle.rules.specs.Send.{pair_checks}
use Rattle.rules.specs.Turn.{enqueue_checks, enqueued}
use Rattle.rules.specs.declared.Answer.TheVariants.{Done, Refused}
use Rattle.rules.proofs.Exported.{refused_owes, done_owes}
use Rattle.rules.proofs.Firm.{record_refused, refused_answer}
use Rattle.rules.proofs.Tests.{first_of, refusal_append}
use Rattle.queues.specs.Enqueue.{Sent, Enqueues}
use Rattle.queues.specs.Live.{LivePair}
use Rattle.queues.proofs.LiveLaws.{pair_ok_lem, pair_below, pair_flag, pair_state, queue_room}

-- a record that was read passed its own tests
pub read_sent : (x : List ℕ) (s : SendRecord) → send_read x ≡ Ok s → Sent x
unfolding send_read
read_sent x s e = (result_ok (refusal (send_checks x)) (decode send_codec x 0) s e).0

-- ---- the call

module _ (l : List ℕ) (q : ℕ) (x : List ℕ) where
  abbrev k : (m : List ℕ) → Call
  k m = Call.enqueue q x m

  pub enqueue_15 : (m : List ℕ) → accepts l ≡ false → Owes l (k m) (Refused 15) l m []
  enqueue_15 m e = refused_owes l (k m) 15 (rw e)

  pub enqueue_memory : (m : List ℕ) → accepts l ≡ true → (length m ≡ (card l).memory → ⊥) → Owes l (k m) (Refused 7) l m []
  unfolding checks memory_checks
  enqueue_memory m ok e = refused_owes l (k m) 7 (rw (ok, ne_eqb (length m) (card l).memory e))

  module _ (ok : accepts l ≡ true) where
    order : (m : List ℕ) → length m ≡ (card l).memory →
        refusal (owed_checks card accepts l (k m)) ≡ first_of (refusal (send_checks x)) (refusal (enqueue_checks (card l) q))
    unfolding checks memory_checks
    order m whole = rw (ok, eq-eqb (length m) (card l).memory whole) (refusal_append (send_checks x) (enqueue_checks (card l) q))

    pub enqueue_bad : (m : List ℕ) → length m ≡ (card l).memory → (r : Refusal) → send_read x ≡ Err r → Owes l (k m) (refused r) l m []
    enqueue_bad m whole r e = rw (← refused_answer 0 r) (refused_owes l (k m) (refusal_number r) (order m whole ∙ rw (record_refused x r e)))

    module _ (good : Sent x) where
      joins : (m : List ℕ) → length m ≡ (card l).memory →
          refusal (owed_checks card accepts l (k m))
          ≡ cond (not ((card l).qp q).live) (some 2)
          (cond (not (may_queue ((card l).qp q).state)) (some 3)
          (cond (leb most_queued (length ((card l).qp q).queue)) (some 8) none))
      unfolding enqueue_checks pair_checks
      joins m whole = order m whole ∙ rw good

      pub enqueue_dead : ((card l).qp q).live ≡ false → Enqueues l q x (Refused 2) l
      enqueue_dead e m whole = refused_owes l (k m) 2 (joins m whole ∙ rw e)

  module _ (s : LivePair l q) (good : Sent x) where
    pub enqueue_state : may_queue ((card l).qp q).state ≡ false → Enqueues l q x (Refused 3) l
    enqueue_state e m whole = refused_owes l (k m) 3 (joins s.ok good m whole ∙ rw (s.live, e))

    module _ (takes : may_queue ((card l).qp q).state ≡ true) where
      pub enqueue_full : leb most_queued (length ((card l).qp q).queue) ≡ true → Enqueues l q x (Refused 8) l
      enqueue_full e m whole = refused_owes l (k m) 8 (joins s.ok good m whole ∙ rw (s.live, takes, e))

      pub enqueue_done : leb most_queued (length ((card l).qp q).queue) ≡ false → (l' : List ℕ) → l' ≡ queue_bytes l q x → Enqueues l q x (Done 0) l'
      unfolding status_of memory_after buffer_after effect effect_bytes enqueued
      enqueue_done e l' t m whole =
          let room = queue_room s e in
          let state : may_queue (row_at qp_t l q).state ≡ true = ap may_queue (sym (pair_state s)) ∙ takes in
          done_owes l (k m) refl (joins s.ok good m whole ∙ rw (s.live, takes, e))
          (queued.queue_card l q (pair_below s) (pair_flag s) (queue_first l (pair_ok_lem s) q (pair_below s) (pair_flag s)) (pair_ok_lem s).sized x good room)
          (enqueue_accepted l (pair_ok_lem s) q (pair_below s) (pair_flag s) x good room state) l' t
