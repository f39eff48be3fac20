-- The cases of a poll. Assumes nothing.
use mathlib.Core.Path.{◌≡◌, refl, sym, ap, ◌∙◌}
use mathlib.Core.Bool.{true, false, cond, not}
use mathlib.Core.List.{List, []}
use mathlib.Core.Option.{none, some}
use Prim.Native.Nat.{ℕ, ◌<◌, ◌≤◌}
use native.Mathlib.Omega.{arith}
use lib.ListN.{length}
use lib.Dec.{eqb, ltb}
use borrow.Author.Tests.{eq-eqb, ne_eqb, lt-ltb, le-ltb}
use Rattle.wire.specs.Checks.{refusal}
use Rattle.wire.specs.Codec.{encode}
use Rattle.wire.specs.Table.{row_at}
use Rattle.tables.specs.Card.{cq_live}
use Rattle.tables.specs.Layout.{cq_t}
use Rattle.tables.specs.Queue.{front_at, pop_bytes}
use Rattle.tables.specs.Records.{completion_codec}
use Rattle.tables.specs.State.{card}
use Rattle.tables.specs.declared.Completion.{Completion}
use Rattle.tables.specs.declared.QueueHead.{QueueHead}
use Rattle.validate.specs.Accept.{accepts}
use Rattle.validate.proofs.QueueLaws.{oldest_is, pop_card, pop_accepted}
use Rattle.rules.specs.Bytes.{effect_bytes}
use Rattle.rules.specs.Call.{Call}
use Rattle.rules.specs.Calls.{owed_checks, checks, buffer_checks, status_of, effect, memory_after, buffer_after}
use Rattle.rules.specs.Contract.{Owes}
use Rattle.rules.specs.Lists.{is_empty}
use Rattle.rules.specs.Queues.{poll_checks, polled, oldest_entry}
use Rattle.rules.specs.declared.Answer.TheVariants.{Done, Refused}
use Rattle.rules.proofs.Exported.{refused_owes, done_owes}
use Rattle.queues.specs.Live.{LiveQueue}
use Rattle.queues.proofs.LiveLaws.{queue_ok_lem, queue_below, queue_flag, unread_none}

module _ (l : List ℕ) (n : ℕ) (b : List ℕ) where
  abbrev k : Call
  k = Call.poll n b

  order : refusal (owed_checks card accepts l k)
      ≡ cond (not (accepts l)) (some 15)
      (cond (ltb (length b) 24) (some 12) (cond (not (cq_live (card l) n)) (some 2) (cond (is_empty ((card l).cq n).entries) (some 9) none)))
  unfolding checks buffer_checks poll_checks completion_codec
  order = refl

  pub poll_15 : accepts l ≡ false → Owes l k (Refused 15) l [] b
  poll_15 e = refused_owes l k 15 (order ∙ rw e)

  pub poll_short : accepts l ≡ true → length b < 24 → Owes l k (Refused 12) l [] b
  poll_short ok h = refused_owes l k 12 (order ∙ rw (ok, lt-ltb (length b) 24 h))

  module _ (fits : 24 ≤ length b) where
    pub poll_dead : accepts l ≡ true → cq_live (card l) n ≡ false → Owes l k (Refused 2) l [] b
    poll_dead ok e = refused_owes l k 2 (order ∙ rw (ok, le-ltb (length b) 24 fits, e))

    -- h is the queue's head
    module _ (s : LiveQueue l n) (h : QueueHead) (head : h ≡ row_at cq_t l n) where
      by_count : refusal (owed_checks card accepts l k) ≡ cond (eqb h.count 0) (some 9) none
      by_count = order ∙ rw (s.ok, le-ltb (length b) 24 fits, s.live, unread_none s, head)

      pub poll_empty : h.count ≡ 0 → Owes l k (Refused 9) l [] b
      poll_empty e = refused_owes l k 9 (by_count ∙ rw (eq-eqb h.count 0 e))

      module _ (some-unread : h.count ≡ 0 → ⊥) where
        unread_some : 0 < (row_at cq_t l n).count
        unread_some = let e = ap (λ (x : QueueHead). x.count) head in let c = some-unread in omega arith

        -- e is its oldest completion
        pub poll_done : (e : Completion) → e ≡ front_at l n → (l' b' : List ℕ) → l' ≡ pop_bytes l n → b' ≡ encode completion_codec b 0 e
            → Owes l k (Done 0) l' [] b'
        unfolding status_of memory_after buffer_after effect effect_bytes polled
        poll_done e o l' b' t w =
            let shown : e ≡ oldest_entry (card l) n = o ∙ sym (oldest_is l (queue_ok_lem s) n (queue_below s) (queue_flag s) unread_some) in
            rw (w, shown)
            (done_owes l k refl (by_count ∙ rw (ne_eqb h.count 0 some-unread))
            (pop_card l (queue_ok_lem s) n (queue_below s) (queue_flag s) unread_some)
            (pop_accepted l (queue_ok_lem s) n (queue_below s) (queue_flag s) unread_some) l' t)
