-- The cases of a post receive. Assumes nothing.
use mathlib.Core.Path.{◌≡◌, refl, ap, ◌∙◌}
use mathlib.Core.Bool.{true, false, cond, not, ◌&&◌, false≢true}
use mathlib.Core.List.{List, [], ◌∷◌}
use mathlib.Core.Option.{none, some}
use Prim.Native.Nat.{ℕ, ◌^◌, ◌<◌}
use native.Mathlib.Omega.{arith}
use lib.ListN.{length}
use lib.Dec.{eqb, leb}
use borrow.Author.Tests.{le-leb, ltb-false, eqb-true, ne_eqb}
use Rattle.wire.specs.Checks.{refusal}
use Rattle.wire.specs.Codec.{decode, fields_at, Fit, Fits}
use Rattle.wire.proofs.CheckLaws.{passed}
use Rattle.wire.proofs.CodecLaws.{fields_at_fit}
use Rattle.wire.proofs.ScanLaws.{and_left, and_right}
use Rattle.tables.specs.Card.{Receive, receive_of}
use Rattle.tables.specs.Limits.{most_waiting, most_receive_sges}
use Rattle.tables.specs.Queue.{post_bytes}
use Rattle.tables.specs.Records.{receive_codec, receive_checks, receive_read}
use Rattle.tables.specs.State.{card}
use Rattle.std.specs.Prelude.{Ok, Err}
use Rattle.wire.specs.Scan.{all}
use Rattle.tables.specs.Refusal.{refusal_number}
use Rattle.tables.specs.declared.refusal.Refusal.{Refusal}
use Rattle.tables.proofs.RefusalLaws.{result_ok, result_err}
use Rattle.rules.proofs.Firm.{refused_answer}
use Rattle.rules.specs.Answer.{refused}
use Rattle.tables.specs.declared.ReceiveRecord.{ReceiveRecord}
use Rattle.validate.specs.Accept.{accepts, receive_ok}
use Rattle.validate.proofs.WaitingLaws.{post_card, post_accepted}
use Rattle.rules.specs.Bytes.{effect_bytes, flushed_bytes, receive_bytes}
use Rattle.rules.specs.Call.{Call}
use Rattle.rules.specs.Calls.{owed_checks, checks, status_of, effect, memory_after, buffer_after}
use Rattle.rules.specs.Contract.{Owes}
use Rattle.rules.specs.Lists.{is_empty}
use Rattle.rules.specs.Queues.{flushes_at_once, join_checks, join_status, join_puts, joined, received}
use Rattle.rules.specs.Send.{room, is_in_error}
use Rattle.rules.specs.Touch.{receive_in}
use Rattle.rules.specs.declared.Answer.TheVariants.{Done, Held, Refused}
use Rattle.rules.specs.declared.Cause.TheVariants.{Place}
use Rattle.rules.proofs.Exported.{refused_owes, done_owes}
use Rattle.rules.proofs.Tests.{first_of, refusal_append}
use Rattle.queues.specs.Live.{LivePair, PlacedPair}
use Rattle.queues.proofs.LiveLaws.{pair_ok_lem, pair_below, pair_flag, receive_room}
use Rattle.queues.proofs.PutLaws.{put_card, put_accepted}

-- ---- what reading the record gave

receive_refused : (r : Refusal) (x : List ℕ) → receive_read x ≡ Err r → refusal (receive_checks x) ≡ some (refusal_number r)
unfolding all receive_read receive_checks
receive_refused r x e = result_err (receive_checks x) refl (decode receive_codec x 0) r e

-- a queue on which none waits is not full
none_full : (ws : List Receive) → is_empty ws ≡ true → leb most_waiting (length ws) ≡ false
none_full [] e = refl
none_full (w ∷ ws) e = absurd (false≢true e)

-- ---- the call

module _ (l : List ℕ) (q : ℕ) (x : List ℕ) where
  abbrev k : Call
  k = Call.receive q x

  order : refusal (owed_checks card accepts l k)
      ≡ cond (not (accepts l)) (some 15) (first_of (refusal (receive_checks x)) (refusal (join_checks (card l) q)))
  unfolding checks
  order = ap (cond (not (accepts l)) (some 15)) (refusal_append (receive_checks x) (join_checks (card l) q))

  pub receive_15 : accepts l ≡ false → Owes l k (Refused 15) l [] []
  receive_15 e = refused_owes l k 15 (order ∙ rw e)

  pub receive_bad : accepts l ≡ true → (r : Refusal) → receive_read x ≡ Err r → Owes l k (refused r) l [] []
  receive_bad ok r e = rw (← refused_answer 0 r) (refused_owes l k (refusal_number r) (order ∙ rw (ok, receive_refused r x e)))

  module _ (w : ReceiveRecord) (well : receive_read x ≡ Ok w) where
    both : (refusal (receive_checks x) ≡ none) × (decode receive_codec x 0 ≡ w)
    unfolding receive_read
    both = result_ok (refusal (receive_checks x)) (decode receive_codec x 0) w well

    w_fits : Fits receive_codec w
    unfolding receive_codec fields_at
    w_fits = rw (← both.1) (fields_at_fit _ x 0)

    w_small : w.wr < 2 ^ 64
    unfolding receive_codec Fit
    w_small = w_fits.0

    w_ok : receive_ok w ≡ true
    unfolding receive_checks
    w_ok =
        let p = passed (receive_checks x) both.0 in
        rw (← both.1) (le-leb (decode receive_codec x 0).count most_receive_sges (ltb-false most_receive_sges _ p.1.0))

    joins : accepts l ≡ true → refusal (owed_checks card accepts l k)
        ≡ cond (not ((card l).qp q).live) (some 2)
        (cond (eqb ((card l).qp q).state 0) (some 3)
        (cond (flushes_at_once (card l) q && not (room ((card l).cq ((card l).qp q).rcq) 1)) (some 6)
        (cond (leb most_waiting (length ((card l).qp q).waiting)) (some 8) none)))
    unfolding join_checks
    joins ok = order ∙ rw (ok, both.0)

    pub receive_dead : accepts l ≡ true → ((card l).qp q).live ≡ false → Owes l k (Refused 2) l [] []
    receive_dead ok e = refused_owes l k 2 (joins ok ∙ rw e)

    module _ (s : LivePair l q) where
      pub receive_state : eqb ((card l).qp q).state 0 ≡ true → Owes l k (Refused 3) l [] []
      receive_state e = refused_owes l k 3 (joins s.ok ∙ rw (s.live, e))

      -- it is flushed
      module _ (now : flushes_at_once (card l) q ≡ true) where
        not_reset : eqb ((card l).qp q).state 0 ≡ false
        not_reset =
            let e = eqb-true ((card l).qp q).state 6 (and_left (is_in_error ((card l).qp q)) (is_empty ((card l).qp q).waiting) now) in
            ne_eqb ((card l).qp q).state 0 (λ z. omega arith)

        not_full : leb most_waiting (length ((card l).qp q).waiting) ≡ false
        not_full = none_full ((card l).qp q).waiting (and_right (is_in_error ((card l).qp q)) (is_empty ((card l).qp q).waiting) now)

        pub receive_held : room ((card l).cq ((card l).qp q).rcq) 1 ≡ false → Owes l k (Held Place) l [] []
        receive_held e = refused_owes l k 6 (joins s.ok ∙ rw (s.live, not_reset, now, e))

        pub receive_flushed : room ((card l).cq ((card l).qp q).rcq) 1 ≡ true → (l' : List ℕ) → l' ≡ flushed_bytes l q w.wr → Owes l k (Done 4) l' [] []
        unfolding status_of memory_after buffer_after effect effect_bytes receive_bytes join_status join_puts received receive_in receive_of
        receive_flushed e l' t =
            let f : PlacedPair l q = record { pair = s; place = e } in
            rw now at (done_owes l k refl (joins s.ok ∙ rw (s.live, not_reset, now, e, not_full))
            (rw (now, both.1) (put_card f w.wr w_small))
            (rw (now, both.1) (put_accepted f w.wr w_small)) l' (rw (now, both.1) t))

      -- it waits
      module _ (takes : eqb ((card l).qp q).state 0 ≡ false) (later : flushes_at_once (card l) q ≡ false) where
        pub receive_full : leb most_waiting (length ((card l).qp q).waiting) ≡ true → Owes l k (Refused 8) l [] []
        receive_full e = refused_owes l k 8 (joins s.ok ∙ rw (s.live, takes, later, e))

        pub receive_done : leb most_waiting (length ((card l).qp q).waiting) ≡ false → (l' : List ℕ) → l' ≡ post_bytes l q w → Owes l k (Done 0) l' [] []
        unfolding status_of memory_after buffer_after effect effect_bytes receive_bytes join_status received joined receive_in
        receive_done e l' t =
            let room = receive_room s e in
            rw later at (done_owes l k refl (joins s.ok ∙ rw (s.live, takes, later, e))
            (rw (later, both.1) (post_card l (pair_ok_lem s) q (pair_below s) (pair_flag s) w w_fits room))
            (rw (later, both.1) (post_accepted l (pair_ok_lem s) q (pair_below s) (pair_flag s) w w_fits room w_ok)) l' (rw (later, both.1) t))
