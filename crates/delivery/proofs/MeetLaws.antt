-- How the tests that hold a request end: one law for each answer. Assumes nothing.
use mathlib.Core.Path.{◌≡◌, refl, sym, ap, subst, ◌∙◌}
use mathlib.Core.Bool.{Bool, true, false, cond, not, ◌&&◌}
use mathlib.Core.List.{List, [], ◌∷◌}
use mathlib.Core.Option.{Option, none, some}
use Prim.Native.Nat.{ℕ, ◌+◌, ◌<◌, ◌≤◌}
use native.Mathlib.Omega.{arith}
use lib.Dec.{eqb, leb}
use lib.ListN.{length, length-map}
use borrow.Author.Tests.{eq-eqb, ne_eqb, eqb-true, leb-true}
use Rattle.wire.specs.Checks.{only}
use Rattle.wire.proofs.RingLaws.{ring_length}
use Rattle.wire.proofs.ScanLaws.{and_left, and_right}
use Rattle.wire.specs.Checks.{Check, ◌if◌, refusal}
use Rattle.wire.specs.Table.{row_at}
use Rattle.tables.specs.Card.{cq_live, Receive, receive_of}
use Rattle.validate.specs.Accept.{accepts, is_state}
use Rattle.validate.proofs.AcceptedLaws.{Accepted, accepted}
use Rattle.tables.specs.State.{card, queue_at, pair_at, ring_at, receives_at, posted, dest_of, is_live, no_completion, no_record}
use Rattle.tables.specs.Layout.{state_size, cq_flag_t, cq_t, qp_flag_t, qp_t, waiting_t}
use Rattle.tables.specs.Limits.{cq_count, qp_count, most_places, most_waiting, most_access}
use Rattle.tables.proofs.ObjectLaws.{cq_below, cq_live_lem, qp_below, qp_flag, qp_live, qp_row}
use Rattle.validate.proofs.QueueLaws.{queue_is}
use Rattle.validate.proofs.WaitingLaws.{pair_sound, waiting_is}
use Rattle.tables.specs.declared.QueuePair.{QueuePair}
use Rattle.rules.specs.Lists.{is_empty, is_some, names, or_else}
use Rattle.rules.specs.Send.{peer_of, is_in_error, place_checks, ready_checks, hold_checks, can_receive, ready, room, has_places}
use Rattle.rules.specs.Touch.{takes}
use Rattle.rules.specs.declared.Answer.TheVariants.{Held}
use Rattle.rules.specs.declared.Cause.TheVariants.{Peer, Place}
use Rattle.delivery.specs.Meet.{answers, places_by, peer_meeting, has_place, bare, met_by, holding, is_free, ends_at, Sender}
use Rattle.delivery.specs.declared.meet.Ends.{Ends}
use Rattle.std.specs.Prelude.{Result, Ok, Err}
use Rattle.rules.specs.declared.Answer.{Answer}

empty_is : (ws : List Receive) (n : ℕ) → length ws ≡ n → is_empty ws ≡ eqb n 0
empty_is [] n e = sym (eq-eqb n 0 (sym e))
empty_is (w ∷ ws) n e = sym (ne_eqb n 0 (λ z. omega arith))

both_ends : (x y : Bool) (e : Ends) →
    cond {A = Result Ends Answer} x (Err (Held Peer)) (cond y (Err (Held Place)) (Ok e)) ≡ met_by (cond x (some 5) (cond y (some 6) none)) e
both_ends true y e = refl
both_ends false true e = refl
both_ends false false e = refl

-- the peer is ready, and the sender is not in error
last_two : (ends : Ends) (ps : List Check) (t n c d d' e e' : Bool) → n ≡ false → c ≡ true → d ≡ d' → e ≡ e' →
    met_by (refusal (cond n ps (5 if not c ∷ 5 if (t && d) ∷ 6 if not e ∷ []))) ends
    ≡ met_by (cond {A = Option ℕ} (t && d') (some 5) (cond (not e') (some 6) none)) ends
last_two ends ps t n c d d' e e' i z u v = rw (i, z, u, v)

-- destination 8 is no number of a queue pair
names_is : (d q : ℕ) → q < qp_count → names (dest_of d) q ≡ eqb d q
names_is d q b = go (eqb d qp_count) refl
  where
    go : (x : Bool) → eqb d qp_count ≡ x → names (cond x none (some d)) q ≡ eqb d q
    go true e = let z = eqb-true d qp_count e in sym (ne_eqb d q (λ y. omega arith))
    go false e = refl

-- ---- the tests of both

module _ (l : List ℕ) (ok : Accepted l) where
  -- the completion queue n, which is live
  room_is : (n k : ℕ) → cq_live (card l) n ≡ true → room ((card l).cq n) k ≡ leb ((row_at cq_t l n).count + k) (row_at cq_t l n).places
  unfolding queue_at
  room_is n k e =
      let b = cq_below l n e in
      let p : row_at cq_flag_t l n ≡ 1 = eqb-true (row_at cq_flag_t l n) 1 (sym (cq_live_lem l n b) ∙ e) in
      rw (queue_is l ok n b p, ring_length no_completion most_places (ring_at l n) (row_at cq_t l n).first (row_at cq_t l n).count)

  module _ (q o : ℕ) where
    abbrev own : QueuePair
    own = row_at qp_t l q

    abbrev d : ℕ
    d = own.dest

    abbrev far : QueuePair
    far = row_at qp_t l d

    module _ (b : q < qp_count) where
      module _ (is_live_lem : is_live (row_at qp_flag_t l q) ≡ true) where
        live : row_at qp_flag_t l q ≡ 1
        live = eqb-true (row_at qp_flag_t l q) 1 is_live_lem

        send_queue : own.scq < cq_count
        unfolding pair_at
        send_queue = cq_below l own.scq (pair_sound l ok q b live).sends

        errs_is : is_in_error ((card l).qp q) ≡ eqb own.state 6
        unfolding pair_at
        errs_is = rw (qp_row l q b live)

        in_error_lem : own.state ≡ 6 → refusal (hold_checks (card l) q (bare o)) ≡ cond (not (has_place l own)) (some 6) none
        unfolding hold_checks place_checks pair_at
        in_error_lem h = rw (qp_row l q b live, eq-eqb own.state 6 h, room_is own.scq 1 (pair_sound l ok q b live).sends)

        module _ (other : own.state ≡ 6 → ⊥) where
          not_error : eqb own.state 6 ≡ false
          not_error = ne_eqb own.state 6 other

          no_destination : qp_count ≤ d → Err (Held Peer) ≡ holding l q o
          unfolding hold_checks ready_checks pair_at
          no_destination h =
              let s = pair_sound l ok q b live in
              let x : Bool = leb own.signal 1 && is_state own.state && only most_access own.rights in
              let k = leb-true d qp_count (and_right x (leb d qp_count) (and_left (x && leb d qp_count) (not (eqb d q)) s.limits)) in
              let z : d ≡ qp_count = omega arith in
              rw (qp_row l q b live, not_error, z)

          module _ (h : d < qp_count) where
            abbrev there : Bool
            there = is_live (row_at qp_flag_t l d)

            ready_is : ready (card l) q (some d) ≡ answers there far q
            unfolding pair_at
            ready_is = go there refl
              where
                go : (x : Bool) → there ≡ x → ready (card l) q (some d) ≡ answers there far q
                go true e = rw (qp_row l d h (eqb-true (row_at qp_flag_t l d) 1 e), e, names_is far.dest q b)
                go false e = rw (qp_live l d h, e)

            peer_not_ready : answers there far q ≡ false → Err (Held Peer) ≡ holding l q o
            unfolding hold_checks ready_checks pair_at
            peer_not_ready a = rw (qp_row l q b live, not_error, ne_eqb d qp_count (λ z. omega arith), ready_is, a)

            module _ (a : answers there far q ≡ true) where
              far_live : row_at qp_flag_t l d ≡ 1
              far_live =
                  eqb-true (row_at qp_flag_t l d) 1 (and_left there (can_receive far.state) (and_left (there && can_receive far.state) (eqb far.dest q) a))

              receive_queue : far.rcq < cq_count
              unfolding pair_at
              receive_queue = cq_below l far.rcq (pair_sound l ok d h far_live).receives

              waits_is : is_empty ((card l).qp d).waiting ≡ eqb (row_at waiting_t l d).count 0
              unfolding pair_at
              waits_is =
                  empty_is ((card l).qp d).waiting (row_at waiting_t l d).count
                  (ap (λ (ws : List Receive). length ws) (waiting_is l ok d h far_live) ∙ length-map (posted (pair_at l d)) receive_of
                  ∙ ring_length no_record most_waiting (receives_at l d) (row_at waiting_t l d).first (row_at waiting_t l d).count)

              places_are : has_places (card l) q d o ≡ places_by (row_at cq_t l own.scq) (row_at cq_t l far.rcq) (eqb own.scq far.rcq) o
              unfolding pair_at
              places_are =
                  rw (
                    qp_row l q b live,
                    qp_row l d h far_live,
                    room_is own.scq (cond (takes o && eqb own.scq far.rcq) 2 1) (pair_sound l ok q b live).sends,
                    room_is far.rcq 1 (pair_sound l ok d h far_live).receives,
                  )

              dest_is : ((card l).qp q).dest ≡ some d
              unfolding pair_at
              dest_is = rw (qp_row l q b live, ne_eqb d qp_count (λ z. omega arith))

              peer_is : peer_of (card l) q ≡ d
              peer_is = ap (λ (x : Option ℕ). or_else x qp_count) dest_is

              met : peer_meeting l (ends_at l q) o ≡ holding l q o
              unfolding hold_checks ready_checks pair_at
              met =
                  both_ends (takes o && eqb (row_at waiting_t l d).count 0)
                  (not (places_by (row_at cq_t l own.scq) (row_at cq_t l far.rcq) (eqb own.scq far.rcq) o)) (ends_at l q)
                  ∙ sym (last_two (ends_at l q) (place_checks (card l) q) (takes o) (is_in_error ((card l).qp q))
                  (ready (card l) q ((card l).qp q).dest)
                  (is_empty ((card l).qp (peer_of (card l) q)).waiting) (eqb (row_at waiting_t l d).count 0) (has_places (card l) q (peer_of (card l) q) o)
                  (places_by (row_at cq_t l own.scq) (row_at cq_t l far.rcq) (eqb own.scq far.rcq) o)
                  (rw (qp_row l q b live) not_error)
                  (ap (ready (card l) q) dest_is ∙ ready_is ∙ a)
                  (ap (λ (n : ℕ). is_empty ((card l).qp n).waiting) peer_is ∙ waits_is)
                  (ap (λ (n : ℕ). has_places (card l) q n o) peer_is ∙ places_are))

-- the row of a queue pair that is live
pub sender : (l : List ℕ) → accepts l ≡ true → length l ≡ state_size → (q : ℕ) → ((card l).qp q).live ≡ true → (own : QueuePair) → own ≡ row_at qp_t l q → Sender l q own
sender l a size q lives own at =
    record { accepted = a; size = size; below = qp_below l q lives; live = eq-eqb (row_at qp_flag_t l q) 1 (qp_flag l q lives); row = at }

-- ---- the same of the rows that the code has loaded

module _ (l : List ℕ) (q o : ℕ) (own : QueuePair) (s : Sender l q own) where
  ok : Accepted l
  ok = accepted l s.accepted

  pub sender_live : ((card l).qp q).live ≡ true
  sender_live = qp_live l q s.below ∙ s.live

  pub sender_queue : own.scq < cq_count
  sender_queue = rw s.row (send_queue l ok q o s.below s.live)

  pub in_error_is : is_in_error ((card l).qp q) ≡ eqb own.state 6
  in_error_is = errs_is l ok q o s.below s.live ∙ ap (λ (p : QueuePair). eqb p.state 6) (sym s.row)

  error_held : own.state ≡ 6 → refusal (hold_checks (card l) q (bare o)) ≡ cond (not (has_place l own)) (some 6) none
  error_held h = rw s.row (in_error_lem l ok q o s.below s.live (subst (λ (p : QueuePair). p.state ≡ 6) s.row h))

  pub error_stops : own.state ≡ 6 → has_place l own ≡ false → refusal (hold_checks (card l) q (bare o)) ≡ some 6
  error_stops h e = error_held h ∙ rw e

  pub error_passes : own.state ≡ 6 → has_place l own ≡ true → refusal (hold_checks (card l) q (bare o)) ≡ none
  error_passes h e = error_held h ∙ rw e

  pub error_free : own.state ≡ 6 → has_place l own ≡ is_free l q o
  error_free h = rw (error_held h) (go (has_place l own))
    where
      go : (b : Bool) → b ≡ not (is_some (cond {A = Option ℕ} (not b) (some 6) none))
      go true = refl
      go false = refl

  module _ (other : own.state ≡ 6 → ⊥) where
    sends : (row_at qp_t l q).state ≡ 6 → ⊥
    sends = subst (λ (p : QueuePair). p.state ≡ 6 → ⊥) s.row other

    pub no_peer : qp_count ≤ own.dest → Err (Held Peer) ≡ holding l q o
    no_peer h = no_destination l ok q o s.below s.live sends (subst (λ (p : QueuePair). qp_count ≤ p.dest) s.row h)

    module _ (h : own.dest < qp_count) (live : Bool) (lives : live ≡ is_live (row_at qp_flag_t l own.dest)) (far : QueuePair)
        (at : far ≡ row_at qp_t l own.dest) where
      named : (row_at qp_t l q).dest < qp_count
      named = subst (λ (p : QueuePair). p.dest < qp_count) s.row h

      seen : answers (is_live (row_at qp_flag_t l (row_at qp_t l q).dest)) (row_at qp_t l (row_at qp_t l q).dest) q ≡ answers live far q
      seen = rw (lives, at, s.row)

      pub peer_silent : answers live far q ≡ false → Err (Held Peer) ≡ holding l q o
      peer_silent a = peer_not_ready l ok q o s.below s.live sends named (seen ∙ a)

      module _ (a : answers live far q ≡ true) where
        pub queues_below : (own.scq < cq_count) × (far.rcq < cq_count)
        queues_below =
            rw (at, s.row) (
              send_queue l ok q o s.below s.live,
              receive_queue l ok q o s.below s.live sends named (seen ∙ a),
            )

        pub peer_met : peer_meeting l (record { q = q; own = own; d = own.dest; far = far }) o ≡ holding l q o
        peer_met = rw (at, s.row) (met l ok q o s.below s.live sends named (seen ∙ a))
