-- A live completion queue and a live queue pair of an accepted state: what the tests of poll, post receive, flush and enqueue see, as
-- the rows say it. Assumes nothing.
use mathlib.Core.Path.{◌≡◌, refl, sym, ap, ◌∙◌}
use mathlib.Core.Bool.{true, false}
use mathlib.Core.List.{List, [], ◌∷◌}
use Prim.Native.Nat.{ℕ, ◌<◌}
use native.Mathlib.Numerals.{add-one}
use native.Mathlib.Omega.{arith}
use lib.ListN.{length, length-map}
use lib.Dec.{eqb, leb, ltb}
use borrow.Author.Tests.{ne_eqb, eqb-true, eqb-false, ltb-true, leb-false}
use Rattle.wire.specs.Table.{row_at}
use Rattle.wire.proofs.RingLaws.{ring_length}
use Rattle.tables.specs.Card.{Cq, Qp, receive_of}
use Rattle.tables.specs.Layout.{cq_flag_t, cq_t, qp_flag_t, qp_t, waiting_t, send_head_t, heads_of, places_of}
use Rattle.tables.specs.Limits.{cq_count, qp_count, most_places, most_waiting, most_queued}
use Rattle.tables.specs.State.{card, queue_at, pair_at, ring_at, receives_at, posted, no_completion, no_record}
use Rattle.tables.specs.declared.QueueHead.{QueueHead}
use Rattle.tables.specs.declared.QueuePair.{QueuePair}
use Rattle.tables.specs.declared.WaitingHead.{WaitingHead}
use Rattle.tables.proofs.ObjectLaws.{cq_live_lem, cq_below, qp_below, qp_flag, qp_row}
use Rattle.tables.proofs.QueuedLaws.{queue_length}
use Rattle.validate.proofs.AcceptedLaws.{Accepted, accepted}
use Rattle.validate.proofs.QueueLaws.{queue_is, queue_sound}
use Rattle.validate.proofs.WaitingLaws.{pair_sound}
use Rattle.rules.specs.Lists.{is_empty}
use Rattle.rules.specs.Send.{room}
use Rattle.queues.specs.Live.{LiveQueue, LivePair, queue_length as Live·queue_length}
use Rattle.tables.specs.declared.WorkQueue.{WorkQueue}
use Rattle.tables.specs.declared.WorkQueue.TheVariants.{Receive, Send}

empty_is : {A : Type 0} (xs : List A) → is_empty xs ≡ eqb (length xs) 0
empty_is [] = refl
empty_is (x ∷ xs) = sym (ne_eqb (length (x ∷ xs)) 0 (λ e. omega arith))

module _ {l : List ℕ} {n : ℕ} (s : LiveQueue l n) where
  abbrev h : QueueHead
  h = row_at cq_t l n

  pub queue_ok_lem : Accepted l
  queue_ok_lem = accepted l s.ok

  pub queue_below : n < cq_count
  queue_below = cq_below l n s.live

  pub queue_flag : row_at cq_flag_t l n ≡ 1
  queue_flag = eqb-true (row_at cq_flag_t l n) 1 (sym (cq_live_lem l n queue_below) ∙ s.live)

  pub queue_first : h.first < most_places
  unfolding queue_at
  queue_first = (queue_sound l queue_ok_lem n queue_below queue_flag).first

  unread_count : length ((card l).cq n).entries ≡ h.count
  unfolding queue_at
  unread_count =
      rw (queue_is l queue_ok_lem n queue_below queue_flag) (ring_length no_completion most_places (ring_at l n) h.first h.count)

  pub unread_none : is_empty ((card l).cq n).entries ≡ eqb h.count 0
  unread_none = empty_is ((card l).cq n).entries ∙ rw unread_count

  room_is : room ((card l).cq n) 1 ≡ ltb h.count h.places
  room_is = rw (unread_count, add-one, ap (λ (q : Cq). q.places) (queue_is l queue_ok_lem n queue_below queue_flag))

module _ {l : List ℕ} {q : ℕ} (s : LivePair l q) where
  abbrev p : QueuePair
  p = row_at qp_t l q

  abbrev w : WaitingHead
  w = row_at waiting_t l q

  pub pair_ok_lem : Accepted l
  pair_ok_lem = accepted l s.ok

  pub pair_below : q < qp_count
  pair_below = qp_below l q s.live

  pub pair_flag : row_at qp_flag_t l q ≡ 1
  pair_flag = qp_flag l q s.live

  pub pair_first : w.first < most_waiting
  unfolding pair_at
  pair_first = (pair_sound l pair_ok_lem q pair_below pair_flag).first

  pub pair_state : ((card l).qp q).state ≡ p.state
  unfolding pair_at
  pair_state = ap (λ (x : Qp). x.state) (qp_row l q pair_below pair_flag)

  pub pair_rcq : ((card l).qp q).rcq ≡ p.rcq
  unfolding pair_at
  pair_rcq = ap (λ (x : Qp). x.rcq) (qp_row l q pair_below pair_flag)

  -- the completion queues that it names
  pub pair_queues : (p.scq < cq_count) × (p.rcq < cq_count)
  unfolding pair_at
  pair_queues = let u = pair_sound l pair_ok_lem q pair_below pair_flag in (cq_below l p.scq u.sends, cq_below l p.rcq u.receives)

  pub rcq_live : LiveQueue l p.rcq
  unfolding pair_at
  rcq_live = record { ok = s.ok; live = (pair_sound l pair_ok_lem q pair_below pair_flag).receives }

  pub rcq_room : (x : QueuePair) → x ≡ p → (u : QueueHead) → u ≡ row_at cq_t l x.rcq
      → ltb u.count u.places ≡ room ((card l).cq ((card l).qp q).rcq) 1
  rcq_room x e u f = rw (f, e, pair_rcq) (sym (room_is rcq_live))

  pub waiting_count : length ((card l).qp q).waiting ≡ w.count
  unfolding pair_at
  waiting_count =
      rw (qp_row l q pair_below pair_flag)
      (length-map (posted (pair_at l q)) receive_of ∙ ring_length no_record most_waiting (receives_at l q) w.first w.count)

  pub waiting_none : is_empty ((card l).qp q).waiting ≡ eqb w.count 0
  waiting_none = empty_is ((card l).qp q).waiting ∙ rw waiting_count

  -- a fifth receive does not fit, and a fourth does
  pub receive_room : leb most_waiting (length ((card l).qp q).waiting) ≡ false → w.count < most_waiting
  receive_room e = leb-false most_waiting w.count (sym (ap (leb most_waiting) waiting_count) ∙ e)

  pub queue_count : length ((card l).qp q).queue ≡ (row_at send_head_t l q).count
  queue_count = queue_length l q pair_below pair_flag

  pub length_head : (k : WorkQueue) → leb (places_of k) (row_at (heads_of k) l q).count ≡ leb (places_of k) (Live·queue_length k ((card l).qp q))
  length_head Receive = rw waiting_count
  length_head Send = rw queue_count

  -- a ninth queued send does not fit, and an eighth does
  pub queue_room : leb most_queued (length ((card l).qp q).queue) ≡ false → (row_at send_head_t l q).count < most_queued
  queue_room e = leb-false most_queued (row_at send_head_t l q).count (sym (ap (leb most_queued) queue_count) ∙ e)

  pub some_wait : is_empty ((card l).qp q).waiting ≡ false → 0 < w.count
  some_wait e = let z = eqb-false w.count 0 (sym waiting_none ∙ e) in omega arith

  pub rcq_place : room ((card l).cq ((card l).qp q).rcq) 1 ≡ true → (row_at cq_t l p.rcq).count < (row_at cq_t l p.rcq).places
  rcq_place e = let u : QueueHead = row_at cq_t l p.rcq in ltb-true u.count u.places (rcq_room p refl u refl ∙ e)
