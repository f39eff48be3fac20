-- A post send that passed all tests: the message, its status and the memory after it, from the request and the rows, are the rules'.
-- Assumes nothing.
use mathlib.Core.Path.{◌≡◌, refl, sym, ap, ap₂, subst, ◌∙◌}
use mathlib.Core.Bool.{Bool, true, false, cond}
use mathlib.Core.List.{List, [], ◌∷◌, map, append-nil}
use mathlib.Core.Option.{none, some}
use Prim.Native.Nat.{ℕ, ◌+◌, ◌*◌, ◌%◌, ◌-◌, ◌^◌, ◌≤◌, ◌<◌}
use native.Mathlib.Omega.{arith}
use lib.Dec.{eqb, leb}
use lib.ListN.{get_or, take}
use borrow.Author.Tests.{eqb-true, leb-true, le-leb}
use Rattle.wire.specs.Checks.{Passed}
use Rattle.wire.proofs.CheckLaws.{passed}
use Rattle.wire.specs.Ring.{ring_list}
use Rattle.wire.proofs.RingLaws.{ring_pop}
use Rattle.wire.specs.Scan.{all}
use Rattle.wire.proofs.ScanLaws.{and_left, and_right}
use Rattle.wire.specs.Table.{row_at}
use Rattle.validate.specs.Accept.{accepts, receive_ok}
use Rattle.validate.proofs.AcceptedLaws.{Accepted, accepted}
use Rattle.tables.specs.Card.{Card, Qp, Receive, no_receive, receive_of}
use Rattle.tables.specs.State.{card, pair_at, live_qp, no_record, posted, receives_at}
use Rattle.tables.specs.Layout.{qp_flag_t, qp_t, waiting_t, receive_t}
use Rattle.tables.specs.Limits.{qp_count, most_waiting, most_message, most_receive_sges}
use Rattle.tables.proofs.ObjectLaws.{qp_below, qp_row, receive_at}
use Rattle.tables.specs.Records.{is_inline, receive_sges}
use Rattle.validate.proofs.WaitingLaws.{pair_sound, first_is}
use Rattle.tables.specs.declared.QueuePair.{QueuePair}
use Rattle.tables.specs.declared.ReceiveRecord.{ReceiveRecord}
use Rattle.tables.specs.declared.SendRecord.{SendRecord}
use Rattle.tables.specs.declared.Sge.{Sge}
use Rattle.tables.specs.declared.WaitingHead.{WaitingHead}
use Rattle.rules.specs.Lists.{is_empty, or_else, stored}
use Rattle.rules.specs.Permit.{Use, permits_all, place}
use Rattle.rules.specs.Send.{peer_of, taken_by, hold_checks, ready_checks, own_use, far_use, status_by, run_status, send_status, send_memory}
use Rattle.rules.specs.Touch.{Byte, takes, fills, reads, range, sge_bytes, sge_total, total, own_bytes, far_bytes, message, delivered, cut}
use Rattle.tables.specs.Records.{Request}
use Rattle.rules.proofs.Runs.{cut_bytes, values_at}
use Rattle.dma.specs.Grants.{allows_all}
use Rattle.dma.specs.Moves.{places, moved}
use Rattle.dma.proofs.UseLaws.{mask_of, allowed_all}
use Rattle.delivery.specs.Meet.{bare, ends_at}
use Rattle.delivery.specs.Deliver.{own_mask, far_mask, own_by, far_list, total_by, taken_row, Sending, status_in, carried, party_in}
use Rattle.delivery.specs.Run.{request_by, Bounded, Runs}
use Rattle.delivery.proofs.CardLaws.{row_live, some_wait}
use Rattle.delivery.proofs.LimitLaws.{Going, going}

-- ---- the request

-- its limits, and those of its numbers
pub record Told (s : SendRecord) (b : List ℕ) : Type 0 where
  pub limits : Bounded s b
  pub wr : s.wr < 2 ^ 64
  pub imm : s.imm < 2 ^ 32

pub sending : (s : SendRecord) (sges : List Sge) (b : List ℕ) → Told s b → Sending s sges b (total_by s sges b)
sending s sges b t = record { plain = t.limits.plain; short = t.limits.short; total = refl }

-- ---- the peer's side

own_mask_lem : (b : Bool) → mask_of (cond b Use.local_write Use.local_read) ≡ cond b 1 0
own_mask_lem true = refl
own_mask_lem false = refl

far_mask_lem : (f b : Bool) → mask_of (cond f Use.local_write (cond b Use.remote_read Use.remote_write)) ≡ cond f 1 (cond b 4 2)
far_mask_lem true b = refl
far_mask_lem false true = refl
far_mask_lem false false = refl

pub fills_takes : (o : ℕ) → fills o ≡ true → takes o ≡ true
fills_takes o e =
    let h = leb-true 2 o (and_left (leb 2 o) (leb o 3) e) in
    rw (le-leb 1 o (omega arith), and_right (leb 2 o) (leb o 3) e)

-- the test whether the message fits counts for a receive that it fills only
fit_or : (f a b x y z : Bool) → (f ≡ true → x ≡ y) → status_by f a b x z ≡ status_by f a b y z
fit_or true a b x y z h = rw (h refl)
fit_or false a b x y z h = refl

-- success: the message is short enough
zero_short : (f a b x z : Bool) → status_by f a b x z ≡ 0 → a ≡ true
zero_short f false b x z e = absurd (omega arith)
zero_short f true b x z e = refl

all_first : (w : ReceiveRecord) (ws : List ReceiveRecord) → all receive_ok (w ∷ ws) ≡ true → w.count ≤ 2
unfolding all
all_first w ws e = leb-true w.count most_receive_sges (and_left (receive_ok w) (all receive_ok ws) e)

-- ---- two queue pairs that passed the tests

module _ (l : List ℕ) (a : accepts l ≡ true) (q : ℕ) (s : SendRecord) (sges : List Sge) (b : List ℕ) (t : Told s b)
    (good : Runs l q s.opcode) where
  abbrev c : Card
  c = card l

  abbrev o : ℕ
  o = s.opcode

  abbrev r : Request
  r = request_by s sges b

  abbrev own : QueuePair
  own = row_at qp_t l q

  abbrev d : ℕ
  d = own.dest

  abbrev far : QueuePair
  far = row_at qp_t l d

  abbrev w : ReceiveRecord
  w = taken_row l d o

  abbrev n : ℕ
  n = total_by s sges b

  pub ok : Accepted l
  ok = accepted l a

  tests : Passed (hold_checks c q r)
  unfolding hold_checks ready_checks
  tests = passed (hold_checks c q (bare o)) good.good

  pub goes : Going c q o
  goes = going c q r good.runs good.live tests

  pub own_below : q < qp_count
  own_below = qp_below l q goes.live

  own_live : row_at qp_flag_t l q ≡ 1
  own_live = row_live l ok q goes.live

  pub own_is : c.qp q ≡ live_qp (pair_at l q)
  own_is = qp_row l q own_below own_live

  pub peer_is : peer_of c q ≡ d
  unfolding pair_at
  peer_is = ap (λ (k : Qp). or_else k.dest qp_count) own_is ∙ go (eqb d qp_count) refl
    where
      go : (b : Bool) → eqb d qp_count ≡ b → or_else (cond b none (some d)) qp_count ≡ d
      go true e = sym (eqb-true d qp_count e)
      go false e = refl

  pub peer_live : (c.qp d).live ≡ true
  peer_live = subst (λ (k : ℕ). (c.qp k).live ≡ true) peer_is goes.peer

  pub far_below : d < qp_count
  far_below = qp_below l d peer_live

  far_live : row_at qp_flag_t l d ≡ 1
  far_live = row_live l ok d peer_live

  pub far_is : c.qp d ≡ live_qp (pair_at l d)
  far_is = qp_row l d far_below far_live

  pub first_below : (row_at waiting_t l d).first < most_waiting
  unfolding pair_at
  first_below = (pair_sound l ok d far_below far_live).first

  waiting_some : takes o ≡ true → 0 < (row_at waiting_t l d).count
  waiting_some i = some_wait l ok d peer_live (ap (λ (k : ℕ). is_empty (c.qp k).waiting) (sym peer_is) ∙ goes.waits i)

  -- the receive that is taken
  pub taken_is : takes o ≡ true → taken_by c q ≡ receive_of w
  taken_is i = ap (λ (k : ℕ). get_or (c.qp k).waiting 0 no_receive) peer_is ∙ first_is l ok d far_below far_live (waiting_some i) ∙ rw i

  pub taken_count : w.count ≤ 2
  unfolding pair_at
  taken_count = go (takes o) refl
    where
      go : (b : Bool) → takes o ≡ b → (cond {A = ReceiveRecord} b (row_at receive_t l (most_waiting * d + (row_at waiting_t l d).first)) no_record).count ≤ 2
      go true i =
          let h : WaitingHead = row_at waiting_t l d in
          let y = (pair_sound l ok d far_below far_live).waiting in
          let z : posted (pair_at l d) ≡ get_or (receives_at l d) h.first no_record ∷ ring_list no_record most_waiting (receives_at l d) ((h.first + 1) % most_waiting) (h.count - 1) =
          ring_pop no_record most_waiting (receives_at l d) h.first h.count (waiting_some i) in
          let u = all_first (get_or (receives_at l d) h.first no_record) (ring_list no_record most_waiting (receives_at l d) ((h.first + 1) % most_waiting) (h.count - 1)) (ap (all receive_ok) (sym z) ∙ y) in
          subst (λ (k : ReceiveRecord). k.count ≤ 2) (receive_at l d h.first first_below) u
      go false i = omega arith

  -- ---- the status

  abbrev mine : Bool
  mine = allows_all c (party_in own) (own_mask o) (own_by s sges)

  abbrev fit : Bool
  fit = leb n (sge_total (receive_sges w))

  abbrev theirs : Bool
  theirs = allows_all c (party_in far) (far_mask o) (sge_bytes (far_list s w n))

  mine_is : permits_all c q (own_use o) (own_bytes r) ≡ mine
  unfolding pair_at own_bytes
  mine_is =
      sym (allowed_all c q (own_use o) (own_bytes r))
      ∙ ap (λ (k : Qp). allows_all c (record { pd = k.pd; rights = k.rights }) (mask_of (own_use o)) (own_bytes r)) own_is
      ∙ ap (λ (k : ℕ). allows_all c (party_in own) k (own_bytes r)) (own_mask_lem (reads o))

  far_are : far_bytes r (taken_by c q) ≡ sge_bytes (far_list s w n)
  unfolding far_bytes receive_of sge_bytes total
  far_are = go (fills o) refl
    where
      go : (f : Bool) → fills o ≡ f → cond f (take n (sge_bytes (taken_by c q).sges)) (range s.address s.key n)
          ≡ sge_bytes (cond f (cut n (receive_sges w)) (record { address = s.address; length = n; key = s.key } ∷ []))
      go true i = ap (λ (v : Receive). take n (sge_bytes v.sges)) (taken_is (fills_takes o i)) ∙ sym (cut_bytes n (receive_sges w))
      go false i = sym (append-nil (range s.address s.key n))

  theirs_is : permits_all c (peer_of c q) (far_use o) (far_bytes r (taken_by c q)) ≡ theirs
  unfolding pair_at
  theirs_is =
      ap (λ (k : ℕ). permits_all c k (far_use o) (far_bytes r (taken_by c q))) peer_is
      ∙ sym (allowed_all c d (far_use o) (far_bytes r (taken_by c q)))
      ∙ ap (λ (k : Qp). allows_all c (record { pd = k.pd; rights = k.rights }) (mask_of (far_use o)) (far_bytes r (taken_by c q))) far_is
      ∙ ap₂ (λ (k : ℕ) (b : List Byte). allows_all c (party_in far) k b) (far_mask_lem (fills o) (reads o)) far_are

  fit_is : takes o ≡ true → leb n (sge_total (taken_by c q).sges) ≡ fit
  unfolding receive_of
  fit_is i = ap (λ (v : Receive). leb n (sge_total v.sges)) (taken_is i)

  status_is : send_status c q r ≡ status_by (fills o) (leb n most_message) mine fit theirs
  unfolding send_status run_status total
  status_is =
      rw (good.runs, mine_is, theirs_is)
      (fit_or (fills o) (leb n most_message) mine (leb n (sge_total (taken_by c q).sges)) fit theirs (λ i. fit_is (fills_takes o i)))

  pub status_same : status_in l (ends_at l q) s sges w n ≡ send_status c q r
  status_same = sym status_is

  pub done_short : (st : ℕ) → st ≡ send_status c q r → st ≡ 0 → n ≤ most_message
  done_short st e z = leb-true n most_message (zero_short (fills o) (leb n most_message) mine fit theirs (status_same ∙ sym e ∙ z))

  -- ---- the memory

  module _ (m : List ℕ) where
    abbrev mine_list : List Sge
    mine_list = take s.count sges

    abbrev their_list : List Sge
    their_list = far_list s w n

    own_plain : is_inline s ≡ false → own_bytes r ≡ sge_bytes mine_list
    unfolding own_bytes
    own_plain i = rw i

    both_ways : (b : Bool) (f g : List Byte) (ps qs : List ℕ) → map (place c) f ≡ ps → map (place c) g ≡ qs →
        cond b (moved m ps qs) (moved m qs ps) ≡ stored m (map (place c) (cond b g f)) (map (λ k. get_or m (place c k) 0) (cond b f g))
    unfolding moved
    both_ways true f g ps qs i j = rw (values_at (place c) m f, i, j)
    both_ways false f g ps qs i j = rw (values_at (place c) m g, i, j)

    moved_is : carried c s b mine_list their_list m ≡ delivered (place c) r (taken_by c q) m
    unfolding delivered message
    moved_is = go (is_inline s) refl
      where
        there : map (place c) (far_bytes r (taken_by c q)) ≡ places c their_list
        there = ap (map (place c)) far_are

        here : is_inline s ≡ false → map (place c) (own_bytes r) ≡ places c mine_list
        here i = ap (map (place c)) (own_plain i)

        go : (y : Bool) → is_inline s ≡ y →
            cond y (stored m (places c their_list) b)
            (cond (reads o) (moved m (places c their_list) (places c mine_list)) (moved m (places c mine_list) (places c their_list)))
            ≡ stored m (map (place c) (cond (reads o) (own_bytes r) (far_bytes r (taken_by c q))))
            (cond y b (map (λ k. get_or m (place c k) 0) (cond (reads o) (far_bytes r (taken_by c q)) (own_bytes r))))
        go true k = rw (t.limits.there k, there)
        go false k = both_ways (reads o) (far_bytes r (taken_by c q)) (own_bytes r) (places c their_list) (places c mine_list) there (here k)

    pub memory_is : (st : ℕ) → st ≡ send_status c q r → cond (eqb st 0) (carried c s b mine_list their_list m) m ≡ send_memory c q r m
    unfolding send_memory
    memory_is st e = rw (← e) (ap (λ (y : List ℕ). cond (eqb st 0) y m) moved_is)
