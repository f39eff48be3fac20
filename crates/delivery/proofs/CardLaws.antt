-- What the stores of post send mean: the card after each, and that the state stays accepted. Assumes nothing.
use mathlib.Core.Path.{◌≡◌, refl, sym, ap, subst, ◌∙◌}
use mathlib.Core.Bool.{Bool, true, false, cond, not, ◌&&◌, false≢true}
use mathlib.Core.List.{List, [], ◌∷◌}
use Prim.Native.Nat.{ℕ, ◌+◌, ◌<◌, ◌≤◌}
use native.Mathlib.Decide.{dec_lt}
use native.Mathlib.Omega.{arith}
use lib.Dec.{eqb, leb}
use lib.ListN.{length, length-map}
use borrow.Author.Tests.{eq-eqb, eqb-true}
use Rattle.wire.specs.Checks.{only}
use Rattle.wire.specs.Codec.{Fit, Fits}
use Rattle.wire.specs.Table.{row_at, put_row}
use Rattle.wire.proofs.RingLaws.{ring_length}
use Rattle.wire.proofs.ScanLaws.{and_left, and_right}
use Rattle.wire.proofs.SlotLaws.{slot_out}
use Rattle.tables.specs.Card.{Card, Cq, Qp, Receive, cq_live, with_cq, with_qp, tail, with_waiting, receive_of, free_cq}
use Rattle.tables.specs.Layout.{cq_flag_t, cq_t, qp_flag_t, qp_t, waiting_t, send_head_t, pair_codec}
use Rattle.tables.specs.Limits.{cq_count, qp_count, most_places, most_waiting, most_access}
use Rattle.tables.specs.Queue.{push_bytes}
use Rattle.tables.specs.Records.{completion_codec}
use Rattle.tables.specs.State.{PairRows, card, cq_of, qp_of, queue_at, pair_at, ring_at, receives_at, queued_at, posted, no_completion, no_record}
use Rattle.tables.specs.declared.QueuePair.{QueuePair}
use Rattle.tables.proofs.KindLaws.{pair_card}
use Rattle.tables.proofs.ObjectLaws.{cq_is, qp_below, qp_flag, qp_row}
use Rattle.tables.proofs.StoreLaws.{pair_fits, qp_row_only, qp_row_at}
use Rattle.validate.specs.Accept.{completion_ok, is_state, pair_ok, sends_ok, qp_sound}
use Rattle.validate.proofs.AcceptedLaws.{Accepted, pairing, sends_some, sends_sound}
use Rattle.validate.proofs.SendLaws.{queue_first, queue_count}
use Rattle.validate.proofs.KeptLaws.{pair_accepted}
use Rattle.validate.proofs.QueueLaws.{queue_is, push_card, push_accepted}
use Rattle.validate.proofs.WaitingLaws.{pair_sound, waiting_is, take_card, take_accepted}
use Rattle.rules.specs.Bytes.{push_all, erring, error_bytes, consume_bytes}
use Rattle.rules.specs.Lists.{is_empty}
use Rattle.rules.specs.Send.{Put, pushed, put_all, in_error, error_if, consume_if}

-- the bytes l are accepted and mean the card c
pub record Stands (l : List ℕ) (c : Card) : Type 0 where
  pub is : card l ≡ c
  pub ok : Accepted l

-- ---- one completion more, and several

-- the queue has a free place, and the completion is within its limits
pub record Can (c : Card) (p : Put) : Type 0 where
  pub room : length (c.cq p.cqn).entries + 1 ≤ (c.cq p.cqn).places
  pub fits : Fits completion_codec p.entry
  pub good : completion_ok p.entry ≡ true

-- what a queue with a free place is in the state
pub record Open (l : List ℕ) (n : ℕ) : Type 0 where
  pub below : n < cq_count
  pub live : row_at cq_flag_t l n ≡ 1
  pub free : (row_at cq_t l n).count < (row_at cq_t l n).places

cq_out : (l : List ℕ) (n : ℕ) → cq_count ≤ n → (card l).cq n ≡ free_cq
unfolding card
cq_out l n h = slot_out cq_count free_cq (λ i. cq_of (queue_at l i)) n h

-- a completion queue that has places is live
has_live : (l : List ℕ) (n : ℕ) → 0 < ((card l).cq n).places → (n < cq_count) × (row_at cq_flag_t l n ≡ 1)
unfolding cq_of queue_at
has_live l n h =
    elim (dec_lt n cq_count) [
      | yes b ↦ (b, eqb-true (row_at cq_flag_t l n) 1 (go b (eqb (row_at cq_flag_t l n) 1) refl))
      | no b ↦ (let e : ((card l).cq n).places ≡ 0 = ap (λ (q : Cq). q.places) (cq_out l n (omega arith)) in absurd (omega arith))
    ]
  where
    go : n < cq_count → (b : Bool) → eqb (row_at cq_flag_t l n) 1 ≡ b → b ≡ true
    go b true e = refl
    go b false e = let z : ((card l).cq n).places ≡ 0 = rw (cq_is l n b, e) in absurd (omega arith)

module _ (l : List ℕ) (ok : Accepted l) where
  pub opened : (n : ℕ) → length ((card l).cq n).entries + 1 ≤ ((card l).cq n).places → Open l n
  unfolding queue_at
  opened n r =
      let s = has_live l n (omega arith) in
      let b : n < cq_count = s.0 in
      let live : row_at cq_flag_t l n ≡ 1 = s.1 in
      let q = queue_is l ok n b live in
      let p : ((card l).cq n).places ≡ (row_at cq_t l n).places = ap (λ (s : Cq). s.places) q in
      let e : length ((card l).cq n).entries ≡ (row_at cq_t l n).count =
      ap (λ (s : Cq). length s.entries) q ∙ ring_length no_completion most_places (ring_at l n) (row_at cq_t l n).first (row_at cq_t l n).count in
      record { below = b; live = live; free = omega arith }

  push_stands : (p : Put) → Can (card l) p → Stands (push_bytes l p.cqn p.entry) (with_cq (card l) (pushed p (card l).cq))
  push_stands p can =
      let o = opened p.cqn can.room in
      record {
        is = push_card l ok p.cqn o.below o.live p.entry can.fits o.free;
        ok = push_accepted l ok p.cqn o.below o.live p.entry can.fits o.free can.good;
      }

-- one after the other
unfoldable pub CanAll : Card → List Put → Type 0
CanAll c [] = Unit {0}
CanAll c (p ∷ ps) = Can c p × CanAll (with_cq c (pushed p c.cq)) ps

pub push_all_lem : (ps : List Put) (l : List ℕ) → Accepted l → CanAll (card l) ps → Stands (push_all l ps) (with_cq (card l) (put_all ps (card l).cq))
unfolding CanAll push_all put_all
push_all_lem [] l ok can = record { is = refl; ok = ok }
push_all_lem (p ∷ ps) l ok can =
    let s = push_stands l ok p can.0 in
    let t = push_all_lem ps (push_bytes l p.cqn p.entry) s.ok (subst (λ c. CanAll c ps) (sym s.is) can.1) in
    record { is = t.is ∙ rw s.is; ok = t.ok }

-- ---- a queue pair in error

erring_fits : (l : List ℕ) (n : ℕ) → Fits pair_codec (erring (row_at qp_t l n))
unfolding pair_codec Fit
erring_fits l n =
    let g = pair_fits l n in
    (g.0, (g.1.0, (g.1.1.0, (g.1.1.1.0, (omega arith, (g.1.1.1.1.1.0, (g.1.1.1.1.1.1.0, (omega arith, tt))))))))

erring_ok : (n : ℕ) (p : QueuePair) → pair_ok n p ≡ true → pair_ok n (erring p) ≡ true
erring_ok n p e =
    let a : Bool = leb p.signal 1 in
    let b : Bool = is_state p.state in
    let r : Bool = only most_access p.rights in
    let c : Bool = leb p.dest qp_count in
    let d : Bool = not (eqb p.dest n) in
    let f : (a && b && r && c) ≡ true = and_left (a && b && r && c) d e in
    let g : (a && b && r) ≡ true = and_left (a && b && r) c f in
    rw (and_left a b (and_left (a && b) r g), and_right (a && b) r g, and_right (a && b && r) c f, and_right (a && b && r && c) d e)

module _ (l : List ℕ) (ok : Accepted l) (q : ℕ) (live : ((card l).qp q).live ≡ true) where
  below : q < qp_count
  below = qp_below l q live

  pub row_live : row_at qp_flag_t l q ≡ 1
  row_live = qp_flag l q live

  -- the rows of the queue pair in error
  abbrev after : PairRows
  after =
      record {
        flag = row_at qp_flag_t l q;
        row = erring (row_at qp_t l q);
        head = row_at waiting_t l q;
        ring = receives_at l q;
        sends = row_at send_head_t l q;
        queued = queued_at l q;
      }

  after_is : pair_at (put_row qp_t l q (erring (row_at qp_t l q))) q ≡ after
  unfolding pair_at qp_t
  after_is = qp_row_at l q below (erring (row_at qp_t l q)) ok.sized (erring_fits l q)

  after_means : qp_of after ≡ in_error ((card l).qp q)
  unfolding qp_of pair_at
  after_means = rw (qp_row l q below row_live, eq-eqb (row_at qp_flag_t l q) 1 row_live)

  -- a queue may stand in error
  after_queue : sends_ok after ≡ true
  unfolding pair_at
  after_queue =
      sends_some after (queue_first l ok q below row_live) (queue_count l ok q below row_live) refl
      (sends_sound (pair_at l q) (pair_sound l ok q below row_live).queue)

  after_sound : qp_sound (card l).pd (cq_live (card l)) q after ≡ true
  unfolding pair_at
  after_sound =
      let s = pair_sound l ok q below row_live in
      pairing (card l).pd (cq_live (card l)) q after
      (record {
        live = s.live;
        domain = s.domain;
        sends = s.sends;
        receives = s.receives;
        limits = erring_ok q (row_at qp_t l q) s.limits;
        first = s.first;
        count = s.count;
        waiting = s.waiting;
        queue = after_queue;
      })

  pub error_stands : (b : Bool) → Stands (error_bytes b l q) (with_qp (card l) (error_if b q (card l).qp))
  error_stands false = record { is = refl; ok = ok }
  error_stands true =
      let o = qp_row_only l q below (erring (row_at qp_t l q)) in
      record { is = pair_card below o ∙ rw (after_is, after_means); ok = pair_accepted ok o (rw after_is after_sound) }

  -- ---- a receive that is consumed

  some_length : (ws : List Receive) → is_empty ws ≡ false → 0 < length ws
  some_length [] e = absurd (false≢true (sym e))
  some_length (w ∷ ws) e = omega arith

  pub some_wait : is_empty ((card l).qp q).waiting ≡ false → 0 < (row_at waiting_t l q).count
  unfolding pair_at
  some_wait e =
      let n : length ((card l).qp q).waiting ≡ (row_at waiting_t l q).count =
      ap (λ (ws : List Receive). length ws) (waiting_is l ok q below row_live) ∙ length-map (posted (pair_at l q)) receive_of
      ∙ ring_length no_record most_waiting (receives_at l q) (row_at waiting_t l q).first (row_at waiting_t l q).count in
      let h = some_length ((card l).qp q).waiting e in
      omega arith

  pub consume_stands : (b : Bool) → (b ≡ true → is_empty ((card l).qp q).waiting ≡ false) → Stands (consume_bytes b l q) (with_qp (card l) (consume_if b q (card l).qp))
  consume_stands false some = record { is = refl; ok = ok }
  consume_stands true some =
      record {
        is = take_card l ok q below row_live (some_wait (some refl));
        ok = take_accepted l ok q below row_live (some_wait (some refl));
      }

-- ---- what an error and a receive that is consumed keep of a queue pair

pub error_keeps : {A : Type 0} (g : Qp → A) → ((s : Qp) → g (in_error s) ≡ g s) → (b : Bool) (q : ℕ) (f : ℕ → Qp) (d : ℕ) → g (error_if b q f d) ≡ g (f d)
error_keeps g h false q f d = refl
error_keeps g h true q f d = go (eqb q d) refl
  where
    go : (b : Bool) → eqb q d ≡ b → g (cond b (in_error (f q)) (f d)) ≡ g (f d)
    go true e = h (f q) ∙ ap (λ n. g (f n)) (eqb-true q d e)
    go false e = refl

pub consume_keeps : (b : Bool) (q : ℕ) (f : ℕ → Qp) (d : ℕ) → (consume_if b q f d).live ≡ (f d).live
consume_keeps false q f d = refl
consume_keeps true q f d = go (eqb q d) refl
  where
    go : (b : Bool) → eqb q d ≡ b → (cond {A = Qp} b (with_waiting (f q) (tail (f q).waiting)) (f d)).live ≡ (f d).live
    go true e = ap (λ n. (f n).live) (eqb-true q d e)
    go false e = refl
