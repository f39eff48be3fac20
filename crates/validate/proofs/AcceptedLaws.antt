-- What an accepted state shows of each number, and that this is all the test asks. Assumes nothing.
use Rattle.std.proofs.Common.{◌≡◌, ℕ, ◌+◌, ◌-◌, ◌*◌, ◌/◌, ◌<◌, ◌≤◌, Bool, true, ◌&&◌, ◌||◌, eqb, ltb, leb, List, length, get_or, sym, ◌∙◌, arith, ltb-true, lt-ltb, eq-eqb, ne_eqb, eqb-true, le-leb, leb-true}
use native.Mathlib.Decide.{ℕ_discrete}
use lib.Bits.{bit_and, and_le_r}
use Rattle.wire.specs.Checks.{only}
use Rattle.wire.specs.Scan.{all, all_below}
use Rattle.wire.specs.Table.{row_at}
use Rattle.wire.proofs.RingLaws.{ring_passed}
use Rattle.wire.proofs.ScanLaws.{all_at, all_each, and_left, and_right, or_true}
use Rattle.tables.specs.Layout.{state_size, memory_t, turn_t}
use Rattle.tables.specs.Limits.{pd_count, cq_count, mr_count, qp_count, most_places, most_waiting, most_queued, most_memory, most_address, most_access, page_size, most_pages}
use Rattle.tables.specs.State.{QueueRows, RegionRows, PairRows, pages_needed, unread, posted, queued_in, no_queued}
use Rattle.tables.specs.declared.QueueHead.{QueueHead}
use Rattle.tables.specs.declared.Region.{Region}
use Rattle.tables.specs.declared.WaitingHead.{WaitingHead}
use Rattle.validate.specs.Accept.{accepts, memory_ok, turn_ok, may_queue, queued_ok, sends_ok, completion_ok, receive_ok, queue_ok, access_ok, page_inside, numbers_ok, paged_ok, land_ok, region_ok, pair_ok, names_ok, receives_ok, pd_ok, cq_sound, cq_ok, mr_sound, mr_ok, qp_sound, qp_ok}
use Rattle.validate.proofs.TestLaws.{page_by_number}

pub record Accepted (l : List ℕ) : Type 0 where
  pub sized : length l ≡ state_size
  pub memory : memory_ok (row_at memory_t l 0) ≡ true
  pub turn : turn_ok (row_at turn_t l 0) ≡ true
  pub pds : (n : ℕ) → n < pd_count → pd_ok l n ≡ true
  pub cqs : (n : ℕ) → n < cq_count → cq_ok l n ≡ true
  pub mrs : (n : ℕ) → n < mr_count → mr_ok l n ≡ true
  pub qps : (n : ℕ) → n < qp_count → qp_ok l n ≡ true

module _ (l : List ℕ) where
  pub accepted : accepts l ≡ true → Accepted l
  unfolding accepts
  accepted e =
      let m : Bool = memory_ok (row_at memory_t l 0) in
      let t : Bool = turn_ok (row_at turn_t l 0) in
      let p : Bool = all_below pd_count (pd_ok l) in
      let c : Bool = all_below cq_count (cq_ok l) in
      let r : Bool = all_below mr_count (mr_ok l) in
      let q : Bool = all_below qp_count (qp_ok l) in
      let e4 : (m && t && p && c && r && q) ≡ true = and_right (eqb (length l) state_size) _ e in
      let e3 : (m && t && p && c && r) ≡ true = and_left (m && t && p && c && r) q e4 in
      let e2 : (m && t && p && c) ≡ true = and_left (m && t && p && c) r e3 in
      let e1 : (m && t && p) ≡ true = and_left (m && t && p) c e2 in
      let e0 : (m && t) ≡ true = and_left (m && t) p e1 in
      record {
        sized = eqb-true (length l) state_size (and_left (eqb (length l) state_size) _ e);
        memory = and_left m t e0;
        turn = and_right m t e0;
        pds = λ n h. all_at pd_count (pd_ok l) n h (and_right (m && t) p e1);
        cqs = λ n h. all_at cq_count (cq_ok l) n h (and_right (m && t && p) c e2);
        mrs = λ n h. all_at mr_count (mr_ok l) n h (and_right (m && t && p && c) r e3);
        qps = λ n h. all_at qp_count (qp_ok l) n h (and_right (m && t && p && c && r) q e4);
      }

  pub memory_most : Accepted l → row_at memory_t l 0 ≤ most_memory
  memory_most ok =
      leb-true (row_at memory_t l 0) most_memory (and_right (leb 1 (row_at memory_t l 0)) (leb (row_at memory_t l 0) most_memory) ok.memory)

  pub turn_below : Accepted l → row_at turn_t l 0 < qp_count
  turn_below ok = ltb-true (row_at turn_t l 0) qp_count ok.turn

  -- an acceptable state has the length of a state
  pub accepted_size : accepts l ≡ true → length l ≡ state_size
  accepted_size e = (accepted e).sized

  pub accepting : Accepted l → accepts l ≡ true
  unfolding accepts
  accepting a =
      rw (eq-eqb (length l) state_size a.sized, a.memory, a.turn, all_each pd_count (pd_ok l) a.pds, all_each cq_count (cq_ok l) a.cqs, all_each mr_count (mr_ok l) a.mrs, all_each qp_count (qp_ok l) a.qps)

-- ---- an object that is not free passes the rest of its test

rest : (flag : ℕ) (b : Bool) → (eqb flag 0 || (eqb flag 1 && b)) ≡ true → (flag ≡ 0 → ⊥) → (flag ≡ 1) × (b ≡ true)
rest flag b e live =
    let f : (eqb flag 1 && b) ≡ true = rw (ne_eqb flag 0 live) at e in
    (eqb-true flag 1 (and_left (eqb flag 1) b f), and_right (eqb flag 1) b f)

resting : (flag : ℕ) (b : Bool) → flag ≡ 1 → b ≡ true → (eqb flag 0 || (eqb flag 1 && b)) ≡ true
resting flag b e f = rw (e, f)

-- ---- what a live object shows, by name

-- a completion queue
pub record Queued (r : QueueRows) : Type 0 where
  pub live : r.flag ≡ 1
  pub least : 1 ≤ r.head.places
  pub most : r.head.places ≤ most_places
  pub first : r.head.first < most_places
  pub count : r.head.count ≤ r.head.places
  pub entries : all completion_ok (unread r) ≡ true

module _ (r : QueueRows) where
  abbrev h : QueueHead
  h = r.head

  pub queued : cq_sound r ≡ true → (r.flag ≡ 0 → ⊥) → Queued r
  queued e live =
      let a : Bool = leb 1 h.places in
      let b : Bool = leb h.places most_places in
      let c : Bool = ltb h.first most_places in
      let d : Bool = leb h.count h.places in
      let w : Bool = all completion_ok (unread r) in
      let f = rest r.flag (a && b && c && d && w) e live in
      let e3 : (a && b && c && d) ≡ true = and_left (a && b && c && d) w f.1 in
      let e2 : (a && b && c) ≡ true = and_left (a && b && c) d e3 in
      let e1 : (a && b) ≡ true = and_left (a && b) c e2 in
      record {
        live = f.0;
        least = leb-true _ _ (and_left a b e1);
        most = leb-true _ _ (and_right a b e1);
        first = ltb-true _ _ (and_right (a && b) c e2);
        count = leb-true _ _ (and_right (a && b && c) d e3);
        entries = and_right (a && b && c && d) w f.1;
      }

  pub queueing : Queued r → cq_sound r ≡ true
  queueing q =
      resting r.flag (queue_ok h && all completion_ok (unread r)) q.live
      (rw (le-leb 1 h.places q.least, le-leb h.places most_places q.most, lt-ltb h.first most_places q.first, le-leb h.count h.places q.count, q.entries))

-- a region
pub record Registered (pd : ℕ → Bool) (memory : ℕ) (r : RegionRows) : Type 0 where
  pub live : r.flag ≡ 1
  pub domain : pd r.row.pd ≡ true
  pub limits : region_ok memory r ≡ true

module _ (pd : ℕ → Bool) (memory : ℕ) (r : RegionRows) where
  pub registered : mr_sound pd memory r ≡ true → (r.flag ≡ 0 → ⊥) → Registered pd memory r
  registered e live =
      let a : Bool = eqb r.flag 1 in
      let b : Bool = pd r.row.pd in
      let w : Bool = region_ok memory r in
      let f : (a && b && w) ≡ true = rw (ne_eqb r.flag 0 live) at e in
      let g : (a && b) ≡ true = and_left (a && b) w f in
      record { live = eqb-true r.flag 1 (and_left a b g); domain = and_right a b g; limits = and_right (a && b) w f }

  pub registering : Registered pd memory r → mr_sound pd memory r ≡ true
  registering q = rw (eq-eqb r.flag 1 q.live, q.domain, q.limits) (or_true (eqb r.flag 0))

-- access bits and access flags have no bit above 2
pub only_most : (a : ℕ) → only most_access a ≡ true → a ≤ most_access
only_most a e =
    let x : bit_and a most_access ≡ a = eqb-true (bit_and a most_access) a e in
    let y : bit_and a most_access ≤ most_access = and_le_r a most_access in
    omega arith

pub access_most : (a : ℕ) → access_ok a ≡ true → a ≤ most_access
access_most a e = only_most a (and_left (only most_access a) _ e)

-- the region's range, as whole numbers
pub record Paged (memory : ℕ) (r : RegionRows) : Type 0 where
  pub offset : r.row.start < page_size
  pub most : r.row.start + r.row.length ≤ most_pages * page_size
  pub numbers : (k : ℕ) → k < pages_needed r.row.start r.row.length → get_or r.pages k 0 < memory / page_size

pub record Ranged (memory : ℕ) (r : RegionRows) : Type 0 where
  pub access : r.row.access ≤ most_access
  pub variant : 1 ≤ r.row.variant
  pub size : 1 ≤ r.row.length
  pub space : r.row.virt + r.row.length ≤ most_address
  pub flat : r.row.kind ≡ 0 → r.row.start + r.row.length ≤ memory
  pub paged : (r.row.kind ≡ 0 → ⊥) → Paged memory r

module _ (memory : ℕ) (r : RegionRows) where
  abbrev row : Region
  row = r.row

  paging : paged_ok memory r ≡ true → Paged memory r
  paging e =
      let a : Bool = leb row.start (page_size - 1) in
      let b : Bool = leb (row.start + row.length) (most_pages * page_size) in
      let c : Bool = numbers_ok memory (pages_needed row.start row.length) r.pages in
      let e1 : (a && b) ≡ true = and_left (a && b) c e in
      let x : row.start ≤ page_size - 1 = leb-true row.start (page_size - 1) (and_left a b e1) in
      record {
        offset = omega arith;
        most = leb-true (row.start + row.length) (most_pages * page_size) (and_right a b e1);
        numbers = λ k h.
            let n : ℕ = get_or r.pages k 0 in
            let q = all_at (pages_needed row.start row.length) (λ k. page_inside memory (page_size * get_or r.pages k 0)) k h (and_right (a && b) c e) in
            ltb-true n (memory / page_size) (sym (page_by_number memory n) ∙ q);
      }

  pub ranged : region_ok memory r ≡ true → Ranged memory r
  ranged e =
      let a : Bool = access_ok row.access in
      let b : Bool = leb 1 row.variant in
      let c : Bool = leb 1 row.length in
      let d : Bool = leb (row.virt + row.length) most_address in
      let e3 : (a && b && c && d) ≡ true = and_left (a && b && c && d) (land_ok memory r) e in
      let land : land_ok memory r ≡ true = and_right (a && b && c && d) (land_ok memory r) e in
      let e2 : (a && b && c) ≡ true = and_left (a && b && c) d e3 in
      let e1 : (a && b) ≡ true = and_left (a && b) c e2 in
      record {
        access = access_most row.access (and_left a b e1);
        variant = leb-true 1 row.variant (and_right a b e1);
        size = leb-true 1 row.length (and_right (a && b) c e2);
        space = leb-true (row.virt + row.length) most_address (and_right (a && b && c) d e3);
        flat = λ k. leb-true (row.start + row.length) memory (rw (eq-eqb row.kind 0 k) at land);
        paged = λ k. paging (and_right (eqb row.kind 1) (paged_ok memory r) (rw (ne_eqb row.kind 0 k) at land));
      }

-- a queue pair
pub record Paired (pd cq : ℕ → Bool) (n : ℕ) (r : PairRows) : Type 0 where
  pub live : r.flag ≡ 1
  pub domain : pd r.row.pd ≡ true
  pub sends : cq r.row.scq ≡ true
  pub receives : cq r.row.rcq ≡ true
  pub limits : pair_ok n r.row ≡ true
  pub first : r.head.first < most_waiting
  pub count : r.head.count ≤ most_waiting
  pub waiting : all receive_ok (posted r) ≡ true
  pub queue : sends_ok r ≡ true

module _ (pd cq : ℕ → Bool) (n : ℕ) (r : PairRows) where
  abbrev w : WaitingHead
  w = r.head

  pub paired : qp_sound pd cq n r ≡ true → (r.flag ≡ 0 → ⊥) → Paired pd cq n r
  paired e live =
      let a : Bool = pd r.row.pd in
      let b : Bool = cq r.row.scq in
      let c : Bool = cq r.row.rcq in
      let d : Bool = pair_ok n r.row in
      let g : Bool = ltb w.first most_waiting in
      let k : Bool = leb w.count most_waiting in
      let x : Bool = all receive_ok (posted r) in
      let s : Bool = sends_ok r in
      let f = rest r.flag (a && b && c && d && (g && k && x) && s) e live in
      let e4 : (a && b && c && d && (g && k && x)) ≡ true = and_left (a && b && c && d && (g && k && x)) s f.1 in
      let e3 : (a && b && c && d) ≡ true = and_left (a && b && c && d) (g && k && x) e4 in
      let e2 : (a && b && c) ≡ true = and_left (a && b && c) d e3 in
      let e1 : (a && b) ≡ true = and_left (a && b) c e2 in
      let z : (g && k && x) ≡ true = and_right (a && b && c && d) (g && k && x) e4 in
      let y : (g && k) ≡ true = and_left (g && k) x z in
      record {
        live = f.0;
        domain = and_left a b e1;
        sends = and_right a b e1;
        receives = and_right (a && b) c e2;
        limits = and_right (a && b && c) d e3;
        first = ltb-true w.first most_waiting (and_left g k y);
        count = leb-true w.count most_waiting (and_right g k y);
        waiting = and_right (g && k) x z;
        queue = and_right (a && b && c && d && (g && k && x)) s f.1;
      }

  pub pairing : Paired pd cq n r → qp_sound pd cq n r ≡ true
  pairing q =
      resting r.flag (names_ok pd cq r.row && pair_ok n r.row && receives_ok r && sends_ok r) q.live
      (rw (q.domain, q.sends, q.receives, q.limits, lt-ltb w.first most_waiting q.first, le-leb w.count most_waiting q.count, q.waiting, q.queue))

-- its queued sends, none or of a state that may have some
pub record Sending (r : PairRows) : Type 0 where
  pub first : r.sends.first < most_queued
  pub count : r.sends.count ≤ most_queued
  pub queue : (r.sends.count ≡ 0 → ⊥) → (may_queue r.row.state ≡ true) × (all queued_ok (queued_in r) ≡ true)

module _ (r : PairRows) where
  abbrev s : WaitingHead
  s = r.sends

  pub sending : sends_ok r ≡ true → Sending r
  sending e =
      let a : Bool = ltb s.first most_queued in
      let b : Bool = leb s.count most_queued in
      let c : Bool = may_queue r.row.state in
      let d : Bool = all queued_ok (queued_in r) in
      let e1 : (a && b) ≡ true = and_left (a && b) (eqb s.count 0 || (c && d)) e in
      let f : (eqb s.count 0 || (c && d)) ≡ true = and_right (a && b) (eqb s.count 0 || (c && d)) e in
      record {
        first = ltb-true s.first most_queued (and_left a b e1);
        count = leb-true s.count most_queued (and_right a b e1);
        queue = λ z. (let g : (c && d) ≡ true = rw (ne_eqb s.count 0 z) at f in (and_left c d g, and_right c d g));
      }

  -- an empty queue, in any state
  pub sends_none : s.first < most_queued → s.count ≡ 0 → sends_ok r ≡ true
  sends_none f z = rw (lt-ltb s.first most_queued f, z)

  -- and another, in a state that may have one
  pub sends_some : s.first < most_queued → s.count ≤ most_queued → may_queue r.row.state ≡ true → all queued_ok (queued_in r) ≡ true → sends_ok r ≡ true
  sends_some f c m a =
      rw (lt-ltb s.first most_queued f, le-leb s.count most_queued c, m, a) (or_true (eqb s.count 0))

  -- every queued send passes
  pub sends_sound : sends_ok r ≡ true → all queued_ok (queued_in r) ≡ true
  sends_sound e = go (ℕ_discrete s.count 0)
    where
      go : Dec (s.count ≡ 0) → all queued_ok (queued_in r) ≡ true
      go (yes z) = rw z (ring_passed no_queued most_queued queued_ok r.queued s.first 0)
      go (no z) = ((sending e).queue z).1

  -- the same queue, where the queue pair's state may have one
  pub sends_kept : (r' : PairRows) → r'.sends ≡ s → r'.queued ≡ r.queued → may_queue r'.row.state ≡ true → sends_ok r ≡ true → sends_ok r' ≡ true
  sends_kept r' a c m e =
      rw (a, c, lt-ltb s.first most_queued (sending e).first, le-leb s.count most_queued (sending e).count, m, sends_sound e) (or_true (eqb s.count 0))
