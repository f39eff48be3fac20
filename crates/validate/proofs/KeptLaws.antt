-- Stores to one object keep an accepted state accepted, where at their end the object passes its own test and whoever names it still
-- finds it live. Assumes nothing.
use Rattle.std.proofs.Common.{◌≡◌, ℕ, ◌<◌, Bool, true, false, cond, ◌||◌, eqb, ◌⊎◌, List, sym, refl, ap, ◌∙◌, inl, inr, arith, lt-ltb, eq-eqb, eqb-true}
use mathlib.Core.Bool.{false≢true}
use native.Mathlib.Decide.{ℕ_discrete}
use Rattle.wire.specs.Scan.{any_below}
use Rattle.wire.specs.Slots.{upd}
use Rattle.wire.specs.Parts.{parts_end}
use Rattle.wire.specs.Table.{row_at, put_row, finish}
use Rattle.wire.proofs.ScanLaws.{any_here, or_true}
use Rattle.wire.proofs.PartsLaws.{parts_outside}
use Rattle.wire.proofs.TableLaws.{outside, row_kept}
use Rattle.tables.specs.Card.{Card, Cq, cq_live, free_cq}
use Rattle.tables.specs.Layout.{memory_t, turn_t, pd_flag_t, cq_flag_t, cq_t, entry_t, mr_flag_t, mr_t, page_t, page_codec, qp_flag_t, qp_t, waiting_t, receive_t, send_head_t, kind_t, record_p, kind_codec, memory_codec, flag_codec, queue_codec, region_codec, pair_codec, waiting_codec}
use Rattle.tables.specs.Records.{completion_codec, receive_codec}
use Rattle.tables.specs.Limits.{pd_count, cq_count, mr_count, qp_count}
use Rattle.tables.specs.State.{RegionRows, PairRows, queue_at, region_at, pair_at, card, cq_of, is_live, unread}
use Rattle.tables.proofs.KindLaws.{DomainsOnly, QueuesOnly, RegionsOnly, PairsOnly, memory_kept, turn_kept, pd_kept, cq_kept, queue_kept, region_kept, pair_kept, domain_card, queue_card, turn_block, turn_at}
use Rattle.validate.specs.Accept.{flag_ok, pd_ok, cq_sound, cq_ok, mr_sound, mr_ok, qp_sound, qp_ok}
use Rattle.validate.specs.Search.{mr_names, qp_names, pd_in_use, qp_uses, cq_in_use}
use Rattle.validate.proofs.SearchLaws.{mr_names_lem, qp_names_lem, qp_uses_lem}
use Rattle.validate.proofs.AcceptedLaws.{Accepted, registered, registering, paired, pairing}

-- ---- an object's test, where what it names may have changed

mr_mono : (pd pd' : ℕ → Bool) (memory : ℕ) (r : RegionRows) → mr_sound pd memory r ≡ true
    → (r.flag ≡ 1 → pd r.row.pd ≡ true → pd' r.row.pd ≡ true) → mr_sound pd' memory r ≡ true
mr_mono pd pd' memory r e go =
    elim (ℕ_discrete r.flag 0) [
      | yes z ↦ rw (eq-eqb r.flag 0 z)
      | no z ↦ (let q = registered pd memory r e z in
          registering pd' memory r (record { live = q.live; domain = go q.live q.domain; limits = q.limits }))
    ]

qp_mono : (pd cq pd' cq' : ℕ → Bool) (n : ℕ) (r : PairRows) → qp_sound pd cq n r ≡ true
    → (r.flag ≡ 1 → pd r.row.pd ≡ true → pd' r.row.pd ≡ true)
    → (r.flag ≡ 1 → cq r.row.scq ≡ true → cq' r.row.scq ≡ true)
    → (r.flag ≡ 1 → cq r.row.rcq ≡ true → cq' r.row.rcq ≡ true) → qp_sound pd' cq' n r ≡ true
qp_mono pd cq pd' cq' n r e d s t =
    elim (ℕ_discrete r.flag 0) [
      | yes z ↦ rw (eq-eqb r.flag 0 z)
      | no z ↦ (let q = paired pd cq n r e z in
          pairing pd' cq' n r
          (record {
            live = q.live;
            domain = d q.live q.domain;
            sends = s q.live q.sends;
            receives = t q.live q.receives;
            limits = q.limits;
            first = q.first;
            count = q.count;
            waiting = q.waiting;
            queue = q.queue;
          }))
    ]

-- ---- objects that nobody names

module _ {l l' : List ℕ} {n : ℕ} (ok : Accepted l) where
  pub region_accepted : RegionsOnly l l' n → mr_sound (card l).pd (row_at memory_t l 0) (region_at l' n) ≡ true → Accepted l'
  unfolding outside finish parts_outside parts_end turn_t send_head_t kind_t kind_codec record_p memory_t pd_flag_t cq_flag_t cq_t entry_t qp_flag_t qp_t waiting_t receive_t flag_codec queue_codec completion_codec pair_codec waiting_codec receive_codec memory_codec pd_ok cq_ok mr_ok qp_ok
  region_accepted o e =
      let b = o.block in
      record {
        sized = b.sized ∙ ok.sized;
        memory = rw (memory_kept b tt) ok.memory;
        turn = rw (turn_kept b tt) ok.turn;
        pds = λ i c. rw (row_kept pd_flag_t _ _ tt b i c) (ok.pds i c);
        cqs = λ i c. rw (queue_kept b tt i c) (ok.cqs i c);
        mrs = λ i c. rw (pd_kept b tt, memory_kept b tt) (mrs i c (ℕ_discrete i n));
        qps = λ i c. rw (pd_kept b tt, cq_kept b tt, pair_kept b tt i c) (ok.qps i c);
      }
    where
      mrs : (i : ℕ) → i < mr_count → Dec (i ≡ n) → mr_sound (card l).pd (row_at memory_t l 0) (region_at l' i) ≡ true
      mrs i c (yes x) = rw x e
      mrs i c (no x) = rw (o.others i c x) (ok.mrs i c)

  pub pair_accepted : PairsOnly l l' n → qp_sound (card l).pd (cq_live (card l)) n (pair_at l' n) ≡ true → Accepted l'
  unfolding outside finish parts_outside parts_end turn_t send_head_t kind_t kind_codec record_p memory_t pd_flag_t cq_flag_t cq_t entry_t mr_flag_t mr_t page_t page_codec flag_codec queue_codec completion_codec region_codec memory_codec pd_ok cq_ok mr_ok qp_ok
  pair_accepted o e =
      let b = o.block in
      record {
        sized = b.sized ∙ ok.sized;
        memory = rw (memory_kept b tt) ok.memory;
        turn = rw (turn_kept b tt) ok.turn;
        pds = λ i c. rw (row_kept pd_flag_t _ _ tt b i c) (ok.pds i c);
        cqs = λ i c. rw (queue_kept b tt i c) (ok.cqs i c);
        mrs = λ i c. rw (pd_kept b tt, memory_kept b tt, region_kept b tt i c) (ok.mrs i c);
        qps = λ i c. rw (pd_kept b tt, cq_kept b tt) (qps i c (ℕ_discrete i n));
      }
    where
      qps : (i : ℕ) → i < qp_count → Dec (i ≡ n) → qp_sound (card l).pd (cq_live (card l)) i (pair_at l' i) ≡ true
      qps i c (yes x) = rw x e
      qps i c (no x) = rw (o.others i c x) (ok.qps i c)

-- ---- objects that others name: at the end the object is live, or was not in use

-- an update at n, seen at m: the new value, or the old one
upd_true : (f : ℕ → Bool) (n m : ℕ) (v : Bool) → f m ≡ true → (eqb n m ≡ true → v ≡ true) → upd f n v m ≡ true
upd_true f n m v e go = by (eqb n m) refl
  where
    by : (b : Bool) → eqb n m ≡ b → upd f n v m ≡ true
    by true x = rw (x, go x)
    by false x = rw x e

-- whoever names n
still : (live : Bool) (used : Bool) → (live ≡ true) ⊎ (used ≡ false) → used ≡ true → live ≡ true
still live used (inl e) u = e
still live used (inr e) u = absurd (false≢true (sym e ∙ u))

or_first : (a b : Bool) → a ≡ true → (a || b) ≡ true
or_first a b e = rw e

or_second : (a b : Bool) → b ≡ true → (a || b) ≡ true
or_second a b e = rw e (or_true a)

swapped : (a b : ℕ) → eqb a b ≡ true → eqb b a ≡ true
swapped a b e = eq-eqb b a (sym (eqb-true a b e))

module _ (l : List ℕ) (n i : ℕ) where
  pd_by_mr : i < mr_count → (region_at l i).flag ≡ 1 → eqb n (region_at l i).row.pd ≡ true → pd_in_use (card l) n ≡ true
  unfolding region_at
  pd_by_mr c x y =
      or_first (any_below mr_count (mr_names (card l) n)) (any_below qp_count (qp_names (card l) n))
      (any_here mr_count (mr_names (card l) n) i c (mr_names_lem l i n c ∙ rw (x, swapped n (row_at mr_t l i).pd y)))

  pd_by_qp : i < qp_count → (pair_at l i).flag ≡ 1 → eqb n (pair_at l i).row.pd ≡ true → pd_in_use (card l) n ≡ true
  unfolding pair_at
  pd_by_qp c x y =
      or_second (any_below mr_count (mr_names (card l) n)) (any_below qp_count (qp_names (card l) n))
      (any_here qp_count (qp_names (card l) n) i c (qp_names_lem l i n c ∙ rw (x, swapped n (row_at qp_t l i).pd y)))

  cq_by_scq : i < qp_count → (pair_at l i).flag ≡ 1 → eqb n (pair_at l i).row.scq ≡ true → cq_in_use (card l) n ≡ true
  unfolding pair_at
  cq_by_scq c x y =
      any_here qp_count (qp_uses (card l) n) i c
      (qp_uses_lem l i n c ∙ rw x (or_first (eqb (row_at qp_t l i).scq n) (eqb (row_at qp_t l i).rcq n) (swapped n (row_at qp_t l i).scq y)))

  cq_by_rcq : i < qp_count → (pair_at l i).flag ≡ 1 → eqb n (pair_at l i).row.rcq ≡ true → cq_in_use (card l) n ≡ true
  unfolding pair_at
  cq_by_rcq c x y =
      any_here qp_count (qp_uses (card l) n) i c
      (qp_uses_lem l i n c ∙ rw x (or_second (eqb (row_at qp_t l i).scq n) (eqb (row_at qp_t l i).rcq n) (swapped n (row_at qp_t l i).rcq y)))

module _ {l l' : List ℕ} {n : ℕ} (ok : Accepted l) where
  pub domain_accepted : n < pd_count → DomainsOnly l l' n → flag_ok (row_at pd_flag_t l' n) ≡ true
      → (is_live (row_at pd_flag_t l' n) ≡ true) ⊎ (pd_in_use (card l) n ≡ false) → Accepted l'
  unfolding outside finish parts_outside parts_end turn_t send_head_t kind_t kind_codec record_p memory_t cq_flag_t cq_t entry_t mr_flag_t mr_t page_t page_codec qp_flag_t qp_t waiting_t receive_t flag_codec queue_codec completion_codec region_codec pair_codec waiting_codec receive_codec memory_codec pd_ok cq_ok mr_ok qp_ok
  domain_accepted h o f u =
      let b = o.block in
      record {
        sized = b.sized ∙ ok.sized;
        memory = rw (memory_kept b tt) ok.memory;
        turn = rw (turn_kept b tt) ok.turn;
        pds = λ i c. pds i c (ℕ_discrete i n);
        cqs = λ i c. rw (queue_kept b tt i c) (ok.cqs i c);
        mrs = λ i c. rw (pd_after, memory_kept b tt, region_kept b tt i c) (mr_mono (card l).pd after (row_at memory_t l 0) (region_at l i) (ok.mrs i c)
            (λ x y. named (region_at l i).row.pd y (pd_by_mr l n i c x)));
        qps = λ i c. rw (pd_after, cq_kept b tt, pair_kept b tt i c) (qp_mono (card l).pd (cq_live (card l)) after (cq_live (card l)) i (pair_at l i) (ok.qps i c)
            (λ x y. named (pair_at l i).row.pd y (pd_by_qp l n i c x)) (λ x y. y) (λ x y. y));
      }
    where
      live : Bool
      live = is_live (row_at pd_flag_t l' n)

      after : ℕ → Bool
      after = upd (card l).pd n live

      pd_after : (card l').pd ≡ after
      pd_after = ap (λ (c : Card). c.pd) (domain_card h o)

      named : (m : ℕ) → (card l).pd m ≡ true → (eqb n m ≡ true → pd_in_use (card l) n ≡ true) → after m ≡ true
      named m y z = upd_true (card l).pd n m live y (λ e. still live (pd_in_use (card l) n) u (z e))

      pds : (i : ℕ) → i < pd_count → Dec (i ≡ n) → pd_ok l' i ≡ true
      pds i c (yes x) = rw x f
      pds i c (no x) = rw (o.others i c x) (ok.pds i c)

  pub queue_accepted : n < cq_count → QueuesOnly l l' n → cq_sound (queue_at l' n) ≡ true
      → (is_live (queue_at l' n).flag ≡ true) ⊎ (cq_in_use (card l) n ≡ false) → Accepted l'
  unfolding outside finish parts_outside parts_end turn_t send_head_t kind_t kind_codec record_p memory_t pd_flag_t mr_flag_t mr_t page_t page_codec qp_flag_t qp_t waiting_t receive_t flag_codec region_codec pair_codec waiting_codec receive_codec memory_codec pd_ok cq_ok mr_ok qp_ok cq_of
  queue_accepted h o e u =
      let b = o.block in
      record {
        sized = b.sized ∙ ok.sized;
        memory = rw (memory_kept b tt) ok.memory;
        turn = rw (turn_kept b tt) ok.turn;
        pds = λ i c. rw (row_kept pd_flag_t _ _ tt b i c) (ok.pds i c);
        cqs = λ i c. cqs i c (ℕ_discrete i n);
        mrs = λ i c. rw (pd_kept b tt, memory_kept b tt, region_kept b tt i c) (ok.mrs i c);
        qps = λ i c. rw (pd_kept b tt, pair_kept b tt i c) (qp_mono (card l).pd (cq_live (card l)) (card l).pd (cq_live (card l')) i (pair_at l i) (ok.qps i c)
            (λ x y. y) (λ x y. named (pair_at l i).row.scq y (cq_by_scq l n i c x)) (λ x y. named (pair_at l i).row.rcq y (cq_by_rcq l n i c x)));
      }
    where
      live : Bool
      live = is_live (queue_at l' n).flag

      live_after : (m : ℕ) → cq_live (card l') m ≡ upd (cq_live (card l)) n live m
      live_after m = ap (λ (c : Card). cq_live c m) (queue_card h o) ∙ by (eqb n m) (is_live (queue_at l' n).flag)
        where
          by : (x y : Bool)
              → (cond {A = Cq} x (cond {A = Cq} y (record { live = true; places = (queue_at l' n).head.places; entries = unread (queue_at l' n) }) free_cq) ((card l).cq m)).live
              ≡ cond x y (cq_live (card l) m)
          by true true = refl
          by true false = refl
          by false y = refl

      named : (m : ℕ) → cq_live (card l) m ≡ true → (eqb n m ≡ true → cq_in_use (card l) n ≡ true) → cq_live (card l') m ≡ true
      named m y z = live_after m ∙ upd_true (cq_live (card l)) n m live y (λ x. still live (cq_in_use (card l) n) u (z x))

      cqs : (i : ℕ) → i < cq_count → Dec (i ≡ n) → cq_ok l' i ≡ true
      cqs i c (yes x) = rw x e
      cqs i c (no x) = rw (o.others i c x) (ok.cqs i c)

-- ---- the turn place

pub turn_accepted : {l : List ℕ} → Accepted l → (n : ℕ) → n < qp_count → Accepted (put_row turn_t l 0 n)
unfolding outside finish parts_outside parts_end send_head_t kind_t kind_codec record_p memory_t pd_flag_t cq_flag_t cq_t entry_t mr_flag_t mr_t page_t page_codec qp_flag_t qp_t waiting_t receive_t flag_codec queue_codec completion_codec region_codec pair_codec waiting_codec receive_codec memory_codec pd_ok cq_ok mr_ok qp_ok
turn_accepted {l} ok n h =
    let b = turn_block l n in
    record {
      sized = b.sized ∙ ok.sized;
      memory = rw (memory_kept b tt) ok.memory;
      turn = rw (turn_at l n ok.sized (omega arith)) (lt-ltb n qp_count h);
      pds = λ i c. rw (row_kept pd_flag_t _ _ tt b i c) (ok.pds i c);
      cqs = λ i c. rw (queue_kept b tt i c) (ok.cqs i c);
      mrs = λ i c. rw (pd_kept b tt, memory_kept b tt, region_kept b tt i c) (ok.mrs i c);
      qps = λ i c. rw (pd_kept b tt, cq_kept b tt, pair_kept b tt i c) (ok.qps i c);
    }
