-- Whether an object is free, and whom a live one names, as its rows say. Assumes nothing.
use Rattle.std.proofs.Common.{◌≡◌, ℕ, zero, suc, ◌+◌, ◌-◌, ◌*◌, ◌<◌, ◌≤◌, Bool, true, false, cond, not, ◌&&◌, ◌||◌, eqb, ltb, leb, List, sym, refl, ap, ◌∙◌, add-zero, add_assoc, mul-one, arith, le-ltb, lt-ltb, le-leb}
use native.Mathlib.Decide.{dec_le}
use borrow.Author.Tests.{lt-leb, not-true, not-false}
use Rattle.wire.specs.Codec.{fields_at}
use Rattle.wire.specs.Le.{le_at}
use Rattle.wire.specs.Scan.{all_below, lowest, lowest_from, clear_at}
use Rattle.wire.specs.Table.{row_at, place}
use Rattle.wire.proofs.ScanLaws.{all_at, block_more, lowest_start, lowest_none, lowest_here, lowest_later, lowest_passes, lowest_least, lowest_same}
use Rattle.tables.specs.Card.{Qp, free_qp, no_registration}
use Rattle.tables.specs.Layout.{pd_flag_base, cq_flag_base, mr_flag_base, qp_flag_base, pd_flag_t, cq_flag_t, mr_flag_t, mr_t, qp_flag_t, qp_t, flag_codec}
use Rattle.tables.specs.Limits.{pd_count, cq_count, mr_count, qp_count}
use Rattle.tables.specs.State.{card, region_at, pair_at, mr_of, qp_of, live_qp, is_live, registration_of}
use Rattle.tables.specs.declared.Registration.{Registration}
use Rattle.tables.proofs.ObjectLaws.{pd_is, cq_live_lem, mr_is, mr_live, mr_variant, qp_is, qp_live}
use Rattle.validate.specs.Search.{last_variant, vacant, free_pdn, free_cqn, free_mrn, free_qpn, mr_names, qp_names, qp_uses}

module _ (l : List ℕ) (n : ℕ) where
  pub mr_names_lem : (d : ℕ) → n < mr_count → mr_names (card l) d n ≡ (is_live (row_at mr_flag_t l n) && eqb (row_at mr_t l n).pd d)
  unfolding mr_of region_at
  mr_names_lem d h = rw (mr_is l n h) (go (is_live (row_at mr_flag_t l n)))
    where
      go : (b : Bool) → (b && eqb (cond {A = Registration} b (registration_of (row_at mr_t l n)) no_registration).pd d) ≡ (b && eqb (row_at mr_t l n).pd d)
      go true = refl
      go false = refl

  abbrev named : Bool → Qp
  named b = cond {A = Qp} b (live_qp (pair_at l n)) free_qp

  pub qp_names_lem : (d : ℕ) → n < qp_count → qp_names (card l) d n ≡ (is_live (row_at qp_flag_t l n) && eqb (row_at qp_t l n).pd d)
  unfolding qp_of pair_at
  qp_names_lem d h = rw (qp_is l n h) (go (is_live (row_at qp_flag_t l n)))
    where
      go : (b : Bool) → ((named b).live && eqb (named b).pd d) ≡ (b && eqb (row_at qp_t l n).pd d)
      go true = refl
      go false = refl

  pub qp_uses_lem : (d : ℕ) → n < qp_count
      → qp_uses (card l) d n ≡ (is_live (row_at qp_flag_t l n) && (eqb (row_at qp_t l n).scq d || eqb (row_at qp_t l n).rcq d))
  unfolding qp_of pair_at
  qp_uses_lem d h = rw (qp_is l n h) (go (is_live (row_at qp_flag_t l n)))
    where
      go : (b : Bool) → ((named b).live && (eqb (named b).scq d || eqb (named b).rcq d)) ≡ (b && (eqb (row_at qp_t l n).scq d || eqb (row_at qp_t l n).rcq d))
      go true = refl
      go false = refl

-- ---- the lowest free number is found in the column of flags

pub free_pdn_lem : (l : List ℕ) → lowest pd_count (clear_at l pd_flag_base) ≡ free_pdn (card l)
unfolding row_at pd_flag_t flag_codec fields_at place
free_pdn_lem l = lowest_same pd_count _ _ (λ i h. sym (ap not (rw (mul-one, add-zero) at (pd_is l i h))))

pub free_cqn_lem : (l : List ℕ) → lowest cq_count (clear_at l cq_flag_base) ≡ free_cqn (card l)
unfolding row_at cq_flag_t flag_codec fields_at place
free_cqn_lem l = lowest_same cq_count _ _ (λ i h. sym (ap not (rw (mul-one, add-zero) at (cq_live_lem l i h))))

pub free_qpn_lem : (l : List ℕ) → lowest qp_count (clear_at l qp_flag_base) ≡ free_qpn (card l)
unfolding row_at qp_flag_t flag_codec fields_at place
free_qpn_lem l = lowest_same qp_count _ _ (λ i h. sym (ap not (rw (mul-one, add-zero) at (qp_live l i h))))

-- ---- regions: the lowest free slot that isn't retired

below_is : (a b : ℕ) → not (leb a b) ≡ ltb b a
below_is a b =
    elim (dec_le a b) [
      | yes h ↦ ap not (le-leb a b h) ∙ sym (le-ltb b a h)
      | no h ↦ ap not (lt-leb a b (omega arith)) ∙ sym (lt-ltb b a (omega arith))
    ]

module _ (l : List ℕ) where
  abbrev empty : ℕ → Bool
  empty n = vacant ((card l).mr n)

  pub slot_vacant : (n : ℕ) → n < mr_count → empty n ≡ (not (is_live (row_at mr_flag_t l n)) && ltb (row_at mr_t l n).variant last_variant)
  slot_vacant n h = rw (mr_live l n h, mr_variant l n h) (go (is_live (row_at mr_flag_t l n)))
    where
      go : (b : Bool) → (not b && not (not b && leb last_variant (row_at mr_t l n).variant)) ≡ (not b && ltb (row_at mr_t l n).variant last_variant)
      go true = refl
      go false = below_is last_variant (row_at mr_t l n).variant

  -- a slot whose flag is set is taken
  set_taken : (n : ℕ) → n < mr_count → clear_at l mr_flag_base n ≡ false → empty n ≡ false
  unfolding row_at mr_flag_t flag_codec fields_at place
  set_taken n h e =
      let f : is_live (row_at mr_flag_t l n) ≡ true = rw (mul-one, add-zero) (not-false (eqb (le_at 1 l (mr_flag_base + n)) 1) e) in
      rw (mr_live l n h, f)

-- numbers before i do not pass
pub search_past : (n i : ℕ) (p : ℕ → Bool) → i ≤ n → ((k : ℕ) → k < i → p k ≡ false) → lowest n p ≡ lowest_from p (n - i) i
search_past n zero p h f = lowest_start n p
search_past n (suc i) p h f =
    let e : i + 1 ≡ suc i = omega arith in
    search_past n i p (omega arith) (λ k b. f k (omega arith)) ∙ lowest_later n i p (omega arith) (f i (omega arith)) ∙ rw e

pub lowest_is : (n : ℕ) (p : ℕ → Bool) (s : ℕ) → s < n → p s ≡ true → ((k : ℕ) → k < s → p k ≡ false) → lowest n p ≡ s
lowest_is n p s h e least = search_past n s p (omega arith) least ∙ lowest_here n s p h e

-- the eight slots from 8 g on
module _ (l : List ℕ) (g : ℕ) (inside : 8 * g + 8 ≤ mr_count) where
  -- those before the first clear flag are taken
  pub eight_taken : (i : ℕ) → i ≡ lowest 8 (clear_at l (mr_flag_base + 8 * g)) → i ≤ 8 → (k : ℕ) → k < i → vacant ((card l).mr (8 * g + k)) ≡ false
  eight_taken i e h k b =
      set_taken l (8 * g + k) (omega arith)
      (rw (add_assoc mr_flag_base (8 * g) k) at (lowest_least 8 (clear_at l (mr_flag_base + 8 * g)) k (rw e at b)))

  -- none before them is vacant
  module _ (before : all_below (8 * g) (λ k. not (vacant ((card l).mr k))) ≡ true) where
    earlier : (k : ℕ) → k < 8 * g → vacant ((card l).mr k) ≡ false
    earlier k h = not-true (vacant ((card l).mr k)) (all_at (8 * g) (λ k. not (vacant ((card l).mr k))) k h before)

    pub eight_found : (i : ℕ) → i ≡ lowest 8 (λ k. vacant ((card l).mr (8 * g + k))) → i < 8 → 8 * g + i ≡ free_mrn (card l)
    eight_found i e h =
        let p : ℕ → Bool = λ k. vacant ((card l).mr (8 * g + k)) in
        sym (lowest_is mr_count (λ k. vacant ((card l).mr k)) (8 * g + i) (omega arith) (rw (← e) at (lowest_passes 8 p (rw e at h)))
        (λ k b. elim (dec_le (8 * g) k) [
          | yes q ↦ let z : 8 * g + (k - 8 * g) ≡ k = omega arith in (rw z at (lowest_least 8 p (k - 8 * g) (rw (← e) (omega arith))))
          | no q ↦ earlier k (omega arith)
        ]))

    pub eight_past : (i : ℕ) → i ≡ lowest 8 (λ k. vacant ((card l).mr (8 * g + k))) → 8 ≤ i → all_below (8 * (g + 1)) (λ k. not (vacant ((card l).mr k))) ≡ true
    eight_past i e h =
        let z : 8 * (g + 1) ≡ 8 * g + 8 = omega arith in
        rw z
        (block_more (λ k. not (vacant ((card l).mr k))) (8 * g) 8 before
        (λ k b. ap not (lowest_least 8 (λ j. vacant ((card l).mr (8 * g + j))) k (rw (← e) (omega arith)))))

-- none of all slots is
pub none_vacant : (l : List ℕ) → all_below mr_count (λ k. not (vacant ((card l).mr k))) ≡ true → mr_count ≡ free_mrn (card l)
none_vacant l e =
    sym (search_past mr_count mr_count (λ k. vacant ((card l).mr k)) (omega arith)
    (λ k h. not-true (vacant ((card l).mr k)) (all_at mr_count (λ k. not (vacant ((card l).mr k))) k h e))
    ∙ lowest_none mr_count mr_count (λ k. vacant ((card l).mr k)) (omega arith))
