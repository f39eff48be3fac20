-- The ways in which each object's test ends, for the code that makes it. Assumes nothing.
use Rattle.std.proofs.Common.{◌≡◌, ℕ, ◌+◌, ◌-◌, ◌*◌, ◌/◌, ◌≤◌, true, ◌&&◌, ltb, leb, List, sym, ◌∙◌, add-zero, mul-one, arith, le-ltb, lt-ltb, eq-eqb, ne_eqb, le-leb}
use native.Mathlib.Decide.{dec_lt}
use borrow.Author.Tests.{lt-leb}
use Rattle.wire.specs.Codec.{fields_at}
use Rattle.wire.specs.Le.{le_at}
use Rattle.wire.specs.Scan.{all_below}
use Rattle.wire.specs.Table.{row_at, place}
use Rattle.wire.proofs.LeLaws.{zero_word}
use Rattle.wire.proofs.ScanLaws.{all_at, block_more}
use Rattle.tables.specs.Layout.{memory_t, mr_flag_t, mr_flag_base, mr_t, flag_codec}
use Rattle.tables.specs.Limits.{page_size, most_pages}
use Rattle.tables.specs.State.{card, region_at, pages_at, pages_needed}
use Rattle.tables.specs.declared.Region.{Region}
use Rattle.validate.specs.Together.{Zeros}
use Rattle.validate.specs.Accept.{mr_ok, fields_ok, page_inside, numbers_ok, paged_ok, land_ok}

module _ (l : List ℕ) (n : ℕ) where
  pub mr_off : row_at mr_flag_t l n ≡ 0 → mr_ok l n ≡ true
  unfolding mr_ok region_at
  mr_off e = rw (eq-eqb (row_at mr_flag_t l n) 0 e)

  pub mr_rest : row_at mr_flag_t l n ≡ 1
      → mr_ok l n ≡ ((card l).pd (row_at mr_t l n).pd && (fields_ok (row_at mr_t l n) && land_ok (row_at memory_t l 0) (region_at l n)))
  unfolding mr_ok region_at
  mr_rest e = rw e

-- where a region lies, from its row r
pub need_most : (start size : ℕ) → start + size ≤ most_pages * page_size → pages_needed start size ≤ most_pages
unfolding pages_needed
need_most start size h = omega arith

-- a page by its number, as the code tests it
pub page_by_number : (memory n : ℕ) → page_inside memory (page_size * n) ≡ ltb n (memory / page_size)
page_by_number memory n =
    elim (dec_lt n (memory / page_size)) [
      | yes h ↦ le-leb (page_size * n + page_size) memory (omega arith) ∙ sym (lt-ltb n (memory / page_size) h)
      | no h ↦ lt-leb (page_size * n + page_size) memory (omega arith) ∙ sym (le-ltb n (memory / page_size) (omega arith))
    ]

module _ (l : List ℕ) (n memory : ℕ) (r : Region) (is : r ≡ row_at mr_t l n) where
  module _ (offset : r.start ≤ page_size - 1) where
    pub paged_rest : leb (r.start + r.length) (most_pages * page_size) ≡ true
        → paged_ok memory (region_at l n) ≡ numbers_ok memory (pages_needed r.start r.length) (pages_at l n)
    unfolding region_at
    paged_rest e = rw (← is, le-leb r.start (page_size - 1) offset, e)

  pub land_flat : r.kind ≡ 0 → land_ok memory (region_at l n) ≡ leb (r.start + r.length) memory
  unfolding region_at
  land_flat e = rw (← is, eq-eqb r.kind 0 e)

  pub land_paged : (r.kind ≡ 0 → ⊥) → r.kind ≡ 1 → land_ok memory (region_at l n) ≡ paged_ok memory (region_at l n)
  unfolding region_at
  land_paged e f = rw (← is, ne_eqb r.kind 0 e, eq-eqb r.kind 1 f)

-- eight slots more: their flags are one zero word, or each was tested
module _ (l : List ℕ) (g : ℕ) (before : all_below (8 * g) (mr_ok l) ≡ true) where
  flag_is : (n : ℕ) → row_at mr_flag_t l n ≡ le_at 1 l (mr_flag_base + n)
  unfolding row_at mr_flag_t flag_codec fields_at place
  flag_is n = rw (mul-one, add-zero)

  pub more_free : (w : ℕ) → Zeros l (mr_flag_base + 8 * g) w → all_below (8 * g + w) (mr_ok l) ≡ true
  more_free w z =
      block_more (mr_ok l) (8 * g) w before
      (λ i h. mr_off l (8 * g + i)
      (let a : mr_flag_base + (8 * g + i) ≡ mr_flag_base + 8 * g + i = omega arith in flag_is (8 * g + i) ∙ rw a (z i h)))

  pub eight_free : le_at 8 l (mr_flag_base + 8 * g) ≡ 0 → all_below (8 * (g + 1)) (mr_ok l) ≡ true
  eight_free e = let z : 8 * (g + 1) ≡ 8 * g + 8 = omega arith in rw z (more_free 8 (zero_word 8 l (mr_flag_base + 8 * g) e))

  pub eight_tested : all_below 8 (λ i. mr_ok l (8 * g + i)) ≡ true → all_below (8 * (g + 1)) (mr_ok l) ≡ true
  eight_tested e =
      let z : 8 * (g + 1) ≡ 8 * g + 8 = omega arith in
      rw z (block_more (mr_ok l) (8 * g) 8 before (λ i h. all_at 8 (λ i. mr_ok l (8 * g + i)) i h e))

-- four zero words
pub four_zero : (l : List ℕ) (at : ℕ) → le_at 8 l at ≡ 0 → le_at 8 l (at + 8) ≡ 0 → le_at 8 l (at + 16) ≡ 0 → le_at 8 l (at + 24) ≡ 0 → Zeros l at 32
four_zero l at a b c d i h =
    elim (dec_lt i 8) [
      | yes p ↦ zero_word 8 l at a i p
      | no p ↦ elim (dec_lt i 16) [
        | yes q ↦ let z : at + 8 + (i - 8) ≡ at + i = omega arith in rw z at (zero_word 8 l (at + 8) b (i - 8) (omega arith))
        | no q ↦ elim (dec_lt i 24) [
          | yes r ↦ let z : at + 16 + (i - 16) ≡ at + i = omega arith in rw z at (zero_word 8 l (at + 16) c (i - 16) (omega arith))
          | no r ↦ let z : at + 24 + (i - 24) ≡ at + i = omega arith in rw z at (zero_word 8 l (at + 24) d (i - 24) (omega arith))
        ]
      ]
    ]
