-- The rows of a region's slot after the numbers of a page list are stored in it, and the list read back out of them. Assumes nothing.
use mathlib.Core.Path.{◌≡◌, refl, sym, ap, ap₂, ◌∙◌}
use mathlib.Core.Bool.{true}
use mathlib.Core.List.{List, [], ◌∷◌, ◌++◌, map, append-nil}
use Prim.Native.Nat.{ℕ, ◌+◌, ◌*◌, ◌/◌, ◌%◌, ◌≤◌, ◌<◌}
use native.Mathlib.Numerals.{add-one}
use native.Mathlib.Omega.{arith}
use lib.Dec.{eqb, leb}
use lib.ListN.{length, get_or, set, take, length-set, get_or-map}
use lib.Seq.{take-suc-set, append_snoc, get_or-take}
use borrow.Author.Tests.{leb-true, le-leb, eqb-true}
use Rattle.wire.specs.Codec.{Fit}
use Rattle.wire.specs.Scan.{all}
use Rattle.wire.specs.Table.{put_row}
use Rattle.wire.proofs.ScanLaws.{and_left, and_right, both_true}
use Rattle.wire.proofs.TableLaws.{put_row_length}
use Rattle.tables.specs.Layout.{state_size, page_t, page_codec}
use Rattle.tables.specs.Limits.{mr_count, page_size, most_pages, most_memory}
use Rattle.tables.specs.State.{RegionRows, region_at}
use Rattle.tables.proofs.KindLaws.{RegionsOnly, only_then}
use Rattle.tables.proofs.StoreLaws as store
use Rattle.rules.specs.Bytes.{put_pages}
use Rattle.rules.specs.Pages.{entry_ok, entries_ok}
use Rattle.commands.proofs.PagesLaws.{entry_inside}

-- ---- stored

-- the numbers of the pages in a slot's list, from place k on
unfoldable pub set_numbers : List ℕ → (k : ℕ) → (pages : List ℕ) → List ℕ
set_numbers qs k [] = qs
set_numbers qs k (p ∷ ps) = set_numbers (set qs k (p / page_size)) (k + 1) ps

module _ (n : ℕ) (below : n < mr_count) where
  -- stores to the slot, and then those of its page numbers
  pub put_then : (ps : List ℕ) (k : ℕ) (l x : List ℕ) → k + length ps ≤ most_pages → RegionsOnly l x n → RegionsOnly l (put_pages x n k ps) n
  unfolding put_pages
  put_then [] k l x b o = o
  put_then (p ∷ ps) k l x b o =
      put_then ps (k + 1) l (put_row page_t x (most_pages * n + k) (p / page_size)) (omega arith)
      (only_then o (store.page_only x n below k (omega arith) (p / page_size)))

  -- its page numbers are the list's
  pub put_at : (ps : List ℕ) (k : ℕ) (l : List ℕ) → length l ≡ state_size → k + length ps ≤ most_pages → entries_ok most_memory ps ≡ true →
      region_at (put_pages l n k ps) n ≡ record { flag = (region_at l n).flag; row = (region_at l n).row; pages = set_numbers (region_at l n).pages k ps }
  unfolding put_pages set_numbers all page_codec Fit
  put_at [] k l e b f = refl
  put_at (p ∷ ps) k l e b f =
      let q = and_left (entry_ok most_memory p) (entries_ok most_memory ps) f in
      let w = leb-true (p + page_size) most_memory (and_right (eqb (p % page_size) 0) (leb (p + page_size) most_memory) q) in
      put_at ps (k + 1) (put_row page_t l (most_pages * n + k) (p / page_size)) (put_row_length page_t l (most_pages * n + k) (p / page_size) ∙ e) (omega arith)
      (and_right (entry_ok most_memory p) (entries_ok most_memory ps) f)
      ∙ ap (λ (r : RegionRows). record { flag = r.flag; row = r.row; pages = set_numbers r.pages (k + 1) ps })
      (store.page_at l n below k (omega arith) (p / page_size) e (omega arith, tt))

-- ---- read back

numbers_taken : (ps qs : List ℕ) (k n : ℕ) → n ≡ k + length ps → n ≤ length qs → take n (set_numbers qs k ps) ≡ take k qs ++ map (λ p. p / page_size) ps
unfolding set_numbers
numbers_taken [] qs k n e h = let i : n ≡ k = omega arith in rw (i, append-nil (take k qs))
numbers_taken (p ∷ ps) qs k n e h =
    let x : ℕ = p / page_size in
    let one : take (k + 1) (set qs k x) ≡ take k qs ++ (x ∷ []) = rw (add-one k) (take-suc-set qs k x (omega arith)) in
    numbers_taken ps (set qs k x) (k + 1) n (omega arith) (rw (length-set qs k x) h)
    ∙ ap (λ (t : List ℕ). t ++ map (λ p. p / page_size) ps) one ∙ append_snoc (take k qs) x (map (λ p. p / page_size) ps)

-- an entry is a multiple
multiples : (m : ℕ) (ps : List ℕ) → entries_ok m ps ≡ true → map (λ p. page_size * p) (map (λ p. p / page_size) ps) ≡ ps
unfolding all
multiples m [] e = refl
multiples m (p ∷ ps) e =
    let q = and_left (entry_ok m p) (entries_ok m ps) e in
    let w = eqb-true (p % page_size) 0 (and_left (eqb (p % page_size) 0) (leb (p + page_size) m) q) in
    let x : page_size * (p / page_size) ≡ p = omega arith in
    ap₂ (λ (y : ℕ) (ys : List ℕ). y ∷ ys) x (multiples m ps (and_right (entry_ok m p) (entries_ok m ps) e))

-- the pages of the slot are those of the list
pub pages_back : (m : ℕ) (ps qs : List ℕ) (n : ℕ) → length ps ≡ n → n ≤ length qs → entries_ok m ps ≡ true
    → map (λ p. page_size * p) (take n (set_numbers qs 0 ps)) ≡ ps
pages_back m ps qs n e h f = ap (map (λ p. page_size * p)) (numbers_taken ps qs 0 n (omega arith) h) ∙ multiples m ps f

-- each number is that of a page of the memory
pub number_inside : (m : ℕ) (ps qs : List ℕ) (k : ℕ) → length ps ≤ length qs → k < length ps → entries_ok m ps ≡ true
    → get_or (set_numbers qs 0 ps) k 0 < m / page_size
number_inside m ps qs k h b f =
    let e : get_or (set_numbers qs 0 ps) k 0 ≡ get_or ps k 0 / page_size =
    sym (get_or-take (length ps) (set_numbers qs 0 ps) k 0 b)
    ∙ ap (λ (xs : List ℕ). get_or xs k 0) (numbers_taken ps qs 0 (length ps) (omega arith) h) ∙ get_or-map (λ p. p / page_size) ps k 0 in
    let i = entry_inside m ps k b f in
    rw e (omega arith)

-- a larger memory has the same pages
pub entries_most : (m m' : ℕ) → m ≤ m' → (ps : List ℕ) → entries_ok m ps ≡ true → entries_ok m' ps ≡ true
unfolding all
entries_most m m' h [] e = refl
entries_most m m' h (p ∷ ps) e =
    let a = eqb (p % page_size) 0 in
    let q = and_left (entry_ok m p) (entries_ok m ps) e in
    let w = leb-true (p + page_size) m (and_right a (leb (p + page_size) m) q) in
    both_true (entry_ok m' p) (entries_ok m' ps)
    (both_true a (leb (p + page_size) m') (and_left a (leb (p + page_size) m) q) (le-leb (p + page_size) m' (omega arith)))
    (entries_most m m' h ps (and_right (entry_ok m p) (entries_ok m ps) e))
