-- Page lists, one entry after the other: their tests, and their numbers stored. Assumes nothing.
use mathlib.Core.Path.{◌≡◌, refl, sym, ap, ◌∙◌}
use mathlib.Core.Bool.{Bool, true, ◌&&◌}
use mathlib.Core.List.{List, [], ◌∷◌}
use Prim.Native.Nat.{ℕ, zero, suc, ◌+◌, ◌*◌, ◌/◌, ◌%◌, ◌≤◌, ◌<◌}
use native.Mathlib.Numerals.{add-one}
use native.Mathlib.Omega.{arith}
use lib.Dec.{eqb, leb}
use lib.ListN.{length, get_or, drop, drop_of_length-le}
use lib.Seq.{drop-cons}
use borrow.Author.Tests.{leb-true}
use Rattle.std.specs.List.{list_all}
use Rattle.wire.specs.Scan.{all}
use Rattle.wire.specs.Table.{put_row}
use Rattle.wire.proofs.ScanLaws.{and_left, and_right}
use Rattle.tables.specs.Layout.{page_t}
use Rattle.tables.specs.Limits.{page_size, most_pages, most_memory}
use Rattle.rules.specs.Bytes.{put_pages}
use Rattle.rules.specs.Pages.{entry_ok, entries_ok}

first_left : (ps : List ℕ) (i : ℕ) → i < length ps → drop i ps ≡ get_or ps i 0 ∷ drop (i + 1) ps
first_left ps i h = rw (add-one i, drop-cons ps i 0 h)

-- ---- the entries pass a test

pub all_pass : (p : ℕ → Bool) (ps : List ℕ) → list_all p ps ≡ all p ps
unfolding all
all_pass p [] = refl
all_pass p (x ∷ ps) = ap (λ (b : Bool). p x && b) (all_pass p ps)

all_in : (p : ℕ → Bool) (ps : List ℕ) (k : ℕ) → k < length ps → all p ps ≡ true → p (get_or ps k 0) ≡ true
unfolding all
all_in p [] k h e = absurd (omega arith)
all_in p (x ∷ ps) zero h e = and_left (p x) (all p ps) e
all_in p (x ∷ ps) (suc k) h e = all_in p ps k (omega arith) (and_right (p x) (all p ps) e)

-- each page lies inside the memory
pub entry_inside : (m : ℕ) (ps : List ℕ) (k : ℕ) → k < length ps → entries_ok m ps ≡ true → get_or ps k 0 + page_size ≤ m
entry_inside m ps k h e =
    let p : ℕ = get_or ps k 0 in
    leb-true (p + page_size) m (and_right (eqb (p % page_size) 0) (leb (p + page_size) m) (all_in (entry_ok m) ps k h e))

-- the number of a page of the largest memory
pub number_small : (ps : List ℕ) (k : ℕ) → k < length ps → entries_ok most_memory ps ≡ true → get_or ps k 0 / page_size < 4096
number_small ps k h e = omega (arith, entry_inside most_memory ps k h e)

-- ---- the numbers left are stored

module _ (n k : ℕ) (ps : List ℕ) where
  pub put_more : (l l' : List ℕ) → k < length ps → l' ≡ put_row page_t l (most_pages * n + k) (get_or ps k 0 / page_size)
      → put_pages l' n (k + 1) (drop (k + 1) ps) ≡ put_pages l n k (drop k ps)
  unfolding put_pages
  put_more l l' h e = ap (λ (x : List ℕ). put_pages x n (k + 1) (drop (k + 1) ps)) e ∙ sym (ap (put_pages l n k) (first_left ps k h))

  pub put_done : (l : List ℕ) → length ps ≤ k → put_pages l n k (drop k ps) ≡ l
  unfolding put_pages
  put_done l h = ap (put_pages l n k) (drop_of_length-le ps {i = k} h)
