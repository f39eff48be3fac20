-- What values stored in turn mean byte by byte: a place that no later one repeats holds its value, and every other byte is as before.
-- Assumes nothing.
use mathlib.Core.Path.{◌≡◌, refl, sym, ap, ◌∙◌}
use mathlib.Core.Logic.{◌≢◌}
use mathlib.Core.List.{List, [], ◌∷◌, map}
use Prim.Native.Nat.{ℕ, zero, suc, ◌<◌}
use native.Mathlib.Omega.{arith}
use lib.ListN.{length, get_or, set, length-set, length-append}
use lib.Seq.{get_or-set_same, get_or-set_other}
use Rattle.tables.specs.declared.Sge.{Sge}
use Rattle.rules.specs.Lists.{stored}
use Rattle.rules.specs.Touch.{range, sge_bytes, sge_total}

pub stored_length : (m ps vs : List ℕ) → length (stored m ps vs) ≡ length m
unfolding stored
stored_length m [] vs = refl
stored_length m (p ∷ ps) [] = refl
stored_length m (p ∷ ps) (v ∷ vs) = stored_length (set m p v) ps vs ∙ length-set m p v

pub stored_other : (m ps vs : List ℕ) (x : ℕ) → ((i : ℕ) → i < length ps → get_or ps i 0 ≢ x) → get_or (stored m ps vs) x 0 ≡ get_or m x 0
unfolding stored
stored_other m [] vs x h = refl
stored_other m (p ∷ ps) [] x h = refl
stored_other m (p ∷ ps) (v ∷ vs) x h =
    stored_other (set m p v) ps vs x (λ i b. h (suc i) (omega arith))
    ∙ get_or-set_other m p x v 0 (λ e. h 0 (omega arith) (sym e))

pub stored_last : (m ps vs : List ℕ) (i : ℕ) → i < length ps → i < length vs → get_or ps i 0 < length m →
    ((j : ℕ) → i < j → j < length ps → get_or ps j 0 ≢ get_or ps i 0) → get_or (stored m ps vs) (get_or ps i 0) 0 ≡ get_or vs i 0
unfolding stored
stored_last m [] vs i a b h last = absurd (omega arith)
stored_last m (p ∷ ps) [] i a b h last = absurd (omega arith)
stored_last m (p ∷ ps) (v ∷ vs) zero a b h last =
    stored_other (set m p v) ps vs p (λ j c. last (suc j) (omega arith) (omega arith)) ∙ get_or-set_same m p v 0 h
stored_last m (p ∷ ps) (v ∷ vs) (suc i) a b h last =
    stored_last (set m p v) ps vs i (omega arith) (omega arith) (let e = length-set m p v in omega arith)
    (λ j c d. last (suc j) (omega arith) (omega arith))

-- ---- lists mapped, and the lengths of byte lists

module _ {A : Type 0} where
  pub map_length : (f : A → ℕ) (xs : List A) → length (map f xs) ≡ length xs
  map_length f [] = refl
  map_length f (x ∷ xs) = ap suc (map_length f xs)

  pub map_at : (f : A → ℕ) (xs : List A) (i e : ℕ) (d : A) → i < length xs → get_or (map f xs) i e ≡ f (get_or xs i d)
  map_at f [] i e d h = absurd (omega arith)
  map_at f (x ∷ xs) zero e d h = refl
  map_at f (x ∷ xs) (suc i) e d h = map_at f xs i e d (omega arith)

pub range_length : (a k n : ℕ) → length (range a k n) ≡ n
unfolding range
range_length a k zero = refl
range_length a k (suc n) = ap suc (range_length (suc a) k n)

pub sge_length : (ps : List Sge) → length (sge_bytes ps) ≡ sge_total ps
unfolding sge_bytes sge_total
sge_length [] = refl
sge_length (p ∷ ps) =
    let a = range_length p.address p.key p.length in
    let b = sge_length ps in
    length-append (range p.address p.key p.length) (sge_bytes ps) ∙ omega arith
