-- A list of tests in two parts; a list is empty where it has no length. Assumes nothing.
use mathlib.Core.Path.{◌≡◌, refl, sym}
use mathlib.Core.Bool.{Bool, true, false, cond}
use mathlib.Core.List.{List, [], ◌∷◌, ◌++◌}
use mathlib.Core.Option.{Option, none, some}
use Prim.Native.Nat.{ℕ}
use native.Mathlib.Omega.{arith}
use lib.Dec.{eqb}
use lib.ListN.{length}
use borrow.Author.Tests.{ne_eqb}
use Rattle.rules.specs.Lists.{is_empty}
use Rattle.wire.specs.Checks.{Check, refusal, Passed}

pub passed_before : (xs ys : List Check) → Passed (xs ++ ys) → Passed xs
passed_before [] ys p = tt
passed_before (x ∷ xs) ys p = (p.0, passed_before xs ys p.1)

pub passed_after : (xs ys : List Check) → Passed (xs ++ ys) → Passed ys
passed_after [] ys p = p
passed_after (x ∷ xs) ys p = passed_after xs ys p.1

-- the first part's refusal, or else the second's
abbrev pub first_of : Option ℕ → Option ℕ → Option ℕ
first_of none b = b
first_of (some n) b = some n

pub refusal_append : (xs ys : List Check) → refusal (xs ++ ys) ≡ first_of (refusal xs) (refusal ys)
refusal_append [] ys = refl
refusal_append (x ∷ xs) ys = go x.bad (refusal_append xs ys)
  where
    go : (b : Bool) → refusal (xs ++ ys) ≡ first_of (refusal xs) (refusal ys) →
        cond b (some x.no) (refusal (xs ++ ys)) ≡ first_of (cond b (some x.no) (refusal xs)) (refusal ys)
    go true e = refl
    go false e = e

pub empty_is : {A : Type 0} (xs : List A) → is_empty xs ≡ eqb (length xs) 0
empty_is [] = refl
empty_is (x ∷ xs) = sym (ne_eqb (length (x ∷ xs)) 0 (λ e. omega arith))
