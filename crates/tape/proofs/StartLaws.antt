-- An answer tape that starts with a record, byte by byte and by its parts. Assumes nothing.
use mathlib.Core.Path.{◌≡◌, refl, sym, ap, ap₂}
use mathlib.Core.Bool.{Bool, true, ◌&&◌, true≢false}
use mathlib.Core.List.{List, [], ◌∷◌, ◌++◌}
use Prim.Native.Nat.{ℕ, ◌≤◌}
use native.Mathlib.Omega.{arith}
use lib.Dec.{eqb}
use lib.ListN.{length, take, drop}
use borrow.Author.Tests.{eqb-true, eq-eqb}
use Rattle.std.specs.Cmp.Lexicographic.{pointwise}
use Rattle.wire.proofs.ScanLaws.{and_left, and_right}
use Rattle.tape.specs.Audit.{starts}

-- ---- by the library's comparison

pub starts_pointwise : (r g : List ℕ) → pointwise eqb r (take (length r) g) ≡ starts r g
unfolding starts
starts_pointwise [] g = refl
starts_pointwise (a ∷ r) [] = refl
starts_pointwise (a ∷ r) (b ∷ g) = ap (λ (x : Bool). eqb a b && x) (starts_pointwise r g)

-- ---- by its parts

-- a tape that starts with it is it and the rest
pub starts_split : (r g : List ℕ) → starts r g ≡ true → g ≡ r ++ drop (length r) g
unfolding starts
starts_split [] g h = refl
starts_split (a ∷ r) [] h = absurd (true≢false (sym h))
starts_split (a ∷ r) (b ∷ g) h =
    ap₂ (λ (x : ℕ) (l : List ℕ). x ∷ l) (sym (eqb-true a b (and_left (eqb a b) (starts r g) h))) (starts_split r g (and_right (eqb a b) (starts r g) h))

pub starts_append : (r g : List ℕ) → starts r (r ++ g) ≡ true
unfolding starts
starts_append [] g = refl
starts_append (a ∷ r) g = rw (eq-eqb a a refl) (starts_append r g)

-- so it is as long
pub starts_long : (r g : List ℕ) → starts r g ≡ true → length r ≤ length g
unfolding starts
starts_long [] g h = omega arith
starts_long (a ∷ r) [] h = absurd (true≢false (sym h))
starts_long (a ∷ r) (b ∷ g) h = let n = starts_long r g (and_right (eqb a b) (starts r g) h) in omega arith

-- bytes behind it play no part
pub starts_further : (r g x : List ℕ) → length r ≤ length g → starts r (g ++ x) ≡ starts r g
unfolding starts
starts_further [] g x h = refl
starts_further (a ∷ r) [] x h = absurd (omega arith)
starts_further (a ∷ r) (b ∷ g) x h = ap (λ (y : Bool). eqb a b && y) (starts_further r g x (omega arith))
