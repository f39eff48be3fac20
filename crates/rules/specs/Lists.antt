-- Lists and options, read and written: general definitions. Assumes nothing.
use Rattle.std.specs.Prelude.{Bool, true, false, cond, List, [], ◌∷◌, ℕ, eqb, set}
use Rattle.std.proofs.Math.Option.{Option, none, some}

-- P holds of every element
unfoldable pub All : {A : Type 0} → (A → Type 0) → List A → Type 0
All P [] = Unit {0}
All P (x ∷ xs) = P x × All P xs

abbrev pub is_empty : {A : Type 0} → List A → Bool
is_empty [] = true
is_empty (x ∷ xs) = false

abbrev pub is_some : {A : Type 0} → Option A → Bool
is_some none = false
is_some (some a) = true

abbrev pub or_else : {A : Type 0} → Option A → A → A
or_else none d = d
or_else (some a) d = a

-- f of what the option has, d where it is none
abbrev pub maybe : {A B : Type 0} → B → (A → B) → Option A → B
maybe d f none = d
maybe d f (some a) = f a

-- the option is the number q
abbrev pub names : Option ℕ → ℕ → Bool
names none q = false
names (some d) q = eqb d q

-- the list m with the values stored at the places in turn, so that a later one overwrites an earlier
unfoldable pub stored : List ℕ → (places values : List ℕ) → List ℕ
stored m [] vs = m
stored m (p ∷ ps) [] = m
stored m (p ∷ ps) (v ∷ vs) = stored (set m p v) ps vs

-- f of a where b holds, and a where it does not
abbrev pub when : {A : Type 0} → Bool → (A → A) → A → A
when b f a = cond b (f a) a
