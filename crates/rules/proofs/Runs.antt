-- Bytes of one range stand in a run of memory places, and are read and stored as one: the laws of copying loops. Assumes nothing.
use mathlib.Core.Path.{◌≡◌, refl, sym, ap, ap₂, ◌∙◌}
use mathlib.Core.Bool.{Bool, true, false, cond}
use mathlib.Core.List.{List, [], ◌∷◌, ◌++◌, map, append-nil}
use Prim.Native.Nat.{ℕ, zero, suc, ◌+◌, ◌-◌, ◌≤◌, ◌<◌, min}
use native.Mathlib.Decide.{dec_le}
use native.Mathlib.Omega.{arith}
use lib.ListN.{length, get_or, set, take, drop}
use lib.Seq.{paste, sets, sets-eq, drop-cons, length-take-le, take-nil}
use Rattle.tables.specs.declared.Sge.{Sge}
use Rattle.rules.specs.Lists.{stored}
use Rattle.rules.specs.Touch.{Byte, range, sge_bytes, sge_total, cut}
use Rattle.rules.specs.Send.{Put, pushed, put_all}
use Rattle.rules.proofs.Ranges.{sges_take_short, sges_take_long}

-- ---- places

-- the n numbers from b on
unfoldable pub run : (b n : ℕ) → List ℕ
run b zero = []
run b (suc n) = b ∷ run (suc b) n

pub run_length : (b n : ℕ) → length (run b n) ≡ n
unfolding run
run_length b zero = refl
run_length b (suc n) = ap suc (run_length (suc b) n)

-- the bytes of a range, where they stand one after the other
pub map_run : (f : Byte → ℕ) (k n a b : ℕ) → ((i : ℕ) → i < n → f (record { address = a + i; key = k }) ≡ b + i) → map f (range a k n) ≡ run b n
unfolding range run
map_run f k zero a b h = refl
map_run f k (suc n) a b h =
    let x : a + 0 ≡ a = omega arith in
    let y : b + 0 ≡ b = omega arith in
    let p : f (record { address = a; key = k }) ≡ b = rw (x, y) at (h 0 (omega arith)) in
    ap₂ (λ (z : ℕ) (zs : List ℕ). z ∷ zs) p
    (map_run f k n (suc a) (suc b)
    (λ i l. (let u : a + suc i ≡ suc a + i = omega arith in let v : b + suc i ≡ suc b + i = omega arith in rw (u, v) at (h (suc i) (omega arith)))))

-- ---- reading

pub map_join : {A B : Type 0} (f : A → B) (xs ys : List A) → map f (xs ++ ys) ≡ map f xs ++ map f ys
map_join f [] ys = refl
map_join f (x ∷ xs) ys = ap (λ (l : List _). f x ∷ l) (map_join f xs ys)

-- the values at the places of bytes
pub values_at : {A : Type 0} (at : A → ℕ) (m : List ℕ) (bs : List A) → map (λ b. get_or m (at b) 0) bs ≡ map (λ p. get_or m p 0) (map at bs)
values_at at m [] = refl
values_at at m (b ∷ bs) = ap (λ (l : List ℕ). get_or m (at b) 0 ∷ l) (values_at at m bs)

pub read_run : (m : List ℕ) (n b : ℕ) → b + n ≤ length m → map (λ p. get_or m p 0) (run b n) ≡ take n (drop b m)
unfolding run
read_run m zero b h = refl
read_run m (suc n) b h =
    let l : b < length m = omega arith in
    let k : suc b + n ≤ length m = omega arith in
    rw (drop-cons m b 0 l, read_run m n (suc b) k)

-- ---- storing

write_sets : (n : ℕ) (m : List ℕ) (b : ℕ) (vs : List ℕ) → n ≤ length vs → stored m (run b n) vs ≡ sets m b (take n vs)
unfolding stored run
write_sets zero m b vs h = refl
write_sets (suc n) m b [] h = absurd (omega arith)
write_sets (suc n) m b (v ∷ vs) h = write_sets n (set m b v) (suc b) vs (omega arith)

pub store_run : (n : ℕ) (m : List ℕ) (b : ℕ) (vs : List ℕ) → b + n ≤ length m → n ≤ length vs → stored m (run b n) vs ≡ paste m b vs n
store_run n m b vs hm hv =
    let e : length (take n vs) ≡ n = length-take-le n vs hv in
    let k : b + length (take n vs) ≤ length m = rw e hm in
    write_sets n m b vs hv ∙ sets-eq (take n vs) m b k ∙ ap (λ (j : ℕ). take b m ++ take n vs ++ drop (b + j) m) e

-- one list of places after another
pub stored_join : (m ps qs vs : List ℕ) → length ps ≤ length vs → stored m (ps ++ qs) vs ≡ stored (stored m ps vs) qs (drop (length ps) vs)
unfolding stored
stored_join m [] qs vs h = refl
stored_join m (p ∷ ps) qs [] h = absurd (omega arith)
stored_join m (p ∷ ps) qs (v ∷ vs) h = stored_join (set m p v) ps qs vs (omega arith)

-- values past the places do not count
pub stored_take : (m ps vs : List ℕ) → stored m ps vs ≡ stored m ps (take (length ps) vs)
unfolding stored
stored_take m [] vs = refl
stored_take m (p ∷ ps) [] = refl
stored_take m (p ∷ ps) (v ∷ vs) = stored_take (set m p v) ps vs

-- ---- a list of pieces cut to its first n bytes

pub cut_bytes : (n : ℕ) (ps : List Sge) → sge_bytes (cut n ps) ≡ take n (sge_bytes ps)
unfolding cut sge_bytes
cut_bytes n [] = sym (take-nil n)
cut_bytes n (p ∷ ps) = ap (λ (l : List Byte). range p.address p.key (min n p.length) ++ l) (cut_bytes (n - p.length) ps) ∙ go (dec_le n p.length)
  where
    go : Dec (n ≤ p.length) → range p.address p.key (min n p.length) ++ take (n - p.length) (sge_bytes ps) ≡ take n (range p.address p.key p.length ++ sge_bytes ps)
    go (yes h) =
        let e : min n p.length ≡ n = omega arith in
        let z : n - p.length ≡ 0 = omega arith in
        ap₂ (λ (i j : ℕ). range p.address p.key i ++ take j (sge_bytes ps)) e z ∙ append-nil (range p.address p.key n) ∙ sym (sges_take_short n p ps h)
    go (no h) =
        let e : min n p.length ≡ p.length = omega arith in
        ap (λ (i : ℕ). range p.address p.key i ++ take (n - p.length) (sge_bytes ps)) e ∙ sym (sges_take_long n p ps (omega arith))

-- it has n bytes in all, where the list has them
pub cut_total : (n : ℕ) (ps : List Sge) → n ≤ sge_total ps → sge_total (cut n ps) ≡ n
unfolding cut sge_total
cut_total n [] h = omega arith
cut_total n (p ∷ ps) h = go (dec_le n p.length) (λ k. cut_total (n - p.length) ps k)
  where
    go : Dec (n ≤ p.length) → (n - p.length ≤ sge_total ps → sge_total (cut (n - p.length) ps) ≡ n - p.length) →
        min n p.length + sge_total (cut (n - p.length) ps) ≡ n
    go (yes k) ih = let e = ih (omega arith) in omega arith
    go (no k) ih = let e = ih (omega arith) in omega arith

-- ---- completions put one after the other

pub put_if : (b : Bool) (p : Put) (ps : List Put) → put_all (cond b (p ∷ []) [] ++ ps) ≡ λ f. put_all ps (cond b (pushed p f) f)
unfolding put_all
put_if true p ps = refl
put_if false p ps = refl
