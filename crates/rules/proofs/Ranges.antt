-- A range is permitted exactly if one test of its two ends passes, and a list of pieces if each of them is: what a program tests in
-- place of every byte. Assumes nothing.
use mathlib.Core.Path.{◌≡◌, refl, sym, ap, ◌∙◌}
use mathlib.Core.Bool.{Bool, true, false, cond, ◌&&◌}
use mathlib.Core.List.{List, [], ◌∷◌, ◌++◌}
use mathlib.Core.Option.{Option, none, some}
use Prim.Native.Nat.{ℕ, zero, suc, ◌+◌, ◌-◌, ◌≤◌, ◌<◌}
use native.Mathlib.Omega.{arith}
use lib.Dec.{eqb, leb, ltb}
use lib.ListN.{length, get_or, take}
use lib.Seq.{take-append-le, take-append-add}
use borrow.Author.Tests.{le-leb, leb-true, ne_eqb}
use Rattle.wire.proofs.ScanLaws.{and_left, and_right, both_true}
use Rattle.wire.specs.Scan.{all}
use Rattle.tables.specs.Card.{Card}
use Rattle.tables.specs.declared.Registration.{Registration}
use Rattle.tables.specs.declared.Sge.{Sge}
use Rattle.rules.specs.declared.Party.{Party}
use Rattle.rules.specs.Touch.{Byte, range, sge_bytes}
use Rattle.rules.specs.Permit.{Use, granted, opens, party_of, lookup, covers, permits, permits_all}
use Rattle.rules.proofs.Stored.{range_length}

pub all_split : {A : Type 0} (p : A → Bool) (xs ys : List A) → all p (xs ++ ys) ≡ (all p xs && all p ys)
unfolding all
all_split p [] ys = refl
all_split p (x ∷ xs) ys = rw (all_split p xs ys) (and_assoc (p x) (all p xs) (all p ys))
  where
    and_assoc : (a b c : Bool) → (a && (b && c)) ≡ (a && b && c)
    and_assoc true b c = refl
    and_assoc false b c = refl

-- an element of a list whose elements all pass
pub all_in : {A : Type 0} (p : A → Bool) (xs : List A) (i : ℕ) (d : A) → i < length xs → all p xs ≡ true → p (get_or xs i d) ≡ true
unfolding all
all_in p [] i d h e = absurd (omega arith)
all_in p (x ∷ xs) zero d h e = and_left (p x) (all p xs) e
all_in p (x ∷ xs) (suc i) d h e = all_in p xs i d (omega arith) (and_right (p x) (all p xs) e)

-- ---- one range

-- the region has the party's domain, and both have the right
abbrev pub admits : Registration → Party → Use → Bool
admits g p u = eqb g.pd p.pd && granted u g.access && opens u p.rights

-- and the ends of n bytes from a on lie in it; the sums are whole numbers
abbrev pub ends : Option Registration → Party → Use → (a n : ℕ) → Bool
ends none p u a n = false
ends (some g) p u a n = admits g p u && leb g.virt a && leb (a + n) (g.virt + g.length)

bool_ext : (x y : Bool) → (x ≡ true → y ≡ true) → (y ≡ true → x ≡ true) → x ≡ y
bool_ext true y f g = sym (f refl)
bool_ext false true f g = g refl
bool_ext false false f g = refl

-- the tests t, virt ≤ a and a + n ≤ end, as facts
three : (t : Bool) (v a b z : ℕ) → (t && leb v a && leb b z) ≡ true → (t ≡ true) × ((v ≤ a) × (b ≤ z))
three t v a b z e = (
  and_left t (leb v a) (and_left (t && leb v a) (leb b z) e),
  (leb-true v a (and_right t (leb v a) (and_left (t && leb v a) (leb b z) e)), leb-true b z (and_right (t && leb v a) (leb b z) e)),
)

of_three : (t : Bool) (v a b z : ℕ) → t ≡ true → v ≤ a → b ≤ z → (t && leb v a && leb b z) ≡ true
of_three t v a b z e h k = rw (e, le-leb v a h, le-leb b z k)

-- the first byte and the ends of the others
more : (t : Bool) (v z a n : ℕ) → ((t && leb v a && ltb a z) && (t && leb v (suc a) && leb (suc a + suc n) z)) ≡ (t && leb v a && leb (a + suc (suc n)) z)
more t v z a n =
    bool_ext ((t && leb v a && ltb a z) && (t && leb v (suc a) && leb (suc a + suc n) z)) (t && leb v a && leb (a + suc (suc n)) z)
    (λ e. let x = three t v a (suc a) z (and_left (t && leb v a && leb (suc a) z) (t && leb v (suc a) && leb (suc a + suc n) z) e) in
    let y = three t v (suc a) (suc a + suc n) z (and_right (t && leb v a && leb (suc a) z) (t && leb v (suc a) && leb (suc a + suc n) z) e) in
    of_three t v a (a + suc (suc n)) z x.0 x.1.0 (omega arith))
    (λ e. let x = three t v a (a + suc (suc n)) z e in
    both_true (t && leb v a && leb (suc a) z) (t && leb v (suc a) && leb (suc a + suc n) z)
    (of_three t v a (suc a) z x.0 x.1.0 (omega arith)) (of_three t v (suc a) (suc a + suc n) z x.0 (omega arith) (omega arith)))

and_true : (b : Bool) → (b && true) ≡ b
and_true true = refl
and_true false = refl

module _ (c : Card) (q : ℕ) (u : Use) (k : ℕ) where
  abbrev o : Option Registration
  o = lookup c.mr k

  abbrev p : Party
  p = party_of c q

  one_more : (r : Option Registration) (a n : ℕ) → (covers r p u a && cond (eqb n 0) true (ends r p u (suc a) n)) ≡ ends r p u a (suc n)
  unfolding covers
  one_more none a n = refl
  one_more (some g) a zero =
      and_true (admits g p u && leb g.virt a && ltb a (g.virt + g.length)) ∙
      (let e : suc a ≡ a + 1 = omega arith in rw (← e))
  one_more (some g) a (suc n) =
      rw (ne_eqb (suc n) 0 (omega arith)) (more (admits g p u) g.virt (g.virt + g.length) a n)

  -- 02, M-104: "an empty range looks at neither"
  range_none : (a : ℕ) → permits_all c q u (range a k 0) ≡ true
  unfolding permits_all all range
  range_none a = refl

  range_some : (a n : ℕ) → permits_all c q u (range a k (suc n)) ≡ ends o p u a (suc n)
  unfolding permits_all all permits range
  range_some a zero = and_true (covers o p u a) ∙ sym (and_true (covers o p u a)) ∙ one_more o a 0
  range_some a (suc n) =
      rw (range_some (suc a) n)
      (ap (λ (b : Bool). covers o p u a && b) (sym (rw (ne_eqb (suc n) 0 (omega arith)))) ∙ one_more o a (suc n))

  pub range_permitted : (a n : ℕ) → permits_all c q u (range a k n) ≡ cond (eqb n 0) true (ends o p u a n)
  range_permitted a zero = range_none a
  range_permitted a (suc n) = rw (ne_eqb (suc n) 0 (omega arith)) (range_some a n)

-- ---- lists of pieces

pub sges_permitted : (c : Card) (q : ℕ) (u : Use) (p : Sge) (ps : List Sge) →
    permits_all c q u (sge_bytes (p ∷ ps)) ≡ (permits_all c q u (range p.address p.key p.length) && permits_all c q u (sge_bytes ps))
unfolding permits_all sge_bytes
sges_permitted c q u p ps = all_split (permits c q u) (range p.address p.key p.length) (sge_bytes ps)

-- the first n bytes of a range
pub range_take : (n a k m : ℕ) → n ≤ m → take n (range a k m) ≡ range a k n
unfolding range
range_take zero a k m h = refl
range_take (suc n) a k zero h = absurd (omega arith)
range_take (suc n) a k (suc m) h = ap (λ (bs : List Byte). record { address = a; key = k } ∷ bs) (range_take n (suc a) k m (omega arith))

-- the first n bytes of a list of pieces: within the first piece, or all of it and the rest of the others
pub sges_take_short : (n : ℕ) (p : Sge) (ps : List Sge) → n ≤ p.length → take n (sge_bytes (p ∷ ps)) ≡ range p.address p.key n
unfolding sge_bytes
sges_take_short n p ps h =
    take-append-le n (range p.address p.key p.length) (sge_bytes ps) (let e = range_length p.address p.key p.length in omega arith)
    ∙ range_take n p.address p.key p.length h

pub sges_take_long : (n : ℕ) (p : Sge) (ps : List Sge) → p.length ≤ n →
    take n (sge_bytes (p ∷ ps)) ≡ range p.address p.key p.length ++ take (n - p.length) (sge_bytes ps)
unfolding sge_bytes
sges_take_long n p ps h =
    let e = range_length p.address p.key p.length in
    let s : n ≡ length (range p.address p.key p.length) + (n - p.length) = omega arith in
    ap (λ (i : ℕ). take i (range p.address p.key p.length ++ sge_bytes ps)) s
    ∙ take-append-add (range p.address p.key p.length) (sge_bytes ps) (n - p.length)
