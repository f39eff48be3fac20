-- Tests of a range of bytes: each byte, and its two ends in place of each. Assumes nothing.
use mathlib.Core.Path.{◌≡◌, refl, sym, ap, ◌∙◌}
use mathlib.Core.Bool.{Bool, true, false, ◌&&◌, false≢true}
use mathlib.Core.Option.{Option, none, some}
use Prim.Native.Nat.{ℕ, zero, suc, ◌+◌, ◌-◌, ◌/◌, ◌≤◌, ◌<◌, zero-le, suc-le-suc}
use native.Mathlib.Nat.{add-zero, add-suc, suc-add, le_of_suc-le-suc, not-suc-le-zero}
use native.Mathlib.Omega.{arith}
use lib.Dec.{leb, ltb}
use borrow.Author.Tests.{lt-ltb, le-leb, ltb-true, leb-true}
use Rattle.wire.specs.Scan.{all}
use Rattle.wire.proofs.ScanLaws.{and_left, and_right, both_true}
use Rattle.tables.specs.Card.{Card}
use Rattle.tables.specs.State.{registration_of}
use Rattle.tables.specs.declared.Region.{Region}
use Rattle.tables.specs.declared.Registration.{Registration}
use Rattle.rules.specs.Bytes.{region_row}
use Rattle.rules.specs.Lists.{maybe}
use Rattle.rules.specs.Permit.{lookup}
use Rattle.rules.specs.Touch.{Byte, range}
use Rattle.rules.specs.declared.Party.{Party}
use Rattle.std.specs.Prelude.{None, Some}
use Rattle.std.specs.Prelude as std
use Rattle.dma.specs.Grants.{region_of, admits, within, allows, allows_all, spans}

-- ---- the bytes of a range

abbrev pub byte : (a k : ℕ) → Byte
byte a k = record { address = a; key = k }

module _ (p : Byte → Bool) (k : ℕ) where
  pub range_all : (n a : ℕ) → ((i : ℕ) → i < n → p (byte (a + i) k) ≡ true) → all p (range a k n) ≡ true
  unfolding all range
  range_all zero a h = refl
  range_all (suc n) a h =
      both_true (p (byte a k)) (all p (range (suc a) k n)) (rw add-zero at (h 0 (suc-le-suc zero-le)))
      (range_all n (suc a) (λ i l. rw (suc-add, ← add-suc) (h (suc i) (suc-le-suc l))))

  pub range_at : (n a : ℕ) → all p (range a k n) ≡ true → (i : ℕ) → i < n → p (byte (a + i) k) ≡ true
  unfolding all range
  range_at zero a e i l = absurd (not-suc-le-zero l)
  range_at (suc n) a e zero l = rw add-zero (and_left (p (byte a k)) (all p (range (suc a) k n)) e)
  range_at (suc n) a e (suc i) l =
      rw (add-suc, ← suc-add) (range_at n (suc a) (and_right (p (byte a k)) (all p (range (suc a) k n)) e) i (le_of_suc-le-suc l))

pub empty_range : (p : Byte → Bool) (a k n : ℕ) → n ≡ 0 → all p (range a k n) ≡ true
unfolding all range
empty_range p a k n e = rw e

-- ---- an address within a region, as facts

pub record Within (g : Registration) (a : ℕ) : Type 0 where
  pub low : g.virt ≤ a
  pub high : a < g.virt + g.length

module _ (g : Registration) (a : ℕ) where
  is_within : Within g a → within g a ≡ true
  unfolding within
  is_within h =
      both_true (leb g.virt a) (ltb a (g.virt + g.length)) (le-leb g.virt a h.low) (lt-ltb a (g.virt + g.length) h.high)

  pub within_facts : within g a ≡ true → Within g a
  unfolding within
  within_facts e =
      record {
        low = leb-true g.virt a (and_left (leb g.virt a) (ltb a (g.virt + g.length)) e);
        high = ltb-true a (g.virt + g.length) (and_right (leb g.virt a) (ltb a (g.virt + g.length)) e);
      }

-- ---- the two ends of a range

same_tests : (x y : Bool) → (x ≡ true → y ≡ true) → (y ≡ true → x ≡ true) → x ≡ y
same_tests true y f g = sym (f refl)
same_tests false true f g = g refl
same_tests false false f g = refl

module _ (c : Card) (party : Party) (mask k : ℕ) where
  -- a region admits the party's use, and both ends of the range lie in it
  abbrev ends : Registration → (a n : ℕ) → Bool
  ends g a n = admits g party mask && spans g a n

  module _ (g : Registration) (is : lookup c.mr k ≡ some g) where
    abbrev t : Bool
    t = admits g party mask

    at : (a : ℕ) → allows c party mask (byte a k) ≡ (t && within g a)
    unfolding allows
    at a = rw is

    ends_of : (n a : ℕ) → 0 < n → allows_all c party mask (range a k n) ≡ true → ends g a n ≡ true
    ends_of n a h e =
        let first = sym (at (a + 0)) ∙ range_at (allows c party mask) k n a e 0 h in
        let last = sym (at (a + (n - 1))) ∙ range_at (allows c party mask) k n a e (n - 1) (omega arith) in
        let x = (within_facts g (a + 0) (and_right t (within g (a + 0)) first)).low in
        let y = (within_facts g (a + (n - 1)) (and_right t (within g (a + (n - 1))) last)).high in
        both_true t (spans g a n) (and_left t (within g (a + 0)) first)
        (both_true (leb g.virt a) (leb (a + n) (g.virt + g.length)) (le-leb g.virt a (omega arith)) (le-leb (a + n) (g.virt + g.length) (omega arith)))

    of_ends : (n a : ℕ) → ends g a n ≡ true → allows_all c party mask (range a k n) ≡ true
    of_ends n a e =
        let u : spans g a n ≡ true = and_right t (spans g a n) e in
        let x : g.virt ≤ a = leb-true g.virt a (and_left (leb g.virt a) (leb (a + n) (g.virt + g.length)) u) in
        let y : a + n ≤ g.virt + g.length = leb-true (a + n) (g.virt + g.length) (and_right (leb g.virt a) (leb (a + n) (g.virt + g.length)) u) in
        range_all (allows c party mask) k n a
        (λ i h. at (a + i) ∙ both_true t (within g (a + i)) (and_left t (spans g a n) e) (is_within g (a + i) (record { low = omega arith; high = omega arith })))

  none_of : (n a : ℕ) → 0 < n → lookup c.mr k ≡ none → allows_all c party mask (range a k n) ≡ false
  unfolding allows
  none_of n a h is =
      same_tests (allows_all c party mask (range a k n)) false
      (λ e. let x : allows c party mask (byte (a + 0) k) ≡ true = range_at (allows c party mask) k n a e 0 h in (rw is at x))
      (λ e. absurd (false≢true e))

  -- what the look-up of the key says of a range that is not empty
  module _ (n a : ℕ) (some_bytes : 0 < n) where
    abbrev row : Registration → std.Option Region
    row g = Some (region_row 0 g (c.mr (k / 256)).variant)

    pub range_none : region_of c.mr k ≡ None → allows_all c party mask (range a k n) ≡ false
    unfolding region_of
    range_none e = go (lookup c.mr k) refl e
      where
        go : (o : Option Registration) → lookup c.mr k ≡ o → maybe None row o ≡ None → allows_all c party mask (range a k n) ≡ false
        go none is q = none_of n a some_bytes is
        go (some g) is q = let z : ◌≡◌ {A = ℕ} 0 1 = cc in absurd (omega arith)

    pub range_found : (r : Region) → region_of c.mr k ≡ Some r → allows_all c party mask (range a k n) ≡ ends (registration_of r) a n
    unfolding region_of
    range_found r e = go (lookup c.mr k) refl e
      where
        go : (o : Option Registration) → lookup c.mr k ≡ o → maybe None row o ≡ Some r → allows_all c party mask (range a k n) ≡ ends (registration_of r) a n
        go none is q = let z : ◌≡◌ {A = ℕ} 0 1 = cc in absurd (omega arith)
        go (some g) is q =
            let p : region_row 0 g (c.mr (k / 256)).variant ≡ r = cc in
            same_tests (allows_all c party mask (range a k n)) (ends g a n) (ends_of g is n a some_bytes) (of_ends g is n a)
            ∙ ap (λ (s : Region). ends (registration_of s) a n) p
