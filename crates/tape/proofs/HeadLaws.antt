-- Headers read and answer heads written. Assumes nothing.
use mathlib.Core.Path.{◌≡◌, refl, sym, ap, ◌∙◌}
use mir.Val.{Fits}
use mir.Syntax.{w8}
use mathlib.Core.Bool.{Bool, true, false, cond, ◌&&◌}
use mathlib.Core.List.{List, [], ◌∷◌}
use Prim.Native.Nat.{ℕ, ◌+◌, ◌*◌, ◌%◌, ◌≤◌, ◌<◌}
use native.Mathlib.Omega.{arith}
use lib.Dec.{eqb}
use lib.ListN.{length, take, get_or}
use borrow.Author.Tests.{lt-ltb, le-ltb}
use Rattle.std.specs.Prelude.{Ok, Err}
use Rattle.std.specs.Cmp.Lexicographic.{pointwise}
use Rattle.std.proofs.lemmas.Bool.Decides.{nat_tests}
use Rattle.wire.specs.Le.{le_at}
use Rattle.tape.specs.declared.HeaderError.{HeaderError}
use Rattle.tape.specs.declared.Kind.{Kind}
use Rattle.tape.specs.Tape.{is_mark, is_kind, kind_of, kind_in, is_length, is_good, header_at, header_of}

-- a mark, by its bytes
pub mark_starts : (i : List ℕ) → 6 ≤ length i → ((k : ℕ) → Fits w8 (get_or i k 0)) → pointwise eqb (82 ∷ 75 ∷ []) (take 2 i) ≡ is_mark i
unfolding le_at
mark_starts [] h b = absurd (omega arith)
mark_starts (x ∷ []) h b = absurd (omega arith)
mark_starts (x ∷ y ∷ i) h b =
    let p : x % 256 + 256 * 0 ≡ x = omega (arith, b 0) in
    let q : y % 256 + 256 * 0 ≡ y = omega (arith, b 1) in
    rw (p, q, eqb_swap 82 x, eqb_swap 75 y) (ap (λ (z : Bool). eqb x 82 && z) (and_true (eqb y 75)))
  where
    eqb_swap : (a b : ℕ) → eqb a b ≡ eqb b a
    eqb_swap a b = grind (arith, nat_tests)

    and_true : (x : Bool) → (x && true) ≡ x
    and_true true = refl
    and_true false = refl

-- ---- each answer of the header's reader

pub header_cut : (i : List ℕ) → length i < 6 → Err HeaderError.Cut ≡ header_of i
unfolding header_of
header_cut i h = rw (lt-ltb (length i) 6 h)

module _ (i : List ℕ) (whole : 6 ≤ length i) where
  header_as : (x : Bool) → is_good i ≡ x → header_of i ≡ cond x (Ok (header_at i)) (Err HeaderError.Bad)
  unfolding header_of
  header_as x h = rw (le-ltb (length i) 6 whole, h)

  no_kind : {e : HeaderError} (m b l : Bool) (k : Kind) → cond b (Ok k) (Err HeaderError.Bad) ≡ Err e → Err e ≡ cond (m && b && l) (Ok (header_at i)) (Err HeaderError.Bad)
  no_kind m true l k p = absurd cc
  no_kind true false l k p = cc
  no_kind false false l k p = cc

  pub header_no_kind : {e : HeaderError} → kind_in (le_at 1 i 2) ≡ Err e → Err e ≡ header_of i
  header_no_kind p =
      no_kind (is_mark i) (is_kind (le_at 1 i 2)) (is_length (kind_of (le_at 1 i 2)) (le_at 2 i 4)) (kind_of (le_at 1 i 2)) p
      ∙ sym (header_as (is_good i) refl)

  known : (b : Bool) (k : Kind) {k' : Kind} → cond b (Ok k) (Err HeaderError.Bad) ≡ Ok k' → (b ≡ true) × (k ≡ k')
  known true k p = (refl, cc)
  known false k p = absurd cc

  module _ {k : Kind} (kind : kind_in (le_at 1 i 2) ≡ Ok k) where
    good_by : is_good i ≡ (is_mark i && is_length k (le_at 2 i 4))
    good_by =
        let t : (is_kind (le_at 1 i 2) ≡ true) × (kind_of (le_at 1 i 2) ≡ k) = known (is_kind (le_at 1 i 2)) (kind_of (le_at 1 i 2)) kind in
        rw (t.0, t.1) (and_mid (is_mark i) (is_length k (le_at 2 i 4)))
      where
        and_mid : (x y : Bool) → (x && true && y) ≡ (x && y)
        and_mid true y = refl
        and_mid false y = refl

    pub header_read : (is_mark i && is_length k (le_at 2 i 4)) ≡ true
        → Ok (record { kind = k; number = le_at 1 i 3; length = le_at 2 i 4 }) ≡ header_of i
    header_read h =
        let t : (is_kind (le_at 1 i 2) ≡ true) × (kind_of (le_at 1 i 2) ≡ k) = known (is_kind (le_at 1 i 2)) (kind_of (le_at 1 i 2)) kind in
        rw (sym t.1) (sym (header_as true (good_by ∙ h)))

    pub header_wrong : (is_mark i && is_length k (le_at 2 i 4)) ≡ false → Err HeaderError.Bad ≡ header_of i
    header_wrong h = sym (header_as false (good_by ∙ h))
