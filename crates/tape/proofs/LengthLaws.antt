-- A length in decimal digits, digit by digit. Assumes nothing.
use mathlib.Core.Path.{◌≡◌, refl, sym, ap, ◌∙◌}
use mathlib.Core.Bool.{Bool, true, false, cond, ◌&&◌, true≢false}
use mathlib.Core.List.{List, [], ◌∷◌}
use Prim.Native.Nat.{ℕ, zero, suc, ◌+◌, ◌≤◌, ◌<◌}
use native.Mathlib.Numerals.{add-one}
use native.Mathlib.Omega.{arith}
use lib.Dec.{leb, ltb}
use Rattle.std.specs.Bool.{then_some}
use lib.ListN.{length, drop, get_or, drop_of_length-le}
use lib.Seq.{drop-cons}
use borrow.Author.Tests.{le-leb, lt-leb, lt-ltb, eq-eqb}
use Rattle.tables.specs.Layout.{state_size}
use Rattle.tables.specs.Limits.{most_memory}
use Rattle.tables.specs.Reset.{zeros, reset_bytes}
use Rattle.tape.specs.Length.{most_length, is_digit, length_in, with_digit, value_of, length_of, Asks}
use Rattle.tape.specs.Inside.{resets, Starts}

module _ (t : List ℕ) (v i : ℕ) (within : i < length t) where
  abbrev byte : ℕ
  byte = get_or t i 0

  unroll : value_of v (drop i t) ≡ cond (is_digit byte && leb (with_digit v byte) most_length) (value_of (with_digit v byte) (drop (i + 1) t)) 0
  unfolding value_of
  unroll = ap (value_of v) (drop-cons t i 0 within ∙ ap (λ (k : ℕ). byte ∷ drop k t) (sym (add-one i)))

  pub value_other : is_digit byte ≡ false → value_of v (drop i t) ≡ 0
  value_other h = unroll ∙ rw h

  module _ (digit : is_digit byte ≡ true) where
    pub value_long : most_length < with_digit v byte → value_of v (drop i t) ≡ 0
    value_long h = unroll ∙ rw (digit, lt-leb (with_digit v byte) most_length h)

    pub value_more : with_digit v byte ≤ most_length → value_of v (drop i t) ≡ value_of (with_digit v byte) (drop (i + 1) t)
    value_more h = unroll ∙ rw (digit, le-leb (with_digit v byte) most_length h)

pub value_end : (t : List ℕ) (v i : ℕ) → length t ≤ i → value_of v (drop i t) ≡ v
unfolding value_of
value_end t v i h = ap (value_of v) (drop_of_length-le t h)

pub value_start : (t : List ℕ) → length_of t ≡ value_of 0 (drop 0 t)
unfolding length_of
value_start t = refl

pub length_none : length_of [] ≡ 0
unfolding length_of value_of
length_none = refl

pub some_value : (n : ℕ) → length_in (then_some (ltb 0 n) n) ≡ n
some_value zero = refl
some_value (suc k) = rw (lt-ltb 0 (suc k) (omega arith))

-- a reset of a card takes every length that the programs take, but for 0
pub resets_none : (l : List ℕ) (n : ℕ) → length l ≡ state_size → n ≤ most_length → resets l n ≡ false → n ≡ 0
resets_none l zero long le h = refl
resets_none l (suc k) long le h = absurd (true≢false (sym e ∙ h))
  where
    e : resets l (suc k) ≡ true
    e = rw (eq-eqb (length l) state_size long, le-leb 1 (suc k) (omega arith), le-leb (suc k) most_memory (omega arith))

-- a program starts on what `length_asked`, `start` and `memory` leave
pub starts_by : (i n : ℕ) {l m : List ℕ} {done : Bool} → Asks i n → n ≤ most_length → done ≡ resets (zeros state_size) n
    → l ≡ cond (resets (zeros state_size) n) (reset_bytes n) (zeros state_size) → done ≡ true → 1048576 ≡ length m → m ≡ zeros 1048576 → Starts i n l m
starts_by i n asks most e s good long zeroed = record {
  asked = asks;
  fits = omega arith;
  state = s ∙ ap (λ (b : Bool). cond b (reset_bytes n) (zeros state_size)) (sym e ∙ good);
  memory = zeroed ∙ ap zeros long;
}
