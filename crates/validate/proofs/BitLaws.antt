-- The bits of one number among those of another: what a word made of many by `|` or `&` says of each. Assumes nothing.
use Rattle.std.proofs.Common.{◌≡◌, ℕ, ◌+◌, ◌/◌, ◌%◌, ◌^◌, ◌<◌, ◌≤◌, arith}
use native.Mathlib.Decide.{dec_lt}
use Rattle.std.proofs.lemmas.Nat.{le_or_l, le_or_r}
use lib.Bits.{bit_and, bit_or, and_le_l, and_le_r, and_shr, and_mod, or_shr, or_mod}

-- any is at least each number that was or-ed into it
pub or_more : (f : ℕ → ℕ) (i any v : ℕ) → v ≡ f i → ((k : ℕ) → k < i → f k ≤ any) → (k : ℕ) → k < i + 1 → f k ≤ bit_or any v
or_more f i any v e h k b =
    elim (dec_lt k i) [
      | yes q ↦ let x = h k q in let y = le_or_l any v in omega arith
      | no q ↦ let z : k ≡ i = omega arith in rw (z, ← e) (le_or_r any v)
    ]

-- every field of bits of a is at most the same field of b
abbrev pub Among : ℕ → ℕ → Type 0
Among a b = (j k : ℕ) → a / 2 ^ j % 2 ^ k ≤ b / 2 ^ j % 2 ^ k

module _ (a b : ℕ) where
  among_or_l : Among a (bit_or a b)
  among_or_l j k = rw (or_shr a b j, or_mod (a / 2 ^ j) (b / 2 ^ j) k) (le_or_l (a / 2 ^ j % 2 ^ k) (b / 2 ^ j % 2 ^ k))

  among_or_r : Among b (bit_or a b)
  among_or_r j k = rw (or_shr a b j, or_mod (a / 2 ^ j) (b / 2 ^ j) k) (le_or_r (a / 2 ^ j % 2 ^ k) (b / 2 ^ j % 2 ^ k))

  and_among_l : Among (bit_and a b) a
  and_among_l j k = rw (and_shr a b j, and_mod (a / 2 ^ j) (b / 2 ^ j) k) (and_le_l (a / 2 ^ j % 2 ^ k) (b / 2 ^ j % 2 ^ k))

  and_among_r : Among (bit_and a b) b
  and_among_r j k = rw (and_shr a b j, and_mod (a / 2 ^ j) (b / 2 ^ j) k) (and_le_r (a / 2 ^ j % 2 ^ k) (b / 2 ^ j % 2 ^ k))

-- w stands between the bits that all words have and those that any has
pub record Between (all any w : ℕ) : Type 0 where
  pub low : Among all w
  pub high : Among w any

pub between_more : (f : ℕ → ℕ) (i all any v : ℕ) → v ≡ f i → ((k : ℕ) → k < i → Between all any (f k))
    → (k : ℕ) → k < i + 1 → Between (bit_and all v) (bit_or any v) (f k)
between_more f i all any v e h k b =
    elim (dec_lt k i) [
      | yes q ↦ record {
        low = λ j n. let x = and_among_l all v j n in let y = (h k q).low j n in omega arith;
        high = λ j n. let x = (h k q).high j n in let y = among_or_l any v j n in omega arith;
      }
      | no q ↦ let z : k ≡ i = omega arith in rw (z, ← e) (record { low = and_among_r all v; high = among_or_r any v })
    ]
