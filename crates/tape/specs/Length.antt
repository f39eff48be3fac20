-- The programs' last word: the length of the card's memory, in decimal digits. Assumes nothing.
use Rattle.std.specs.Prelude.{◌≡◌, Bool, cond, ◌&&◌, List, [], ◌∷◌, ℕ, ◌+◌, ◌-◌, ◌*◌, leb, ltb, Option, None, Some}
use Rattle.tape.specs.Tape.{tape_memory}
use Rattle.tape.specs.System.{Event, Happened}

-- the longest memory that a program takes: its own limit, as a card takes more
abbrev pub most_length : ℕ
most_length = 1048576

-- '0' to '9'
abbrev pub is_digit : ℕ → Bool
is_digit b = leb 48 b && leb b 57

-- with one digit more
abbrev pub with_digit : (value byte : ℕ) → ℕ
with_digit v b = v * 10 + (b - 48)

-- the value of the text, behind digits that are worth v: 0, which no reset takes, where a byte is no digit or it passes
-- most_length
unfoldable pub value_of : (v : ℕ) → (text : List ℕ) → ℕ
value_of v [] = v
value_of v (b ∷ t) = cond (is_digit b && leb (with_digit v b) most_length) (value_of (with_digit v b) t) 0

unfoldable pub length_of : (text : List ℕ) → ℕ
length_of t = value_of 0 t

-- a length, or 0 for none
abbrev pub length_in : Option ℕ → ℕ
length_in None = 0
length_in (Some n) = n

-- the length that a program takes from word i of so many: 4,096 where there is none, and 0 where words follow it
abbrev pub length_by : (count i : ℕ) → (text : List ℕ) → ℕ
length_by count i t = cond (leb count i) tape_memory (cond (ltb 1 (count - i)) 0 (length_of t))

-- the command line asks for the length
pub record Asks (i length : ℕ) : Type 0 where
  pub count : ℕ
  pub text : List ℕ
  pub counted : Happened (Event.words count)
  pub last : count ≡ i + 1 → Happened (Event.word i 8 text)
  pub same : length ≡ length_by count i text
