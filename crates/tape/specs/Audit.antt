-- Document 02, M-110: the audit of a replay. Assumes nothing.
use Rattle.std.specs.Prelude.{◌≡◌, Bool, true, false, cond, ◌&&◌, ℕ, suc, ◌≤◌, eqb, length, take, drop}
use mathlib.Core.List.{List, [], ◌∷◌, ◌++◌, flatten}
use Rattle.tape.specs.Tape.{records}

-- ---- the verdict on two tapes, calls and answers

-- "prints "agrees" or the first record number (decimal, from 0)"
pub data Verdict : Type 0 where
  agrees : Verdict
  differs : (number : ℕ) → Verdict

-- the answer tape starts with a record; "missing bytes included"
unfoldable pub starts : (due given : List ℕ) → Bool
starts [] g = true
starts (a ∷ r) [] = false
starts (a ∷ r) (b ∷ g) = eqb a b && starts r g

-- The records due from number n on, and the answer tape from there on: the first record that the tape does not have. "Extra
-- bytes after the last answer count as the next record."
unfoldable pub against : (n : ℕ) → (due : List (List ℕ)) → (given : List ℕ) → Verdict
against n [] [] = agrees
against n [] (b ∷ g) = differs n
against n (r ∷ rs) g = cond (starts r g) (against (suc n) rs (drop (length r) g)) (differs n)

-- "the first record number .. where the answer tape isn't what the rules as they now stand give"; document 01's tape has a
-- memory of 4,096
unfoldable pub verdict : (memory : ℕ) → (calls answers : List ℕ) → Verdict
verdict memory calls answers = against 0 (records memory calls) answers

-- ---- what it means

-- "agrees exactly when the answer tape is the one the rules give"; with the memory of document 01's tape that is its `output`
unfoldable pub AgreesExactly : Type 0
AgreesExactly = (memory : ℕ) (calls answers : List ℕ) →
    (verdict memory calls answers ≡ agrees → answers ≡ flatten (records memory calls))
    × (answers ≡ flatten (records memory calls) → verdict memory calls answers ≡ agrees)

-- the tape does not start with the first of the records due, or has bytes where none is due
abbrev pub Wrong : (due : List (List ℕ)) → (given : List ℕ) → Type 0
Wrong [] g = g ≡ [] → ⊥
Wrong (r ∷ rs) g = starts r g ≡ false

-- "the first record number": n of the records due, or the number behind their last; the tape has all before it, and then not
-- that one
pub record First (due : List (List ℕ)) (given : List ℕ) (n : ℕ) : Type 0 where
  pub most : n ≤ length due
  pub rest : List ℕ
  pub before : given ≡ flatten (take n due) ++ rest
  pub wrong : Wrong (drop n due) rest

unfoldable pub DiffersFirst : Type 0
DiffersFirst = (memory : ℕ) (calls answers : List ℕ) (n : ℕ) →
    (verdict memory calls answers ≡ differs n → First (records memory calls) answers n)
    × (First (records memory calls) answers n → verdict memory calls answers ≡ differs n)
