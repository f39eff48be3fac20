-- Document 02, M-110: what the program reports, by its command line and by what the reads of both files gave. Assumes nothing.
use Rattle.std.specs.Prelude.{◌≡◌, Bool, List, ℕ, ◌+◌, ◌≤◌, ℤ, length, Option, Some, None}
use Rattle.tape.specs.System.{BytesOf, Unreadable, Continues, Opens}
use Rattle.tape.specs.Length.{Asks}
use Rattle.tape.specs.Audit.{Verdict, verdict}
use Rattle.audit.specs.declared.Report.{Report}

-- ---- the reads of both files

-- the bytes that they gave, and whether they found the end
pub record Tapes (calls answers : ℤ) : Type 0 where
  pub call_bytes : List ℕ
  pub ended_calls : Bool
  pub answer_bytes : List ℕ
  pub ended_answers : Bool
  pub from_calls : BytesOf calls call_bytes ended_calls
  pub from_answers : BytesOf answers answer_bytes ended_answers

-- "agrees exactly when the answer tape is the one the rules give, however both are cut into pieces": v is the verdict on the
-- whole tapes, whatever stands behind the bytes that were read
abbrev pub VerdictOn : (memory : ℕ) → Verdict → {calls answers : ℤ} → Tapes calls answers → Type 0
VerdictOn memory v t =
    (calls answers : List ℕ) → Continues calls t.call_bytes t.ended_calls
    → Continues answers t.answer_bytes t.ended_answers → verdict memory calls answers ≡ v

-- ---- the report

-- why nothing is printed: the command line asks for no length that a reset takes, a tape can't be read, or no end of it comes
pub data Silent (calls answers : ℤ) (memory : ℕ) : Type 0 where
  lengthless : memory ≡ 0 → Silent calls answers memory
  no_calls : Unreadable calls → Silent calls answers memory
  no_answers : Unreadable answers → Silent calls answers memory
  endless : (t : Tapes calls answers) → 9223372036854775807 ≤ length t.call_bytes + length t.answer_bytes
      → Silent calls answers memory

abbrev pub Reports : (calls answers : ℤ) → (memory : ℕ) → Option Report → Type 0
Reports c a memory (Some Report.Agrees) = (t : Tapes c a) × VerdictOn memory Verdict.agrees t
Reports c a memory (Some (Report.Differs n)) = (t : Tapes c a) × VerdictOn memory (Verdict.differs n) t
Reports c a memory None = Silent c a memory

-- "reads two tapes, calls and answers, from files named by its two arguments"; a third word is the length of the card's memory
pub record Reported (r : Option Report) : Type 0 where
  pub calls : ℤ
  pub answers : ℤ
  pub memory : ℕ
  pub calls_named : Opens 1 calls
  pub answers_named : Opens 2 answers
  pub asked : Asks 3 memory
  pub reports : Reports calls answers memory r
