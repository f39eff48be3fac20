-- Inner contracts: where the program stands on both tapes, and what a round of it does. No statement of the other files rests
-- on this one. Assumes nothing.
use Rattle.std.specs.Prelude.{◌≡◌, List, ℕ, ◌+◌, ◌≤◌, length, Option, Some, None, Result, Ok, Err}
use Rattle.std.specs.declared.ops.ControlFlow.{ControlFlow}
use Rattle.std.specs.declared.ops.ControlFlow.TheVariants.{Continue, Break}
use Rattle.tape.specs.declared.Found.{Found}
use Rattle.tape.specs.declared.input.Held.{Held}
use Rattle.tape.specs.declared.input.ReadFailed.{ReadFailed}
use Rattle.tape.specs.Tape.{header_size, most_body}
use Rattle.tape.specs.Inside.{held_in, Lies, Room, Reads, Finding, finding_of, most_answer}
use Rattle.audit.specs.declared.Files.{Files}
use Rattle.audit.specs.declared.Position.{Position}
use Rattle.audit.specs.declared.Report.{Report}

-- where the program stands after a round, or its report
abbrev pub Next : Type 0
Next = ControlFlow (Option Report) Position

-- what the bytes held of the windows x and y show
abbrev pub shown : (l m x y : List ℕ) → Position → Finding
shown l m x y p = finding_of l m (held_in p.calls x) p.calls.ended (held_in p.answers y) p.answers.ended

-- the bytes used are among those held, and a difference is at the record due or the next
abbrev pub Used : Found → Position → Type 0
Used Found.Calls p = Unit {0}
Used Found.Answers p = Unit {0}
Used (Found.Same u w) p = (p.calls.from + u ≤ p.calls.to) × (p.answers.from + w ≤ p.answers.to)
Used Found.Agrees p = Unit {0}
Used (Found.Differs k) p = k ≤ 1

-- with so many bytes used
abbrev pub behind : Held → ℕ → Held
behind h n = record { from = h.from + n; to = h.to; ended = h.ended }

abbrev pub passed : Position → (used seen : ℕ) → Position
passed p u w = record { calls = behind p.calls u; answers = behind p.answers w; number = p.number + 1 }

-- with a tape read on, or without a verdict where that failed
abbrev pub on_calls : Position → Held → Position
on_calls p h = record { calls = h; answers = p.answers; number = p.number }

abbrev pub on_answers : Position → Held → Position
on_answers p h = record { calls = p.calls; answers = h; number = p.number }

abbrev pub read_by : Result Held ReadFailed → (on : Held → Position) → Next
read_by (Ok h) on = Continue (on h)
read_by (Err e) on = Break None

abbrev pub with_calls : Result Held ReadFailed → Position → Next
with_calls d p = read_by d (on_calls p)

abbrev pub with_answers : Result Held ReadFailed → Position → Next
with_answers d p = read_by d (on_answers p)

-- A round that found f goes from the position p, the windows x and y, to r, x' and y': it reads the tape of which bytes are
-- wanted, with room, passes a record that is as it is due, or has the verdict.
abbrev pub Follows : Files → (f : Found) → (p : Position) → (x y : List ℕ) → (r : Next) → (x' y' : List ℕ)
    → Type 0
Follows files Found.Calls p x y r x' y' =
    (d : Result Held ReadFailed) × (r ≡ with_calls d p) × Room p.calls x × Reads files.calls.number p.calls x d x' × (y' ≡ y)
Follows files Found.Answers p x y r x' y' =
    (d : Result Held ReadFailed) × (r ≡ with_answers d p) × Room p.answers y × Reads files.answers.number p.answers y d y' × (x' ≡ x)
Follows files (Found.Same u w) p x y r x' y' = (r ≡ Continue (passed p u w)) × (x' ≡ x) × (y' ≡ y)
Follows files Found.Agrees p x y r x' y' = r ≡ Break (Some Report.Agrees)
Follows files (Found.Differs k) p x y r x' y' = r ≡ Break (Some (Report.Differs (p.number + k)))

-- the bytes held lie in the windows
abbrev pub Stands : Position → (x y : List ℕ) → Type 0
Stands p x y = Lies p.calls x × Lies p.answers y

-- they do after a round, which passes at most one record
abbrev pub Goes : Next → (number : ℕ) → (x y : List ℕ) → Type 0
Goes (Continue p) n x y = Stands p x y × (p.number ≤ n + 1)
Goes (Break r) n x y = Unit {0}

-- each window has room for a longest record
abbrev pub Wide : (x y : List ℕ) → Type 0
Wide x y = (header_size + most_body ≤ length x) × (most_answer ≤ length y)

-- The program's round follows what the bytes held show.
pub record Round (files : Files) (l m x y : List ℕ) (p : Position) (r : Next) (l' m' x' y' : List ℕ) : Type 0 where
  pub follows : Follows files (shown l m x y p).found p x y r x' y'
  pub state : l' ≡ (shown l m x y p).state
  pub memory : m' ≡ (shown l m x y p).memory
