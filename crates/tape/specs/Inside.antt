-- Inner contracts: what the functions of this crate owe one another and the programs. No statement of the other files rests
-- on this one. Assumes nothing.
use Rattle.std.specs.Prelude.{◌≡◌, Bool, true, false, cond, ◌&&◌, ◌||◌, List, ◌++◌, ℕ, ◌+◌, ◌-◌, ◌≤◌, ◌<◌, eqb, leb, ℤ, pos, negsuc, length, take, drop, Result, Ok, Err}
use Rattle.validate.specs.Accept.{memory_ok}
use Rattle.tables.specs.Layout.{state_size}
use Rattle.tables.specs.Reset.{zeros, reset_bytes}
use Rattle.rules.specs.Call.{Call}
use Rattle.rules.specs.Contract.{bytes_after}
use Rattle.tape.specs.declared.Reply.{Reply}
use Rattle.tape.specs.declared.Found.{Found}
use Rattle.tape.specs.declared.input.Held.{Held}
use Rattle.tape.specs.declared.input.ReadFailed.{ReadFailed}
use Rattle.tape.specs.Tape.{header_size, tape_ack, step_of, answer_to}
use Rattle.tape.specs.Pieces.{Left, replied}
use Rattle.tape.specs.Audit.{starts}
use Rattle.tape.specs.System.{Event, Happened}
use Rattle.tape.specs.Length.{Asks}

-- ---- an answer record in a buffer

-- the buffer `out` with the bytes written at its start
abbrev pub placed : (bytes out : List ℕ) → List ℕ
placed b out = b ++ drop (length b) out

-- The call k, on the state l, leaves the state l', and `out'` of the buffer `out` with its answer record of n bytes at the
-- start.
pub record Answers (k : Call) (l out : List ℕ) (n : ℕ) (l' out' : List ℕ) : Type 0 where
  pub count : n ≡ length (answer_to l k)
  pub bytes : out' ≡ placed (answer_to l k) out
  pub state : l' ≡ bytes_after l k

-- A reply that owes t says r and leaves the state l' and the memory m', and its bytes at the start of the buffer `out`.
pub record Leaves (t : Left) (out : List ℕ) (r : Reply) (l' m' out' : List ℕ) : Type 0 where
  pub says : r ≡ t.reply
  pub state : l' ≡ t.state
  pub memory : m' ≡ t.memory
  pub bytes : out' ≡ placed t.bytes out

-- a reset of the state l to a memory of so many bytes is answered 0
abbrev pub resets : (l : List ℕ) → (memory : ℕ) → Bool
resets l memory = eqb (length l) state_size && memory_ok memory

-- A program starts: the card is reset to the length that word i asks for, and the memory has that many bytes, all zero.
pub record Starts (i size : ℕ) (l m : List ℕ) : Type 0 where
  pub asked : Asks i size
  pub fits : size ≤ length m
  pub state : l ≡ reset_bytes size
  pub memory : m ≡ zeros (length m)

-- ---- bytes held in a window

abbrev pub held_in : Held → (window : List ℕ) → List ℕ
held_in h w = take (h.to - h.from) (drop h.from w)

-- the window has them
abbrev pub Lies : Held → (window : List ℕ) → Type 0
Lies h w = (h.from ≤ h.to) × (h.to ≤ length w)

-- it has room for a byte more
abbrev pub Room : Held → (window : List ℕ) → Type 0
Room h w = length (held_in h w) < length w

-- the bytes that a read gave which answered so
abbrev pub bytes_by : (answer : ℤ) → ℕ
bytes_by (pos n) = n
bytes_by (negsuc k) = 0

abbrev pub is_failure : (answer : ℤ) → Bool
is_failure (pos n) = false
is_failure (negsuc k) = true

-- how many bytes a read gave that returned r, and whether it failed
abbrev pub count_in : {E : Type 0} → Result ℕ E → ℕ
count_in (Ok n) = n
count_in (Err e) = 0

abbrev pub is_err : {T E : Type 0} → Result T E → Bool
is_err (Ok x) = false
is_err (Err e) = true

-- what is held after it
abbrev pub held_after : Result Held ReadFailed → Held
held_after (Ok h) = h
held_after (Err e) = e.held

-- One read of the file, which left its buffer so, gave so many bytes, or failed.
pub record Gives (file : ℤ) (buffer : List ℕ) (count : ℕ) (failed : Bool) : Type 0 where
  pub answer : ℤ
  pub happened : Happened (Event.read file answer buffer)
  pub bytes : count ≡ bytes_by answer
  pub failure : failed ≡ is_failure answer

-- One read of the file into the window w, of which h is held: those bytes stay held, what it gave is behind them, and where
-- that is nothing the input has ended.
pub record Reads (file : ℤ) (h : Held) (w : List ℕ) (r : Result Held ReadFailed) (w' : List ℕ) : Type 0 where
  pub lies : Lies (held_after r) w'
  pub buffer : List ℕ
  pub count : ℕ
  pub gives : Lies h w → Gives file buffer count (is_err r)
  pub room : Lies h w → Room h w → 0 < length buffer
  pub held : Lies h w → held_in (held_after r) w' ≡ held_in h w ++ take count buffer
  pub ended : Lies h w → (held_after r).ended ≡ eqb count 0

-- ---- a round of the audit, on parts of both tapes

-- the longest answer record
abbrev pub most_answer : ℕ
most_answer = header_size + tape_ack

-- behind the last answer, with so many bytes left
abbrev pub closing : (later left : ℕ) → Found
closing later left = cond (eqb left 0) Found.Agrees (Found.Differs later)

-- a reply to the calls by those bytes, and the answers held; the answer to a bad record is a record, and nothing is due after
-- it
abbrev pub found_by : Reply → (bytes given : List ℕ) → Found
found_by (Reply.Answered u w) r g = cond (starts r g) (Found.Same u w) (Found.Differs 0)
found_by Reply.Fault r g = cond (starts r g) (closing 1 (length g - length r)) (Found.Differs 0)
found_by Reply.End r g = closing 0 (length g)
found_by Reply.More r g = Found.Calls

-- what it finds, and the state and the memory that it leaves
pub record Finding : Type 0 where
  pub found : Found
  pub state : List ℕ
  pub memory : List ℕ

-- an answer is looked at once the longest is held, or all that is left of the tape
abbrev pub finding_by : (held : Bool) → (l m : List ℕ) → Left → (given : List ℕ) → Finding
finding_by true l m t g = record { found = found_by t.reply t.bytes g; state = t.state; memory = t.memory }
finding_by false l m t g = record { found = Found.Answers; state = l; memory = m }

abbrev pub finding_of : (l m calls : List ℕ) → (ended_calls : Bool) → (answers : List ℕ) → (ended_answers : Bool)
    → Finding
finding_of l m i e g f = finding_by (f || leb most_answer (length g)) l m (replied (step_of i e) l m i) g

-- The function `audit`, which owes x, finds r and leaves the state l' and the memory m'.
pub record Finds (x : Finding) (r : Found) (l' m' : List ℕ) : Type 0 where
  pub found : r ≡ x.found
  pub state : l' ≡ x.state
  pub memory : m' ≡ x.memory
