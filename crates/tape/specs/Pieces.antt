-- The tape read in pieces: what a program does with the bytes that it holds, and that no cutting of its input shows. Assumes
-- nothing.
use Rattle.std.specs.Prelude.{◌≡◌, Bool, true, false, ℕ, zero, suc, ◌+◌, ◌≤◌, length, drop}
use mathlib.Core.List.{List, [], ◌∷◌, ◌++◌, flatten}
use Rattle.tables.specs.Reset.{zeros, reset_bytes}
use Rattle.rules.specs.Call.{Call}
use Rattle.rules.specs.Contract.{bytes_after}
use Rattle.tape.specs.declared.Step.{Step}
use Rattle.tape.specs.declared.Reply.{Reply}
use Rattle.tape.specs.Tape.{header_size, step_of, call_at, memory_left, answer_to, bad_record, records}

-- ---- a reply: what a program does about the bytes that it holds

-- what a reply says, the state and the memory that it leaves, and the answer record that it makes
pub record Left : Type 0 where
  pub reply : Reply
  pub state : List ℕ
  pub memory : List ℕ
  pub bytes : List ℕ

abbrev pub replied : Step → (l m held : List ℕ) → Left
replied (Step.Whole r) l m i =
    let call : Call = call_at r m i in
    record {
      reply = Reply.Answered (header_size + r.length) (length (answer_to l call));
      state = bytes_after l call;
      memory = memory_left l m call;
      bytes = answer_to l call;
    }
replied Step.Fault l m i = record { reply = Reply.Fault; state = l; memory = m; bytes = bad_record }
replied Step.End l m i = record { reply = Reply.End; state = l; memory = m; bytes = [] }
replied Step.More l m i = record { reply = Reply.More; state = l; memory = m; bytes = [] }

-- ---- an input as it is read

-- the bytes held, whether a read has found the end, and the pieces that reads will still give
pub record Input : Type 0 where
  pub held : List ℕ
  pub ended : Bool
  pub pieces : List (List ℕ)

-- before the first read
abbrev pub unread : List (List ℕ) → Input
unread ps = record { held = []; ended = false; pieces = ps }

-- a read gives the next piece, or finds the end
abbrev pub read_by : (held : List ℕ) → (pieces : List (List ℕ)) → Input
read_by h [] = record { held = h; ended = true; pieces = [] }
read_by h (p ∷ ps) = record { held = h ++ p; ended = false; pieces = ps }

abbrev pub next : Input → Input
next i = read_by i.held i.pieces

-- the first n of the bytes held are used up
abbrev pub past : ℕ → Input → Input
past n i = record { held = drop n i.held; ended = i.ended; pieces = i.pieces }

-- ---- the program

-- The answer records that it writes from a step on, where `more` gives those of the rounds after it.
abbrev pub run_by : (more : (l m : List ℕ) → Input → List (List ℕ)) → Step → (l m : List ℕ) → Input
    → List (List ℕ)
run_by more (Step.Whole r) l m i =
    let t : Left = replied (Step.Whole r) l m i.held in
    t.bytes ∷ more t.state t.memory (past (header_size + r.length) i)
run_by more Step.Fault l m i = bad_record ∷ []
run_by more Step.End l m i = []
run_by more Step.More l m i = more l m (next i)

-- in so many rounds
unfoldable pub run : (rounds : ℕ) → (l m : List ℕ) → Input → List (List ℕ)
run zero l m i = []
run (suc t) l m i = run_by (run t) (step_of i.held i.ended) l m i

-- at most one round for each byte and each piece, one that finds the end and one that stops there
abbrev pub rounds_for : (pieces : List (List ℕ)) → ℕ
rounds_for ps = length (flatten ps) + length ps + 2

-- However the input is cut into pieces, the program writes the answer records of the whole tape, in any number of rounds that
-- is enough.
unfoldable pub HoweverCut : Type 0
HoweverCut = (memory : ℕ) (ps : List (List ℕ)) (rounds : ℕ) → rounds_for ps ≤ rounds →
    run rounds (reset_bytes memory) (zeros memory) (unread ps) ≡ records memory (flatten ps)
