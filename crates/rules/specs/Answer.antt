-- Document 01, "Answer numbers": the number and the status of each answer. Assumes nothing.
use Rattle.std.specs.Prelude.{Result, Ok, Err, Bool, true, false, cond, not, ◌&&◌, ℕ, ◌+◌, ◌*◌, ◌/◌, ◌%◌, eqb, leb}
use Rattle.std.proofs.Math.Option.{Option, none, some}
use Rattle.tables.specs.Refusal.{refusal_number}
use Rattle.tables.specs.declared.Ack.{Ack}
use Rattle.tables.specs.declared.refusal.Refusal.{Refusal}
use Rattle.rules.specs.declared.Cause.{Cause}
use Rattle.rules.specs.declared.Cause.TheVariants.{Peer, Place}
use Rattle.rules.specs.declared.Answer.{Answer}
use Rattle.rules.specs.declared.Answer.TheVariants.{Done, Held, Refused}

-- 5: "held: peer not ready or no receive waiting", 6: "held: no completion place"
abbrev pub cause_number : Cause → ℕ
cause_number Peer = 5
cause_number Place = 6

-- 0: "done (a work request also gives a status)"; a refusal has its own number of the table
abbrev pub number : Answer → ℕ
number (Done s) = 0
number (Held c) = cause_number c
number (Refused n) = n

-- "Status is 0 outside work requests and with any other answer than 0"; 02, M-103: a receive that is flushed at once has status 4. The status
-- of a call that is done is `status_of` of Calls.antt.
abbrev pub status : Answer → ℕ
status (Done s) = s
status (Held c) = 0
status (Refused n) = 0

-- the answer in bits 0 to 7, the status in bits 8 to 15
abbrev pub code_of : Answer → ℕ
code_of a = number a + 256 * status a

-- the answer that tells a reason
abbrev pub refused : Refusal → Answer
refused r = Refused (refusal_number r)

-- and that of a control command
abbrev pub outcome_answer : Result Ack Refusal → Answer
outcome_answer (Ok a) = Done 0
outcome_answer (Err r) = refused r

-- the answer of a call's tests: done with the status where none is met, else held or refused with the number of the first
abbrev pub answered : (status : ℕ) → Option ℕ → Answer
answered s none = Done s
answered s (some n) = cond (eqb n 5) (Held Peer) (cond (eqb n 6) (Held Place) (Refused n))

-- the answer that a call's result, the number that code_of gives, tells
abbrev pub answer_in : ℕ → Answer
answer_in r = answered (r / 256 % 256) (cond (eqb (r % 256) 0) none (some (r % 256)))

-- the value beside it, from bit 16 on
abbrev pub value_in : ℕ → ℕ
value_in r = r / 65536

-- the call was answered 0
abbrev pub is_done : Answer → Bool
is_done (Done s) = true
is_done (Held c) = false
is_done (Refused n) = false

-- it was held
abbrev pub is_held : Answer → Bool
is_held (Done s) = false
is_held (Held c) = true
is_held (Refused n) = false

-- a number of the table that a call can answer; 14 is the program's alone
abbrev pub listed : ℕ → Bool
listed n = leb n 15 && not (eqb n 14)
