-- The contract that every exported call cites, over the lent state of docs/STATE.md: for every input the answer and status, the state's
-- bytes and the card that they mean, the memory and the answer buffer. Assumes nothing.
use Rattle.std.specs.Prelude.{◌≡◌, true, List, ℕ, ◌+◌, ◌*◌}
use Rattle.std.proofs.Math.Option.{Option, none, some}
use Rattle.wire.specs.Checks.{refusal}
use Rattle.validate.specs.Accept.{accepts}
use Rattle.tables.specs.State.{card}
use Rattle.rules.specs.Answer.{code_of, is_done}
use Rattle.rules.specs.Bytes.{effect_bytes}
use Rattle.rules.specs.Call.{Call, Outcome, leaving}
use Rattle.rules.specs.Calls.{Meets, owed, owed_checks}
use Rattle.rules.specs.declared.Answer.{Answer}

abbrev pub bytes_by : Option ℕ → List ℕ → Call → List ℕ
bytes_by none l k = effect_bytes l k
bytes_by (some n) l k = l

-- the state's bytes after the call k on the state l
abbrev pub bytes_after : List ℕ → Call → List ℕ
bytes_after l k = bytes_by (refusal (owed_checks card accepts l k)) l k

-- the call k on the state l has the outcome o: by the rules, and the state byte by byte; the second for a call that returns nothing beside
pub record OwesAll (l : List ℕ) (k : Call) (o : Outcome) : Type 0 where
  pub meets : Meets card accepts l k o
  pub bytes : o.state ≡ bytes_after l k

abbrev pub Owes : (l : List ℕ) (k : Call) (r : Answer) (l' m' b' : List ℕ) → Type 0
Owes l k r l' m' b' = OwesAll l k (leaving r l' m' b')

-- What an exported function promises of the call k on the state l: it returns r, the answer's number in bits 0 to 7, its status in bits 8
-- to 15 and from bit 16 on the value beside it, and leaves the state l', the memory m' and the answer buffer b'.
pub record Exports (l : List ℕ) (k : Call) (r : ℕ) (l' m' b' : List ℕ) : Type 0 where
  pub code : r ≡ code_of (owed card accepts l k).answer + 65536 * (owed card accepts l k).value
  pub state : l' ≡ bytes_after l k
  pub tables : card l' ≡ (owed card accepts l k).card
  pub memory : m' ≡ (owed card accepts l k).memory
  pub buffer : b' ≡ (owed card accepts l k).buffer
  -- a call answered 0 leaves a state that the next call accepts
  pub sound : is_done (owed card accepts l k).answer ≡ true → accepts l' ≡ true
