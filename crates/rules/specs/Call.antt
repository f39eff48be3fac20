-- The card's calls, each with the bytes and numbers that it is lent, and what a call leaves. Assumes nothing.
use Rattle.std.specs.Prelude.{Bool, true, false, List, [], ℕ}
use Rattle.std.proofs.Math.Option.{Option, none, some}
use Rattle.wire.specs.Codec.{decode}
use Rattle.tables.specs.Card.{Receive}
use Rattle.tables.specs.Commands.{Command, command_of, register_codec}
use Rattle.tables.specs.declared.Registration.{Registration}
use Rattle.rules.specs.Lists.{or_else}
use Rattle.rules.specs.Touch.{receive_in}
use Rattle.tables.specs.Records.{Request, request_of}
use Rattle.rules.specs.declared.Answer.{Answer}

pub data Call : Type 0 where
  -- the length of the memory
  reset : (memory : ℕ) → Call
  -- the command, and the ack buffer as it was
  control : (command ack : List ℕ) → Call
  -- 02, M-105, "a second registration call": the record of command 7, "the page list lent beside it as 64-bit numbers", and the ack buffer as it was
  register_pages : (command pages ack : List ℕ) → Call
  -- post send: the send record, and the memory as it was
  send : (qpn : ℕ) (sent memory : List ℕ) → Call
  -- post receive: the receive record
  receive : (qpn : ℕ) (posted : List ℕ) → Call
  flush : (qpn : ℕ) → Call
  -- 02, M-108, "Enqueue": the send record, and the memory, of which the length alone is looked at
  enqueue : (qpn : ℕ) (sent memory : List ℕ) → Call
  -- 02, M-108, "A turn call": the memory as it was
  turn : (memory : List ℕ) → Call
  -- the buffer for a completion, as it was
  poll : (cqn : ℕ) (buffer : List ℕ) → Call

-- the registration that the record of command 7 holds
abbrev pub registration_in : (command : List ℕ) → Registration
registration_in k = decode register_codec k 2

-- ---- what a call is given

-- the answer buffer that it is lent, as it was
pub data Buffer : Type 0 where
  no_buffer : Buffer
  for_ack : (bytes : List ℕ) → Buffer
  for_completion : (bytes : List ℕ) → Buffer

-- what it does on a queue pair
pub data OnPair : Type 0 where
  nothing : OnPair
  sends : (qpn : ℕ) → Request → OnPair
  receives : (qpn : ℕ) → Receive → OnPair
  flushes : (qpn : ℕ) → OnPair
  enqueues : (qpn : ℕ) → Request → OnPair
  -- it runs a queued request, of a queue pair that its answer names
  turns : OnPair

pub record Given : Type 0 where
  -- the state is tested whole, and not its length alone
  pub whole : Bool
  -- the memory, where it is lent
  pub memory : Option (List ℕ)
  pub buffer : Buffer
  -- the control command that it runs
  pub command : Option Command
  pub pair : OnPair

-- "Reset tests only the length"; 02, M-105: "command 7's record"
abbrev pub given : Call → Given
given (reset n) = record { whole = false; memory = none; buffer = no_buffer; command = none; pair = nothing }
given (control k a) = record { whole = true; memory = none; buffer = for_ack a; command = command_of k; pair = nothing }
given (register_pages k ps a) =
    record { whole = true; memory = none; buffer = for_ack a; command = some (Command.register (registration_in k)); pair = nothing }
given (send q x m) = record { whole = true; memory = some m; buffer = no_buffer; command = none; pair = sends q (request_of x) }
given (receive q x) = record { whole = true; memory = none; buffer = no_buffer; command = none; pair = receives q (receive_in x) }
given (flush q) = record { whole = true; memory = none; buffer = no_buffer; command = none; pair = flushes q }
given (enqueue q x m) = record { whole = true; memory = some m; buffer = no_buffer; command = none; pair = enqueues q (request_of x) }
given (turn m) = record { whole = true; memory = some m; buffer = no_buffer; command = none; pair = turns }
given (poll n b) = record { whole = true; memory = none; buffer = for_completion b; command = none; pair = nothing }

-- the memory lent to a call
abbrev pub memory_of : Call → List ℕ
memory_of k = or_else (given k).memory []

-- ---- what it leaves

-- what can be seen of a call that returned: its answer, the number that it returned beside it, and the state, the memory and the answer buffer
-- that it left
pub record Outcome : Type 0 where
  pub answer : Answer
  -- 02, M-108: "the QP served" by a turn; 0 of any other call
  pub value : ℕ
  pub state : List ℕ
  pub memory : List ℕ
  pub buffer : List ℕ

abbrev pub leaving : Answer → (l' m' b' : List ℕ) → Outcome
leaving r l' m' b' = record { answer = r; value = 0; state = l'; memory = m'; buffer = b' }
