-- Document 01, "Replay tape (house)": the records of a tape, the answer to each, and the whole output. Assumes nothing.
use Rattle.std.specs.Prelude.{Bool, true, cond, ◌&&◌, ◌||◌, ℕ, zero, suc, ◌+◌, ◌/◌, ◌%◌, eqb, ltb, leb, length, take, drop, Result, Ok, Err}
use mathlib.Core.List.{List, [], ◌∷◌, ◌++◌, flatten}
use Rattle.std.proofs.Math.Option.{Option}
use Rattle.wire.specs.Le.{le_at}
use Rattle.validate.specs.Accept.{accepts}
use Rattle.tables.specs.Card.{Card}
use Rattle.tables.specs.State.{card}
use Rattle.tables.specs.Commands.{Command, ack_size, command_of}
use Rattle.tables.specs.Reset.{zeros, reset_bytes}
use Rattle.rules.specs.Answer.{number, status, is_done}
use Rattle.rules.specs.Call.{Call, Buffer, given}
use Rattle.rules.specs.Calls.{Result as Calls·Result, owed}
use Rattle.rules.specs.Control.{command_ack}
use Rattle.rules.specs.Lists.{maybe}
use Rattle.rules.specs.declared.Answer.{Answer}
use Rattle.rules.specs.declared.Answer.TheVariants.{Done, Held, Refused}
use Rattle.rules.specs.Contract.{bytes_after}
use Rattle.tape.specs.declared.HeaderError.{HeaderError}
use Rattle.tape.specs.declared.Kind.{Kind}
use Rattle.tape.specs.declared.Header.{Header}
use Rattle.tape.specs.declared.Step.{Step}

-- ---- a record: "mark 52 4B, kind .., QP or CQ number byte .., length 16 bits up to 640, body"

abbrev pub header_size : ℕ
header_size = 6

-- "mark 52 4B"
abbrev pub is_mark : List ℕ → Bool
is_mark i = eqb (le_at 1 i 0) 82 && eqb (le_at 1 i 1) 75

-- "kind (1 control, 2 send, 3 receive, 4 poll, 5 flush)"
abbrev pub is_kind : ℕ → Bool
is_kind k = leb 1 k && leb k 5

abbrev pub kind_of : ℕ → Kind
kind_of k =
    cond (eqb k 1) Kind.Control
    (cond (eqb k 2) Kind.Send (cond (eqb k 3) Kind.Receive (cond (eqb k 4) Kind.Poll Kind.Flush)))

abbrev pub kind_in : ℕ → Result Kind HeaderError
kind_in k = cond (is_kind k) (Ok (kind_of k)) (Err HeaderError.Bad)

-- "length 16 bits up to 640"
abbrev pub most_body : ℕ
most_body = 640

-- "A bad .. length (over 640, or not 0 for 4 and 5)"
abbrev pub is_length : Kind → (length : ℕ) → Bool
is_length Kind.Control n = leb n most_body
is_length Kind.Send n = leb n most_body
is_length Kind.Receive n = leb n most_body
is_length Kind.Poll n = eqb n 0
is_length Kind.Flush n = eqb n 0

abbrev pub is_good : List ℕ → Bool
is_good i = is_mark i && is_kind (le_at 1 i 2) && is_length (kind_of (le_at 1 i 2)) (le_at 2 i 4)

abbrev pub header_at : List ℕ → Header
header_at i = record { kind = kind_of (le_at 1 i 2); number = le_at 1 i 3; length = le_at 2 i 4 }

-- what the first bytes of the input hold
unfoldable pub header_of : List ℕ → Result Header HeaderError
header_of i =
    cond (ltb (length i) header_size) (Err HeaderError.Cut)
    (cond (is_good i) (Ok (header_at i)) (Err HeaderError.Bad))

-- ---- what stands at the front of the input, of which the first bytes are held

-- bytes of a record are missing: it is cut where the input has ended, else more bytes are wanted
abbrev pub lacking : (ended : Bool) → Step
lacking ended = cond ended Step.Fault Step.More

-- a header with `held` bytes from its first on
abbrev pub step_by : Result Header HeaderError → (held : ℕ) → (ended : Bool) → Step
step_by (Ok r) held ended = cond (ltb held (header_size + r.length)) (lacking ended) (Step.Whole r)
step_by (Err HeaderError.Bad) held ended = Step.Fault
step_by (Err HeaderError.Cut) held ended = lacking ended

-- a whole record, a fault, a clean end, or too few bytes to tell
unfoldable pub step_of : (held : List ℕ) → (ended : Bool) → Step
step_of held ended = cond (eqb (length held) 0) (cond ended Step.End Step.More) (step_by (header_of held) (length held) ended)

-- ---- the call that a record makes

-- a completion's bytes
abbrev pub completion_size : ℕ
completion_size = 24

-- "lends buffers that never give 12": the longest ack is that of query device
abbrev pub tape_ack : ℕ
tape_ack = 129

-- the number is "ignored for 1"
abbrev pub call_of : Kind → (number : ℕ) → (body memory : List ℕ) → Call
call_of Kind.Control n b m = Call.control b (zeros tape_ack)
call_of Kind.Send n b m = Call.send n b m
call_of Kind.Receive n b m = Call.receive n b
call_of Kind.Poll n b m = Call.poll n (zeros completion_size)
call_of Kind.Flush n b m = Call.flush n

-- the memory after the call k on the state l; of a record's calls only a send is lent it
abbrev pub memory_left : (l m : List ℕ) → Call → List ℕ
memory_left l m k = maybe m (λ n. (owed card accepts l k).memory) (given k).memory

-- ---- its answer: "72 6B, answer, status, length 16 bits, bytes written (ack and its data, or a completion)"

-- a control command writes its ack; one that is refused the ack byte, and none with 12 and 15
abbrev pub ack_written_by : Answer → Card → Option Command → ℕ
ack_written_by (Done s) c o = maybe 1 (λ q. ack_size (command_ack c q)) o
ack_written_by (Held x) c o = 1
ack_written_by (Refused n) c o = cond (eqb n 12 || eqb n 15) 0 1

abbrev pub ack_written : Answer → Card → List ℕ → ℕ
ack_written r c k = ack_written_by r c (command_of k)

abbrev pub written_in : Answer → Card → Option Command → Buffer → ℕ
written_in r c o Buffer.no_buffer = 0
written_in r c o (Buffer.for_ack a) = ack_written_by r c o
written_in r c o (Buffer.for_completion b) = cond (is_done r) completion_size 0

-- how many bytes of its answer buffer a call writes that answers r on the card c
abbrev pub written_by : Answer → Card → Call → ℕ
written_by r c k = written_in r c (given k).command (given k).buffer

abbrev pub answer_head : Answer → (length : ℕ) → List ℕ
answer_head r n = 114 ∷ 107 ∷ number r ∷ status r ∷ n % 256 ∷ n / 256 ∷ []

unfoldable pub answer_record : Answer → List ℕ → List ℕ
answer_record r w = answer_head r (length w) ++ w

-- the answer to the call k on the state l
unfoldable pub answer_to : (l : List ℕ) → Call → List ℕ
answer_to l k =
    let o : Calls·Result = owed card accepts l k in answer_record o.answer (take (written_by o.answer (card l) k) o.buffer)

-- "72 6B 0E 00 00 00"
abbrev pub bad_record : List ℕ
bad_record = 114 ∷ 107 ∷ 14 ∷ 0 ∷ 0 ∷ 0 ∷ []

-- ---- the whole output

-- the call of a whole record at the front of the input
abbrev pub call_at : Header → (m input : List ℕ) → Call
call_at r m i = call_of r.kind r.number (take r.length (drop header_size i)) m

-- The answer records from a step on, where `more` gives those of what comes after its record: "A bad mark, kind or length ..
-- or a cut record gives 72 6B 0E 00 00 00 and ends. Clean end adds nothing." An input that has ended wants no more bytes.
abbrev pub play_by : (more : (l m input : List ℕ) → List (List ℕ)) → Step → (l m input : List ℕ) → List (List ℕ)
play_by more (Step.Whole r) l m i =
    let call : Call = call_at r m i in
    answer_to l call ∷ more (bytes_after l call) (memory_left l m call) (drop (header_size + r.length) i)
play_by more Step.Fault l m i = bad_record ∷ []
play_by more Step.End l m i = []
play_by more Step.More l m i = []

-- at most `records` of them
unfoldable pub play : (records : ℕ) → (l m input : List ℕ) → List (List ℕ)
play zero l m i = []
play (suc n) l m i = play_by (play n) (step_of i true) l m i

-- a tape has fewer records than bytes
abbrev pub played : (l m input : List ℕ) → List (List ℕ)
played l m i = play (length i) l m i

-- the answer records of a tape on a card that is reset to a memory of that many zero bytes
unfoldable pub records : (memory : ℕ) → (input : List ℕ) → List (List ℕ)
records memory i = played (reset_bytes memory) (zeros memory) i

-- 02, M-106: "The program keeps its 4,096 bytes."
abbrev pub tape_memory : ℕ
tape_memory = 4096

-- "starts from a reset with 4,096 zero bytes of memory"
unfoldable pub output : (input : List ℕ) → List ℕ
output i = flatten (records tape_memory i)
