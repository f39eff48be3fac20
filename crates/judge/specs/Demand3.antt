-- Demand 3, over lists of calls. Assumes nothing.
use Rattle.std.specs.Prelude.{◌≡◌, ◌≢◌, Bool, true, false, cond, List, [], ◌∷◌, ℕ, ◌^◌, ◌<◌, eqb, length, get_or}
use Rattle.std.proofs.Math.Option.{Option, none, some}
use Rattle.tables.specs.Card.{Card}
use Rattle.rules.specs.declared.Answer.{Answer}
use Rattle.rules.specs.declared.Answer.TheVariants.{Done, Held, Refused}
use Rattle.rules.specs.Answer.{number}
use Rattle.rules.specs.Call.{Call, OnPair, given, memory_of, Outcome}
use Rattle.rules.specs.Touch.{Byte}
use Rattle.judge.specs.Log.{Log, next_on, begins, fed}
use Rattle.judge.specs.Judge.{errored, flushes_at_once, Party, Right, passes, placed}
use Rattle.judge.specs.Judge.{Work, judge, moves, judged_memory, written_side, Source, sources, value_of}

-- ---- what is claimed of a work request

-- The work request w, after the log l, is done with the status s; the memory is m before it and m' after it.
pub record Correct (l : Log) (w : Work) (s : ℕ) (m m' : List ℕ) : Type 0 where
  -- it succeeds exactly when the judge passes it
  pub verdict : eqb s 0 ≡ judge l w
  -- it is flushed exactly when the log puts its queue pair in error
  pub in_error : eqb s 4 ≡ errored l w.qpn
  -- on success the message bytes are written in turn, with the values before the call; on failure none is
  pub memory : m' ≡ judged_memory l w m
  -- a byte that passes lies in the memory, and its address is below 2^64
  pub inside : (p : Party) (u : Right) (b : Byte) → passes l p u b ≡ true → (placed l b < length m) × (b.address < 2 ^ 64)

-- ---- the same, one byte at a time

-- what stands past the end of a side's bytes; no byte of a message that succeeds does
abbrev pub no_byte : Byte
no_byte = record { address = 0; key = 0 }

-- message byte i as the written side names it, and the memory byte that it is written to
abbrev pub target_byte : Log → Work → (i : ℕ) → Byte
target_byte l w i = get_or (written_side l w).bytes i no_byte

unfoldable pub target : Log → Work → (i : ℕ) → ℕ
target l w i = placed l (target_byte l w i)

-- where it comes from, and the value that its source had before the call
abbrev pub source_at : Log → Work → (i : ℕ) → Source
source_at l w i = get_or (sources l w) i (Source.byte no_byte)

unfoldable pub source : Log → Work → (m : List ℕ) → (i : ℕ) → ℕ
source l w m i = value_of l m (source_at l w i)

-- how many bytes are written
abbrev pub written_length : Log → Work → ℕ
written_length l w = length (written_side l w).bytes

pub record Bytewise (l : Log) (w : Work) (s : ℕ) (m m' : List ℕ) : Type 0 where
  -- "On success each byte written takes the value its source had before the call, the later piece winning,"; 02, M-105: "the
  -- later byte of the message wins, inside one piece too; demand 3 reads so"
  pub written : moves l w ≡ true →
      (i : ℕ) → i < written_length l w → ((j : ℕ) → i < j → j < written_length l w → target l w j ≢ target l w i) →
      get_or m' (target l w i) 0 ≡ source l w m i
  -- "and no other changes;"
  pub others : moves l w ≡ true → (x : ℕ) → ((i : ℕ) → i < written_length l w → target l w i ≢ x) → get_or m' x 0 ≡ get_or m x 0
  -- where the message is not moved none does;
  pub kept : moves l w ≡ false → m' ≡ m
  -- "on failure none does"
  pub failed : s ≢ 0 → m' ≡ m
  pub sized : length m' ≡ length m

-- what demand 3 claims of a work request: all of it at once, and each byte
pub record Judged (l : Log) (w : Work) (s : ℕ) (m m' : List ℕ) : Type 0 where
  pub correct : Correct l w s m m'
  pub bytewise : Bytewise l w s m m'

-- ---- lists of calls

-- a call as it was seen: what it was given, and what it left
pub record Seen : Type 0 where
  pub call : Call
  pub left : Outcome

-- the log after it
abbrev pub heard : Log → Seen → Log
heard l x = fed l x.call x.left.answer x.left.value x.left.buffer

-- what may be claimed of a call: st is the state that it was given, l the log before it
abbrev pub Claim : Type 1
Claim = (st : List ℕ) → (l : Log) → Seen → Type 0

-- P of every call of the list
unfoldable pub Each : Claim → (st : List ℕ) → Log → List Seen → Type 0
Each P st l [] = Unit {0}
Each P st l (x ∷ xs) = P st l x × Each P x.left.state (heard l x) xs

-- the log after a list of calls
unfoldable pub log_after : Log → List Seen → Log
log_after l [] = l
log_after l (x ∷ xs) = log_after (heard l x) xs

-- the state after it
unfoldable pub state_after : List ℕ → List Seen → List ℕ
state_after st [] = st
state_after st (x ∷ xs) = state_after x.left.state xs

-- the work request that a call runs, if it does, seen with the log before it: a post send's; 02, M-108: of a turn, "the turn's own answer names the
-- QP", v, "and by the log its record is the oldest enqueued there .. that no turn has taken"
abbrev pub work_in : Log → (v : ℕ) → OnPair → Option Work
work_in l v OnPair.nothing = none
work_in l v (OnPair.sends q r) = some (record { qpn = q; request = r })
work_in l v (OnPair.receives q w) = none
work_in l v (OnPair.flushes q) = none
work_in l v (OnPair.enqueues q r) = none
work_in l v OnPair.turns = some (record { qpn = v; request = next_on l v })

abbrev pub work_by : Log → Call → Outcome → Option Work
work_by l k o = work_in l o.value (given k).pair

abbrev pub work : Log → Seen → Option Work
work l x = work_by l x.call x.left

-- what may be claimed of a work request: l is the log before it, s its status, m and m' the memory before and after it
abbrev pub WorkClaim : Type 1
WorkClaim = (l : Log) → Work → (s : ℕ) → (m m' : List ℕ) → Type 0

abbrev pub WhenDone : (Work → (s : ℕ) → Type 0) → Option Work → Answer → Type 0
WhenDone P none a = Unit {0}
WhenDone P (some w) (Done s) = P w s
WhenDone P (some w) (Held c) = Unit {0}
WhenDone P (some w) (Refused n) = Unit {0}

-- P of the work request that a call runs, if it is neither refused nor held
abbrev pub OfWork : WorkClaim → Claim
OfWork P st l x = WhenDone (λ w s. P l w s (memory_of x.call) x.left.memory) (work l x) x.left.answer

-- ---- what is claimed of a post receive

-- the queue pair that it is posted on
abbrev pub posted_in : OnPair → Option ℕ
posted_in OnPair.nothing = none
posted_in (OnPair.sends q r) = none
posted_in (OnPair.receives q w) = some q
posted_in (OnPair.flushes q) = none
posted_in (OnPair.enqueues q r) = none
posted_in OnPair.turns = none

abbrev pub posted_on : Call → Option ℕ
posted_on k = posted_in (given k).pair

-- done, it has status 4 where the log puts its queue pair in error and no older receive waits there, else 0
abbrev pub FlushedBy : Log → Option ℕ → Answer → Type 0
FlushedBy l none a = Unit {0}
FlushedBy l (some q) (Done s) = s ≡ cond (flushes_at_once l q) 4 0
FlushedBy l (some q) (Held c) = Unit {0}
FlushedBy l (some q) (Refused n) = Unit {0}

abbrev pub Flushes : Claim
Flushes st l x = FlushedBy l (posted_on x.call) x.left.answer

-- ---- the lists: `Made st x` is what is known of the call x on the state st
module _ (Made : (st : List ℕ) → Seen → Type 0) where
  -- "Each call gets the state the last one left"
  unfoldable pub Linked : (st : List ℕ) → List Seen → Type 0
  Linked st [] = Unit {0}
  Linked st (x ∷ xs) = Made st x × Linked x.left.state xs

  -- a call that begins a log over base: "a reset answered 0, whatever the state held"
  pub record Begins (x : Seen) : Type 0 where
    pub before : List ℕ
    pub base : Log
    pub begin : begins x.call ≡ some base
    pub made : Made before x
    pub done : x.left.answer ≡ Done 0

  -- P of any list of calls after it, with the state and the log that it left. Memory and buffers may be any at each call. A
  -- reset answered 0 within the list begins a new log.
  unfoldable pub AfterReset : ((st : List ℕ) → Log → List Seen → Type 0) → Type 0
  AfterReset P = (x : Seen) → (b : Begins x) → (xs : List Seen) → Linked x.left.state xs → P x.left.state b.base xs

  -- P of each call of the list
  abbrev pub Every : Claim → Type 0
  Every P = AfterReset (Each P)

  -- Demand 3: each work request that is neither refused nor held is judged right, and each byte of it
  abbrev pub Demand3 : Type 0
  Demand3 = Every (OfWork Judged)

  -- a state that means the card that a list left goes on with the list's log; `cardOf` is the card that the lent state means
  abbrev pub Resumed : (cardOf : List ℕ → Card) → Type 0
  Resumed cardOf =
      AfterReset (λ st l xs.
      (st' : List ℕ) → cardOf st' ≡ cardOf (state_after st xs) → (ys : List Seen) → Linked st' ys →
      Each (λ s l' y. OfWork Judged s l' y × Flushes s l' y) st' (log_after l xs) ys)

-- a state of the list is accepted, and no call of it is answered 15; `accepts` is the test of answer 15
abbrev pub Steady : (accepts : List ℕ → Bool) → Claim
Steady accepts st l x = (accepts x.left.state ≡ true) × (eqb (number x.left.answer) 15 ≡ false)
