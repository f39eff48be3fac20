-- Demand 1: every call "ends with an answer from our numbered table", and what an answer other than 0 leaves. Assumes nothing.
use Rattle.std.specs.Prelude.{◌≡◌, ◌≢◌, true, cond, ◌||◌, List, [], ℕ, ◌%◌, ◌<◌, eqb, set}
use Rattle.rules.specs.Answer.{listed}
use Rattle.rules.specs.Call.{Call, Buffer, given, memory_of}
use Rattle.rules.specs.Contract.{Exports}

-- the ack buffer after a refusal with n: as it was, but for the first byte, which "a control refusal other than 12 and 15" sets to 1
abbrev pub ack_left : (n : ℕ) → (ack : List ℕ) → List ℕ
ack_left n a = cond (eqb n 12 || eqb n 15) a (set a 0 1)

abbrev pub left_by : (n : ℕ) → Buffer → List ℕ
left_by n Buffer.no_buffer = []
left_by n (Buffer.for_ack a) = ack_left n a
left_by n (Buffer.for_completion b) = b

-- the answer buffer after a call answered n, not 0
abbrev pub buffer_left : (n : ℕ) → Call → List ℕ
buffer_left n k = left_by n (given k).buffer

-- a call from C on the state l that returned r, with the answer r % 256, and left the state l', the memory m' and the answer buffer b'
pub record Returns (l : List ℕ) (k : Call) (r : ℕ) (l' m' b' : List ℕ) : Type 0 where
  pub answer : listed (r % 256) ≡ true
  -- a refused or held call has no status, and "changes no memory, no table and no lent byte, but for the one ack byte"
  pub status : r % 256 ≢ 0 → r < 256
  pub state : r % 256 ≢ 0 → l' ≡ l
  pub memory : r % 256 ≢ 0 → m' ≡ memory_of k
  pub buffer : r % 256 ≢ 0 → b' ≡ buffer_left (r % 256) k

-- of every call of the exported functions, on any bytes as its state
unfoldable pub Demand1 : Type 0
Demand1 = (l : List ℕ) (k : Call) (r : ℕ) (l' m' b' : List ℕ) → Exports l k r l' m' b' → Returns l k r l' m' b'
