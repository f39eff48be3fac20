-- What a caller of the exported functions knows, in the words of the judge's theorem: its calls in turn on one state are a
-- list of that theorem, and each work request among them is judged right, byte for byte. Assumes nothing.
use Rattle.std.specs.Prelude.{◌≡◌, List, map, ℕ}
use Rattle.rules.specs.Answer.{answer_in, value_in}
use Rattle.rules.specs.Call.{Call}
use Rattle.rules.specs.declared.Answer.{Answer}
use Rattle.rules.specs.declared.Answer.TheVariants.{Done}
use Rattle.judge.specs.Demand3.{Seen, Begins, Linked, Each, OfWork, Judged, state_after}
use Rattle.judge.specs.Whole.{FromC}

-- the call k, which returned r and left the state l', the memory m' and the answer buffer b'
abbrev pub seen : Call → (r : ℕ) → (l' m' b' : List ℕ) → Seen
seen k r l' m' b' =
    record {
      call = k;
      left = record { answer = answer_in r; value = value_in r; state = l'; memory = m'; buffer = b' };
    }

-- the same without the state that it left, which the next call changes: the call and what it gave back
pub record Exchange : Type 0 where
  pub call : Call
  pub answer : Answer
  -- the queue pair that a turn served
  pub value : ℕ
  pub memory : List ℕ
  pub buffer : List ℕ

abbrev pub exchange : Call → (r : ℕ) → (m' b' : List ℕ) → Exchange
exchange k r m' b' = record { call = k; answer = answer_in r; value = value_in r; memory = m'; buffer = b' }

abbrev pub exchange_of : Seen → Exchange
exchange_of x =
    record {
      call = x.call;
      answer = x.left.answer;
      value = x.left.value;
      memory = x.left.memory;
      buffer = x.left.buffer;
    }

-- a list of calls after one that began a log, with these exchanges, which left the state l'
pub record After (x : Seen) (begun : Begins FromC x) (es : List Exchange) (l' : List ℕ) : Type 0 where
  pub calls : List Seen
  pub exchanges : map exchange_of calls ≡ es
  pub linked : Linked FromC x.left.state calls
  pub state : state_after x.left.state calls ≡ l'
  -- each work request among them is judged right, and each byte of it
  pub judged : Each (OfWork Judged) x.left.state begun.base calls

-- Exported functions were called on the state l: first the exchange e, a reset, then the exchanges es, which left the state
-- l'. A reset answered 0 begins a log.
pub record Answered (l : List ℕ) (e : Exchange) (es : List Exchange) (l' : List ℕ) : Type 0 where
  pub first : Seen
  pub is : exchange_of first ≡ e
  pub made : FromC l first
  pub begins : e.answer ≡ Done 0 → Begins FromC first
  pub after : (d : e.answer ≡ Done 0) → After first (begins d) es l'
