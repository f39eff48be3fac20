-- Lists of calls with the outcomes that the exported functions' promises name, each call on the state that the last one left;
-- what they show a caller, and what the judge says of them. Assumes nothing.
use Rattle.std.specs.Prelude.{◌≡◌, Bool, not, List, [], ◌∷◌, map, ℕ, ◌+◌, ◌*◌}
use Rattle.std.proofs.Math.Option.{Option, none, some}
use Rattle.validate.specs.Accept.{accepts}
use Rattle.tables.specs.State.{card}
use Rattle.rules.specs.Answer.{code_of}
use Rattle.rules.specs.Call.{Call, given}
use Rattle.rules.specs.Calls.{owed}
use Rattle.rules.specs.Contract.{bytes_after}
use Rattle.rules.specs.declared.Answer.{Answer}
use Rattle.rules.specs.declared.Answer.TheVariants.{Done, Held, Refused}
use Rattle.judge.specs.Log.{Log, fed}
use Rattle.judge.specs.Judge.{Work, judge, flushes_at_once}
use Rattle.judge.specs.Demand3.{Seen, Begins, Linked, Each, OfWork, Judged, Flushes, work_in, posted_on}
use Rattle.judge.specs.Whole.{FromC}
use Rattle.caller.specs.Exchange.{seen, Exchange, exchange_of}

-- the call k on the state l, with the outcome that the promise of the exported function names
abbrev pub made : (l : List ℕ) → Call → Seen
made l k =
    let o = owed card accepts l k in
    seen k (code_of o.answer + 65536 * o.value) (bytes_after l k) o.memory o.buffer

unfoldable pub made_all : (l : List ℕ) → List Call → List Seen
made_all l [] = []
made_all l (k ∷ ks) = made l k ∷ made_all (bytes_after l k) ks

-- Every list of calls, on any state, is one that exported functions can make: no promise of theirs is one that nothing keeps.
abbrev pub Lists : Type 0
Lists = (l : List ℕ) (ks : List Call) → Linked FromC l (made_all l ks)

-- ---- what a run shows

-- a line of a run: a call, its answer, the queue pair that it served if it is a turn, the memory after it, and the judge's
-- verdict on the work request that it ran, or on the receive that it posted, whether it waits
pub record Line : Type 0 where
  pub call : Call
  pub answer : Answer
  pub value : ℕ
  pub memory : List ℕ
  pub verdict : Option Bool

-- by the work request and the queue pair that demand 3 finds in the call
abbrev pub verdict_by : Log → Option Work → (posted : Option ℕ) → Answer → Option Bool
verdict_by l (some w) o (Done s) = some (judge l w)
verdict_by l (some w) o (Held c) = none
verdict_by l (some w) o (Refused n) = none
verdict_by l none (some q) (Done s) = some (not (flushes_at_once l q))
verdict_by l none (some q) (Held c) = none
verdict_by l none (some q) (Refused n) = none
verdict_by l none none a = none

abbrev pub verdict_on : Log → Exchange → Option Bool
verdict_on l e = verdict_by l (work_in l e.value (given e.call).pair) (posted_on e.call) e.answer

-- the lines of calls after the log l
unfoldable pub lines : Log → List Exchange → List Line
lines l [] = []
lines l (e ∷ es) =
    record { call = e.call; answer = e.answer; value = e.value; memory = e.memory; verdict = verdict_on l e } ∷
    lines (fed l e.call e.answer e.value e.buffer) es

-- The reset `first` and the calls after it are a list of the judge's theorem, each of whose work requests and receives is
-- judged right, and these are its lines.
pub record Shown (first : Seen) (calls : List Seen) (ls : List Line) : Type 0 where
  pub begins : Begins FromC first
  pub linked : Linked FromC first.left.state calls
  pub judged : Each (OfWork Judged) first.left.state begins.base calls
  pub receives : Each Flushes first.left.state begins.base calls
  pub shows : lines begins.base (map exchange_of calls) ≡ ls
