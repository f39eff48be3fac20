-- Demand 3 over the lent state of docs/STATE.md, and what goes with it. Assumes nothing.
use Rattle.std.specs.Prelude.{◌≡◌, Bool, List, ℕ}
use Rattle.validate.specs.Accept.{accepts}
use Rattle.tables.specs.Card.{Card}
use Rattle.tables.specs.State.{card}
use Rattle.rules.specs.Answer.{answer_in, value_in}
use Rattle.rules.specs.Calls.{Meets}
use Rattle.rules.specs.Contract.{Exports}
use Rattle.judge.specs.Demand3.{Seen, heard, OfWork, Every, Demand3, Resumed, Steady, Flushes}
use Rattle.judge.specs.Apart.{Apart}
use Rattle.judge.specs.Count.{Puts, Counted}
use Rattle.judge.specs.Distinct.{Distinct}
use Rattle.judge.specs.Fair.{Fair}
use Rattle.judge.specs.Dropped.{Gone, Fruitless, StaysHeld}

-- The call x met its contract on the state st.
abbrev pub Met : (cardOf : List ℕ → Card) → (accepts : List ℕ → Bool) → (st : List ℕ) → Seen → Type 0
Met cardOf accepts st x = Meets cardOf accepts st x.call x.left

-- It is a call from C of the exported function; its result tells the answer, the status and the value that the judge is fed.
pub record FromC (st : List ℕ) (x : Seen) : Type 0 where
  pub result : ℕ
  pub tells : x.left.answer ≡ answer_in result
  pub names : x.left.value ≡ value_in result
  pub exports : Exports st x.call result x.left.state x.left.memory x.left.buffer

-- What holds of every list of such calls after a reset answered 0: Made is Met card accepts, or FromC.
pub record Whole (Made : (st : List ℕ) → Seen → Type 0) : Type 0 where
  -- each work request is judged right, and each byte of it
  pub judged : Demand3 Made
  -- each receive that is done is flushed or waits, as the log says
  pub receives : Every Made Flushes
  -- no byte outside the regions of the written side's domain changes, and a message comes out of regions of the read side's
  -- domain, but for bytes that the request gives
  pub apart : Every Made (OfWork Apart)
  -- each work request is judged right, and each receive flushed or not, from a state that means a card that a list left, too
  pub resumed : Resumed Made card
  -- no call of the list finds its state unacceptable
  pub steady : Every Made (Steady accepts)
  -- no key is handed out twice
  pub distinct : Every Made (λ st l x. Distinct (heard l x))
  -- the keys of a dropped region stay gone, and a work request that needs one fails as the rules say
  pub gone : Every Made Gone
  pub fruitless : Every Made (Fruitless card)
  pub held : StaysHeld Made
  -- receives add up, where the completions counted are those that the calls put
  pub put : Every Made (Puts card)
  pub counted : Counted Made card
  -- turns are fair
  pub fair : Fair Made card
