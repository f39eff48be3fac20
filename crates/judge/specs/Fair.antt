-- Fairness, 02, M-108: "Along demand 3's log, a QP whose head is runnable at each turn is served within 8 turns answered 0, and none gets two turns
-- while such a QP waits." Assumes nothing.
use Rattle.std.specs.Prelude.{◌≡◌, ◌≢◌, Bool, true, false, cond, ◌&&◌, ◌||◌, List, [], ◌∷◌, ℕ, ◌≤◌, ◌<◌, eqb, length, take}
use Rattle.std.proofs.Math.Option.{Option, none, some}
use Rattle.tables.specs.Card.{Card}
use Rattle.tables.specs.Limits.{qp_count}
use Rattle.rules.specs.declared.Answer.{Answer}
use Rattle.rules.specs.declared.Answer.TheVariants.{Done, Held, Refused}
use Rattle.rules.specs.Call.{OnPair, given}
use Rattle.rules.specs.Answer.{is_done}
use Rattle.rules.specs.Lists.{All, is_some}
use Rattle.rules.specs.Turn.{runnable}
use Rattle.judge.specs.Log.{begins}
use Rattle.judge.specs.Demand3.{Seen, Linked, AfterReset, state_after}

-- ---- which queue pairs turns served, in turn

-- the numbers before the first q
unfoldable pub before : (q : ℕ) → List ℕ → List ℕ
before q [] = []
before q (p ∷ ps) = cond (eqb p q) [] (p ∷ before q ps)

unfoldable pub is_among : (q : ℕ) → List ℕ → Bool
is_among q [] = false
is_among q (p ∷ ps) = eqb p q || is_among q ps

-- no number stands twice
unfoldable pub NoneTwice : List ℕ → Type 0
NoneTwice [] = Unit {0}
NoneTwice (p ∷ ps) = All (λ x. x ≢ p) ps × NoneTwice ps

-- what q is owed where the numbers are those of the queue pairs that turns served while q's head was runnable at each of them
pub record FairTo (q : ℕ) (served : List ℕ) : Type 0 where
  -- "is served within 8 turns answered 0"
  pub within : 8 ≤ length served → is_among q (take 8 served) ≡ true
  -- "and none gets two turns while such a QP waits"
  pub once : NoneTwice (before q served)

-- ---- along a list of calls

-- the queue pair that a turn answered 0 served: it is the value that it returned
abbrev pub served_in : OnPair → Answer → (value : ℕ) → Option ℕ
served_in OnPair.turns (Done s) v = some v
served_in OnPair.turns (Held c) v = none
served_in OnPair.turns (Refused n) v = none
served_in OnPair.nothing a v = none
served_in (OnPair.sends q r) a v = none
served_in (OnPair.receives q w) a v = none
served_in (OnPair.flushes q) a v = none
served_in (OnPair.enqueues q r) a v = none

abbrev pub serves : Seen → Option ℕ
serves x = served_in (given x.call).pair x.left.answer x.left.value

abbrev pub more : Option ℕ → List ℕ → List ℕ
more none ps = ps
more (some p) ps = p ∷ ps

unfoldable pub servings : List Seen → List ℕ
servings [] = []
servings (x ∷ xs) = more (serves x) (servings xs)

-- no call of the list begins a new log, and with it a new round of turns
abbrev pub GoesOn : Seen → Type 0
GoesOn x = is_some (begins x.call) && is_done x.left.answer ≡ false

abbrev pub AtServing : Option ℕ → Type 0 → Type 0
AtServing none P = Unit {0}
AtServing (some p) P = P

-- q's head is runnable at each turn that is answered 0; st is the state that the first call is given, and cardOf the card that it means
unfoldable pub Runnable : (cardOf : List ℕ → Card) → (q : ℕ) → (st : List ℕ) → List Seen → Type 0
Runnable cardOf q st [] = Unit {0}
Runnable cardOf q st (x ∷ xs) = AtServing (serves x) (runnable (cardOf st) q ≡ true) × Runnable cardOf q x.left.state xs

-- after any list xs, along any list ys
unfoldable pub Fair : (Made : (st : List ℕ) → Seen → Type 0) → (cardOf : List ℕ → Card) → Type 0
Fair Made cardOf =
    AfterReset Made
    (λ st l xs.
    (ys : List Seen) → Linked Made (state_after st xs) ys → All GoesOn ys →
    (q : ℕ) → q < qp_count → Runnable cardOf q (state_after st xs) ys → FairTo q (servings ys))
