-- The calls that exported functions make are a list of the judge's theorem, and what they show is what the rules do on the card. Assumes
-- nothing.
use mathlib.Core.Path.{◌≡◌, refl, ap, ap₂, ◌∙◌}
use mathlib.Core.Bool.{Bool, true, false, cond}
use mathlib.Core.List.{List, [], ◌∷◌, map}
use mathlib.Core.Option.{some}
use Prim.Native.Nat.{ℕ, ◌+◌, ◌*◌}
use lib.Dec.{eqb}
use lib.ListN.{length}
use borrow.Author.Tests.{eq-eqb}
use Rattle.tables.specs.Card.{Card}
use Rattle.tables.specs.Layout.{state_size}
use Rattle.tables.specs.State.{card}
use Rattle.validate.specs.Accept.{accepts}
use Rattle.validate.proofs.AcceptedLaws.{accepted}
use Rattle.rules.specs.Answer.{code_of, is_done}
use Rattle.rules.specs.Call.{Call, given}
use Rattle.rules.specs.Calls.{Result, owed, usable, settled, step}
use Rattle.rules.specs.Contract.{bytes_after}
use Rattle.rules.specs.declared.Answer.{Answer}
use Rattle.rules.specs.declared.Answer.TheVariants.{Done}
use Rattle.rules.proofs.Answers.{owed_is, code_back}
use Rattle.judge.specs.Log.{Log}
use Rattle.judge.specs.Demand3.{heard, Each, Linked, Steady}
use Rattle.judge.specs.Whole.{FromC}
use Rattle.caller.specs.Exchange.{Exchange, exchange_of}
use Rattle.caller.specs.Made.{made, made_all, Lists}
use Rattle.caller.proofs.EveryCall.{exports}

pub made_from_c : (l : List ℕ) (k : Call) → FromC l (made l k)
made_from_c l k =
    let o = owed card accepts l k in
    record { result = code_of o.answer + 65536 * o.value; tells = refl; names = refl; exports = exports l k }

pub all_linked : Lists
unfolding Linked made_all
all_linked l [] = tt
all_linked l (k ∷ ks) = (made_from_c l k, all_linked (bytes_after l k) ks)

-- ---- on a state that a call can use it does what it does on the card

step_is : (l : List ℕ) (k : Call) → usable card accepts l k ≡ true → owed card accepts l k ≡ step (card l) k
step_is l k e = owed_is card accepts l k ∙ ap (λ (b : Bool). cond b (step (card l) k) (settled (some 15) (card l) k)) e

accepted_usable : (l : List ℕ) (k : Call) → accepts l ≡ true → usable card accepts l k ≡ true
accepted_usable l k e = go (given k).whole
  where
    go : (b : Bool) → cond b (accepts l) (eqb (length l) state_size) ≡ true
    go true = e
    go false = eq-eqb (length l) state_size (accepted l e).sized

-- ---- the exchanges of calls on the card c

abbrev exchange_by : Call → Result → Exchange
exchange_by k r = record { call = k; answer = r.answer; value = r.value; memory = r.memory; buffer = r.buffer }

unfoldable pub exchanges : Card → List Call → List Exchange
exchanges c [] = []
exchanges c (k ∷ ks) = let r = step c k in exchange_by k r ∷ exchanges r.card ks

module _ (l : List ℕ) (c : Card) (means : card l ≡ c) (k : Call) (ok : accepts l ≡ true) where
  step_on : owed card accepts l k ≡ step c k
  step_on = step_is l k (accepted_usable l k ok) ∙ ap (λ (x : Card). step x k) means

  exchange_is : exchange_of (made l k) ≡ exchange_by k (step c k)
  exchange_is =
      let o = owed card accepts l k in
      let t = code_back card accepts l k in
      ap₂ (λ (a : Answer) (v : ℕ). record { call = k; answer = a; value = v; memory = o.memory; buffer = o.buffer }) t.answer t.value ∙
      ap (exchange_by k) step_on

  next_means : card (bytes_after l k) ≡ (step c k).card
  next_means = (exports l k).tables ∙ ap (λ (r : Result). r.card) step_on

pub exchanges_are : (l : List ℕ) (c : Card) (ks : List Call) (g : Log) → card l ≡ c → accepts l ≡ true → Each (Steady accepts) l g (made_all l ks)
    → map exchange_of (made_all l ks) ≡ exchanges c ks
unfolding Each made_all exchanges
exchanges_are l c [] g m ok s = refl
exchanges_are l c (k ∷ ks) g m ok s =
    ap₂ (λ (x : Exchange) (xs : List Exchange). x ∷ xs) (exchange_is l c m k ok)
    (exchanges_are (bytes_after l k) (step c k).card ks (heard g (made l k)) (next_means l c m k ok) s.0.0 s.1)

-- ---- a reset over n bytes, on any state that has its length

module _ (l : List ℕ) (sized : length l ≡ state_size) (n : ℕ) (fits : (step (card l) (Call.reset n)).answer ≡ Done 0) where
  reset_is : owed card accepts l (Call.reset n) ≡ step (card l) (Call.reset n)
  reset_is = step_is l (Call.reset n) (eq-eqb (length l) state_size sized)

  owed_done : (owed card accepts l (Call.reset n)).answer ≡ Done 0
  owed_done = ap (λ (r : Result). r.answer) reset_is ∙ fits

  pub reset_answered : (made l (Call.reset n)).left.answer ≡ Done 0
  reset_answered = (code_back card accepts l (Call.reset n)).answer ∙ owed_done

  pub reset_means : card (bytes_after l (Call.reset n)) ≡ (step (card l) (Call.reset n)).card
  reset_means = (exports l (Call.reset n)).tables ∙ ap (λ (r : Result). r.card) reset_is

  pub reset_accepted : accepts (bytes_after l (Call.reset n)) ≡ true
  reset_accepted = (exports l (Call.reset n)).sound (ap is_done owed_done)
