-- Demand 3 over the lent state, of calls that meet their contract and of the exported functions. Assumes nothing.
use mathlib.Core.Path.{◌≡◌, sym, ap, ◌∙◌}
use mathlib.Core.Bool.{true}
use mathlib.Core.List.{List}
use Prim.Native.Nat.{ℕ}
use lib.Dec.{eqb}
use lib.ListN.{length}
use borrow.Author.Tests.{eq-eqb}
use Rattle.validate.specs.Accept.{accepts}
use Rattle.validate.proofs.AcceptedLaws.{accepted}
use Rattle.tables.specs.State.{card}
use Rattle.tables.specs.Layout.{state_size}
use Rattle.rules.specs.Answer.{answer_in, value_in, is_done}
use Rattle.rules.specs.Call.{Outcome}
use Rattle.rules.specs.Calls.{owed, Meets}
use Rattle.rules.proofs.Answers.{code_back}
use Rattle.rules.proofs.Exported.{met}
use Rattle.judge.specs.Demand3.{Seen, heard, Judged, Flushes}
use Rattle.judge.specs.Apart.{Apart}
use Rattle.judge.specs.Count.{Puts}
use Rattle.judge.specs.Distinct.{Distinct}
use Rattle.judge.specs.Dropped.{Gone, Loses, Fruitless}
use Rattle.judge.specs.Whole.{Met, Whole, FromC}
use Rattle.judge.proofs.Run.{still_agrees, of_cards, every, every_work, resumed, steady, flushes}
use Rattle.judge.proofs.Dropped.{fruitless, stays_held}
use Rattle.judge.proofs.Bytes.{judged}
use Rattle.judge.proofs.Apart.{apart}
use Rattle.judge.proofs.Fair.{fair}
use Rattle.judge.proofs.Count.{call_puts_by, counted}

accepted_length : (l : List ℕ) → accepts l ≡ true → eqb (length l) state_size ≡ true
accepted_length l e = eq-eqb (length l) state_size (accepted l e).sized

-- of all lists of calls that meet their contract,
pub of_all : (Made : (st : List ℕ) → Seen → Type 0) → ((st : List ℕ) (x : Seen) → Made st x → Met card accepts st x) → Whole Made
of_all Made met =
    record {
      judged = every_work Made card accepts met Judged judged;
      receives = every Made card accepts met Flushes (flushes card accepts);
      apart = every_work Made card accepts met Apart apart;
      resumed = resumed Made card accepts met;
      steady = steady Made card accepts met accepted_length;
      distinct = every Made card accepts met (λ st l x. Distinct (heard l x)) (λ st l x a h. (still_agrees card accepts st l x a h).keys.distinct);
      gone = every Made card accepts met Gone (λ st l x a h. a.keys.gone);
      fruitless = every Made card accepts met (Fruitless card) (of_cards card accepts Loses fruitless);
      held = stays_held card accepts Made met;
      put = every Made card accepts met (Puts card) (λ st l x a h. call_puts_by st l card accepts x h);
      counted = counted Made card accepts met;
      fair = fair Made card accepts met;
    }

pub whole : Whole (Met card accepts)
whole = of_all (Met card accepts) (λ st x h. h)

-- and of those that the exported functions make
met_from_c : (st : List ℕ) (x : Seen) → FromC st x → Met card accepts st x
met_from_c st x h =
    let t = code_back card accepts st x.call in
    let e : x.left.answer ≡ (owed card accepts st x.call).answer = h.tells ∙ ap answer_in h.exports.code ∙ t.answer in
    let v : x.left.value ≡ (owed card accepts st x.call).value = h.names ∙ ap value_in h.exports.code ∙ t.value in
    go x.left e v (met st x.call h.exports)
  where
    go : (o : Outcome) → o.answer ≡ (owed card accepts st x.call).answer → o.value ≡ (owed card accepts st x.call).value →
        Meets card accepts st x.call
        (record {
          answer = (owed card accepts st x.call).answer;
          value = (owed card accepts st x.call).value;
          state = o.state;
          memory = o.memory;
          buffer = o.buffer;
        }) → Meets card accepts st x.call o
    go o e v m =
        record {
          answer = e;
          value = v;
          card = m.card;
          memory = m.memory;
          buffer = m.buffer;
          kept = λ d. m.kept (ap is_done (sym e) ∙ d);
          sound = λ d. m.sound (ap is_done (sym e) ∙ d);
        }

pub exported : Whole FromC
exported = of_all FromC met_from_c
