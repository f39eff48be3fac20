-- A call meets its contract: one that is refused or held by one law, one that is done by what is left to show of it. Assumes nothing.
use mathlib.Core.Path.{◌≡◌, refl, sym, ◌∙◌}
use mathlib.Core.Bool.{Bool, true, false, true≢false}
use mathlib.Core.List.{List}
use mathlib.Core.Option.{none, some}
use Prim.Native.Nat.{ℕ}
use Rattle.wire.specs.Checks.{refusal}
use Rattle.tables.specs.Card.{Card}
use Rattle.rules.specs.declared.Answer.TheVariants.{Done}
use Rattle.rules.specs.Answer.{answered}
use Rattle.rules.specs.Call.{Call, OnPair, Outcome, given, memory_of, leaving}
use Rattle.rules.specs.Calls.{owed_checks, status_of, value_of, effect, memory_after, buffer_after, buffer_refused, Meets}
use Rattle.rules.proofs.Answers.{answered_not_done}

-- what the call k on the card c leaves when it is done, with the state l'
abbrev pub doing : Card → Call → (l' : List ℕ) → Outcome
doing c k l' = record { answer = Done (status_of c k); value = value_of c k; state = l'; memory = memory_after c k; buffer = buffer_after c k }

-- a call that runs no queued request returns nothing beside its answer
abbrev pub is_turn : OnPair → Bool
is_turn OnPair.nothing = false
is_turn (OnPair.sends q r) = false
is_turn (OnPair.receives q w) = false
is_turn (OnPair.flushes q) = false
is_turn (OnPair.enqueues q r) = false
is_turn OnPair.turns = true

pub no_value : (c : Card) (k : Call) → is_turn (given k).pair ≡ false → value_of c k ≡ 0
unfolding value_of
no_value c (Call.reset n) e = refl
no_value c (Call.control k a) e = refl
no_value c (Call.register_pages k ps a) e = refl
no_value c (Call.send q x m) e = refl
no_value c (Call.receive q x) e = refl
no_value c (Call.flush q) e = refl
no_value c (Call.enqueue q x m) e = refl
no_value c (Call.turn m) e = absurd (true≢false e)
no_value c (Call.poll n b) e = refl

module _ (cardOf : List ℕ → Card) (accepts : List ℕ → Bool) (l : List ℕ) (k : Call) where
  pub refused_meets : (n : ℕ) → refusal (owed_checks cardOf accepts l k) ≡ some n →
      Meets cardOf accepts l k (leaving (answered 0 (some n)) l (memory_of k) (buffer_refused n k))
  refused_meets n e =
      record {
        answer = rw e;
        value = rw e;
        card = rw e;
        memory = rw e;
        buffer = rw e;
        kept = λ d. refl;
        sound = λ d. absurd (true≢false (sym d ∙ answered_not_done n));
      }

  pub done_meets : refusal (owed_checks cardOf accepts l k) ≡ none → (l' : List ℕ) → cardOf l' ≡ effect (cardOf l) k → accepts l' ≡ true →
      Meets cardOf accepts l k (doing (cardOf l) k l')
  done_meets e l' c s =
      record { answer = rw e; value = rw e; card = rw e c; memory = rw e; buffer = rw e; kept = λ d. absurd (true≢false d); sound = λ d. s }
