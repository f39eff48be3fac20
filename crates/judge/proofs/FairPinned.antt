-- Fairness on servings that are written down, 02, M-108: which calls are servings, and lists that fairness to queue pair 1 must not allow. Assumes nothing.
use mathlib.Core.Path.{◌≡◌, refl}
use mathlib.Core.Bool.{false≢true}
use mathlib.Core.List.{[], ◌∷◌}
use Prim.Native.Nat.{ℕ}
use native.Mathlib.Omega.{arith}
use Rattle.rules.specs.declared.Answer.{Answer}
use Rattle.rules.specs.declared.Answer.TheVariants.{Done, Refused}
use Rattle.rules.specs.Call.{Call}
use Rattle.rules.specs.Lists.{All}
use Rattle.judge.specs.Demand3.{Seen}
use Rattle.judge.specs.Fair.{before, is_among, NoneTwice, FairTo, servings}

-- ---- which calls are servings

-- a call that was answered a and returned the value v
abbrev seen : Call → Answer → (v : ℕ) → Seen
seen k a v = record { call = k; left = record { answer = a; value = v; state = []; memory = []; buffer = [] } }

-- turns answered 0, whatever their status; no turn answered 9, and no other call
pub told_by : servings
    (seen (Call.turn []) (Done 0) 3 ∷ seen (Call.turn []) (Refused 9) 0 ∷ seen (Call.flush 2) (Done 0) 0 ∷ seen (Call.turn []) (Done 8) 5 ∷
    seen (Call.enqueue 4 [] []) (Done 0) 0 ∷ seen (Call.turn []) (Done 4) 3 ∷ [])
    ≡ 3 ∷ 5 ∷ 3 ∷ []
unfolding servings
told_by = refl

-- ---- what is not fair to 1

-- another is served twice while 1 waits
pub twice : FairTo 1 (0 ∷ 0 ∷ []) → ⊥
unfolding before NoneTwice All
twice f = f.once.0.0 refl

-- and where others come between
pub twice_apart : FairTo 1 (0 ∷ 2 ∷ 3 ∷ 0 ∷ 1 ∷ []) → ⊥
unfolding before NoneTwice All
twice_apart f = f.once.0.1.1.0 refl

-- 1 is not among eight
pub not_within : FairTo 1 (0 ∷ 2 ∷ 3 ∷ 4 ∷ 5 ∷ 6 ∷ 7 ∷ 8 ∷ 1 ∷ []) → ⊥
unfolding is_among
not_within f = false≢true (f.within (omega arith))

-- ---- what is

-- once 1 was served, others may be served again
pub served_again : FairTo 1 (2 ∷ 1 ∷ 2 ∷ 2 ∷ [])
unfolding before NoneTwice All
served_again = record { within = λ h. absurd (omega arith); once = (tt, tt) }
