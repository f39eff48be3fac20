-- Calls of exported functions, one after the other, are a list of the judge's theorem. Assumes nothing.
use mathlib.Core.Path.{◌≡◌, refl}
use mathlib.Core.List.{List, map}
use mathlib.Core.Option.{some}
use Prim.Native.Nat.{ℕ}
use Rattle.rules.specs.declared.Answer.TheVariants.{Done}
use Rattle.judge.specs.Log.{Log, begins}
use Rattle.judge.specs.Demand3.{Seen, Begins, Linked, Each, OfWork, Judged, state_after, AfterReset}
use Rattle.judge.specs.Whole.{FromC}
use Rattle.judge.proofs.Whole.{exported}
use Rattle.caller.specs.Exchange.{exchange_of, Answered}

module _ (l : List ℕ) (x : Seen) (made : FromC l x) (base : Log) (begin : begins x.call ≡ some base) where
  begun : x.left.answer ≡ Done 0 → Begins FromC x
  begun e = record { before = l; base = base; begin = begin; made = made; done = e }

  judged : (b : Begins FromC x) (xs : List Seen) → Linked FromC x.left.state xs → Each (OfWork Judged) x.left.state b.base xs
  unfolding AfterReset
  judged = exported.judged x

  pub answered : (xs : List Seen) → Linked FromC x.left.state xs → Answered l (exchange_of x) (map exchange_of xs) (state_after x.left.state xs)
  answered xs links =
      record {
        first = x;
        is = refl;
        made = made;
        begins = begun;
        after = λ e. record { calls = xs; exchanges = refl; linked = links; state = refl; judged = judged (begun e) xs links };
      }
