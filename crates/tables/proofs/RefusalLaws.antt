-- Refusals: what the result of tests tells of them. Assumes nothing.
use mathlib.Core.Path.{◌≡◌, refl, sym, ap, ◌∙◌}
use mathlib.Core.Bool.{Bool, true, false, cond}
use mathlib.Core.List.{List, [], ◌∷◌}
use mathlib.Core.Option.{Option, none, some}
use Prim.Native.Nat.{ℕ}
use borrow.Author.Tests.{eqb-true}
use Rattle.std.specs.Prelude.{Ok, Err}
use Rattle.wire.specs.Checks.{Check, refusal}
use Rattle.wire.specs.Scan.{all}
use Rattle.wire.proofs.ScanLaws.{and_left, and_right}
use Rattle.tables.specs.Refusal.{refusal_number, refusal_of, is_refusal, result_by}
use Rattle.tables.specs.declared.refusal.Refusal.{Refusal}

-- tests that give a value are not met
pub result_ok : {A : Type 0} (o : Option ℕ) (v w : A) → result_by o v ≡ Ok w → (o ≡ none) × (v ≡ w)
result_ok none v w e = (refl, cc)
result_ok (some n) v w e = (cc, cc)

-- tests that each have a refusal's number give a refusal by its number
pub result_err : {A : Type 0} (cs : List Check) → all (λ t. is_refusal t.no) cs ≡ true → (v : A) (r : Refusal) → result_by (refusal cs) v ≡ Err r
    → refusal cs ≡ some (refusal_number r)
unfolding all
result_err [] p v r e = cc
result_err (k ∷ cs) p v r e = go k.bad e (result_err cs (and_right (is_refusal k.no) (all (λ t. is_refusal t.no) cs) p) v r)
  where
    go : (b : Bool) → result_by (cond b (some k.no) (refusal cs)) v ≡ Err r → (result_by (refusal cs) v ≡ Err r → refusal cs ≡ some (refusal_number r))
        → cond b (some k.no) (refusal cs) ≡ some (refusal_number r)
    go true e ih =
        let i : refusal_of k.no ≡ r = cc in
        let n : refusal_number (refusal_of k.no) ≡ k.no = eqb-true (refusal_number (refusal_of k.no)) k.no (and_left (is_refusal k.no) (all (λ t. is_refusal t.no) cs) p) in
        ap (λ (y : ℕ). some y) (sym n ∙ ap refusal_number i)
    go false e ih = ih e
