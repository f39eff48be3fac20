-- What a chain over the numbers below n answers. Assumes nothing.
use Rattle.std.proofs.Common.{◌≡◌, ℕ, ◌<◌, Bool, true, false, List, get_or, sym, subst, arith}
use denote.Param.Members.{Mut}
use Rattle.std.specs.Prelude.{Option, MatchOption, length}
use Rattle.std.specs.declared.ops.Range.{Range}
use Rattle.std.specs.Bool.{MatchBool}
use Rattle.std.specs.Fn.{Called}
use Rattle.std.specs.Iterator.{YieldsThen}
use Rattle.std.specs.List.{FoldsTo, AllWithin, HoldsAt, range_with_len}
use Rattle.std.proofs.iter.Yields.{nat_range_steps}
use Rattle.std.proofs.lemmas.Iterator.{cases_from_all, YieldsList-from_range}
use Rattle.std.proofs.lemmas.List.FromFn.{length-range_with_len, get_or-range_with_len}
use Rattle.wire.specs.Scan.{all_below}
use Rattle.wire.proofs.ScanLaws.{all_each, all_fails}

module _ {F : Type 0} {g : Mut F (ℕ × Unit {0}) Bool} {s : Range ℕ} (n : ℕ) (p : ℕ → Bool) (u : Range ℕ) (f : F) (r : Bool) where
  -- all of them pass
  pub all_of : s ≡ record { start = 0; end = n }
      → (xs : List ℕ) × (o : Option ℕ) × (j : F) × YieldsThen nat_range_steps s xs o u × FoldsTo (λ p x q. Called g p (x, tt) true q) f xs j × MatchOption o (r ≡ true) (λ x. (r ≡ false) × ((h : F) × Called g j (x, tt) false h))
      → ((x : ℕ) (b : Bool) (q : F) → Called g f (x, tt) b q → (q ≡ f) × (x < n → b ≡ p x)) → r ≡ all_below n p
  all_of e ran k =
      by r
      (cases_from_all u f r (λ x. x < n → p x ≡ true) (λ x. x < n → p x ≡ false) ran (YieldsList-from_range 0 n n e (omega arith))
      (λ x q c. let h = k x true q c in (h.0, λ b. sym (h.1 b)))
      (λ x q c b. sym ((k x false q c).1 b)))
    where
      ns : List ℕ
      ns = range_with_len 0 n

      at : (k d : ℕ) → k < n → get_or ns k d ≡ k
      at k d b = omega (arith, get_or-range_with_len 0 n k d b)

      by : (b : Bool) → MatchBool b (AllWithin (λ x. x < n → p x ≡ true) ns 0 (length ns)) ((k : ℕ) × (k < length ns) × HoldsAt (λ x. x < n → p x ≡ false) ns k) → b ≡ all_below n p
      by true h = sym (all_each n p (λ k b. subst (λ x. x < n → p x ≡ true) (at k 0 b) (h k 0 (omega arith) (omega (arith, length-range_with_len 0 n))) b))
      by false h =
          let b : h.0 < n = omega (arith, h.1, length-range_with_len 0 n) in
          sym (all_fails n p h.0 b (subst (λ x. x < n → p x ≡ false) (at h.0 0 b) (h.2 0) b))
