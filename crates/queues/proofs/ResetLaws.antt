-- The cases of a reset. Assumes nothing.
use mathlib.Core.Path.{◌≡◌, refl, ◌∙◌}
use mathlib.Core.Bool.{cond, not, true, false}
use mathlib.Core.List.{List, []}
use mathlib.Core.Option.{none, some}
use Prim.Native.Nat.{ℕ, ◌≤◌}
use lib.ListN.{length}
use lib.Dec.{eqb, leb}
use borrow.Author.Tests.{eq-eqb, ne_eqb, leb-true}
use Rattle.wire.proofs.ScanLaws.{and_left, and_right}
use Rattle.wire.specs.Checks.{refusal}
use Rattle.tables.specs.Layout.{state_size}
use Rattle.tables.specs.Limits.{most_memory}
use Rattle.tables.specs.Reset.{reset_bytes}
use Rattle.tables.specs.State.{card}
use Rattle.tables.proofs.ResetLaws.{reset_card}
use Rattle.validate.specs.Accept.{accepts, memory_ok}
use Rattle.validate.proofs.ResetLaws.{reset_accepted}
use Rattle.rules.specs.Bytes.{effect_bytes}
use Rattle.rules.specs.Call.{Call}
use Rattle.rules.specs.Calls.{owed_checks, checks, reset_checks, status_of, effect, memory_after, buffer_after}
use Rattle.rules.specs.Contract.{Owes}
use Rattle.rules.specs.declared.Answer.TheVariants.{Done, Refused}
use Rattle.rules.proofs.Exported.{refused_owes, done_owes}

module _ (l : List ℕ) (n : ℕ) where
  abbrev k : Call
  k = Call.reset n

  order : refusal (owed_checks card accepts l k) ≡ cond (not (eqb (length l) state_size)) (some 15) (cond (not (memory_ok n)) (some 11) none)
  unfolding checks reset_checks
  order = refl

  pub reset_15 : (length l ≡ state_size → ⊥) → Owes l k (Refused 15) l [] []
  reset_15 e = refused_owes l k 15 (order ∙ rw (ne_eqb (length l) state_size e))

  module _ (sized : length l ≡ state_size) where
    pub reset_range : memory_ok n ≡ false → Owes l k (Refused 11) l [] []
    reset_range e = refused_owes l k 11 (order ∙ rw (eq-eqb (length l) state_size sized, e))

    pub reset_done : memory_ok n ≡ true → (l' : List ℕ) → l' ≡ reset_bytes n → Owes l k (Done 0) l' [] []
    unfolding status_of memory_after buffer_after effect effect_bytes
    reset_done e l' s =
        let least : 1 ≤ n = leb-true 1 n (and_left (leb 1 n) _ e) in
        let most : n ≤ most_memory = leb-true n most_memory (and_right (leb 1 n) _ e) in
        done_owes l k refl (order ∙ rw (eq-eqb (length l) state_size sized, e)) (reset_card n least most) (reset_accepted n least most) l' s
