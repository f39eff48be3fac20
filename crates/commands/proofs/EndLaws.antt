-- A call that ends with an outcome, which gives its answer and its ack. Assumes nothing.
use mathlib.Core.Path.{◌≡◌, refl, sym, ap, ◌∙◌}
use mathlib.Core.Bool.{Bool, true, not, ◌&&◌, ◌||◌}
use mathlib.Core.List.{List, []}
use mathlib.Core.Option.{Option, none, some}
use Prim.Native.Nat.{ℕ}
use lib.Dec.{eqb}
use borrow.Author.Tests.{not-true, eqb-true}
use Rattle.wire.specs.Checks.{Check, refusal}
use Rattle.wire.specs.Scan.{all}
use Rattle.wire.proofs.ScanLaws.{and_left, and_right}
use Rattle.validate.specs.Accept.{accepts}
use Rattle.tables.specs.State.{card}
use Rattle.tables.specs.Commands.{encode_ack}
use Rattle.tables.specs.declared.Ack.{Ack}
use Rattle.tables.specs.declared.Ack.TheVariants as ack
use Rattle.rules.proofs.Answers.{first_with}
use Rattle.rules.proofs.Exported.{refused_owes}
use Rattle.rules.proofs.Firm.{refused_answer}
use Rattle.rules.specs.Answer.{answered, refused, outcome_answer}
use Rattle.rules.specs.Call.{Call, memory_of}
use Rattle.rules.specs.Calls.{owed_checks, ack_refused, buffer_refused}
use Rattle.rules.specs.Contract.{Owes}
use Rattle.rules.specs.declared.Answer.{Answer}
use Rattle.rules.specs.declared.Answer.TheVariants as answer
use Rattle.commands.specs.Control.{Ends, outcome_ack}
use Rattle.std.specs.Prelude.{Result, Ok, Err}
use Rattle.tables.specs.Refusal.{refusal_of, refusal_number, is_refusal}
use Rattle.tables.specs.declared.refusal.Refusal.{Refusal}

-- a refusal after 15 and 12 holds nothing and writes the ack byte 1
abbrev pub quiet : ℕ → Bool
quiet n = is_refusal n && not (eqb n 12 || eqb n 15)

-- the call's tests are these, all quiet, once the state and the room for the ack are fine
module _ (l a : List ℕ) (call : Call) (memory : memory_of call ≡ [])
    (buffer : (n : ℕ) → buffer_refused n call ≡ ack_refused n a)
    (tests : List Check) (are : refusal (owed_checks card accepts l call) ≡ refusal tests) (plain : all (λ t. quiet t.no) tests ≡ true) where
  no : (n : ℕ) → refusal tests ≡ some n → Owes l call (refused (refusal_of n)) l [] (encode_ack ack.Error a)
  no n e =
      let z : Bool = not (eqb n 12 || eqb n 15) in
      let w : (is_refusal n && z) ≡ true = first_with quiet tests n plain e in
      let r : refusal_number (refusal_of n) ≡ n = eqb-true (refusal_number (refusal_of n)) n (and_left (is_refusal n) z w) in
      let v : answered 0 (some n) ≡ refused (refusal_of n) = ap (λ (y : ℕ). answered 0 (some y)) (sym r) ∙ refused_answer 0 (refusal_of n) in
      rw (memory, buffer n, v, not-true (eqb n 12 || eqb n 15) (and_right (is_refusal n) z w))
      at (refused_owes l call n (are ∙ e))

  -- p is its outcome, x what the ack tells, r its answer, a' the ack buffer at its end
  pub ended : (said : Ack) (after : List ℕ) → (refusal tests ≡ none → Owes l call (answer.Done 0) after [] (encode_ack said a))
      → (p : Result Ack Refusal) (l' : List ℕ) → Ends tests said l after p l' → (x : Ack) → x ≡ outcome_ack p → (r : Answer) → r ≡ outcome_answer p
      → (a' : List ℕ) → a' ≡ encode_ack x a → Owes l call r l' [] a'
  ended said after done p l' d x ex r er a' ea = go (refusal tests) refl
    where
      go : (m : Option ℕ) → refusal tests ≡ m → Owes l call r l' [] a'
      go none e =
          let eo : p ≡ Ok said = d.outcome ∙ rw e in
          let el : l' ≡ after = d.bytes ∙ rw e in
          rw (ea, er, ex, eo, el) (done e)
      go (some n) e =
          let eo : p ≡ Err (refusal_of n) = d.outcome ∙ rw e in
          let el : l' ≡ l = d.bytes ∙ rw e in
          rw (ea, er, ex, eo, el) (no n e)
