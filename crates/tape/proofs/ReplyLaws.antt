-- What a reply says: how many bytes it uses and writes. Assumes nothing.
use mathlib.Core.Path.{◌≡◌, refl, ap, ◌∙◌}
use mathlib.Core.Bool.{Bool}
use mathlib.Core.List.{List}
use Prim.Native.Nat.{ℕ, ◌+◌, ◌≤◌}
use native.Mathlib.Omega.{arith}
use lib.ListN.{length, length-append, length-drop}
use Rattle.tape.specs.declared.Step.{Step}
use Rattle.tape.specs.declared.Reply.{Reply}
use Rattle.tape.specs.Tape.{step_of, call_at, answer_to}
use Rattle.tape.specs.Pieces.{replied}
use Rattle.tape.specs.Inside.{placed, Leaves}
use Rattle.tape.proofs.BoundLaws.{answer_most}
use Rattle.tape.proofs.StepLaws.{whole_held}

-- an answered record is held, and its answer fits the buffer
pub answered_within : (i : List ℕ) (e : Bool) (l m : List ℕ) {u n : ℕ} → (replied (step_of i e) l m i).reply ≡ Reply.Answered u n → (u ≤ length i) × (n ≤ 135)
answered_within i e l m {u} {n} p = by (step_of i e) refl p
  where
    by : (x : Step) → step_of i e ≡ x → (replied x l m i).reply ≡ Reply.Answered u n → (u ≤ length i) × (n ≤ 135)
    by (Step.Whole r) w p =
        let h : 6 + r.length ≤ length i = (whole_held i e w).1 in
        let a : length (answer_to l (call_at r m i)) ≤ 135 = answer_most l (call_at r m i) in
        let eu : 6 + r.length ≡ u = cc in
        let en : length (answer_to l (call_at r m i)) ≡ n = cc in
        (omega arith, omega arith)
    by Step.Fault w p = absurd cc
    by Step.End w p = absurd cc
    by Step.More w p = absurd cc

-- the buffer keeps its length
placed_length : (b out : List ℕ) → length b ≤ length out → length (placed b out) ≡ length out
placed_length b out h = simp (length-append, length-drop) (omega arith)

bytes_most : (x : Step) (l m i : List ℕ) → length (replied x l m i).bytes ≤ 135
bytes_most (Step.Whole r) l m i = answer_most l (call_at r m i)
bytes_most Step.Fault l m i = omega arith
bytes_most Step.End l m i = omega arith
bytes_most Step.More l m i = omega arith

pub leaves_length : (x : Step) (l m i : List ℕ) {out : List ℕ} {r : Reply} {l' m' out' : List ℕ} → Leaves (replied x l m i) out r l' m' out' → length out ≡ 135
    → length out' ≡ 135
leaves_length x l m i {out} t h =
    let b : length (replied x l m i).bytes ≤ 135 = bytes_most x l m i in
    ap length t.bytes ∙ placed_length (replied x l m i).bytes out (omega arith) ∙ h
