-- What a round of the audit finds, from what its reply to the calls left. Assumes nothing.
use mathlib.Core.Path.{◌≡◌, refl, sym, ap, ap₂, subst, ◌∙◌}
use mathlib.Core.Bool.{Bool, true, false, cond, ◌||◌, true≢false}
use mathlib.Core.List.{List}
use Prim.Native.Nat.{ℕ, ◌+◌, ◌-◌, ◌≤◌, ◌<◌}
use native.Mathlib.Omega.{arith}
use lib.Dec.{eqb, leb}
use lib.ListN.{length, take, drop}
use lib.Seq.{take-append_seam}
use borrow.Author.Tests.{leb-false}
use Rattle.tape.specs.declared.Found.{Found}
use Rattle.tape.specs.declared.Header.{Header}
use Rattle.tape.specs.declared.Step.{Step}
use Rattle.tape.specs.declared.Reply.{Reply}
use Rattle.tape.specs.Tape.{step_of, call_at, answer_to, bad_record}
use Rattle.tape.specs.Pieces.{Left, replied}
use Rattle.tape.specs.Audit.{starts}
use Rattle.tape.specs.Inside.{placed, Leaves, closing, found_by, finding_by, finding_of, Finds}
use Rattle.tape.proofs.StepLaws.{whole_held, more_wanting}
use Rattle.tape.proofs.StartLaws.{starts_long}

-- the record that the reply wrote
written : (b out out' : List ℕ) → out' ≡ placed b out → take (length b) out' ≡ b
written b out out' e = ap (take (length b)) e ∙ take-append_seam b (drop (length b) out)

finds : (l m : List ℕ) (t : Left) {out : List ℕ} {r : Reply} {l' m' out' : List ℕ} → Leaves t out r l' m' out' → (g : List ℕ) (q : Found)
    → q ≡ found_by t.reply t.bytes g → Finds (finding_by true l m t g) q l' m'
finds l m t a g q e = record { found = e; state = a.state; memory = a.memory }

module _ {out : List ℕ} {r : Reply} {l' m' out' : List ℕ} (g : List ℕ) (q : Found) where
  pub found_answered : (x : Step) (l m i : List ℕ) → Leaves (replied x l m i) out r l' m' out' → {u w : ℕ} → r ≡ Reply.Answered u w
      → q ≡ cond (starts (take w out') g) (Found.Same u w) (Found.Differs 0) → Finds (finding_by true l m (replied x l m i) g) q l' m'
  found_answered (Step.Whole x) l m i t {u} {w} e p =
      let b : List ℕ = answer_to l (call_at x m i) in
      let says : r ≡ Reply.Answered (6 + x.length) (length b) = t.says in
      let eu : u ≡ 6 + x.length = cc in
      let ew : w ≡ length b = cc in
      let f : take w out' ≡ b = ap (λ (j : ℕ). take j out') ew ∙ written b out out' t.bytes in
      finds l m (replied (Step.Whole x) l m i) t g q
      (p ∙ ap (λ (y : List ℕ). cond (starts y g) (Found.Same u w) (Found.Differs 0)) f
      ∙ ap₂ (λ (y z : ℕ). cond (starts b g) (Found.Same y z) (Found.Differs 0)) eu ew)
  found_answered Step.Fault l m i t e p = absurd (let says : r ≡ Reply.Fault = t.says in cc)
  found_answered Step.End l m i t e p = absurd (let says : r ≡ Reply.End = t.says in cc)
  found_answered Step.More l m i t e p = absurd (let says : r ≡ Reply.More = t.says in cc)

  pub found_fault : (x : Step) (l m i : List ℕ) → Leaves (replied x l m i) out r l' m' out' → r ≡ Reply.Fault
      → q ≡ cond (starts (take 6 out') g) (closing 1 (length g - 6)) (Found.Differs 0)
      → Finds (finding_by true l m (replied x l m i) g) q l' m'
  found_fault (Step.Whole x) l m i t e p =
      absurd (let says : r ≡ Reply.Answered (6 + x.length) (length (answer_to l (call_at x m i))) = t.says in cc)
  found_fault Step.Fault l m i t e p =
      finds l m (replied Step.Fault l m i) t g q
      (p ∙ ap (λ (y : List ℕ). cond (starts y g) (closing 1 (length g - 6)) (Found.Differs 0)) (written bad_record out out' t.bytes))
  found_fault Step.End l m i t e p = absurd (let says : r ≡ Reply.End = t.says in cc)
  found_fault Step.More l m i t e p = absurd (let says : r ≡ Reply.More = t.says in cc)

  pub found_end : (x : Step) (l m i : List ℕ) → Leaves (replied x l m i) out r l' m' out' → r ≡ Reply.End → q ≡ closing 0 (length g)
      → Finds (finding_by true l m (replied x l m i) g) q l' m'
  found_end x l m i t e p = finds l m (replied x l m i) t g q (p ∙ ap (λ (y : Reply). found_by y (replied x l m i).bytes g) (sym e ∙ t.says))

  pub found_more : (x : Step) (l m i : List ℕ) → Leaves (replied x l m i) out r l' m' out' → r ≡ Reply.More → q ≡ Found.Calls
      → Finds (finding_by true l m (replied x l m i) g) q l' m'
  found_more x l m i t e p = finds l m (replied x l m i) t g q (p ∙ ap (λ (y : Reply). found_by y (replied x l m i).bytes g) (sym e ∙ t.says))

-- ---- bytes used are among those held; bytes are wanted of a tape that has not ended, where fewer than a longest record are held

abbrev pub Within : Found → (calls : List ℕ) → (ended_calls : Bool) → (answers : List ℕ) → (ended_answers : Bool) → Type 0
Within Found.Calls i e g f = (length i < 646) × (e ≡ false)
Within Found.Answers i e g f = (length g < 135) × (f ≡ false)
Within (Found.Same u w) i e g f = (u ≤ length i) × (w ≤ length g) × (6 ≤ u)
Within Found.Agrees i e g f = Unit {0}
Within (Found.Differs k) i e g f = k ≤ 1

-- the answers held are fewer than a longest record
few : (f : Bool) (n : ℕ) → (f || leb 135 n) ≡ false → (n < 135) × (f ≡ false)
few true n h = absurd (true≢false h)
few false n h = (let a = leb-false 135 n h in omega arith, refl)

module _ (l m i : List ℕ) (e : Bool) (g : List ℕ) (f : Bool) where
  closing_within : (b : Bool) (k : ℕ) → k ≤ 1 → Within (cond b Found.Agrees (Found.Differs k)) i e g f
  closing_within true k h = tt
  closing_within false k h = h

  whole_within : {r : Header} → step_of i e ≡ Step.Whole r → (b : Bool) → starts (answer_to l (call_at r m i)) g ≡ b
      → Within (cond b (Found.Same (6 + r.length) (length (answer_to l (call_at r m i)))) (Found.Differs 0)) i e g f
  whole_within {r} p true h = ((whole_held i e p).1, starts_long (answer_to l (call_at r m i)) g h, omega arith)
  whole_within p false h = omega arith

  fault_within : (b : Bool) → Within (cond b (closing 1 (length g - 6)) (Found.Differs 0)) i e g f
  fault_within true = closing_within (eqb (length g - 6) 0) 1 (omega arith)
  fault_within false = omega arith

  step_within : (x : Step) → step_of i e ≡ x → Within (finding_by true l m (replied x l m i) g).found i e g f
  step_within (Step.Whole r) p = whole_within p (starts (answer_to l (call_at r m i)) g) refl
  step_within Step.Fault p = fault_within (starts bad_record g)
  step_within Step.End p = closing_within (eqb (length g) 0) 0 (omega arith)
  step_within Step.More p = ((more_wanting i e p).0, (more_wanting i e p).1)

  held_within : (b : Bool) → (f || leb 135 (length g)) ≡ b → Within (finding_by b l m (replied (step_of i e) l m i) g).found i e g f
  held_within true h = step_within (step_of i e) refl
  held_within false h = few f (length g) h

  pub found_within : {r : Found} {l' m' : List ℕ} → Finds (finding_of l m i e g f) r l' m' → Within r i e g f
  found_within x = subst (λ (y : Found). Within y i e g f) (sym x.found) (held_within (f || leb 135 (length g)) refl)
