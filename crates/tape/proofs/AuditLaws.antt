-- A round of the audit leaves the verdict on what is left of both tapes as it is, however they are cut into pieces. Assumes nothing.
use mathlib.Core.Path.{◌≡◌, refl, sym, ap, ap₂, ◌∙◌}
use mathlib.Core.Bool.{Bool, true, false, cond, ◌||◌}
use mathlib.Core.List.{List, [], ◌∷◌, ◌++◌, flatten, append-nil}
use mathlib.Core.Logic.{◌⊎◌, inl, inr, ⊎_elim}
use Prim.Native.Nat.{ℕ, suc, ◌+◌, ◌-◌, ◌≤◌, ◌<◌}
use native.Mathlib.Nat.{add-zero}
use native.Mathlib.Numerals.{add-one}
use native.Mathlib.Omega.{arith}
use lib.Dec.{eqb, leb}
use lib.ListN.{length, drop, length-append, length-drop}
use borrow.Author.Tests.{leb-true, ne_eqb}
use Rattle.rules.specs.Call.{Call}
use Rattle.rules.specs.Contract.{bytes_after}
use Rattle.tape.specs.declared.Found.{Found}
use Rattle.tape.specs.declared.Header.{Header}
use Rattle.tape.specs.declared.Step.{Step}
use Rattle.tape.specs.Tape.{step_of, call_at, memory_left, answer_to, bad_record, played}
use Rattle.tape.specs.Pieces.{replied, Input, next, past}
use Rattle.tape.specs.Audit.{Verdict, starts, against}
use Rattle.tape.specs.Inside.{closing, Finding, finding_by, finding_of}
use Rattle.tape.proofs.BoundLaws.{answer_most}
use Rattle.tape.proofs.PieceLaws.{content, Lawful, none_left, next_content, past_content, played_known, played_whole}
use Rattle.tape.proofs.StartLaws.{starts_long, starts_further}
use Rattle.tape.proofs.VerdictLaws.{against_same, against_other}

-- ---- enough of the answers is held: all that is left, or a longest record

abbrev Enough : Input → Type 0
Enough a = (a.ended ≡ true) ⊎ (135 ≤ length a.held)

enough : (e : Bool) (n : ℕ) → (e || leb 135 n) ≡ true → (e ≡ true) ⊎ (135 ≤ n)
enough true n h = inl refl
enough false n h = inr (leb-true 135 n h)

module _ (a : Input) (lawful : Lawful a) where
  starts_held : (r : List ℕ) → length r ≤ 135 → Enough a → starts r (content a) ≡ starts r a.held
  starts_held r le =
      ⊎_elim
      (λ e. ap (λ (x : List ℕ). starts r (a.held ++ x)) (none_left a lawful e) ∙ ap (starts r) (append-nil a.held))
      (λ h. starts_further r a.held (flatten a.pieces) (omega arith))

  -- bytes are left behind the first k
  left_held : (k left : ℕ) → left ≡ length a.held - k → k < 135 → Enough a → eqb (length (drop k (content a))) 0 ≡ eqb left 0
  left_held k left s le =
      let n : length (drop k (content a)) ≡ length (content a) - k = length-drop k (content a) in
      let w : length (content a) ≡ length a.held + length (flatten a.pieces) = length-append a.held (flatten a.pieces) in
      ⊎_elim
      (λ e.
      let z : length (flatten a.pieces) ≡ 0 = ap length (none_left a lawful e) in
      let q : length (drop k (content a)) ≡ left = omega arith in
      ap (λ (x : ℕ). eqb x 0) q)
      (λ h. ne_eqb (length (drop k (content a))) 0 (λ z. omega arith) ∙ sym (ne_eqb left 0 (λ z. omega arith)))

-- ---- nothing more is due

against_none : (n : ℕ) (g : List ℕ) → against n [] g ≡ cond (eqb (length g) 0) Verdict.agrees (Verdict.differs n)
unfolding against
against_none n [] = refl
against_none n (b ∷ g) = rw (ne_eqb (length (b ∷ g)) 0 (λ z. omega arith))

-- ---- the verdict on what is left of both tapes, n records in

abbrev pub verdict_from : (n : ℕ) → (l m : List ℕ) → (calls answers : Input) → Verdict
verdict_from n l m c a = against n (played l m (content c)) (content a)

-- after a round that found f
abbrev pub verdict_by : (n : ℕ) → Found → (l m : List ℕ) → (calls answers : Input) → Verdict
verdict_by n Found.Calls l m c a = verdict_from n l m (next c) a
verdict_by n Found.Answers l m c a = verdict_from n l m c (next a)
verdict_by n (Found.Same u w) l m c a = verdict_from (suc n) l m (past u c) (past w a)
verdict_by n Found.Agrees l m c a = Verdict.agrees
verdict_by n (Found.Differs k) l m c a = Verdict.differs (n + k)

module _ (n : ℕ) (l m : List ℕ) (c a : Input) where
  closed : (later : ℕ) (b : Bool) → verdict_by n (cond b Found.Agrees (Found.Differs later)) l m c a ≡ cond b Verdict.agrees (Verdict.differs (n + later))
  closed later true = refl
  closed later false = refl

  -- the answers behind the first k bytes, where n + later is the next number
  closing_against : Lawful a → Enough a → (k later left : ℕ) → left ≡ length a.held - k → k < 135
      → verdict_by n (closing later left) l m c a ≡ against (n + later) [] (drop k (content a))
  closing_against lawful held k later left s le =
      closed later (eqb left 0)
      ∙ ap (λ (b : Bool). cond b Verdict.agrees (Verdict.differs (n + later))) (sym (left_held a lawful k left s le held))
      ∙ sym (against_none (n + later) (drop k (content a)))

-- ---- a round

-- by whether enough of the answers is held and the step on the calls
abbrev verdict_at : (n : ℕ) (l m : List ℕ) (c a : Input) → Bool → Step → Verdict
verdict_at n l m c a b x =
    let y : Finding = finding_by b l m (replied x l m c.held) a.held in verdict_by n y.found y.state y.memory c a

module _ (n : ℕ) (l m : List ℕ) (c a : Input) (lc : Lawful c) (la : Lawful a) where
  -- an answer that the answers held do not start with
  other_at : Enough a → (r : List ℕ) (rs : List (List ℕ)) → length r ≤ 135 → starts r a.held ≡ false
      → Verdict.differs (n + 0) ≡ against n (r ∷ rs) (content a)
  other_at held r rs le h = ap Verdict.differs (add-zero n) ∙ sym (against_other n r rs (content a) (starts_held a la r le held ∙ h))

  same_at : Enough a → (r : List ℕ) (rs : List (List ℕ)) → length r ≤ 135 → starts r a.held ≡ true
      → against (suc n) rs (drop (length r) (content a)) ≡ against n (r ∷ rs) (content a)
  same_at held r rs le h = sym (against_same n r rs (content a) (starts_held a la r le held ∙ h))

  fault_at : Enough a → (b : Bool) → starts bad_record a.held ≡ b
      → verdict_by n (cond b (closing 1 (length a.held - 6)) (Found.Differs 0)) l m c a ≡ against n (bad_record ∷ []) (content a)
  fault_at held true h =
      closing_against n l m c a la held 6 1 (length a.held - 6) refl (omega arith)
      ∙ ap (λ (k : ℕ). against k [] (drop 6 (content a))) (add-one n)
      ∙ same_at held bad_record [] (omega arith) h
  fault_at held false h = other_at held bad_record [] (omega arith) h

  whole_at : Enough a → (x : Header) (b : Bool) → starts (answer_to l (call_at x m c.held)) a.held ≡ b
      → let call = call_at x m c.held in
      verdict_by n (cond b (Found.Same (6 + x.length) (length (answer_to l call))) (Found.Differs 0)) (bytes_after l call) (memory_left l m call) c a
      ≡ against n (answer_to l call ∷ played (bytes_after l call) (memory_left l m call) (content (past (6 + x.length) c))) (content a)
  whole_at held x true h =
      let call : Call = call_at x m c.held in
      let r : List ℕ = answer_to l call in
      ap (against (suc n) (played (bytes_after l call) (memory_left l m call) (content (past (6 + x.length) c))))
      (sym (past_content a (length r) (starts_long r a.held h)))
      ∙ same_at held r (played (bytes_after l call) (memory_left l m call) (content (past (6 + x.length) c))) (answer_most l call) h
  whole_at held x false h =
      let call : Call = call_at x m c.held in
      other_at held (answer_to l call) (played (bytes_after l call) (memory_left l m call) (content (past (6 + x.length) c))) (answer_most l call) h

  step_at_lem : Enough a → (x : Step) → step_of c.held c.ended ≡ x → verdict_at n l m c a true x ≡ verdict_from n l m c a
  step_at_lem held (Step.Whole r) e =
      whole_at held r (starts (answer_to l (call_at r m c.held)) a.held) refl
      ∙ ap (λ (rs : List (List ℕ)). against n rs (content a)) (sym (played_whole l m c lc e))
  step_at_lem held Step.Fault e =
      fault_at held (starts bad_record a.held) refl
      ∙ ap (λ (rs : List (List ℕ)). against n rs (content a)) (sym (played_known l m c lc Step.Fault e refl))
  step_at_lem held Step.End e =
      closing_against n l m c a la held 0 0 (length a.held) (omega arith) (omega arith)
      ∙ ap₂ (λ (j : ℕ) (rs : List (List ℕ)). against j rs (content a)) (add-zero n) (sym (played_known l m c lc Step.End e refl))
  step_at_lem held Step.More e = ap (λ (x : List ℕ). against n (played l m x) (content a)) (next_content c)

  held_at : (b : Bool) → (a.ended || leb 135 (length a.held)) ≡ b
      → verdict_at n l m c a b (step_of c.held c.ended) ≡ verdict_from n l m c a
  held_at true e = step_at_lem (enough a.ended (length a.held) e) (step_of c.held c.ended) refl
  held_at false e = ap (against n (played l m (content c))) (next_content a)

  pub round_keeps : let x = finding_of l m c.held c.ended a.held a.ended in
      verdict_by n x.found x.state x.memory c a ≡ verdict_from n l m c a
  round_keeps = held_at (a.ended || leb 135 (length a.held)) refl
