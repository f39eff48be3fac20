-- However the input is cut into pieces, the program writes the answer records of the whole tape. Assumes nothing.
use mathlib.Core.Path.{◌≡◌, refl, sym, ap, ap₂, ◌∙◌}
use mathlib.Core.Bool.{Bool, true, false, cond, true≢false}
use mathlib.Core.List.{List, [], ◌∷◌, ◌++◌, flatten, append_assoc}
use Prim.Native.Nat.{ℕ, zero, suc, ◌+◌, ◌≤◌}
use native.Mathlib.Omega.{arith}
use lib.ListN.{length, take, drop, length-drop, length-append}
use lib.Seq.{take-append-le, drop-append-le}
use Rattle.rules.specs.Call.{Call}
use Rattle.rules.specs.Contract.{bytes_after}
use Rattle.tape.specs.declared.Header.{Header}
use Rattle.tape.specs.declared.Step.{Step}
use Rattle.tape.specs.Tape.{step_of, call_of, call_at, memory_left, answer_to, play_by, play, played, records}
use Rattle.tape.specs.Pieces.{Input, unread, read_by, next, past, run_by, run, HoweverCut}
use Rattle.tape.proofs.StepLaws.{is_more, whole_held, more_wanting, step_kept}

-- ---- the answer records do not depend on the bound on their number, where it is at least the input's length

by_same : (f g : (l m i : List ℕ) → List (List ℕ)) (x : Step) (l m i : List ℕ)
    → ((l m : List ℕ) (s : ℕ) → f l m (drop (6 + s) i) ≡ g l m (drop (6 + s) i)) → play_by f x l m i ≡ play_by g x l m i
by_same f g (Step.Whole r) l m i e =
    let call : Call = call_at r m i in
    ap (λ (x : List (List ℕ)). answer_to l call ∷ x) (e (bytes_after l call) (memory_left l m call) r.length)
by_same f g Step.Fault l m i e = refl
by_same f g Step.End l m i e = refl
by_same f g Step.More l m i e = refl

enough : (n n' : ℕ) (l m i : List ℕ) → length i ≤ n → length i ≤ n' → play n l m i ≡ play n' l m i
unfolding play step_of
enough zero zero l m i h h' = refl
enough zero (suc n') l m [] h h' = refl
enough zero (suc n') l m (b ∷ i) h h' = absurd (omega arith)
enough (suc n) zero l m [] h h' = refl
enough (suc n) zero l m (b ∷ i) h h' = absurd (omega arith)
enough (suc n) (suc n') l m i h h' =
    by_same (play n) (play n') (step_of i true) l m i
    (λ l m s. enough n n' l m (drop (6 + s) i) (simp length-drop (omega arith)) (simp length-drop (omega arith)))

-- the answer records from each step on
pub played_step : (l m i : List ℕ) → played l m i ≡ play_by played (step_of i true) l m i
unfolding play step_of
played_step l m [] = refl
played_step l m (b ∷ i) =
    by_same (play (length i)) played (step_of (b ∷ i) true) l m (b ∷ i)
    (λ l m s. enough (length i) (length (drop (6 + s) (b ∷ i))) l m (drop (6 + s) (b ∷ i)) (simp length-drop (omega arith)) (omega arith))

-- ---- an input

-- all of its bytes
abbrev pub content : Input → List ℕ
content i = i.held ++ flatten i.pieces

-- no piece comes after the end
abbrev pub Lawful : Input → Type 0
Lawful i = i.ended ≡ true → i.pieces ≡ []

-- as many rounds as it asks at most
abbrev pub cost : Input → ℕ
cost i = length i.held + (length (flatten i.pieces) + length i.pieces) + cond i.ended 1 2

pub cost_least : (i : Input) → 1 ≤ cost i
cost_least i = least i.ended
  where
    least : (e : Bool) → 1 ≤ length i.held + (length (flatten i.pieces) + length i.pieces) + cond e 1 2
    least true = omega arith
    least false = omega arith

-- ---- a read

by_content : (h : List ℕ) (ps : List (List ℕ)) → content (read_by h ps) ≡ h ++ flatten ps
unfolding flatten
by_content h [] = refl
by_content h (p ∷ ps) = append_assoc h p (flatten ps)

by_lawful : (h : List ℕ) (ps : List (List ℕ)) → Lawful (read_by h ps)
by_lawful h [] e = refl
by_lawful h (p ∷ ps) e = absurd (true≢false (sym e))

by_cost : (h : List ℕ) (ps : List (List ℕ)) → suc (cost (read_by h ps)) ≡ length h + (length (flatten ps) + length ps) + 2
unfolding flatten
by_cost h [] = omega arith
by_cost h (p ∷ ps) = simp length-append (omega arith)

module _ (i : Input) where
  pub next_content : content (next i) ≡ content i
  next_content = by_content i.held i.pieces

  pub next_lawful : Lawful (next i)
  next_lawful = by_lawful i.held i.pieces

  pub next_cost : i.ended ≡ false → suc (cost (next i)) ≡ cost i
  next_cost e = by_cost i.held i.pieces ∙ ap (λ (b : Bool). length i.held + (length (flatten i.pieces) + length i.pieces) + cond b 1 2) (sym e)

-- ---- bytes used up

module _ (i : Input) (n : ℕ) (within : n ≤ length i.held) where
  pub past_content : drop n (content i) ≡ content (past n i)
  past_content = drop-append-le n i.held (flatten i.pieces) within

  pub past_cost : cost (past n i) + n ≡ cost i
  past_cost = simp length-drop (omega arith)

-- ---- the program

-- a whole record is the same among the bytes held and in the whole input
whole_same : (x : Header) (m h r : List ℕ) → 6 + x.length ≤ length h → call_at x m (h ++ r) ≡ call_at x m h
whole_same x m h r le =
    ap (λ (b : List ℕ). call_of x.kind x.number b m)
    (ap (take x.length) (drop-append-le 6 h r (omega arith)) ∙ take-append-le x.length (drop 6 h) r (simp length-drop (omega arith)))

-- no piece is left of an input that has ended
pub none_left : (i : Input) → Lawful i → i.ended ≡ true → flatten i.pieces ≡ []
unfolding flatten
none_left i lawful e = ap flatten (lawful e)

-- a step that the bytes held show is that of the whole input
pub content_step : (i : Input) → Lawful i → (x : Step) → step_of i.held i.ended ≡ x → is_more x ≡ false → step_of (content i) true ≡ x
content_step i lawful x e k = step_kept i.held (flatten i.pieces) i.ended (none_left i lawful) (ap is_more e ∙ k) ∙ e

-- the answer records of the whole input, from the step on that the bytes held show
module _ (l m : List ℕ) (i : Input) (lawful : Lawful i) where
  pub played_known : (x : Step) → step_of i.held i.ended ≡ x → is_more x ≡ false → played l m (content i) ≡ play_by played x l m (content i)
  played_known x e k = played_step l m (content i) ∙ ap (λ (y : Step). play_by played y l m (content i)) (content_step i lawful x e k)

  pub played_whole : {r : Header} → step_of i.held i.ended ≡ Step.Whole r
      → let call = call_at r m i.held in
      played l m (content i) ≡ answer_to l call ∷ played (bytes_after l call) (memory_left l m call) (content (past (6 + r.length) i))
  played_whole {r} e =
      let w : 6 + r.length ≤ length i.held = (whole_held i.held i.ended e).1 in
      played_known (Step.Whole r) e refl
      ∙ ap₂ (λ (call : Call) (rest : List ℕ). answer_to l call ∷ played (bytes_after l call) (memory_left l m call) rest)
      (whole_same r m i.held (flatten i.pieces) w) (past_content i (6 + r.length) w)

-- so many rounds write the answer records of the whole input
abbrev Writes : (rounds : ℕ) → Type 0
Writes t = (l m : List ℕ) (i : Input) → Lawful i → cost i ≤ t → run t l m i ≡ played l m (content i)

round_of : (t : ℕ) (l m : List ℕ) (i : Input) (x : Step) → step_of i.held i.ended ≡ x → run (suc t) l m i ≡ run_by (run t) x l m i
unfolding run
round_of t l m i x e = ap (λ (y : Step). run_by (run t) y l m i) e

one_more : (t : ℕ) → Writes t → Writes (suc t)
one_more t later l m i lawful c = by (step_of i.held i.ended) refl
  where
    by : (x : Step) → step_of i.held i.ended ≡ x → run (suc t) l m i ≡ played l m (content i)
    by (Step.Whole r) e =
        let p : cost (past (6 + r.length) i) + (6 + r.length) ≡ cost i = past_cost i (6 + r.length) (whole_held i.held i.ended e).1 in
        let call : Call = call_at r m i.held in
        round_of t l m i (Step.Whole r) e
        ∙ ap (λ (x : List (List ℕ)). answer_to l call ∷ x) (later (bytes_after l call) (memory_left l m call) (past (6 + r.length) i) lawful (omega arith))
        ∙ sym (played_whole l m i lawful e)
    by Step.Fault e = round_of t l m i Step.Fault e ∙ sym (played_known l m i lawful Step.Fault e refl)
    by Step.End e = round_of t l m i Step.End e ∙ sym (played_known l m i lawful Step.End e refl)
    by Step.More e =
        let p : suc (cost (next i)) ≡ cost i = next_cost i (more_wanting i.held i.ended e).1 in
        round_of t l m i Step.More e ∙ later l m (next i) (next_lawful i) (omega arith) ∙ ap (played l m) (next_content i)

run_played : (t : ℕ) → Writes t
run_played zero l m i lawful c = absurd (let h = cost_least i in omega arith)
run_played (suc t) l m i lawful c = one_more t (run_played t) l m i lawful c

pub however_cut : HoweverCut
unfolding HoweverCut records
however_cut memory ps rounds h = run_played rounds _ _ (unread ps) (λ e. absurd (true≢false (sym e))) (omega arith)
