-- What the verdict means: agreement exactly with the tape due, or the first record that differs. Assumes nothing.
use mathlib.Core.Path.{◌≡◌, refl, sym, ap, subst, ◌∙◌}
use mathlib.Core.Bool.{Bool, true, false}
use mathlib.Core.List.{List, [], ◌∷◌, ◌++◌, flatten, append_assoc}
use Prim.Native.Nat.{ℕ, zero, suc, ◌+◌, ◌≤◌}
use native.Mathlib.Nat.{add-zero}
use native.Mathlib.Omega.{arith}
use lib.ListN.{length, take, drop}
use lib.Seq.{drop-append_seam}
use Rattle.tape.specs.Tape.{records, tape_memory, output}
use Rattle.tape.specs.Audit.{Verdict, starts, against, verdict, AgreesExactly, Wrong, First, DiffersFirst}
use Rattle.tape.proofs.StartLaws.{starts_split, starts_append}

module _ (n : ℕ) (r : List ℕ) (rs : List (List ℕ)) (g : List ℕ) where
  pub against_same : starts r g ≡ true → against n (r ∷ rs) g ≡ against (suc n) rs (drop (length r) g)
  unfolding against
  against_same h = rw h

  pub against_other : starts r g ≡ false → against n (r ∷ rs) g ≡ Verdict.differs n
  unfolding against
  against_other h = rw h

-- ---- agreement

due_then : (n : ℕ) (due : List (List ℕ)) → against n due (flatten due) ≡ Verdict.agrees
unfolding against flatten
due_then n [] = refl
due_then n (r ∷ rs) = rw (starts_append r (flatten rs), drop-append_seam r (flatten rs)) (due_then (suc n) rs)

agrees_then : (n : ℕ) (due : List (List ℕ)) (g : List ℕ) → against n due g ≡ Verdict.agrees → g ≡ flatten due
unfolding against flatten
agrees_then n [] [] e = refl
agrees_then n [] (b ∷ g) e = absurd (let z : ◌≡◌ {A = ℕ} 0 1 = cc in omega arith)
agrees_then n (r ∷ rs) g e = by (starts r g) refl (agrees_then (suc n) rs (drop (length r) g))
  where
    by : (b : Bool) → starts r g ≡ b → (against (suc n) rs (drop (length r) g) ≡ Verdict.agrees → drop (length r) g ≡ flatten rs) → g ≡ r ++ flatten rs
    by true h later = starts_split r g h ∙ ap (λ (x : List ℕ). r ++ x) (later (sym (against_same n r rs g h) ∙ e))
    by false h later = absurd (let w : Verdict.differs n ≡ Verdict.agrees = sym (against_other n r rs g h) ∙ e in let z : ◌≡◌ {A = ℕ} 0 1 = cc in omega arith)

pub agrees_exactly : AgreesExactly
unfolding AgreesExactly verdict
agrees_exactly memory calls answers = (
  λ e. agrees_then 0 (records memory calls) answers e,
  λ e. ap (against 0 (records memory calls)) e ∙ due_then 0 (records memory calls),
)

-- "the answer tape is the one the rules give", of document 01's tape
pub agrees_output : (calls answers : List ℕ) → (verdict tape_memory calls answers ≡ Verdict.agrees → answers ≡ output calls)
    × (answers ≡ output calls → verdict tape_memory calls answers ≡ Verdict.agrees)
unfolding output AgreesExactly
agrees_output calls answers = agrees_exactly tape_memory calls answers

-- ---- the first record that differs

-- the number k counts from n on
abbrev From : (n k : ℕ) → (due : List (List ℕ)) → (given : List ℕ) → Type 0
From n k due g = (j : ℕ) × (k ≡ n + j) × First due g j

here : (n k : ℕ) (due : List (List ℕ)) (g : List ℕ) → Verdict.differs n ≡ Verdict.differs k → Wrong due g → From n k due g
unfolding flatten
here n k due g e w = let s : n ≡ k = cc in (0, omega arith, record { most = omega arith; rest = g; before = refl; wrong = w })

further : (n k : ℕ) (r : List ℕ) (rs : List (List ℕ)) (g : List ℕ) → starts r g ≡ true → From (suc n) k rs (drop (length r) g) → From n k (r ∷ rs) g
unfolding flatten
further n k r rs g h f =
    let j : ℕ = f.0 in
    let e : k ≡ suc n + j = f.1 in
    let x : First rs (drop (length r) g) j = f.2 in
    let i : j ≤ length rs = x.most in (
      suc j,
      omega arith,
      record {
        most = omega arith;
        rest = x.rest;
        before = starts_split r g h ∙ ap (λ (l : List ℕ). r ++ l) x.before ∙ sym (append_assoc r (flatten (take j rs)) x.rest);
        wrong = x.wrong;
      },
    )

first_from : (n k : ℕ) (due : List (List ℕ)) (g : List ℕ) → against n due g ≡ Verdict.differs k → From n k due g
unfolding against
first_from n k [] [] e = absurd (let z : ◌≡◌ {A = ℕ} 0 1 = cc in omega arith)
first_from n k [] (b ∷ g) e = here n k [] (b ∷ g) e (λ w. let z : ◌≡◌ {A = ℕ} 0 1 = cc in omega arith)
first_from n k (r ∷ rs) g e = by (starts r g) refl (first_from (suc n) k rs (drop (length r) g))
  where
    by : (b : Bool) → starts r g ≡ b → (against (suc n) rs (drop (length r) g) ≡ Verdict.differs k → From (suc n) k rs (drop (length r) g))
        → From n k (r ∷ rs) g
    by true h later = further n k r rs g h (later (sym (against_same n r rs g h) ∙ e))
    by false h later = here n k (r ∷ rs) g (sym (against_other n r rs g h) ∙ e) h

-- the tape wrong at once
wrong_then : (n : ℕ) (due : List (List ℕ)) (g : List ℕ) → Wrong due g → against n due g ≡ Verdict.differs n
unfolding against
wrong_then n [] [] w = absurd (w refl)
wrong_then n [] (b ∷ g) w = refl
wrong_then n (r ∷ rs) g w = against_other n r rs g w

first_then : (n j : ℕ) (due : List (List ℕ)) (g rest : List ℕ) → j ≤ length due → g ≡ flatten (take j due) ++ rest → Wrong (drop j due) rest
    → against n due g ≡ Verdict.differs (n + j)
unfolding flatten
first_then n zero due g rest h e w = ap (against n due) e ∙ wrong_then n due rest w ∙ ap Verdict.differs (sym (add-zero n))
first_then n (suc j) [] g rest h e w = absurd (omega arith)
first_then n (suc j) (r ∷ rs) g rest h e w =
    let x : List ℕ = flatten (take j rs) ++ rest in
    let s : g ≡ r ++ x = e ∙ append_assoc r (flatten (take j rs)) rest in
    let k : suc n + j ≡ n + suc j = omega arith in
    ap (against n (r ∷ rs)) s ∙ against_same n r rs (r ++ x) (starts_append r x) ∙ ap (against (suc n) rs) (drop-append_seam r x)
    ∙ first_then (suc n) j rs x rest (omega arith) refl w ∙ ap Verdict.differs k

pub differs_first : DiffersFirst
unfolding DiffersFirst verdict
differs_first memory calls answers n = (
  λ e.
      let f = first_from 0 n (records memory calls) answers e in
      let j : n ≡ f.0 = omega arith in
      subst (λ (k : ℕ). First (records memory calls) answers k) (sym j) f.2,
  λ f.
      let z : 0 + n ≡ n = omega arith in
      first_then 0 n (records memory calls) answers f.rest f.most f.before f.wrong ∙ ap Verdict.differs z,
)
