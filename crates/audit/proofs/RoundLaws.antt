-- A round of the program, by what it found. Assumes nothing.
use mathlib.Core.Path.{◌≡◌, refl, sym, subst, ◌∙◌}
use mathlib.Core.List.{List}
use Prim.Native.Nat.{ℕ, ◌+◌, ◌≤◌, ◌<◌}
use native.Mathlib.Omega.{arith}
use lib.ListN.{length, length-take, length-drop}
use Rattle.std.specs.Prelude.{Result, Ok, Err, Some}
use Rattle.std.specs.declared.ops.ControlFlow.TheVariants.{Continue, Break}
use Rattle.tape.specs.declared.Found.{Found}
use Rattle.tape.specs.declared.input.Held.{Held}
use Rattle.tape.specs.declared.input.ReadFailed.{ReadFailed}
use Rattle.tape.specs.Inside.{held_in, Lies, held_after, Reads, Finds}
use Rattle.tape.proofs.FoundLaws.{Within, found_within}
use Rattle.audit.specs.declared.Files.{Files}
use Rattle.audit.specs.declared.Position.{Position}
use Rattle.audit.specs.declared.Report.{Report}
use Rattle.audit.specs.Inside.{Next, shown, Used, passed, read_by, on_calls, on_answers, with_calls, with_answers, Follows, Stands, Goes, Wide, Round}

-- bytes used of those held
pub among : (h : Held) (w : List ℕ) (n : ℕ) → Lies h w → n ≤ length (held_in h w) → h.from + n ≤ h.to
among h w n l u = let v = simp (length-take, length-drop) at u in omega arith

-- a round that reads stands where it read to, or ends
goes_read : (d : Result Held ReadFailed) (on : Held → Position) (n : ℕ) (x y : List ℕ) → Stands (on (held_after d)) x y
    → (on (held_after d)).number ≤ n + 1 → Goes (read_by d on) n x y
goes_read (Ok q) on n x y s h = (s, h)
goes_read (Err e) on n x y s h = tt

module _ (l m x y : List ℕ) (p : Position) (stands : Stands p x y) {f : Found} {l' m' : List ℕ} (finds : Finds (shown l m x y p) f l' m') where
  abbrev Held_within : Found → Type 0
  Held_within g = Within g (held_in p.calls x) p.calls.ended (held_in p.answers y) p.answers.ended

  by : (g : Found) → Held_within g → Used g p
  by Found.Calls w = tt
  by Found.Answers w = tt
  by (Found.Same u s) w = (among p.calls x u stands.0 w.0, among p.answers y s stands.1 w.1)
  by Found.Agrees w = tt
  by (Found.Differs k) w = w

  within : Held_within f
  within = found_within l m (held_in p.calls x) p.calls.ended (held_in p.answers y) p.answers.ended finds

  pub finds_used : Used f p
  finds_used = by f within

  -- bytes are wanted of fewer than a longest record
  wants : {g : Found} → f ≡ g → Held_within g
  wants e = subst Held_within e within

  pub used_same : {u w : ℕ} → f ≡ Found.Same u w → Used (Found.Same u w) p
  used_same e = subst (λ (g : Found). Used g p) e finds_used

  pub later_most : {k : ℕ} → f ≡ Found.Differs k → k ≤ 1
  later_most {k} e = subst (λ (g : Found). Used g p) e finds_used

  module _ (files : Files) where
    abbrev pub Does : Next → (x' y' : List ℕ) → Type 0
    Does r x' y' = Round files l m x y p r l' m' x' y' × Goes r p.number x' y'

    does : {g : Found} → f ≡ g → (r : Next) (x' y' : List ℕ) → Follows files g p x y r x' y' → Goes r p.number x' y' → Does r x' y'
    does e r x' y' w o = (
      record { follows = subst (λ (g : Found). Follows files g p x y r x' y') (sym e ∙ finds.found) w; state = finds.state; memory = finds.memory },
      o,
    )

    pub does_calls : Wide x y → f ≡ Found.Calls → (d : Result Held ReadFailed) {x' : List ℕ} → Reads files.calls.number p.calls x d x'
        → {r : Next} → r ≡ with_calls d p → Does r x' y
    does_calls wide e d {x'} reads {r} s =
        let few : length (held_in p.calls x) < 646 = (wants e).0 in
        subst (λ (r : Next). Does r x' y) (sym s)
        (does e (with_calls d p) x' y (d, refl, omega arith, reads, refl)
        (goes_read d (on_calls p) p.number x' y (reads.lies, stands.1) (omega arith)))

    pub does_answers : Wide x y → f ≡ Found.Answers → (d : Result Held ReadFailed) {y' : List ℕ} → Reads files.answers.number p.answers y d y'
        → {r : Next} → r ≡ with_answers d p → Does r x y'
    does_answers wide e d {y'} reads {r} s =
        let few : length (held_in p.answers y) < 135 = (wants e).0 in
        subst (λ (r : Next). Does r x y') (sym s)
        (does e (with_answers d p) x y' (d, refl, omega arith, reads, refl)
        (goes_read d (on_answers p) p.number x y' (stands.0, reads.lies) (omega arith)))

    pub does_same : {u w : ℕ} → f ≡ Found.Same u w → {r : Next} → r ≡ Continue (passed p u w) → Does r x y
    does_same {u} {w} e {r} s =
        let v = used_same e in
        subst (λ (r : Next). Does r x y) (sym s)
        (does e (Continue (passed p u w)) x y (refl, refl, refl) (((v.0, stands.0.1), (v.1, stands.1.1)), omega arith))

    pub does_agrees : f ≡ Found.Agrees → Does (Break (Some Report.Agrees)) x y
    does_agrees e = does e (Break (Some Report.Agrees)) x y refl tt

    pub does_differs : {k : ℕ} → f ≡ Found.Differs k → {r : Next} → r ≡ Break (Some (Report.Differs (p.number + k))) → Does r x y
    does_differs {k} e {r} s =
        subst (λ (r : Next). Does r x y) (sym s) (does e (Break (Some (Report.Differs (p.number + k)))) x y refl tt)
