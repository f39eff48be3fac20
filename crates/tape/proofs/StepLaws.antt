-- Steps: what each asks of the bytes held, and that further bytes change none that is known. Assumes nothing.
use mathlib.Core.Path.{◌≡◌, refl, sym, ap, ◌∙◌}
use mathlib.Core.Bool.{Bool, true, false, cond, true≢false}
use mathlib.Core.List.{List, [], ◌++◌, append-nil}
use mathlib.Core.Logic.{◌⊎◌, ⊎_elim}
use Prim.Native.Nat.{ℕ, ◌+◌, ◌≤◌, ◌<◌}
use native.Mathlib.Decide.{dec_lt}
use native.Mathlib.Omega.{arith}
use lib.Dec.{eqb, ltb}
use lib.ListN.{length, length-append}
use lib.Seq.{take-append-le}
use borrow.Author.Tests.{le-ltb, lt-ltb, ltb-true, eq-eqb, ne_eqb}
use Rattle.std.specs.Prelude.{Result, Ok, Err}
use Rattle.tape.specs.declared.HeaderError.{HeaderError}
use Rattle.tape.specs.declared.Header.{Header}
use Rattle.tape.specs.declared.Step.{Step}
use Rattle.tape.specs.Tape.{is_good, header_at, header_of, lacking, step_by, step_of}
use Rattle.tape.proofs.BoundLaws.{header_front, body_most}
use Rattle.tape.proofs.HeadLaws.{header_cut}

-- ---- a step by the number of bytes held and their header

abbrev Read : Type 0
Read = Result Header HeaderError

abbrev step_at : (held : ℕ) → Read → Bool → Step
step_at n h e = cond (eqb n 0) (cond e Step.End Step.More) (step_by h n e)

pub step_none : (i : List ℕ) (e : Bool) → length i ≡ 0 → step_of i e ≡ cond e Step.End Step.More
unfolding step_of
step_none i e h = rw (eq-eqb (length i) 0 h)

pub step_some : (i : List ℕ) (e : Bool) → (length i ≡ 0 → ⊥) → step_of i e ≡ step_by (header_of i) (length i) e
unfolding step_of
step_some i e h = rw (ne_eqb (length i) 0 h)

-- a record with and without all of its bytes
module _ (r : Header) (held : ℕ) (e : Bool) where
  by_lacks : held < 6 + r.length → step_by (Ok r) held e ≡ lacking e
  by_lacks h = rw (lt-ltb held (6 + r.length) h)

  by_whole : 6 + r.length ≤ held → step_by (Ok r) held e ≡ Step.Whole r
  by_whole h = rw (le-ltb held (6 + r.length) h)

-- ---- a step by the header that is read

header_none : (i : List ℕ) → length i ≡ 0 → header_of i ≡ Err HeaderError.Cut
header_none i z = sym (header_cut i (omega arith))

module _ (i : List ℕ) (e : Bool) where
  pub step_whole : (h : Header) → header_of i ≡ Ok h → 6 + h.length ≤ length i → step_of i e ≡ Step.Whole h
  step_whole h r le =
      step_some i e (λ z. omega arith) ∙ ap (λ (x : Read). step_by x (length i) e) r ∙ by_whole h (length i) e le

  pub step_bad : header_of i ≡ Err HeaderError.Bad → step_of i e ≡ Step.Fault
  step_bad r =
      step_some i e (λ z. let w : Err HeaderError.Bad ≡ Err HeaderError.Cut = sym r ∙ header_none i z in cc)
      ∙ ap (λ (x : Read). step_by x (length i) e) r

  -- the bytes held end in a header, or behind one
  abbrev pub Lacks : Type 0
  Lacks = (header_of i ≡ Err HeaderError.Cut) ⊎ ((h : Header) × (header_of i ≡ Ok h) × (length i < 6 + h.length))

  pub step_lacks : Lacks → step_of i e ≡ cond (eqb (length i) 0) (cond e Step.End Step.More) (lacking e)
  unfolding step_of
  step_lacks =
      ⊎_elim
      (λ r. ap (λ (x : Read). step_at (length i) x e) r)
      (λ (h, r, le). ap (λ (x : Read). step_at (length i) x e) r ∙ ap (cond (eqb (length i) 0) (cond e Step.End Step.More)) (by_lacks h (length i) e le))

-- ---- headers

-- less than a header
picked_cut : (b g : Bool) (r : Header) → cond b (Err HeaderError.Cut) (cond g (Ok r) (Err HeaderError.Bad)) ≡ Err HeaderError.Cut → b ≡ true
picked_cut true g r p = refl
picked_cut false true r p = absurd cc
picked_cut false false r p = absurd cc

cut_short : (i : List ℕ) → header_of i ≡ Err HeaderError.Cut → length i < 6
unfolding header_of
cut_short i p = ltb-true (length i) 6 (picked_cut (ltb (length i) 6) (is_good i) (header_at i) p)

-- further bytes leave it as it is
header_more : (i r : List ℕ) → 6 ≤ length i → header_of (i ++ r) ≡ header_of i
header_more i r h = sym (header_front (i ++ r)) ∙ ap header_of (take-append-le 6 i r h) ∙ header_front i

-- ---- a whole record is held

module _ {r : Header} where
  whole_lacking : (e : Bool) → lacking e ≡ Step.Whole r → ⊥
  whole_lacking true p = cc
  whole_lacking false p = cc

  whole_none : (e : Bool) → cond e Step.End Step.More ≡ Step.Whole r → ⊥
  whole_none true p = cc
  whole_none false p = cc

  whole_by : (h : Read) (held : ℕ) (e : Bool) → step_by h held e ≡ Step.Whole r → (h ≡ Ok r) × (6 + r.length ≤ held)
  whole_by (Ok r') held e p =
      elim (dec_lt held (6 + r'.length)) [
        | yes a ↦ absurd (whole_lacking e (sym (by_lacks r' held e a) ∙ p))
        | no a ↦
            let q : Step.Whole r' ≡ Step.Whole r = sym (by_whole r' held e (omega arith)) ∙ p in
            let s : r' ≡ r = cc in
            let l : r'.length ≡ r.length = ap (λ (x : Header). x.length) s in
            (cc, omega arith)
      ]
  whole_by (Err HeaderError.Bad) held e p = absurd cc
  whole_by (Err HeaderError.Cut) held e p = absurd (whole_lacking e p)

  pub whole_held : (i : List ℕ) (e : Bool) → step_of i e ≡ Step.Whole r → (header_of i ≡ Ok r) × (6 + r.length ≤ length i)
  whole_held i e p =
      elim (dec_lt 0 (length i)) [
        | yes a ↦ whole_by (header_of i) (length i) e (sym (step_some i e (λ z. omega arith)) ∙ p)
        | no a ↦ absurd (whole_none e (sym (step_none i e (omega arith)) ∙ p))
      ]

-- ---- more bytes are wanted of fewer than a largest record, and of an input that goes on

abbrev pub Wanting : (held : ℕ) → (ended : Bool) → Type 0
Wanting held e = (held < 646) × (e ≡ false)

lacking_more : (e : Bool) → lacking e ≡ Step.More → e ≡ false
lacking_more true p = absurd cc
lacking_more false p = refl

none_more : (e : Bool) → cond e Step.End Step.More ≡ Step.More → e ≡ false
none_more true p = absurd cc
none_more false p = refl

more_by : (i : List ℕ) (e : Bool) (h : Read) → header_of i ≡ h → step_by h (length i) e ≡ Step.More → Wanting (length i) e
more_by i e (Ok r) q p =
    let b : r.length ≤ 640 = body_most i q in
    elim (dec_lt (length i) (6 + r.length)) [
      | yes a ↦ (omega arith, lacking_more e (sym (by_lacks r (length i) e a) ∙ p))
      | no a ↦ absurd (let w : Step.Whole r ≡ Step.More = sym (by_whole r (length i) e (omega arith)) ∙ p in cc)
    ]
more_by i e (Err HeaderError.Bad) q p = absurd cc
more_by i e (Err HeaderError.Cut) q p = (let a = cut_short i q in omega arith, lacking_more e p)

pub more_wanting : (i : List ℕ) (e : Bool) → step_of i e ≡ Step.More → Wanting (length i) e
more_wanting i e p =
    elim (dec_lt 0 (length i)) [
      | yes a ↦ more_by i e (header_of i) refl (sym (step_some i e (λ z. omega arith)) ∙ p)
      | no a ↦ (omega arith, none_more e (sym (step_none i e (omega arith)) ∙ p))
    ]

-- ---- a step that is known stays as it is when bytes follow and the input ends

abbrev pub is_more : Step → Bool
is_more (Step.Whole r) = false
is_more Step.Fault = false
is_more Step.End = false
is_more Step.More = true

by_kept : (h : Read) (n n' : ℕ) → n ≤ n' → is_more (step_by h n false) ≡ false → step_by h n' true ≡ step_by h n false
by_kept (Ok r) n n' le p =
    elim (dec_lt n (6 + r.length)) [
      | yes a ↦ absurd (true≢false (ap is_more (sym (by_lacks r n false a)) ∙ p))
      | no a ↦ by_whole r n' true (omega arith) ∙ sym (by_whole r n false (omega arith))
    ]
by_kept (Err HeaderError.Bad) n n' le p = refl
by_kept (Err HeaderError.Cut) n n' le p = absurd (true≢false p)

-- where no more bytes are wanted, a header is held
by_headed : (i : List ℕ) → is_more (step_by (header_of i) (length i) false) ≡ false → 6 ≤ length i
by_headed i p =
    elim (dec_lt (length i) 6) [
      | yes a ↦ absurd (true≢false (ap (λ (h : Read). is_more (step_by h (length i) false)) (header_cut i a) ∙ p))
      | no a ↦ omega arith
    ]

open_kept : (i r : List ℕ) → is_more (step_of i false) ≡ false → step_of (i ++ r) true ≡ step_of i false
open_kept i r p =
    elim (dec_lt 0 (length i)) [
      | yes a ↦
          let e : step_of i false ≡ step_by (header_of i) (length i) false = step_some i false (λ z. omega arith) in
          let q : is_more (step_by (header_of i) (length i) false) ≡ false = ap is_more (sym e) ∙ p in
          let n : length (i ++ r) ≡ length i + length r = length-append i r in
          step_some (i ++ r) true (λ z. omega arith)
          ∙ ap (λ (h : Read). step_by h (length (i ++ r)) true) (header_more i r (by_headed i q))
          ∙ by_kept (header_of i) (length i) (length (i ++ r)) (omega arith) q ∙ sym e
      | no a ↦ absurd (true≢false (ap is_more (sym (step_none i false (omega arith))) ∙ p))
    ]

pub step_kept : (i r : List ℕ) (e : Bool) → (e ≡ true → r ≡ []) → is_more (step_of i e) ≡ false → step_of (i ++ r) true ≡ step_of i e
step_kept i r true h p = ap (λ (x : List ℕ). step_of (i ++ x) true) (h refl) ∙ ap (λ (x : List ℕ). step_of x true) (append-nil i)
step_kept i r false h p = open_kept i r p
