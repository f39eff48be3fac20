-- The judge's rights are the masks of the rules. Assumes nothing.
use mathlib.Core.Path.{◌≡◌, refl, sym, ap, ◌∙◌}
use mathlib.Core.Bool.{Bool, true, false, cond, not, ◌||◌}
use Prim.Native.Nat.{ℕ, zero, suc, ◌+◌, ◌*◌, ◌/◌, ◌%◌, ◌≤◌, ◌<◌}
use native.Mathlib.Omega.{arith}
use native.Mathlib.Nat.{div-div-eq-div-mul}
use native.Mathlib.Decide.{ℕ_discrete}
use lib.Bits.{bit_and, and_mask, and_step}
use lib.Dec.{eqb}
use borrow.Author.Tests.{eq-eqb, ne_eqb}
use Rattle.rules.specs.Permit.{Use, granted}
use Rattle.rules.specs.Permit as rules
use Rattle.rules.specs.Touch.{fills}
use Rattle.rules.specs.Send.{own_use, far_use}
use Rattle.judge.specs.Judge.{Right, grants, flags_grant, own_right, far_right}

-- the right that a use needs
abbrev pub needs_right : Use → Right
needs_right Use.local_read = Right.none_needed
needs_right Use.local_write = Right.local_write
needs_right Use.remote_write = Right.remote_write
needs_right Use.remote_read = Right.remote_read

-- a multiple of the bit y is not 0 exactly if y is 1
one_bit : (x y k : ℕ) → y < 2 → x ≡ y * (k + 1) → not (eqb x 0) ≡ eqb y 1
one_bit x y k h e =
    elim (ℕ_discrete y 1) [
      | yes p ↦ rw (ne_eqb x 0 (λ z. let s : x ≡ k + 1 = e ∙ ap (λ v. v * (k + 1)) p ∙ omega arith in omega arith), eq-eqb y 1 p)
      | no p ↦ rw (eq-eqb x 0 (let s : y ≡ 0 = omega arith in e ∙ ap (λ v. v * (k + 1)) s ∙ omega arith), ne_eqb y 1 p)
    ]

and_1 : (a : ℕ) → bit_and a 1 ≡ a % 2
and_1 a = and_mask a 1

and_2 : (a : ℕ) → bit_and a 2 ≡ (a / 2 % 2) * 2
and_2 a = and_step a 2 ∙ (let e = and_1 (a / 2) in omega arith)

and_4 : (a : ℕ) → bit_and a 4 ≡ (a / 4 % 2) * 4
and_4 a =
    let d : a / 2 / 2 % 2 ≡ a / 4 % 2 = ap (λ (v : ℕ). v % 2) (div-div-eq-div-mul a 2 2) in
    let e = and_2 (a / 2) in
    and_step a 4 ∙ omega arith

pub same_right : (u : Use) (a : ℕ) → grants a (needs_right u) ≡ granted u a
same_right Use.local_read a = refl
same_right Use.local_write a = sym (one_bit (bit_and a 1) (a % 2) 0 (omega arith) (and_1 a ∙ omega arith))
same_right Use.remote_write a = sym (one_bit (bit_and a 2) (a / 2 % 2) 1 (omega arith) (and_2 a))
same_right Use.remote_read a = sym (one_bit (bit_and a 4) (a / 4 % 2) 3 (omega arith) (and_4 a))

-- and its reading of a queue pair's flags is theirs
pub same_opens : (u : Use) (f : ℕ) → flags_grant f (needs_right u) ≡ rules.opens u f
same_opens Use.local_read f = refl
same_opens Use.local_write f = refl
same_opens Use.remote_write f = same_right Use.remote_write f
same_opens Use.remote_read f = same_right Use.remote_read f

-- the uses of each opcode
pub own_right_lem : (o : ℕ) → own_right o ≡ needs_right (own_use o)
own_right_lem o = go (eqb o 4)
  where
    go : (b : Bool) → cond b Right.local_write Right.none_needed ≡ needs_right (cond b Use.local_write Use.local_read)
    go true = refl
    go false = refl

pub far_right_lem : (o : ℕ) → o ≤ 4 → far_right o ≡ needs_right (far_use o)
far_right_lem zero h = refl
far_right_lem (suc zero) h = refl
far_right_lem (suc (suc zero)) h = refl
far_right_lem (suc (suc (suc zero))) h = refl
far_right_lem (suc (suc (suc (suc zero)))) h = refl
far_right_lem (suc (suc (suc (suc (suc n))))) h = absurd (omega arith)

pub same_fills : (o : ℕ) → o ≤ 4 → (eqb o 2 || eqb o 3) ≡ fills o
same_fills zero h = refl
same_fills (suc zero) h = refl
same_fills (suc (suc zero)) h = refl
same_fills (suc (suc (suc zero))) h = refl
same_fills (suc (suc (suc (suc zero)))) h = refl
same_fills (suc (suc (suc (suc (suc n))))) h = absurd (omega arith)
