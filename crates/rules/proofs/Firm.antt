-- Tests that hold no call: what they answer is a refusal; those of a send record. Assumes nothing.
use mathlib.Core.Path.{◌≡◌, refl, sym}
use mathlib.Core.Bool.{Bool, true, false, cond, not, ◌&&◌, true≢false}
use mathlib.Core.List.{List, [], ◌∷◌}
use mathlib.Core.Option.{some, some-ne-none}
use Prim.Native.Nat.{ℕ}
use lib.Dec.{eqb}
use Rattle.wire.specs.Checks.{Check, refusal}
use Rattle.wire.specs.Codec.{decode}
use Rattle.wire.specs.Scan.{all}
use Rattle.wire.proofs.ScanLaws.{and_left, and_right}
use Rattle.std.specs.Prelude.{Err}
use Rattle.tables.specs.Records.{send_codec, send_checks, send_read}
use Rattle.tables.specs.Refusal.{refusal_number}
use Rattle.tables.specs.declared.refusal.Refusal.{Refusal}
use Rattle.tables.specs.declared.refusal.Refusal.TheVariants.{WrongLength, NotLive, WrongState, BadField, OtherMemory, Full, NothingThere, InUse, BadRange, ShortBuffer, Unknown, BadRecord, BadState}
use Rattle.tables.proofs.RefusalLaws.{result_err}
use Rattle.rules.specs.Answer.{answered, refused}
use Rattle.rules.specs.declared.Answer.TheVariants.{Refused}

-- none of the tests holds a call
abbrev pub firm : List Check → Bool
firm cs = all (λ k. not (eqb k.no 5) && not (eqb k.no 6)) cs

pub firm_answer : (n : ℕ) → (not (eqb n 5) && not (eqb n 6)) ≡ true → answered 0 (some n) ≡ Refused n
firm_answer n e = go (eqb n 5) (eqb n 6) e
  where
    go : (a b : Bool) → (not a && not b) ≡ true → cond a (answered 0 (some 5)) (cond b (answered 0 (some 6)) (Refused n)) ≡ Refused n
    go true b e = absurd (true≢false (sym e))
    go false true e = absurd (true≢false (sym e))
    go false false e = refl

pub firm_refusal : (cs : List Check) → firm cs ≡ true → (n : ℕ) → refusal cs ≡ some n → (not (eqb n 5) && not (eqb n 6)) ≡ true
unfolding all
firm_refusal [] f n e = absurd (some-ne-none n (sym e))
firm_refusal (k ∷ cs) f n e = go k.bad e (firm_refusal cs (and_right (not (eqb k.no 5) && not (eqb k.no 6)) (firm cs) f) n)
  where
    go : (b : Bool) → cond b (some k.no) (refusal cs) ≡ some n →
        (refusal cs ≡ some n → (not (eqb n 5) && not (eqb n 6)) ≡ true) → (not (eqb n 5) && not (eqb n 6)) ≡ true
    go true e ih = let z : k.no ≡ n = cc in rw (sym z) (and_left (not (eqb k.no 5) && not (eqb k.no 6)) (firm cs) f)
    go false e ih = ih e

-- a refusal holds nothing
pub refused_answer : (s : ℕ) (r : Refusal) → answered s (some (refusal_number r)) ≡ refused r
refused_answer s WrongLength = refl
refused_answer s NotLive = refl
refused_answer s WrongState = refl
refused_answer s BadField = refl
refused_answer s OtherMemory = refl
refused_answer s Full = refl
refused_answer s NothingThere = refl
refused_answer s InUse = refl
refused_answer s BadRange = refl
refused_answer s ShortBuffer = refl
refused_answer s Unknown = refl
refused_answer s BadRecord = refl
refused_answer s BadState = refl

-- a send record that reads as refused is refused by its tests
pub record_refused : (x : List ℕ) (r : Refusal) → send_read x ≡ Err r → refusal (send_checks x) ≡ some (refusal_number r)
unfolding send_read all send_checks
record_refused x r e = result_err (send_checks x) refl (decode send_codec x 0) r e
