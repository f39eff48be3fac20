-- Reading and writing the records: the ways in which each reading ends, and what was written read back. Assumes nothing.
use mathlib.Core.Path.{◌≡◌, refl, sym, ap, ◌∙◌}
use mathlib.Core.Logic.{◌⊎◌, inl, inr}
use mathlib.Core.Bool.{Bool, true, false, not, ◌&&◌, ◌||◌}
use mathlib.Core.List.{List, [], ◌∷◌}
use mathlib.Core.Option.{Option}
use Prim.Native.Nat.{ℕ, zero, suc, ◌+◌, ◌*◌, ◌%◌, ◌≤◌, ◌<◌}
use native.Mathlib.Nat.{add-zero, add_assoc}
use native.Mathlib.Omega.{arith}
use native.Mathlib.Decide.{dec_le}
use lib.Dec.{eqb, ltb}
use Rattle.std.specs.Prelude.{Ok, Err}
use lib.ListN.{length, get_or, get_or-eq_default}
use borrow.Author.Tests.{eq-eqb, ne_eqb, le-leb, lt-leb, lt-ltb, le-ltb}
use Rattle.wire.specs.Checks.{◌if◌, refusal, only}
use Rattle.wire.specs.Codec.{fields_at, put_fields, decode, encode}
use Rattle.wire.specs.Le.{le_at, put_le}
use Rattle.wire.proofs.LeLaws.{le_at_below, le_at_split}
use Rattle.tables.specs.Limits.{most_sges, most_inline, most_receive_sges}
use Rattle.tables.specs.Commands.{control_class, head_read}
use Rattle.tables.specs.Records.{sge_codec, sge_at, no_sge, send_codec, flag_bits, is_inline, inline_length, send_checks, send_read, send_bad, send_size, receive_codec, receive_checks, receive_read}
use Rattle.tables.specs.Refusal.{result_by}
use Rattle.tables.specs.declared.ReceiveRecord.{ReceiveRecord}
use Rattle.tables.specs.declared.refusal.Refusal.TheVariants.{WrongLength, BadField, Unknown}
use Rattle.tables.specs.declared.SendRecord.{SendRecord}
use Rattle.tables.specs.declared.Sge.{Sge}

-- ---- the class and the command byte

pub head_short : (k : List ℕ) → length k < 2 → head_read k ≡ Err WrongLength
head_short k h = rw (lt-ltb (length k) 2 h)

pub head_class : (k : List ℕ) → 2 ≤ length k → (le_at 1 k 0 ≡ control_class → ⊥) → head_read k ≡ Err Unknown
head_class k h e = rw (le-ltb (length k) 2 h, ne_eqb (le_at 1 k 0) control_class e)

pub head_right : (k : List ℕ) → 2 ≤ length k → le_at 1 k 0 ≡ control_class → head_read k ≡ Ok (le_at 1 k 1)
head_right k h e = rw (le-ltb (length k) 2 h, eq-eqb (le_at 1 k 0) control_class e)

-- ---- what the record does not have

pub le_at_past : (w : ℕ) (l : List ℕ) (at : ℕ) → length l ≤ at → le_at w l at ≡ 0
unfolding le_at
le_at_past zero l at h = refl
le_at_past (suc w) l at h =
    let a : get_or l at 0 ≡ 0 = get_or-eq_default l 0 h in
    let b : le_at w l (at + 1) ≡ 0 = le_at_past w l (at + 1) (omega arith) in
    rw (a, b) (omega arith)

-- an entry past the end reads as nothing
pub sge_past : (x : List ℕ) (at : ℕ) → length x ≤ at → decode sge_codec x at ≡ no_sge
unfolding sge_codec fields_at
sge_past x at h =
    rw (le_at_past 8 x (at + 0) (omega arith), le_at_past 4 x (at + 8) (omega arith), le_at_past 4 x (at + 12) (omega arith))

pub sge_none : (x : List ℕ) (at : ℕ) → length x < at + 16 → no_sge ≡ sge_at x at
sge_none x at h = rw (lt-leb (at + 16) (length x) h)

pub sge_some : (x : List ℕ) (at : ℕ) → at + 16 ≤ length x → decode sge_codec x at ≡ sge_at x at
sge_some x at h = rw (le-leb (at + 16) (length x) h)

-- an entry that the record has whole, or not at all
pub sge_read : (x : List ℕ) (at : ℕ) → (length x ≤ at) ⊎ (at + 16 ≤ length x) → sge_at x at ≡ decode sge_codec x at
sge_read x at (inl h) = sym (sge_none x at (omega arith)) ∙ sym (sge_past x at h)
sge_read x at (inr h) = sym (sge_some x at h)

-- the entry at an offset of a record
pub sge_within : (l : List ℕ) (at o : ℕ)
    → decode sge_codec l (at + o) ≡ record { address = le_at 8 l (at + o); length = le_at 4 l (at + (o + 8)); key = le_at 4 l (at + (o + 12)) }
unfolding sge_codec fields_at
sge_within l at o = rw (add-zero, add_assoc at o 8, add_assoc at o 12)

pub sge_put_within : (l : List ℕ) (at o : ℕ) (s : Sge)
    → encode sge_codec l (at + o) s ≡ put_le 4 (put_le 4 (put_le 8 l (at + o) s.address) (at + (o + 8)) s.length) (at + (o + 12)) s.key
unfolding sge_codec put_fields
sge_put_within l at o s = rw (add-zero, add_assoc at o 8, add_assoc at o 12)

-- ---- a send record

-- with the inline flag, the inline length is the low 16 bits of count
pub inline_length_lem : (x : List ℕ) → inline_length x ≡ (decode send_codec x 0).count % 65536
unfolding inline_length send_codec fields_at
inline_length_lem x =
    let e : le_at 4 x 560 ≡ le_at 2 x 560 + 65536 * le_at 2 x 562 = le_at_split 2 2 x 560 in
    let b : le_at 2 x 560 < 65536 = le_at_below 2 x 560 in
    let g : le_at 2 x 560 ≡ le_at 4 x 560 % 65536 = omega arith in
    g

-- the tests after the first, as two
two : (a b i o l m z : Bool)
    → refusal (4 if a ∷ 4 if b ∷ 4 if (i && o) ∷ 4 if (i && l) ∷ 4 if (not i && m) ∷ 1 if z ∷ [])
    ≡ refusal (4 if (a || b || (i && (o || l)) || (not i && m)) ∷ 1 if z ∷ [])
two true b i o l m z = refl
two false true i o l m z = refl
two false false true true l m z = refl
two false false true false true m z = refl
two false false true false false m z = refl
two false false false o l m z = refl

module _ (x : List ℕ) where
  abbrev s : SendRecord
  s = decode send_codec x 0

  pub send_short : length x < 576 → Err WrongLength ≡ send_read x
  unfolding send_read send_checks
  send_short h = rw (lt-ltb (length x) 576 h)

  -- the rest of the tests, of a record of at least 576 bytes
  pub send_tests : 576 ≤ length x → refusal (send_checks x) ≡ refusal (4 if send_bad s ∷ 1 if not (eqb (length x) (send_size s)) ∷ [])
  unfolding send_checks
  send_tests h =
      rw (le-ltb (length x) 576 h, inline_length_lem x)
      (two (ltb 4 s.opcode) (not (only flag_bits s.flags)) (is_inline s) (eqb s.opcode 4) (ltb most_inline (s.count % 65536)) (ltb most_sges s.count)
      (not (eqb (length x) (send_size s))))

  send_rest : 576 ≤ length x
      → send_read x ≡ result_by (refusal (4 if send_bad s ∷ 1 if not (eqb (length x) (send_size s)) ∷ [])) s
  unfolding send_read
  send_rest h = ap (λ (o : Option ℕ). result_by o s) (send_tests h)

  pub send_refused : 576 ≤ length x → send_bad s ≡ true → Err BadField ≡ send_read x
  send_refused h b = rw (send_rest h, b)

  pub send_wrong : 576 ≤ length x → send_bad s ≡ false → (length x ≡ send_size s → ⊥) → Err WrongLength ≡ send_read x
  send_wrong h b e = rw (send_rest h, b, ne_eqb (length x) (send_size s) e)

  pub send_right : 576 ≤ length x → send_bad s ≡ false → length x ≡ send_size s → Ok s ≡ send_read x
  send_right h b e = rw (send_rest h, b, eq-eqb (length x) (send_size s) e)

  -- ---- a receive record

  abbrev r : ReceiveRecord
  r = decode receive_codec x 0

  pub receive_short : length x < 24 → Err WrongLength ≡ receive_read x
  unfolding receive_read receive_checks
  receive_short h = rw (lt-ltb (length x) 24 h)

  -- n is its count
  module _ (n : ℕ) (is : n ≡ r.count) (h : 24 ≤ length x) where
    pub receive_many : most_receive_sges < n → Err BadField ≡ receive_read x
    unfolding receive_read receive_checks
    receive_many b = rw (le-ltb (length x) 24 h, ← is, lt-ltb most_receive_sges n b)

    module _ (b : n ≤ most_receive_sges) where
      pub receive_wrong : (length x ≡ 24 + 16 * n → ⊥) → Err WrongLength ≡ receive_read x
      unfolding receive_read receive_checks
      receive_wrong e = rw (le-ltb (length x) 24 h, ← is, le-ltb most_receive_sges n b, ne_eqb (length x) (24 + 16 * n) e)

      module _ (e : length x ≡ 24 + 16 * n) where
        pub receive_right : Ok r ≡ receive_read x
        unfolding receive_read receive_checks
        receive_right = rw (le-ltb (length x) 24 h, ← is, le-ltb most_receive_sges n b, eq-eqb (length x) (24 + 16 * n) e)

        -- its entry at 24 or 40
        pub receive_sge : (at : ℕ) → (at ≡ 24) ⊎ (at ≡ 40) → sge_at x at ≡ decode sge_codec x at
        receive_sge at w = sge_read x at (go w (dec_le (at + 16) (length x)))
          where
            go : (at ≡ 24) ⊎ (at ≡ 40) → Dec (at + 16 ≤ length x) → (length x ≤ at) ⊎ (at + 16 ≤ length x)
            go w (yes y) = inr y
            go (inl a) (no y) = inl (omega arith)
            go (inr a) (no y) = inl (omega arith)
