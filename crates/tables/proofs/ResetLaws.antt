-- The state that a reset leaves means the fresh card. Assumes nothing.
use mathlib.Core.Path.{◌≡◌, refl, ap, ◌∙◌, fun_ext}
use mathlib.Core.Bool.{Bool, true, false, cond}
use mathlib.Core.List.{List}
use Prim.Native.Nat.{ℕ, zero, suc, ◌+◌, ◌<◌, ◌≤◌}
use native.Mathlib.Omega.{arith}
use lib.ListN.{length, get_or, length-replicate, get_or-replicate, get_or-eq_default}
use native.Mathlib.Decide.{dec_lt}
use lib.Dec.{T, ltb}
use Rattle.wire.specs.Codec.{Fit, fields_at}
use Rattle.wire.specs.Le.{le_at}
use Rattle.wire.specs.Slots.{slots}
use Rattle.wire.specs.Table.{Table, row_at, finish}
use Rattle.wire.proofs.SlotLaws.{slots_same}
use Rattle.wire.proofs.TableLaws.{elsewhere, outside, table_other, row_stored, put_row_length}
use Rattle.tables.specs.Card.{fresh, free_mr, free_qp, free_cq}
use Rattle.tables.specs.State.{card, mr_of, cq_of, qp_of, queue_at, region_at, pair_at}
use Rattle.tables.specs.Layout.{state_size, memory_t, turn_t, pd_flag_t, cq_flag_t, mr_flag_t, mr_t, qp_flag_t, memory_codec, flag_codec, region_codec}
use Rattle.tables.specs.Limits.{pd_count, cq_count, mr_count, qp_count, most_memory}
use Rattle.tables.specs.Reset.{zeros, reset_bytes}
use Rattle.tables.specs.declared.Region.{Region}

pub zeros_length : (n : ℕ) → length (zeros n) ≡ n
zeros_length n = length-replicate {A = ℕ} n 0

zero_at : (n i : ℕ) → get_or (zeros n) i 0 ≡ 0
zero_at n i =
    elim (dec_lt i n) [
      | yes h ↦ get_or-replicate n i 0 0 h
      | no h ↦ get_or-eq_default (zeros n) 0 (let e = zeros_length n in omega arith)
    ]

-- a number among zeros is 0, over the width
zero_read : (w n at : ℕ) → le_at w (zeros n) at ≡ 0
unfolding le_at
zero_read zero n at = refl
zero_read (suc w) n at = rw (zero_at n at, zero_read w n (at + 1))

module _ (memory : ℕ) where
  abbrev l : List ℕ
  l = reset_bytes memory

  pub sized : length l ≡ state_size
  unfolding reset_bytes
  sized = put_row_length memory_t (zeros state_size) 0 memory ∙ zeros_length state_size

  -- a row of another table is made of zeros
  other : {A : Type 0} (t : Table A) → T (elsewhere memory_t t) → (n : ℕ) → n < t.count → row_at t l n ≡ row_at t (zeros state_size) n
  unfolding reset_bytes memory_t
  other t e n h = table_other memory_t t e (zeros state_size) 0 memory n (omega arith) h

  pub pd_zero : (n : ℕ) → n < pd_count → row_at pd_flag_t l n ≡ 0
  unfolding elsewhere outside finish memory_t pd_flag_t memory_codec flag_codec row_at fields_at
  pd_zero n h = other pd_flag_t tt n h ∙ zero_read 1 state_size _

  pub cq_zero : (n : ℕ) → n < cq_count → row_at cq_flag_t l n ≡ 0
  unfolding elsewhere outside finish memory_t cq_flag_t memory_codec flag_codec row_at fields_at
  cq_zero n h = other cq_flag_t tt n h ∙ zero_read 1 state_size _

  pub mr_zero : (n : ℕ) → n < mr_count → row_at mr_flag_t l n ≡ 0
  unfolding elsewhere outside finish memory_t mr_flag_t memory_codec flag_codec row_at fields_at
  mr_zero n h = other mr_flag_t tt n h ∙ zero_read 1 state_size _

  pub qp_zero : (n : ℕ) → n < qp_count → row_at qp_flag_t l n ≡ 0
  unfolding elsewhere outside finish memory_t qp_flag_t memory_codec flag_codec row_at fields_at
  qp_zero n h = other qp_flag_t tt n h ∙ zero_read 1 state_size _

  pub turn_zero : row_at turn_t l 0 ≡ 0
  unfolding elsewhere outside finish memory_t turn_t memory_codec flag_codec row_at fields_at
  turn_zero = other turn_t tt 0 (omega arith) ∙ zero_read 1 state_size _

  variant_zero : (n : ℕ) → n < mr_count → (row_at mr_t l n).variant ≡ 0
  unfolding elsewhere outside finish memory_t mr_t memory_codec region_codec row_at fields_at
  variant_zero n h = ap (λ (r : Region). r.variant) (other mr_t tt n h) ∙ zero_read 1 state_size _

  module _ (least : 1 ≤ memory) (most : memory ≤ most_memory) where
    pub length_stored : row_at memory_t l 0 ≡ memory
    unfolding reset_bytes memory_t memory_codec finish Fit
    length_stored = let z = zeros_length state_size in row_stored memory_t (zeros state_size) 0 memory (omega arith) (omega arith) (omega arith, tt)

    none_slot : {B : Type 0} (count : ℕ) (d : B) (f : ℕ → B) → ((i : ℕ) → i < count → f i ≡ d) → slots count d f ≡ (λ i. d)
    unfolding slots
    none_slot count d f h = slots_same count d (λ i. d) f h ∙ fun_ext (λ i. all_d (ltb i count))
      where
        all_d : (b : Bool) → cond b d d ≡ d
        all_d true = refl
        all_d false = refl

    -- a reset answered 0 leaves no object and no variant handed out
    pub reset_card : card l ≡ fresh memory
    unfolding card mr_of cq_of qp_of slots queue_at region_at pair_at
    reset_card =
        let p0 : (card l).memory ≡ memory = length_stored in
        let p1 : (card l).pd ≡ (fresh memory).pd = none_slot pd_count false _ (λ i h. rw (pd_zero i h)) in
        let p2 : (card l).cq ≡ (fresh memory).cq = none_slot cq_count free_cq _ (λ i h. rw (cq_zero i h)) in
        let p3 : (card l).mr ≡ (fresh memory).mr = none_slot mr_count (free_mr 0) _ (λ i h. rw (mr_zero i h, variant_zero i h)) in
        let p4 : (card l).qp ≡ (fresh memory).qp = none_slot qp_count free_qp _ (λ i h. rw (qp_zero i h)) in
        let p5 : (card l).turn ≡ 0 = turn_zero in
        λ i. record { memory = p0 i; turn = p5 i; pd = p1 i; cq = p2 i; mr = p3 i; qp = p4 i }
