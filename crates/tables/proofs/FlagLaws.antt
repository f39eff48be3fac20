-- A live flag is one byte of its kind's column, a head two bytes of its queue's. Assumes nothing.
use Rattle.std.specs.Prelude.{◌≡◌, refl, true, false, ℕ, ◌+◌, ◌*◌, ◌≤◌, ◌<◌, List, [], ◌∷◌, ◌-◌}
use native.Mathlib.Omega.{arith}
use native.Mathlib.Nat.{add-zero, mul-one}
use Rattle.wire.specs.Le.{le_at, put_le}
use Rattle.wire.specs.Ring.{ring_place}
use Rattle.wire.specs.Table.{row_at, put_row, place}
use Rattle.tables.specs.Queue.{drop_bytes, take_bytes, unqueue_bytes}
use Rattle.wire.specs.Codec.{fields_at, put_fields, bytes_from}
use Rattle.tables.specs.Limits.{qp_count}
use Rattle.tables.specs.Layout.{state_size, flag_codec, waiting_codec, count_of, flags_of, heads_of, places_of, waiting_t, send_head_t, pd_flag_t, cq_flag_t, mr_flag_t, qp_flag_t}
use mathlib.Core.Path.{ap}
use Rattle.tables.specs.Card.{live_of, Mr as Card·Mr, Qp as Card·Qp}
use Rattle.tables.specs.State.{card, is_live}
use Rattle.tables.proofs.ObjectLaws.{pd_is, pd_out, pd_below, cq_live_lem, cq_out, cq_below, mr_live, mr_out, mr_below, qp_live, qp_out, qp_below}
use Rattle.tables.specs.declared.Kind.{Kind}
use Rattle.tables.specs.declared.Kind.TheVariants.{Pd, Cq, Mr, Qp}
use Rattle.tables.specs.declared.WaitingHead.{WaitingHead}
use Rattle.tables.specs.declared.WorkQueue.{WorkQueue}
use Rattle.tables.specs.declared.WorkQueue.TheVariants.{Receive, Send}

pub flag_within : (k : Kind) (n : ℕ) → n < count_of k → (flags_of k).base + n + 1 ≤ state_size
unfolding pd_flag_t cq_flag_t mr_flag_t qp_flag_t
flag_within Pd n h = omega arith
flag_within Cq n h = omega arith
flag_within Mr n h = omega arith
flag_within Qp n h = omega arith

pub flag_read : (k : Kind) (l : List ℕ) (n : ℕ) → le_at 1 l ((flags_of k).base + n) ≡ row_at (flags_of k) l n
unfolding row_at flag_codec fields_at place pd_flag_t cq_flag_t mr_flag_t qp_flag_t
flag_read Pd l n = rw (mul-one, add-zero) refl
flag_read Cq l n = rw (mul-one, add-zero) refl
flag_read Mr l n = rw (mul-one, add-zero) refl
flag_read Qp l n = rw (mul-one, add-zero) refl

pub flag_put : (k : Kind) (l : List ℕ) (n v : ℕ) → put_le 1 l ((flags_of k).base + n) v ≡ put_row (flags_of k) l n v
unfolding put_row flag_codec put_fields place pd_flag_t cq_flag_t mr_flag_t qp_flag_t
flag_put Pd l n v = rw (mul-one, add-zero) refl
flag_put Cq l n v = rw (mul-one, add-zero) refl
flag_put Mr l n v = rw (mul-one, add-zero) refl
flag_put Qp l n v = rw (mul-one, add-zero) refl

-- object n of a kind is live where its flag is 1, and not beyond the last
pub object_live : (k : Kind) (l : List ℕ) (n : ℕ) → n < count_of k → live_of (card l) k n ≡ is_live (row_at (flags_of k) l n)
object_live Pd l n h = pd_is l n h
object_live Cq l n h = cq_live_lem l n h
object_live Mr l n h = mr_live l n h
object_live Qp l n h = qp_live l n h

pub object_out : (k : Kind) (l : List ℕ) (n : ℕ) → count_of k ≤ n → live_of (card l) k n ≡ false
object_out Pd l n h = pd_out l n h
object_out Cq l n h = cq_out l n h
object_out Mr l n h = ap (λ (m : Card·Mr). m.live) (mr_out l n h)
object_out Qp l n h = ap (λ (q : Card·Qp). q.live) (qp_out l n h)

pub object_below : (k : Kind) (l : List ℕ) (n : ℕ) → live_of (card l) k n ≡ true → n < count_of k
object_below Pd l n e = pd_below l n e
object_below Cq l n e = cq_below l n e
object_below Mr l n e = mr_below l n e
object_below Qp l n e = qp_below l n e

pub head_within : (k : WorkQueue) (n : ℕ) → n < qp_count → (heads_of k).base + n * 2 + 2 ≤ state_size
unfolding waiting_t send_head_t
head_within Receive n h = omega arith
head_within Send n h = omega arith

pub head_read : (k : WorkQueue) (l : List ℕ) (n : ℕ)
    → record { first = le_at 1 l ((heads_of k).base + n * 2); count = le_at 1 l ((heads_of k).base + n * 2 + 1) } ≡ row_at (heads_of k) l n
unfolding row_at waiting_codec fields_at place waiting_t send_head_t
head_read Receive l n = rw add-zero refl
head_read Send l n = rw add-zero refl

pub head_put : (k : WorkQueue) (l : List ℕ) (n : ℕ) (r : WaitingHead)
    → put_fields (bytes_from 2 0) l ((heads_of k).base + n * 2) (r.first ∷ r.count ∷ []) ≡ put_row (heads_of k) l n r
unfolding put_row waiting_codec place bytes_from waiting_t send_head_t
head_put Receive l n r = refl
head_put Send l n r = refl

abbrev shorter_head : (places : ℕ) → WaitingHead → WaitingHead
shorter_head n h = record { first = ring_place n h.first 1; count = h.count - 1 }

pub head_dropped : (k : WorkQueue) (l : List ℕ) (q : ℕ)
    → put_row (heads_of k) l q (shorter_head (places_of k) (row_at (heads_of k) l q)) ≡ drop_bytes k l q
unfolding take_bytes unqueue_bytes
head_dropped Receive l q = refl
head_dropped Send l q = refl
