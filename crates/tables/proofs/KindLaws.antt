-- Stores by kind of object. Each kind of object has one block of the state; a store in a table of it changes the rows of one object, and
-- a sequence of stores to one object is judged at its end: what the card then is, whatever stood there in between. Assumes nothing.
use mathlib.Core.Path.{◌≡◌, ap, ◌∙◌}
use mathlib.Core.Logic.{◌≢◌}
use mathlib.Core.Bool.{Bool, false, ◌&&◌}
use mathlib.Core.List.{List}
use Prim.Native.Nat.{ℕ, ◌+◌, ◌*◌, ◌<◌}
use native.Mathlib.Omega.{arith}
use lib.Dec.{T}
use lib.ListN.{length}
use Rattle.wire.specs.Slots.{slots, upd}
use Rattle.wire.specs.Parts.{parts_end}
use Rattle.wire.specs.Codec.{Fit}
use Rattle.wire.specs.Table.{row_at, put_row, finish}
use Rattle.wire.proofs.CodecLaws.{both}
use Rattle.wire.proofs.RowLaws.{rows_same}
use Rattle.wire.proofs.SlotLaws.{slots_same, slots_upd}
use Rattle.wire.proofs.PartsLaws.{parts_outside, part_kept}
use Rattle.wire.proofs.TableLaws.{Block, block_then, inside, outside, row_kept, row_stored, store_block}
use Rattle.tables.specs.Card.{with_pd, with_cq, with_mr, with_qp, with_turn, free_mr, free_qp, free_cq}
use Rattle.tables.specs.Layout.{state_size, queued_count, turn_base, pd_flag_base, cq_flag_base, mr_flag_base, qp_flag_base, memory_t, turn_t, pd_flag_t, cq_flag_t, cq_t, entry_t, mr_flag_t, mr_t, page_t, qp_flag_t, qp_t, waiting_t, receive_t, send_head_t, kind_t, record_p, kind_codec, flag_codec, queue_codec, region_codec, page_codec, pair_codec, waiting_codec, memory_codec}
use Rattle.tables.specs.Limits.{pd_count, cq_count, mr_count, qp_count, most_places, most_waiting, most_pages, most_queued}
use Rattle.tables.specs.Records.{completion_codec, receive_codec}
use Rattle.tables.specs.State.{queue_at, region_at, pair_at, ring_at, receives_at, pages_at, queued_at, place_at, mr_of, cq_of, qp_of, is_live, no_completion, no_record, no_queued, card}

-- ---- what a change within some bytes leaves, where no table of the kind has any of them

module _ (from to : ℕ) where
  abbrev pub queues_outside : Bool
  queues_outside = outside cq_flag_t from to && (outside cq_t from to && outside entry_t from to)

  abbrev pub regions_outside : Bool
  regions_outside = outside mr_flag_t from to && (outside mr_t from to && outside page_t from to)

  abbrev pub queued_outside : Bool
  queued_outside = outside kind_t from to && parts_outside record_p from to

  abbrev pub pairs_outside : Bool
  pairs_outside =
      outside qp_flag_t from to && (outside qp_t from to && (outside waiting_t from to && (outside receive_t from to && (outside send_head_t from to && queued_outside))))

module _ {from to : ℕ} {l l' : List ℕ} (b : Block from to l l') where
  pub memory_kept : T (outside memory_t from to) → row_at memory_t l' 0 ≡ row_at memory_t l 0
  unfolding memory_t
  memory_kept e = row_kept memory_t from to e b 0 (omega arith)

  pub turn_kept : T (outside turn_t from to) → row_at turn_t l' 0 ≡ row_at turn_t l 0
  unfolding turn_t
  turn_kept e = row_kept turn_t from to e b 0 (omega arith)

  pub pd_kept : T (outside pd_flag_t from to) → (card l').pd ≡ (card l).pd
  unfolding card pd_flag_t
  pd_kept e = slots_same pd_count false _ _ (λ i h. rw (row_kept pd_flag_t from to e b i h))

  pub ring_kept : T (outside entry_t from to) → (i : ℕ) → i < cq_count → ring_at l' i ≡ ring_at l i
  unfolding ring_at entry_t
  ring_kept e i h = rows_same most_places _ _ no_completion (λ k c. row_kept entry_t from to e b (most_places * i + k) (omega arith))

  pub receives_kept : T (outside receive_t from to) → (i : ℕ) → i < qp_count → receives_at l' i ≡ receives_at l i
  unfolding receives_at receive_t
  receives_kept e i h = rows_same most_waiting _ _ no_record (λ k c. row_kept receive_t from to e b (most_waiting * i + k) (omega arith))

  pub place_kept : T (queued_outside from to) → (p : ℕ) → p < queued_count → place_at l' p ≡ place_at l p
  unfolding kind_t record_p
  place_kept e p h =
      let w = both (outside kind_t from to) (parts_outside record_p from to) e in
      rw (row_kept kind_t from to w.0 b p h, part_kept record_p from to w.1 b p h)

  pub queued_kept : T (queued_outside from to) → (i : ℕ) → i < qp_count → queued_at l' i ≡ queued_at l i
  unfolding queued_at
  queued_kept e i h = rows_same most_queued _ _ no_queued (λ k c. place_kept e (most_queued * i + k) (omega arith))

  pub queue_kept : T (queues_outside from to) → (i : ℕ) → i < cq_count → queue_at l' i ≡ queue_at l i
  unfolding queue_at cq_flag_t cq_t
  queue_kept e i h =
      let p = both (outside cq_flag_t from to) (outside cq_t from to && outside entry_t from to) e in
      let q = both (outside cq_t from to) (outside entry_t from to) p.1 in
      rw (row_kept cq_flag_t from to p.0 b i h, row_kept cq_t from to q.0 b i h, ring_kept q.1 i h)

  pub pages_kept : T (outside page_t from to) → (i : ℕ) → i < mr_count → pages_at l' i ≡ pages_at l i
  unfolding pages_at page_t
  pages_kept e i h = rows_same most_pages _ _ 0 (λ k c. row_kept page_t from to e b (most_pages * i + k) (omega arith))

  pub region_kept : T (regions_outside from to) → (i : ℕ) → i < mr_count → region_at l' i ≡ region_at l i
  unfolding region_at mr_flag_t mr_t
  region_kept e i h =
      let p = both (outside mr_flag_t from to) (outside mr_t from to && outside page_t from to) e in
      let q = both (outside mr_t from to) (outside page_t from to) p.1 in
      rw (row_kept mr_flag_t from to p.0 b i h, row_kept mr_t from to q.0 b i h, pages_kept q.1 i h)

  pub pair_kept : T (pairs_outside from to) → (i : ℕ) → i < qp_count → pair_at l' i ≡ pair_at l i
  unfolding pair_at qp_flag_t qp_t waiting_t send_head_t
  pair_kept e i h =
      let x : Bool = outside send_head_t from to && queued_outside from to in
      let p = both (outside qp_flag_t from to) (outside qp_t from to && (outside waiting_t from to && (outside receive_t from to && x))) e in
      let q = both (outside qp_t from to) (outside waiting_t from to && (outside receive_t from to && x)) p.1 in
      let r = both (outside waiting_t from to) (outside receive_t from to && x) q.1 in
      let s = both (outside receive_t from to) x r.1 in
      let t = both (outside send_head_t from to) (queued_outside from to) s.1 in
      rw (
        row_kept qp_flag_t from to p.0 b i h,
        row_kept qp_t from to q.0 b i h,
        row_kept waiting_t from to r.0 b i h,
        receives_kept s.0 i h,
        row_kept send_head_t from to t.0 b i h,
        queued_kept t.1 i h,
      )

  pub cq_kept : T (queues_outside from to) → (card l').cq ≡ (card l).cq
  unfolding card
  cq_kept e = slots_same cq_count free_cq _ _ (λ i h. ap cq_of (queue_kept e i h))

  pub mr_kept : T (regions_outside from to) → (card l').mr ≡ (card l).mr
  unfolding card
  mr_kept e = slots_same mr_count (free_mr 0) _ _ (λ i h. ap mr_of (region_kept e i h))

  pub qp_kept : T (pairs_outside from to) → (card l').qp ≡ (card l).qp
  unfolding card
  qp_kept e = slots_same qp_count free_qp _ _ (λ i h. ap qp_of (pair_kept e i h))

-- ---- a change of one object of a kind

-- only the rows of object n of the kind may differ
pub record Only {R : Type 0} (from to count : ℕ) (at : List ℕ → ℕ → R) (l l' : List ℕ) (n : ℕ) : Type 0 where
  pub block : Block from to l l'
  pub others : (i : ℕ) → i < count → i ≢ n → at l' i ≡ at l i

-- one store after another
pub only_then : {R : Type 0} {from to count : ℕ} {at : List ℕ → ℕ → R} {l l' l'' : List ℕ} {n : ℕ}
    → Only from to count at l l' n → Only from to count at l' l'' n → Only from to count at l l'' n
only_then a b = record { block = block_then a.block b.block; others = λ i h x. b.others i h x ∙ a.others i h x }

abbrev pub flag_at : List ℕ → ℕ → ℕ
flag_at l n = row_at pd_flag_t l n

abbrev pub DomainsOnly : (l l' : List ℕ) → ℕ → Type 0
DomainsOnly = Only pd_flag_base cq_flag_base pd_count flag_at

abbrev pub QueuesOnly : (l l' : List ℕ) → ℕ → Type 0
QueuesOnly = Only cq_flag_base mr_flag_base cq_count queue_at

abbrev pub RegionsOnly : (l l' : List ℕ) → ℕ → Type 0
RegionsOnly = Only mr_flag_base qp_flag_base mr_count region_at

abbrev pub PairsOnly : (l l' : List ℕ) → ℕ → Type 0
PairsOnly = Only qp_flag_base state_size qp_count pair_at

-- the card's table of the kind
changed : {R B : Type 0} {from to count : ℕ} {at : List ℕ → ℕ → R} {l l' : List ℕ} {n : ℕ} (d : B) (of : R → B) → n < count
    → Only from to count at l l' n → slots count d (λ i. of (at l' i)) ≡ upd (slots count d (λ i. of (at l i))) n (of (at l' n))
changed {count = count} {at = at} {l = l} {l' = l'} {n = n} d of h o =
    slots_upd count d (λ i. of (at l i)) (λ i. of (at l' i)) n h (λ i c x. ap of (o.others i c x))

module _ {l l' : List ℕ} {n : ℕ} where
  pub domain_card : n < pd_count → DomainsOnly l l' n → card l' ≡ with_pd (card l) (upd (card l).pd n (is_live (row_at pd_flag_t l' n)))
  unfolding card outside finish parts_outside parts_end memory_t turn_t send_head_t kind_t kind_codec record_p cq_flag_t cq_t entry_t mr_flag_t mr_t page_t page_codec qp_flag_t qp_t waiting_t receive_t flag_codec queue_codec completion_codec region_codec pair_codec waiting_codec receive_codec memory_codec
  domain_card h o =
      let p0 = memory_kept o.block tt in
      let p1 = changed false (λ f. is_live f) h o in
      let p2 = cq_kept o.block tt in
      let p3 = mr_kept o.block tt in
      let p4 = qp_kept o.block tt in
      let p5 = turn_kept o.block tt in
      λ i. record { memory = p0 i; turn = p5 i; pd = p1 i; cq = p2 i; mr = p3 i; qp = p4 i }

  pub queue_card : n < cq_count → QueuesOnly l l' n → card l' ≡ with_cq (card l) (upd (card l).cq n (cq_of (queue_at l' n)))
  unfolding card outside finish parts_outside parts_end memory_t turn_t send_head_t kind_t kind_codec record_p pd_flag_t mr_flag_t mr_t page_t page_codec qp_flag_t qp_t waiting_t receive_t flag_codec region_codec pair_codec waiting_codec receive_codec memory_codec
  queue_card h o =
      let p0 = memory_kept o.block tt in
      let p1 = pd_kept o.block tt in
      let p2 = changed free_cq cq_of h o in
      let p3 = mr_kept o.block tt in
      let p4 = qp_kept o.block tt in
      let p5 = turn_kept o.block tt in
      λ i. record { memory = p0 i; turn = p5 i; pd = p1 i; cq = p2 i; mr = p3 i; qp = p4 i }

  pub region_card : n < mr_count → RegionsOnly l l' n → card l' ≡ with_mr (card l) (upd (card l).mr n (mr_of (region_at l' n)))
  unfolding card outside finish parts_outside parts_end memory_t turn_t send_head_t kind_t kind_codec record_p pd_flag_t cq_flag_t cq_t entry_t qp_flag_t qp_t waiting_t receive_t flag_codec queue_codec completion_codec pair_codec waiting_codec receive_codec memory_codec
  region_card h o =
      let p0 = memory_kept o.block tt in
      let p1 = pd_kept o.block tt in
      let p2 = cq_kept o.block tt in
      let p3 = changed (free_mr 0) mr_of h o in
      let p4 = qp_kept o.block tt in
      let p5 = turn_kept o.block tt in
      λ i. record { memory = p0 i; turn = p5 i; pd = p1 i; cq = p2 i; mr = p3 i; qp = p4 i }

  pub pair_card : n < qp_count → PairsOnly l l' n → card l' ≡ with_qp (card l) (upd (card l).qp n (qp_of (pair_at l' n)))
  unfolding card outside finish parts_outside parts_end memory_t turn_t send_head_t kind_t kind_codec record_p pd_flag_t cq_flag_t cq_t entry_t mr_flag_t mr_t page_t page_codec flag_codec queue_codec completion_codec region_codec memory_codec
  pair_card h o =
      let p0 = memory_kept o.block tt in
      let p1 = pd_kept o.block tt in
      let p2 = cq_kept o.block tt in
      let p3 = mr_kept o.block tt in
      let p4 = changed free_qp qp_of h o in
      let p5 = turn_kept o.block tt in
      λ i. record { memory = p0 i; turn = p5 i; pd = p1 i; cq = p2 i; mr = p3 i; qp = p4 i }

-- ---- the turn place

module _ (l : List ℕ) (n : ℕ) where
  pub turn_block : Block turn_base pd_flag_base l (put_row turn_t l 0 n)
  unfolding inside finish turn_t flag_codec
  turn_block = store_block turn_t turn_base pd_flag_base tt l 0 n (omega arith)

  pub turn_at : length l ≡ state_size → n < 256 → row_at turn_t (put_row turn_t l 0 n) 0 ≡ n
  unfolding finish turn_t flag_codec Fit
  turn_at e f = row_stored turn_t l 0 n (omega arith) (omega arith) (f, tt)

  pub turn_card : length l ≡ state_size → n < 256 → card (put_row turn_t l 0 n) ≡ with_turn (card l) n
  unfolding card outside finish parts_outside parts_end memory_t send_head_t kind_t kind_codec record_p pd_flag_t cq_flag_t cq_t entry_t mr_flag_t mr_t page_t page_codec qp_flag_t qp_t waiting_t receive_t flag_codec queue_codec completion_codec region_codec pair_codec waiting_codec receive_codec memory_codec
  turn_card e f =
      let p0 = memory_kept turn_block tt in
      let p1 = pd_kept turn_block tt in
      let p2 = cq_kept turn_block tt in
      let p3 = mr_kept turn_block tt in
      let p4 = qp_kept turn_block tt in
      let p5 = turn_at e f in
      λ i. record { memory = p0 i; turn = p5 i; pd = p1 i; cq = p2 i; mr = p3 i; qp = p4 i }
