-- The rows of an object are the card's object, and past a table's end is nothing. Assumes nothing.
use mathlib.Core.Path.{◌≡◌, refl, sym, ap, ◌∙◌}
use mathlib.Core.Bool.{Bool, true, false, cond, false≢true}
use mathlib.Core.List.{List}
use Prim.Native.Nat.{ℕ, ◌+◌, ◌*◌, ◌<◌, ◌≤◌}
use native.Mathlib.Decide.{dec_lt}
use native.Mathlib.Omega.{arith}
use lib.ListN.{get_or}
use borrow.Author.Tests.{eq-eqb, eqb-true}
use Rattle.wire.specs.Slots.{slots}
use Rattle.wire.specs.Table.{row_at}
use Rattle.wire.proofs.RowLaws.{get_d_rows}
use Rattle.wire.proofs.SlotLaws.{slot_in, slot_out}
use Rattle.tables.specs.Card.{Cq, Mr, Qp, cq_live, free_mr, free_qp, free_cq}
use Rattle.tables.specs.Layout.{memory_t, turn_t, pd_flag_t, cq_flag_t, cq_t, entry_t, mr_flag_t, mr_t, page_t, qp_flag_t, receive_t}
use Rattle.tables.specs.Limits.{pd_count, cq_count, mr_count, qp_count, most_places, most_waiting, most_pages, most_queued}
use Rattle.tables.specs.State.{card, queue_at, region_at, pair_at, ring_at, receives_at, pages_at, queued_at, place_at, mr_of, cq_of, qp_of, live_qp, is_live, unread, registration_of, pages_of, no_completion, no_record, no_queued}

-- a number whose slot is not the free one lies in the table
below : {B : Type 0} (count : ℕ) (d : B) (f : ℕ → B) (live : B → Bool) → live d ≡ false → (n : ℕ) → live (slots count d f n) ≡ true → n < count
below count d f live off n e =
    elim (dec_lt n count) [
      | yes h ↦ h
      | no h ↦ absurd (false≢true (sym (ap live (slot_out count d f n (omega arith)) ∙ off) ∙ e))
    ]

module _ (l : List ℕ) where
  pub memory_is : (card l).memory ≡ row_at memory_t l 0
  unfolding card
  memory_is = refl

  pub turn_is : (card l).turn ≡ row_at turn_t l 0
  unfolding card
  turn_is = refl

  module _ (n : ℕ) where
    -- ---- domains
    pub pd_is : n < pd_count → (card l).pd n ≡ is_live (row_at pd_flag_t l n)
    unfolding card
    pd_is h = slot_in pd_count false _ n h

    pub pd_out : pd_count ≤ n → (card l).pd n ≡ false
    unfolding card
    pd_out h = slot_out pd_count false _ n h

    pub pd_below : (card l).pd n ≡ true → n < pd_count
    unfolding card
    pd_below e = below pd_count false _ (λ b. b) refl n e

    -- ---- completion queues
    pub cq_is : n < cq_count → (card l).cq n ≡ cq_of (queue_at l n)
    unfolding card
    cq_is h = slot_in cq_count free_cq _ n h

    pub cq_live_lem : n < cq_count → cq_live (card l) n ≡ is_live (row_at cq_flag_t l n)
    unfolding cq_of queue_at
    cq_live_lem h = ap (λ (q : Cq). q.live) (cq_is h) ∙ go (is_live (row_at cq_flag_t l n))
      where
        go : (b : Bool) → (cond {A = Cq} b (record { live = true; places = (row_at cq_t l n).places; entries = unread (queue_at l n) }) free_cq).live ≡ b
        go true = refl
        go false = refl

    pub cq_out : cq_count ≤ n → cq_live (card l) n ≡ false
    unfolding card
    cq_out h = ap (λ (q : Cq). q.live) (slot_out cq_count free_cq (λ i. cq_of (queue_at l i)) n h)

    pub cq_below : cq_live (card l) n ≡ true → n < cq_count
    unfolding card
    cq_below e = below cq_count free_cq _ (λ (q : Cq). q.live) refl n e

    -- a live completion queue is what its rows say
    pub cq_row : n < cq_count → row_at cq_flag_t l n ≡ 1 → (card l).cq n ≡ record { live = true; places = (row_at cq_t l n).places; entries = unread (queue_at l n) }
    unfolding cq_of queue_at
    cq_row h e = rw (cq_is h, eq-eqb (row_at cq_flag_t l n) 1 e)

    -- ---- regions
    pub mr_is : n < mr_count → (card l).mr n ≡ mr_of (region_at l n)
    unfolding card
    mr_is h = slot_in mr_count (free_mr 0) _ n h

    pub mr_live : n < mr_count → ((card l).mr n).live ≡ is_live (row_at mr_flag_t l n)
    unfolding mr_of region_at
    mr_live h = rw (mr_is h)

    pub mr_variant : n < mr_count → ((card l).mr n).variant ≡ (row_at mr_t l n).variant
    unfolding mr_of region_at
    mr_variant h = rw (mr_is h)

    pub mr_out : mr_count ≤ n → (card l).mr n ≡ free_mr 0
    unfolding card
    mr_out h = slot_out mr_count (free_mr 0) _ n h

    pub mr_below : ((card l).mr n).live ≡ true → n < mr_count
    unfolding card
    mr_below e = below mr_count (free_mr 0) _ (λ (m : Mr). m.live) refl n e

    -- a live region is what its row says
    pub mr_row : n < mr_count → row_at mr_flag_t l n ≡ 1 → ((card l).mr n).reg ≡ registration_of (row_at mr_t l n)
    unfolding mr_of region_at
    mr_row h e = rw (mr_is h, eq-eqb (row_at mr_flag_t l n) 1 e)

    pub page_at : (k : ℕ) → k < most_pages → get_or (pages_at l n) k 0 ≡ row_at page_t l (most_pages * n + k)
    unfolding pages_at
    page_at k h = get_d_rows most_pages (λ k. row_at page_t l (most_pages * n + k)) k 0 h

    -- and lies over the pages that its rows say
    pub mr_pages : n < mr_count → row_at mr_flag_t l n ≡ 1 → ((card l).mr n).pages ≡ pages_of (region_at l n)
    unfolding mr_of region_at
    mr_pages h e = rw (mr_is h, eq-eqb (row_at mr_flag_t l n) 1 e)

    -- ---- queue pairs
    pub qp_is : n < qp_count → (card l).qp n ≡ qp_of (pair_at l n)
    unfolding card
    qp_is h = slot_in qp_count free_qp _ n h

    pub qp_out : qp_count ≤ n → (card l).qp n ≡ free_qp
    unfolding card
    qp_out h = slot_out qp_count free_qp _ n h

    pub qp_below : ((card l).qp n).live ≡ true → n < qp_count
    unfolding card
    qp_below e = below qp_count free_qp _ (λ (q : Qp). q.live) refl n e

    pub qp_live : n < qp_count → ((card l).qp n).live ≡ is_live (row_at qp_flag_t l n)
    unfolding qp_of pair_at
    qp_live h = rw (qp_is h) (go (is_live (row_at qp_flag_t l n)))
      where
        go : (b : Bool) → (cond {A = Qp} b (live_qp (pair_at l n)) free_qp).live ≡ b
        go true = refl
        go false = refl

    pub qp_flag : ((card l).qp n).live ≡ true → row_at qp_flag_t l n ≡ 1
    qp_flag e = eqb-true (row_at qp_flag_t l n) 1 (sym (qp_live (qp_below e)) ∙ e)

    -- a live queue pair is what its rows say
    pub qp_row : n < qp_count → row_at qp_flag_t l n ≡ 1 → (card l).qp n ≡ live_qp (pair_at l n)
    unfolding qp_of pair_at
    qp_row h e = rw (qp_is h, eq-eqb (row_at qp_flag_t l n) 1 e)

  -- place k of a ring
  pub entry_at : (n k : ℕ) → k < most_places → get_or (ring_at l n) k no_completion ≡ row_at entry_t l (most_places * n + k)
  unfolding ring_at
  entry_at n k h = get_d_rows most_places (λ i. row_at entry_t l (most_places * n + i)) k no_completion h

  pub receive_at : (n k : ℕ) → k < most_waiting → get_or (receives_at l n) k no_record ≡ row_at receive_t l (most_waiting * n + k)
  unfolding receives_at
  receive_at n k h = get_d_rows most_waiting (λ i. row_at receive_t l (most_waiting * n + i)) k no_record h

  pub queued_at_lem : (n k : ℕ) → k < most_queued → get_or (queued_at l n) k no_queued ≡ place_at l (most_queued * n + k)
  unfolding queued_at
  queued_at_lem n k h = get_d_rows most_queued (λ i. place_at l (most_queued * n + i)) k no_queued h
