-- What a state means: the card whose objects it lists. Past the end of a table nothing is live, and an object that is not live
-- means the free object whatever else its rows hold, but for the variant of a region slot, which stays. Assumes nothing.
use Rattle.std.specs.Prelude.{Bool, true, false, cond, List, [], map, ℕ, ◌+◌, ◌-◌, ◌*◌, ◌/◌, eqb, take}
use Rattle.std.proofs.Math.Option.{Option, none, some}
use Rattle.wire.specs.Parts.{part_at}
use Rattle.wire.specs.Ring.{ring_list}
use Rattle.wire.specs.Rows.{rows}
use Rattle.wire.specs.Slots.{slots}
use Rattle.wire.specs.Table.{row_at}
use Rattle.tables.specs.Card.{Card, Cq, Mr, Qp, receive_of, no_registration, free_mr, free_qp, free_cq}
use Rattle.tables.specs.Layout.{memory_t, turn_t, pd_flag_t, mr_flag_t, mr_t, page_t, cq_flag_t, cq_t, entry_t, qp_flag_t, qp_t, waiting_t, receive_t, send_head_t, kind_t, record_p}
use Rattle.tables.specs.Limits.{pd_count, cq_count, mr_count, qp_count, most_places, most_waiting, page_size, most_pages, most_queued}
use Rattle.tables.specs.Records.{QueuedSend, request_in}
use Rattle.tables.specs.declared.Completion.{Completion}
use Rattle.tables.specs.declared.QueueHead.{QueueHead}
use Rattle.tables.specs.declared.QueuePair.{QueuePair}
use Rattle.tables.specs.declared.ReceiveRecord.{ReceiveRecord}
use Rattle.tables.specs.declared.Region.{Region}
use Rattle.tables.specs.declared.Registration.{Registration}
use Rattle.tables.specs.declared.WaitingHead.{WaitingHead}

-- ---- the rows of one object

-- a completion queue: its flag, its head, and the 16 places of its ring as they stand
pub record QueueRows : Type 0 where
  pub flag : ℕ
  pub head : QueueHead
  pub ring : List Completion

-- a region: its flag, its row, and its 16 places for page numbers as they stand
pub record RegionRows : Type 0 where
  pub flag : ℕ
  pub row : Region
  pub pages : List ℕ

-- a queue pair: its flag, its row, where its receives stand, and their 4 places as they stand; where its queued sends stand, and
-- their 8 places
pub record PairRows : Type 0 where
  pub flag : ℕ
  pub row : QueuePair
  pub head : WaitingHead
  pub ring : List ReceiveRecord
  pub sends : WaitingHead
  pub queued : List QueuedSend

unfoldable pub ring_at : List ℕ → ℕ → List Completion
ring_at l n = rows most_places (λ k. row_at entry_t l (most_places * n + k))

unfoldable pub receives_at : List ℕ → ℕ → List ReceiveRecord
receives_at l n = rows most_waiting (λ k. row_at receive_t l (most_waiting * n + k))

-- place p of the queued sends of all queue pairs; 8 of them are those of queue pair n
abbrev pub place_at : List ℕ → ℕ → QueuedSend
place_at l p = record { kind = row_at kind_t l p; body = part_at record_p l p }

unfoldable pub queued_at : List ℕ → ℕ → List QueuedSend
queued_at l n = rows most_queued (λ k. place_at l (most_queued * n + k))

unfoldable pub pages_at : List ℕ → ℕ → List ℕ
pages_at l n = rows most_pages (λ k. row_at page_t l (most_pages * n + k))

unfoldable pub queue_at : List ℕ → ℕ → QueueRows
queue_at l n = record { flag = row_at cq_flag_t l n; head = row_at cq_t l n; ring = ring_at l n }

unfoldable pub region_at : List ℕ → ℕ → RegionRows
region_at l n = record { flag = row_at mr_flag_t l n; row = row_at mr_t l n; pages = pages_at l n }

unfoldable pub pair_at : List ℕ → ℕ → PairRows
pair_at l n =
    record {
      flag = row_at qp_flag_t l n;
      row = row_at qp_t l n;
      head = row_at waiting_t l n;
      ring = receives_at l n;
      sends = row_at send_head_t l n;
      queued = queued_at l n;
    }

-- ---- rows to objects

abbrev pub is_live : ℕ → Bool
is_live flag = eqb flag 1

abbrev pub registration_of : Region → Registration
registration_of r = record { pd = r.pd; access = r.access; start = r.start; length = r.length; virt = r.virt }

-- 02, M-105: "exactly the pages that start + length needs"
unfoldable pub pages_needed : (start length : ℕ) → ℕ
pages_needed s n = (s + n + (page_size - 1)) / page_size

-- the page numbers that a region over pages needs
abbrev pub needed : RegionRows → List ℕ
needed r = take (pages_needed r.row.start r.row.length) r.pages

-- the first bytes of its pages; none of a region of adjacent bytes
abbrev pub pages_of : RegionRows → List ℕ
pages_of r = cond (eqb r.row.kind 0) [] (map (λ p. page_size * p) (needed r))

unfoldable pub mr_of : RegionRows → Mr
mr_of r =
    record {
      live = is_live r.flag;
      variant = r.row.variant;
      reg = cond (is_live r.flag) (registration_of r.row) no_registration;
      pages = cond (is_live r.flag) (pages_of r) [];
    }

-- what stands at a place of no ring
abbrev pub no_completion : Completion
no_completion = record { wr = 0; status = 0; opcode = 0; length = 0; imm = 0; owner = 0 }

abbrev pub no_record : ReceiveRecord
no_record = record { wr = 0; count = 0; first = record { address = 0; length = 0; key = 0 }; second = record { address = 0; length = 0; key = 0 } }

abbrev pub no_queued : QueuedSend
no_queued = record { kind = record { opcode = 0; flags = 0; count = 0 }; body = [] }

-- a completion queue's unread completions, and a queue pair's waiting receives: the ring from its first place on, the oldest first
abbrev pub unread : QueueRows → List Completion
unread r = ring_list no_completion most_places r.ring r.head.first r.head.count

abbrev pub posted : PairRows → List ReceiveRecord
posted r = ring_list no_record most_waiting r.ring r.head.first r.head.count

-- and its queued sends
abbrev pub queued_in : PairRows → List QueuedSend
queued_in r = ring_list no_queued most_queued r.queued r.sends.first r.sends.count

unfoldable pub cq_of : QueueRows → Cq
cq_of r = cond (is_live r.flag) (record { live = true; places = r.head.places; entries = unread r }) free_cq

-- destination 8 is none
abbrev pub dest_of : ℕ → Option ℕ
dest_of d = cond (eqb d qp_count) none (some d)

abbrev pub live_qp : PairRows → Qp
live_qp r =
    record {
      live = true;
      pd = r.row.pd;
      signal = r.row.signal;
      scq = r.row.scq;
      rcq = r.row.rcq;
      state = r.row.state;
      dest = dest_of r.row.dest;
      rights = r.row.rights;
      waiting = map receive_of (posted r);
      queue = map request_in (queued_in r);
    }

unfoldable pub qp_of : PairRows → Qp
qp_of r = cond (is_live r.flag) (live_qp r) free_qp

-- ---- the card

-- "An accepted state means the objects it lists."
unfoldable pub card : List ℕ → Card
card l =
    record {
      memory = row_at memory_t l 0;
      turn = row_at turn_t l 0;
      pd = slots pd_count false (λ n. is_live (row_at pd_flag_t l n));
      cq = slots cq_count free_cq (λ n. cq_of (queue_at l n));
      mr = slots mr_count (free_mr 0) (λ n. mr_of (region_at l n));
      qp = slots qp_count free_qp (λ n. qp_of (pair_at l n));
    }
