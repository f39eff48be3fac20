-- A store in each table: which object's rows it changes, and what they are then. Assumes nothing.
use mathlib.Core.Path.{◌≡◌, ap, ◌∙◌}
use mathlib.Core.Logic.{◌≢◌}
use mathlib.Core.List.{List}
use Prim.Native.Nat.{ℕ, ◌+◌, ◌*◌, ◌<◌, ◌≤◌}
use native.Mathlib.Omega.{arith}
use lib.ListN.{length, set, take}
use Rattle.wire.specs.Codec.{Fit, Fits, fields_at}
use Rattle.wire.specs.Parts.{part_at, put_part, parts_end}
use Rattle.wire.specs.Rows.{rows}
use Rattle.wire.specs.Table.{row_at, put_row, finish}
use Rattle.wire.proofs.CodecLaws.{fields_at_fit}
use Rattle.wire.proofs.LeLaws.{le_at_below}
use Rattle.wire.proofs.RowLaws.{rows_same, rows_set}
use Rattle.wire.proofs.PartsLaws.{parts_inside, parts_outside, put_part_length, part_block, part_kept, part_other, part_put}
use Rattle.wire.proofs.TableLaws.{Block, block_then, row_kept, inside, outside, elsewhere, store_block, row_stored, row_other, table_other}
use Rattle.tables.specs.Layout.{state_size, pd_flag_base, cq_flag_base, mr_flag_base, qp_flag_base, pd_flag_t, cq_flag_t, cq_t, entry_t, mr_flag_t, mr_t, page_t, qp_flag_t, qp_t, waiting_t, receive_t, send_head_t, kind_t, record_p, kind_base, record_base, queued_count, kind_codec, flag_codec, queue_codec, region_codec, page_codec, pair_codec, waiting_codec}
use Rattle.tables.specs.Limits.{pd_count, cq_count, mr_count, qp_count, most_places, most_waiting, most_pages, most_queued, record_size}
use Rattle.tables.specs.Records.{completion_codec, receive_codec}
use Rattle.tables.specs.State.{queue_at, region_at, pair_at, ring_at, receives_at, pages_at, queued_at, place_at, no_completion, no_record, no_queued}
use Rattle.tables.specs.declared.Completion.{Completion}
use Rattle.tables.specs.declared.QueueHead.{QueueHead}
use Rattle.tables.specs.declared.QueuePair.{QueuePair}
use Rattle.tables.specs.declared.ReceiveRecord.{ReceiveRecord}
use Rattle.tables.specs.declared.Region.{Region}
use Rattle.tables.specs.declared.SendKind.{SendKind}
use Rattle.tables.specs.declared.WaitingHead.{WaitingHead}
use Rattle.tables.proofs.KindLaws.{DomainsOnly, QueuesOnly, RegionsOnly, PairsOnly, ring_kept, receives_kept, pages_kept, queued_kept}

-- what is read out of a table fits it
pub queue_fits : (l : List ℕ) (n : ℕ) → Fits queue_codec (row_at cq_t l n)
unfolding row_at cq_t queue_codec fields_at Fit
queue_fits l n = (le_at_below 1 l _, (le_at_below 1 l _, (le_at_below 1 l _, (omega arith, tt))))

pub pair_fits : (l : List ℕ) (n : ℕ) → Fits pair_codec (row_at qp_t l n)
unfolding row_at qp_t pair_codec fields_at Fit
pair_fits l n =
    (le_at_below 1 l _, (le_at_below 1 l _, (le_at_below 1 l _, (le_at_below 1 l _, (le_at_below 1 l _, (le_at_below 1 l _, (le_at_below 1 l _, (omega arith, tt))))))))

pub waiting_fits : (l : List ℕ) (n : ℕ) → Fits waiting_codec (row_at waiting_t l n)
unfolding row_at waiting_t waiting_codec fields_at
waiting_fits l n = fields_at_fit _ l _

pub sends_fits : (l : List ℕ) (n : ℕ) → Fits waiting_codec (row_at send_head_t l n)
unfolding row_at send_head_t waiting_codec fields_at
sends_fits l n = fields_at_fit _ l _

pub receive_fits : (l : List ℕ) (n : ℕ) → Fits receive_codec (row_at receive_t l n)
unfolding row_at receive_t receive_codec fields_at
receive_fits l n = fields_at_fit _ l _

-- ---- domains
module _ (l : List ℕ) (n : ℕ) (v : ℕ) (b : n < pd_count) where
  pub pd_flag_only : DomainsOnly l (put_row pd_flag_t l n v) n
  unfolding inside finish pd_flag_t flag_codec
  pd_flag_only = record { block = store_block pd_flag_t pd_flag_base cq_flag_base tt l n v b; others = λ i c x. row_other pd_flag_t l n v i x }

  pub pd_flag_at : length l ≡ state_size → v < 256 → row_at pd_flag_t (put_row pd_flag_t l n v) n ≡ v
  unfolding finish pd_flag_t flag_codec Fit
  pd_flag_at e f = row_stored pd_flag_t l n v b (omega arith) (f, tt)

-- ---- completion queues
module _ (l : List ℕ) (n : ℕ) (b : n < cq_count) where
  -- its flag
  module _ (v : ℕ) where
    pub cq_flag_only : QueuesOnly l (put_row cq_flag_t l n v) n
    unfolding queue_at inside outside elsewhere finish cq_flag_t cq_t entry_t flag_codec queue_codec completion_codec
    cq_flag_only =
        record {
          block = store_block cq_flag_t cq_flag_base mr_flag_base tt l n v b;
          others = λ i c x. rw (row_other cq_flag_t l n v i x, table_other cq_flag_t cq_t tt l n v i b c, ring_kept (store_block cq_flag_t cq_flag_t.base (finish cq_flag_t) tt l n v b) tt i c);
        }

    pub cq_flag_at : length l ≡ state_size → Fits cq_flag_t.codec v
        → queue_at (put_row cq_flag_t l n v) n ≡ record { flag = v; head = (queue_at l n).head; ring = (queue_at l n).ring }
    unfolding queue_at inside outside elsewhere finish cq_flag_t cq_t entry_t flag_codec queue_codec completion_codec
    cq_flag_at e f = rw (row_stored cq_flag_t l n v b (omega arith) f, table_other cq_flag_t cq_t tt l n v n b b, ring_kept (store_block cq_flag_t cq_flag_t.base (finish cq_flag_t) tt l n v b) tt n b)

  -- its head
  module _ (v : QueueHead) where
    pub cq_head_only : QueuesOnly l (put_row cq_t l n v) n
    unfolding queue_at inside outside elsewhere finish cq_flag_t cq_t entry_t flag_codec queue_codec completion_codec
    cq_head_only =
        record {
          block = store_block cq_t cq_flag_base mr_flag_base tt l n v b;
          others = λ i c x. rw (table_other cq_t cq_flag_t tt l n v i b c, row_other cq_t l n v i x, ring_kept (store_block cq_t cq_t.base (finish cq_t) tt l n v b) tt i c);
        }

    pub cq_head_at : length l ≡ state_size → Fits cq_t.codec v
        → queue_at (put_row cq_t l n v) n ≡ record { flag = (queue_at l n).flag; head = v; ring = (queue_at l n).ring }
    unfolding queue_at inside outside elsewhere finish cq_flag_t cq_t entry_t flag_codec queue_codec completion_codec
    cq_head_at e f = rw (table_other cq_t cq_flag_t tt l n v n b b, row_stored cq_t l n v b (omega arith) f, ring_kept (store_block cq_t cq_t.base (finish cq_t) tt l n v b) tt n b)

  -- place k of its ring
  module _ (k : ℕ) (d : k < most_places) (v : Completion) where
    abbrev row : ℕ
    row = most_places * n + k

    row_below : row < cq_count * most_places
    row_below = omega arith

    pub entry_only : QueuesOnly l (put_row entry_t l row v) n
    unfolding queue_at ring_at inside outside elsewhere finish cq_flag_t cq_t entry_t flag_codec queue_codec completion_codec
    entry_only =
        record {
          block = store_block entry_t cq_flag_base mr_flag_base tt l row v row_below;
          others = λ i c x. rw (table_other entry_t cq_flag_t tt l row v i row_below c, table_other entry_t cq_t tt l row v i row_below c)
              (let e = rows_same most_places _ _ no_completion (λ j y. row_other entry_t l row v (most_places * i + j) (λ z. x (omega arith))) in rw e);
        }

    ring_put : length l ≡ state_size → Fits completion_codec v → ring_at (put_row entry_t l row v) n ≡ set (ring_at l n) k v
    unfolding ring_at finish entry_t completion_codec
    ring_put e f =
        rows_set most_places (λ j. row_at entry_t l (most_places * n + j)) (λ j. row_at entry_t (put_row entry_t l row v) (most_places * n + j)) k no_completion d
        (λ j _ x. row_other entry_t l row v (most_places * n + j) (λ y. x (omega arith)))
        ∙ ap (λ (x : Completion). set (rows most_places (λ j. row_at entry_t l (most_places * n + j))) k x) (row_stored entry_t l row v row_below (omega arith) f)

    pub entry_at : length l ≡ state_size → Fits completion_codec v
        → queue_at (put_row entry_t l row v) n ≡ record { flag = (queue_at l n).flag; head = (queue_at l n).head; ring = set (queue_at l n).ring k v }
    unfolding queue_at elsewhere outside finish cq_flag_t cq_t entry_t flag_codec queue_codec completion_codec
    entry_at e f = rw (table_other entry_t cq_flag_t tt l row v n row_below b, table_other entry_t cq_t tt l row v n row_below b, ring_put e f)

-- ---- regions
module _ (l : List ℕ) (n : ℕ) (b : n < mr_count) where
  -- its flag
  module _ (v : ℕ) where
    pub mr_flag_only : RegionsOnly l (put_row mr_flag_t l n v) n
    unfolding region_at inside outside elsewhere finish mr_flag_t mr_t page_t flag_codec region_codec page_codec
    mr_flag_only =
        record {
          block = store_block mr_flag_t mr_flag_base qp_flag_base tt l n v b;
          others = λ i c x. rw (row_other mr_flag_t l n v i x, table_other mr_flag_t mr_t tt l n v i b c, pages_kept (store_block mr_flag_t mr_flag_t.base (finish mr_flag_t) tt l n v b) tt i c);
        }

    pub mr_flag_at : length l ≡ state_size → Fits mr_flag_t.codec v
        → region_at (put_row mr_flag_t l n v) n ≡ record { flag = v; row = (region_at l n).row; pages = (region_at l n).pages }
    unfolding region_at inside outside elsewhere finish mr_flag_t mr_t page_t flag_codec region_codec page_codec
    mr_flag_at e f = rw (row_stored mr_flag_t l n v b (omega arith) f, table_other mr_flag_t mr_t tt l n v n b b, pages_kept (store_block mr_flag_t mr_flag_t.base (finish mr_flag_t) tt l n v b) tt n b)

  -- its row
  module _ (v : Region) where
    pub mr_row_only : RegionsOnly l (put_row mr_t l n v) n
    unfolding region_at inside outside elsewhere finish mr_flag_t mr_t page_t flag_codec region_codec page_codec
    mr_row_only =
        record {
          block = store_block mr_t mr_flag_base qp_flag_base tt l n v b;
          others = λ i c x. rw (table_other mr_t mr_flag_t tt l n v i b c, row_other mr_t l n v i x, pages_kept (store_block mr_t mr_t.base (finish mr_t) tt l n v b) tt i c);
        }

    pub mr_row_at : length l ≡ state_size → Fits mr_t.codec v
        → region_at (put_row mr_t l n v) n ≡ record { flag = (region_at l n).flag; row = v; pages = (region_at l n).pages }
    unfolding region_at inside outside elsewhere finish mr_flag_t mr_t page_t flag_codec region_codec page_codec
    mr_row_at e f = rw (table_other mr_t mr_flag_t tt l n v n b b, row_stored mr_t l n v b (omega arith) f, pages_kept (store_block mr_t mr_t.base (finish mr_t) tt l n v b) tt n b)

  -- place k of its page numbers
  module _ (k : ℕ) (d : k < most_pages) (v : ℕ) where
    abbrev page : ℕ
    page = most_pages * n + k

    page_below : page < mr_count * most_pages
    page_below = omega arith

    pub page_only : RegionsOnly l (put_row page_t l page v) n
    unfolding region_at pages_at inside outside elsewhere finish mr_flag_t mr_t page_t flag_codec region_codec page_codec
    page_only =
        record {
          block = store_block page_t mr_flag_base qp_flag_base tt l page v page_below;
          others = λ i c x. rw (table_other page_t mr_flag_t tt l page v i page_below c, table_other page_t mr_t tt l page v i page_below c)
              (let e = rows_same most_pages _ _ 0 (λ j y. row_other page_t l page v (most_pages * i + j) (λ z. x (omega arith))) in rw e);
        }

    pages_put : length l ≡ state_size → Fits page_codec v → pages_at (put_row page_t l page v) n ≡ set (pages_at l n) k v
    unfolding pages_at finish page_t page_codec
    pages_put e f =
        rows_set most_pages (λ j. row_at page_t l (most_pages * n + j)) (λ j. row_at page_t (put_row page_t l page v) (most_pages * n + j)) k 0 d
        (λ j _ x. row_other page_t l page v (most_pages * n + j) (λ y. x (omega arith)))
        ∙ ap (λ (x : ℕ). set (rows most_pages (λ j. row_at page_t l (most_pages * n + j))) k x) (row_stored page_t l page v page_below (omega arith) f)

    pub page_at : length l ≡ state_size → Fits page_codec v
        → region_at (put_row page_t l page v) n ≡ record { flag = (region_at l n).flag; row = (region_at l n).row; pages = set (region_at l n).pages k v }
    unfolding region_at elsewhere outside finish mr_flag_t mr_t page_t flag_codec region_codec page_codec
    page_at e f = rw (table_other page_t mr_flag_t tt l page v n page_below b, table_other page_t mr_t tt l page v n page_below b, pages_put e f)

-- ---- queue pairs
module _ (l : List ℕ) (n : ℕ) (b : n < qp_count) where
  -- its flag
  module _ (v : ℕ) where
    pub qp_flag_only : PairsOnly l (put_row qp_flag_t l n v) n
    unfolding pair_at inside outside elsewhere finish parts_outside parts_end qp_flag_t qp_t waiting_t receive_t send_head_t kind_t kind_codec record_p flag_codec pair_codec waiting_codec receive_codec
    qp_flag_only =
        record {
          block = store_block qp_flag_t qp_flag_base state_size tt l n v b;
          others = λ i c x. rw (row_other qp_flag_t l n v i x, table_other qp_flag_t qp_t tt l n v i b c, table_other qp_flag_t waiting_t tt l n v i b c, receives_kept (store_block qp_flag_t qp_flag_t.base (finish qp_flag_t) tt l n v b) tt i c, table_other qp_flag_t send_head_t tt l n v i b c, queued_kept (store_block qp_flag_t qp_flag_t.base (finish qp_flag_t) tt l n v b) tt i c);
        }

    pub qp_flag_at : length l ≡ state_size → Fits qp_flag_t.codec v
        → pair_at (put_row qp_flag_t l n v) n ≡ record { flag = v; row = (pair_at l n).row; head = (pair_at l n).head; ring = (pair_at l n).ring; sends = (pair_at l n).sends; queued = (pair_at l n).queued }
    unfolding pair_at inside outside elsewhere finish parts_outside parts_end qp_flag_t qp_t waiting_t receive_t send_head_t kind_t kind_codec record_p flag_codec pair_codec waiting_codec receive_codec
    qp_flag_at e f = rw (row_stored qp_flag_t l n v b (omega arith) f, table_other qp_flag_t qp_t tt l n v n b b, table_other qp_flag_t waiting_t tt l n v n b b, receives_kept (store_block qp_flag_t qp_flag_t.base (finish qp_flag_t) tt l n v b) tt n b, table_other qp_flag_t send_head_t tt l n v n b b, queued_kept (store_block qp_flag_t qp_flag_t.base (finish qp_flag_t) tt l n v b) tt n b)

  -- its row
  module _ (v : QueuePair) where
    pub qp_row_only : PairsOnly l (put_row qp_t l n v) n
    unfolding pair_at inside outside elsewhere finish parts_outside parts_end qp_flag_t qp_t waiting_t receive_t send_head_t kind_t kind_codec record_p flag_codec pair_codec waiting_codec receive_codec
    qp_row_only =
        record {
          block = store_block qp_t qp_flag_base state_size tt l n v b;
          others = λ i c x. rw (table_other qp_t qp_flag_t tt l n v i b c, row_other qp_t l n v i x, table_other qp_t waiting_t tt l n v i b c, receives_kept (store_block qp_t qp_t.base (finish qp_t) tt l n v b) tt i c, table_other qp_t send_head_t tt l n v i b c, queued_kept (store_block qp_t qp_t.base (finish qp_t) tt l n v b) tt i c);
        }

    pub qp_row_at : length l ≡ state_size → Fits qp_t.codec v
        → pair_at (put_row qp_t l n v) n ≡ record { flag = (pair_at l n).flag; row = v; head = (pair_at l n).head; ring = (pair_at l n).ring; sends = (pair_at l n).sends; queued = (pair_at l n).queued }
    unfolding pair_at inside outside elsewhere finish parts_outside parts_end qp_flag_t qp_t waiting_t receive_t send_head_t kind_t kind_codec record_p flag_codec pair_codec waiting_codec receive_codec
    qp_row_at e f = rw (table_other qp_t qp_flag_t tt l n v n b b, row_stored qp_t l n v b (omega arith) f, table_other qp_t waiting_t tt l n v n b b, receives_kept (store_block qp_t qp_t.base (finish qp_t) tt l n v b) tt n b, table_other qp_t send_head_t tt l n v n b b, queued_kept (store_block qp_t qp_t.base (finish qp_t) tt l n v b) tt n b)

  -- the head of its waiting receives
  module _ (v : WaitingHead) where
    pub qp_waiting_only : PairsOnly l (put_row waiting_t l n v) n
    unfolding pair_at inside outside elsewhere finish parts_outside parts_end qp_flag_t qp_t waiting_t receive_t send_head_t kind_t kind_codec record_p flag_codec pair_codec waiting_codec receive_codec
    qp_waiting_only =
        record {
          block = store_block waiting_t qp_flag_base state_size tt l n v b;
          others = λ i c x. rw (table_other waiting_t qp_flag_t tt l n v i b c, table_other waiting_t qp_t tt l n v i b c, row_other waiting_t l n v i x, receives_kept (store_block waiting_t waiting_t.base (finish waiting_t) tt l n v b) tt i c, table_other waiting_t send_head_t tt l n v i b c, queued_kept (store_block waiting_t waiting_t.base (finish waiting_t) tt l n v b) tt i c);
        }

    pub qp_waiting_at : length l ≡ state_size → Fits waiting_t.codec v
        → pair_at (put_row waiting_t l n v) n ≡ record { flag = (pair_at l n).flag; row = (pair_at l n).row; head = v; ring = (pair_at l n).ring; sends = (pair_at l n).sends; queued = (pair_at l n).queued }
    unfolding pair_at inside outside elsewhere finish parts_outside parts_end qp_flag_t qp_t waiting_t receive_t send_head_t kind_t kind_codec record_p flag_codec pair_codec waiting_codec receive_codec
    qp_waiting_at e f = rw (table_other waiting_t qp_flag_t tt l n v n b b, table_other waiting_t qp_t tt l n v n b b, row_stored waiting_t l n v b (omega arith) f, receives_kept (store_block waiting_t waiting_t.base (finish waiting_t) tt l n v b) tt n b, table_other waiting_t send_head_t tt l n v n b b, queued_kept (store_block waiting_t waiting_t.base (finish waiting_t) tt l n v b) tt n b)

  -- place k of its receives
  module _ (k : ℕ) (d : k < most_waiting) (v : ReceiveRecord) where
    abbrev slot : ℕ
    slot = most_waiting * n + k

    slot_below : slot < qp_count * most_waiting
    slot_below = omega arith

    pub receive_only : PairsOnly l (put_row receive_t l slot v) n
    unfolding pair_at receives_at inside outside elsewhere finish parts_outside parts_end qp_flag_t qp_t waiting_t receive_t send_head_t kind_t kind_codec record_p flag_codec pair_codec waiting_codec receive_codec
    receive_only =
        record {
          block = store_block receive_t qp_flag_base state_size tt l slot v slot_below;
          others = λ i c x. rw (table_other receive_t qp_flag_t tt l slot v i slot_below c, table_other receive_t qp_t tt l slot v i slot_below c, table_other receive_t waiting_t tt l slot v i slot_below c, table_other receive_t send_head_t tt l slot v i slot_below c, queued_kept (store_block receive_t receive_t.base (finish receive_t) tt l slot v slot_below) tt i c)
              (let e = rows_same most_waiting _ _ no_record (λ j y. row_other receive_t l slot v (most_waiting * i + j) (λ z. x (omega arith))) in rw e);
        }

    receives_put : length l ≡ state_size → Fits receive_codec v → receives_at (put_row receive_t l slot v) n ≡ set (receives_at l n) k v
    unfolding receives_at finish receive_t receive_codec
    receives_put e f =
        rows_set most_waiting (λ j. row_at receive_t l (most_waiting * n + j)) (λ j. row_at receive_t (put_row receive_t l slot v) (most_waiting * n + j)) k no_record d
        (λ j _ x. row_other receive_t l slot v (most_waiting * n + j) (λ y. x (omega arith)))
        ∙ ap (λ (x : ReceiveRecord). set (rows most_waiting (λ j. row_at receive_t l (most_waiting * n + j))) k x) (row_stored receive_t l slot v slot_below (omega arith) f)

    pub receive_at : length l ≡ state_size → Fits receive_codec v
        → pair_at (put_row receive_t l slot v) n ≡ record { flag = (pair_at l n).flag; row = (pair_at l n).row; head = (pair_at l n).head; ring = set (pair_at l n).ring k v; sends = (pair_at l n).sends; queued = (pair_at l n).queued }
    unfolding pair_at inside elsewhere outside finish parts_outside parts_end qp_flag_t qp_t waiting_t receive_t send_head_t kind_t kind_codec record_p flag_codec pair_codec waiting_codec receive_codec
    receive_at e f =
        rw (table_other receive_t qp_flag_t tt l slot v n slot_below b, table_other receive_t qp_t tt l slot v n slot_below b, table_other receive_t waiting_t tt l slot v n slot_below b, receives_put e f, table_other receive_t send_head_t tt l slot v n slot_below b, queued_kept (store_block receive_t receive_t.base (finish receive_t) tt l slot v slot_below) tt n b)

  -- the head of its queued sends
  module _ (v : WaitingHead) where
    pub qp_sends_only : PairsOnly l (put_row send_head_t l n v) n
    unfolding pair_at inside outside elsewhere finish parts_outside parts_end qp_flag_t qp_t waiting_t receive_t send_head_t kind_t kind_codec record_p flag_codec pair_codec waiting_codec receive_codec
    qp_sends_only =
        record {
          block = store_block send_head_t qp_flag_base state_size tt l n v b;
          others = λ i c x. rw (table_other send_head_t qp_flag_t tt l n v i b c, table_other send_head_t qp_t tt l n v i b c, table_other send_head_t waiting_t tt l n v i b c, receives_kept (store_block send_head_t send_head_t.base (finish send_head_t) tt l n v b) tt i c, row_other send_head_t l n v i x, queued_kept (store_block send_head_t send_head_t.base (finish send_head_t) tt l n v b) tt i c);
        }

    pub qp_sends_at : length l ≡ state_size → Fits send_head_t.codec v
        → pair_at (put_row send_head_t l n v) n ≡ record { flag = (pair_at l n).flag; row = (pair_at l n).row; head = (pair_at l n).head; ring = (pair_at l n).ring; sends = v; queued = (pair_at l n).queued }
    unfolding pair_at inside outside elsewhere finish parts_outside parts_end qp_flag_t qp_t waiting_t receive_t send_head_t kind_t kind_codec record_p flag_codec pair_codec waiting_codec receive_codec
    qp_sends_at e f = rw (table_other send_head_t qp_flag_t tt l n v n b b, table_other send_head_t qp_t tt l n v n b b, table_other send_head_t waiting_t tt l n v n b b, receives_kept (store_block send_head_t send_head_t.base (finish send_head_t) tt l n v b) tt n b, row_stored send_head_t l n v b (omega arith) f, queued_kept (store_block send_head_t send_head_t.base (finish send_head_t) tt l n v b) tt n b)

  -- place k of its queued sends: the record x, and its kind v
  module _ (k : ℕ) (d : k < most_queued) (x : List ℕ) (room : length x ≤ record_size) (sized : length l ≡ state_size) (v : SendKind) where
    abbrev place : ℕ
    place = most_queued * n + k

    place_below : place < queued_count
    place_below = omega arith

    abbrev mid : List ℕ
    mid = put_part record_p l place x

    abbrev l' : List ℕ
    l' = put_row kind_t mid place v

    records : Block record_base state_size l mid
    unfolding record_p parts_inside parts_end
    records = part_block record_p l place x place_below room (omega arith) record_base state_size tt

    kinds : Block kind_base record_base mid l'
    unfolding inside finish kind_t kind_codec
    kinds = store_block kind_t kind_base record_base tt mid place v place_below

    kept : Block kind_base state_size l l'
    unfolding record_p parts_inside parts_end inside finish kind_t kind_codec
    kept =
        block_then (part_block record_p l place x place_below room (omega arith) kind_base state_size tt)
        (store_block kind_t kind_base state_size tt mid place v place_below)

    -- the other places stay
    others : (j : ℕ) → j < queued_count → j ≢ place → place_at l' j ≡ place_at l j
    unfolding record_p parts_inside parts_outside parts_end outside finish kind_t kind_codec
    others j h y =
        let a : row_at kind_t l' j ≡ row_at kind_t l j = row_other kind_t mid place v j y ∙ row_kept kind_t record_base state_size tt records j h in
        let c : part_at record_p l' j ≡ part_at record_p l j = part_kept record_p kind_base record_base tt kinds j h ∙ part_other record_p l place x place_below room (omega arith) j y in
        rw (a, c)

    pub place_size : length l' ≡ state_size
    place_size = kept.sized ∙ sized

    -- the place begins with the bytes of x
    pub body_put : take (length x) (part_at record_p l' place) ≡ x
    unfolding record_p parts_outside parts_end
    body_put = ap (take (length x)) (part_kept record_p kind_base record_base tt kinds place place_below) ∙ part_put record_p l place x place_below room (omega arith)

    pub place_only : PairsOnly l l' n
    unfolding pair_at queued_at inside outside finish parts_inside parts_end qp_flag_t qp_t waiting_t receive_t send_head_t kind_t kind_codec record_p flag_codec pair_codec waiting_codec receive_codec
    place_only =
        record {
          block = block_then (part_block record_p l place x place_below room (omega arith) qp_flag_base state_size tt) (store_block kind_t qp_flag_base state_size tt mid place v place_below);
          others = λ i c y. rw (row_kept qp_flag_t _ _ tt kept i c, row_kept qp_t _ _ tt kept i c, row_kept waiting_t _ _ tt kept i c, receives_kept kept tt i c, row_kept send_head_t _ _ tt kept i c)
              (let e = rows_same most_queued _ _ no_queued (λ j z. others (most_queued * i + j) (omega arith) (λ w. y (omega arith))) in rw e);
        }

    kind_put : Fits kind_codec v → row_at kind_t l' place ≡ v
    unfolding finish kind_t kind_codec record_p parts_end
    kind_put f = row_stored kind_t mid place v place_below (let z = put_part_length record_p l place x place_below room (omega arith) in omega arith) f

    queued_put : Fits kind_codec v → queued_at l' n ≡ set (queued_at l n) k (record { kind = v; body = part_at record_p l' place })
    unfolding queued_at
    queued_put f =
        rows_set most_queued (λ j. place_at l (most_queued * n + j)) (λ j. place_at l' (most_queued * n + j)) k no_queued d
        (λ j c y. others (most_queued * n + j) (omega arith) (λ w. y (omega arith)))
        ∙ ap (λ (z : SendKind). set (rows most_queued (λ j. place_at l (most_queued * n + j))) k (record { kind = z; body = part_at record_p l' place })) (kind_put f)

    pub place_at_lem : Fits kind_codec v
        → pair_at l' n ≡ record { flag = (pair_at l n).flag; row = (pair_at l n).row; head = (pair_at l n).head; ring = (pair_at l n).ring; sends = (pair_at l n).sends; queued = set (pair_at l n).queued k (record { kind = v; body = part_at record_p l' place }) }
    unfolding pair_at outside finish qp_flag_t qp_t waiting_t receive_t send_head_t flag_codec pair_codec waiting_codec receive_codec
    place_at_lem f =
        rw (row_kept qp_flag_t _ _ tt kept n b, row_kept qp_t _ _ tt kept n b, row_kept waiting_t _ _ tt kept n b, receives_kept kept tt n b, row_kept send_head_t _ _ tt kept n b, queued_put f)
