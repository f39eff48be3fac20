-- Where each table stands in the lent state: docs/STATE.md. One block for each kind of object: a column of live flags, one byte each, and
-- then its rows. A line is a number's offset in its row, its width in bytes, and its name. Assumes nothing.
use Rattle.std.specs.Prelude.{refl, ℕ, ◌+◌, ◌*◌, [], ◌∷◌, get_or}
use Rattle.wire.specs.Codec.{Codec, line, within, clear, apart}
use Rattle.wire.specs.Parts.{Parts}
use Rattle.wire.specs.Table.{Table}
use Rattle.tables.specs.Limits.{pd_count, cq_count, mr_count, qp_count, most_places, most_waiting, most_pages, most_queued, record_size}
use Rattle.tables.specs.Records.{completion_codec, receive_codec}
use Rattle.tables.specs.declared.Kind.{Kind}
use Rattle.tables.specs.declared.Kind.TheVariants.{Pd, Cq, Mr, Qp}
use Rattle.tables.specs.declared.QueueHead.{QueueHead}
use Rattle.tables.specs.declared.Completion.{Completion}
use Rattle.tables.specs.declared.Region.{Region}
use Rattle.tables.specs.declared.QueuePair.{QueuePair}
use Rattle.tables.specs.declared.WaitingHead.{WaitingHead}
use Rattle.tables.specs.declared.ReceiveRecord.{ReceiveRecord}
use Rattle.tables.specs.declared.SendKind.{SendKind}
use Rattle.tables.specs.declared.WorkQueue.{WorkQueue}
use Rattle.tables.specs.declared.WorkQueue.TheVariants.{Receive, Send}

-- ---- rows

-- the memory length; the header is 16 bytes: this number, the turn place, and 7 bytes that are not used
unfoldable pub memory_codec : Codec ℕ
unfolding within clear apart
memory_codec = record { size = 8; lines = line 0 8 (λ m. m) ∷ []; make = λ vs. get_or vs 0 0; ends = tt; clears = tt; back = λ m. refl }

-- a live flag: 1 where the object is live
unfoldable pub flag_codec : Codec ℕ
unfolding within clear apart
flag_codec = record { size = 1; lines = line 0 1 (λ f. f) ∷ []; make = λ vs. get_or vs 0 0; ends = tt; clears = tt; back = λ f. refl }

-- a completion queue without its ring
unfoldable pub queue_codec : Codec QueueHead
unfolding within clear apart
queue_codec = record {
  size = 4;
  lines = line 0 1 (λ r. r.places) ∷ line 1 1 (λ r. r.first) ∷ line 2 1 (λ r. r.count) ∷ line 3 1 (λ r. 0) ∷ [];
  make = λ vs. record { places = get_or vs 0 0; first = get_or vs 1 0; count = get_or vs 2 0 };
  ends = tt;
  clears = tt;
  back = λ r. refl;
}

-- a region; the variant stays when the slot is free; kind 0 is of adjacent bytes, 1 over pages
unfoldable pub region_codec : Codec Region
unfolding within clear apart
region_codec = record {
  size = 32;
  lines =
      line 0 1 (λ r. r.access) ∷
      line 1 1 (λ r. r.variant) ∷
      line 2 1 (λ r. r.pd) ∷
      line 3 1 (λ r. r.kind) ∷
      line 8 8 (λ r. r.start) ∷
      line 16 8 (λ r. r.length) ∷
      line 24 8 (λ r. r.virt) ∷
      [];
  make = λ vs. record {
    access = get_or vs 0 0;
    variant = get_or vs 1 0;
    pd = get_or vs 2 0;
    kind = get_or vs 3 0;
    start = get_or vs 4 0;
    length = get_or vs 5 0;
    virt = get_or vs 6 0;
  };
  ends = tt;
  clears = tt;
  back = λ r. refl;
}

-- a page of the memory, by its number: its first byte is 4,096 times that
unfoldable pub page_codec : Codec ℕ
unfolding within clear apart
page_codec = record { size = 2; lines = line 0 2 (λ p. p) ∷ []; make = λ vs. get_or vs 0 0; ends = tt; clears = tt; back = λ p. refl }

-- a queue pair; destination 8, no queue pair's number, is none
unfoldable pub pair_codec : Codec QueuePair
unfolding within clear apart
pair_codec = record {
  size = 8;
  lines =
      line 0 1 (λ r. r.pd) ∷
      line 1 1 (λ r. r.signal) ∷
      line 2 1 (λ r. r.scq) ∷
      line 3 1 (λ r. r.rcq) ∷
      line 4 1 (λ r. r.state) ∷
      line 5 1 (λ r. r.dest) ∷
      line 6 1 (λ r. r.rights) ∷
      line 7 1 (λ r. 0) ∷
      [];
  make = λ vs. record {
    pd = get_or vs 0 0;
    signal = get_or vs 1 0;
    scq = get_or vs 2 0;
    rcq = get_or vs 3 0;
    state = get_or vs 4 0;
    dest = get_or vs 5 0;
    rights = get_or vs 6 0;
  };
  ends = tt;
  clears = tt;
  back = λ r. refl;
}

-- where a queue pair's waiting receives stand among its 4 places, or its queued sends among its 8
unfoldable pub waiting_codec : Codec WaitingHead
unfolding within clear apart
waiting_codec = record {
  size = 2;
  lines = line 0 1 (λ r. r.first) ∷ line 1 1 (λ r. r.count) ∷ [];
  make = λ vs. record { first = get_or vs 0 0; count = get_or vs 1 0 };
  ends = tt;
  clears = tt;
  back = λ r. refl;
}

-- what answer 15 asks of a queued send: its opcode, its flags, and its piece count, or with the inline flag its inline length
unfoldable pub kind_codec : Codec SendKind
unfolding within clear apart
kind_codec = record {
  size = 4;
  lines = line 0 1 (λ r. r.opcode) ∷ line 1 1 (λ r. r.flags) ∷ line 2 2 (λ r. r.count) ∷ [];
  make = λ vs. record { opcode = get_or vs 0 0; flags = get_or vs 1 0; count = get_or vs 2 0 };
  ends = tt;
  clears = tt;
  back = λ r. refl;
}

-- ---- where each table begins, and the state's length

abbrev pub receive_count : ℕ
receive_count = qp_count * most_waiting

abbrev pub queued_count : ℕ
queued_count = qp_count * most_queued

abbrev pub entry_count : ℕ
entry_count = cq_count * most_places

abbrev pub turn_base : ℕ
turn_base = 8

abbrev pub pd_flag_base : ℕ
pd_flag_base = 16

-- the block of the completion queues
abbrev pub cq_flag_base : ℕ
cq_flag_base = pd_flag_base + pd_count

abbrev pub cq_base : ℕ
cq_base = cq_flag_base + cq_count

abbrev pub entry_base : ℕ
entry_base = cq_base + cq_count * 4

-- the block of the regions
abbrev pub mr_flag_base : ℕ
mr_flag_base = entry_base + entry_count * 24

abbrev pub mr_base : ℕ
mr_base = mr_flag_base + mr_count

abbrev pub page_count : ℕ
page_count = mr_count * most_pages

abbrev pub page_base : ℕ
page_base = mr_base + mr_count * 32

-- the block of the queue pairs
abbrev pub qp_flag_base : ℕ
qp_flag_base = page_base + page_count * 2

abbrev pub qp_base : ℕ
qp_base = qp_flag_base + qp_count

abbrev pub waiting_base : ℕ
waiting_base = qp_base + qp_count * 8

abbrev pub receive_base : ℕ
receive_base = waiting_base + qp_count * 2

abbrev pub send_head_base : ℕ
send_head_base = receive_base + receive_count * 56

abbrev pub kind_base : ℕ
kind_base = send_head_base + qp_count * 2

abbrev pub record_base : ℕ
record_base = kind_base + queued_count * 4

-- the state's length in bytes, 62,888
abbrev pub state_size : ℕ
state_size = record_base + queued_count * record_size

-- ---- the tables

unfoldable pub memory_t : Table ℕ
memory_t = record { base = 0; count = 1; codec = memory_codec }

-- the queue pair that a turn visits first
unfoldable pub turn_t : Table ℕ
turn_t = record { base = turn_base; count = 1; codec = flag_codec }

unfoldable pub pd_flag_t : Table ℕ
pd_flag_t = record { base = pd_flag_base; count = pd_count; codec = flag_codec }

unfoldable pub cq_flag_t : Table ℕ
cq_flag_t = record { base = cq_flag_base; count = cq_count; codec = flag_codec }

unfoldable pub cq_t : Table QueueHead
cq_t = record { base = cq_base; count = cq_count; codec = queue_codec }

-- 16 completions for each completion queue, each in the completion's layout
unfoldable pub entry_t : Table Completion
entry_t = record { base = entry_base; count = entry_count; codec = completion_codec }

unfoldable pub mr_flag_t : Table ℕ
mr_flag_t = record { base = mr_flag_base; count = mr_count; codec = flag_codec }

unfoldable pub mr_t : Table Region
mr_t = record { base = mr_base; count = mr_count; codec = region_codec }

-- 16 pages for each region
unfoldable pub page_t : Table ℕ
page_t = record { base = page_base; count = page_count; codec = page_codec }

unfoldable pub qp_flag_t : Table ℕ
qp_flag_t = record { base = qp_flag_base; count = qp_count; codec = flag_codec }

unfoldable pub qp_t : Table QueuePair
qp_t = record { base = qp_base; count = qp_count; codec = pair_codec }

unfoldable pub waiting_t : Table WaitingHead
waiting_t = record { base = waiting_base; count = qp_count; codec = waiting_codec }

-- 4 receives for each queue pair, each in the receive record's layout
unfoldable pub receive_t : Table ReceiveRecord
receive_t = record { base = receive_base; count = receive_count; codec = receive_codec }

-- where a queue pair's queued sends stand among its 8 places
unfoldable pub send_head_t : Table WaitingHead
send_head_t = record { base = send_head_base; count = qp_count; codec = waiting_codec }

-- 8 queued sends for each queue pair: what answer 15 asks of each, in a column of its own
unfoldable pub kind_t : Table SendKind
kind_t = record { base = kind_base; count = queued_count; codec = kind_codec }

-- and their records, each as it was lent; the numbers that stand in the column are not looked at there
unfoldable pub record_p : Parts
record_p = record { base = record_base; count = queued_count; size = record_size }

-- ---- the kinds of objects: how many there are of each, and their column of live flags

abbrev pub count_of : Kind → ℕ
count_of Pd = pd_count
count_of Cq = cq_count
count_of Mr = mr_count
count_of Qp = qp_count

abbrev pub flags_of : Kind → Table ℕ
flags_of Pd = pd_flag_t
flags_of Cq = cq_flag_t
flags_of Mr = mr_flag_t
flags_of Qp = qp_flag_t

-- ---- the two queues of a queue pair: their places, and their column of heads

abbrev pub places_of : WorkQueue → ℕ
places_of Receive = most_waiting
places_of Send = most_queued

abbrev pub heads_of : WorkQueue → Table WaitingHead
heads_of Receive = waiting_t
heads_of Send = send_head_t
