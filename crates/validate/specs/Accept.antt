-- The state test, document 01: "15 exactly if its length is wrong, a stored number, count, QP state, access or region range is outside
-- this paper's limits (so is a QP that names itself as destination), or a live object names a PD or CQ that isn't live."
-- What is not live is not looked at, nor are places of a ring that hold nothing. Executable. Assumes nothing.
use Rattle.std.specs.Prelude.{ℕ, ◌+◌, ◌-◌, ◌*◌, Bool, cond, not, ◌&&◌, ◌||◌, List, length, ◌==◌, nat_le, nat_lt, slice_index}
use Rattle.wire.specs.Checks.{has, only}
use Rattle.wire.specs.Scan.{all, all_below}
use Rattle.wire.specs.Table.{row_at}
use Rattle.tables.specs.Card.{cq_live}
use Rattle.tables.specs.Records.{QueuedSend, sent_in, send_bad}
use Rattle.tables.specs.State.{QueueRows, RegionRows, PairRows, queue_at, region_at, pair_at, pages_needed, unread, posted, queued_in, card}
use Rattle.tables.specs.Layout.{state_size, memory_t, turn_t, pd_flag_t}
use Rattle.tables.specs.Limits.{pd_count, cq_count, mr_count, qp_count, most_places, most_waiting, most_queued}
use Rattle.tables.specs.Limits.{most_memory, most_address, page_size, most_pages, local_write, remote_write, most_access, most_message, most_receive_sges}
use Rattle.tables.specs.declared.Completion.{Completion}
use Rattle.tables.specs.declared.QueueHead.{QueueHead}
use Rattle.tables.specs.declared.QueuePair.{QueuePair}
use Rattle.tables.specs.declared.ReceiveRecord.{ReceiveRecord}
use Rattle.tables.specs.declared.Region.{Region}
use Rattle.tables.specs.declared.WaitingHead.{WaitingHead}

-- 02, M-106: 1 to 16,777,216
abbrev pub memory_ok : ℕ → Bool
memory_ok n = nat_le 1 n && nat_le n most_memory

-- 02, M-108: the queue pair that a turn visits first
abbrev pub turn_ok : ℕ → Bool
turn_ok n = nat_lt n qp_count

abbrev pub flag_ok : ℕ → Bool
flag_ok f = nat_le f 1

-- "Statuses (001, whose list counts from 0): 0 success, 1 local length, 3 local protection, 4 flushed, 7 remote invalid request, 8 remote access."
abbrev pub is_status : ℕ → Bool
is_status s = nat_le s 1 || s == 3 || s == 4 || s == 7 || s == 8

-- "States 0 reset, 1 init, 2 ready to receive (RTR), 3 ready to send (RTS), 6 error."
abbrev pub is_state : ℕ → Bool
is_state s = nat_le s 3 || s == 6

-- an unread completion
abbrev pub completion_ok : Completion → Bool
completion_ok e = is_status e.status && nat_le e.opcode 4 && nat_le e.length most_message && nat_lt e.owner qp_count

-- a live completion queue: "of 1 to 16 places"
abbrev pub queue_ok : QueueHead → Bool
queue_ok h = nat_le 1 h.places && nat_le h.places most_places && nat_lt h.first most_places && nat_le h.count h.places

-- a region's access bits; 02, M-102: "a region with remote write must also have local write"
abbrev pub access_ok : ℕ → Bool
access_ok a = only most_access a && (not (has remote_write a) || has local_write a)

-- a live region's own fields: its access (02, M-102: "A state with one gives 15"), its variant, its range in the addresses
abbrev pub fields_ok : Region → Bool
fields_ok r = access_ok r.access && nat_le 1 r.variant && nat_le 1 r.length && nat_le (r.virt + r.length) most_address

-- 02, M-105, of a page's first byte: "with the whole page inside the memory"
abbrev pub page_inside : (memory page : ℕ) → Bool
page_inside memory p = nat_le (p + page_size) memory

-- a region's page numbers, those that start + length needs
abbrev pub numbers_ok : (memory count : ℕ) → (pages : List ℕ) → Bool
numbers_ok memory count ps = all_below count (λ k. page_inside memory (page_size * slice_index ps k))

-- 02, M-105, over pages: "Start is the offset into the first page, 0 to 4095", "exactly the pages that start + length needs, at most 16"
abbrev pub paged_ok : ℕ → RegionRows → Bool
paged_ok memory r =
    nat_le r.row.start (page_size - 1) && nat_le (r.row.start + r.row.length) (most_pages * page_size)
    && numbers_ok memory (pages_needed r.row.start r.row.length) r.pages

-- where a region lies in the memory, by its kind
abbrev pub land_ok : ℕ → RegionRows → Bool
land_ok memory r = cond (r.row.kind == 0) (nat_le (r.row.start + r.row.length) memory) (r.row.kind == 1 && paged_ok memory r)

abbrev pub region_ok : ℕ → RegionRows → Bool
region_ok memory r = fields_ok r.row && land_ok memory r

-- a live queue pair n: "QP state", its access flags (02, M-104: no bit above 2), and "(so is a QP that names itself as destination)"
abbrev pub pair_ok : ℕ → QueuePair → Bool
pair_ok n p =
    nat_le p.signal 1 && is_state p.state && only most_access p.rights && nat_le p.dest qp_count && not (p.dest == n)

-- "each with up to 4 waiting receives"
abbrev pub waiting_ok : WaitingHead → Bool
waiting_ok h = nat_lt h.first most_waiting && nat_le h.count most_waiting

-- "at most two" pieces
abbrev pub receive_ok : ReceiveRecord → Bool
receive_ok r = nat_le r.count most_receive_sges

-- 02, M-108: "Each QP gets a queue of 8 send records"
abbrev pub queue_head_ok : WaitingHead → Bool
queue_head_ok h = nat_lt h.first most_queued && nat_le h.count most_queued

-- "A queue in a state other than 3 or 6 .. gives 15"
abbrev pub may_queue : (state : ℕ) → Bool
may_queue s = s == 3 || s == 6

-- "or a queued record that 1 or 4 refuses": 4 by its numbers; 1 never, for its length is what they say
abbrev pub queued_ok : QueuedSend → Bool
queued_ok s = not (send_bad (sent_in s))

-- ---- the object numbered n of each table: free, or within its limits and naming live objects only; a flag is 0 or 1

unfoldable pub pd_ok : List ℕ → ℕ → Bool
pd_ok l n = flag_ok (row_at pd_flag_t l n)

abbrev pub cq_sound : QueueRows → Bool
cq_sound r = r.flag == 0 || (r.flag == 1 && (queue_ok r.head && all completion_ok (unread r)))

unfoldable pub cq_ok : List ℕ → ℕ → Bool
cq_ok l n = cq_sound (queue_at l n)

-- pd tells the live domains
abbrev pub mr_sound : (pd : ℕ → Bool) → (memory : ℕ) → RegionRows → Bool
mr_sound pd memory r = r.flag == 0 || (r.flag == 1 && pd r.row.pd && region_ok memory r)

unfoldable pub mr_ok : List ℕ → ℕ → Bool
mr_ok l n = mr_sound (card l).pd (row_at memory_t l 0) (region_at l n)

-- the domain and the completion queues that a queue pair names, where pd and cq tell the live ones
abbrev pub names_ok : (pd cq : ℕ → Bool) → QueuePair → Bool
names_ok pd cq p = pd p.pd && cq p.scq && cq p.rcq

-- its waiting receives
abbrev pub receives_ok : PairRows → Bool
receives_ok r = waiting_ok r.head && all receive_ok (posted r)

-- its queued sends
abbrev pub sends_ok : PairRows → Bool
sends_ok r = queue_head_ok r.sends && (r.sends.count == 0 || (may_queue r.row.state && all queued_ok (queued_in r)))

abbrev pub qp_sound : (pd cq : ℕ → Bool) → ℕ → PairRows → Bool
qp_sound pd cq n r =
    (r.flag == 0) || (r.flag == 1 && (names_ok pd cq r.row && pair_ok n r.row && receives_ok r && sends_ok r))

unfoldable pub qp_ok : List ℕ → ℕ → Bool
qp_ok l n = qp_sound (card l).pd (cq_live (card l)) n (pair_at l n)

-- ---- the test

unfoldable pub accepts : List ℕ → Bool
accepts l =
    (length l == state_size)
    && (memory_ok (row_at memory_t l 0) && turn_ok (row_at turn_t l 0) && all_below pd_count (pd_ok l) && all_below cq_count (cq_ok l)
    && all_below mr_count (mr_ok l) && all_below qp_count (qp_ok l))
