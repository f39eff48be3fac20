-- Completion queues, waiting receives and queued sends in the state: document 01's struct with its ring, and the bytes that one entry
-- more or one fewer leaves. Assumes nothing.
use Rattle.std.specs.Prelude.{List, ℕ, ◌+◌, ◌*◌, ◌-◌, set}
use Rattle.wire.specs.Codec.{decode}
use Rattle.wire.specs.Parts.{put_part}
use Rattle.wire.specs.Ring.{ring_place}
use Rattle.wire.specs.Table.{row_at, put_row}
use Rattle.tables.specs.Layout.{cq_t, entry_t, waiting_t, receive_t, send_head_t, kind_t, record_p}
use Rattle.tables.specs.Limits.{most_places, most_waiting, most_queued}
use Rattle.tables.specs.Records.{QueuedSend, send_codec, kind_of}
use Rattle.tables.specs.State.{place_at}
use Rattle.tables.specs.declared.Completion.{Completion}
use Rattle.tables.specs.declared.CompletionQueue.{CompletionQueue}
use Rattle.tables.specs.declared.QueueHead.{QueueHead}
use Rattle.tables.specs.declared.ReceiveRecord.{ReceiveRecord}
use Rattle.tables.specs.declared.WaitingHead.{WaitingHead}
use Rattle.tables.specs.declared.WorkQueue.{WorkQueue}
use Rattle.tables.specs.declared.WorkQueue.TheVariants.{Receive, Send}

-- ---- "a completion queue struct holds its ring of entries as an array, with first place and count"

-- the queue with one completion more, and without its oldest completion
abbrev pub pushed_queue : CompletionQueue → Completion → CompletionQueue
pushed_queue q e =
    record {
      ring = set q.ring (ring_place most_places q.first q.count) e;
      first = q.first;
      count = q.count + 1;
      places = q.places;
    }

abbrev pub popped_queue : CompletionQueue → CompletionQueue
popped_queue q =
    record { ring = q.ring; first = ring_place most_places q.first 1; count = q.count - 1; places = q.places }

-- its head
abbrev pub head_of : CompletionQueue → QueueHead
head_of q = record { places = q.places; first = q.first; count = q.count }

-- ---- one completion more, one fewer: only its place and the head are touched

abbrev pub longer : QueueHead → QueueHead
longer h = record { places = h.places; first = h.first; count = h.count + 1 }

abbrev pub shorter : QueueHead → QueueHead
shorter h = record { places = h.places; first = ring_place most_places h.first 1; count = h.count - 1 }

unfoldable pub push_bytes : List ℕ → ℕ → Completion → List ℕ
push_bytes l n e =
    let h : QueueHead = row_at cq_t l n in
    put_row cq_t (put_row entry_t l (most_places * n + ring_place most_places h.first h.count) e) n (longer h)

-- the oldest completion, and what it leaves
abbrev pub front_at : List ℕ → ℕ → Completion
front_at l n = row_at entry_t l (most_places * n + (row_at cq_t l n).first)

unfoldable pub pop_bytes : List ℕ → ℕ → List ℕ
pop_bytes l n = put_row cq_t l n (shorter (row_at cq_t l n))

-- ---- one receive more, one fewer

abbrev pub grown : WaitingHead → WaitingHead
grown h = record { first = h.first; count = h.count + 1 }

abbrev pub shrunk : WaitingHead → WaitingHead
shrunk h = record { first = ring_place most_waiting h.first 1; count = h.count - 1 }

unfoldable pub post_bytes : List ℕ → ℕ → ReceiveRecord → List ℕ
post_bytes l q w =
    let h : WaitingHead = row_at waiting_t l q in
    put_row waiting_t (put_row receive_t l (most_waiting * q + ring_place most_waiting h.first h.count) w) q (grown h)

unfoldable pub take_bytes : List ℕ → ℕ → List ℕ
take_bytes l q = put_row waiting_t l q (shrunk (row_at waiting_t l q))

-- ---- one queued send more, one fewer (02, M-108)

-- the record x in place p: its bytes as they were lent, and in the column the numbers that answer 15 asks of
abbrev pub place_bytes : List ℕ → (p : ℕ) → (x : List ℕ) → List ℕ
place_bytes l p x = put_row kind_t (put_part record_p l p x) p (kind_of (decode send_codec x 0))

-- and as the newest of queue pair q
unfoldable pub queue_bytes : List ℕ → (q : ℕ) → (x : List ℕ) → List ℕ
queue_bytes l q x =
    let h : WaitingHead = row_at send_head_t l q in
    put_row send_head_t (place_bytes l (most_queued * q + ring_place most_queued h.first h.count) x) q (grown h)

-- the oldest of queue pair q
abbrev pub oldest_send : List ℕ → ℕ → QueuedSend
oldest_send l q = place_at l (most_queued * q + (row_at send_head_t l q).first)

-- "the head leaves its queue"
abbrev pub shrunk_sends : WaitingHead → WaitingHead
shrunk_sends h = record { first = ring_place most_queued h.first 1; count = h.count - 1 }

unfoldable pub unqueue_bytes : List ℕ → (q : ℕ) → List ℕ
unqueue_bytes l q = put_row send_head_t l q (shrunk_sends (row_at send_head_t l q))

-- either queue without its oldest
abbrev pub drop_bytes : WorkQueue → List ℕ → (q : ℕ) → List ℕ
drop_bytes Receive l q = take_bytes l q
drop_bytes Send l q = unqueue_bytes l q
