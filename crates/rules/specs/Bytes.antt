-- The state's bytes after each call that passes its tests: which rows are stored, with what, in which order. Assumes nothing.
use Rattle.std.specs.Prelude.{Bool, cond, List, [], ◌∷◌, ℕ, ◌+◌, ◌*◌, ◌/◌, eqb}
use Rattle.wire.specs.Table.{row_at, put_row}
use Rattle.tables.specs.State.{card}
use Rattle.tables.specs.Layout.{pd_flag_t, mr_flag_t, mr_t, page_t, cq_t, qp_t, waiting_t, send_head_t, turn_t, cq_flag_t, qp_flag_t}
use Rattle.tables.specs.Limits.{qp_count, page_size, most_pages}
use Rattle.tables.specs.Queue.{push_bytes, pop_bytes, post_bytes, take_bytes, queue_bytes, unqueue_bytes}
use Rattle.tables.specs.Commands.{Command, command_of}
use Rattle.tables.specs.Records.{receive_codec}
use Rattle.tables.specs.Reset.{reset_bytes}
use Rattle.validate.specs.Search.{free_pdn, free_cqn, free_mrn, free_qpn}
use Rattle.tables.specs.declared.CreateQp.{CreateQp}
use Rattle.tables.specs.declared.ModifyQp.{ModifyQp}
use Rattle.tables.specs.declared.QueueHead.{QueueHead}
use Rattle.tables.specs.declared.QueuePair.{QueuePair}
use Rattle.tables.specs.declared.ReceiveRecord.{ReceiveRecord}
use Rattle.tables.specs.declared.Region.{Region}
use Rattle.tables.specs.declared.Registration.{Registration}
use Rattle.tables.specs.declared.WaitingHead.{WaitingHead}
use Rattle.rules.specs.Call.{Call, registration_in}
use Rattle.rules.specs.Control.{new_variant, rights_after}
use Rattle.rules.specs.Queues.{flushed_put, flushes_at_once}
use Rattle.rules.specs.Turn.{after, served, head_of}
use Rattle.rules.specs.Send.{Put, peer_of, oldest, send_status, send_puts, consumes, fails}
use Rattle.tables.specs.Records.{Request, request_of}
use Rattle.rules.specs.Lists.{maybe}
use Rattle.wire.specs.Codec.{decode}

-- ---- rows

-- a completion queue with no completion
abbrev pub empty_queue : ℕ → QueueHead
empty_queue places = record { places = places; first = 0; count = 0 }

-- the kinds of region: of adjacent bytes, and 02, M-105, over pages
abbrev pub flat_kind : ℕ
flat_kind = 0

abbrev pub paged_kind : ℕ
paged_kind = 1

-- a region's row, of either kind
abbrev pub region_row : (kind : ℕ) → Registration → (variant : ℕ) → Region
region_row kind g v = record { access = g.access; variant = v; pd = g.pd; kind = kind; start = g.start; length = g.length; virt = g.virt }

-- a new queue pair, in state 0, with no destination and no right
abbrev pub new_pair : CreateQp → QueuePair
new_pair r = record { pd = r.pd; signal = r.signal; scq = r.scq; rcq = r.rcq; state = 0; dest = qp_count; rights = 0 }

abbrev pub none_wait : WaitingHead
none_wait = record { first = 0; count = 0 }

-- a queue pair after a move, which names the destination where it is one to 2
abbrev pub moved_pair : QueuePair → ModifyQp → QueuePair
moved_pair p r =
    let t = r.state in
    record {
      pd = p.pd;
      signal = p.signal;
      scq = p.scq;
      rcq = p.rcq;
      state = t;
      dest = cond (eqb t 0) qp_count (cond (eqb t 2) r.dest p.dest);
      rights = rights_after p.rights r;
    }

-- its receives, and its queued sends, are dropped by a move to 0
abbrev pub moved_head : WaitingHead → (t : ℕ) → WaitingHead
moved_head h t = record { first = h.first; count = cond (eqb t 0) 0 h.count }

-- ---- a registration

-- the slot that it takes, of either kind
abbrev pub region_bytes : List ℕ → (kind : ℕ) → Registration → List ℕ
region_bytes l kind g = let n = free_mrn (card l) in put_row mr_flag_t (put_row mr_t l n (region_row kind g (new_variant (card l)))) n 1

-- the numbers of the pages, from place k of the slot n on
unfoldable pub put_pages : List ℕ → (n k : ℕ) → (pages : List ℕ) → List ℕ
put_pages l n k [] = l
put_pages l n k (p ∷ ps) = put_pages (put_row page_t l (most_pages * n + k) (p / page_size)) n (k + 1) ps

unfoldable pub paged_bytes : List ℕ → Registration → (pages : List ℕ) → List ℕ
paged_bytes l g ps = put_pages (region_bytes l paged_kind g) (free_mrn (card l)) 0 ps

-- ---- control commands

unfoldable pub command_bytes : List ℕ → Command → List ℕ
command_bytes l Command.query_device = l
command_bytes l Command.query_port = l
command_bytes l (Command.create_cq n) = let k = free_cqn (card l) in put_row cq_flag_t (put_row cq_t l k (empty_queue n)) k 1
command_bytes l (Command.destroy_cq n) = put_row cq_flag_t l n 0
command_bytes l Command.create_pd = put_row pd_flag_t l (free_pdn (card l)) 1
command_bytes l (Command.destroy_pd n) = put_row pd_flag_t l n 0
command_bytes l (Command.register g) = region_bytes l flat_kind g
command_bytes l (Command.deregister n) = put_row mr_flag_t l n 0
command_bytes l (Command.create_qp r) =
    let n = free_qpn (card l) in
    put_row qp_flag_t (put_row qp_t (put_row send_head_t (put_row waiting_t l n none_wait) n none_wait) n (new_pair r)) n 1
command_bytes l (Command.modify_qp r) =
    let q = r.qpn in
    put_row send_head_t
    (put_row waiting_t (put_row qp_t l q (moved_pair (row_at qp_t l q) r)) q (moved_head (row_at waiting_t l q) r.state))
    q (moved_head (row_at send_head_t l q) r.state)
command_bytes l (Command.destroy_qp q) = put_row qp_flag_t l q 0

-- ---- post send

unfoldable pub push_all : List ℕ → List Put → List ℕ
push_all l [] = l
push_all l (p ∷ ps) = push_all (push_bytes l p.cqn p.entry) ps

-- a queue pair in error
abbrev pub erring : QueuePair → QueuePair
erring p = record { pd = p.pd; signal = p.signal; scq = p.scq; rcq = p.rcq; state = 6; dest = p.dest; rights = p.rights }

-- the queue pair q in error, where b holds
abbrev pub error_bytes : Bool → List ℕ → (q : ℕ) → List ℕ
error_bytes b l q = cond b (put_row qp_t l q (erring (row_at qp_t l q))) l

-- its oldest receive consumed, where b holds
abbrev pub consume_bytes : Bool → List ℕ → (q : ℕ) → List ℕ
consume_bytes b l q = cond b (take_bytes l q) l

-- the completions, then the sender's error, the receive that is consumed, and the peer's error
unfoldable pub send_bytes : List ℕ → (q : ℕ) → Request → List ℕ
send_bytes l q r =
    let s = send_status (card l) q r in
    let d = peer_of (card l) q in
    error_bytes (eqb s 7) (consume_bytes (consumes r.opcode s) (error_bytes (fails s) (push_all l (send_puts (card l) q r s)) q) d) d

-- ---- a turn

-- the head leaves its queue, and the next queue pair to visit is the one after
unfoldable pub head_gone_bytes : List ℕ → (q : ℕ) → List ℕ
head_gone_bytes l q = put_row turn_t (unqueue_bytes l q) 0 (after q)

unfoldable pub turn_bytes : List ℕ → List ℕ
turn_bytes l = let q = served (card l) in head_gone_bytes (send_bytes l q (head_of (card l) q)) q

-- ---- post receive and flush

-- the completion of a flushed receive, put
abbrev pub flushed_bytes : List ℕ → (q wr : ℕ) → List ℕ
flushed_bytes l q wr = let p = flushed_put (card l) q wr in push_bytes l p.cqn p.entry

-- that of the receive, or the receive behind the others
unfoldable pub receive_bytes : List ℕ → (q : ℕ) → ReceiveRecord → List ℕ
receive_bytes l q w = cond (flushes_at_once (card l) q) (flushed_bytes l q w.wr) (post_bytes l q w)

unfoldable pub flush_bytes : List ℕ → (q : ℕ) → List ℕ
flush_bytes l q = take_bytes (flushed_bytes l q (oldest ((card l).qp q).waiting).wr) q

-- ---- each call

unfoldable pub effect_bytes : List ℕ → Call → List ℕ
effect_bytes l (Call.reset n) = reset_bytes n
effect_bytes l (Call.control k a) = maybe l (command_bytes l) (command_of k)
effect_bytes l (Call.register_pages k ps a) = paged_bytes l (registration_in k) ps
effect_bytes l (Call.send q x m) = send_bytes l q (request_of x)
effect_bytes l (Call.receive q x) = receive_bytes l q (decode receive_codec x 0)
effect_bytes l (Call.flush q) = flush_bytes l q
effect_bytes l (Call.enqueue q x m) = queue_bytes l q x
effect_bytes l (Call.turn m) = turn_bytes l
effect_bytes l (Call.poll n b) = pop_bytes l n
