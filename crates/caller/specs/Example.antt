-- A run, by the bytes that its calls are given: two domains; writes, a send, inline bytes; a refused command, a refused
-- reset, a hold, a poll, a flush; requests queued by both queue pairs, and the turns that run them, flush one and pass one
-- over; work requests with the statuses 0, 1, 3, 4, 7 and 8; a queue pair that can be read from and not written to; a region
-- that is dropped under waiting receives, and a write under its key after that; a send and receives posted in error; a second
-- reset; and, after a third, a region over pages: a refused list, a write over a page border, and a send whose later byte
-- wins where a page is listed twice. proofs/Example.antt shows that it is a list of the judge's theorem. Assumes nothing.
use Rattle.std.specs.Prelude.{true, false, List, [], ◌∷◌, ◌++◌, map, ℕ, replicate}
use Rattle.std.proofs.Math.Option.{none, some}
use Rattle.rules.specs.Call.{Call}
use Rattle.rules.specs.declared.Cause.TheVariants.{Peer}
use Rattle.rules.specs.declared.Answer.{Answer}
use Rattle.rules.specs.declared.Answer.TheVariants.{Done, Held, Refused}
use Rattle.rules.specs.Contract.{bytes_after}
use Rattle.caller.specs.Made.{made, made_all, Line, Shown}

-- ---- bytes

-- a number below 256 in four bytes, and in eight
abbrev pub four : ℕ → List ℕ
four n = n ∷ 0 ∷ 0 ∷ 0 ∷ []

abbrev pub eight : ℕ → List ℕ
eight n = n ∷ 0 ∷ 0 ∷ 0 ∷ 0 ∷ 0 ∷ 0 ∷ 0 ∷ []

-- a number of two bytes in eight
abbrev pub eight_of : (low high : ℕ) → List ℕ
eight_of x y = x ∷ y ∷ 0 ∷ 0 ∷ 0 ∷ 0 ∷ 0 ∷ 0 ∷ []

-- the first key of region slot n
abbrev pub key_of : (n : ℕ) → List ℕ
key_of n = 1 ∷ n ∷ 0 ∷ 0 ∷ []

-- the memory of every call that is lent one, but for those over pages
abbrev pub memory : List ℕ
memory = 1 ∷ 2 ∷ 3 ∷ 4 ∷ 5 ∷ 6 ∷ 7 ∷ 8 ∷ []

-- two pages, by their first six bytes and their last two
abbrev pub two_pages : (first last : List ℕ) → List ℕ
two_pages first last = first ++ replicate 8184 0 ++ last

-- ---- calls

abbrev pub command : List ℕ → Call
command k = Call.control (6 ∷ k) (replicate 13 9)

abbrev pub create_pd : Call
create_pd = command (4 ∷ [])

abbrev pub create_cq : (places : ℕ) → Call
create_cq n = command (2 ∷ four n)

-- four bytes of memory, with all rights
abbrev pub register : (pd start virt : ℕ) → Call
register d s v = command (7 ∷ (four d ++ four 7 ++ eight s ++ eight 4 ++ eight v))

-- a region over pages in domain 0 with all rights: start 4094, so that two bytes of the first page are its own, 8,194 bytes,
-- virt 200
abbrev pub register_pages : (pages : List ℕ) → Call
register_pages ps =
    Call.register_pages (6 ∷ 7 ∷ (four 0 ++ four 7 ++ eight_of 254 15 ++ eight_of 2 32 ++ eight 200)) ps (replicate 13 9)

abbrev pub deregister : (mrn : ℕ) → Call
deregister n = command (8 ∷ four n)

-- completion queue 0 is its send and its receive queue
abbrev pub create_qp : (pd : ℕ) → Call
create_qp d = command (9 ∷ (four d ++ (2 ∷ 0 ∷ 0 ∷ 0 ∷ []) ++ four 0 ++ four 0))

abbrev pub move : (q state : ℕ) → Call
move q t = command (10 ∷ (four q ++ four 1 ++ four t ++ four 0 ++ four 0))

-- with its access flags
abbrev pub allow : (q state flags : ℕ) → Call
allow q t f = command (10 ∷ (four q ++ four 5 ++ four t ++ four 0 ++ four f))

-- to state 2, with its destination
abbrev pub aim : (q dest : ℕ) → Call
aim q d = command (10 ∷ (four q ++ (1 ∷ 128 ∷ 0 ∷ 0 ∷ []) ++ four 2 ++ four d ++ four 0))

-- a send record: the opcode, the flags, the remote address and key, the inline bytes or those in their place, the count, the
-- pieces
abbrev pub send_record : (opcode flags address : ℕ) → (key inline : List ℕ) → (count : ℕ) → (pieces : List ℕ) → List ℕ
send_record o f a k i n ps =
    eight 7 ++ (o ∷ f ∷ 0 ∷ 0 ∷ []) ++ four 0 ++ eight a ++ k ++ replicate 20 0 ++ i ++ four n ++ replicate 12 0 ++ ps

-- queue pair 0 sends
abbrev pub send : (opcode flags address : ℕ) → (key inline : List ℕ) → (count : ℕ) → (pieces : List ℕ) → Call
send o f a k i n ps = Call.send 0 (send_record o f a k i n ps) memory

abbrev pub unused : List ℕ
unused = replicate 512 0

-- one piece; its length in four bytes
abbrev pub piece : (address : ℕ) → (length key : List ℕ) → List ℕ
piece a n k = eight a ++ n ++ k

-- two bytes at 101 of the region of slot 0
abbrev pub two : List ℕ
two = piece 101 (four 2) (key_of 0)

-- queue pair 0 or 1 enqueues a write of two bytes, or a send of two
abbrev pub enqueue : (q opcode address : ℕ) → (key pieces : List ℕ) → Call
enqueue q o a k ps = Call.enqueue q (send_record o 0 a k unused 1 ps) memory

abbrev pub turn : Call
turn = Call.turn memory

-- queue pair 0 sends so many bytes from 100 on, to 200 under the key of slot 1, in a memory of two pages
abbrev pub send_paged : (opcode count : ℕ) → Call
send_paged o n =
    Call.send 0 (send_record o 0 200 (key_of 1) unused 1 (piece 100 (four n) (key_of 0)))
    (two_pages (1 ∷ 2 ∷ 3 ∷ 4 ∷ 5 ∷ 6 ∷ []) (0 ∷ 0 ∷ []))

-- queue pair 1 waits for two bytes, at 200 and at 8,392
abbrev pub receive_paged : Call
receive_paged =
    Call.receive 1
    (eight 9 ++ four 2 ++ replicate 12 0 ++ piece 200 (four 1) (key_of 1) ++ (eight_of 200 32 ++ four 1 ++ key_of 1))

-- queue pair 1 waits for up to four bytes
abbrev pub receive : (address length : ℕ) → Call
receive a n = Call.receive 1 (eight 9 ++ four 1 ++ replicate 12 0 ++ piece a (four n) (key_of 1))

abbrev pub poll : Call
poll = Call.poll 0 (replicate 24 0)

-- ---- lines

-- a call without memory, and one that leaves it and runs nothing
abbrev pub plain : Call → Answer → Line
plain k a = record { call = k; answer = a; value = 0; memory = []; verdict = none }

abbrev pub idle : Call → Answer → Line
idle k a = record { call = k; answer = a; value = 0; memory = memory; verdict = none }

abbrev pub done : Call → Line
done k = plain k (Done 0)

-- a work request that the judge passes, and the memory after it; one that it does not pass, and its status; one that is
-- held; a turn of either kind, by the queue pair served
abbrev pub passes : Call → List ℕ → Line
passes k m = record { call = k; answer = Done 0; value = 0; memory = m; verdict = some true }

abbrev pub fails : Call → (status : ℕ) → Line
fails k s = record { call = k; answer = Done s; value = 0; memory = memory; verdict = some false }

abbrev pub waits : Call → Line
waits k = idle k (Held Peer)

abbrev pub serves : (q : ℕ) → List ℕ → Line
serves q m = record { call = turn; answer = Done 0; value = q; memory = m; verdict = some true }

abbrev pub serves_in_vain : (q status : ℕ) → Line
serves_in_vain q s = record { call = turn; answer = Done s; value = q; memory = memory; verdict = some false }

-- a receive that waits, and one that is flushed at once
abbrev pub queued : Call → Line
queued k = record { call = k; answer = Done 0; value = 0; memory = []; verdict = some true }

abbrev pub flushed_at_once : Call → Line
flushed_at_once k = record { call = k; answer = Done 4; value = 0; memory = []; verdict = some false }

-- ---- the run

-- two queue pairs in these domains, joined
abbrev pub joined : (pd peer : ℕ) → List Line
joined d e =
    done (create_qp d) ∷
    done (create_qp e) ∷
    done (move 0 1) ∷
    done (aim 0 1) ∷
    done (move 0 3) ∷
    done (allow 1 1 7) ∷
    done (aim 1 0) ∷
    []

-- a domain, a region and a queue pair for each of two tenants, and the two queue pairs joined
abbrev pub setup : List Line
setup =
    done create_pd ∷
    done create_pd ∷
    done (create_cq 16) ∷
    done (register 0 0 100) ∷
    done (register 1 4 200) ∷
    joined 0 1

-- queue pair 0 out of the state that an error left it in
abbrev pub again : List Line
again = done (move 0 0) ∷ done (move 0 1) ∷ done (aim 0 1) ∷ done (move 0 3) ∷ []

abbrev pub delivering : List Line
delivering =
    -- region 7 is not there; the memory cannot be empty
    plain (deregister 7) (Refused 2) ∷
    plain (Call.reset 0) (Refused 11) ∷
    -- no receive waits
    waits (send 2 0 0 (key_of 0) unused 1 two) ∷
    -- writes, the second of inline bytes
    passes (send 0 0 200 (key_of 1) unused 1 two) (1 ∷ 2 ∷ 3 ∷ 4 ∷ 2 ∷ 3 ∷ 7 ∷ 8 ∷ []) ∷
    passes (send 0 8 201 (key_of 1) (50 ∷ 60 ∷ 70 ∷ replicate 509 0) 3 []) (1 ∷ 2 ∷ 3 ∷ 4 ∷ 5 ∷ 50 ∷ 60 ∷ 70 ∷ []) ∷
    -- a send, into the receive that waits
    queued (receive 202 2) ∷
    passes (send 2 0 0 (key_of 0) unused 1 two) (1 ∷ 2 ∷ 3 ∷ 4 ∷ 5 ∷ 6 ∷ 2 ∷ 3 ∷ []) ∷
    done poll ∷
    []

-- Queue pair 0 enqueues a write and a send, queue pair 1 two writes to queue pair 0, which has no access flags; a direct send
-- of queue pair 0 finds its queue. The turns: the write is run; that of queue pair 1 fails; no receive waits for the send, which
-- is passed over, and the other write is flushed; no head is left that may run. A move to 0 drops the send.
abbrev pub turning : List Line
turning =
    done (move 1 3) ∷
    idle (enqueue 0 0 200 (key_of 1) two) (Done 0) ∷
    idle (enqueue 0 2 0 (key_of 0) two) (Done 0) ∷
    idle (enqueue 1 0 100 (key_of 0) (piece 201 (four 2) (key_of 1))) (Done 0) ∷
    idle (enqueue 1 0 100 (key_of 0) (piece 201 (four 2) (key_of 1))) (Done 0) ∷
    idle (send 0 0 200 (key_of 1) unused 1 two) (Refused 10) ∷
    serves 0 (1 ∷ 2 ∷ 3 ∷ 4 ∷ 2 ∷ 3 ∷ 7 ∷ 8 ∷ []) ∷
    serves_in_vain 1 8 ∷
    serves_in_vain 1 4 ∷
    idle turn (Refused 9) ∷
    done poll ∷
    done poll ∷
    done poll ∷
    done (move 1 0) ∷
    done (allow 1 1 7) ∷
    done (aim 1 0) ∷
    again

-- the key of the sender's own domain names nothing at the peer; the key of the peer's domain is not the sender's; 4,097 bytes
-- are too many
abbrev pub failing : List Line
failing =
    fails (send 0 0 100 (key_of 0) unused 1 two) 8 ∷ again
    ++ (fails (send 0 0 200 (key_of 1) unused 1 (piece 201 (four 2) (key_of 1))) 3 ∷ again)
    ++ (fails (send 0 0 200 (key_of 1) unused 1 (piece 101 (1 ∷ 16 ∷ 0 ∷ 0 ∷ []) (key_of 0))) 1 ∷ again)

-- the peer without access flags: an empty write, and one of two bytes; with the flag of reading: a read, and a write; with
-- that of writing: a write
abbrev pub allowing : List Line
allowing =
    done (move 1 0) ∷
    done (move 1 1) ∷
    done (aim 1 0) ∷
    passes (send 0 0 200 (key_of 1) unused 1 (piece 101 (four 0) (key_of 0))) memory ∷
    fails (send 0 0 200 (key_of 1) unused 1 two) 8 ∷
    again
    ++ (done (move 1 0) ∷ done (allow 1 1 4) ∷ done (aim 1 0) ∷
    passes (send 4 0 200 (key_of 1) unused 1 two) (1 ∷ 5 ∷ 6 ∷ 4 ∷ 5 ∷ 6 ∷ 7 ∷ 8 ∷ []) ∷
    fails (send 0 0 200 (key_of 1) unused 1 two) 8 ∷ again)
    ++ (done (allow 1 3 2) ∷
    passes (send 0 0 200 (key_of 1) unused 1 two) (1 ∷ 2 ∷ 3 ∷ 4 ∷ 2 ∷ 3 ∷ 7 ∷ 8 ∷ []) ∷ done poll ∷ done poll ∷ [])

-- the peer's region is dropped while two receives wait for its bytes: the first is consumed in vain, and both queue pairs are
-- in error. There a send is flushed, a third receive waits behind the second, both are flushed, and the fourth is flushed at
-- once. Nor is the key one that can be written under.
abbrev pub dropping : List Line
dropping =
    queued (receive 200 4) ∷
    queued (receive 200 4) ∷
    done (deregister 1) ∷
    fails (send 2 0 0 (key_of 0) unused 1 two) 7 ∷
    fails (send 2 0 0 (key_of 0) unused 1 two) 4 ∷
    queued (receive 200 4) ∷
    done (Call.flush 1) ∷
    done (Call.flush 1) ∷
    flushed_at_once (receive 200 4) ∷
    again
    ++ (done (move 1 0) ∷ done (allow 1 1 7) ∷ done (aim 1 0) ∷ fails (send 0 0 200 (key_of 1) unused 1 two) 8 ∷ done poll ∷ [])

-- after a reset nothing is there
abbrev pub ending : List Line
ending = done (Call.reset 8) ∷ plain (Call.flush 1) (Refused 2) ∷ []

-- the pages at 4096, 0 and 4096 again: a list of one page too few; a write of four bytes to the memory bytes 8190, 8191, 0 and
-- 1; and a send into two pieces that both mean memory byte 8190
abbrev pub paging : List Line
paging =
    done (Call.reset 8192) ∷
    done create_pd ∷
    done (create_cq 16) ∷
    done (register 0 2 100) ∷
    plain (register_pages (4096 ∷ 0 ∷ [])) (Refused 11) ∷
    done (register_pages (4096 ∷ 0 ∷ 4096 ∷ [])) ∷
    joined 0 0
    ++ (passes (send_paged 0 4) (two_pages (5 ∷ 6 ∷ 3 ∷ 4 ∷ 5 ∷ 6 ∷ []) (3 ∷ 4 ∷ [])) ∷
    queued receive_paged ∷
    passes (send_paged 2 2) (two_pages (1 ∷ 2 ∷ 3 ∷ 4 ∷ 5 ∷ 6 ∷ []) (4 ∷ 0 ∷ [])) ∷
    [])

abbrev pub run : List Line
run = setup ++ delivering ++ turning ++ failing ++ allowing ++ dropping ++ ending ++ paging

-- A reset over eight bytes of memory and the run after it, on any state that has its length.
abbrev pub Example : (l : List ℕ) → Type 0
Example l = Shown (made l (Call.reset 8)) (made_all (bytes_after l (Call.reset 8)) (map (λ (x : Line). x.call) run)) run
