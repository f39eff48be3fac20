-- Computed examples that pin what the judge and the rules share, and the rights of each use. Assumes nothing.
use mathlib.Core.Path.{◌≡◌, refl}
use mathlib.Core.Bool.{true, false}
use mathlib.Core.List.{List, [], ◌∷◌, ◌++◌, map}
use mathlib.Core.Option.{none, some}
use Prim.Native.Nat.{ℕ}
use lib.ListN.{replicate}
use Rattle.wire.specs.Checks.{refusal}
use Rattle.wire.specs.Codec.{put_fields}
use Rattle.wire.specs.Le.{le_at, put_le}
use Rattle.tables.specs.Card.{Card, Receive, no_receive, fresh}
use Rattle.tables.specs.Queries.{device_codec, port_codec}
use Rattle.tables.specs.declared.Sge.{Sge}
use Rattle.validate.specs.Accept.{access_ok}
use Rattle.rules.specs.Lists.{stored}
use Rattle.rules.specs.Touch.{range, sge_bytes, sge_total, total, own_bytes, far_bytes, message, delivered}
use Rattle.tables.specs.Records.{Request}
use Rattle.rules.specs.Permit.{Use, granted, permits_all, permits, lookup, covers}
use Rattle.rules.specs.Call.{Call}
use Rattle.rules.specs.Calls.{buffer_after, control_checks}
use Rattle.rules.specs.Control.{command_checks, command_effect, command_ack, device_of, port_of}
use Rattle.rules.specs.Marks.{platform, after, uses}
use Rattle.rules.specs.Send.{delivery_checks, queue_checks, send_status, send_puts, pair_checks, ready_checks, place_checks, hold_checks, run_status}
use Rattle.rules.specs.Queues.{joined, flush_put}
use Rattle.wire.specs.Scan.{lowest, lowest_from, any_below, all}
use Rattle.tables.specs.Commands.{Command, command_of, data_size, ack_need}

-- the accesses 0 to 7 that grant each use
pub rights : map (λ u. map (granted u) (0 ∷ 1 ∷ 2 ∷ 3 ∷ 4 ∷ 5 ∷ 6 ∷ 7 ∷ [])) uses
    ≡ (true ∷ true ∷ true ∷ true ∷ true ∷ true ∷ true ∷ true ∷ [])
    ∷ (false ∷ true ∷ false ∷ true ∷ false ∷ true ∷ false ∷ true ∷ [])
    ∷ (false ∷ false ∷ true ∷ true ∷ false ∷ false ∷ true ∷ true ∷ [])
    ∷ (false ∷ false ∷ false ∷ false ∷ true ∷ true ∷ true ∷ true ∷ [])
    ∷ []
rights = refl

-- the accesses 0 to 9 that a region may have: "Access 2 and 6, accepted so far, are now a bad field"
pub accesses : map access_ok (0 ∷ 1 ∷ 2 ∷ 3 ∷ 4 ∷ 5 ∷ 6 ∷ 7 ∷ 8 ∷ 9 ∷ [])
    ≡ true ∷ true ∷ false ∷ true ∷ true ∷ true ∷ false ∷ true ∷ false ∷ false ∷ []
accesses = refl

-- the platform with a second domain and a queue pair in it: the region is the first domain's alone
pub domains : map (λ q. permits_all (after platform (Command.create_pd ∷ Command.create_qp (record { pd = 1; kind = 2; signal = 0; scq = 0; rcq = 0 }) ∷ [])) q Use.local_read (range 4096 1 1)) (0 ∷ 1 ∷ [])
    ≡ true ∷ false ∷ []
unfolding all after platform range permits_all permits lookup covers command_checks command_effect lowest lowest_from any_below
domains = refl

abbrev piece : (address length : ℕ) → Sge
piece a n = record { address = a; length = n; key = 1 }

abbrev request : (opcode address : ℕ) → List Sge → Request
request o a ps =
    record { wr = 0; opcode = o; signaled = false; inline = false; bytes = []; imm = 0; address = a; key = 1; sges = ps }

abbrev inlined : List ℕ → Request
inlined bs =
    record { wr = 0; opcode = 2; signaled = false; inline = true; bytes = bs; imm = 0; address = 0; key = 1; sges = [] }

abbrev eight : List ℕ
eight = 1 ∷ 2 ∷ 3 ∷ 4 ∷ 5 ∷ 6 ∷ 7 ∷ 8 ∷ []

-- addresses are memory places here
abbrev moved : Request → Receive → List ℕ
moved r w = delivered (λ b. b.address) r w eight

abbrev into : List Sge → Receive
into ps = record { wr = 0; sges = ps }

-- a move of a queue pair
abbrev move : (q mask state dest : ℕ) → Command
move q k t d = Command.modify_qp (record { qpn = q; mask = k; state = t; pad0 = 0; pad1 = 0; pad2 = 0; dest = d; flags = 0 })

-- the platform with a second domain, in which a region of 100 bytes has the key 257 and queue pair 1 is joined with queue pair 0
abbrev pair : Card
pair =
    after platform
    (Command.create_pd ∷ Command.register (record { pd = 1; access = 7; start = 0; length = 100; virt = 4096 }) ∷
    Command.create_qp (record { pd = 1; kind = 2; signal = 0; scq = 0; rcq = 0 }) ∷
    move 0 32769 2 1 ∷ move 0 1 3 0 ∷ move 1 1 1 0 ∷ move 1 32769 2 0 ∷ [])

-- it, with a receive of 100 bytes under the key
abbrev waits : (key : ℕ) → Card
waits k = joined pair 1 (into (record { address = 4096; length = 100; key = k } ∷ []))

-- a send of so many bytes from each of four pieces under the key
abbrev fourfold : (count key : ℕ) → Request
fourfold n k = let p : Sge = record { address = 4096; length = n; key = k } in request 2 0 (p ∷ p ∷ p ∷ p ∷ [])

-- a write is done, a send held without a receive, and then without two places in a queue of one
pub posted :
    refusal (delivery_checks pair 0 (request 0 4096 [])) ∷ refusal (delivery_checks pair 0 (fourfold 25 1)) ∷
    refusal (delivery_checks (waits 257) 0 (fourfold 25 1)) ∷ []
    ≡ none ∷ some 5 ∷ some 6 ∷ []
unfolding after platform command_checks command_effect lowest lowest_from any_below joined delivery_checks pair_checks queue_checks hold_checks ready_checks place_checks
posted = refl

-- 100 bytes into the peer's region; into a region of the sender's domain; out of one of the peer's; a total over 4096, though no piece is
pub statuses :
    send_status (waits 257) 0 (fourfold 25 1) ∷ send_status (waits 1) 0 (fourfold 25 1) ∷
    send_status (waits 257) 0 (fourfold 25 257) ∷ send_status (waits 257) 0 (fourfold 1025 1) ∷ []
    ≡ 0 ∷ 7 ∷ 3 ∷ 1 ∷ []
unfolding all after platform range sge_bytes sge_total total own_bytes far_bytes permits_all permits lookup covers command_checks command_effect lowest lowest_from any_below joined send_status run_status
statuses = refl

-- status and length of the completions that a send of 100 bytes puts, by its status: the sender's, the receiver's
pub completions : map (λ s. map (λ p. p.entry.status ∷ p.entry.length ∷ []) (send_puts (waits 1) 0 (fourfold 25 1) s)) (0 ∷ 3 ∷ 7 ∷ [])
    ≡ ((0 ∷ 100 ∷ []) ∷ (0 ∷ 100 ∷ []) ∷ [])
    ∷ ((3 ∷ 0 ∷ []) ∷ [])
    ∷ ((7 ∷ 0 ∷ []) ∷ (3 ∷ 0 ∷ []) ∷ [])
    ∷ []
unfolding after platform sge_total total command_checks command_effect lowest lowest_from any_below joined send_puts
completions = refl

-- "the oldest receive completes with status 4, opcode 3"
pub flushing : (flush_put (waits 1) 1).entry.status ∷ (flush_put (waits 1) 1).entry.opcode ∷ [] ≡ 4 ∷ 3 ∷ []
unfolding after platform command_checks command_effect lowest lowest_from any_below joined
flushing = refl

-- a write over its own source, a write of two pieces, a read back, a send into two pieces that overlap, a short inline send
pub deliveries : (moved (request 0 1 (piece 0 4 ∷ [])) no_receive
    ∷ moved (request 0 6 (piece 3 1 ∷ piece 0 1 ∷ [])) no_receive
    ∷ moved (request 4 6 (piece 0 2 ∷ [])) no_receive
    ∷ moved (request 2 0 (piece 0 4 ∷ [])) (into (piece 4 2 ∷ piece 5 9 ∷ []))
    ∷ moved (inlined (9 ∷ 9 ∷ [])) (into (piece 0 1 ∷ piece 7 9 ∷ []))
    ∷ [])
    ≡ (1 ∷ 1 ∷ 2 ∷ 3 ∷ 4 ∷ 6 ∷ 7 ∷ 8 ∷ [])
    ∷ (1 ∷ 2 ∷ 3 ∷ 4 ∷ 5 ∷ 6 ∷ 4 ∷ 1 ∷ [])
    ∷ (7 ∷ 8 ∷ 3 ∷ 4 ∷ 5 ∷ 6 ∷ 7 ∷ 8 ∷ [])
    ∷ (1 ∷ 2 ∷ 3 ∷ 4 ∷ 1 ∷ 3 ∷ 4 ∷ 8 ∷ [])
    ∷ (9 ∷ 2 ∷ 3 ∷ 4 ∷ 5 ∷ 6 ∷ 7 ∷ 9 ∷ [])
    ∷ []
unfolding delivered message total own_bytes far_bytes range sge_bytes sge_total stored
deliveries = refl

-- 02, M-100: what a card reports that was reset to 66,051 bytes, a length that is no limit; "flags 0, largest region the memory length, page size mask 4096, version 1, then in 001's
-- order 4, 4, 2, 4, 16, 32, 8, 1, 1, 0, delay 0, rest zero"; M-106: "A query reports 256."
pub device_reported : buffer_after (fresh 66051) (Call.control (6 ∷ 0 ∷ []) (replicate 130 99))
    ≡ 0 ∷ 0 ∷ 0 ∷ 0 ∷ 0 ∷ 0 ∷ 0 ∷ 0 ∷ 0 ∷ 3 ∷ 2 ∷ 1 ∷ 0 ∷ 0 ∷ 0 ∷ 0 ∷ 0 ∷ 0 ∷ 16 ∷ 0 ∷ 0 ∷ 0 ∷ 0 ∷ 0 ∷ 0 ∷ 1 ∷ 0 ∷ 0 ∷ 0 ∷
    4 ∷ 0 ∷ 0 ∷ 0 ∷ 4 ∷ 0 ∷ 0 ∷ 0 ∷ 2 ∷ 0 ∷ 0 ∷ 0 ∷ 4 ∷ 0 ∷ 0 ∷ 0 ∷ 16 ∷ 0 ∷ 0 ∷ 0 ∷
    0 ∷ 1 ∷ 0 ∷ 0 ∷ 8 ∷ 0 ∷ 0 ∷ 0 ∷ 1 ∷ 0 ∷ 0 ∷ 0 ∷ 1 ∷ 0 ∷ 0 ∷ 0 ∷ 0 ∷ 0 ∷ 0 ∷ 0 ∷ 0 ∷ (replicate 59 0 ++ (99 ∷ []))
unfolding buffer_after command_of command_ack device_of device_codec put_fields put_le le_at
device_reported = refl

-- "Port: GID length 0, message size 4096, rest zero"
pub port_reported : buffer_after (fresh 1) (Call.control (6 ∷ 1 ∷ []) (replicate 34 99))
    ≡ 0 ∷ 0 ∷ 0 ∷ 0 ∷ 0 ∷ 0 ∷ 16 ∷ 0 ∷ 0 ∷ (replicate 24 0 ++ (99 ∷ []))
unfolding buffer_after command_of command_ack port_of port_codec put_fields put_le le_at
port_reported = refl

-- "answer 12, still tested first": a query with data, and 20 or 129 ack bytes
pub room_first : refusal (control_checks (6 ∷ 0 ∷ 9 ∷ []) (replicate 20 0)) ∷ refusal (control_checks (6 ∷ 0 ∷ 9 ∷ []) (replicate 129 0)) ∷ [] ≡ some 12 ∷ some 1 ∷ []
unfolding control_checks ack_need command_of data_size le_at
room_first = refl
