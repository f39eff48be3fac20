-- Runs, computed from the bytes of their calls: a write, a hold, a receive, a send, a read and a failed write, then work posted in error, each
-- with its answer, the memory after it, and the judge's verdict; what a queue pair's access flags open; and the records' layouts by literal bytes. Assumes nothing.
use mathlib.Core.Path.{◌≡◌, refl}
use mathlib.Core.Bool.{Bool, true, false, not}
use mathlib.Core.List.{List, [], ◌∷◌, ◌++◌}
use Prim.Native.Nat.{ℕ, ◌+◌, ◌*◌, ◌^◌}
use lib.ListN.{replicate, take, drop}
use Rattle.wire.specs.Codec.{fields_at, put_fields, encode}
use Rattle.wire.specs.Le.{le_at, put_le}
use Rattle.wire.specs.Rows.{rows, rows_from}
use Rattle.wire.specs.Scan.{lowest, lowest_from, any_below, all}
use Rattle.tables.specs.Card.{Card, fresh, receive_of}
use Rattle.tables.specs.Commands.{command_of, data_size, number_codec, register_codec, create_qp_codec, modify_qp_codec, ack_need}
use Rattle.tables.specs.Records.{send_codec, sge_codec, receive_codec, send_checks, receive_checks, receive_sges, send_sge, inline_bytes, inline_length, completion_codec}
use Rattle.rules.specs.declared.Answer.{Answer}
use Rattle.rules.specs.declared.Cause.TheVariants.{Peer, Place}
use Rattle.rules.specs.declared.Answer.TheVariants.{Done, Held}
use Rattle.rules.specs.Lists.{maybe, stored}
use Rattle.rules.specs.Touch.{receive_in, range, sge_bytes, sge_total, total, own_bytes, far_bytes, byte_in, byte_of, message, delivered}
use Rattle.tables.specs.Records.{request_of}
use Rattle.rules.specs.Permit.{permits, permits_all, place, lookup, covers}
use Rattle.rules.specs.Control.{command_checks, command_ack, command_effect}
use Rattle.rules.specs.Send.{pair_checks, ready_checks, place_checks, hold_checks, queue_checks, delivery_checks, run_status, send_status, send_puts, put_all, send_qps, send_effect, send_memory}
use Rattle.rules.specs.Queues.{join_checks, join_status, join_puts, joined, received, flush_checks, flushed, poll_checks, polled}
use Rattle.rules.specs.Call.{Call, given}
use Rattle.rules.specs.Calls.{memory_checks, checks, reset_checks, control_checks, buffer_checks, status_of, effect, memory_after, buffer_after, step}
use Rattle.judge.specs.Log.{Log, fed, ack_data, told}
use Rattle.judge.specs.Demand3.{work_in, posted_on}
use Rattle.judge.specs.Judge.{flushes_at_once, judge, near_passes, far_passes, near, far, passes, filled, waiting, standing, told_of_both, domain, peer, accepted, consumed, errored, rights}

abbrev pub mem : List ℕ
mem = 1 ∷ 2 ∷ 3 ∷ 4 ∷ 5 ∷ 6 ∷ 7 ∷ 8 ∷ []

abbrev pub command : (number size : ℕ) → List ℕ
command n size = 6 ∷ n ∷ replicate size 0

abbrev pub control : List ℕ → Call
control k = Call.control k (replicate 13 9)

abbrev pub registered : (start virt : ℕ) → Call
registered s v = control (encode register_codec (command 7 32) 2 (record { pd = 0; access = 7; start = s; length = 4; virt = v }))

abbrev pub modified : (q mask state dest flags : ℕ) → Call
modified q k t d f =
    control
    (encode modify_qp_codec (command 10 20) 2 (record { qpn = q; mask = k; state = t; pad0 = 0; pad1 = 0; pad2 = 0; dest = d; flags = f }))

abbrev pub created : Call
created = control (encode create_qp_codec (command 9 16) 2 (record { pd = 0; kind = 2; signal = 0; scq = 0; rcq = 0 }))

-- one piece of 2 bytes at 101, which is memory byte 1
abbrev pub record_of : (opcode key : ℕ) → List ℕ
record_of o k =
    encode sge_codec (encode send_codec (replicate 592 0) 0 (record { wr = 7; opcode = o; flags = 0; imm = 0; address = 4096; key = k; count = 1 })) 576
    (record { address = 101; length = 2; key = 1 })

abbrev pub posted : (opcode key : ℕ) → Call
posted o k = Call.send 0 (record_of o k) mem

-- one piece of 3 bytes at 4097, which is memory byte 5
abbrev pub waited : (q : ℕ) → Call
waited q =
    Call.receive q
    (encode receive_codec (replicate 40 0) 0
    (record { wr = 9; count = 1; first = record { address = 4097; length = 3; key = 257 }; second = record { address = 0; length = 0; key = 0 } }))

-- a domain, a completion queue, two regions of 4 bytes with the keys 1 and 257, and two queue pairs that are joined, each with its flags
abbrev pub opened : (own far : ℕ) → List Call
opened a b =
    control (command 4 0) ∷
    control (encode number_codec (command 2 4) 2 8) ∷
    registered 0 100 ∷
    registered 4 4096 ∷
    created ∷
    created ∷
    modified 0 5 1 0 a ∷
    modified 0 32769 2 1 0 ∷
    modified 0 1 3 0 0 ∷
    modified 1 5 1 0 b ∷
    modified 1 32769 2 0 0 ∷
    []

-- the peer may be written to and read from
abbrev pub setup : List Call
setup = opened 0 7

-- the judge's verdict on a work request, and on a receive whether it waits
abbrev says : Log → Call → (value : ℕ) → Bool
says l k v = maybe (maybe true (λ q. not (flushes_at_once l q)) (posted_on k)) (judge l) (work_in l v (given k).pair)

unfoldable pub run : Card → Log → List Call → List (Answer × (List ℕ × Bool))
run c l [] = []
run c l (k ∷ ks) =
    let r = step c k in
    (r.answer, (r.memory, says l k r.value)) ∷ run r.card (fed l k r.answer r.value r.buffer) ks

-- queue pair 0 is in error: a write that would pass and a receive are flushed; queue pair 1, on which a receive waits, is moved there, and another
-- joins; the eighth completion fills the queue, and a write and a receive are held
abbrev in_error : List Call
in_error =
    posted 0 257 ∷ waited 0 ∷ waited 1 ∷ modified 1 1 6 0 0 ∷ waited 1 ∷ posted 0 257 ∷ posted 0 257 ∷ waited 0 ∷ []

pub works : drop 11 (run (fresh 8) [] (setup ++ (posted 0 257 ∷ posted 2 0 ∷ waited 1 ∷ posted 2 0 ∷ posted 4 257 ∷ posted 0 258 ∷ in_error)))
    ≡ (Done 0, (1 ∷ 2 ∷ 3 ∷ 4 ∷ 2 ∷ 3 ∷ 7 ∷ 8 ∷ [], true))
    ∷ (Held Peer, (1 ∷ 2 ∷ 3 ∷ 4 ∷ 5 ∷ 6 ∷ 7 ∷ 8 ∷ [], false))
    ∷ (Done 0, ([], true))
    ∷ (Done 0, (1 ∷ 2 ∷ 3 ∷ 4 ∷ 5 ∷ 2 ∷ 3 ∷ 8 ∷ [], true))
    ∷ (Done 0, (1 ∷ 5 ∷ 6 ∷ 4 ∷ 5 ∷ 6 ∷ 7 ∷ 8 ∷ [], true))
    ∷ (Done 8, (1 ∷ 2 ∷ 3 ∷ 4 ∷ 5 ∷ 6 ∷ 7 ∷ 8 ∷ [], false))
    ∷ (Done 4, (1 ∷ 2 ∷ 3 ∷ 4 ∷ 5 ∷ 6 ∷ 7 ∷ 8 ∷ [], false))
    ∷ (Done 4, ([], false))
    ∷ (Done 0, ([], true))
    ∷ (Done 0, ([], true))
    ∷ (Done 0, ([], true))
    ∷ (Done 4, (1 ∷ 2 ∷ 3 ∷ 4 ∷ 5 ∷ 6 ∷ 7 ∷ 8 ∷ [], false))
    ∷ (Held Place, (1 ∷ 2 ∷ 3 ∷ 4 ∷ 5 ∷ 6 ∷ 7 ∷ 8 ∷ [], false))
    ∷ (Held Place, ([], false))
    ∷ []
unfolding run fields_at put_fields le_at put_le rows rows_from lowest lowest_from any_below command_of data_size ack_need number_codec register_codec create_qp_codec modify_qp_codec send_codec sge_codec receive_codec completion_codec send_checks receive_checks receive_sges receive_of send_sge inline_bytes inline_length all stored request_of receive_in range sge_bytes sge_total total own_bytes far_bytes byte_of message delivered permits permits_all place lookup covers command_checks command_ack command_effect pair_checks ready_checks place_checks hold_checks queue_checks delivery_checks run_status send_status send_puts put_all send_qps send_effect send_memory join_checks join_status join_puts joined received flush_checks flushed poll_checks polled checks memory_checks reset_checks control_checks buffer_checks status_of effect memory_after buffer_after step fed ack_data judge near_passes far_passes near far passes filled waiting standing told told_of_both domain peer accepted consumed errored rights byte_in
works = refl

-- ---- what a queue pair's access flags open

-- what the calls after a setup show
abbrev shown : List Call → List (Answer × (List ℕ × Bool))
shown ks = drop 11 (run (fresh 8) [] ks)

-- a peer that can be read from and not written to: a read, and a write
pub readable : shown (opened 0 4 ++ (posted 4 257 ∷ posted 0 257 ∷ []))
    ≡ (Done 0, (1 ∷ 5 ∷ 6 ∷ 4 ∷ 5 ∷ 6 ∷ 7 ∷ 8 ∷ [], true)) ∷ (Done 8, (1 ∷ 2 ∷ 3 ∷ 4 ∷ 5 ∷ 6 ∷ 7 ∷ 8 ∷ [], false)) ∷ []
unfolding run fields_at put_fields le_at put_le rows rows_from lowest lowest_from any_below command_of data_size ack_need number_codec register_codec create_qp_codec modify_qp_codec send_codec sge_codec receive_codec completion_codec send_checks receive_checks receive_sges receive_of send_sge inline_bytes inline_length all stored request_of receive_in range sge_bytes sge_total total own_bytes far_bytes byte_of message delivered permits permits_all place lookup covers command_checks command_ack command_effect queue_checks delivery_checks send_status send_puts put_all send_qps send_effect send_memory join_checks joined flush_checks flushed poll_checks polled checks memory_checks reset_checks control_checks buffer_checks status_of effect memory_after buffer_after step fed ack_data judge near_passes far_passes near far passes filled waiting standing told domain rights peer accepted consumed pair_checks hold_checks ready_checks run_status errored told_of_both byte_in
readable = refl

-- set anew with bit 2, kept without it, and gone after a move to 0, even one with bit 2; the sender's flags do not count
pub writable : shown (opened 7 0 ++ (modified 1 5 3 0 2 ∷ posted 0 257 ∷ modified 1 5 0 0 7 ∷ modified 1 1 1 0 7 ∷ modified 1 32769 2 0 7 ∷ posted 0 257 ∷ []))
    ≡ (Done 0, ([], true))
    ∷ (Done 0, (1 ∷ 2 ∷ 3 ∷ 4 ∷ 2 ∷ 3 ∷ 7 ∷ 8 ∷ [], true))
    ∷ (Done 0, ([], true)) ∷ (Done 0, ([], true)) ∷ (Done 0, ([], true))
    ∷ (Done 8, (1 ∷ 2 ∷ 3 ∷ 4 ∷ 5 ∷ 6 ∷ 7 ∷ 8 ∷ [], false))
    ∷ []
unfolding run fields_at put_fields le_at put_le rows rows_from lowest lowest_from any_below command_of data_size ack_need number_codec register_codec create_qp_codec modify_qp_codec send_codec sge_codec receive_codec completion_codec send_checks receive_checks receive_sges receive_of send_sge inline_bytes inline_length all stored request_of receive_in range sge_bytes sge_total total own_bytes far_bytes byte_of message delivered permits permits_all place lookup covers command_checks command_ack command_effect queue_checks delivery_checks send_status send_puts put_all send_qps send_effect send_memory join_checks joined flush_checks flushed poll_checks polled checks memory_checks reset_checks control_checks buffer_checks status_of effect memory_after buffer_after step fed ack_data judge near_passes far_passes near far passes filled waiting standing told domain rights peer accepted consumed pair_checks hold_checks ready_checks run_status errored told_of_both byte_in
writable = refl

-- ---- what calls leave in their buffers, byte by byte

-- wr_id at 0, opcode 8, flags 9, immediate 12, remote address 16, remote key 24, inline bytes 48, piece count 560, one piece at 576
abbrev send_bytes : List ℕ
send_bytes =
    (1 ∷ 2 ∷ 0 ∷ 0 ∷ 0 ∷ 0 ∷ 0 ∷ 3 ∷ 3 ∷ 2 ∷ 99 ∷ 99 ∷ 4 ∷ 5 ∷ 6 ∷ 7 ∷ 8 ∷ 0 ∷ 0 ∷ 0 ∷ 0 ∷ 0 ∷ 0 ∷ 9 ∷ 10 ∷ 0 ∷ 0 ∷ 11 ∷ [])
    ++ (replicate 20 99 ++ (50 ∷ (replicate 511 99 ++ (1 ∷ 0 ∷ 0 ∷ 0 ∷ (replicate 12 99 ++ (101 ∷ 0 ∷ 0 ∷ 0 ∷ 0 ∷ 0 ∷ 0 ∷ 0 ∷ 2 ∷ 0 ∷ 0 ∷ 0 ∷ 1 ∷ 0 ∷ 0 ∷ 0 ∷ []))))))

pub send_read_lem : request_of send_bytes
    ≡ record {
      wr = 513 + 3 * 2 ^ 56;
      opcode = 3;
      signaled = true;
      inline = false;
      bytes = [];
      imm = 117835012;
      address = 8 + 9 * 2 ^ 56;
      key = 10 + 11 * 2 ^ 24;
      sges = record { address = 101; length = 2; key = 1 } ∷ [];
    }
unfolding fields_at le_at rows rows_from send_codec sge_codec send_sge inline_bytes inline_length request_of
send_read_lem = refl

-- wr_id 0, count 8, pieces from 24
abbrev receive_bytes : List ℕ
receive_bytes =
    1 ∷ 0 ∷ 0 ∷ 0 ∷ 0 ∷ 0 ∷ 0 ∷ 2 ∷ 1 ∷ 0 ∷ 0 ∷ 0 ∷ (replicate 12 99 ++ (1 ∷ 16 ∷ 0 ∷ 0 ∷ 0 ∷ 0 ∷ 0 ∷ 0 ∷ 3 ∷ 0 ∷ 0 ∷ 0 ∷ 1 ∷ 1 ∷ 0 ∷ 0 ∷ []))

abbrev polling : Call
polling = Call.poll 0 (replicate 25 99)

-- the answer buffers of a list of calls
unfoldable pub buffers : Card → List Call → List (List ℕ)
buffers c [] = []
buffers c (k ∷ ks) = let r = step c k in r.buffer ∷ buffers r.card ks

-- ack, mrn, lkey, rkey of the two registrations; ack, qpn of a creation, whose later bytes stay
pub acks : take 3 (drop 2 (buffers (fresh 8) setup))
    ≡ (0 ∷ 0 ∷ 0 ∷ 0 ∷ 0 ∷ 1 ∷ 0 ∷ 0 ∷ 0 ∷ 1 ∷ 0 ∷ 0 ∷ 0 ∷ [])
    ∷ (0 ∷ 1 ∷ 0 ∷ 0 ∷ 0 ∷ 1 ∷ 1 ∷ 0 ∷ 0 ∷ 1 ∷ 1 ∷ 0 ∷ 0 ∷ [])
    ∷ (0 ∷ 0 ∷ 0 ∷ 0 ∷ 0 ∷ 9 ∷ 9 ∷ 9 ∷ 9 ∷ 9 ∷ 9 ∷ 9 ∷ 9 ∷ [])
    ∷ []
unfolding buffers fields_at put_fields le_at put_le rows rows_from lowest lowest_from any_below command_of data_size ack_need number_codec register_codec create_qp_codec modify_qp_codec command_checks command_ack command_effect checks memory_checks control_checks status_of effect memory_after buffer_after step
acks = refl

-- wr_id, status, opcode, zero, byte length, immediate, owner: the sender's completion, its receiver's, a failed write's; byte 24 stays
pub polled_bytes :
    drop 14 (buffers (fresh 8) (setup ++ (Call.receive 1 receive_bytes ∷ Call.send 0 send_bytes mem ∷ posted 0 258 ∷ polling ∷ polling ∷ polling ∷ [])))
    ≡ (1 ∷ 2 ∷ 0 ∷ 0 ∷ 0 ∷ 0 ∷ 0 ∷ 3 ∷ 0 ∷ 0 ∷ 0 ∷ 0 ∷ 2 ∷ 0 ∷ 0 ∷ 0 ∷ 0 ∷ 0 ∷ 0 ∷ 0 ∷ 0 ∷ 0 ∷ 0 ∷ 0 ∷ 99 ∷ [])
    ∷ (1 ∷ 0 ∷ 0 ∷ 0 ∷ 0 ∷ 0 ∷ 0 ∷ 2 ∷ 0 ∷ 3 ∷ 0 ∷ 0 ∷ 2 ∷ 0 ∷ 0 ∷ 0 ∷ 4 ∷ 5 ∷ 6 ∷ 7 ∷ 1 ∷ 0 ∷ 0 ∷ 0 ∷ 99 ∷ [])
    ∷ (7 ∷ 0 ∷ 0 ∷ 0 ∷ 0 ∷ 0 ∷ 0 ∷ 0 ∷ 8 ∷ 1 ∷ 0 ∷ 0 ∷ 0 ∷ 0 ∷ 0 ∷ 0 ∷ 0 ∷ 0 ∷ 0 ∷ 0 ∷ 0 ∷ 0 ∷ 0 ∷ 0 ∷ 99 ∷ [])
    ∷ []
unfolding buffers fields_at put_fields le_at put_le rows rows_from lowest lowest_from any_below command_of data_size ack_need number_codec register_codec create_qp_codec modify_qp_codec send_codec sge_codec receive_codec completion_codec send_checks receive_checks receive_sges receive_of send_sge inline_bytes inline_length all stored request_of receive_in range sge_bytes sge_total total own_bytes far_bytes byte_of message delivered permits permits_all place lookup covers command_checks command_ack command_effect pair_checks ready_checks place_checks hold_checks queue_checks delivery_checks run_status send_status send_puts put_all send_qps send_effect send_memory join_checks join_status join_puts joined received flush_checks flushed poll_checks polled checks memory_checks reset_checks control_checks buffer_checks status_of effect memory_after buffer_after step byte_in
polled_bytes = refl
