-- A run over pages, computed from the bytes of its calls: a region over two pages, one of them listed twice; a write and a read over a page
-- border; a send into two pieces that mean one byte; the region dropped; and page lists that are refused. Assumes nothing.
use mathlib.Core.Path.{◌≡◌, refl}
use mathlib.Core.Bool.{Bool, true, false}
use mathlib.Core.List.{List, [], ◌∷◌, ◌++◌, map}
use Prim.Native.Nat.{ℕ}
use lib.ListN.{replicate, take, drop}
use Rattle.wire.specs.Codec.{fields_at, put_fields, encode}
use Rattle.wire.specs.Le.{le_at, put_le}
use Rattle.wire.specs.Rows.{rows, rows_from}
use Rattle.wire.specs.Scan.{lowest, lowest_from, any_below, all}
use Rattle.tables.specs.Card.{Card, fresh, receive_of}
use Rattle.tables.specs.Commands.{command_of, data_size, number_codec, register_codec, create_qp_codec, modify_qp_codec, ack_need}
use Rattle.tables.specs.Records.{send_codec, sge_codec, receive_codec, send_checks, receive_checks, receive_sges, send_sge, inline_bytes, inline_length, completion_codec}
use Rattle.tables.specs.State.{pages_needed}
use Rattle.rules.specs.declared.Answer.{Answer}
use Rattle.rules.specs.declared.Answer.TheVariants.{Done}
use Rattle.rules.specs.Lists.{stored}
use Rattle.rules.specs.Touch.{receive_in, range, sge_bytes, sge_total, total, own_bytes, far_bytes, byte_in, byte_of, message, delivered}
use Rattle.tables.specs.Records.{request_of}
use Rattle.rules.specs.Pages.{page_record_checks, page_list_checks}
use Rattle.rules.specs.Permit.{permits, permits_all, place, lookup, covers}
use Rattle.rules.specs.Control.{command_checks, command_ack, command_effect}
use Rattle.rules.specs.Send.{pair_checks, ready_checks, hold_checks, queue_checks, delivery_checks, run_status, send_status, send_puts, put_all, send_qps, send_effect, send_memory}
use Rattle.rules.specs.Queues.{join_checks, join_status, join_puts, joined, received}
use Rattle.rules.specs.Call.{Call}
use Rattle.rules.specs.Calls.{memory_checks, checks, control_checks, status_of, effect, memory_after, buffer_after, step}
use Rattle.judge.specs.Log.{Log, fed, ack_data, told}
use Rattle.judge.specs.Judge.{judge, judged_memory, read_side, written_side, sources, placed, near_passes, far_passes, near, far, passes, filled, waiting, standing, told_of_both, domain, peer, accepted, consumed, errored, rights}
use Rattle.judge.proofs.Example.{command, control, registered, modified, created, run, buffers}

-- two pages
abbrev mem : List ℕ
mem = 1 ∷ 2 ∷ 3 ∷ 4 ∷ 5 ∷ 6 ∷ replicate 8186 0

-- a region that starts 2 bytes before the end of its first page, over the pages listed
abbrev paged : (pages : List ℕ) → Call
paged ps =
    Call.register_pages (encode register_codec (command 7 32) 2 (record { pd = 0; access = 7; start = 4094; length = 8194; virt = 4096 })) ps (replicate 13 9)

-- so many bytes from 100 on, which is memory byte 2; the remote address is the first of the region over pages
abbrev asked : (opcode count : ℕ) → List ℕ
asked o n =
    encode sge_codec (encode send_codec (replicate 592 0) 0 (record { wr = 7; opcode = o; flags = 0; imm = 0; address = 4096; key = 257; count = 1 })) 576
    (record { address = 100; length = n; key = 1 })

abbrev posted : (opcode count : ℕ) → Call
posted o n = Call.send 0 (asked o n) mem

-- two pieces of one byte, which both mean memory byte 8190
abbrev waited : Call
waited =
    Call.receive 1
    (encode receive_codec (replicate 56 0) 0
    (record { wr = 9; count = 2; first = record { address = 4096; length = 1; key = 257 }; second = record { address = 12288; length = 1; key = 257 } }))

abbrev deregistered : Call
deregistered = control (encode number_codec (command 8 4) 2 1)

-- a domain, a completion queue, a region of the bytes 2 to 5 with the key 1 and one over pages with the key 257, and two queue pairs that are joined
abbrev setup : List Call
setup =
    control (command 4 0) ∷
    control (encode number_codec (command 2 4) 2 8) ∷
    registered 2 100 ∷
    paged (4096 ∷ 0 ∷ 4096 ∷ []) ∷
    created ∷
    created ∷
    modified 0 5 1 0 0 ∷
    modified 0 32769 2 1 0 ∷
    modified 0 1 3 0 0 ∷
    modified 1 5 1 0 7 ∷
    modified 1 32769 2 0 0 ∷
    []

-- the first six bytes of a memory and its last two
abbrev ends : List ℕ → List ℕ
ends m = take 6 m ++ drop 8190 m

-- an answer, the memory after it, and the verdict
abbrev shown : Answer × (List ℕ × Bool) → Answer × (List ℕ × Bool)
shown x = (x.0, (ends x.1.0, x.1.1))

-- a write of four bytes to 8190, 8191, 0 and 1; a read of them; a send of two bytes, of which the later wins; and the write once the region is
-- dropped
pub works : map shown (drop 11 (run (fresh 8192) [] (setup ++ (posted 0 4 ∷ posted 4 4 ∷ waited ∷ posted 2 2 ∷ deregistered ∷ posted 0 4 ∷ []))))
    ≡ (Done 0, (5 ∷ 6 ∷ 3 ∷ 4 ∷ 5 ∷ 6 ∷ 3 ∷ 4 ∷ [], true))
    ∷ (Done 0, (1 ∷ 2 ∷ 0 ∷ 0 ∷ 1 ∷ 2 ∷ 0 ∷ 0 ∷ [], true))
    ∷ (Done 0, ([], true))
    ∷ (Done 0, (1 ∷ 2 ∷ 3 ∷ 4 ∷ 5 ∷ 6 ∷ 4 ∷ 0 ∷ [], true))
    ∷ (Done 0, ([], true))
    ∷ (Done 8, (1 ∷ 2 ∷ 3 ∷ 4 ∷ 5 ∷ 6 ∷ 0 ∷ 0 ∷ [], false))
    ∷ []
unfolding run fields_at put_fields le_at put_le rows rows_from lowest lowest_from any_below command_of data_size ack_need number_codec register_codec create_qp_codec modify_qp_codec send_codec sge_codec receive_codec completion_codec send_checks receive_checks receive_sges receive_of send_sge inline_bytes inline_length pages_needed page_record_checks page_list_checks all stored request_of receive_in range sge_bytes sge_total total own_bytes far_bytes byte_in byte_of message delivered permits permits_all place lookup covers command_checks command_ack command_effect pair_checks ready_checks hold_checks queue_checks delivery_checks run_status send_status send_puts put_all send_qps send_effect send_memory join_checks join_status join_puts joined received checks memory_checks control_checks status_of effect memory_after buffer_after step fed ack_data judge near_passes far_passes near far passes filled waiting standing told told_of_both domain peer accepted consumed errored rights
works = refl

-- ---- what the judge makes of the log

-- what it has heard of the calls
unfoldable pub heard : Card → Log → List Call → Log
heard c l [] = l
heard c l (k ∷ ks) = let r = step c k in heard r.card (fed l k r.answer r.value r.buffer) ks

-- the bytes that it takes the first two addresses of the region over pages for, those on both sides of the second border, and the last
pub means : map (λ (a : ℕ). placed (heard (fresh 8192) [] (take 4 setup)) (record { address = a; key = 257 })) (4096 ∷ 4097 ∷ 4098 ∷ 8193 ∷ 8194 ∷ 12289 ∷ [])
    ≡ 8190 ∷ 8191 ∷ 0 ∷ 4095 ∷ 4096 ∷ 8191 ∷ []
unfolding heard placed fields_at put_fields le_at put_le rows rows_from lowest lowest_from any_below command_of data_size ack_need number_codec register_codec create_qp_codec modify_qp_codec send_codec sge_codec receive_codec completion_codec send_checks receive_checks receive_sges receive_of send_sge inline_bytes inline_length pages_needed page_record_checks page_list_checks all stored request_of receive_in range sge_bytes sge_total total own_bytes far_bytes byte_in byte_of message delivered permits permits_all place lookup covers command_checks command_ack command_effect pair_checks ready_checks hold_checks queue_checks delivery_checks run_status send_status send_puts put_all send_qps send_effect send_memory join_checks join_status join_puts joined received checks memory_checks control_checks status_of effect memory_after buffer_after step fed ack_data judge near_passes far_passes near far passes filled waiting standing told told_of_both domain peer accepted consumed errored rights
means = refl

-- the memory that it expects of the write and of the read
pub expects : map (λ (o : ℕ). ends (judged_memory (heard (fresh 8192) [] setup) (record { qpn = 0; request = request_of (asked o 4) }) mem)) (0 ∷ 4 ∷ [])
    ≡ (5 ∷ 6 ∷ 3 ∷ 4 ∷ 5 ∷ 6 ∷ 3 ∷ 4 ∷ []) ∷ (1 ∷ 2 ∷ 0 ∷ 0 ∷ 1 ∷ 2 ∷ 0 ∷ 0 ∷ []) ∷ []
unfolding heard placed judged_memory read_side written_side sources fields_at put_fields le_at put_le rows rows_from lowest lowest_from any_below command_of data_size ack_need number_codec register_codec create_qp_codec modify_qp_codec send_codec sge_codec receive_codec completion_codec send_checks receive_checks receive_sges receive_of send_sge inline_bytes inline_length pages_needed page_record_checks page_list_checks all stored request_of receive_in range sge_bytes sge_total total own_bytes far_bytes byte_in byte_of message delivered permits permits_all place lookup covers command_checks command_ack command_effect pair_checks ready_checks hold_checks queue_checks delivery_checks run_status send_status send_puts put_all send_qps send_effect send_memory join_checks join_status join_puts joined received checks memory_checks control_checks status_of effect memory_after buffer_after step fed ack_data judge near_passes far_passes near far passes filled waiting standing told told_of_both domain peer accepted consumed errored rights
expects = refl

-- ---- acks

-- ack, mrn, lkey, rkey; a page too few, and a create PD: the ack byte 1, and later bytes stay
pub acks : drop 3 (buffers (fresh 8192) (take 4 setup ++ (paged (4096 ∷ 0 ∷ []) ∷ Call.register_pages (command 4 0) [] (replicate 13 9) ∷ [])))
    ≡ (0 ∷ 1 ∷ 0 ∷ 0 ∷ 0 ∷ 1 ∷ 1 ∷ 0 ∷ 0 ∷ 1 ∷ 1 ∷ 0 ∷ 0 ∷ [])
    ∷ (1 ∷ 9 ∷ 9 ∷ 9 ∷ 9 ∷ 9 ∷ 9 ∷ 9 ∷ 9 ∷ 9 ∷ 9 ∷ 9 ∷ 9 ∷ [])
    ∷ (1 ∷ 9 ∷ 9 ∷ 9 ∷ 9 ∷ 9 ∷ 9 ∷ 9 ∷ 9 ∷ 9 ∷ 9 ∷ 9 ∷ 9 ∷ [])
    ∷ []
unfolding buffers fields_at put_fields le_at put_le rows rows_from lowest lowest_from any_below command_of data_size ack_need number_codec register_codec pages_needed page_record_checks page_list_checks all command_checks command_ack command_effect checks memory_checks control_checks status_of effect memory_after buffer_after step
acks = refl
