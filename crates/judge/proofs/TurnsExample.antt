-- Runs of send queues and turns, 02, M-108, computed from the bytes of their calls: each call's answer, the memory after it, and the judge's verdict
-- on the work request that it finds in the log. Assumes nothing.
use mathlib.Core.Path.{◌≡◌, refl}
use mathlib.Core.Bool.{true, false}
use mathlib.Core.List.{[], ◌∷◌, ◌++◌}
use Prim.Native.Nat.{ℕ}
use lib.ListN.{drop}
use Rattle.wire.specs.Codec.{fields_at, put_fields}
use Rattle.wire.specs.Le.{le_at, put_le}
use Rattle.wire.specs.Rows.{rows, rows_from}
use Rattle.wire.specs.Scan.{lowest, lowest_from, any_below, all}
use Rattle.tables.specs.Card.{fresh, receive_of}
use Rattle.tables.specs.Commands.{command_of, data_size, number_codec, register_codec, create_qp_codec, modify_qp_codec, ack_need}
use Rattle.tables.specs.Records.{send_codec, sge_codec, receive_codec, send_checks, receive_checks, receive_sges, send_sge, inline_bytes, inline_length, completion_codec}
use Rattle.rules.specs.declared.Answer.TheVariants.{Done}
use Rattle.rules.specs.Lists.{stored}
use Rattle.rules.specs.Touch.{receive_in, range, sge_bytes, sge_total, total, own_bytes, far_bytes, byte_in, byte_of, message, delivered}
use Rattle.tables.specs.Records.{request_of}
use Rattle.rules.specs.Permit.{permits, permits_all, place, lookup, covers}
use Rattle.rules.specs.Control.{command_checks, command_ack, command_effect}
use Rattle.rules.specs.Send.{pair_checks, ready_checks, place_checks, hold_checks, queue_checks, delivery_checks, run_status, send_status, send_puts, put_all, send_qps, send_effect, send_memory}
use Rattle.rules.specs.Queues.{join_checks, join_status, join_puts, joined, received, flush_checks, flushed, poll_checks, polled}
use Rattle.rules.specs.Call.{Call}
use Rattle.rules.specs.Calls.{value_of, memory_checks, checks, reset_checks, control_checks, buffer_checks, status_of, effect, memory_after, buffer_after, step}
use Rattle.judge.specs.Log.{enqueued_on, turns_on, queued, fed, ack_data, told}
use Rattle.judge.specs.Judge.{judge, near_passes, far_passes, near, far, passes, filled, waiting, standing, told_of_both, domain, peer, accepted, consumed, errored, rights}
use Rattle.rules.specs.Turn.{passed_over, runnable, served, enqueue_checks, enqueued, turn_checks, head_gone, turn_effect}
use Rattle.rules.specs.declared.Answer.TheVariants.{Refused}
use Rattle.judge.proofs.Example.{mem, modified, record_of, posted, waited, setup, run}

abbrev enqueue : (opcode key : ℕ) → Call
enqueue o k = Call.enqueue 0 (record_of o k) mem

abbrev turn : Call
turn = Call.turn mem

-- two writes and one between them whose key names no region; a direct send behind them; then turns: the first write succeeds, the second request
-- fails, the third is flushed, and none is left
pub turns : drop 11 (run (fresh 8) [] (setup ++ (enqueue 0 257 ∷ enqueue 0 258 ∷ enqueue 0 257 ∷ posted 0 257 ∷ turn ∷ turn ∷ turn ∷ turn ∷ [])))
    ≡ (Done 0, (mem, true))
    ∷ (Done 0, (mem, true))
    ∷ (Done 0, (mem, true))
    ∷ (Refused 10, (mem, true))
    ∷ (Done 0, (1 ∷ 2 ∷ 3 ∷ 4 ∷ 2 ∷ 3 ∷ 7 ∷ 8 ∷ [], true))
    ∷ (Done 8, (mem, false))
    ∷ (Done 4, (mem, false))
    ∷ (Refused 9, (mem, false))
    ∷ []
unfolding run fields_at put_fields le_at put_le rows rows_from lowest lowest_from any_below command_of data_size ack_need number_codec register_codec create_qp_codec modify_qp_codec send_codec sge_codec receive_codec completion_codec send_checks receive_checks receive_sges receive_of send_sge inline_bytes inline_length all stored request_of receive_in range sge_bytes sge_total total own_bytes far_bytes byte_of message delivered permits permits_all place lookup covers command_checks command_ack command_effect pair_checks ready_checks place_checks hold_checks queue_checks delivery_checks run_status send_status send_puts put_all send_qps send_effect send_memory join_checks join_status join_puts joined received flush_checks flushed poll_checks polled checks memory_checks reset_checks control_checks buffer_checks status_of effect memory_after buffer_after step fed ack_data judge near_passes far_passes near far passes filled waiting standing told told_of_both domain peer accepted consumed errored rights byte_in value_of enqueue_checks enqueued turn_checks passed_over runnable served head_gone turn_effect enqueued_on turns_on queued
turns = refl

-- a send waits at the head for a receive of the peer's, which it takes at its turn; the next finds none
pub takes : drop 11 (run (fresh 8) [] (setup ++ (enqueue 2 0 ∷ enqueue 2 0 ∷ turn ∷ waited 1 ∷ turn ∷ turn ∷ [])))
    ≡ (Done 0, (mem, true))
    ∷ (Done 0, (mem, true))
    ∷ (Refused 9, (mem, false))
    ∷ (Done 0, ([], true))
    ∷ (Done 0, (1 ∷ 2 ∷ 3 ∷ 4 ∷ 5 ∷ 2 ∷ 3 ∷ 8 ∷ [], true))
    ∷ (Refused 9, (mem, false))
    ∷ []
unfolding run fields_at put_fields le_at put_le rows rows_from lowest lowest_from any_below command_of data_size ack_need number_codec register_codec create_qp_codec modify_qp_codec send_codec sge_codec receive_codec completion_codec send_checks receive_checks receive_sges receive_of send_sge inline_bytes inline_length all stored request_of receive_in range sge_bytes sge_total total own_bytes far_bytes byte_of message delivered permits permits_all place lookup covers command_checks command_ack command_effect pair_checks ready_checks place_checks hold_checks queue_checks delivery_checks run_status send_status send_puts put_all send_qps send_effect send_memory join_checks join_status join_puts joined received flush_checks flushed poll_checks polled checks memory_checks reset_checks control_checks buffer_checks status_of effect memory_after buffer_after step fed ack_data judge near_passes far_passes near far passes filled waiting standing told told_of_both domain peer accepted consumed errored rights byte_in value_of enqueue_checks enqueued turn_checks passed_over runnable served head_gone turn_effect enqueued_on turns_on queued
takes = refl

-- a move to 0 drops the queue: what is enqueued after it is the first that a turn runs
pub anew : drop 11 (run (fresh 8) []
    (setup ++ (enqueue 0 258 ∷ modified 0 1 0 0 0 ∷ modified 0 1 1 0 0 ∷ modified 0 32769 2 1 0 ∷ modified 0 1 3 0 0 ∷ enqueue 0 257 ∷ turn ∷ [])))
    ≡ (Done 0, (mem, true))
    ∷ (Done 0, ([], true)) ∷ (Done 0, ([], true)) ∷ (Done 0, ([], true)) ∷ (Done 0, ([], true))
    ∷ (Done 0, (mem, true))
    ∷ (Done 0, (1 ∷ 2 ∷ 3 ∷ 4 ∷ 2 ∷ 3 ∷ 7 ∷ 8 ∷ [], true))
    ∷ []
unfolding run fields_at put_fields le_at put_le rows rows_from lowest lowest_from any_below command_of data_size ack_need number_codec register_codec create_qp_codec modify_qp_codec send_codec sge_codec receive_codec completion_codec send_checks receive_checks receive_sges receive_of send_sge inline_bytes inline_length all stored request_of receive_in range sge_bytes sge_total total own_bytes far_bytes byte_of message delivered permits permits_all place lookup covers command_checks command_ack command_effect pair_checks ready_checks place_checks hold_checks queue_checks delivery_checks run_status send_status send_puts put_all send_qps send_effect send_memory join_checks join_status join_puts joined received flush_checks flushed poll_checks polled checks memory_checks reset_checks control_checks buffer_checks status_of effect memory_after buffer_after step fed ack_data judge near_passes far_passes near far passes filled waiting standing told told_of_both domain peer accepted consumed errored rights byte_in value_of enqueue_checks enqueued turn_checks passed_over runnable served head_gone turn_effect enqueued_on turns_on queued
anew = refl
