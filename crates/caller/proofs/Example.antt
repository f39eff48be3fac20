-- The run of specs/Example.antt is a list of the judge's theorem. Its states are never written out: every call has an outcome
-- (EveryCall.antt), and the card that it leaves is computed on. Assumes nothing.
use mathlib.Core.Path.{◌≡◌, refl, ap, ◌∙◌}
use mathlib.Core.List.{List, [], map}
use Prim.Native.Nat.{ℕ}
use lib.ListN.{length}
use Rattle.tables.specs.Layout.{state_size}
use Rattle.tables.specs.Reset.{zeros}
use Rattle.tables.specs.State.{card, pages_needed}
use Rattle.tables.proofs.ResetLaws.{zeros_length}
use Rattle.wire.specs.Codec.{fields_at, put_fields}
use Rattle.wire.specs.Le.{le_at, put_le}
use Rattle.wire.specs.Rows.{rows, rows_from}
use Rattle.wire.specs.Scan.{lowest, lowest_from, any_below, all}
use Rattle.tables.specs.Card.{fresh, receive_of}
use Rattle.tables.specs.Commands.{command_of, data_size, number_codec, register_codec, create_qp_codec, modify_qp_codec, ack_need}
use Rattle.tables.specs.Records.{send_codec, sge_codec, receive_codec, send_checks, receive_checks, receive_sges, send_sge, inline_bytes, inline_length, completion_codec}
use Rattle.rules.specs.Lists.{stored}
use Rattle.rules.specs.Touch.{receive_in, range, sge_bytes, sge_total, total, own_bytes, far_bytes, byte_in, byte_of, message, delivered}
use Rattle.tables.specs.Records.{request_of}
use Rattle.rules.specs.Pages.{page_record_checks, page_list_checks}
use Rattle.rules.specs.Permit.{permits, permits_all, place, lookup, covers}
use Rattle.rules.specs.Control.{command_checks, command_ack, command_effect}
use Rattle.rules.specs.Send.{pair_checks, ready_checks, place_checks, hold_checks, queue_checks, delivery_checks, run_status, send_status, send_puts, put_all, send_qps, send_effect, send_memory}
use Rattle.rules.specs.Queues.{join_checks, join_status, join_puts, joined, received, flush_checks, flushed, poll_checks, polled}
use Rattle.rules.specs.Turn.{passed_over, runnable, served, enqueue_checks, enqueued, turn_checks, head_gone, turn_effect}
use Rattle.rules.specs.Call.{Call}
use Rattle.rules.specs.Contract.{bytes_after}
use Rattle.rules.specs.declared.Answer.TheVariants.{Done}
use Rattle.rules.specs.Calls.{checks, memory_checks, reset_checks, control_checks, buffer_checks, status_of, value_of, effect, memory_after, buffer_after, step}
use Rattle.judge.specs.Log.{fed, ack_data, told, enqueued_on, turns_on, queued}
use Rattle.judge.specs.Judge.{judge, near_passes, far_passes, near, far, passes, filled, waiting, standing, told_of_both, domain, peer, accepted, consumed, errored, rights}
use Rattle.judge.specs.Demand3.{Begins, AfterReset}
use Rattle.judge.specs.Whole.{FromC}
use Rattle.judge.proofs.Whole.{exported}
use Rattle.caller.specs.Exchange.{exchange_of}
use Rattle.caller.specs.Made.{made, made_all, Line, lines}
use Rattle.caller.specs.Example.{run, Example}
use Rattle.caller.proofs.MadeLaws.{made_from_c, all_linked, exchanges, exchanges_are, reset_answered, reset_means, reset_accepted}

abbrev calls_of : List Line → List Call
calls_of ls = map (λ (x : Line). x.call) ls

computed : lines [] (exchanges (fresh 8) (calls_of run)) ≡ run
unfolding exchanges lines fields_at put_fields le_at put_le rows rows_from lowest lowest_from any_below command_of data_size ack_need number_codec register_codec create_qp_codec modify_qp_codec send_codec sge_codec receive_codec completion_codec send_checks receive_checks receive_sges receive_of send_sge inline_bytes inline_length pages_needed page_record_checks page_list_checks all stored request_of receive_in range sge_bytes sge_total total own_bytes far_bytes byte_of message delivered permits permits_all place lookup covers command_checks command_ack command_effect pair_checks ready_checks place_checks hold_checks queue_checks delivery_checks run_status send_status send_puts put_all send_qps send_effect send_memory join_checks join_status join_puts joined received flush_checks flushed poll_checks polled checks memory_checks enqueue_checks enqueued turn_checks passed_over runnable served head_gone turn_effect reset_checks control_checks buffer_checks status_of value_of effect memory_after buffer_after step fed ack_data enqueued_on turns_on queued judge near_passes far_passes near far passes filled waiting standing told told_of_both domain peer accepted consumed errored rights byte_in
computed = refl

module _ (l : List ℕ) (sized : length l ≡ state_size) where
  done : (step (card l) (Call.reset 8)).answer ≡ Done 0
  unfolding step checks reset_checks status_of
  done = refl

  abbrev start : List ℕ
  start = bytes_after l (Call.reset 8)

  abbrev begins : Begins FromC (made l (Call.reset 8))
  begins = record { before = l; base = []; begin = refl; made = made_from_c l (Call.reset 8); done = reset_answered l sized 8 done }

  fresh_start : card start ≡ fresh 8
  unfolding step checks reset_checks effect
  fresh_start = reset_means l sized 8 done

  calls_are : map exchange_of (made_all start (calls_of run)) ≡ exchanges (fresh 8) (calls_of run)
  unfolding AfterReset
  calls_are =
      exchanges_are start (fresh 8) (calls_of run) [] fresh_start (reset_accepted l sized 8 done)
      (exported.steady (made l (Call.reset 8)) begins (made_all start (calls_of run)) (all_linked start (calls_of run)))

  pub example : Example l
  unfolding AfterReset
  example =
      let links = all_linked start (calls_of run) in
      record {
        begins = begins;
        linked = links;
        judged = exported.judged (made l (Call.reset 8)) begins (made_all start (calls_of run)) links;
        receives = exported.receives (made l (Call.reset 8)) begins (made_all start (calls_of run)) links;
        shows = ap (lines []) calls_are ∙ computed;
      }

-- on a state of zero bytes
pub on_zeros : Example (zeros state_size)
on_zeros = example (zeros state_size) (zeros_length state_size)
