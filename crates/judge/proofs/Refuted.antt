-- Lists of calls that demand 3 must not allow: each is the calls of Example.antt, with the outcomes of the rules, and one call more, whose
-- outcome is wrong. Assumes nothing.
use mathlib.Core.Path.{◌≡◌, refl, sym, ap}
use mathlib.Core.Bool.{false, true≢false}
use mathlib.Core.List.{List, [], ◌∷◌, ◌++◌, map}
use mathlib.Core.Option.{none, some}
use mathlib.Core.Logic.{◌≢◌}
use Prim.Native.Nat.{ℕ, zero, suc, ◌<◌}
use native.Mathlib.Omega.{arith}
use lib.Dec.{eqb}
use lib.ListN.{get_or}
use borrow.Author.Tests.{eqb-false}
use Rattle.wire.specs.Codec.{fields_at, put_fields}
use Rattle.wire.specs.Le.{le_at, put_le}
use Rattle.wire.specs.Rows.{rows, rows_from}
use Rattle.wire.specs.Scan.{lowest, lowest_from, any_below, all}
use Rattle.tables.specs.Card.{Card, fresh, receive_of}
use Rattle.tables.specs.Commands.{command_of, data_size, number_codec, register_codec, create_qp_codec, modify_qp_codec, ack_need}
use Rattle.tables.specs.Records.{send_codec, sge_codec, receive_codec, receive_sges, send_sge, inline_bytes, inline_length}
use Rattle.rules.specs.declared.Answer.TheVariants.{Done}
use Rattle.rules.specs.Touch.{receive_in, range, sge_bytes, sge_total, total, own_bytes, far_bytes, byte_in, byte_of}
use Rattle.tables.specs.Records.{request_of}
use Rattle.rules.specs.Control.{command_checks, command_ack, command_effect}
use Rattle.rules.specs.Call.{Call, leaving}
use Rattle.rules.specs.Calls.{memory_checks, checks, reset_checks, control_checks, status_of, effect, memory_after, buffer_after, step}
use Rattle.judge.specs.Log.{Log, fed, ack_data, told, Note, PairNote, queued, enqueued_on, turns_on}
use Rattle.judge.specs.Judge.{judge, near_passes, far_passes, near, far, passes, placed, filled, waiting, standing, told_of_both, domain, peer, accepted, consumed, errored, rights, written_side, read_side, sources}
use Rattle.judge.specs.Demand3.{Seen, heard, Claim, Each, log_after, state_after, work_by, OfWork, Judged, posted_on, Flushes, Linked, AfterReset, Demand3, target, source}
use Rattle.judge.proofs.Example.{command, control, setup, record_of, posted, waited, mem}

-- ---- what demand 3 is about: the work request of a post send, and the queue pair of a post receive

abbrev every_call : List Call
every_call =
    Call.reset 8 ∷ control (command 4 0) ∷ Call.register_pages [] [] [] ∷ posted 0 257 ∷ waited 1 ∷ Call.flush 1 ∷ Call.poll 0 [] ∷
    Call.enqueue 0 (record_of 0 257) mem ∷ Call.turn mem ∷ []

-- of a turn that served queue pair 0, on which this was enqueued
abbrev one_queued : Log
one_queued = Note.of_pair 0 (PairNote.enqueued (request_of (record_of 0 257))) ∷ []

pub work_requests : map (λ k. work_by one_queued k (leaving (Done 0) [] [] [])) every_call
    ≡ none ∷ none ∷ none ∷ some (record { qpn = 0; request = request_of (record_of 0 257) }) ∷ none ∷ none ∷ none ∷ none ∷
    some (record { qpn = 0; request = request_of (record_of 0 257) }) ∷ []
unfolding queued enqueued_on turns_on told
work_requests = refl

pub posted_receives : map posted_on every_call ≡ none ∷ none ∷ none ∷ none ∷ some 1 ∷ none ∷ none ∷ none ∷ none ∷ []
posted_receives = refl

-- ---- lists

-- calls on the card c with the outcomes of the rules
unfoldable pub shown : Card → List Call → List Seen
shown c [] = []
shown c (k ∷ ks) = let r = step c k in record { call = k; left = leaving r.answer [] r.memory r.buffer } ∷ shown r.card ks

-- the list: a domain, two regions of 4 bytes, two joined queue pairs, and the call x
abbrev Allowed : Claim → (x : Seen) → Type 0
Allowed P x = Each P [] [] (shown (fresh 8) setup ++ (x ∷ []))

-- a call that ends with the status s and the memory m
abbrev ends : Call → (s : ℕ) → (m : List ℕ) → Seen
ends k s m = record { call = k; left = leaving (Done s) [] m [] }

last : (P : Claim) (st : List ℕ) (l : Log) (xs : List Seen) (x : Seen) → Each P st l (xs ++ (x ∷ [])) → P (state_after st xs) (log_after l xs) x
unfolding Each state_after log_after
last P st l [] x h = h.0
last P st l (y ∷ ys) x h = last P y.left.state (heard l y) ys x h.1

-- what is claimed of x
abbrev claimed : (P : Claim) (x : Seen) → Allowed P x → P (state_after [] (shown (fresh 8) setup)) (log_after [] (shown (fresh 8) setup)) x
claimed P x h = last P [] [] (shown (fresh 8) setup) x h

-- two numbers that are not one
differ : (x y : ℕ) → eqb x y ≡ false → x ≡ y → ⊥
differ x y d e = eqb-false x y d e

-- ---- a work request

-- a write under the key of no region that has succeeded
pub false_success : Allowed (OfWork Judged) (ends (posted 0 258) 0 mem) → ⊥
unfolding shown step checks memory_checks reset_checks control_checks status_of effect memory_after buffer_after command_of data_size ack_need number_codec register_codec create_qp_codec modify_qp_codec command_checks command_ack command_effect lowest lowest_from any_below fields_at put_fields le_at put_le rows rows_from fed ack_data log_after state_after send_codec sge_codec send_sge inline_bytes inline_length request_of all range sge_bytes sge_total total own_bytes far_bytes judge near_passes far_passes near far passes filled waiting standing told told_of_both domain peer accepted consumed errored rights
false_success h = true≢false (claimed (OfWork Judged) (ends (posted 0 258) 0 mem) h).correct.verdict

-- one that must succeed and has failed
pub false_failure : Allowed (OfWork Judged) (ends (posted 0 257) 8 mem) → ⊥
unfolding shown step checks memory_checks reset_checks control_checks status_of effect memory_after buffer_after command_of data_size ack_need number_codec register_codec create_qp_codec modify_qp_codec command_checks command_ack command_effect lowest lowest_from any_below fields_at put_fields le_at put_le rows rows_from fed ack_data log_after state_after send_codec sge_codec send_sge inline_bytes inline_length request_of all range sge_bytes sge_total total own_bytes far_bytes judge near_passes far_passes near far passes filled waiting standing told told_of_both domain peer accepted consumed errored rights
false_failure h = true≢false (sym (claimed (OfWork Judged) (ends (posted 0 257) 8 mem) h).correct.verdict)

-- one that was flushed on a queue pair that is not in error
pub false_flush : Allowed (OfWork Judged) (ends (posted 0 258) 4 mem) → ⊥
unfolding shown step checks memory_checks reset_checks control_checks status_of effect memory_after buffer_after command_of data_size ack_need number_codec register_codec create_qp_codec modify_qp_codec command_checks command_ack command_effect lowest lowest_from any_below fields_at put_fields le_at put_le rows rows_from fed ack_data log_after state_after send_codec sge_codec send_sge inline_bytes inline_length request_of all range sge_bytes sge_total total own_bytes far_bytes judge near_passes far_passes near far passes filled waiting standing told told_of_both domain peer accepted consumed errored rights
false_flush h = true≢false (claimed (OfWork Judged) (ends (posted 0 258) 4 mem) h).correct.in_error

-- ---- its bytes, of which two are written, to the memory bytes 4 and 5

one_of_two : 1 < 2
one_of_two = omega arith

none_between : (j : ℕ) → 1 < j → j < 2 → ⊥
none_between j a b = omega arith

-- the second has another value than its source
pub wrong_byte : Allowed (OfWork Judged) (ends (posted 0 257) 0 (1 ∷ 2 ∷ 3 ∷ 4 ∷ 2 ∷ 9 ∷ 7 ∷ 8 ∷ [])) → ⊥
unfolding shown step checks memory_checks reset_checks control_checks status_of effect memory_after buffer_after command_of data_size ack_need number_codec register_codec create_qp_codec modify_qp_codec command_checks command_ack command_effect lowest lowest_from any_below fields_at put_fields le_at put_le rows rows_from fed ack_data log_after state_after send_codec sge_codec send_sge inline_bytes inline_length request_of all range sge_bytes sge_total total own_bytes far_bytes judge near_passes far_passes near far passes filled waiting standing told told_of_both domain peer accepted consumed errored rights placed byte_of byte_in target source written_side read_side sources
wrong_byte h =
    differ 9 3 refl
    ((claimed (OfWork Judged) (ends (posted 0 257) 0 (1 ∷ 2 ∷ 3 ∷ 4 ∷ 2 ∷ 9 ∷ 7 ∷ 8 ∷ [])) h).bytewise.written refl 1 one_of_two
    (λ j a b e. none_between j a b))

-- both are right, and so is a third
pub other_byte : Allowed (OfWork Judged) (ends (posted 0 257) 0 (1 ∷ 2 ∷ 3 ∷ 4 ∷ 2 ∷ 3 ∷ 4 ∷ 8 ∷ [])) → ⊥
unfolding shown step checks memory_checks reset_checks control_checks status_of effect memory_after buffer_after command_of data_size ack_need number_codec register_codec create_qp_codec modify_qp_codec command_checks command_ack command_effect lowest lowest_from any_below fields_at put_fields le_at put_le rows rows_from fed ack_data log_after state_after send_codec sge_codec send_sge inline_bytes inline_length request_of all range sge_bytes sge_total total own_bytes far_bytes judge near_passes far_passes near far passes filled waiting standing told told_of_both domain peer accepted consumed errored rights placed byte_of byte_in target source written_side read_side sources
other_byte h =
    differ 4 7 refl
    ((claimed (OfWork Judged) (ends (posted 0 257) 0 (1 ∷ 2 ∷ 3 ∷ 4 ∷ 2 ∷ 3 ∷ 4 ∷ 8 ∷ [])) h).bytewise.others refl 6 not_written)
  where
    not_written : (i : ℕ) → i < 2 → target (log_after [] (shown (fresh 8) setup)) (record { qpn = 0; request = request_of (record_of 0 257) }) i ≢ 6
    not_written zero h = differ 4 6 refl
    not_written (suc zero) h = differ 5 6 refl
    not_written (suc (suc i)) h = absurd (omega arith)

-- one is written by a request that failed
pub byte_on_failure : Allowed (OfWork Judged) (ends (posted 0 258) 8 (1 ∷ 2 ∷ 3 ∷ 4 ∷ 2 ∷ 6 ∷ 7 ∷ 8 ∷ [])) → ⊥
unfolding shown step checks memory_checks reset_checks control_checks status_of effect memory_after buffer_after command_of data_size ack_need number_codec register_codec create_qp_codec modify_qp_codec command_checks command_ack command_effect lowest lowest_from any_below fields_at put_fields le_at put_le rows rows_from fed ack_data log_after state_after send_codec sge_codec send_sge inline_bytes inline_length request_of all range sge_bytes sge_total total own_bytes far_bytes judge near_passes far_passes near far passes filled waiting standing told told_of_both domain peer accepted consumed errored rights
byte_on_failure h =
    differ 2 5 refl
    (ap (λ (m : List ℕ). get_or m 4 0)
    ((claimed (OfWork Judged) (ends (posted 0 258) 8 (1 ∷ 2 ∷ 3 ∷ 4 ∷ 2 ∷ 6 ∷ 7 ∷ 8 ∷ [])) h).bytewise.failed (differ 8 0 refl)))

-- ---- a receive

-- flushed on a queue pair that is not in error
pub false_status : Allowed Flushes (ends (waited 1) 4 []) → ⊥
unfolding shown step checks memory_checks reset_checks control_checks status_of effect memory_after buffer_after command_of data_size ack_need number_codec register_codec create_qp_codec modify_qp_codec command_checks command_ack command_effect lowest lowest_from any_below fields_at put_fields le_at put_le rows rows_from fed ack_data log_after state_after send_codec sge_codec send_sge inline_bytes inline_length request_of all range sge_bytes sge_total total own_bytes far_bytes judge near_passes far_passes near far passes filled waiting standing told told_of_both domain peer accepted consumed errored rights receive_codec receive_sges receive_of receive_in
false_status h = differ 4 0 refl (claimed Flushes (ends (waited 1) 4 []) h)

-- ---- the statement itself

-- it is false of calls that may have any outcome
pub not_of_any : Demand3 (λ st x. Unit {0}) → ⊥
unfolding Each Linked AfterReset shown step checks memory_checks reset_checks control_checks status_of effect memory_after buffer_after command_of data_size ack_need number_codec register_codec create_qp_codec modify_qp_codec command_checks command_ack command_effect lowest lowest_from any_below fields_at put_fields le_at put_le rows rows_from fed ack_data log_after state_after send_codec sge_codec send_sge inline_bytes inline_length request_of all range sge_bytes sge_total total own_bytes far_bytes judge near_passes far_passes near far passes filled waiting standing told told_of_both domain peer accepted consumed errored rights
not_of_any h =
    true≢false
    (h (ends (Call.reset 8) 0 []) (record { before = []; base = []; begin = refl; made = tt; done = refl }) (ends (posted 0 258) 0 mem ∷ []) (tt, tt)).0.correct.verdict
