-- What each call does, demand 2: its tests in document 01's order, its answer, and the card, the memory and the answer buffer after
-- it. Assumes nothing.
use Rattle.std.specs.Prelude.{◌≡◌, Bool, true, false, cond, not, ◌||◌, List, [], ◌∷◌, ◌++◌, ℕ, ◌+◌, eqb, ltb, length}
use Rattle.std.proofs.Math.Option.{Option, none, some}
use Rattle.wire.specs.Checks.{Check, ◌if◌, refusal}
use Rattle.wire.specs.Codec.{encode}
use Rattle.validate.specs.Accept.{memory_ok}
use Rattle.tables.specs.Layout.{state_size}
use Rattle.tables.specs.Card.{Card, fresh}
use Rattle.tables.specs.Commands.{Command, head_checks, encode_ack, ack_need, data_size, command_of}
use Rattle.tables.specs.declared.Ack.TheVariants as ack
use Rattle.tables.specs.Records.{send_checks, receive_checks, completion_codec}
use Rattle.rules.specs.Lists.{is_some, maybe}
use Rattle.rules.specs.declared.Answer.{Answer}
use Rattle.rules.specs.Answer.{answered, is_done}
use Rattle.rules.specs.Touch.{receive_in}
use Rattle.tables.specs.Records.{request_of}
use Rattle.rules.specs.Control.{command_checks, command_ack, command_effect, registered}
use Rattle.rules.specs.Pages.{page_record_checks, page_list_checks}
use Rattle.rules.specs.Send.{delivery_checks, send_status, send_effect, send_memory}
use Rattle.rules.specs.Turn.{enqueue_checks, enqueued, turn_checks, turn_effect, served, head_of}
use Rattle.rules.specs.Queues.{join_checks, join_status, received, flush_checks, flushed, poll_checks, polled, oldest_entry}
use Rattle.rules.specs.Call.{Call, Buffer, given, memory_of, registration_in, Outcome}

-- ---- the tests

-- "Reset takes the memory length, 1 to .., else answer 11"; 02, M-106: to 16,777,216
unfoldable pub reset_checks : ℕ → List Check
reset_checks n = 11 if not (memory_ok n) ∷ []

-- "Check order: 12; fewer than two bytes 1; 13; data length 1"; 02, M-100: "12, still tested first", "13 no longer names them"
unfoldable pub control_checks : (k a : List ℕ) → List Check
control_checks k a =
    12 if ltb (length a) (ack_need k) ∷
    (head_checks k ++
    (13 if not (is_some (command_of k)) ∷ 1 if not (eqb (length k) (2 + maybe 0 data_size (command_of k))) ∷ []))

-- 7: "lent memory's length isn't the reset length"
unfoldable pub memory_checks : Card → (m : List ℕ) → List Check
memory_checks c m = 7 if not (eqb (length m) c.memory) ∷ []

-- "Poll: buffer under 24 bytes 12"
unfoldable pub buffer_checks : List ℕ → List Check
buffer_checks b = 12 if ltb (length b) completion_codec.size ∷ []

-- ---- each call

-- Its tests, the whole order after 15; and where they pass the status, the card, the memory and the answer buffer after it. "Status is 0
-- outside work requests", but for a receive that is flushed: 02, M-103, "status 4".
pub record CallRule : Type 0 where
  pub checks : List Check
  pub status : ℕ
  -- what it returns beside answer and status
  pub value : ℕ
  pub card : Card
  pub memory : List ℕ
  pub buffer : List ℕ

-- a call with no status that leaves the answer buffer b, and one that is lent none
abbrev pub fills : List Check → Card → (b : List ℕ) → CallRule
fills ts c b = record { checks = ts; status = 0; value = 0; card = c; memory = []; buffer = b }

abbrev pub does : List Check → Card → CallRule
does ts c = fills ts c []

unfoldable pub call_rule : Card → Call → CallRule
call_rule c (Call.reset n) = does (reset_checks n) (fresh n)
-- "On OK the ack byte and its data are written, later bytes stay"
call_rule c (Call.control k a) =
    fills (control_checks k a ++ maybe [] (command_checks c) (command_of k)) (maybe c (command_effect c) (command_of k))
    (maybe a (λ q. encode_ack (command_ack c q) a) (command_of k))
-- 02, M-105: "command 7's .. ack as before"
call_rule c (Call.register_pages k ps a) =
    fills (page_record_checks k a ++ page_list_checks c (registration_in k) ps) (registered c (registration_in k) ps)
    (encode_ack (command_ack c (Command.register (registration_in k))) a)
call_rule c (Call.send q x m) =
    let r = request_of x in
    record {
      checks = memory_checks c m ++ (send_checks x ++ delivery_checks c q r);
      status = send_status c q r;
      value = 0;
      card = send_effect c q r;
      memory = send_memory c q r m;
      buffer = [];
    }
call_rule c (Call.receive q x) =
    record { checks = receive_checks x ++ join_checks c q; status = join_status c q; value = 0; card = received c q (receive_in x); memory = []; buffer = [] }
call_rule c (Call.flush q) = does (flush_checks c q) (flushed c q)
-- 02, M-108: "Enqueue makes document 01's tests up to answer 3 .. and answers 8 exactly when the queue is full"
call_rule c (Call.enqueue q x m) =
    record {
      checks = memory_checks c m ++ (send_checks x ++ enqueue_checks c q);
      status = 0;
      value = 0;
      card = enqueued c q (request_of x);
      memory = m;
      buffer = [];
    }
-- 02, M-108: "A turn call tests 7 .. It returns the QP served and the status"; "Demands 2 and 3 read a turn as the work request it runs"
call_rule c (Call.turn m) =
    record {
      checks = memory_checks c m ++ turn_checks c;
      status = send_status c (served c) (head_of c (served c));
      value = served c;
      card = turn_effect c;
      memory = send_memory c (served c) (head_of c (served c)) m;
      buffer = [];
    }
-- a completion "fills the first 24 bytes"
call_rule c (Call.poll n b) = fills (buffer_checks b ++ poll_checks c n) (polled c n) (encode completion_codec b 0 (oldest_entry c n))

-- its parts, by name
unfoldable pub checks : Card → Call → List Check
unfolding call_rule
checks c k = (call_rule c k).checks

unfoldable pub status_of : Card → Call → ℕ
unfolding call_rule
status_of c k = (call_rule c k).status

unfoldable pub value_of : Card → Call → ℕ
unfolding call_rule
value_of c k = (call_rule c k).value

unfoldable pub effect : Card → Call → Card
unfolding call_rule
effect c k = (call_rule c k).card

unfoldable pub memory_after : Card → Call → List ℕ
unfolding call_rule
memory_after c k = (call_rule c k).memory

unfoldable pub buffer_after : Card → Call → List ℕ
unfolding call_rule
buffer_after c k = (call_rule c k).buffer

-- ---- a call that does not

-- "a control refusal other than 12 and 15 writes 1 as the first ack byte"
abbrev pub ack_refused : (n : ℕ) → (ack : List ℕ) → List ℕ
ack_refused n a = cond (eqb n 12 || eqb n 15) a (encode_ack ack.Error a)

abbrev pub refused_by : (n : ℕ) → Buffer → List ℕ
refused_by n Buffer.no_buffer = []
refused_by n (Buffer.for_ack a) = ack_refused n a
refused_by n (Buffer.for_completion b) = b

abbrev pub buffer_refused : (n : ℕ) → Call → List ℕ
buffer_refused n k = refused_by n (given k).buffer

-- ---- one call

pub record Result : Type 0 where
  pub answer : Answer
  pub value : ℕ
  pub card : Card
  pub memory : List ℕ
  pub buffer : List ℕ

abbrev pub settled : Option ℕ → Card → Call → Result
settled none c k =
    record {
      answer = answered (status_of c k) none;
      value = value_of c k;
      card = effect c k;
      memory = memory_after c k;
      buffer = buffer_after c k;
    }
-- 02, M-108: "(both 0 unless answered 0)"
settled (some n) c k = record { answer = answered 0 (some n); value = 0; card = c; memory = memory_of k; buffer = buffer_refused n k }

unfoldable pub step : Card → Call → Result
step c k = settled (refusal (checks c k)) c k

-- ---- over the lent state; cardOf is the card that its bytes mean, accepts the test of answer 15
module _ (cardOf : List ℕ → Card) (accepts : List ℕ → Bool) where
  -- "Every call tests it before all else"; "Reset tests only the length"
  abbrev pub usable : List ℕ → Call → Bool
  usable l k = cond (given k).whole (accepts l) (eqb (length l) state_size)

  -- the whole order of each call
  abbrev pub owed_checks : List ℕ → Call → List Check
  owed_checks l k = 15 if not (usable l k) ∷ checks (cardOf l) k

  -- what a call on the state l owes
  abbrev pub owed : List ℕ → Call → Result
  owed l k = settled (refusal (owed_checks l k)) (cardOf l) k

  -- The contract of every call: k on the state l has the outcome o.
  pub record Meets (l : List ℕ) (k : Call) (o : Outcome) : Type 0 where
    pub answer : o.answer ≡ (owed l k).answer
    pub value : o.value ≡ (owed l k).value
    pub card : cardOf o.state ≡ (owed l k).card
    pub memory : o.memory ≡ (owed l k).memory
    pub buffer : o.buffer ≡ (owed l k).buffer
    -- "Any answer but 0 leaves memory, tables and lent bytes unchanged"
    pub kept : is_done o.answer ≡ false → o.state ≡ l
    -- a call answered 0 leaves a state that the next call accepts
    pub sound : is_done o.answer ≡ true → accepts o.state ≡ true
