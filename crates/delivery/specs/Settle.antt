-- What a post send that is carried out or flushed leaves in the state, document 01: its completions, the error states, the receive consumed. In each
-- definition st is the status, n the number of bytes of the message, w the receive that is taken. Assumes nothing.
use Rattle.std.specs.Prelude.{◌≡◌, Bool, true, cond, not, ◌&&◌, ◌||◌, List, [], ◌∷◌, ℕ, ◌<◌, ◌≤◌, eqb, leb, length}
use Rattle.wire.specs.Table.{row_at}
use Rattle.tables.specs.Layout.{state_size, cq_t, waiting_t}
use Rattle.tables.specs.Limits.{cq_count, qp_count, most_places, most_message}
use Rattle.tables.specs.Records.{is_signaled, receive_sges}
use Rattle.tables.specs.declared.Completion.{Completion}
use Rattle.tables.specs.declared.QueuePair.{QueuePair}
use Rattle.tables.specs.declared.ReceiveRecord.{ReceiveRecord}
use Rattle.tables.specs.declared.SendRecord.{SendRecord}
use Rattle.rules.specs.Bytes.{push_all, error_bytes, consume_bytes}
use Rattle.rules.specs.Send.{Put, consumes, fails, sender_opcode, receiver_opcode}
use Rattle.rules.specs.Touch.{sge_total}
use Rattle.delivery.specs.declared.meet.Ends.{Ends}

-- ---- completions

-- of the work wr with the opcode o; told is the length
abbrev pub sender_entry : (q wr o st told : ℕ) → Completion
sender_entry q wr o st told = record { wr = wr; status = st; opcode = sender_opcode o; length = told; imm = 0; owner = q }

-- "total over the receive list's: sender 7, receiver 1. The first total bytes of that list not all permitted ..: sender 7, receiver 3"
abbrev pub receiver_status : ReceiveRecord → (st n : ℕ) → ℕ
receiver_status w st n = cond (eqb st 0) 0 (cond (leb n (sge_total (receive_sges w))) 3 1)

-- "Immediate only in a successful receiver's for 1 and 3, else zero"
abbrev pub receiver_entry : Ends → SendRecord → ReceiveRecord → (st n : ℕ) → Completion
receiver_entry e s w st n =
    record {
      wr = w.wr;
      status = receiver_status w st n;
      opcode = receiver_opcode s.opcode;
      length = cond (eqb st 0) n 0;
      imm = cond (eqb st 0 && (eqb s.opcode 1 || eqb s.opcode 3)) s.imm 0;
      owner = e.d;
    }

-- "Sender's success is put if signal is 0 or the flag is set; errors and receiver completions always."
abbrev pub is_put : (own : QueuePair) → SendRecord → (st : ℕ) → Bool
is_put own s st = not (eqb st 0) || eqb own.signal 0 || is_signaled s

-- "Length is the total on success, else 0"
abbrev pub put_first : (q : ℕ) → (own : QueuePair) → SendRecord → (st n : ℕ) → List Put
put_first q own s st n =
    cond (is_put own s st)
    (record { cqn = own.scq; entry = sender_entry q s.wr s.opcode st (cond (eqb st 0) n 0) } ∷ []) []

abbrev pub put_second : Ends → SendRecord → ReceiveRecord → (st n : ℕ) → List Put
put_second e s w st n = cond (consumes s.opcode st) (record { cqn = e.far.rcq; entry = receiver_entry e s w st n } ∷ []) []

-- ---- the state's bytes

-- "The sender's comes first."
abbrev pub put_bytes : List ℕ → Ends → SendRecord → ReceiveRecord → (st n : ℕ) → List ℕ
put_bytes l e s w st n = push_all (push_all l (put_first e.q e.own s st n)) (put_second e s w st n)

-- "Statuses 1, 3, 8 move only the sender to error"
abbrev pub failed_bytes : List ℕ → Ends → SendRecord → ReceiveRecord → (st n : ℕ) → List ℕ
failed_bytes l e s w st n = error_bytes (fails st) (put_bytes l e s w st n) e.q

-- "The receive is consumed, both QPs go to error."
abbrev pub settled_bytes : List ℕ → Ends → SendRecord → ReceiveRecord → (st n : ℕ) → List ℕ
settled_bytes l e s w st n =
    error_bytes (eqb st 7) (consume_bytes (consumes s.opcode st) (failed_bytes l e s w st n) e.d) e.d

-- what the stores ask: numbers within their tables, a length that is not too long, a free place for each completion, a receive that waits
pub record Settling (l : List ℕ) (e : Ends) (s : SendRecord) (w : ReceiveRecord) (st n : ℕ) : Type 0 where
  pub size : length l ≡ state_size
  pub own : e.q < qp_count
  pub far : e.d < qp_count
  pub count : w.count ≤ 2
  pub short : st ≡ 0 → n ≤ most_message
  pub first : e.own.scq < cq_count
  pub free : (row_at cq_t l e.own.scq).count < most_places
  pub second : consumes s.opcode st ≡ true →
      (e.far.rcq < cq_count) × ((row_at cq_t (push_all l (put_first e.q e.own s st n)) e.far.rcq).count < most_places)
  pub waits : consumes s.opcode st ≡ true → 0 < (row_at waiting_t (failed_bytes l e s w st n) e.d).count
