-- The tests that hold a request, document 01, steps 1 and 2, over the rows of the two queue pairs; 02, M-103: the place that a sender in
-- error needs. Assumes nothing.
use Rattle.std.specs.Prelude.{◌≡◌, Result, Ok, Err, Bool, true, false, cond, not, ◌&&◌, ◌||◌, List, [], ℕ, ◌+◌, ◌<◌, eqb, leb, length}
use Rattle.std.proofs.Math.Option.{Option, none, some}
use Rattle.wire.specs.Checks.{refusal}
use Rattle.wire.specs.Table.{row_at}
use Rattle.validate.specs.Accept.{accepts}
use Rattle.tables.specs.Layout.{state_size, cq_t, qp_flag_t, qp_t, waiting_t}
use Rattle.tables.specs.Limits.{qp_count}
use Rattle.tables.specs.State.{card, is_live}
use Rattle.tables.specs.declared.QueueHead.{QueueHead}
use Rattle.tables.specs.declared.QueuePair.{QueuePair}
use Rattle.rules.specs.Answer.{answered}
use Rattle.rules.specs.Lists.{is_some}
use Rattle.rules.specs.Send.{hold_checks, can_receive}
use Rattle.rules.specs.Touch.{takes}
use Rattle.tables.specs.Records.{Request}
use Rattle.rules.specs.declared.Answer.{Answer}
use Rattle.rules.specs.declared.Answer.TheVariants.{Held}
use Rattle.rules.specs.declared.Cause.TheVariants.{Peer, Place}
use Rattle.delivery.specs.declared.meet.Ends.{Ends}

-- ---- the tests

-- "Peer (destination) none, not live, not in 2 or 3, or not naming this QP back": the peer's row, where none of these holds
abbrev pub answers : (live : Bool) → QueuePair → (q : ℕ) → Bool
answers live p q = live && can_receive p.state && eqb p.dest q

-- "One free place in the send CQ, and for 1, 2, 3 one in the peer's receive CQ (two if it is the same CQ)": h and k are the two queues' heads
abbrev pub places_by : (h k : QueueHead) → (same : Bool) → (opcode : ℕ) → Bool
places_by h k same o = leb (h.count + cond (takes o && same) 2 1) h.places && (not (takes o) || leb (k.count + 1) k.places)

-- "Opcodes 1, 2, 3 with no receive waiting there: 5", and step 2's "else 6"
abbrev pub peer_meeting : List ℕ → Ends → (opcode : ℕ) → Result Ends Answer
peer_meeting l e o =
    cond (takes o && eqb (row_at waiting_t l e.d).count 0) (Err (Held Peer))
    (cond (not (places_by (row_at cq_t l e.own.scq) (row_at cq_t l e.far.rcq) (eqb e.own.scq e.far.rcq) o))
    (Err (Held Place)) (Ok e))

-- 02, M-103: "with one free place in its own send .. CQ", over the row of the sender in error
abbrev pub has_place : List ℕ → QueuePair → Bool
has_place l own = let h = row_at cq_t l own.scq in leb (h.count + 1) h.places

-- own is the row of the queue pair q, which is live
pub record Sender (l : List ℕ) (q : ℕ) (own : QueuePair) : Type 0 where
  pub accepted : accepts l ≡ true
  pub size : length l ≡ state_size
  pub below : q < qp_count
  pub live : is_live (row_at qp_flag_t l q) ≡ true
  pub row : own ≡ row_at qp_t l q

-- ---- all of them

-- a request of which only the opcode is told: the tests look at no more
abbrev pub bare : (opcode : ℕ) → Request
bare o = record { wr = 0; opcode = o; signaled = false; inline = false; bytes = []; imm = 0; address = 0; key = 0; sges = [] }

-- the queue pair q and its peer: "Peer (destination)"
abbrev pub ends_at : List ℕ → (q : ℕ) → Ends
ends_at l q = let p = row_at qp_t l q in record { q = q; own = p; d = p.dest; far = row_at qp_t l p.dest }

abbrev pub met_by : Option ℕ → Ends → Result Ends Answer
met_by none e = Ok e
met_by (some n) e = Err (answered 0 (some n))

-- the tests that hold a request of the opcode o on the queue pair q, which is not in error
abbrev pub holding : List ℕ → (q o : ℕ) → Result Ends Answer
holding l q o = met_by (refusal (hold_checks (card l) q (bare o))) (ends_at l q)

-- nothing holds such a request, whether the queue pair is in error or not
abbrev pub is_free : List ℕ → (q o : ℕ) → Bool
is_free l q o = not (is_some (refusal (hold_checks (card l) q (bare o))))
