-- Document 01, "Posting and delivering": post send, its tests, its steps 1 to 6, the completions that it puts, and the queue pairs
-- and the memory after it; 02, M-103: what one on a queue pair in error does. Assumes nothing.
use Rattle.std.specs.Prelude.{Bool, false, cond, not, ◌&&◌, ◌||◌, List, [], ◌∷◌, ◌++◌, ℕ, ◌+◌, eqb, leb, length, get_or}
use Rattle.std.proofs.Math.Option.{Option, none, some}
use Rattle.wire.specs.Checks.{Check, ◌if◌, refusal}
use Rattle.wire.specs.Slots.{upd}
use Rattle.tables.specs.Limits.{qp_count, most_message}
use Rattle.tables.specs.Card.{Card, Cq, Qp, Receive, no_receive, with_cq, with_qp, with_waiting, tail, with_entries}
use Rattle.tables.specs.declared.Completion.{Completion}
use Rattle.rules.specs.Lists.{is_empty, names, or_else}
use Rattle.rules.specs.Touch.{takes, fills, reads, total, sge_total, own_bytes, far_bytes, delivered}
use Rattle.tables.specs.Records.{Request}
use Rattle.rules.specs.Permit.{Use, permits_all, place}

-- ---- peers and completion places

-- "Peer (destination)"; no queue pair's number where there is none
abbrev pub peer_of : Card → (q : ℕ) → ℕ
peer_of c q = or_else (c.qp q).dest qp_count

-- "Oldest receive first"
abbrev pub oldest : List Receive → Receive
oldest ws = get_or ws 0 no_receive

-- the receive that a request of q takes
abbrev pub taken_by : Card → (q : ℕ) → Receive
taken_by c q = oldest (c.qp (peer_of c q)).waiting

-- "not in 2 or 3"
abbrev pub can_receive : (state : ℕ) → Bool
can_receive s = eqb s 2 || eqb s 3

-- the destination is a live queue pair in 2 or 3 that names q back
abbrev pub ready : Card → (q : ℕ) → Option ℕ → Bool
ready c q none = false
ready c q (some d) = (c.qp d).live && can_receive (c.qp d).state && names (c.qp d).dest q

-- the completion queue has n free places
abbrev pub room : Cq → ℕ → Bool
room s n = leb (length s.entries + n) s.places

-- "One free place in the send CQ, and for 1, 2, 3 one in the peer's receive CQ (two if it is the same CQ)"
abbrev pub has_places : Card → (q d opcode : ℕ) → Bool
has_places c q d o =
    let s = (c.qp q).scq in
    let r = (c.qp d).rcq in
    room (c.cq s) (cond (takes o && eqb s r) 2 1) && (not (takes o) || room (c.cq r) 1)

-- ---- the tests after the record's own

-- "6 error"
abbrev pub is_in_error : Qp → Bool
is_in_error s = eqb s.state 6

-- "QP 2; QP not in RTS 3"; 02, M-103: "answer 3 to work posted on a QP in error is wrong .. it is accepted and flushed"
unfoldable pub pair_checks : Card → (q : ℕ) → List Check
pair_checks c q =
    2 if not (c.qp q).live ∷
    3 if not (eqb (c.qp q).state 3 || is_in_error (c.qp q)) ∷
    []

-- steps 1 and 2
unfoldable pub ready_checks : Card → (q : ℕ) → Request → List Check
ready_checks c q r =
    5 if not (ready c q (c.qp q).dest) ∷
    5 if (takes r.opcode && is_empty (c.qp (peer_of c q)).waiting) ∷
    6 if not (has_places c q (peer_of c q) r.opcode) ∷
    []

-- 02, M-103: "with one free place in its own send .. CQ"; "Without a place it is held with 6." No peer is looked at.
unfoldable pub place_checks : Card → (q : ℕ) → List Check
place_checks c q = 6 if not (room (c.cq (c.qp q).scq) 1) ∷ []

-- the tests that hold a request
unfoldable pub hold_checks : Card → (q : ℕ) → Request → List Check
hold_checks c q r = cond (is_in_error (c.qp q)) (place_checks c q) (ready_checks c q r)

-- 02, M-108: "A direct send answers 10, after 3, while its QP's queue isn't empty"
unfoldable pub queue_checks : Card → (q : ℕ) → List Check
queue_checks c q = 10 if not (is_empty (c.qp q).queue) ∷ []

unfoldable pub delivery_checks : Card → (q : ℕ) → Request → List Check
delivery_checks c q r = pair_checks c q ++ (queue_checks c q ++ hold_checks c q r)

-- ---- steps 3 to 6

-- "for reading (opcode 4: for writing)"
abbrev pub own_use : (opcode : ℕ) → Use
own_use o = cond (reads o) Use.local_write Use.local_read

-- "for remote write (opcode 4: remote read)"; a receive's bytes "for local writing"
abbrev pub far_use : (opcode : ℕ) → Use
far_use o = cond (fills o) Use.local_write (cond (reads o) Use.remote_read Use.remote_write)

-- steps 3 to 5 in order, over what each of them finds: the total is short enough, the sender's bytes are permitted, the total fits the
-- receive, the peer's bytes are permitted; fill says that a receive is filled. The first that is met is the status.
abbrev pub faults : (fill short own fits far : Bool) → List Check
faults fill short own fits far =
    1 if not short ∷
    3 if not own ∷
    8 if (not fill && not far) ∷
    7 if (fill && not fits) ∷
    7 if (fill && not far) ∷
    []

abbrev pub status_by : (fill short own fits far : Bool) → ℕ
status_by fill short own fits far = or_else (refusal (faults fill short own fits far)) 0

-- "0 success, 1 local length, 3 local protection, .. 7 remote invalid request, 8 remote access"
unfoldable pub run_status : Card → (q : ℕ) → Request → ℕ
run_status c q r =
    let w = taken_by c q in
    status_by (fills r.opcode) (leb (total r) most_message)
    (permits_all c q (own_use r.opcode) (own_bytes r))
    (leb (total r) (sge_total w.sges))
    (permits_all c (peer_of c q) (far_use r.opcode) (far_bytes r w))

-- 02, M-103: "in state 6, a send .. gives answer 0, status 4"
unfoldable pub send_status : Card → (q : ℕ) → Request → ℕ
send_status c q r = cond (is_in_error (c.qp q)) 4 (run_status c q r)

-- a receive is consumed by opcodes 1, 2, 3 on success, and by a failure of step 5
abbrev pub consumes : (opcode status : ℕ) → Bool
consumes o s = takes o && (eqb s 0 || eqb s 7)

-- ---- completions

-- a completion and the queue that it is put into
pub record Put : Type 0 where
  pub cqn : ℕ
  pub entry : Completion

abbrev pub pushed : Put → (ℕ → Cq) → ℕ → Cq
pushed p f = upd f p.cqn (with_entries (f p.cqn) ((f p.cqn).entries ++ (p.entry ∷ [])))

unfoldable pub put_all : List Put → (ℕ → Cq) → ℕ → Cq
put_all [] f = f
put_all (p ∷ ps) f = put_all ps (pushed p f)

-- "Sender opcode 0 send, 1 write, 2 read"
abbrev pub sender_opcode : ℕ → ℕ
sender_opcode o = cond (reads o) 2 (cond (fills o) 0 1)

-- "receiver 3, or 4 for opcode 1"
abbrev pub receiver_opcode : ℕ → ℕ
receiver_opcode o = cond (eqb o 1) 4 3

-- "Length is the total on success, else 0"
abbrev pub length_by : Request → (status : ℕ) → ℕ
length_by r s = cond (eqb s 0) (total r) 0

abbrev pub sender_put : Card → (q : ℕ) → Request → (s : ℕ) → Put
sender_put c q r s = record {
  cqn = (c.qp q).scq;
  entry = record { wr = r.wr; status = s; opcode = sender_opcode r.opcode; length = length_by r s; imm = 0; owner = q };
}

-- "sender 7, receiver 1" where the total is over the receive's, "sender 7, receiver 3" where a byte of it is not permitted;
-- "Immediate only in a successful receiver's for 1 and 3"
abbrev pub receiver_put : Card → (q : ℕ) → Request → (s : ℕ) → Put
receiver_put c q r s = record {
  cqn = (c.qp (peer_of c q)).rcq;
  entry =
      record {
        wr = (taken_by c q).wr;
        status = cond (eqb s 0) 0 (cond (leb (total r) (sge_total (taken_by c q).sges)) 3 1);
        opcode = receiver_opcode r.opcode;
        length = length_by r s;
        imm = cond (eqb s 0 && (eqb r.opcode 1 || eqb r.opcode 3)) r.imm 0;
        owner = peer_of c q;
      };
}

-- "Sender's success is put if signal is 0 or the flag is set; errors and receiver completions always. The sender's comes first." So 02,
-- M-103's "a completion with status 4, byte length 0, and the sender's opcode" is put though it is unsignaled.
unfoldable pub send_puts : Card → (q : ℕ) → Request → (s : ℕ) → List Put
send_puts c q r s =
    cond (not (eqb s 0) || eqb (c.qp q).signal 0 || r.signaled) (sender_put c q r s ∷ []) [] ++
    cond (consumes r.opcode s) (receiver_put c q r s ∷ []) []

-- ---- the queue pairs and the memory

abbrev pub in_error : Qp → Qp
in_error s =
    record {
      live = s.live;
      pd = s.pd;
      signal = s.signal;
      scq = s.scq;
      rcq = s.rcq;
      state = 6;
      dest = s.dest;
      rights = s.rights;
      waiting = s.waiting;
      queue = s.queue;
    }

abbrev pub error_if : Bool → (q : ℕ) → (ℕ → Qp) → ℕ → Qp
error_if b q f = cond b (upd f q (in_error (f q))) f

abbrev pub consume_if : Bool → (q : ℕ) → (ℕ → Qp) → ℕ → Qp
consume_if b q f = cond b (upd f q (with_waiting (f q) (tail (f q).waiting))) f

-- a status that moves its sender to error; one that is flushed is there
abbrev pub fails : (status : ℕ) → Bool
fails s = not (eqb s 0) && not (eqb s 4)

-- "The receive is consumed, both QPs go to error." "Statuses 1, 3, 8 move only the sender to error; no receive is consumed."
unfoldable pub send_qps : Card → (q : ℕ) → Request → (s : ℕ) → ℕ → Qp
send_qps c q r s =
    error_if (eqb s 7) (peer_of c q)
    (consume_if (consumes r.opcode s) (peer_of c q) (error_if (fails s) q c.qp))

unfoldable pub send_effect : Card → (q : ℕ) → Request → Card
send_effect c q r =
    let s = send_status c q r in
    with_qp (with_cq c (put_all (send_puts c q r s) c.cq)) (send_qps c q r s)

-- the message is moved on success, and nothing else
unfoldable pub send_memory : Card → (q : ℕ) → Request → (m : List ℕ) → List ℕ
send_memory c q r m = cond (eqb (send_status c q r) 0) (delivered (place c) r (taken_by c q) m) m
