-- The judge's log, document 01, "The judge": it is fed each call's arguments, answer, status and ack data, and keeps the calls
-- answered 0. Assumes nothing.
use Rattle.std.specs.Prelude.{Bool, true, false, cond, List, [], ◌∷◌, ◌++◌, ℕ, suc, ◌+◌, eqb, get_or, take, drop}
use Rattle.std.proofs.Math.Option.{Option, none, some}
use Rattle.wire.specs.Codec.{fields_at}
use Rattle.tables.specs.Card.{Receive}
use Rattle.tables.specs.Commands.{Command, command_of, ack_numbers, ack_fields}
use Rattle.tables.specs.declared.CreateQp.{CreateQp}
use Rattle.tables.specs.declared.ModifyQp.{ModifyQp}
use Rattle.tables.specs.declared.Registration.{Registration}
use Rattle.rules.specs.declared.Answer.{Answer}
use Rattle.rules.specs.declared.Answer.TheVariants.{Done, Held, Refused}
use Rattle.rules.specs.Call.{Call, given, registration_in}
use Rattle.rules.specs.Touch.{receive_in, no_request}
use Rattle.tables.specs.Records.{Request, request_of}
use Rattle.rules.specs.Lists.{maybe, when}

-- ---- what the judge is fed

-- a call answered 0, its status, what it returned beside it (02, M-108: "the turn's own answer names the QP"), and the numbers of its ack after
-- the ack byte
pub record Entry : Type 0 where
  pub call : Call
  pub status : ℕ
  pub value : ℕ
  pub ack : List ℕ

-- they are read out of the answer buffer after the call, by the layout that they were written by
unfoldable pub ack_data : Command → (b : List ℕ) → List ℕ
ack_data k b = drop 1 (fields_at (take (1 + ack_numbers k) ack_fields) b 0)

-- control commands have ack data, and so has a registration over pages, which is command 7's; other calls have none
abbrev pub ack_of : Call → (b : List ℕ) → List ℕ
ack_of k b = maybe [] (λ c. ack_data c b) (given k).command

-- of the call k, done with the status s and the value v beside it; b is the answer buffer after it
abbrev pub entry : Call → (s v : ℕ) → (b : List ℕ) → Entry
entry k s v b = record { call = k; status = s; value = v; ack = ack_of k b }

-- ---- what it keeps

-- of a key
pub data KeyNote : Type 0 where
  registered : (mrn lkey rkey : ℕ) → Registration → (pages : List ℕ) → KeyNote
  deregistered : (mrn : ℕ) → KeyNote

-- of a queue pair
pub data PairNote : Type 0 where
  created : CreateQp → PairNote
  changed : ModifyQp → PairNote
  -- a receive, and the status of its call
  posted : Receive → (status : ℕ) → PairNote
  flushed : PairNote
  -- a request that joined the queue
  enqueued : Request → PairNote
  -- a work request and its status; queued says that a turn took it out of the queue
  sent : (queued : Bool) → Request → (status : ℕ) → PairNote

-- what a call answered 0 tells
pub data Note : Type 0 where
  of_key : KeyNote → Note
  of_pair : (q : ℕ) → PairNote → Note
  other : Note

-- "It keeps the calls answered 0, in order, and no tables": what each of them told, the latest first
abbrev pub Log : Type 0
Log = List Note

-- what a queue pair's own notes tell: f is what one of them makes of what was told before it, a what is told before the first
unfoldable pub told : {A : Type 0} → (f : PairNote → A → A) → (a : A) → Log → (q : ℕ) → A
told f a [] q = a
told f a (Note.of_key n ∷ l) q = told f a l q
told f a (Note.of_pair x n ∷ l) q = when (eqb x q) (f n) (told f a l q)
told f a (Note.other ∷ l) q = told f a l q

-- ---- 02, M-108: "by the log its record is the oldest enqueued there, since that QP's creation and last move to 0, that no turn has taken"

abbrev pub enqueued_by : PairNote → List Request → List Request
enqueued_by (PairNote.created r) rs = []
enqueued_by (PairNote.changed r) rs = cond (eqb r.state 0) [] rs
enqueued_by (PairNote.posted w s) rs = rs
enqueued_by PairNote.flushed rs = rs
enqueued_by (PairNote.enqueued r) rs = rs ++ (r ∷ [])
enqueued_by (PairNote.sent t r s) rs = rs

unfoldable pub enqueued_on : Log → (q : ℕ) → List Request
enqueued_on l q = told enqueued_by [] l q

-- how many of them turns have taken
abbrev pub turns_by : PairNote → ℕ → ℕ
turns_by (PairNote.created r) n = 0
turns_by (PairNote.changed r) n = cond (eqb r.state 0) 0 n
turns_by (PairNote.posted w s) n = n
turns_by PairNote.flushed n = n
turns_by (PairNote.enqueued r) n = n
turns_by (PairNote.sent t r s) n = cond t (suc n) n

unfoldable pub turns_on : Log → (q : ℕ) → ℕ
turns_on l q = told turns_by 0 l q

unfoldable pub queued : Log → (q : ℕ) → List Request
queued l q = drop (turns_on l q) (enqueued_on l q)

-- the request that a turn which served q ran
abbrev pub next_on : Log → (q : ℕ) → Request
next_on l q = get_or (queued l q) 0 no_request

-- ---- what each call tells

-- a registration, by the numbers of its ack: mrn, lkey, rkey; its pages are none where its bytes are adjacent
abbrev pub note_registration : (ack : List ℕ) → Registration → (pages : List ℕ) → Note
note_registration a g ps = Note.of_key (KeyNote.registered (get_or a 0 0) (get_or a 1 0) (get_or a 2 0) g ps)

abbrev pub note_command : Command → (ack : List ℕ) → Note
note_command Command.query_device a = Note.other
note_command Command.query_port a = Note.other
note_command (Command.create_cq n) a = Note.other
note_command (Command.destroy_cq n) a = Note.other
note_command Command.create_pd a = Note.other
note_command (Command.destroy_pd n) a = Note.other
note_command (Command.register g) a = note_registration a g []
note_command (Command.deregister n) a = Note.of_key (KeyNote.deregistered n)
note_command (Command.create_qp r) a = Note.of_pair (get_or a 0 0) (PairNote.created r)
note_command (Command.modify_qp r) a = Note.of_pair r.qpn (PairNote.changed r)
note_command (Command.destroy_qp q) a = Note.other

-- each with its status s, the value v beside it, and its ack's numbers a, seen with the log before it. 02, M-105: demand 3's "list takes this call
-- too"; the pages are those of the call's arguments. M-108: "Demand 3's list takes enqueues and turns too".
abbrev pub note_call : Log → Call → (s v : ℕ) → (a : List ℕ) → Note
note_call l (Call.reset n) s v a = Note.other
note_call l (Call.control k b) s v a = maybe Note.other (λ c. note_command c a) (command_of k)
note_call l (Call.register_pages k ps b) s v a = note_registration a (registration_in k) ps
note_call l (Call.send q x m) s v a = Note.of_pair q (PairNote.sent false (request_of x) s)
note_call l (Call.receive q x) s v a = Note.of_pair q (PairNote.posted (receive_in x) s)
note_call l (Call.flush q) s v a = Note.of_pair q PairNote.flushed
note_call l (Call.enqueue q x m) s v a = Note.of_pair q (PairNote.enqueued (request_of x))
note_call l (Call.turn m) s v a = Note.of_pair v (PairNote.sent true (next_on l v) s)
note_call l (Call.poll n b) s v a = Note.other

abbrev pub note : Log → Entry → Note
note l e = note_call l e.call e.status e.value e.ack

-- a reset answered 0 begins a new log, with nothing under it; no other call does
abbrev pub begins : Call → Option Log
begins (Call.reset n) = some []
begins (Call.control k a) = none
begins (Call.register_pages k ps a) = none
begins (Call.send q x m) = none
begins (Call.receive q x) = none
begins (Call.flush q) = none
begins (Call.enqueue q x m) = none
begins (Call.turn m) = none
begins (Call.poll n b) = none

abbrev pub added : Option Log → Log → Entry → Log
added none l e = note l e ∷ l
added (some base) l e = base

-- "any other call adds nothing"
unfoldable pub fed : Log → Call → Answer → (v : ℕ) → (b : List ℕ) → Log
fed l k (Done s) v b = added (begins k) l (entry k s v b)
fed l k (Held c) v b = l
fed l k (Refused n) v b = l
