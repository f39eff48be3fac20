-- The card, document 01, "What the card is": its tables as functions of a number. A number past a table's end, and a slot that is
-- not live, hold the free object, but for the variant of a region slot, which stays. Assumes nothing.
use Rattle.std.specs.Prelude.{Bool, false, List, [], ◌∷◌, ℕ}
use Rattle.std.proofs.Math.Option.{Option, none}
use Rattle.tables.specs.Records.{receive_sges, Request}
use Rattle.tables.specs.declared.Kind.{Kind}
use Rattle.tables.specs.declared.Kind.TheVariants as kind
use Rattle.tables.specs.declared.Completion.{Completion}
use Rattle.tables.specs.declared.ReceiveRecord.{ReceiveRecord}
use Rattle.tables.specs.declared.Registration.{Registration}
use Rattle.tables.specs.declared.Sge.{Sge}

-- a slot of the region table; the variant is the last one handed out, 0 before the first; pages are the first bytes of the pages that it lies
-- over, none where it lies in adjacent bytes
pub record Mr : Type 0 where
  pub live : Bool
  pub variant : ℕ
  pub reg : Registration
  pub pages : List ℕ

-- a receive: its wr_id and its pieces, which are scatter/gather entries
pub record Receive : Type 0 where
  pub wr : ℕ
  pub sges : List Sge

-- the receive that a receive record is
unfoldable pub receive_of : ReceiveRecord → Receive
receive_of r = record { wr = r.wr; sges = receive_sges r }

-- a queue pair, with its send and receive completion queues, its destination, its access flags (02, M-104), its waiting receives and
-- its queued sends (02, M-108), the oldest first
pub record Qp : Type 0 where
  pub live : Bool
  pub pd : ℕ
  pub signal : ℕ
  pub scq : ℕ
  pub rcq : ℕ
  pub state : ℕ
  pub dest : Option ℕ
  pub rights : ℕ
  pub waiting : List Receive
  pub queue : List Request

-- a completion queue and its unread completions, the oldest first
pub record Cq : Type 0 where
  pub live : Bool
  pub places : ℕ
  pub entries : List Completion

-- memory: the length given at reset; turn: the queue pair that a turn visits first, the one after the last served
pub record Card : Type 0 where
  pub memory : ℕ
  pub turn : ℕ
  pub pd : ℕ → Bool
  pub cq : ℕ → Cq
  pub mr : ℕ → Mr
  pub qp : ℕ → Qp

-- the completion queue n is live
abbrev pub cq_live : Card → ℕ → Bool
cq_live c n = (c.cq n).live

-- object n of a kind is live
abbrev pub live_of : Card → Kind → ℕ → Bool
live_of c kind.Pd n = c.pd n
live_of c kind.Cq n = cq_live c n
live_of c kind.Mr n = (c.mr n).live
live_of c kind.Qp n = (c.qp n).live

abbrev pub with_pd : Card → (ℕ → Bool) → Card
with_pd c f = record { memory = c.memory; turn = c.turn; pd = f; cq = c.cq; mr = c.mr; qp = c.qp }

abbrev pub with_cq : Card → (ℕ → Cq) → Card
with_cq c f = record { memory = c.memory; turn = c.turn; pd = c.pd; cq = f; mr = c.mr; qp = c.qp }

abbrev pub with_mr : Card → (ℕ → Mr) → Card
with_mr c f = record { memory = c.memory; turn = c.turn; pd = c.pd; cq = c.cq; mr = f; qp = c.qp }

abbrev pub with_qp : Card → (ℕ → Qp) → Card
with_qp c f = record { memory = c.memory; turn = c.turn; pd = c.pd; cq = c.cq; mr = c.mr; qp = f }

abbrev pub with_turn : Card → ℕ → Card
with_turn c n = record { memory = c.memory; turn = n; pd = c.pd; cq = c.cq; mr = c.mr; qp = c.qp }

-- a queue pair with other waiting receives
abbrev pub with_waiting : Qp → List Receive → Qp
with_waiting q ws =
    record {
      live = q.live;
      pd = q.pd;
      signal = q.signal;
      scq = q.scq;
      rcq = q.rcq;
      state = q.state;
      dest = q.dest;
      rights = q.rights;
      waiting = ws;
      queue = q.queue;
    }

-- and with other queued sends
abbrev pub with_queue : Qp → List Request → Qp
with_queue q rs =
    record {
      live = q.live;
      pd = q.pd;
      signal = q.signal;
      scq = q.scq;
      rcq = q.rcq;
      state = q.state;
      dest = q.dest;
      rights = q.rights;
      waiting = q.waiting;
      queue = rs;
    }

-- a completion queue with other unread completions
abbrev pub with_entries : Cq → List Completion → Cq
with_entries q es = record { live = q.live; places = q.places; entries = es }

-- a list without its oldest element
abbrev pub tail : {A : Type 0} → List A → List A
tail [] = []
tail (x ∷ xs) = xs

abbrev pub no_registration : Registration
no_registration = record { pd = 0; access = 0; start = 0; length = 0; virt = 0 }

abbrev pub free_mr : ℕ → Mr
free_mr v = record { live = false; variant = v; reg = no_registration; pages = [] }

abbrev pub free_qp : Qp
free_qp =
    record {
      live = false;
      pd = 0;
      signal = 0;
      scq = 0;
      rcq = 0;
      state = 0;
      dest = none;
      rights = 0;
      waiting = [];
      queue = [];
    }

abbrev pub free_cq : Cq
free_cq = record { live = false; places = 0; entries = [] }

abbrev pub no_receive : Receive
no_receive = record { wr = 0; sges = [] }

-- the card after a reset with the memory length n: no object, no variant handed out
abbrev pub fresh : ℕ → Card
fresh n = record { memory = n; turn = 0; pd = λ i. false; cq = λ i. free_cq; mr = λ i. free_mr 0; qp = λ i. free_qp }
