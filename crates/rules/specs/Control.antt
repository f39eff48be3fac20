-- Document 01, "Control commands", with the queries of 02, M-100, and the access flags of M-104: for each command its tests in order, its
-- ack, and the card after it.
-- Assumes nothing.
use Rattle.std.specs.Prelude.{Bool, true, false, cond, not, ◌&&◌, ◌||◌, List, [], ◌∷◌, ◌++◌, ℕ, ◌+◌, eqb, ltb, leb}
use Rattle.std.proofs.Math.Option.{none, some}
use Rattle.wire.specs.Checks.{Check, ◌if◌, has, only}
use Rattle.wire.specs.Slots.{upd}
use Rattle.tables.specs.Limits.{pd_count, cq_count, mr_count, qp_count, most_places, most_waiting}
use Rattle.tables.specs.Limits.{most_address, most_access, most_message, most_sges, most_receive_sges, page_size}
use Rattle.tables.specs.Card.{Card, Qp, with_pd, with_cq, with_mr, with_qp, free_cq, free_mr, free_qp, cq_live}
use Rattle.validate.specs.Accept.{is_state, access_ok}
use Rattle.tables.specs.Commands.{Command}
use Rattle.tables.specs.declared.Ack.{Ack}
use Rattle.tables.specs.declared.Ack.TheVariants as ack
use Rattle.tables.specs.declared.CreateQp.{CreateQp}
use Rattle.tables.specs.declared.Device.{Device}
use Rattle.tables.specs.declared.ModifyQp.{ModifyQp}
use Rattle.tables.specs.declared.Port.{Port}
use Rattle.tables.specs.declared.Registration.{Registration}
use Rattle.validate.specs.Search.{free_pdn, free_cqn, free_mrn, free_qpn, pd_in_use, cq_in_use}
use Rattle.rules.specs.Permit.{key_of}

-- ---- keys

-- "A slot's first variant after reset is 1; each registration in it takes the next"; 02, M-109: none follows 255
abbrev pub new_variant : Card → ℕ
new_variant c = (c.mr (free_mrn c)).variant + 1

-- ---- queue pair states

-- "Moves: 0 to 1, 1 to 2, 2 to 3, any to 0, any to 6"
abbrev pub is_move : (from to : ℕ) → Bool
is_move s t = eqb t 0 || eqb t 6 || (eqb t (s + 1) && leb t 3)

-- mask bits 0, the state, 2, the access flags (02: "Add modify mask bit 2"), and 15, the destination
abbrev pub state_bit : ℕ
state_bit = 1

abbrev pub rights_bit : ℕ
rights_bit = 4

abbrev pub dest_bit : ℕ
dest_bit = 32768

-- ---- registrations

-- "Range (11): length 0; start + length over the memory length; virt + length over 2^64 − 1"
abbrev pub range_checks : Card → Registration → List Check
range_checks c g =
    11 if eqb g.length 0 ∷
    11 if ltb c.memory (g.start + g.length) ∷
    11 if ltb most_address (g.virt + g.length) ∷
    []

-- a registration of either kind, each with its own range tests; 02, M-105: "command 7's record, tests and ack as before"
abbrev pub registration_checks : Card → Registration → (range : List Check) → List Check
registration_checks c g range =
    4 if not (access_ok g.access) ∷
    2 if not (c.pd g.pd) ∷
    (range ++ (8 if leb mr_count (free_mrn c) ∷ []))

-- ---- queue pairs: their tests

-- "type not 2 (RC); signal above 1"
abbrev pub creation_checks : Card → CreateQp → List Check
creation_checks c r =
    4 if not (eqb r.kind 2) ∷
    4 if ltb 1 r.signal ∷
    2 if not (c.pd r.pd) ∷
    2 if not (cq_live c r.scq) ∷
    2 if not (cq_live c r.rcq) ∷
    8 if leb qp_count (free_qpn c) ∷
    []

-- "Modify: mask with bits other than 0 and 15, or without bit 0; state 4, 5 or above 6; a padding byte not zero; bit 15 set unless state is 2, or
-- clear when it is; with bit 15, a destination above 7 or equal to qpn"; 02, M-104: "flag bits above 2 give 4"
abbrev pub move_checks : Card → ModifyQp → List Check
move_checks c r =
    4 if not (only (state_bit + rights_bit + dest_bit) r.mask) ∷
    4 if not (has state_bit r.mask) ∷
    4 if not (is_state r.state) ∷
    4 if not (eqb r.pad0 0 && eqb r.pad1 0 && eqb r.pad2 0) ∷
    4 if (has dest_bit r.mask && not (eqb r.state 2)) ∷
    4 if (not (has dest_bit r.mask) && eqb r.state 2) ∷
    4 if (has dest_bit r.mask && (leb qp_count r.dest || eqb r.dest r.qpn)) ∷
    4 if (has rights_bit r.mask && not (only most_access r.flags)) ∷
    2 if not (c.qp r.qpn).live ∷
    3 if not (is_move (c.qp r.qpn).state r.state) ∷
    []

-- ---- the acks: 01's column "ack data", and what a query reports

-- "Device: flags 0, largest region the memory length, page size mask 4096, version 1, then in 001's order 4, 4, 2, 4, 16, 32, 8, 1, 1, 0,
-- delay 0"; for 32 regions, M-106: "A query reports 256."
unfoldable pub device_of : Card → Device
device_of c =
    record {
      caps = record { flags = 0; region = c.memory; page = page_size; version = 1 };
      work = record { requests = most_waiting; sends = most_sges; receives = most_receive_sges; reads = most_sges; entries = most_places };
      objects = record { regions = mr_count; domains = pd_count; responses = 1; initiations = 1; handles = 0; delay = 0 };
    }

-- "Port: GID length 0, message size 4096"
unfoldable pub port_of : Card → Port
port_of c = record { gids = 0; message = most_message }

-- "mrn, lkey, rkey", of either registration
abbrev pub new_keys : Card → Ack
new_keys c = ack.Keys (free_mrn c) (key_of (free_mrn c) (new_variant c))

-- ---- the card after it

-- "A new QP is in 0"
abbrev pub created : CreateQp → Qp
created r =
    record { live = true; pd = r.pd; signal = r.signal; scq = r.scq; rcq = r.rcq; state = 0; dest = none; rights = 0; waiting = []; queue = [] }

-- 02, M-104: "The QP's flags are 0 .. after a move to reset, even one with bit 2"; another move with bit 2 sets them, and "without bit 2 the
-- number is ignored"
abbrev pub rights_after : (rights : ℕ) → ModifyQp → ℕ
rights_after f r = cond (eqb r.state 0) 0 (cond (has rights_bit r.mask) r.flags f)

-- "Move to 0 drops waiting receives and the destination"; 02, M-108: "Moves to reset and destruction drop the queue"; a move to 2 takes the destination that bit 15 names
abbrev pub moved : Qp → ModifyQp → Qp
moved s r =
    let t = r.state in
    record {
      live = s.live;
      pd = s.pd;
      signal = s.signal;
      scq = s.scq;
      rcq = s.rcq;
      state = t;
      dest = cond (eqb t 0) none (cond (eqb t 2) (some r.dest) s.dest);
      rights = rights_after s.rights r;
      waiting = cond (eqb t 0) [] s.waiting;
      queue = cond (eqb t 0) [] s.queue;
    }

-- a new region in the lowest slot that registration takes; its pages are none where its bytes are adjacent
abbrev pub registered : Card → Registration → (pages : List ℕ) → Card
registered c g ps = with_mr c (upd c.mr (free_mrn c) (record { live = true; variant = new_variant c; reg = g; pages = ps }))

-- ---- each command

-- its tests in the order 4, 2, 11, 3, 10, 8; its ack where they pass, by 01's column "ack data", and the card after it
pub record Rule : Type 0 where
  pub checks : List Check
  pub ack : Ack
  pub card : Card

abbrev pub does : List Check → Ack → Card → Rule
does ts a c = record { checks = ts; ack = a; card = c }

unfoldable pub rule : Card → Command → Rule
rule c Command.query_device = does [] (ack.Device (device_of c)) c
rule c Command.query_port = does [] (ack.Port (port_of c)) c
rule c (Command.create_cq n) =
    does (4 if not (leb 1 n && leb n most_places) ∷ 8 if leb cq_count (free_cqn c) ∷ []) (ack.Number (free_cqn c))
    (with_cq c (upd c.cq (free_cqn c) (record { live = true; places = n; entries = [] })))
-- "a CQ named by a live QP"; its destruction drops "its unread completions"
rule c (Command.destroy_cq n) = does (2 if not (cq_live c n) ∷ 10 if cq_in_use c n ∷ []) ack.Done (with_cq c (upd c.cq n free_cq))
rule c Command.create_pd = does (8 if leb pd_count (free_pdn c) ∷ []) (ack.Number (free_pdn c)) (with_pd c (upd c.pd (free_pdn c) true))
-- "a PD with a live MR or QP"
rule c (Command.destroy_pd n) = does (2 if not (c.pd n) ∷ 10 if pd_in_use c n ∷ []) ack.Done (with_pd c (upd c.pd n false))
rule c (Command.register g) = does (registration_checks c g (range_checks c g)) (new_keys c) (registered c g [])
rule c (Command.deregister n) = does (2 if not (c.mr n).live ∷ []) ack.Done (with_mr c (upd c.mr n (free_mr (c.mr n).variant)))
rule c (Command.create_qp r) = does (creation_checks c r) (ack.Number (free_qpn c)) (with_qp c (upd c.qp (free_qpn c) (created r)))
rule c (Command.modify_qp r) = does (move_checks c r) ack.Done (with_qp c (upd c.qp r.qpn (moved (c.qp r.qpn) r)))
-- "Destroying a QP drops its receives"
rule c (Command.destroy_qp q) = does (2 if not (c.qp q).live ∷ []) ack.Done (with_qp c (upd c.qp q free_qp))

-- its parts, by name
unfoldable pub command_checks : Card → Command → List Check
unfolding rule
command_checks c k = (rule c k).checks

unfoldable pub command_ack : Card → Command → Ack
unfolding rule
command_ack c k = (rule c k).ack

unfoldable pub command_effect : Card → Command → Card
unfolding rule
command_effect c k = (rule c k).card
