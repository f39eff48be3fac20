-- The judge, document 01. It sees the request and the log of the calls answered 0 before it, and no tables. What rights, domains,
-- peers and waiting receives there are it reads for itself. Assumes nothing.
use Rattle.std.specs.Prelude.{Bool, true, false, cond, not, ◌&&◌, ◌||◌, List, [], ◌∷◌, ◌++◌, map, ℕ, suc, ◌+◌, ◌/◌, ◌%◌, get_or, drop, eqb, ltb, leb}
use Rattle.std.proofs.Math.Option.{Option, none, some}
use Rattle.wire.specs.Scan.{all}
use Rattle.tables.specs.Limits.{most_message}
use Rattle.tables.specs.Card.{Receive, no_receive}
use Rattle.tables.specs.declared.Registration.{Registration}
use Rattle.rules.specs.Lists.{names, is_empty, stored}
use Rattle.rules.specs.Touch.{Byte, total, sge_total, own_bytes, far_bytes, byte_of}
use Rattle.tables.specs.Records.{Request}
use Rattle.judge.specs.Log.{Log, Note, KeyNote, PairNote, told}

-- ---- "A key's registration, the latest that handed it out, stands unless a later deregister names its mrn."

pub record Standing : Type 0 where
  pub mrn : ℕ
  pub reg : Registration
  -- the first bytes of its pages; none where its bytes are adjacent
  pub pages : List ℕ

abbrev pub unless : (mrn : ℕ) → Option Standing → Option Standing
unless m none = none
unless m (some h) = cond (eqb m h.mrn) none (some h)

abbrev pub standing_by : KeyNote → (k : ℕ) → Option Standing → Option Standing
standing_by (KeyNote.registered m lkey rkey g ps) k o =
    cond (eqb lkey k || eqb rkey k) (some (record { mrn = m; reg = g; pages = ps })) o
standing_by (KeyNote.deregistered m) k o = unless m o

-- the registration of the key k, if it stands
unfoldable pub standing : Log → (k : ℕ) → Option Standing
standing [] k = none
standing (Note.of_key n ∷ l) k = standing_by n k (standing l k)
standing (Note.of_pair q n ∷ l) k = standing l k
standing (Note.other ∷ l) k = standing l k

-- ---- facts of a queue pair; 02, M-108: "Demands 2 and 3 read a turn as the work request it runs"

-- "A QP's domain is in the latest create that gave its number"
abbrev pub domain_by : PairNote → Option ℕ → Option ℕ
domain_by (PairNote.created r) o = some r.pd
domain_by (PairNote.changed r) o = o
domain_by (PairNote.posted w s) o = o
domain_by PairNote.flushed o = o
domain_by (PairNote.enqueued r) o = o
domain_by (PairNote.sent t r s) o = o

unfoldable pub domain : Log → (q : ℕ) → Option ℕ
domain l q = told domain_by none l q

-- "its peer is in its latest modify to state 2"
abbrev pub peer_by : PairNote → Option ℕ → Option ℕ
peer_by (PairNote.created r) o = o
peer_by (PairNote.changed r) o = cond (eqb r.state 2) (some r.dest) o
peer_by (PairNote.posted w s) o = o
peer_by PairNote.flushed o = o
peer_by (PairNote.enqueued r) o = o
peer_by (PairNote.sent t r s) o = o

unfoldable pub peer : Log → (q : ℕ) → Option ℕ
peer l q = told peer_by none l q

-- 02, M-104: "Demand 3 takes the flags from the log": 0 at its creation and after a move to 0, else those of its latest
-- modify with mask bit 2 since then
abbrev pub rights_by : PairNote → ℕ → ℕ
rights_by (PairNote.created r) f = 0
rights_by (PairNote.changed r) f = cond (eqb r.state 0) 0 (cond (eqb (r.mask / 4 % 2) 1) r.flags f)
rights_by (PairNote.posted w s) f = f
rights_by PairNote.flushed f = f
rights_by (PairNote.enqueued r) f = f
rights_by (PairNote.sent t r s) f = f

unfoldable pub rights : Log → (q : ℕ) → ℕ
rights l q = told rights_by 0 l q

-- what its own notes and those of the queue pairs whose peer it then was tell: own says that a note is its own, named that it
-- is one of the others
unfoldable pub told_of_both : {A : Type 0} → (f : PairNote → (own named : Bool) → A → A) → (a : A) → Log → (q : ℕ) → A
told_of_both f a [] q = a
told_of_both f a (Note.of_key n ∷ l) q = told_of_both f a l q
told_of_both f a (Note.of_pair x n ∷ l) q = f n (eqb x q) (names (peer l x) q) (told_of_both f a l q)
told_of_both f a (Note.other ∷ l) q = told_of_both f a l q

-- "Waiting on a QP: its post receives with status 0 since its creation and last move to 0,"
abbrev pub accepted_by : PairNote → List Receive → List Receive
accepted_by (PairNote.created r) ws = []
accepted_by (PairNote.changed r) ws = cond (eqb r.state 0) [] ws
accepted_by (PairNote.posted w s) ws = cond (eqb s 0) (ws ++ (w ∷ [])) ws
accepted_by PairNote.flushed ws = ws
accepted_by (PairNote.enqueued r) ws = ws
accepted_by (PairNote.sent t r s) ws = ws

unfoldable pub accepted : Log → (q : ℕ) → List Receive
accepted l q = told accepted_by [] l q

-- "less the oldest, one per flush of it and per post send whose peer it then was (opcode 1 to 3, status 0 or 7) in that time"
abbrev pub consumed_by : PairNote → (own named : Bool) → ℕ → ℕ
consumed_by (PairNote.created r) own named n = cond own 0 n
consumed_by (PairNote.changed r) own named n = cond (own && eqb r.state 0) 0 n
consumed_by (PairNote.posted w s) own named n = n
consumed_by PairNote.flushed own named n = cond own (suc n) n
consumed_by (PairNote.enqueued r) own named n = n
consumed_by (PairNote.sent t r s) own named n =
    cond (named && (leb 1 r.opcode && leb r.opcode 3 && (eqb s 0 || eqb s 7))) (suc n) n

unfoldable pub consumed : Log → (q : ℕ) → ℕ
consumed l q = told_of_both consumed_by 0 l q

unfoldable pub waiting : Log → (q : ℕ) → List Receive
waiting l q = drop (consumed l q) (accepted l q)

-- Whether the log puts it in error: "The receive is consumed, both QPs go to error", a status other than 0 puts its sender
-- there, and a modify to 6; it is not there when it is created, nor after any other modify.
abbrev pub errored_by : PairNote → (own named : Bool) → Bool → Bool
errored_by (PairNote.created r) own named b = not own && b
errored_by (PairNote.changed r) own named b = cond own (eqb r.state 6) b
errored_by (PairNote.posted w s) own named b = b
errored_by PairNote.flushed own named b = b
errored_by (PairNote.enqueued r) own named b = b
errored_by (PairNote.sent t r s) own named b = (named && eqb s 7) || ((own && not (eqb s 0)) || b)

unfoldable pub errored : Log → (q : ℕ) → Bool
errored l q = told_of_both errored_by false l q

-- 02, M-103: "Older waiting receives go first": whether a receive posted after the log is flushed at once
abbrev pub flushes_at_once : Log → (q : ℕ) → Bool
flushes_at_once l q = errored l q && is_empty (waiting l q)

-- ---- one byte

-- the right that a use needs
pub data Right : Type 0 where
  none_needed : Right
  local_write : Right
  remote_write : Right
  remote_read : Right

-- access 1 is local write, 2 remote write, 4 remote read: the bit of that value is set
abbrev pub grants : (access : ℕ) → Right → Bool
grants a none_needed = true
grants a local_write = eqb (a % 2) 1
grants a remote_write = eqb (a / 2 % 2) 1
grants a remote_read = eqb (a / 4 % 2) 1

-- 02, M-104: "Each byte of a remote write or read needs the right in the region and in the peer's flags .. local uses only at
-- the region"
abbrev pub flags_grant : (rights : ℕ) → Right → Bool
flags_grant f none_needed = true
flags_grant f local_write = true
flags_grant f remote_write = grants f remote_write
flags_grant f remote_read = grants f remote_read

-- whose use it is: a queue pair's, by the domain that it was created in and its access flags
pub record Party : Type 0 where
  pub domain : Option ℕ
  pub rights : ℕ

-- the party of a queue pair; where there is none it has no domain, and no byte passes for it
abbrev pub party : Log → Option ℕ → Party
party l none = record { domain = none; rights = 0 }
party l (some q) = record { domain = domain l q; rights = rights l q }

-- "A byte passes if its key's registration stands, names the QP's domain, grants the use and has virt ≤ address < virt +
-- length", and the party's flags open the use
abbrev pub passes_by : Option Standing → Party → Right → (a : ℕ) → Bool
passes_by none p u a = false
passes_by (some h) p u a =
    names p.domain h.reg.pd && grants h.reg.access u && flags_grant p.rights u
    && leb h.reg.virt a && ltb a (h.reg.virt + h.reg.length)

unfoldable pub passes : Log → Party → Right → Byte → Bool
passes l p u b = passes_by (standing l b.key) p u b.address

-- 0 stands for no byte: nothing is read or written there, since only bytes that pass are
abbrev pub place_by : Option Standing → (a : ℕ) → ℕ
place_by none a = 0
place_by (some h) a = byte_of h.pages h.reg a

-- "It is then memory byte start + (address − virt)."; 02, M-105: "Start is the offset into the first page", by the one
-- definition of both kinds
unfoldable pub placed : Log → Byte → ℕ
placed l b = place_by (standing l b.key) b.address

-- ---- a work request, after the log l

pub record Work : Type 0 where
  pub qpn : ℕ
  pub request : Request

-- "the judge finds the peer and, for opcodes 2 and 3, the peer's oldest waiting receive"; where none waits, one with no
-- entry, and a request that needs one is held
abbrev pub oldest_on : Log → (peer : Option ℕ) → Receive
oldest_on l none = no_receive
oldest_on l (some d) = get_or (waiting l d) 0 no_receive

unfoldable pub filled : Log → Work → Receive
filled l w = oldest_on l (peer l w.qpn)

-- "It touches the bytes of steps 3 to 5, for the QP and use there": one side of it
pub record Side : Type 0 where
  pub party : Party
  pub right : Right
  pub bytes : List Byte

-- the sender reads its pieces, or with opcode 4 writes them
abbrev pub own_right : (opcode : ℕ) → Right
own_right o = cond (eqb o 4) local_write none_needed

unfoldable pub near : Log → Work → Side
near l w = record { party = party l (some w.qpn); right = own_right w.request.opcode; bytes = own_bytes w.request }

-- the peer's bytes are written remotely by opcodes 0 and 1, read remotely by 4, and are its own receive's with 2 and 3
abbrev pub far_right : (opcode : ℕ) → Right
far_right o = cond (eqb o 4) remote_read (cond (leb o 1) remote_write local_write)

unfoldable pub far : Log → Work → Side
far l w =
    record {
      party = party l (peer l w.qpn);
      right = far_right w.request.opcode;
      bytes = far_bytes w.request (filled l w);
    }

abbrev pub all_pass : Log → Side → Bool
all_pass l s = all (passes l s.party s.right) s.bytes

-- 00: "any receive it fills": that of opcodes 2 and 3
abbrev pub fits_receive : Log → Work → Bool
fits_receive l w =
    not (eqb w.request.opcode 2 || eqb w.request.opcode 3) || leb (total w.request) (sge_total (filled l w).sges)

unfoldable pub near_passes : Log → Work → Bool
near_passes l w = leb (total w.request) most_message && all_pass l (near l w)

unfoldable pub far_passes : Log → Work → Bool
far_passes l w = fits_receive l w && all_pass l (far l w)

-- The verdict, in 00's words: the request "succeeds exactly when its length fits the message limit and any receive it fills,
-- and the judge passes every byte it touches"; 02, M-103: it "counts a flushed request as failing, with no byte judged".
unfoldable pub judge : Log → Work → Bool
judge l w = not (errored l w.qpn) && (near_passes l w && far_passes l w)

-- whether the message is moved: where the request succeeds
abbrev pub moves : Log → Work → Bool
moves l w = judge l w

-- ---- the message

-- "sender's side to peer's (opcode 4: back)"
unfoldable pub read_side : Log → Work → Side
read_side l w = cond (eqb w.request.opcode 4) (far l w) (near l w)

unfoldable pub written_side : Log → Work → Side
written_side l w = cond (eqb w.request.opcode 4) (near l w) (far l w)

-- where a message byte comes from: it is given as it is, or it stands in the memory
pub data Source : Type 0 where
  literal : (value : ℕ) → Source
  byte : Byte → Source

-- inline bytes are given by the request
unfoldable pub sources : Log → Work → List Source
sources l w = cond w.request.inline (map literal w.request.bytes) (map byte (read_side l w).bytes)

-- the value of a message byte, by the memory m before the call
abbrev pub value_of : Log → (m : List ℕ) → Source → ℕ
value_of l m (literal v) = v
value_of l m (byte b) = get_or m (placed l b) 0

-- the memory after the request: "Success writes message bytes 0, 1, .. in turn .. with the values before the call"; 02,
-- M-105: "the later byte of the message wins, inside one piece too; demand 3 reads so"
unfoldable pub judged_memory : Log → Work → (m : List ℕ) → List ℕ
judged_memory l w m = cond (moves l w) (stored m (map (placed l) (written_side l w).bytes) (map (value_of l m) (sources l w))) m
