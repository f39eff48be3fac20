-- Document 01, "Control commands", over the lent state: what the functions that run a command owe. The rules are rules/specs/Control.antt.
-- Assumes nothing.
use Rattle.std.specs.Prelude.{◌≡◌, Bool, true, false, cond, not, ◌&&◌, ◌||◌, List, [], ◌∷◌, ◌++◌, ℕ, ◌+◌, eqb, leb, length, Result, Ok, Err, Some, None}
use Rattle.std.specs.Prelude.{Option as Read}
use Rattle.std.proofs.Math.Option.{Option, none, some}
use Rattle.wire.specs.Checks.{Check, ◌if◌, refusal, has, only}
use Rattle.wire.specs.Le.{le_at}
use Rattle.tables.specs.Card.{cq_live, Card}
use Rattle.tables.specs.State.{card}
use Rattle.tables.specs.Limits.{qp_count, most_address, most_access}
use Rattle.tables.specs.Commands.{head_checks, Command, data_size, command_of}
use Rattle.tables.specs.Refusal.{refusal_of, result_by}
use Rattle.tables.specs.declared.Ack.{Ack}
use Rattle.tables.specs.declared.Ack.TheVariants as ack
use Rattle.tables.specs.declared.CreateQp.{CreateQp}
use Rattle.tables.specs.declared.ModifyQp.{ModifyQp}
use Rattle.tables.specs.declared.Registration.{Registration}
use Rattle.tables.specs.declared.refusal.Refusal.{Refusal}
use Rattle.tables.specs.declared.refusal.Refusal.TheVariants.{WrongLength}
use Rattle.validate.specs.Accept.{is_state}
use Rattle.validate.specs.Search.{pd_in_use, cq_in_use}
use Rattle.rules.specs.Bytes.{command_bytes}
use Rattle.rules.specs.Control.{command_checks, command_ack, state_bit, rights_bit, dest_bit}
use Rattle.rules.specs.Verb.{verb_of}
use Rattle.rules.specs.declared.verb.Verb.{Verb}
use Rattle.rules.specs.Lists.{is_some, maybe}
use Rattle.tables.specs.declared.Kind.{Kind}
use Rattle.tables.specs.declared.Kind.TheVariants.{Pd, Cq, Mr, Qp}

-- ---- outcomes

-- "Any answer but 0 leaves memory, tables and lent bytes unchanged"
abbrev pub left_by : (refused : Option ℕ) (before after : List ℕ) → List ℕ
left_by none l l' = l'
left_by (some n) l l' = l

-- "ack 0 is OK, 1 is error"
abbrev pub outcome_ack : {E : Type 0} → Result Ack E → Ack
outcome_ack (Err r) = ack.Error
outcome_ack (Ok a) = a

-- ---- the command that a record names

abbrev pub verb_by : Option ℕ → Result Verb Refusal → Result Verb Refusal
verb_by none v = v
verb_by (some n) v = Err (refusal_of n)

-- "fewer than two bytes 1; 13": by its first two bytes
abbrev pub verb_read : List ℕ → Result Verb Refusal
verb_read k = verb_by (refusal (head_checks k)) (verb_of (le_at 1 k 1))

-- ---- what a function owes that runs a command on the state l after these tests: its outcome r, done with what the ack says, and the state's
-- bytes l', those after the command where it is done

pub record Ends (tests : List Check) (said : Ack) (l after : List ℕ) (r : Result Ack Refusal) (l' : List ℕ) : Type 0 where
  pub outcome : r ≡ result_by (refusal tests) said
  pub bytes : l' ≡ left_by (refusal tests) l after

-- the command o
abbrev pub Runs : (tests : List Check) → (l : List ℕ) → Option Command → Result Ack Refusal → (l' : List ℕ) → Type 0
Runs tests l o r l' = Ends tests (maybe ack.Done (command_ack (card l)) o) l (maybe l (command_bytes l) o) r l'

-- "Check order: .. data length 1; then 4, 2, 11, 3, 10, 8": a command whose data has not its length is none
abbrev pub data_checks : Card → Option Command → List Check
data_checks c none = 1 if true ∷ []
data_checks c (some q) = command_checks c q

abbrev pub Ran : (l : List ℕ) → Option Command → Result Ack Refusal → (l' : List ℕ) → Type 0
Ran l o r l' = Runs (data_checks (card l) o) l o r l'

-- "13; data length 1; ..": the tests from the command number on
abbrev pub number_checks : Card → List ℕ → List Check
number_checks c k =
    13 if not (is_some (command_of k)) ∷
    1 if not (eqb (length k) (2 + maybe 0 data_size (command_of k))) ∷
    maybe [] (command_checks c) (command_of k)

-- "fewer than two bytes 1; 13; ..": the tests from the command's length on
abbrev pub class_checks : Card → List ℕ → List Check
class_checks c k = head_checks k ++ number_checks c k

-- the command that the bytes k are, from its number on, and from its length on
abbrev pub Chosen : (l k : List ℕ) → Result Ack Refusal → (l' : List ℕ) → Type 0
Chosen l k r l' = Runs (number_checks (card l) k) l (command_of k) r l'

abbrev pub Classed : (l k : List ℕ) → Result Ack Refusal → (l' : List ℕ) → Type 0
Classed l k r l' = Runs (class_checks (card l) k) l (command_of k) r l'

-- ---- the command that its data makes; none where the data has not its length

abbrev pub read_as : {A : Type 0} → (A → Command) → Read A → Option Command
read_as f (Some v) = some (f v)
read_as f None = none

-- "4 create PD | none", and a query: a command without data is two bytes long
abbrev pub no_data_read : List ℕ → Result (Unit {0}) Refusal
no_data_read k = cond (eqb (length k) 2) (Ok tt) (Err WrongLength)

abbrev pub bare : Command → List ℕ → Option Command
bare q k = cond (eqb (length k) 2) (some q) none

-- ---- objects by kind: "destroy CQ", "destroy PD", "deregister MR", "destroy QP"

abbrev pub destroy_of : Kind → ℕ → Command
destroy_of Pd n = Command.destroy_pd n
destroy_of Cq n = Command.destroy_cq n
destroy_of Mr n = Command.deregister n
destroy_of Qp n = Command.destroy_qp n

-- "In use (10): a PD with a live MR or QP; a CQ named by a live QP"
abbrev pub used_of : Card → Kind → ℕ → Bool
used_of c Pd n = pd_in_use c n
used_of c Cq n = cq_in_use c n
used_of c Mr n = false
used_of c Qp n = false

-- ---- the tests of one answer together

-- "Range (11): length 0; start + length over the memory length; virt + length over 2^64 − 1"
abbrev pub in_range : (memory : ℕ) → Registration → Bool
in_range memory g = not (eqb g.length 0) && leb (g.start + g.length) memory && leb (g.virt + g.length) most_address

-- "Bad fields (4): .. type not 2 (RC); signal above 1"
abbrev pub create_fine : CreateQp → Bool
create_fine r = eqb r.kind 2 && leb r.signal 1

-- "number not live": those that a new queue pair names
abbrev pub create_live : Card → CreateQp → Bool
create_live c r = c.pd r.pd && cq_live c r.scq && cq_live c r.rcq

-- "Modify: mask with bits other than 0 and 15, or without bit 0; state 4, 5 or above 6; a padding byte not zero; bit 15 set unless state is
-- 2, or clear when it is; with bit 15, a destination above 7 or equal to qpn"; 02, M-104: "mask bit 2", "flag bits above 2 give 4"
abbrev pub modify_bad : ModifyQp → Bool
modify_bad r =
    not (only (state_bit + rights_bit + dest_bit) r.mask)
    || not (has state_bit r.mask)
    || not (is_state r.state)
    || not (eqb r.pad0 0 && eqb r.pad1 0 && eqb r.pad2 0)
    || (has dest_bit r.mask && not (eqb r.state 2))
    || (not (has dest_bit r.mask) && eqb r.state 2)
    || (has dest_bit r.mask && (leb qp_count r.dest || eqb r.dest r.qpn))
    || (has rights_bit r.mask && not (only most_access r.flags))
