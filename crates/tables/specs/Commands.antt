-- Document 01, "Control commands": "Class byte 6, command byte, data. The ack buffer". Each command's data by its layout, the command that
-- a record is, and the acks. Laws: proofs/ReadingLaws.antt and
-- proofs/AckLaws.antt. Assumes nothing.
use Rattle.std.specs.Prelude.{refl, cond, not, ◌&&◌, List, [], ◌∷◌, ℕ, ◌+◌, eqb, ltb, leb, length, get_or, Result, Some, None}
use Rattle.std.specs.Prelude.{Option as Read}
use Rattle.std.proofs.Math.Option.{Option, none, some}
use Rattle.wire.specs.Checks.{Check, ◌if◌, refusal}
use Rattle.wire.specs.Codec.{Codec, Field, field, line, decode, encode, put_fields, within, clear, apart}
use Rattle.wire.specs.Le.{le_at}
use Rattle.tables.specs.Queries.{device_codec, port_codec}
use Rattle.tables.specs.Refusal.{result_by}
use Rattle.tables.specs.declared.Ack.{Ack}
use Rattle.tables.specs.declared.Ack.TheVariants.{Error, Done, Number, Keys, Device, Port}
use Rattle.tables.specs.declared.CreateQp.{CreateQp}
use Rattle.tables.specs.declared.ModifyQp.{ModifyQp}
use Rattle.tables.specs.declared.Registration.{Registration}
use Rattle.tables.specs.declared.refusal.Refusal.{Refusal}

abbrev pub control_class : ℕ
control_class = 6

-- ---- data, which begins at byte 2

-- one number of 32 bits: places, cqn, pdn, mrn or qpn
unfoldable pub number_codec : Codec ℕ
unfolding within clear apart
number_codec = record { size = 4; lines = line 0 4 (λ n. n) ∷ []; make = λ vs. get_or vs 0 0; ends = tt; clears = tt; back = λ n. refl }

-- "7 register MR (*house*, 32 bytes)": "pdn, access, start 64, length 64, virt 64"
unfoldable pub register_codec : Codec Registration
unfolding within clear apart
register_codec = record {
  size = 32;
  lines =
      line 0 4 (λ r. r.pd) ∷
      line 4 4 (λ r. r.access) ∷
      line 8 8 (λ r. r.start) ∷
      line 16 8 (λ r. r.length) ∷
      line 24 8 (λ r. r.virt) ∷
      [];
  make = λ vs. record { pd = get_or vs 0 0; access = get_or vs 1 0; start = get_or vs 2 0; length = get_or vs 3 0; virt = get_or vs 4 0 };
  ends = tt;
  clears = tt;
  back = λ r. refl;
}

-- "9 create QP (*house*, 16 bytes)": "pdn, type u8, signal u8, 2 ignored, send cqn, receive cqn"
unfoldable pub create_qp_codec : Codec CreateQp
unfolding within clear apart
create_qp_codec = record {
  size = 16;
  lines =
      line 0 4 (λ r. r.pd) ∷
      line 4 1 (λ r. r.kind) ∷
      line 5 1 (λ r. r.signal) ∷
      line 8 4 (λ r. r.scq) ∷
      line 12 4 (λ r. r.rcq) ∷
      [];
  make = λ vs. record { pd = get_or vs 0 0; kind = get_or vs 1 0; signal = get_or vs 2 0; scq = get_or vs 3 0; rcq = get_or vs 4 0 };
  ends = tt;
  clears = tt;
  back = λ r. refl;
}

-- "10 modify QP (*house*, 16 bytes)": "qpn, mask, state u8, 3 zero bytes, destination qpn"; 02, M-104: "access flags as a last 32-bit number,
-- so the modify record becomes 20 bytes for all masks"
unfoldable pub modify_qp_codec : Codec ModifyQp
unfolding within clear apart
modify_qp_codec = record {
  size = 20;
  lines =
      line 0 4 (λ r. r.qpn) ∷
      line 4 4 (λ r. r.mask) ∷
      line 8 1 (λ r. r.state) ∷
      line 9 1 (λ r. r.pad0) ∷
      line 10 1 (λ r. r.pad1) ∷
      line 11 1 (λ r. r.pad2) ∷
      line 12 4 (λ r. r.dest) ∷
      line 16 4 (λ r. r.flags) ∷
      [];
  make = λ vs. record {
    qpn = get_or vs 0 0;
    mask = get_or vs 1 0;
    state = get_or vs 2 0;
    pad0 = get_or vs 3 0;
    pad1 = get_or vs 4 0;
    pad2 = get_or vs 5 0;
    dest = get_or vs 6 0;
    flags = get_or vs 7 0;
  };
  ends = tt;
  clears = tt;
  back = λ r. refl;
}

-- ---- commands

-- a control command and its data: the queries of 02, M-100, and then those of 01's table in its order
pub data Command : Type 0 where
  query_device : Command
  query_port : Command
  create_cq : (places : ℕ) → Command
  destroy_cq : (cqn : ℕ) → Command
  create_pd : Command
  destroy_pd : (pdn : ℕ) → Command
  register : Registration → Command
  deregister : (mrn : ℕ) → Command
  create_qp : CreateQp → Command
  modify_qp : ModifyQp → Command
  destroy_qp : (qpn : ℕ) → Command

-- "The ack buffer has at least 13 bytes"
abbrev pub ack_least : ℕ
ack_least = 13

-- a row of 01's table: the command byte, the length of the data, the least ack buffer, and how many numbers the ack data has
pub record Row : Type 0 where
  pub number : ℕ
  pub size : ℕ
  pub room : ℕ
  pub numbers : ℕ

-- 02, M-100: "fewer than 129 or 33 bytes"; the judge reads no query's report
abbrev pub row_of : Command → Row
row_of query_device = record { number = 0; size = 0; room = 129; numbers = 0 }
row_of query_port = record { number = 1; size = 0; room = 33; numbers = 0 }
row_of (create_cq n) = record { number = 2; size = number_codec.size; room = ack_least; numbers = 1 }
row_of (destroy_cq n) = record { number = 3; size = number_codec.size; room = ack_least; numbers = 0 }
row_of create_pd = record { number = 4; size = 0; room = ack_least; numbers = 1 }
row_of (destroy_pd n) = record { number = 5; size = number_codec.size; room = ack_least; numbers = 0 }
row_of (register g) = record { number = 7; size = register_codec.size; room = ack_least; numbers = 3 }
row_of (deregister n) = record { number = 8; size = number_codec.size; room = ack_least; numbers = 0 }
row_of (create_qp r) = record { number = 9; size = create_qp_codec.size; room = ack_least; numbers = 1 }
row_of (modify_qp r) = record { number = 10; size = modify_qp_codec.size; room = ack_least; numbers = 0 }
row_of (destroy_qp q) = record { number = 12; size = number_codec.size; room = ack_least; numbers = 0 }

-- its parts, by name
unfoldable pub data_size : Command → ℕ
data_size q = (row_of q).size

abbrev pub ack_room : Command → ℕ
ack_room q = (row_of q).room

abbrev pub ack_numbers : Command → ℕ
ack_numbers q = (row_of q).numbers

-- the first of these commands that has the number n
unfoldable pub numbered_in : (n : ℕ) → List Command → Option Command
numbered_in n [] = none
numbered_in n (q ∷ qs) = cond (eqb n (row_of q).number) (some q) (numbered_in n qs)

-- "Class byte 6, command byte, data": the command that a record is by its command byte; none for a number that is no command's
unfoldable pub command_of : (k : List ℕ) → Option Command
unfolding numbered_in
command_of k =
    let x : ℕ = decode number_codec k 2 in
    numbered_in (le_at 1 k 1)
    (query_device ∷ query_port ∷ create_cq x ∷ destroy_cq x ∷ create_pd ∷ destroy_pd x ∷ register (decode register_codec k 2) ∷ deregister x ∷
    create_qp (decode create_qp_codec k 2) ∷ modify_qp (decode modify_qp_codec k 2) ∷ destroy_qp x ∷ [])

-- ---- reading

-- "fewer than two bytes 1; 13"
abbrev pub head_checks : List ℕ → List Check
head_checks k = 1 if ltb (length k) 2 ∷ 13 if not (eqb (le_at 1 k 0) control_class) ∷ []

-- the class and the command byte
abbrev pub head_read : List ℕ → Result ℕ Refusal
head_read k = result_by (refusal (head_checks k)) (le_at 1 k 1)

-- "data length 1": the data is none where the command does not have its exact length
abbrev pub data_read : {A : Type 0} → (whole : ℕ) → (List ℕ → A) → List ℕ → Read A
data_read n of k = cond (eqb (length k) n) (Some (of k)) None

abbrev pub number_read : List ℕ → Read ℕ
number_read = data_read (2 + number_codec.size) (λ k. decode number_codec k 2)

abbrev pub register_read : List ℕ → Read Registration
register_read = data_read (2 + register_codec.size) (λ k. decode register_codec k 2)

abbrev pub create_qp_read : List ℕ → Read CreateQp
create_qp_read = data_read (2 + create_qp_codec.size) (λ k. decode create_qp_codec k 2)

abbrev pub modify_qp_read : List ℕ → Read ModifyQp
modify_qp_read = data_read (2 + modify_qp_codec.size) (λ k. decode modify_qp_codec k 2)

-- ---- acks

-- "ack 0 is OK, 1 is error"
abbrev pub ack_byte : Ack → ℕ
ack_byte Error = 1
ack_byte Done = 0
ack_byte (Number n) = 0
ack_byte (Keys n key) = 0
ack_byte (Device d) = 0
ack_byte (Port p) = 0

-- its numbers, up to three
abbrev pub numbers_of : Ack → List ℕ
numbers_of Error = []
numbers_of Done = []
numbers_of (Number n) = n ∷ []
numbers_of (Keys n key) = n ∷ key ∷ key ∷ []
numbers_of (Device d) = []
numbers_of (Port p) = []

-- the ack byte, and the numbers behind it; a writer stops where its values stop
abbrev pub ack_fields : List Field
ack_fields = field 0 1 ∷ field 1 4 ∷ field 5 4 ∷ field 9 4 ∷ []

-- what a query reports, behind the ack byte
abbrev pub reported : Ack → List ℕ → List ℕ
reported Error b = b
reported Done b = b
reported (Number n) b = b
reported (Keys n key) b = b
reported (Device d) b = encode device_codec b 1 d
reported (Port p) b = encode port_codec b 1 p

-- an ack, stored over the buffer b
abbrev pub encode_ack : Ack → List ℕ → List ℕ
encode_ack a b = reported a (put_fields ack_fields b 0 (ack_byte a ∷ numbers_of a))

-- the bytes of an ack
abbrev pub ack_size : Ack → ℕ
ack_size Error = 1
ack_size Done = 1
ack_size (Number n) = 5
ack_size (Keys n key) = 13
ack_size (Device d) = 129
ack_size (Port p) = 33

abbrev pub room_by : Option Command → ℕ
room_by none = ack_least
room_by (some k) = ack_room k

-- 02, M-100: "Where a record's first two bytes name one of these"; a record of one byte names none
unfoldable pub ack_need : List ℕ → ℕ
ack_need k = cond (leb 2 (length k) && eqb (le_at 1 k 0) control_class) (room_by (command_of k)) ack_least
