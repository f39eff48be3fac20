-- Acks: what was written is read back, and the bytes behind an ack stay. Assumes nothing.
use mathlib.Core.Path.{◌≡◌, refl, ap, ◌∙◌}
use mathlib.Core.Logic.{inl, inr}
use mathlib.Core.Bool.{Bool, true, false, cond, ◌&&◌}
use mathlib.Core.List.{List, [], ◌∷◌}
use mathlib.Core.Option.{Option, none, some}
use Prim.Native.Nat.{ℕ, ◌+◌, ◌≤◌, ◌<◌}
use native.Mathlib.Omega.{arith}
use Rattle.std.specs.Prelude.{Ok}
use lib.Dec.{T, leb, eqb}
use lib.ListN.{length, get_or, take}
use borrow.Author.Tests.{eq-eqb, ne_eqb, lt-ltb, le-ltb}
use Rattle.wire.specs.Checks.{refusal}
use Rattle.wire.specs.Codec.{Field, put_fields, Fits, within, Codec, encode}
use Rattle.wire.specs.Le.{le_at, put_le}
use Rattle.wire.proofs.CodecLaws.{put_fields_outside, put_fields_length, encode_length, encode_outside, decode_encoded}
use Rattle.wire.proofs.LeLaws.{le_at_same, le_at_stored}
use Rattle.tables.specs.Commands.Command.{query_device, query_port, create_cq, destroy_cq, create_pd, destroy_pd, register, deregister, create_qp, modify_qp, destroy_qp}
use Rattle.tables.specs.Commands.{Command, control_class, command_of, ack_least, ack_need, room_by, ack_byte, numbers_of, ack_fields, ack_size, encode_ack}
use Rattle.tables.specs.Queries.{device_codec, port_codec, query_checks, device_read, port_read}
use Rattle.tables.specs.declared.Ack.{Ack}
use Rattle.tables.specs.declared.Ack.TheVariants.{Error, Done, Number, Keys, Device, Port}
use Rattle.tables.specs.declared.Device.{Device as DeviceValue}
use Rattle.tables.specs.declared.Port.{Port as PortValue}

-- ---- values for a part of the fields

-- values for a part of the fields are stored in that part
put_part_lem : (fs : List Field) (l : List ℕ) (at : ℕ) (vs : List ℕ) → put_fields fs l at vs ≡ put_fields (take (length vs) fs) l at vs
unfolding put_fields
put_part_lem [] l at [] = refl
put_part_lem [] l at (v ∷ vs) = refl
put_part_lem (f ∷ fs) l at [] = refl
put_part_lem (f ∷ fs) l at (v ∷ vs) = put_part_lem fs (put_le f.width l (at + f.offset) v) at vs

-- ---- room for an ack

room_least : (o : Option Command) → ack_least ≤ room_by o
room_least none = omega arith
room_least (some query_device) = omega arith
room_least (some query_port) = omega arith
room_least (some (create_cq n)) = omega arith
room_least (some (destroy_cq n)) = omega arith
room_least (some create_pd) = omega arith
room_least (some (destroy_pd n)) = omega arith
room_least (some (register g)) = omega arith
room_least (some (deregister n)) = omega arith
room_least (some (create_qp r)) = omega arith
room_least (some (modify_qp r)) = omega arith
room_least (some (destroy_qp q)) = omega arith

room_most : (o : Option Command) → room_by o ≤ 129
room_most none = omega arith
room_most (some query_device) = omega arith
room_most (some query_port) = omega arith
room_most (some (create_cq n)) = omega arith
room_most (some (destroy_cq n)) = omega arith
room_most (some create_pd) = omega arith
room_most (some (destroy_pd n)) = omega arith
room_most (some (register g)) = omega arith
room_most (some (deregister n)) = omega arith
room_most (some (create_qp r)) = omega arith
room_most (some (modify_qp r)) = omega arith
room_most (some (destroy_qp q)) = omega arith

pub need_most : (k : List ℕ) → ack_need k ≤ 129
unfolding ack_need
need_most k = go (leb 2 (length k) && eqb (le_at 1 k 0) control_class) (room_most (command_of k))
  where
    go : (b : Bool) → room_by (command_of k) ≤ 129 → cond b (room_by (command_of k)) ack_least ≤ 129
    go true h = h
    go false h = omega arith

pub need_least : (k : List ℕ) → ack_least ≤ ack_need k
unfolding ack_need
need_least k = go (leb 2 (length k) && eqb (le_at 1 k 0) control_class) (room_least (command_of k))
  where
    go : (b : Bool) → ack_least ≤ room_by (command_of k) → ack_least ≤ cond b (room_by (command_of k)) ack_least
    go true h = h
    go false h = omega arith

-- ---- an ack

abbrev ack_part : Ack → List Field
ack_part a = take (length (ack_byte a ∷ numbers_of a)) ack_fields

-- the ack byte and the numbers end within the ack
within_ack : (a : Ack) → T (within (ack_size a) (ack_part a))
unfolding within
within_ack Error = tt
within_ack Done = tt
within_ack (Number n) = tt
within_ack (Keys n key) = tt
within_ack (Device d) = tt
within_ack (Port p) = tt

abbrev numbered : Ack → List ℕ → List ℕ
numbered a l = put_fields ack_fields l 0 (ack_byte a ∷ numbers_of a)

numbered_after : (a : Ack) (l : List ℕ) (i : ℕ) → ack_size a ≤ i → get_or (numbered a l) i 0 ≡ get_or l i 0
numbered_after a l i h =
    rw (put_part_lem ack_fields l 0 (ack_byte a ∷ numbers_of a)) (put_fields_outside (ack_size a) (ack_part a) l 0 (ack_byte a ∷ numbers_of a) (within_ack a) i (inr (omega arith)))

numbered_length : (a : Ack) (l : List ℕ) → length (numbered a l) ≡ length l
numbered_length a l = put_fields_length ack_fields l 0 (ack_byte a ∷ numbers_of a)

pub ack_length : (a : Ack) (l : List ℕ) → length (encode_ack a l) ≡ length l
ack_length Error l = numbered_length Error l
ack_length Done l = numbered_length Done l
ack_length (Number n) l = numbered_length (Number n) l
ack_length (Keys n key) l = numbered_length (Keys n key) l
ack_length (Device d) l = encode_length device_codec (numbered (Device d) l) 1 d ∙ numbered_length (Device d) l
ack_length (Port p) l = encode_length port_codec (numbered (Port p) l) 1 p ∙ numbered_length (Port p) l

device_size : device_codec.size ≡ 128
unfolding device_codec
device_size = refl

port_size : port_codec.size ≡ 32
unfolding port_codec
port_size = refl

-- "later bytes stay"
pub ack_after : (a : Ack) (l : List ℕ) (i : ℕ) → ack_size a ≤ i → get_or (encode_ack a l) i 0 ≡ get_or l i 0
ack_after Error l i h = numbered_after Error l i h
ack_after Done l i h = numbered_after Done l i h
ack_after (Number n) l i h = numbered_after (Number n) l i h
ack_after (Keys n key) l i h = numbered_after (Keys n key) l i h
ack_after (Device d) l i h = let s : device_codec.size ≡ 128 = device_size in encode_outside device_codec (numbered (Device d) l) 1 d i (inr (omega arith)) ∙ numbered_after (Device d) l i h
ack_after (Port p) l i h = let s : port_codec.size ≡ 32 = port_size in encode_outside port_codec (numbered (Port p) l) 1 p i (inr (omega arith)) ∙ numbered_after (Port p) l i h

-- ---- reading: the tests in order

module _ (size : ℕ) (a : List ℕ) where
  pub query_short : length a < 1 + size → refusal (query_checks size a) ≡ some 1
  query_short h = rw (lt-ltb (length a) (1 + size) h)

  pub query_error : 1 + size ≤ length a → (le_at 1 a 0 ≡ 0 → ⊥) → refusal (query_checks size a) ≡ some 4
  query_error h e = rw (le-ltb (length a) (1 + size) h, ne_eqb (le_at 1 a 0) 0 e)

  pub query_right : 1 + size ≤ length a → le_at 1 a 0 ≡ 0 → refusal (query_checks size a) ≡ none
  query_right h e = rw (le-ltb (length a) (1 + size) h, eq-eqb (le_at 1 a 0) 0 e)

-- ---- "reading gives back what was written"

-- the ack byte stands before what a query reports
byte_kept : {A : Type 0} (c : Codec A) (b : List ℕ) (v : A) → le_at 1 (encode c b 1 v) 0 ≡ le_at 1 b 0
byte_kept c b v = le_at_same 1 (encode c b 1 v) b 0 (λ i x y. encode_outside c b 1 v i (inl (omega arith)))

byte_done : (l : List ℕ) → 1 ≤ length l → le_at 1 (put_fields ack_fields l 0 (0 ∷ [])) 0 ≡ 0
unfolding put_fields
byte_done l h = le_at_stored 1 l 0 0 (omega arith) (omega arith)

pub device_back : (d : DeviceValue) (l : List ℕ) → 129 ≤ length l → Fits device_codec d → device_read (encode_ack (Device d) l) ≡ Ok d
unfolding device_read
device_back d l h f =
    let s : device_codec.size ≡ 128 = device_size in
    let b : List ℕ = numbered (Device d) l in
    let n : length b ≡ length l = numbered_length (Device d) l in
    let m : length (encode device_codec b 1 d) ≡ length l = encode_length device_codec b 1 d ∙ n in
    rw (query_right device_codec.size (encode device_codec b 1 d) (omega arith) (byte_kept device_codec b d ∙ byte_done l (omega arith)))
    (ap Ok (decode_encoded device_codec b 1 d (omega arith) f))

pub port_back : (p : PortValue) (l : List ℕ) → 33 ≤ length l → Fits port_codec p → port_read (encode_ack (Port p) l) ≡ Ok p
unfolding port_read
port_back p l h f =
    let s : port_codec.size ≡ 32 = port_size in
    let b : List ℕ = numbered (Port p) l in
    let n : length b ≡ length l = numbered_length (Port p) l in
    let m : length (encode port_codec b 1 p) ≡ length l = encode_length port_codec b 1 p ∙ n in
    rw (query_right port_codec.size (encode port_codec b 1 p) (omega arith) (byte_kept port_codec b p ∙ byte_done l (omega arith)))
    (ap Ok (decode_encoded port_codec b 1 p (omega arith) f))
