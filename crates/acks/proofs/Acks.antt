-- What the readers of the queries' acks give, and what a record asks of its ack buffer. Assumes nothing.
use mathlib.Core.Path.{◌≡◌, refl}
use mathlib.Core.Logic.{◌≢◌}
use mathlib.Core.Bool.{Bool, true, false, cond, ◌&&◌}
use mathlib.Core.List.{List, ◌∷◌}
use mathlib.Core.Option.{none, some}
use Prim.Native.Nat.{ℕ, ◌≤◌, ◌<◌}
use native.Mathlib.Omega.{arith}
use lib.Dec.{eqb, leb}
use lib.ListN.{length}
use borrow.Author.Tests.{le-leb, lt-leb, ne_eqb}
use Rattle.wire.specs.Codec.{decode}
use Rattle.wire.specs.Le.{le_at}
use Rattle.tables.specs.Commands.{Command, command_of, number_codec, register_codec, create_qp_codec, modify_qp_codec, control_class, ack_least, ack_need, room_by}
use Rattle.tables.specs.Queries.{device_codec, device_read, port_codec, port_read}
use Rattle.std.specs.Prelude.{Err}
use Rattle.tables.specs.declared.refusal.Refusal.TheVariants.{WrongLength, BadField}
use Rattle.tables.proofs.AckLaws.{query_short, query_error, device_back, port_back}
use Rattle.acks.specs.Acks.{ReadBack, Needs}

device_short : (a : List ℕ) → length a < 129 → device_read a ≡ Err WrongLength
unfolding device_read device_codec
device_short a h = rw (query_short 128 a h)

device_error : (a : List ℕ) → 129 ≤ length a → le_at 1 a 0 ≢ 0 → device_read a ≡ Err BadField
unfolding device_read device_codec
device_error a h e = rw (query_error 128 a h e)

port_short : (a : List ℕ) → length a < 33 → port_read a ≡ Err WrongLength
unfolding port_read port_codec
port_short a h = rw (query_short 32 a h)

port_error : (a : List ℕ) → 33 ≤ length a → le_at 1 a 0 ≢ 0 → port_read a ≡ Err BadField
unfolding port_read port_codec
port_error a h e = rw (query_error 32 a h e)

pub read_back : ReadBack
read_back =
    record {
      device_back = device_back;
      device_short = device_short;
      device_error = device_error;
      port_back = port_back;
      port_short = port_short;
      port_error = port_error;
    }

-- ---- room for an ack

-- a command that is no query, by its number
pub room_other : (k : List ℕ) (n : ℕ) → n ≡ le_at 1 k 1 → n ≢ 0 → n ≢ 1 → room_by (command_of k) ≡ ack_least
unfolding command_of
room_other k n is a b =
    rw (← is, ne_eqb n 0 a, ne_eqb n 1 b) (ten (eqb n 2) (eqb n 3) (eqb n 4) (eqb n 5) (eqb n 7) (eqb n 8) (eqb n 9) (eqb n 10) (eqb n 12))
  where
    x : ℕ
    x = decode number_codec k 2

    ten : (b2 b3 b4 b5 b7 b8 b9 b10 b12 : Bool) → room_by (cond b2 (some (Command.create_cq x)) (cond b3 (some (Command.destroy_cq x)) (cond b4 (some Command.create_pd)
        (cond b5 (some (Command.destroy_pd x)) (cond b7 (some (Command.register (decode register_codec k 2))) (cond b8 (some (Command.deregister x))
        (cond b9 (some (Command.create_qp (decode create_qp_codec k 2))) (cond b10 (some (Command.modify_qp (decode modify_qp_codec k 2)))
        (cond b12 (some (Command.destroy_qp x)) none))))))))) ≡ ack_least
    ten true b3 b4 b5 b7 b8 b9 b10 b12 = refl
    ten false true b4 b5 b7 b8 b9 b10 b12 = refl
    ten false false true b5 b7 b8 b9 b10 b12 = refl
    ten false false false true b7 b8 b9 b10 b12 = refl
    ten false false false false true b8 b9 b10 b12 = refl
    ten false false false false false true b9 b10 b12 = refl
    ten false false false false false false true b10 b12 = refl
    ten false false false false false false false true b12 = refl
    ten false false false false false false false false true = refl
    ten false false false false false false false false false = refl

device_need : (x : List ℕ) → ack_need (6 ∷ 0 ∷ x) ≡ 129
unfolding ack_need command_of le_at
device_need x = rw (le-leb 2 (length (6 ∷ 0 ∷ x)) (omega arith))

port_need : (x : List ℕ) → ack_need (6 ∷ 1 ∷ x) ≡ 33
unfolding ack_need command_of le_at
port_need x = rw (le-leb 2 (length (6 ∷ 1 ∷ x)) (omega arith))

short_need : (k : List ℕ) → length k < 2 → ack_need k ≡ 13
unfolding ack_need
short_need k h = rw (lt-leb 2 (length k) h)

class_need : (k : List ℕ) → le_at 1 k 0 ≢ 6 → ack_need k ≡ 13
unfolding ack_need
class_need k e = rw (ne_eqb (le_at 1 k 0) 6 e) (go (leb 2 (length k)))
  where
    go : (b : Bool) → cond (b && false) (room_by (command_of k)) ack_least ≡ 13
    go true = refl
    go false = refl

command_need : (k : List ℕ) → 2 ≤ le_at 1 k 1 → ack_need k ≡ 13
unfolding ack_need
command_need k h =
    go (leb 2 (length k) && eqb (le_at 1 k 0) control_class) (room_other k (le_at 1 k 1) refl (λ e. omega arith) (λ e. omega arith))
  where
    go : (b : Bool) → room_by (command_of k) ≡ ack_least → cond b (room_by (command_of k)) ack_least ≡ 13
    go true e = e
    go false e = refl

pub needs : Needs
unfolding device_codec port_codec
needs =
    record {
      device = device_need;
      port = port_need;
      short = short_need;
      other_class = class_need;
      other_command = command_need;
      device_size = refl;
      port_size = refl;
    }
