-- Document 02, M-100: the acks of both queries, written and read, and the buffer that each command asks for. `encode_ack` is what `write_ack`
-- writes, `device_read` and `port_read` are what the readers give. Assumes nothing.
use Rattle.std.specs.Prelude.{◌≡◌, ◌≢◌, List, ◌∷◌, ℕ, ◌+◌, ◌≤◌, ◌<◌, length, Ok, Err}
use Rattle.wire.specs.Codec.{Fits}
use Rattle.wire.specs.Le.{le_at}
use Rattle.tables.specs.Commands.{encode_ack, ack_need}
use Rattle.tables.specs.Queries.{device_codec, device_read, port_codec, port_read}
use Rattle.tables.specs.declared.Ack.TheVariants as ack
use Rattle.tables.specs.declared.Device.{Device}
use Rattle.tables.specs.declared.Port.{Port}
use Rattle.tables.specs.declared.refusal.Refusal.TheVariants.{WrongLength, BadField}

-- "Write and read the acks: reading gives back what was written, and answers 1 if the ack is too short, then 4 if its ack byte isn't 0."
pub record ReadBack : Type 0 where
  -- any values, each of which fits its field, written over any bytes
  pub device_back : (d : Device) (b : List ℕ) → 129 ≤ length b → Fits device_codec d → device_read (encode_ack (ack.Device d) b) ≡ Ok d
  pub device_short : (a : List ℕ) → length a < 129 → device_read a ≡ Err WrongLength
  pub device_error : (a : List ℕ) → 129 ≤ length a → le_at 1 a 0 ≢ 0 → device_read a ≡ Err BadField
  pub port_back : (p : Port) (b : List ℕ) → 33 ≤ length b → Fits port_codec p → port_read (encode_ack (ack.Port p) b) ≡ Ok p
  pub port_short : (a : List ℕ) → length a < 33 → port_read a ≡ Err WrongLength
  pub port_error : (a : List ℕ) → 33 ≤ length a → le_at 1 a 0 ≢ 0 → port_read a ≡ Err BadField

-- "Where a record's first two bytes name one of these, answer 12 .. means fewer than 129 or 33 bytes": the ack byte and the layout. Every other
-- record keeps 01's 13: one without a second byte, of another class, or with another command.
pub record Needs : Type 0 where
  pub device : (x : List ℕ) → ack_need (6 ∷ 0 ∷ x) ≡ 129
  pub port : (x : List ℕ) → ack_need (6 ∷ 1 ∷ x) ≡ 33
  pub short : (k : List ℕ) → length k < 2 → ack_need k ≡ 13
  pub other_class : (k : List ℕ) → le_at 1 k 0 ≢ 6 → ack_need k ≡ 13
  pub other_command : (k : List ℕ) → 2 ≤ le_at 1 k 1 → ack_need k ≡ 13
  pub device_size : 1 + device_codec.size ≡ 129
  pub port_size : 1 + port_codec.size ≡ 33
