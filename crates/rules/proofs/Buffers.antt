-- Later bytes of an answer buffer stay. Assumes nothing.
use mathlib.Core.Path.{refl}
use mathlib.Core.Logic.{inr}
use mathlib.Core.List.{List}
use mathlib.Core.Option.{Option, none, some}
use Prim.Native.Nat.{ℕ}
use native.Mathlib.Omega.{arith}
use Rattle.wire.proofs.CodecLaws.{encode_length, encode_outside}
use Rattle.tables.specs.Card.{Card}
use Rattle.tables.specs.Commands.{Command, command_of, encode_ack, ack_size}
use Rattle.tables.specs.Records.{completion_codec}
use Rattle.tables.proofs.AckLaws.{ack_length, ack_after}
use Rattle.rules.specs.Call.{registration_in}
use Rattle.rules.specs.Calls.{buffer_after}
use Rattle.rules.specs.Control.{command_ack}
use Rattle.rules.specs.Queues.{oldest_entry}
use Rattle.rules.specs.Buffers.{Wrote, LaterStay}
use Rattle.rules.specs.Lists.{maybe}

command_stay : (a : List ℕ) (c : Card) (k : Command) → Wrote (ack_size (command_ack c k)) a (encode_ack (command_ack c k) a)
command_stay a c k = record { sized = ack_length (command_ack c k) a; later = λ j h. ack_after (command_ack c k) a j h }

ack_stay : (a : List ℕ) (c : Card) (o : Option Command)
    → Wrote (maybe 0 (λ q. ack_size (command_ack c q)) o) a (maybe a (λ q. encode_ack (command_ack c q) a) o)
ack_stay a c none = record { sized = refl; later = λ j h. refl }
ack_stay a c (some k) = command_stay a c k

pub later_stay : LaterStay
unfolding buffer_after command_ack
later_stay =
    record {
      control = λ c k a. ack_stay a c (command_of k);
      pages = λ c k ps a. command_stay a c (Command.register (registration_in k));
      poll =
          λ c n b.
          record {
            sized = encode_length completion_codec b 0 (oldest_entry c n);
            later = λ j h. encode_outside completion_codec b 0 (oldest_entry c n) j (inr (omega arith));
          };
    }
