-- What a call that is done leaves of its answer buffer: "On OK the ack byte and its data are written, later bytes stay"; a completion
-- "fills the first 24 bytes". Assumes nothing.
use Rattle.std.specs.Prelude.{◌≡◌, List, ℕ, ◌≤◌, length, get_or}
use Rattle.tables.specs.Card.{Card}
use Rattle.tables.specs.Commands.{command_of, ack_size}
use Rattle.tables.specs.Records.{completion_codec}
use Rattle.rules.specs.Call.{Call}
use Rattle.rules.specs.Calls.{buffer_after}
use Rattle.rules.specs.Control.{command_ack, new_keys}
use Rattle.rules.specs.Lists.{maybe}

-- the buffer b after a call that wrote its first n bytes into the buffer a
pub record Wrote (n : ℕ) (a b : List ℕ) : Type 0 where
  pub sized : length b ≡ length a
  pub later : (j : ℕ) → n ≤ j → get_or b j 0 ≡ get_or a j 0

pub record LaterStay : Type 0 where
  -- the bytes of the command's ack
  pub control : (c : Card) (k a : List ℕ) → Wrote (maybe 0 (λ q. ack_size (command_ack c q)) (command_of k)) a (buffer_after c (Call.control k a))
  -- that of a registration
  pub pages : (c : Card) (k ps a : List ℕ) → Wrote (ack_size (new_keys c)) a (buffer_after c (Call.register_pages k ps a))
  pub poll : (c : Card) (n : ℕ) (b : List ℕ) → Wrote completion_codec.size b (buffer_after c (Call.poll n b))
