-- Why a log can be replayed without the bytes of the memory: no call depends on what memory holds. Assumes nothing.
use Rattle.std.specs.Prelude.{◌≡◌, List, ℕ, length}
use Rattle.rules.specs.Call.{Call, memory_of}
use Rattle.rules.specs.Contract.{Exports}

-- the call k, lent the memory m instead of its own
abbrev pub lending : (m : List ℕ) → Call → Call
lending m (Call.reset n) = Call.reset n
lending m (Call.control k a) = Call.control k a
lending m (Call.register_pages k ps a) = Call.register_pages k ps a
lending m (Call.send q x m₀) = Call.send q x m
lending m (Call.receive q x) = Call.receive q x
lending m (Call.flush q) = Call.flush q
lending m (Call.enqueue q x m₀) = Call.enqueue q x m
lending m (Call.turn m₀) = Call.turn m
lending m (Call.poll n b) = Call.poll n b

-- what two calls returned and left; completions stand in the state, or in the buffer of a poll
pub record Alike (r r' : ℕ) (l l' b b' : List ℕ) : Type 0 where
  pub result : r ≡ r'
  pub state : l ≡ l'
  pub buffer : b ≡ b'

-- of one call on the state l, lent two memories of one length
unfoldable pub Replays : Type 0
Replays =
    (l : List ℕ) (k : Call) (m : List ℕ) → length m ≡ length (memory_of k) →
    (r r' : ℕ) (l₁ l₂ m₁ m₂ b₁ b₂ : List ℕ) →
    Exports l k r l₁ m₁ b₁ → Exports l (lending m k) r' l₂ m₂ b₂ → Alike r r' l₁ l₂ b₁ b₂
