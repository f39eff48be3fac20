-- A region dropped under a waiting receive, or under a remote key, along the list of calls: whatever calls stand between, the
-- work request that touches it gets what the rules say, and its key never comes back. Assumes nothing.
use Rattle.std.specs.Prelude.{◌≡◌, Bool, true, false, ◌||◌, List, [], ◌∷◌, ℕ, ◌<◌, eqb, length, get_or}
use Rattle.std.proofs.Math.Option.{Option, none, some}
use Rattle.tables.specs.Card.{Card}
use Rattle.tables.specs.Commands.{Command, command_of}
use Rattle.rules.specs.Answer.{is_done}
use Rattle.rules.specs.Call.{Call, memory_of}
use Rattle.rules.specs.declared.Answer.TheVariants.{Done}
use Rattle.rules.specs.Dropped.{Lost}
use Rattle.judge.specs.Log.{Log, Note, KeyNote}
use Rattle.judge.specs.Judge.{Standing, standing, Work, far, fits_receive, near_passes, errored}
use Rattle.judge.specs.Demand3.{no_byte, Seen, Claim, work, WhenDone, Linked}

-- a registration of the key k stood, and then a deregister named its mrn
abbrev pub ended_by : KeyNote → Option Standing → Bool → Bool
ended_by (KeyNote.registered m lkey rkey g ps) o b = b
ended_by (KeyNote.deregistered m) none b = b
ended_by (KeyNote.deregistered m) (some h) b = eqb m h.mrn || b

unfoldable pub ended : Log → (k : ℕ) → Bool
ended [] k = false
ended (Note.of_key n ∷ l) k = ended_by n (standing l k) (ended l k)
ended (Note.of_pair q n ∷ l) k = ended l k
ended (Note.other ∷ l) k = ended l k

-- at each call of the list, such a key's registration does not stand: however old the key is, it stays so to the next reset
abbrev pub Gone : Claim
Gone st l x = (k : ℕ) → ended l k ≡ true → standing l k ≡ none

-- the request is not flushed, all tests before that of the peer's bytes pass, and byte i of them is named under a key whose
-- registration does not stand
pub record Stale (l : Log) (w : Work) (i : ℕ) : Type 0 where
  pub running : errored l w.qpn ≡ false
  pub near : near_passes l w ≡ true
  pub fits : fits_receive l w ≡ true
  pub within : i < length (far l w).bytes
  pub gone : standing l (get_or (far l w).bytes i no_byte).key ≡ none

-- a work request then gets the status 7, its receiver 3, and the receive goes, or it gets the status 8; no byte is moved. c
-- and c' are the cards before and after it.
abbrev pub Loses : (l : Log) → (c c' : Card) → Work → (s : ℕ) → (m m' : List ℕ) → Type 0
Loses l c c' w s m m' = (i : ℕ) → Stale l w i → Lost c c' w.qpn w.request (Done s) m m'

abbrev pub Fruitless : (cardOf : List ℕ → Card) → Claim
Fruitless cardOf st l x =
    WhenDone (λ w s. Loses l (cardOf st) (cardOf x.left.state) w s (memory_of x.call) x.left.memory) (work l x)
    x.left.answer

-- a post send that was refused or held gets the same answer again when a region is dropped in between: it stays held
unfoldable pub StaysHeld : (Made : (st : List ℕ) → Seen → Type 0) → Type 0
StaysHeld Made =
    (q n : ℕ) (s m k a st : List ℕ) (x y z : Seen) → Linked Made st (x ∷ y ∷ z ∷ []) →
    x.call ≡ Call.send q s m → is_done x.left.answer ≡ false →
    y.call ≡ Call.control k a → command_of k ≡ some (Command.deregister n) → z.call ≡ x.call →
    z.left.answer ≡ x.left.answer
