-- What a turn hands from one function to the next, in the rules' words. Assumes nothing.
use Rattle.std.specs.Prelude.{◌≡◌, List, [], ℕ}
use Rattle.tables.specs.State.{card}
use Rattle.rules.specs.declared.Answer.{Answer}
use Rattle.rules.specs.Call.{Outcome}
use Rattle.rules.specs.Bytes.{send_bytes, head_gone_bytes}
use Rattle.rules.specs.Send.{send_status, send_memory}
use Rattle.rules.specs.Turn.{head_of}

-- the head of the queue of q, which may run, is served: its status st, and the state l' and the memory m' that it leaves
pub record Serves (l : List ℕ) (q : ℕ) (m : List ℕ) (st : ℕ) (l' m' : List ℕ) : Type 0 where
  pub status : st ≡ send_status (card l) q (head_of (card l) q)
  pub bytes : l' ≡ head_gone_bytes (send_bytes l q (head_of (card l) q)) q
  pub memory : m' ≡ send_memory (card l) q (head_of (card l) q) m

-- what a turn leaves that answers a and returns the queue pair q
abbrev pub turn_leaves : Answer → (q : ℕ) → (l' m' : List ℕ) → Outcome
turn_leaves a q l' m' = record { answer = a; value = q; state = l'; memory = m'; buffer = [] }
