-- What the tests before have shown of the lent state l, where a call looks further. Assumes nothing.
use Rattle.std.specs.Prelude.{◌≡◌, true, false, List, ℕ, length}
use Rattle.tables.specs.Card.{Qp as Card·Qp, cq_live}
use Rattle.tables.specs.State.{card}
use Rattle.validate.specs.Accept.{accepts}
use Rattle.rules.specs.Lists.{is_empty}
use Rattle.rules.specs.Queues.{flushes_at_once}
use Rattle.rules.specs.Send.{room}
use Rattle.tables.specs.declared.WorkQueue.{WorkQueue}
use Rattle.tables.specs.declared.WorkQueue.TheVariants.{Receive, Send}

-- neither 15, "lent card state not acceptable", nor, of completion queue n, 2, "number not live"
pub record LiveQueue (l : List ℕ) (n : ℕ) : Type 0 where
  pub ok : accepts l ≡ true
  pub live : cq_live (card l) n ≡ true

-- the same of queue pair q
pub record LivePair (l : List ℕ) (q : ℕ) : Type 0 where
  pub ok : accepts l ≡ true
  pub live : ((card l).qp q).live ≡ true

-- nor "no place 6"
pub record PlacedPair (l : List ℕ) (q : ℕ) : Type 0 where
  pub pair : LivePair l q
  pub place : room ((card l).cq ((card l).qp q).rcq) 1 ≡ true

-- neither "none waiting 9" nor "no place 6": "then the oldest receive completes"
pub record Flushable (l : List ℕ) (q : ℕ) : Type 0 where
  pub placed : PlacedPair l q
  pub waits : is_empty ((card l).qp q).waiting ≡ false

-- 02, M-103: a receive posted on it is flushed at once
pub record Flushing (l : List ℕ) (q : ℕ) : Type 0 where
  pub pair : LivePair l q
  pub now : flushes_at_once (card l) q ≡ true

-- how many wait in one of a queue pair's queues
abbrev pub queue_length : WorkQueue → Card·Qp → ℕ
queue_length Receive p = length p.waiting
queue_length Send p = length p.queue
