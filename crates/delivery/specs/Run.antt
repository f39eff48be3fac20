-- A request that is run on a queue pair, document 01, "Posting and delivering", steps 1 to 6: what each part of the code hands to the next, in
-- the rules' words. A request is its head s, its scatter/gather entries sges, of which it has count, and its inline bytes b, wherever these
-- stand. Assumes nothing.
use Rattle.std.specs.Prelude.{◌≡◌, true, false, List, [], ◌∷◌, ℕ, take}
use Rattle.std.proofs.Math.Option.{Option, none, some}
use Rattle.wire.specs.Checks.{Check, refusal}
use Rattle.tables.specs.Card.{Card}
use Rattle.tables.specs.Records.{is_signaled, is_inline}
use Rattle.tables.specs.State.{card}
use Rattle.tables.specs.declared.SendRecord.{SendRecord}
use Rattle.tables.specs.declared.Sge.{Sge}
use Rattle.rules.specs.Answer.{answered}
use Rattle.rules.specs.Bytes.{send_bytes}
use Rattle.rules.specs.Send.{hold_checks, is_in_error, send_status, send_memory}
use Rattle.tables.specs.Records.{Request}
use Rattle.rules.specs.declared.Answer.{Answer}
pub use Rattle.delivery.specs.Request.{Bounded}
use Rattle.delivery.specs.Meet.{bare, ends_at}
use Rattle.delivery.specs.declared.meet.Ends.{Ends}

abbrev pub request_by : SendRecord → List Sge → (b : List ℕ) → Request
request_by s sges b =
    record {
      wr = s.wr;
      opcode = s.opcode;
      signaled = is_signaled s;
      inline = is_inline s;
      bytes = b;
      imm = s.imm;
      address = s.address;
      key = s.key;
      sges = take s.count sges;
    }

-- nothing holds a request of the opcode o on the queue pair q, which is live and not in error
pub record Runs (l : List ℕ) (q o : ℕ) : Type 0 where
  pub live : ((card l).qp q).live ≡ true
  pub good : refusal (hold_checks (card l) q (bare o)) ≡ none
  pub runs : is_in_error ((card l).qp q) ≡ false

-- the pairs e are such a queue pair and its peer
pub record Met (l : List ℕ) (e : Ends) (o : ℕ) : Type 0 where
  pub rows : e ≡ ends_at l e.q
  pub good : Runs l e.q o

-- the request r on such a queue pair has the status st and leaves the state l' and the memory m'
pub record Carried (l : List ℕ) (q : ℕ) (r : Request) (m : List ℕ) (st : ℕ) (l' m' : List ℕ) : Type 0 where
  pub status : st ≡ send_status (card l) q r
  pub bytes : l' ≡ send_bytes l q r
  pub memory : m' ≡ send_memory (card l) q r m

-- "Any answer but 0 leaves memory, tables and lent bytes unchanged"
abbrev pub ran_bytes : Option ℕ → List ℕ → (q : ℕ) → Request → List ℕ
ran_bytes none l q r = send_bytes l q r
ran_bytes (some n) l q r = l

abbrev pub ran_memory : Option ℕ → List ℕ → (q : ℕ) → Request → (m : List ℕ) → List ℕ
ran_memory none l q r m = send_memory (card l) q r m
ran_memory (some n) l q r m = m

-- the request r on the queue pair q, after the tests: it answers a and leaves the state l' and the memory m'
pub record Ran (tests : Card → ℕ → Request → List Check) (l : List ℕ) (q : ℕ) (r : Request) (m : List ℕ) (a : Answer) (l' m' : List ℕ) : Type 0 where
  pub answer : a ≡ answered (send_status (card l) q r) (refusal (tests (card l) q r))
  pub bytes : l' ≡ ran_bytes (refusal (tests (card l) q r)) l q r
  pub memory : m' ≡ ran_memory (refusal (tests (card l) q r)) l q r m

-- a request of the head s on the queue pair q in error answers a and leaves the state l', whatever its entries and inline bytes are
abbrev pub Flushed : (l : List ℕ) (q : ℕ) (s : SendRecord) (a : Answer) (l' : List ℕ) → Type 0
Flushed l q s a l' = (sges : List Sge) (b m : List ℕ) → Ran hold_checks l q (request_by s sges b) m a l' m

-- a request of the head s with the one entry e has the status st and leaves the state l' and the memory m', whatever its inline bytes are
abbrev pub CarriedOne : (l : List ℕ) (q : ℕ) (s : SendRecord) (e : Sge) (m : List ℕ) (st : ℕ) (l' m' : List ℕ) → Type 0
CarriedOne l q s e m st l' m' = (sges : List Sge) (b : List ℕ) → take s.count sges ≡ e ∷ [] → Carried l q (request_by s sges b) m st l' m'
