-- Computed examples of send queues and turns, 02, M-108: who is served, what is passed over, what a turn leaves, what drops a queue, and what
-- enqueue and a direct send answer. Assumes nothing.
use mathlib.Core.Path.{◌≡◌, refl}
use mathlib.Core.Bool.{true, false, cond}
use mathlib.Core.List.{List, [], ◌∷◌, map}
use mathlib.Core.Option.{none, some}
use Prim.Native.Nat.{ℕ, ◌+◌, ◌-◌, ◌%◌}
use lib.Dec.{eqb, ltb}
use lib.ListN.{length}
use Rattle.wire.specs.Checks.{refusal}
use Rattle.wire.specs.Scan.{lowest, lowest_from}
use Rattle.tables.specs.Card.{Card, Qp, fresh, with_cq, with_qp, with_turn}
use Rattle.tables.specs.Commands.{Command}
use Rattle.tables.specs.Records.{Request}
use Rattle.tables.specs.declared.Sge.{Sge}
use Rattle.rules.specs.Control.{command_effect}
use Rattle.rules.specs.Send.{pair_checks, queue_checks, ready_checks, place_checks, hold_checks, delivery_checks, send_status, run_status, send_puts, send_qps, send_effect, put_all}
use Rattle.rules.specs.Touch.{total, sge_total, sge_bytes, own_bytes, far_bytes, range}
use Rattle.rules.specs.Permit.{permits_all}
use Rattle.rules.specs.Turn.{seat, passed_over, served, runnable, enqueue_checks, enqueued, turn_checks, head_gone, turn_effect}
use Rattle.wire.specs.Scan.{all}

-- ---- a card

-- a write of so many bytes, unsignaled
abbrev write : (wr bytes : ℕ) → Request
write n b =
    let piece : Sge = record { address = 0; length = b; key = 0 } in
    record { wr = n; opcode = 0; signaled = false; inline = false; bytes = []; imm = 0; address = 0; key = 0; sges = piece ∷ [] }

-- queue pairs 0 and 1, 2 and 3, 4 and 5, 6 and 7 name each other; queue pair q is in the state s q, and the requests rs q wait there
abbrev pair : (s : ℕ → ℕ) → (rs : ℕ → List Request) → (q : ℕ) → Qp
pair s rs q =
    record {
      live = ltb q 8;
      pd = 0;
      signal = 1;
      scq = 0;
      rcq = 1;
      state = s q;
      rights = 0;
      dest = some (cond (eqb (q % 2) 0) (q + 1) (q - 1));
      waiting = [];
      queue = rs q;
    }

-- next is the queue pair to visit first; the send completion queue has so many places
abbrev card : (next places : ℕ) → (s : ℕ → ℕ) → (rs : ℕ → List Request) → Card
card t n s rs = with_turn (with_qp (with_cq (fresh 8) (λ i. record { live = true; places = n; entries = [] })) (pair s rs)) t

abbrev sending : ℕ → ℕ
sending q = 3

-- state a of queue pair q, 3 of the others
abbrev but : (q a : ℕ) → ℕ → ℕ
but q a i = cond (eqb i q) a 3

-- an empty write waits on each of 1, 4 and 6
abbrev three : ℕ → List Request
three q = cond (eqb q 1) (write 11 0 ∷ []) (cond (eqb q 4) (write 14 0 ∷ []) (cond (eqb q 6) (write 16 0 ∷ []) []))

-- so many wait on queue pair 2
abbrev some_wait : List Request → ℕ → List Request
some_wait rs q = cond (eqb q 2) rs []

abbrev two : List Request
two = write 1 0 ∷ write 2 0 ∷ []

-- the first is too long
abbrev long : List Request
long = write 1 4097 ∷ write 2 0 ∷ []

abbrev eight : List Request
eight = write 1 0 ∷ write 2 0 ∷ write 3 0 ∷ write 4 0 ∷ write 5 0 ∷ write 6 0 ∷ write 7 0 ∷ write 8 0 ∷ []

abbrev seven : List Request
seven = write 1 0 ∷ write 2 0 ∷ write 3 0 ∷ write 4 0 ∷ write 5 0 ∷ write 6 0 ∷ write 7 0 ∷ []

-- ---- which queue pair is served

-- "from the one after the last served .., wrapping"
pub seats : map (seat 5) (0 ∷ 1 ∷ 2 ∷ 3 ∷ 4 ∷ 5 ∷ 6 ∷ 7 ∷ []) ≡ 5 ∷ 6 ∷ 7 ∷ 0 ∷ 1 ∷ 2 ∷ 3 ∷ 4 ∷ []
seats = refl

pub serves : map (λ t. served (card t 1 sending three)) (0 ∷ 1 ∷ 2 ∷ 3 ∷ 4 ∷ 5 ∷ 6 ∷ 7 ∷ []) ≡ 1 ∷ 1 ∷ 4 ∷ 4 ∷ 4 ∷ 6 ∷ 6 ∷ 1 ∷ []
unfolding served passed_over runnable hold_checks ready_checks lowest lowest_from
serves = refl

-- 4's peer, 5, is not ready: its head is held and passed over
pub passes_held : map (λ t. served (card t 1 (but 5 1) three)) (0 ∷ 2 ∷ 4 ∷ 7 ∷ []) ≡ 1 ∷ 6 ∷ 6 ∷ 1 ∷ []
unfolding served passed_over runnable hold_checks ready_checks lowest lowest_from
passes_held = refl

-- none waits; one is held for its peer; all are held for a place; one may run
pub none_runs :
    refusal (turn_checks (card 0 1 sending (some_wait []))) ∷ refusal (turn_checks (card 0 1 (but 3 1) (some_wait two))) ∷
    refusal (turn_checks (card 0 0 sending three)) ∷ refusal (turn_checks (card 0 1 sending (some_wait two))) ∷ []
    ≡ some 9 ∷ some 9 ∷ some 9 ∷ none ∷ []
unfolding turn_checks passed_over runnable hold_checks ready_checks lowest lowest_from
none_runs = refl

-- in error a head is flushed whatever its peer is, and held without a place
pub error_runs :
    refusal (turn_checks (card 0 1 (λ q. cond (eqb q 2) 6 1) (some_wait two))) ∷
    refusal (turn_checks (card 0 0 (but 2 6) (some_wait two))) ∷ []
    ≡ none ∷ some 9 ∷ []
unfolding turn_checks passed_over runnable hold_checks ready_checks place_checks lowest lowest_from
error_runs = refl

-- ---- what a turn leaves: the next queue pair to visit, 2's state and how many wait there, and the statuses put

abbrev left : Card → List ℕ
left c = c.turn ∷ (c.qp 2).state ∷ length (c.qp 2).queue ∷ map (λ e. e.status) (c.cq 0).entries

-- one that succeeds unsignaled; one that fails; one that is flushed
pub leaves :
    left (turn_effect (card 7 1 sending (some_wait two))) ∷ left (turn_effect (card 7 1 sending (some_wait long))) ∷
    left (turn_effect (card 7 1 (but 2 6) (some_wait two))) ∷ []
    ≡ (3 ∷ 3 ∷ 1 ∷ []) ∷ (3 ∷ 6 ∷ 1 ∷ 1 ∷ []) ∷ (3 ∷ 6 ∷ 1 ∷ 4 ∷ []) ∷ []
unfolding turn_effect head_gone served passed_over runnable hold_checks ready_checks place_checks lowest lowest_from send_effect send_status run_status send_puts send_qps put_all total sge_total sge_bytes own_bytes far_bytes range permits_all all
leaves = refl

-- ---- what drops a queue

abbrev move : (t : ℕ) → Command
move t = Command.modify_qp (record { qpn = 2; mask = 1; state = t; pad0 = 0; pad1 = 0; pad2 = 0; dest = 0; flags = 0 })

abbrev waiting : Card → ℕ
waiting c = length (c.qp 2).queue

-- a move to 0 and destruction; a move to 6 does not
pub drops : map (λ k. waiting (command_effect (card 0 1 sending (some_wait two)) k)) (move 0 ∷ move 6 ∷ Command.destroy_qp 2 ∷ []) ≡ 0 ∷ 2 ∷ 0 ∷ []
unfolding command_effect
drops = refl

-- ---- enqueue, and a direct send

-- in the states 0, 1, 2, 3, 6, though no completion place is free and the peer is not ready
pub enqueues : map (λ t. refusal (enqueue_checks (card 0 0 (λ q. cond (eqb q 2) t 0) (some_wait [])) 2)) (0 ∷ 1 ∷ 2 ∷ 3 ∷ 6 ∷ [])
    ≡ some 3 ∷ some 3 ∷ some 3 ∷ none ∷ none ∷ []
unfolding enqueue_checks pair_checks
enqueues = refl

-- a queue pair that isn't live; seven wait; eight wait
pub enqueues_eight :
    refusal (enqueue_checks (card 0 1 sending (some_wait [])) 8) ∷ refusal (enqueue_checks (card 0 1 sending (some_wait seven)) 2) ∷
    refusal (enqueue_checks (card 0 1 sending (some_wait eight)) 2) ∷ []
    ≡ some 2 ∷ none ∷ some 8 ∷ []
unfolding enqueue_checks pair_checks
enqueues_eight = refl

-- the newest stands last
pub joins_last : map (λ r. r.wr) ((enqueued (card 0 1 sending (some_wait two)) 2 (write 3 0)).qp 2).queue ≡ 1 ∷ 2 ∷ 3 ∷ []
unfolding enqueued
joins_last = refl

-- a direct send behind a queue, in the states 0, 1, 2, 3, 6, with no completion place and a peer that is not ready; and with no queue
pub overtakes_none :
    map (λ t. refusal (delivery_checks (card 0 0 (λ q. cond (eqb q 2) t 0) (some_wait two)) 2 (write 9 0))) (0 ∷ 1 ∷ 2 ∷ 3 ∷ 6 ∷ [])
    ≡ some 3 ∷ some 3 ∷ some 3 ∷ some 10 ∷ some 10 ∷ []
unfolding delivery_checks pair_checks queue_checks hold_checks ready_checks place_checks
overtakes_none = refl

pub sends_alone : refusal (delivery_checks (card 0 1 sending (some_wait [])) 2 (write 9 0)) ≡ none
unfolding delivery_checks pair_checks queue_checks hold_checks ready_checks place_checks
sends_alone = refl
