-- Computed examples of work posted in error, 02, M-103: what each state answers, what is held, what waits, and what is put. Assumes nothing.
use mathlib.Core.Path.{◌≡◌, refl}
use mathlib.Core.Bool.{true, false, cond}
use mathlib.Core.List.{List, [], ◌∷◌, map}
use mathlib.Core.Option.{none, some}
use Prim.Native.Nat.{ℕ}
use lib.Dec.{eqb}
use Rattle.wire.specs.Checks.{refusal}
use Rattle.tables.specs.Card.{Card, Qp, Receive, fresh, with_cq, with_qp}
use Rattle.tables.specs.declared.Completion.{Completion}
use Rattle.tables.specs.declared.Sge.{Sge}
use Rattle.tables.specs.Records.{Request}
use Rattle.rules.specs.Send.{Put, pair_checks, queue_checks, ready_checks, place_checks, hold_checks, delivery_checks, send_status, send_puts, send_qps, put_all}
use Rattle.rules.specs.Queues.{join_checks, join_status, join_puts, joined, received}

-- every queue pair is in the state t, names queue pair 1, which names 2, sends unsignaled and has the receives ws; completion queue 0 is its send
-- queue and has a free places, completion queue 1 its receive queue and has b
abbrev pair : (t : ℕ) → List Receive → (q : ℕ) → Qp
pair t ws q =
    record { live = true; pd = 0; signal = 1; scq = 0; rcq = 1; state = t; rights = 0; dest = some (cond (eqb q 1) 2 1); waiting = ws; queue = [] }

abbrev card : (t a b : ℕ) → List Receive → Card
card t a b ws =
    with_qp (with_cq (fresh 8) (λ n. record { live = true; places = cond (eqb n 0) a b; entries = [] })) (pair t ws)

-- of three bytes
abbrev request : (opcode : ℕ) → Request
request o =
    let piece : Sge = record { address = 0; length = 3; key = 0 } in
    record { wr = 5; opcode = o; signaled = false; inline = false; bytes = []; imm = 6; address = 0; key = 0; sges = piece ∷ [] }

abbrev one : (wr : ℕ) → Receive
one n = record { wr = n; sges = [] }

-- sends in the states 0 to 6: in 3 one is held with 5, as the peer does not name it back; in 6 the peer is not looked at
pub sends : map (λ t. refusal (delivery_checks (card t 1 1 []) 0 (request 0))) (0 ∷ 1 ∷ 2 ∷ 3 ∷ 6 ∷ []) ≡ some 3 ∷ some 3 ∷ some 3 ∷ some 5 ∷ none ∷ []
unfolding pair_checks queue_checks ready_checks place_checks hold_checks delivery_checks
sends = refl

-- in error: its send queue has a place or none, whatever the receive queue has
pub held : refusal (delivery_checks (card 6 0 1 []) 0 (request 2)) ∷ refusal (delivery_checks (card 6 1 0 []) 0 (request 2)) ∷ [] ≡ some 6 ∷ none ∷ []
unfolding pair_checks queue_checks ready_checks place_checks hold_checks delivery_checks
held = refl

-- "status 4, byte length 0, and the sender's opcode", though it is unsignaled, for the opcodes 0 to 4
abbrev flushed : (opcode : ℕ) → Completion
flushed o = record { wr = 5; status = 4; opcode = o; length = 0; imm = 0; owner = 0 }

abbrev put : (cqn : ℕ) → Completion → List Put
put n e = record { cqn = n; entry = e } ∷ []

pub completions : map (λ o. let c = card 6 1 1 (one 9 ∷ []) in send_puts c 0 (request o) (send_status c 0 (request o))) (0 ∷ 1 ∷ 2 ∷ 3 ∷ 4 ∷ [])
    ≡ put 0 (flushed 1) ∷ put 0 (flushed 1) ∷ put 0 (flushed 0) ∷ put 0 (flushed 0) ∷ put 0 (flushed 2) ∷ []
unfolding send_puts send_status
completions = refl

-- no queue pair changes
pub unmoved : let c = card 6 1 1 (one 9 ∷ []) in send_qps c 0 (request 2) (send_status c 0 (request 2)) ≡ c.qp
unfolding send_qps send_status
unmoved = refl

-- receives in the states 0 to 6
pub receives : map (λ t. refusal (join_checks (card t 1 1 []) 0)) (0 ∷ 1 ∷ 2 ∷ 3 ∷ 6 ∷ []) ≡ some 3 ∷ none ∷ none ∷ none ∷ none ∷ []
unfolding join_checks
receives = refl

-- in error, with 0 to 4 that wait: with no place the first is held, the next join, and the fifth is refused; with a place the first is flushed
abbrev waiting : List (List Receive)
waiting =
    [] ∷
    (one 1 ∷ []) ∷
    (one 1 ∷ one 2 ∷ []) ∷
    (one 1 ∷ one 2 ∷ one 3 ∷ []) ∷
    (one 1 ∷ one 2 ∷ one 3 ∷ one 4 ∷ []) ∷
    []

pub without_place : map (λ ws. refusal (join_checks (card 6 1 0 ws) 0)) waiting ≡ some 6 ∷ none ∷ none ∷ none ∷ some 8 ∷ []
unfolding join_checks
without_place = refl

pub with_place : map (λ ws. refusal (join_checks (card 6 0 1 ws) 0)) waiting ≡ none ∷ none ∷ none ∷ none ∷ some 8 ∷ []
unfolding join_checks
with_place = refl

-- one that is flushed does not wait, one that joins waits behind the others
pub statuses : map (λ ws. join_status (card 6 0 1 ws) 0) waiting ≡ 4 ∷ 0 ∷ 0 ∷ 0 ∷ 0 ∷ []
unfolding join_status
statuses = refl

pub waits : map (λ ws. ((received (card 6 0 1 ws) 0 (one 7)).qp 0).waiting) ([] ∷ (one 1 ∷ []) ∷ []) ≡ [] ∷ (one 1 ∷ one 7 ∷ []) ∷ []
unfolding received joined join_puts put_all
waits = refl

-- "a completion with status 4, byte length 0, and .. 3"
pub flushed_receive : map (λ ws. ((received (card 6 0 1 ws) 0 (one 7)).cq 1).entries) ([] ∷ (one 1 ∷ []) ∷ [])
    ≡ (record { wr = 7; status = 4; opcode = 3; length = 0; imm = 0; owner = 0 } ∷ []) ∷ [] ∷ []
unfolding received joined join_puts put_all
flushed_receive = refl
