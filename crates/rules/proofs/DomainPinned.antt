-- Computed examples of what a domain's answer may depend on, 02, M-111: two cards that agree on domain 0 and differ in all else, a write that
-- succeeds and one that does not, on both; and a memory that differs in one byte that a region of the domain covers. Assumes nothing.
use mathlib.Core.Path.{◌≡◌, refl}
use mathlib.Core.Bool.{Bool, true, false, cond, ◌&&◌}
use mathlib.Core.List.{List, [], ◌∷◌, map}
use mathlib.Core.Option.{Option, none, some}
use Prim.Native.Nat.{ℕ, ◌+◌, ◌-◌}
use lib.Dec.{eqb, ltb}
use lib.ListN.{length}
use Rattle.wire.specs.Checks.{refusal}
use Rattle.wire.specs.Scan.{all}
use Rattle.tables.specs.Card.{Card, Mr, Qp, free_mr, free_qp, fresh, with_cq, with_mr, with_qp, with_turn}
use Rattle.tables.specs.Records.{Request}
use Rattle.tables.specs.declared.Completion.{Completion}
use Rattle.tables.specs.declared.Sge.{Sge}
use Rattle.rules.specs.Domain.{pair_seen, free_places}
use Rattle.rules.specs.Lists.{stored}
use Rattle.rules.specs.Permit.{permits, permits_all, place, lookup, covers}
use Rattle.rules.specs.Send.{pair_checks, queue_checks, ready_checks, hold_checks, delivery_checks, send_status, run_status, send_puts, send_memory}
use Rattle.rules.specs.Touch.{range, sge_bytes, sge_total, total, own_bytes, far_bytes, byte_in, byte_of, message, delivered}

-- ---- the cards

-- queue pairs 0 and 1 of domain 0, which name each other
abbrev own : (q : ℕ) → Qp
own q =
    record {
      live = true;
      pd = 0;
      signal = 0;
      scq = 0;
      rcq = 0;
      state = 3;
      dest = some (1 - q);
      rights = 7;
      waiting = [];
      queue = [];
    }

-- one of domain 1
abbrev other : Qp
other =
    record { live = true; pd = 1; signal = 1; scq = 1; rcq = 1; state = 6; dest = some 3; rights = 0; waiting = []; queue = [] }

-- region n of a domain: four bytes of the memory
abbrev region : (pd start virt : ℕ) → Mr
region d s v = record { live = true; variant = 1; reg = record { pd = d; access = 7; start = s; length = 4; virt = v }; pages = [] }

abbrev entry : Completion
entry = record { wr = 1; status = 8; opcode = 1; length = 0; imm = 0; owner = 5 }

-- domain 0 has the queue pairs 0 and 1, the regions 0 and 1, and three free places in completion queue 0; `far` is what stands under every other
-- number, `next` the turn place, `unread` what stands in the queue
abbrev card : (far : Qp) → (slot : Mr) → (next : ℕ) → (unread : List Completion) → Card
card far slot t es =
    with_turn
    (with_qp
    (with_mr (with_cq (fresh 12) (λ n. record { live = true; places = 3 + length es; entries = es }))
    (λ n. cond (eqb n 0) (region 0 0 100) (cond (eqb n 1) (region 0 4 200) slot)))
    (λ q. cond (ltb q 2) (own q) far)) t

abbrev here : Card
here = card other (region 1 8 100) 0 []

abbrev there : Card
there = card free_qp (free_mr 9) 5 (entry ∷ entry ∷ [])

-- memories that agree on the bytes that the regions of domain 0 cover, which are 0 to 7
abbrev mem : (second last : ℕ) → List ℕ
mem x y = 1 ∷ x ∷ 3 ∷ 4 ∷ 5 ∷ 6 ∷ 7 ∷ 8 ∷ y ∷ y ∷ y ∷ y ∷ []

-- ---- they agree on domain 0

pub pairs_agree : (j : ℕ) → pair_seen 0 here j ≡ pair_seen 0 there j
pairs_agree j = go (ltb j 2)
  where
    go : (b : Bool) → let p = cond b (own j) other in let r = cond b (own j) free_qp in
        cond (p.live && eqb p.pd 0) (some p) none ≡ cond (r.live && eqb r.pd 0) (some r) none
    go true = refl
    go false = refl

pub places_agree : free_places (here.cq 0) ∷ free_places (there.cq 0) ∷ [] ≡ 3 ∷ 3 ∷ []
places_agree = refl

-- ---- and so do the answers

-- a write of two bytes from 101, which is memory byte 1, to an address
abbrev write : (to key : ℕ) → Request
write a k =
    let piece : Sge = record { address = 101; length = 2; key = 1 } in
    record { wr = 7; opcode = 0; signaled = false; inline = false; bytes = []; imm = 0; address = a; key = k; sges = piece ∷ [] }

-- what a post send of it on queue pair 0 answers, its status, and the statuses of the completions that it puts
abbrev outcome : Card → Request → List (Option ℕ)
outcome c r =
    refusal (delivery_checks c 0 r) ∷ some (send_status c 0 r) ∷ map (λ p. some p.entry.status) (send_puts c 0 r (send_status c 0 r))

-- to region 1; and under the key of slot 2, which is a region of domain 1 on one of the cards and free on the other
pub same_outcomes :
    outcome here (write 200 257) ∷ outcome there (write 200 257) ∷ outcome here (write 100 513) ∷ outcome there (write 100 513) ∷ []
    ≡ (none ∷ some 0 ∷ some 0 ∷ []) ∷ (none ∷ some 0 ∷ some 0 ∷ []) ∷ (none ∷ some 8 ∷ some 8 ∷ []) ∷ (none ∷ some 8 ∷ some 8 ∷ []) ∷ []
unfolding delivery_checks pair_checks queue_checks hold_checks ready_checks send_status run_status send_puts total sge_total sge_bytes own_bytes far_bytes range permits_all permits lookup covers all
same_outcomes = refl

-- the same bytes are written with the same values; a covered byte that differs, the second, is seen in what is written
pub written :
    send_memory here 0 (write 200 257) (mem 2 0) ∷ send_memory there 0 (write 200 257) (mem 2 9) ∷ send_memory there 0 (write 200 257) (mem 50 9) ∷ []
    ≡ (1 ∷ 2 ∷ 3 ∷ 4 ∷ 2 ∷ 3 ∷ 7 ∷ 8 ∷ 0 ∷ 0 ∷ 0 ∷ 0 ∷ [])
    ∷ (1 ∷ 2 ∷ 3 ∷ 4 ∷ 2 ∷ 3 ∷ 7 ∷ 8 ∷ 9 ∷ 9 ∷ 9 ∷ 9 ∷ [])
    ∷ (1 ∷ 50 ∷ 3 ∷ 4 ∷ 50 ∷ 3 ∷ 7 ∷ 8 ∷ 9 ∷ 9 ∷ 9 ∷ 9 ∷ [])
    ∷ []
unfolding send_memory send_status run_status total sge_total sge_bytes own_bytes far_bytes range permits_all permits lookup covers all place byte_in byte_of message delivered stored
written = refl
