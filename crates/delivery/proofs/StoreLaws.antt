-- A post send that passed all tests: what the stores ask, and that they leave the bytes that the rules' card needs. Assumes nothing.
use mathlib.Core.Path.{◌≡◌, refl, sym, ap, ap₂, subst, ◌∙◌}
use mathlib.Core.Bool.{Bool, true, false, cond, not, ◌||◌}
use mathlib.Core.List.{List, [], ◌∷◌, ◌++◌}
use Prim.Native.Nat.{ℕ, ◌+◌, ◌≤◌, ◌<◌}
use native.Mathlib.Omega.{arith}
use lib.Dec.{eqb}
use lib.ListN.{length}
use Rattle.wire.proofs.ScanLaws.{and_left, and_right}
use Rattle.wire.specs.Table.{row_at}
use Rattle.validate.specs.Accept.{accepts}
use Rattle.validate.proofs.AcceptedLaws.{Accepted}
use Rattle.tables.specs.Card.{Card, Qp, with_cq, receive_of}
use Rattle.tables.specs.State.{card, queue_at, pair_at}
use Rattle.tables.specs.Layout.{cq_t, qp_t, waiting_t}
use Rattle.tables.specs.Limits.{most_places, most_message}
use Rattle.validate.proofs.QueueLaws.{queue_sound}
use Rattle.tables.specs.declared.ReceiveRecord.{ReceiveRecord}
use Rattle.tables.specs.declared.SendRecord.{SendRecord}
use Rattle.tables.specs.declared.Sge.{Sge}
use Rattle.rules.specs.Send.{Put, send_status, consumes, fails, send_puts, sender_put, receiver_put, put_all, pushed}
use Rattle.rules.specs.Touch.{takes, total}
use Rattle.tables.specs.Records.{Request}
use Rattle.rules.specs.Bytes.{push_all, error_bytes, send_bytes}
use Rattle.delivery.specs.Meet.{ends_at}
use Rattle.delivery.specs.Deliver.{taken_row}
use Rattle.delivery.specs.Run.{request_by, Runs}
use Rattle.delivery.specs.Settle.{sender_entry, receiver_entry, put_first, put_second, put_bytes, failed_bytes, settled_bytes, Settling}
use Rattle.delivery.proofs.CardLaws.{Stands, CanAll, Open, opened, push_all_lem}
use Rattle.delivery.proofs.StandLaws.{can_put, send_open, waits_then}
use Rattle.delivery.proofs.RequestLaws.{Told, ok, goes, own_below, own_is, peer_is, far_below, far_is, taken_is, taken_count}
use Rattle.delivery.specs.declared.meet.Ends.{Ends}

-- ---- completions in two parts

push_join : (ps qs : List Put) (l : List ℕ) → push_all l (ps ++ qs) ≡ push_all (push_all l ps) qs
unfolding push_all
push_join [] qs l = refl
push_join (p ∷ ps) qs l = push_join ps qs _

can_first : (ps qs : List Put) (c : Card) → CanAll c (ps ++ qs) → CanAll c ps
unfolding CanAll
can_first [] qs c k = tt
can_first (p ∷ ps) qs c k = (k.0, can_first ps qs (with_cq c (pushed p c.cq)) k.1)

can_second : (ps qs : List Put) (c : Card) → CanAll c (ps ++ qs) → CanAll (with_cq c (put_all ps c.cq)) qs
unfolding CanAll put_all
can_second [] qs c k = k
can_second (p ∷ ps) qs c k = can_second ps qs (with_cq c (pushed p c.cq)) k.1

-- the place that an open queue has
pub open_place : (l : List ℕ) → Accepted l → (n : ℕ) → Open l n → (row_at cq_t l n).count < most_places
unfolding queue_at
open_place l k n o =
    let h = (queue_sound l k n o.below o.live).most in
    let f = o.free in
    omega arith

-- ---- two queue pairs that passed the tests; st is the status and k the number of bytes that the stores are told

module _ (l : List ℕ) (a : accepts l ≡ true) (q : ℕ) (s : SendRecord) (sges : List Sge) (b : List ℕ) (t : Told s b)
    (good : Runs l q s.opcode) where
  abbrev c : Card
  c = card l

  abbrev o : ℕ
  o = s.opcode

  abbrev r : Request
  r = request_by s sges b

  abbrev e : Ends
  e = ends_at l q

  abbrev d : ℕ
  d = (row_at qp_t l q).dest

  abbrev w : ReceiveRecord
  w = taken_row l d o

  module _ (st : ℕ) (is : st ≡ send_status c q r) (k : ℕ) (told : (eqb st 0 || eqb st 7) ≡ true → total r ≡ k) where
    length_is : cond (eqb st 0) (total r) 0 ≡ cond (eqb st 0) k 0
    length_is = go (eqb st 0) refl
      where
        go : (b : Bool) → eqb st 0 ≡ b → cond b (total r) 0 ≡ cond b k 0
        go true i = told (rw i)
        go false i = refl

    first_is : sender_put c q r st ≡ record { cqn = e.own.scq; entry = sender_entry q s.wr o st (cond (eqb st 0) k 0) }
    unfolding pair_at
    first_is = rw (own_is l a q s sges b t good, length_is)

    firsts : cond (not (eqb st 0) || eqb (c.qp q).signal 0 || r.signaled) (sender_put c q r st ∷ []) [] ≡ put_first q e.own s st k
    unfolding pair_at
    firsts = rw (first_is, own_is l a q s sges b t good)

    second_is : consumes o st ≡ true → receiver_put c q r st ≡ record { cqn = e.far.rcq; entry = receiver_entry e s w st k }
    unfolding receive_of pair_at
    second_is i =
        let y : takes o ≡ true = and_left (takes o) (eqb st 0 || eqb st 7) i in
        let z : total r ≡ k = told (and_right (takes o) (eqb st 0 || eqb st 7) i) in
        rw (taken_is l a q s sges b t good y, peer_is l a q s sges b t good, far_is l a q s sges b t good, z)

    seconds : cond (consumes o st) (receiver_put c q r st ∷ []) [] ≡ put_second e s w st k
    seconds = go (consumes o st) refl
      where
        go : (b : Bool) → consumes o st ≡ b → cond b (receiver_put c q r st ∷ []) [] ≡ cond b (record { cqn = e.far.rcq; entry = receiver_entry e s w st k } ∷ []) []
        go true i = rw (second_is i)
        go false i = refl

    puts_are : send_puts c q r st ≡ put_first q e.own s st k ++ put_second e s w st k
    unfolding send_puts
    puts_are = ap₂ (λ (y z : List Put). y ++ z) firsts seconds

    put_bytes_lem : push_all l (send_puts c q r (send_status c q r)) ≡ put_bytes l e s w st k
    put_bytes_lem = rw (← is) (ap (push_all l) puts_are ∙ push_join (put_first q e.own s st k) (put_second e s w st k) l)

    failed_bytes_lem : error_bytes (fails (send_status c q r)) (push_all l (send_puts c q r (send_status c q r))) q ≡ failed_bytes l e s w st k
    failed_bytes_lem = rw put_bytes_lem (rw (← is))

    pub settled_is : settled_bytes l e s w st k ≡ send_bytes l q r
    unfolding send_bytes
    settled_is = rw (peer_is l a q s sges b t good, failed_bytes_lem, ← is)

    abbrev first : List Put
    first = put_first q e.own s st k

    abbrev second : List Put
    second = put_second e s w st k

    can : CanAll c (first ++ second)
    can =
        subst (λ (y : List Put). CanAll c y) puts_are
        (subst (λ (y : ℕ). CanAll c (send_puts c q r y)) (sym is) (can_put l (ok l a q s sges b t good) q r t.wr t.imm (goes l a q s sges b t good)))

    first_stands : Stands (push_all l first) (with_cq c (put_all first c.cq))
    first_stands = push_all_lem first l (ok l a q s sges b t good) (can_first first second c can)

    second_open : consumes o st ≡ true → Open (push_all l first) e.far.rcq
    unfolding CanAll
    second_open i =
        let y : CanAll (with_cq c (put_all first c.cq)) (record { cqn = e.far.rcq; entry = receiver_entry e s w st k } ∷ []) = rw i at (can_second first second c can) in
        opened (push_all l first) first_stands.ok e.far.rcq
        (subst (λ (z : Card). length (z.cq e.far.rcq).entries + 1 ≤ (z.cq e.far.rcq).places) (sym first_stands.is) y.0.room)

    first_open : Open l e.own.scq
    unfolding pair_at
    first_open = subst (λ (y : Qp). Open l y.scq) (own_is l a q s sges b t good) (send_open l (ok l a q s sges b t good) q r t.wr t.imm (goes l a q s sges b t good))

    then_waits : consumes o st ≡ true → 0 < (row_at waiting_t (failed_bytes l e s w st k) d).count
    then_waits i =
        let y = waits_then l (ok l a q s sges b t good) q r t.wr t.imm (goes l a q s sges b t good) (rw (← is) i) in
        subst (λ (z : List ℕ). 0 < (row_at waiting_t z d).count) failed_bytes_lem (rw (peer_is l a q s sges b t good) at y)

    pub settling : (st ≡ 0 → k ≤ most_message) → Settling l e s w st k
    settling short =
        record {
          size = (ok l a q s sges b t good).sized;
          own = own_below l a q s sges b t good;
          far = far_below l a q s sges b t good;
          count = taken_count l a q s sges b t good;
          short = short;
          first = first_open.below;
          free = open_place l (ok l a q s sges b t good) e.own.scq first_open;
          second = λ i. ((second_open i).below, open_place (push_all l first) first_stands.ok e.far.rcq (second_open i));
          waits = then_waits;
        }
