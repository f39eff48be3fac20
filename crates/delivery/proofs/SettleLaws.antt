-- The stores of post send, each ending by a law. Assumes nothing.
use mathlib.Core.Path.{◌≡◌, refl, sym, ap, ◌∙◌}
use mathlib.Core.Bool.{Bool, true, false, cond, not, ◌||◌}
use mathlib.Core.List.{List, [], ◌∷◌}
use Prim.Native.Nat.{ℕ, ◌<◌, ◌≤◌}
use native.Mathlib.Omega.{arith}
use lib.Dec.{eqb}
use lib.ListN.{take}
use borrow.Author.Tests.{ne_eqb, le-leb, lt-leb}
use Rattle.wire.proofs.ScanLaws.{or_left}
use Rattle.tables.specs.Queue.{push_bytes}
use Rattle.tables.specs.Records.{is_signaled, receive_sges}
use Rattle.tables.specs.State.{no_record}
use Rattle.tables.specs.declared.QueuePair.{QueuePair}
use Rattle.tables.specs.declared.ReceiveRecord.{ReceiveRecord}
use Rattle.tables.specs.declared.SendRecord.{SendRecord}
use Rattle.rules.specs.Send.{consumes, fails}
use Rattle.rules.specs.Touch.{takes, sge_total}
use Rattle.rules.specs.Bytes.{push_all, error_bytes}
use Rattle.delivery.specs.Settle.{is_put, sender_entry, receiver_entry, receiver_status, put_first, put_second, settled_bytes}
use Rattle.delivery.specs.declared.meet.Ends.{Ends}

-- ---- a receive's entries

pub receive_list : (w : ReceiveRecord) → take w.count (w.first ∷ w.second ∷ []) ≡ receive_sges w
unfolding receive_sges
receive_list w = refl

-- ---- the receiver's status

module _ (w : ReceiveRecord) (st n : ℕ) where
  module _ (e : st ≡ 0 → ⊥) (m : ℕ) (is : m ≡ sge_total (receive_sges w)) where
    pub status_long : m < n → 1 ≡ receiver_status w st n
    status_long h = rw (ne_eqb st 0 e, lt-leb n (sge_total (receive_sges w)) (omega arith))

    pub status_refused : n ≤ m → 3 ≡ receiver_status w st n
    status_refused h = rw (ne_eqb st 0 e, le-leb n (sge_total (receive_sges w)) (omega arith))

-- ---- completions that are put, or not

module _ (l : List ℕ) (q : ℕ) (own : QueuePair) (s : SendRecord) (st n : ℕ) where
  pub put_silent : is_put own s st ≡ false → l ≡ push_all l (put_first q own s st n)
  unfolding push_all
  put_silent h = rw h

  pub put_told : is_put own s st ≡ true → push_bytes l own.scq (sender_entry q s.wr s.opcode st (cond (eqb st 0) n 0)) ≡ push_all l (put_first q own s st n)
  unfolding push_all
  put_told h = rw h

module _ (l : List ℕ) (e : Ends) (s : SendRecord) (st n : ℕ) where
  module _ (w : ReceiveRecord) where
    pub not_consumed : consumes s.opcode st ≡ false → l ≡ push_all l (put_second e s w st n)
    unfolding push_all
    not_consumed h = rw h

    pub consumed : consumes s.opcode st ≡ true → push_bytes l e.far.rcq (receiver_entry e s w st n) ≡ push_all l (put_second e s w st n)
    unfolding push_all
    consumed h = rw h

-- ---- a request that takes no receive, and whose status is no receiver's

module _ (l : List ℕ) (e : Ends) (s : SendRecord) (st n : ℕ) (untaken : takes s.opcode ≡ false) (own_fault : eqb st 7 ≡ false) where
  single_settled : error_bytes (fails st) (push_all l (put_first e.q e.own s st n)) e.q ≡ settled_bytes l e s no_record st n
  unfolding push_all
  single_settled = rw (untaken, own_fault)

  -- it succeeded
  succeeded : (x : Bool) → (not (eqb st 0) || x) ≡ false → fails st ≡ false
  succeeded x h = rw (or_left (not (eqb st 0)) x h)

  pub single_silent : is_put e.own s st ≡ false → l ≡ settled_bytes l e s no_record st n
  single_silent h =
      put_silent l e.q e.own s st n h
      ∙ ap (λ (b : Bool). error_bytes b (push_all l (put_first e.q e.own s st n)) e.q)
      (sym (succeeded (eqb e.own.signal 0) (or_left (not (eqb st 0) || eqb e.own.signal 0) (is_signaled s) h)))
      ∙ single_settled

  pub single_told : is_put e.own s st ≡ true → (l₁ l₂ : List ℕ)
      → l₁ ≡ push_bytes l e.own.scq (sender_entry e.q s.wr s.opcode st (cond (eqb st 0) n 0))
      → l₂ ≡ error_bytes (fails st) l₁ e.q → l₂ ≡ settled_bytes l e s no_record st n
  single_told h l₁ l₂ i j =
      j ∙ ap (λ (x : List ℕ). error_bytes (fails st) x e.q) (i ∙ put_told l e.q e.own s st n h) ∙ single_settled
