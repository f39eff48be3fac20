-- What a request leaves of the queue pairs: each stays live, and keeps its queue. Assumes nothing.
use mathlib.Core.Path.{◌≡◌, refl, ◌∙◌}
use mathlib.Core.Bool.{Bool, true, false}
use mathlib.Core.List.{List}
use Prim.Native.Nat.{ℕ}
use lib.Dec.{eqb}
use Rattle.wire.proofs.SlotLaws.{split, same}
use Rattle.tables.specs.Card.{Card, Qp, Receive, with_waiting, tail}
use Rattle.tables.specs.Records.{Request}
use Rattle.rules.specs.Send.{in_error, peer_of, consumes, fails, error_if, consume_if, send_qps}

-- what neither an error nor a receive consumed changes
module _ {A : Type 0} (of : Qp → A) (error : (s : Qp) → of (in_error s) ≡ of s) (consume : (s : Qp) (ws : List Receive) → of (with_waiting s ws) ≡ of s) where
  error_keeps : (b : Bool) (q : ℕ) (f : ℕ → Qp) (j : ℕ) → of (error_if b q f j) ≡ of (f j)
  error_keeps false q f j = refl
  error_keeps true q f j = split q (λ j. of (error_if true q f j) ≡ of (f j)) (rw same (error (f q))) (λ j e. rw e) j

  consume_keeps : (b : Bool) (q : ℕ) (f : ℕ → Qp) (j : ℕ) → of (consume_if b q f j) ≡ of (f j)
  consume_keeps false q f j = refl
  consume_keeps true q f j = split q (λ j. of (consume_if true q f j) ≡ of (f j)) (rw same (consume (f q) (tail (f q).waiting))) (λ j e. rw e) j

  sent_keeps : (c : Card) (q : ℕ) (r : Request) (s j : ℕ) → of (send_qps c q r s j) ≡ of (c.qp j)
  unfolding send_qps
  sent_keeps c q r s j =
      let d : ℕ = peer_of c q in
      let f : ℕ → Qp = error_if (fails s) q c.qp in
      error_keeps (eqb s 7) d (consume_if (consumes r.opcode s) d f) j ∙ consume_keeps (consumes r.opcode s) d f j
      ∙ error_keeps (fails s) q c.qp j

pub sent_live : (c : Card) (q : ℕ) (r : Request) (s j : ℕ) → (send_qps c q r s j).live ≡ (c.qp j).live
sent_live = sent_keeps (λ s. s.live) (λ s. refl) (λ s ws. refl)

pub sent_queue : (c : Card) (q : ℕ) (r : Request) (s j : ℕ) → (send_qps c q r s j).queue ≡ (c.qp j).queue
sent_queue = sent_keeps (λ s. s.queue) (λ s. refl) (λ s ws. refl)
