-- The bytes that a request leaves which nothing held: they are accepted, and mean the rules' card. Assumes nothing.
use mathlib.Core.Path.{◌≡◌, refl, ap, ◌∙◌}
use mathlib.Core.Bool.{Bool, true, false, ◌&&◌}
use mathlib.Core.List.{List, [], ◌∷◌}
use Prim.Native.Nat.{ℕ, ◌+◌, ◌*◌, ◌^◌, ◌<◌}
use lib.Dec.{eqb}
use Rattle.wire.specs.Checks.{Passed}
use Rattle.wire.specs.Codec.{Fit}
use Rattle.wire.proofs.ScanLaws.{and_left}
use Rattle.wire.specs.Table.{row_at}
use Rattle.validate.proofs.AcceptedLaws.{Accepted}
use Rattle.tables.specs.Card.{Card, Qp, with_cq, with_qp, receive_of}
use Rattle.tables.specs.State.{card}
use Rattle.tables.specs.Layout.{receive_t, waiting_t}
use Rattle.tables.specs.Limits.{most_waiting}
use Rattle.tables.proofs.ObjectLaws.{qp_below}
use Rattle.tables.specs.Records.{receive_codec}
use Rattle.tables.proofs.StoreLaws.{receive_fits}
use Rattle.validate.proofs.WaitingLaws.{first_is}
use Rattle.rules.specs.Lists.{is_empty}
use Rattle.rules.specs.Send.{hold_checks, peer_of, taken_by, is_in_error, send_status, consumes, fails, sender_put, send_puts, put_all, error_if, consume_if, send_qps, send_effect}
use Rattle.rules.specs.Touch.{takes}
use Rattle.tables.specs.Records.{Request}
use Rattle.rules.specs.Bytes.{push_all, error_bytes, consume_bytes, send_bytes}
use Rattle.delivery.proofs.CardLaws.{Stands, Can, CanAll, Open, opened, push_all_lem, row_live, some_wait, error_stands, consume_stands, error_keeps, consume_keeps}
use Rattle.delivery.proofs.LimitLaws.{Going, going, Flushing, flushing, sender_can, can_all, flushed_can}

and_false : (b : Bool) → (b && false) ≡ false
and_false true = refl
and_false false = refl

-- one that is carried out
module _ (l : List ℕ) (ok : Accepted l) (q : ℕ) (r : Request) (wr : r.wr < 2 ^ 64) (imm : r.imm < 2 ^ 32) (g : Going (card l) q r.opcode) where
  abbrev c : Card
  c = card l

  abbrev d : ℕ
  d = peer_of c q

  abbrev s : ℕ
  s = send_status c q r

  taken : takes r.opcode ≡ true → (taken_by c q).wr < 2 ^ 64
  unfolding receive_of receive_t receive_codec Fit
  taken t =
      let w = some_wait l ok d g.peer (g.waits t) in
      let n : ℕ = most_waiting * d + (row_at waiting_t l d).first in
      let e : taken_by c q ≡ receive_of (row_at receive_t l n) = first_is l ok d (qp_below l d g.peer) (row_live l ok d g.peer) w in
      rw e (receive_fits l n).0

  abbrev l1 : List ℕ
  l1 = push_all l (send_puts c q r s)

  abbrev c1 : Card
  c1 = with_cq c (put_all (send_puts c q r s) c.cq)

  pub can_put : CanAll c (send_puts c q r s)
  can_put = can_all c q r g (qp_below l q g.live) (qp_below l d g.peer) wr imm taken

  -- the send queue has a place, whether a completion is put or not
  pub send_open : Open l (c.qp q).scq
  send_open = opened l ok (c.qp q).scq (sender_can c q r g (qp_below l q g.live) (qp_below l d g.peer) wr imm taken).room

  s1 : Stands l1 c1
  s1 = push_all_lem (send_puts c q r s) l ok can_put

  abbrev f2 : ℕ → Qp
  f2 = error_if (fails s) q c.qp

  abbrev l2 : List ℕ
  l2 = error_bytes (fails s) l1 q

  s2 : Stands l2 (with_qp c1 f2)
  s2 =
      let z = error_stands l1 s1.ok q (ap (λ (k : Card). (k.qp q).live) s1.is ∙ g.live) (fails s) in
      record { is = z.is ∙ rw s1.is; ok = z.ok }

  f2_live : (f2 d).live ≡ true
  f2_live = error_keeps (λ (k : Qp). k.live) (λ k. refl) (fails s) q c.qp d ∙ g.peer

  f2_some : consumes r.opcode s ≡ true → is_empty (f2 d).waiting ≡ false
  f2_some t = error_keeps (λ (k : Qp). is_empty k.waiting) (λ k. refl) (fails s) q c.qp d ∙ g.waits (and_left (takes r.opcode) _ t)

  abbrev f3 : ℕ → Qp
  f3 = consume_if (consumes r.opcode s) d f2

  abbrev l3 : List ℕ
  l3 = consume_bytes (consumes r.opcode s) l2 d

  s3 : Stands l3 (with_qp c1 f3)
  s3 =
      let z = consume_stands l2 s2.ok d (ap (λ (k : Card). (k.qp d).live) s2.is ∙ f2_live) (consumes r.opcode s)
      (λ t. ap (λ (k : Card). is_empty (k.qp d).waiting) s2.is ∙ f2_some t) in
      record { is = z.is ∙ rw s2.is; ok = z.ok }

  -- a receive that is to be consumed still waits after the completions and the sender's error
  pub waits_then : consumes r.opcode s ≡ true → 0 < (row_at waiting_t l2 d).count
  waits_then t =
      some_wait l2 s2.ok d (ap (λ (k : Card). (k.qp d).live) s2.is ∙ f2_live) (ap (λ (k : Card). is_empty (k.qp d).waiting) s2.is ∙ f2_some t)

  send_stands : Stands (send_bytes l q r) (send_effect c q r)
  unfolding send_bytes send_effect send_qps
  send_stands =
      let z = error_stands l3 s3.ok d (ap (λ (k : Card). (k.qp d).live) s3.is ∙ consume_keeps (consumes r.opcode s) d f2 d ∙ f2_live) (eqb s 7) in
      record { is = z.is ∙ rw s3.is; ok = z.ok }

-- one that is flushed
module _ (l : List ℕ) (ok : Accepted l) (q : ℕ) (r : Request) (wr : r.wr < 2 ^ 64) (f : Flushing (card l) q) where
  flushed_put_lem : Can (card l) (sender_put (card l) q r 4)
  flushed_put_lem = flushed_can (card l) q r f (qp_below l q f.live) wr

  pub flush_open : Open l ((card l).qp q).scq
  flush_open = opened l ok ((card l).qp q).scq flushed_put_lem.room

  pub flush_status : send_status (card l) q r ≡ 4
  unfolding send_status
  flush_status = rw f.errs

  pub flush_puts : send_puts (card l) q r 4 ≡ sender_put (card l) q r 4 ∷ []
  unfolding send_puts
  flush_puts = rw (and_false (takes r.opcode))

  pub flush_bytes_lem : send_bytes l q r ≡ push_all l (sender_put (card l) q r 4 ∷ [])
  unfolding send_bytes
  flush_bytes_lem = rw (flush_status, and_false (takes r.opcode), flush_puts)

  flush_effect : send_effect (card l) q r ≡ with_cq (card l) (put_all (sender_put (card l) q r 4 ∷ []) (card l).cq)
  unfolding send_effect send_qps
  flush_effect = rw (flush_status, and_false (takes r.opcode), flush_puts)

  flush_stands : Stands (send_bytes l q r) (send_effect (card l) q r)
  unfolding CanAll
  flush_stands = rw (flush_bytes_lem, flush_effect) (push_all_lem (sender_put (card l) q r 4 ∷ []) l ok (flushed_put_lem, tt))

-- either
pub stands : (l : List ℕ) → Accepted l → (q : ℕ) (r : Request) → r.wr < 2 ^ 64 → r.imm < 2 ^ 32 → ((card l).qp q).live ≡ true →
    Passed (hold_checks (card l) q r) → Stands (send_bytes l q r) (send_effect (card l) q r)
stands l ok q r wr imm lives p = go (is_in_error ((card l).qp q)) refl
  where
    go : (b : Bool) → is_in_error ((card l).qp q) ≡ b → Stands (send_bytes l q r) (send_effect (card l) q r)
    go true e = flush_stands l ok q r wr (flushing (card l) q r e lives p)
    go false e = send_stands l ok q r wr imm (going (card l) q r e lives p)
