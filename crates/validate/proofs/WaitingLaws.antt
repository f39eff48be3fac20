-- What one receive more and one fewer waiting on a queue pair mean: the card, and that the state stays accepted. Assumes nothing.
use Rattle.std.proofs.Common.{◌≡◌, ℕ, ◌+◌, ◌*◌, ◌<◌, ◌≤◌, true, List, [], ◌∷◌, ◌++◌, map, length, get_or, set, ap, ◌∙◌, mod-lt, arith, eq-eqb}
use mathlib.Core.List.{map-append}
use Rattle.wire.specs.Codec.{Fit, Fits}
use Rattle.wire.specs.Ring.{ring_place}
use Rattle.wire.specs.Scan.{all}
use Rattle.wire.specs.Slots.{upd}
use Rattle.wire.specs.Table.{row_at, put_row}
use Rattle.wire.proofs.RingLaws.{ring_push, ring_pop, ring_rest}
use Rattle.wire.proofs.RowLaws.{length_rows}
use Rattle.wire.proofs.ScanLaws.{all_append}
use Rattle.wire.proofs.TableLaws.{put_row_length}
use Rattle.tables.specs.Card.{no_receive, receive_of, with_qp, with_waiting, tail, cq_live}
use Rattle.tables.specs.Layout.{state_size, qp_flag_t, qp_t, waiting_t, receive_t, send_head_t, waiting_codec}
use Rattle.tables.specs.Limits.{qp_count, most_waiting}
use Rattle.tables.specs.Queue.{grown, shrunk, post_bytes, take_bytes}
use Rattle.tables.specs.Records.{receive_codec}
use Rattle.tables.specs.State.{PairRows, card, pair_at, receives_at, queued_at, posted, qp_of, no_record}
use Rattle.tables.specs.declared.QueuePair.{QueuePair}
use Rattle.tables.specs.declared.ReceiveRecord.{ReceiveRecord}
use Rattle.tables.specs.declared.WaitingHead.{WaitingHead}
use Rattle.tables.proofs.KindLaws.{PairsOnly, only_then, pair_card}
use Rattle.tables.proofs.ObjectLaws.{qp_row, receive_at}
use Rattle.tables.proofs.StoreLaws as store
use Rattle.validate.specs.Accept.{receive_ok, qp_ok, qp_sound}
use Rattle.validate.proofs.AcceptedLaws.{Accepted, Paired, paired, pairing}
use Rattle.validate.proofs.KeptLaws.{pair_accepted}

module _ (l : List ℕ) (ok : Accepted l) (q : ℕ) (b : q < qp_count) (live : row_at qp_flag_t l q ≡ 1) where
  abbrev h : WaitingHead
  h = row_at waiting_t l q

  abbrev p : QueuePair
  p = row_at qp_t l q

  -- what the state test has shown of the queue pair
  pub pair_sound : Paired (card l).pd (cq_live (card l)) q (pair_at l q)
  unfolding qp_ok pair_at
  pair_sound = paired (card l).pd (cq_live (card l)) q (pair_at l q) (ok.qps q b) (let e = live in omega arith)

  -- the queue pair with the head g of its receives ws, where all else stays
  abbrev rows : WaitingHead → List ReceiveRecord → PairRows
  rows g ws = record { flag = row_at qp_flag_t l q; row = p; head = g; ring = ws; sends = row_at send_head_t l q; queued = queued_at l q }

  other_head : (g : WaitingHead) (ws : List ReceiveRecord) → qp_of (rows g ws) ≡ with_waiting ((card l).qp q) (map receive_of (posted (rows g ws)))
  unfolding qp_of pair_at
  other_head g ws = rw (qp_row l q b live, eq-eqb (row_at qp_flag_t l q) 1 live)

  still_sound : (g : WaitingHead) (ws : List ReceiveRecord) → g.first < most_waiting → g.count ≤ most_waiting → all receive_ok (posted (rows g ws)) ≡ true
      → qp_sound (card l).pd (cq_live (card l)) q (rows g ws) ≡ true
  unfolding pair_at
  still_sound g ws f c a =
      let s = pair_sound in
      pairing (card l).pd (cq_live (card l)) q (rows g ws)
      (record { live = s.live; domain = s.domain; sends = s.sends; receives = s.receives; limits = s.limits; first = f; count = c; waiting = a; queue = s.queue })

  pub waiting_is : ((card l).qp q).waiting ≡ map receive_of (posted (pair_at l q))
  waiting_is = rw (qp_row l q b live)

  module _ (w : ReceiveRecord) (f : Fits receive_codec w) (room : h.count < most_waiting) where
    abbrev k : ℕ
    k = ring_place most_waiting h.first h.count

    k_below : k < most_waiting
    k_below = mod-lt (h.first + h.count) (omega arith)

    grown_fits : Fits waiting_codec (grown h)
    unfolding waiting_codec Fit
    grown_fits = ((store.waiting_fits l q).0, (omega arith, tt))

    abbrev mid : List ℕ
    mid = put_row receive_t l (most_waiting * q + k) w

    abbrev ws : List ReceiveRecord
    ws = set (receives_at l q) k w

    pub post_only : PairsOnly l (post_bytes l q w) q
    unfolding post_bytes
    post_only = only_then (store.receive_only l q b k k_below w) (store.qp_waiting_only mid q b (grown h))

    after_is : pair_at (post_bytes l q w) q ≡ rows (grown h) ws
    unfolding post_bytes pair_at waiting_t
    after_is =
        let z : length mid ≡ state_size = put_row_length receive_t l (most_waiting * q + k) w ∙ ok.sized in
        let m = store.receive_at l q b k k_below w ok.sized f in
        store.qp_waiting_at mid q b (grown h) z grown_fits
        ∙ ap (λ (r : PairRows). record { flag = r.flag; row = r.row; head = grown h; ring = r.ring; sends = r.sends; queued = r.queued }) m

    appended : posted (rows (grown h) ws) ≡ posted (pair_at l q) ++ (w ∷ [])
    unfolding receives_at pair_at
    appended =
        let s = pair_sound in
        ring_push no_record most_waiting (receives_at l q) h.first h.count w (length_rows most_waiting _) s.first room

    mapped : map receive_of (posted (rows (grown h) ws)) ≡ ((card l).qp q).waiting ++ (receive_of w ∷ [])
    mapped = ap (map receive_of) appended ∙ map-append receive_of (posted (pair_at l q)) (w ∷ []) ∙ rw waiting_is

    pub post_card : card (post_bytes l q w) ≡ with_qp (card l) (upd (card l).qp q (with_waiting ((card l).qp q) (((card l).qp q).waiting ++ (receive_of w ∷ []))))
    post_card = pair_card b post_only ∙ rw (after_is, other_head (grown h) ws, mapped)

    after_sound : receive_ok w ≡ true → qp_sound (card l).pd (cq_live (card l)) q (rows (grown h) ws) ≡ true
    unfolding pair_at
    after_sound good =
        let s = pair_sound in
        still_sound (grown h) ws s.first (omega arith) (rw appended (all_append receive_ok (posted (pair_at l q)) w s.waiting good))

    pub post_accepted : receive_ok w ≡ true → Accepted (post_bytes l q w)
    post_accepted good = pair_accepted ok post_only (rw after_is (after_sound good))

  module _ (some_wait : 0 < h.count) where
    shrunk_fits : Fits waiting_codec (shrunk h)
    unfolding waiting_codec Fit
    shrunk_fits =
        let g = store.waiting_fits l q in
        let m : ring_place most_waiting h.first 1 < most_waiting = mod-lt (h.first + 1) (omega arith) in
        let c : h.count < 256 = g.1.0 in
        (omega arith, (omega arith, tt))

    pub take_only : PairsOnly l (take_bytes l q) q
    unfolding take_bytes
    take_only = store.qp_waiting_only l q b (shrunk h)

    rest_is : pair_at (take_bytes l q) q ≡ rows (shrunk h) (receives_at l q)
    unfolding take_bytes pair_at waiting_t
    rest_is = store.qp_waiting_at l q b (shrunk h) ok.sized shrunk_fits

    led : posted (pair_at l q) ≡ get_or (receives_at l q) h.first no_record ∷ posted (rows (shrunk h) (receives_at l q))
    unfolding pair_at
    led = ring_pop no_record most_waiting (receives_at l q) h.first h.count some_wait

    -- the oldest receive that waits
    pub first_is : get_or ((card l).qp q).waiting 0 no_receive ≡ receive_of (row_at receive_t l (most_waiting * q + h.first))
    unfolding pair_at
    first_is = rw (waiting_is, led) (ap receive_of (receive_at l q h.first pair_sound.first))

    pub take_card : card (take_bytes l q) ≡ with_qp (card l) (upd (card l).qp q (with_waiting ((card l).qp q) (tail ((card l).qp q).waiting)))
    take_card = pair_card b take_only ∙ rw (rest_is, other_head (shrunk h) (receives_at l q), waiting_is, led)

    rest_sound : qp_sound (card l).pd (cq_live (card l)) q (rows (shrunk h) (receives_at l q)) ≡ true
    unfolding pair_at
    rest_sound =
        let s = pair_sound in
        still_sound (shrunk h) (receives_at l q) (mod-lt (h.first + 1) (omega arith)) (let c = s.count in omega arith)
        (ring_rest no_record most_waiting receive_ok (receives_at l q) h.first h.count some_wait s.waiting)

    pub take_accepted : Accepted (take_bytes l q)
    take_accepted = pair_accepted ok take_only (rw rest_is rest_sound)
