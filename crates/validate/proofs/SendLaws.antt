-- What one queued send more and one fewer on a queue pair mean: the card, and that the state stays accepted. Assumes nothing.
use Rattle.std.proofs.Common.{◌≡◌, ℕ, ◌+◌, ◌<◌, ◌≤◌, true, not, List, [], ◌∷◌, ◌++◌, set, sym, ap, ◌∙◌, mod-lt, arith}
use mathlib.Core.Option.{none}
use Rattle.wire.specs.Checks.{refusal}
use Rattle.wire.specs.Codec.{decode}
use Rattle.wire.specs.Scan.{all}
use Rattle.wire.specs.Table.{row_at}
use Rattle.wire.proofs.RingLaws.{ring_pop, ring_rest}
use Rattle.wire.proofs.ScanLaws.{all_append, all_cons, and_left}
use Rattle.wire.specs.Slots.{upd}
use Rattle.tables.specs.Card.{with_qp, with_queue, tail, cq_live}
use Rattle.tables.specs.Layout.{qp_flag_t, qp_t, send_head_t}
use Rattle.tables.specs.Limits.{qp_count, most_queued}
use Rattle.tables.specs.Queue.{grown, shrunk_sends, queue_bytes, unqueue_bytes, oldest_send}
use Rattle.tables.specs.Records.{QueuedSend, send_codec, send_checks, request_of, request_in}
use Rattle.tables.specs.State.{card, pair_at, queued_at, queued_in, no_queued}
use Rattle.tables.specs.declared.WaitingHead.{WaitingHead}
use Rattle.tables.proofs.ObjectLaws.{queued_at_lem}
use Rattle.tables.proofs.QueuedLaws as queued
use Rattle.validate.specs.Accept.{may_queue, queued_ok, sends_ok, qp_sound}
use Rattle.validate.proofs.AcceptedLaws.{Accepted, pairing, Sending, sending, sends_some, sends_sound}
use Rattle.validate.proofs.KeptLaws.{pair_accepted}
use Rattle.validate.proofs.WaitingLaws.{pair_sound}

module _ (l : List ℕ) (ok : Accepted l) (q : ℕ) (b : q < qp_count) (live : row_at qp_flag_t l q ≡ 1) where
  abbrev h : WaitingHead
  h = row_at send_head_t l q

  -- what the state test has shown of its queue
  pub queue_sound : Sending (pair_at l q)
  queue_sound = sending (pair_at l q) (pair_sound l ok q b live).queue

  pub queue_first : h.first < most_queued
  unfolding pair_at
  queue_first = queue_sound.first

  pub queue_count : h.count ≤ most_queued
  unfolding pair_at
  queue_count = queue_sound.count

  -- with another queue, where all else stays
  still_sound : (g : WaitingHead) (rs : List QueuedSend) → sends_ok (queued.rows_with l q b live g rs) ≡ true
      → qp_sound (card l).pd (cq_live (card l)) q (queued.rows_with l q b live g rs) ≡ true
  still_sound g rs e =
      let s = pair_sound l ok q b live in
      pairing (card l).pd (cq_live (card l)) q (queued.rows_with l q b live g rs)
      (record {
        live = s.live;
        domain = s.domain;
        sends = s.sends;
        receives = s.receives;
        limits = s.limits;
        first = s.first;
        count = s.count;
        waiting = s.waiting;
        queue = e;
      })

  -- its queued sends as they are
  all_sound : all queued_ok (queued_in (pair_at l q)) ≡ true
  all_sound = sends_sound (pair_at l q) (pair_sound l ok q b live).queue

  -- one record more, where the state may have a queue
  module _ (x : List ℕ) (good : refusal (send_checks x) ≡ none) (room : h.count < most_queued) (state : may_queue (row_at qp_t l q).state ≡ true) where
    abbrev newest : QueuedSend
    newest = queued.newest l q b live queue_first ok.sized x good room

    abbrev rs : List QueuedSend
    rs = set (queued_at l q) (queued.at l q b live queue_first ok.sized x good room) newest

    newest_sound : queued_ok newest ≡ true
    newest_sound = ap not (queued.good_kind x good (decode send_codec newest.body 0))

    joined_sound : sends_ok (queued.rows_with l q b live (grown h) rs) ≡ true
    unfolding pair_at
    joined_sound =
        sends_some (queued.rows_with l q b live (grown h) rs) queue_first (omega arith) state
        (ap (all queued_ok) (queued.queue_joined l q b live queue_first ok.sized x good room)
        ∙ all_append queued_ok (queued_in (pair_at l q)) newest all_sound newest_sound)

    -- the record is the newest of the queue
    pub enqueue_card : card (queue_bytes l q x) ≡ with_qp (card l) (upd (card l).qp q (with_queue ((card l).qp q) (((card l).qp q).queue ++ (request_of x ∷ []))))
    enqueue_card = queued.queue_card l q b live queue_first ok.sized x good room

    pub enqueue_accepted : Accepted (queue_bytes l q x)
    enqueue_accepted =
        pair_accepted ok (queued.queue_only l q b live queue_first ok.sized x good room)
        (rw (queued.queue_at_lem l q b live queue_first ok.sized x good room) (still_sound (grown h) rs joined_sound))

  -- one fewer
  module _ (held : 0 < h.count) where
    small : h.count < 256
    small = let c = queue_count in omega arith

    -- its state, and its oldest record
    pub held_state : may_queue (row_at qp_t l q).state ≡ true
    unfolding pair_at
    held_state = (queue_sound.queue (λ z. absurd (let e = held in omega arith))).0

    pub oldest_sound : queued_ok (oldest_send l q) ≡ true
    unfolding pair_at
    oldest_sound =
        ap queued_ok (sym (queued_at_lem l q h.first queue_first))
        ∙ and_left _ _ (sym (ap (all queued_ok) (ring_pop no_queued most_queued (queued_at l q) h.first h.count held) ∙ all_cons queued_ok _ _) ∙ all_sound)

    -- the request that it is
    pub oldest_request : ((card l).qp q).queue ≡ request_in (oldest_send l q) ∷ tail ((card l).qp q).queue
    oldest_request = queued.first_request l q b live queue_first held

    pub unqueue_card : card (unqueue_bytes l q) ≡ with_qp (card l) (upd (card l).qp q (with_queue ((card l).qp q) (tail ((card l).qp q).queue)))
    unqueue_card = queued.unqueue_card l q b live queue_first ok.sized held small

    rest_sound : sends_ok (queued.rows_with l q b live (shrunk_sends h) (queued_at l q)) ≡ true
    unfolding pair_at
    rest_sound =
        sends_some (queued.rows_with l q b live (shrunk_sends h) (queued_at l q)) (mod-lt (h.first + 1) (omega arith)) (let c = queue_count in omega arith) held_state
        (ring_rest no_queued most_queued queued_ok (queued_at l q) h.first h.count held all_sound)

    pub unqueue_accepted : Accepted (unqueue_bytes l q)
    unqueue_accepted =
        pair_accepted ok (queued.unqueue_only l q b live queue_first ok.sized held small)
        (rw (queued.unqueue_at l q b live queue_first ok.sized held small) (still_sound (shrunk_sends h) (queued_at l q) rest_sound))
