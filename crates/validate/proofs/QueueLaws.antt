-- What one completion more and one fewer in a completion queue mean: the card, and that the state stays accepted. Assumes nothing.
use Rattle.std.proofs.Common.{◌≡◌, ℕ, ◌+◌, ◌*◌, ◌<◌, ◌≤◌, true, ◌&&◌, List, [], ◌∷◌, ◌++◌, length, get_or, set, sym, ap, ◌∙◌, inl, mod-lt, arith, eq-eqb}
use Rattle.wire.specs.Codec.{Fit, Fits}
use Rattle.wire.specs.Ring.{ring_place}
use Rattle.wire.specs.Scan.{all}
use Rattle.wire.specs.Slots.{upd}
use Rattle.wire.specs.Table.{row_at, put_row}
use Rattle.wire.proofs.RingLaws.{ring_push, ring_pop, ring_rest}
use Rattle.wire.proofs.RowLaws.{length_rows}
use Rattle.wire.proofs.ScanLaws.{all_append, all_cons, and_left}
use Rattle.wire.proofs.TableLaws.{put_row_length}
use Rattle.tables.specs.Card.{with_cq, with_entries, tail}
use Rattle.tables.specs.Layout.{state_size, cq_flag_t, cq_t, entry_t, queue_codec}
use Rattle.tables.specs.Limits.{cq_count, most_places}
use Rattle.tables.specs.Queue.{longer, shorter, push_bytes, pop_bytes}
use Rattle.tables.specs.Records.{completion_codec}
use Rattle.tables.specs.State.{QueueRows, card, queue_at, ring_at, unread, no_completion, cq_of}
use Rattle.tables.specs.declared.Completion.{Completion}
use Rattle.tables.specs.declared.QueueHead.{QueueHead}
use Rattle.tables.proofs.KindLaws.{QueuesOnly, only_then, queue_card}
use Rattle.tables.proofs.ObjectLaws.{cq_row, entry_at}
use Rattle.tables.proofs.StoreLaws as store
use Rattle.validate.specs.Accept.{completion_ok, cq_ok}
use Rattle.validate.proofs.AcceptedLaws.{Accepted, Queued, queued, queueing}
use Rattle.validate.proofs.KeptLaws.{queue_accepted}

module _ (l : List ℕ) (ok : Accepted l) (n : ℕ) (b : n < cq_count) (live : row_at cq_flag_t l n ≡ 1) where
  abbrev h : QueueHead
  h = row_at cq_t l n

  -- what the state test has shown of the queue
  pub queue_sound : Queued (queue_at l n)
  unfolding cq_ok queue_at
  queue_sound = queued (queue_at l n) (ok.cqs n b) (let e = live in omega arith)

  pub queue_is : (card l).cq n ≡ record { live = true; places = h.places; entries = unread (queue_at l n) }
  queue_is = cq_row l n b live

  module _ (e : Completion) (f : Fits completion_codec e) (room : h.count < h.places) where
    abbrev k : ℕ
    k = ring_place most_places h.first h.count

    k_below : k < most_places
    k_below = mod-lt (h.first + h.count) (omega arith)

    longer_fits : Fits queue_codec (longer h)
    unfolding queue_codec Fit queue_at
    longer_fits =
        let g = store.queue_fits l n in
        let m : h.places ≤ most_places = queue_sound.most in
        (g.0, (g.1.0, (omega arith, (omega arith, tt))))

    abbrev mid : List ℕ
    mid = put_row entry_t l (most_places * n + k) e

    -- the queue after it
    abbrev after : QueueRows
    after = record { flag = row_at cq_flag_t l n; head = longer h; ring = set (ring_at l n) k e }

    pub push_only : QueuesOnly l (push_bytes l n e) n
    unfolding push_bytes
    push_only = only_then (store.entry_only l n b k k_below e) (store.cq_head_only mid n b (longer h))

    after_is : queue_at (push_bytes l n e) n ≡ after
    unfolding push_bytes queue_at cq_t
    after_is =
        let z : length mid ≡ state_size = put_row_length entry_t l (most_places * n + k) e ∙ ok.sized in
        let m = store.entry_at l n b k k_below e ok.sized f in
        store.cq_head_at mid n b (longer h) z longer_fits ∙ ap (λ (r : QueueRows). record { flag = r.flag; head = longer h; ring = r.ring }) m

    appended : unread after ≡ unread (queue_at l n) ++ (e ∷ [])
    unfolding ring_at queue_at
    appended =
        let s = queue_sound in
        let m : h.places ≤ most_places = s.most in
        ring_push no_completion most_places (ring_at l n) h.first h.count e (length_rows most_places _) s.first (omega arith)

    pub push_card : card (push_bytes l n e) ≡ with_cq (card l) (upd (card l).cq n (with_entries ((card l).cq n) (((card l).cq n).entries ++ (e ∷ []))))
    unfolding cq_of
    push_card = queue_card b push_only ∙ rw (after_is, eq-eqb (row_at cq_flag_t l n) 1 live, appended, queue_is)

    after_sound : completion_ok e ≡ true → Queued after
    unfolding queue_at
    after_sound good =
        let s = queue_sound in
        record {
          live = live;
          least = s.least;
          most = s.most;
          first = s.first;
          count = omega arith;
          entries = rw appended (all_append completion_ok (unread (queue_at l n)) e s.entries good);
        }

    pub push_accepted : completion_ok e ≡ true → Accepted (push_bytes l n e)
    push_accepted good =
        queue_accepted ok b push_only (rw after_is (queueing after (after_sound good))) (inl (rw (after_is, eq-eqb (row_at cq_flag_t l n) 1 live)))

  module _ (some-unread : 0 < h.count) where
    shorter_fits : Fits queue_codec (shorter h)
    unfolding queue_codec Fit
    shorter_fits =
        let g = store.queue_fits l n in
        let m : ring_place most_places h.first 1 < most_places = mod-lt (h.first + 1) (omega arith) in
        let c : h.count < 256 = g.1.1.0 in
        (g.0, (omega arith, (omega arith, (omega arith, tt))))

    abbrev rest : QueueRows
    rest = record { flag = row_at cq_flag_t l n; head = shorter h; ring = ring_at l n }

    pub pop_only : QueuesOnly l (pop_bytes l n) n
    unfolding pop_bytes
    pop_only = store.cq_head_only l n b (shorter h)

    rest_is : queue_at (pop_bytes l n) n ≡ rest
    unfolding pop_bytes queue_at cq_t
    rest_is = store.cq_head_at l n b (shorter h) ok.sized shorter_fits

    led : unread (queue_at l n) ≡ get_or (ring_at l n) h.first no_completion ∷ unread rest
    unfolding queue_at
    led = ring_pop no_completion most_places (ring_at l n) h.first h.count some-unread

    -- the oldest completion of the card's queue
    pub oldest_is : get_or ((card l).cq n).entries 0 no_completion ≡ row_at entry_t l (most_places * n + h.first)
    unfolding queue_at
    oldest_is = rw (queue_is, led) (entry_at l n h.first queue_sound.first)

    -- what a poll gives back is within the limits that 15 tests
    pub oldest_ok : completion_ok (get_or ((card l).cq n).entries 0 no_completion) ≡ true
    oldest_ok =
        let first : Completion = get_or (ring_at l n) h.first no_completion in
        let e : (completion_ok first && all completion_ok (unread rest)) ≡ true =
        sym (ap (all completion_ok) led ∙ all_cons completion_ok first (unread rest)) ∙ queue_sound.entries in
        rw (queue_is, led) (and_left (completion_ok first) (all completion_ok (unread rest)) e)

    pub pop_card : card (pop_bytes l n) ≡ with_cq (card l) (upd (card l).cq n (with_entries ((card l).cq n) (tail ((card l).cq n).entries)))
    unfolding cq_of
    pop_card = queue_card b pop_only ∙ rw (rest_is, eq-eqb (row_at cq_flag_t l n) 1 live, queue_is, led)

    rest_sound : Queued rest
    unfolding queue_at
    rest_sound =
        let s = queue_sound in
        record {
          live = live;
          least = s.least;
          most = s.most;
          first = mod-lt (h.first + 1) (omega arith);
          count = (let c = s.count in omega arith);
          entries = ring_rest no_completion most_places completion_ok (ring_at l n) h.first h.count some-unread s.entries;
        }

    pub pop_accepted : Accepted (pop_bytes l n)
    pop_accepted = queue_accepted ok b pop_only (rw rest_is (queueing rest rest_sound)) (inl (rw (rest_is, eq-eqb (row_at cq_flag_t l n) 1 live)))
