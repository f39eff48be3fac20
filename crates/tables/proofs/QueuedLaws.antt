-- One send record more, and one fewer, in a queue pair's queue: the card; and what answer 15 asks of a queued record. Assumes nothing.
use mathlib.Core.Path.{◌≡◌, refl, sym, ap, ◌∙◌}
use mathlib.Core.Bool.{Bool, true, false, cond, not, ◌&&◌, ◌||◌}
use mathlib.Core.List.{List, [], ◌∷◌, ◌++◌, map, map-append}
use mathlib.Core.Option.{Option, none, some}
use Prim.Native.Nat.{ℕ, ◌+◌, ◌*◌, ◌%◌, ◌<◌, ◌≤◌}
use native.Mathlib.Nat.{mod-lt}
use native.Mathlib.Omega.{arith}
use lib.Dec.{eqb, ltb}
use lib.ListN.{length, get_or, set, take, drop, length-take, length-drop, length-map}
use lib.Seq.{get_or-take, get_or-drop, ext_get_or, length-take-le}
use borrow.Author.Tests.{eq-eqb, eqb-true, le-leb, le-ltb, ltb-false, not-false}
use Rattle.wire.specs.Checks.{refusal, only}
use Rattle.wire.specs.Codec.{Fit, Fits, decode, fields_at}
use Rattle.wire.specs.Parts.{part_at}
use Rattle.wire.specs.Ring.{ring_place}
use Rattle.wire.specs.Rows.{rows}
use Rattle.wire.specs.Slots.{upd}
use Rattle.wire.specs.Table.{row_at}
use Rattle.wire.proofs.CheckLaws.{passed}
use Rattle.wire.proofs.CodecLaws.{decode_same}
use Rattle.wire.proofs.LeLaws.{le_at_below}
use Rattle.wire.proofs.RingLaws.{ring_push, ring_pop, ring_length}
use Rattle.wire.proofs.RowLaws.{length_rows, rows_same}
use Rattle.wire.proofs.ScanLaws.{and_off}
use Rattle.tables.specs.Card.{with_qp, with_queue, tail}
use Rattle.tables.specs.Layout.{state_size, qp_flag_t, send_head_t, record_p, waiting_codec, kind_codec}
use Rattle.tables.specs.Limits.{qp_count, most_queued, most_sges, most_inline, record_size}
use Rattle.tables.specs.Queue.{grown, shrunk_sends, place_bytes, queue_bytes, unqueue_bytes, oldest_send}
use Rattle.tables.specs.Records.{Request, QueuedSend, sge_codec, no_sge, send_codec, send_size, send_bad, flag_bits, send_checks, send_sge, is_signaled, is_inline, inline_length, kind_of, sent_in, request_in, request_of, request_with, with_kind}
use Rattle.tables.specs.State.{PairRows, card, pair_at, queued_at, queued_in, no_queued, qp_of}
use Rattle.tables.specs.declared.SendKind.{SendKind}
use Rattle.tables.specs.declared.SendRecord.{SendRecord}
use Rattle.tables.specs.declared.WaitingHead.{WaitingHead}
use Rattle.tables.proofs.KindLaws.{PairsOnly, only_then, pair_card}
use Rattle.tables.proofs.ObjectLaws.{qp_row, queued_at_lem}
use Rattle.tables.proofs.ReadingLaws.{inline_length_lem, send_tests}
use Rattle.tables.proofs.StoreLaws as store

-- ---- a record that passes its own tests

module _ (x : List ℕ) (good : refusal (send_checks x) ≡ none) where
  abbrev s : SendRecord
  s = decode send_codec x 0

  -- its length is what its numbers say
  pub size_is : length x ≡ send_size s
  unfolding send_checks
  size_is = eqb-true (length x) _ (not-false (eqb (length x) (cond (is_inline s) 576 (576 + 16 * s.count))) (passed (send_checks x) good).1.1.1.1.1.1.0)

  pub least : 576 ≤ length x
  unfolding send_checks
  least = ltb-false (length x) 576 (passed (send_checks x) good).0

  pieces : is_inline s ≡ false → s.count ≤ most_sges
  unfolding send_checks
  pieces e = ltb-false most_sges s.count (and_off (not (is_inline s)) (ltb most_sges s.count) (passed (send_checks x) good).1.1.1.1.1.0 (rw e))

  inline : is_inline s ≡ true → s.count % 65536 ≤ most_inline
  unfolding send_checks
  inline e =
      let h : inline_length x ≤ most_inline = ltb-false most_inline (inline_length x) (and_off (is_inline s) (ltb most_inline (inline_length x)) (passed (send_checks x) good).1.1.1.1.0 e) in
      rw (← inline_length_lem x) h

  pub most : length x ≤ record_size
  most = go (is_inline s) refl
    where
      go : (b : Bool) → is_inline s ≡ b → length x ≤ record_size
      go true e = let z : length x ≡ 576 = rw e at size_is in omega arith
      go false e =
          let z : length x ≡ 576 + 16 * s.count = rw e at size_is in
          let k = pieces e in
          omega arith

  -- the tests of answer 4, of its numbers with those of the column
  pub good_kind : (t : SendRecord) → send_bad (with_kind t (kind_of s)) ≡ false
  unfolding send_checks
  good_kind t = go (is_inline s) refl
    where
      known : ltb 4 s.opcode ≡ false
      known = (passed (send_checks x) good).1.0

      bits : not (only flag_bits s.flags) ≡ false
      bits = (passed (send_checks x) good).1.1.0

      go : (b : Bool) → is_inline s ≡ b →
          (ltb 4 s.opcode || not (only flag_bits s.flags) || (b && (eqb s.opcode 4 || ltb most_inline (s.count % 65536 % 65536))) || (not b && ltb most_sges (s.count % 65536))) ≡ false
      go true e =
          let o : eqb s.opcode 4 ≡ false = and_off (is_inline s) (eqb s.opcode 4) (passed (send_checks x) good).1.1.1.0 e in
          let n = inline e in
          rw (known, bits, o, le-ltb most_inline (s.count % 65536 % 65536) (omega arith))
      go false e = let n = pieces e in rw (known, bits, le-ltb most_sges (s.count % 65536) (omega arith))

  -- a place that begins with it
  module _ (p : List ℕ) (back : take (length x) p ≡ x) where
    same_at : (i : ℕ) → i < length x → get_or p i 0 ≡ get_or x i 0
    same_at i h = sym (get_or-take (length x) p i 0 h) ∙ ap (λ (y : List ℕ). get_or y i 0) back

    long : length x ≤ length p
    long = let e = length-take (length x) p in let f : length (take (length x) p) ≡ length x = ap length back in omega arith

    same_numbers : decode send_codec p 0 ≡ s
    unfolding send_codec
    same_numbers = decode_same send_codec p x 0 (λ i a b. (let c = least in same_at i (omega arith)))

    -- its inline bytes
    same_part : (n : ℕ) → 48 + n ≤ length x → take n (drop 48 p) ≡ take n (drop 48 x)
    same_part n h =
        let a : length (take n (drop 48 p)) ≡ n = length-take-le n (drop 48 p) (let l = long in simp length-drop (omega arith)) in
        let b : length (take n (drop 48 x)) ≡ n = length-take-le n (drop 48 x) (simp length-drop (omega arith)) in
        ext_get_or 0 (take n (drop 48 p)) (take n (drop 48 x)) (a ∙ sym b)
        (λ i c. (let d : i < n = rw a at c in
        get_or-take n (drop 48 p) i 0 d ∙ get_or-drop 48 p i 0 ∙ same_at (48 + i) (omega arith) ∙ sym (get_or-drop 48 x i 0) ∙ sym (get_or-take n (drop 48 x) i 0 d)))

    -- its pieces
    same_piece : (i : ℕ) → 576 + 16 * i + 16 ≤ length x → send_sge p i ≡ send_sge x i
    unfolding send_sge sge_codec
    same_piece i h =
        let l = long in
        let e : decode sge_codec p (576 + 16 * i) ≡ decode sge_codec x (576 + 16 * i) = decode_same sge_codec p x (576 + 16 * i) (λ j a b. same_at j (omega arith)) in
        rw (le-leb (576 + 16 * i + 16) (length p) (omega arith), le-leb (576 + 16 * i + 16) (length x) h) e

    same_bytes : cond (is_inline s) (take (s.count % 65536 % 65536) (drop 48 p)) [] ≡ cond (is_inline s) (take (s.count % 65536) (drop 48 x)) []
    same_bytes = go (is_inline s) refl
      where
        go : (b : Bool) → is_inline s ≡ b → cond b (take (s.count % 65536 % 65536) (drop 48 p)) [] ≡ cond b (take (s.count % 65536) (drop 48 x)) []
        go true e =
            let n = inline e in
            let l = least in
            let m : s.count % 65536 % 65536 ≡ s.count % 65536 = omega arith in
            ap (λ (k : ℕ). take k (drop 48 p)) m ∙ same_part (s.count % 65536) (omega arith)
        go false e = refl

    same_pieces : cond (is_inline s) [] (rows (s.count % 65536) (send_sge p)) ≡ cond (is_inline s) [] (rows s.count (send_sge x))
    same_pieces = go (is_inline s) refl
      where
        go : (b : Bool) → is_inline s ≡ b → cond b [] (rows (s.count % 65536) (send_sge p)) ≡ cond b [] (rows s.count (send_sge x))
        go true e = refl
        go false e =
            let n = pieces e in
            let z : length x ≡ 576 + 16 * s.count = rw e at size_is in
            let m : s.count % 65536 ≡ s.count = omega arith in
            ap (λ (k : ℕ). rows k (send_sge p)) m ∙ rows_same s.count (send_sge p) (send_sge x) no_sge (λ i h. same_piece i (omega arith))

    -- with its numbers in the column it is the request that the record is
    pub request_back : request_in (record { kind = kind_of s; body = p }) ≡ request_of x
    unfolding request_of
    request_back =
        ap (λ (t : SendRecord). request_with (with_kind t (kind_of s)) p) same_numbers
        ∙ (λ i. record {
          wr = s.wr;
          opcode = s.opcode;
          signaled = is_signaled s;
          inline = is_inline s;
          bytes = same_bytes i;
          imm = s.imm;
          address = s.address;
          key = s.key;
          sges = same_pieces i;
        })

-- ---- "a queued record that 1 or 4 refuses": 1 cannot, for its length is what its numbers say

abbrev pub passes : Option ℕ → Bool
passes none = true
passes (some n) = false

size_least : (b : Bool) (n : ℕ) → 576 ≤ cond b 576 (576 + n)
size_least true n = omega arith
size_least false n = omega arith

-- of any record x with the numbers of the queued one
pub refused_exactly : (s : QueuedSend) (x : List ℕ) → decode send_codec x 0 ≡ sent_in s → length x ≡ send_size (sent_in s) →
    passes (refusal (send_checks x)) ≡ not (send_bad (sent_in s))
refused_exactly s x e n =
    let l : 576 ≤ length x = rw n (size_least (is_inline (sent_in s)) (16 * (sent_in s).count)) in
    rw (send_tests x l, e, eq-eqb (length x) (send_size (sent_in s)) n) (go (send_bad (sent_in s)))
  where
    go : (b : Bool) → passes (cond b (some 4) none) ≡ not b
    go true = refl
    go false = refl

-- ---- the queue pair q, which is live

module _ (l : List ℕ) (q : ℕ) (b : q < qp_count) (live : row_at qp_flag_t l q ≡ 1) where
  abbrev h : WaitingHead
  h = row_at send_head_t l q

  queue_is : ((card l).qp q).queue ≡ map request_in (queued_in (pair_at l q))
  queue_is = rw (qp_row l q b live)

  pub queue_length : length ((card l).qp q).queue ≡ h.count
  unfolding pair_at
  queue_length =
      ap length queue_is ∙ length-map (queued_in (pair_at l q)) request_in ∙ ring_length no_queued most_queued (queued_at l q) h.first h.count

  -- with the head g of its queued sends, which stand in rs, where all else stays
  abbrev pub rows_with : WaitingHead → List QueuedSend → PairRows
  rows_with g rs =
      record { flag = (pair_at l q).flag; row = (pair_at l q).row; head = (pair_at l q).head; ring = (pair_at l q).ring; sends = g; queued = rs }

  other_queue : (g : WaitingHead) (rs : List QueuedSend) → qp_of (rows_with g rs) ≡ with_queue ((card l).qp q) (map request_in (queued_in (rows_with g rs)))
  unfolding qp_of pair_at
  other_queue g rs = rw (qp_row l q b live, eq-eqb (row_at qp_flag_t l q) 1 live)

  module _ (first : h.first < most_queued) where
    led : 0 < h.count → queued_in (pair_at l q) ≡ oldest_send l q ∷ queued_in (rows_with (shrunk_sends h) (queued_at l q))
    unfolding pair_at
    led held =
        ring_pop no_queued most_queued (queued_at l q) h.first h.count held
        ∙ ap (λ (s : QueuedSend). s ∷ queued_in (rows_with (shrunk_sends h) (queued_at l q))) (queued_at_lem l q h.first first)

    -- the request that is the queue's oldest
    pub first_request : 0 < h.count → ((card l).qp q).queue ≡ request_in (oldest_send l q) ∷ tail ((card l).qp q).queue
    first_request held = rw (queue_is, led held)

    module _ (sized : length l ≡ state_size) where
      -- one record more
      module _ (x : List ℕ) (good : refusal (send_checks x) ≡ none) (room : h.count < most_queued) where
        abbrev pub at : ℕ
        at = ring_place most_queued h.first h.count

        at_below : at < most_queued
        at_below = mod-lt (h.first + h.count) (omega arith)

        abbrev kind : SendKind
        kind = kind_of (decode send_codec x 0)

        abbrev mid : List ℕ
        mid = place_bytes l (most_queued * q + at) x

        -- the place as it then stands
        abbrev pub newest : QueuedSend
        newest = record { kind = kind; body = part_at record_p mid (most_queued * q + at) }

        grown_fits : Fits waiting_codec (grown h)
        unfolding waiting_codec Fit
        grown_fits = (omega arith, (omega arith, tt))

        kind_fits : Fits kind_codec kind
        unfolding kind_codec send_codec fields_at Fit
        kind_fits = (le_at_below 1 x 8, (le_at_below 1 x 9, (mod-lt (decode send_codec x 0).count (omega arith), tt)))

        pub queue_only : PairsOnly l (queue_bytes l q x) q
        unfolding queue_bytes
        queue_only = only_then (store.place_only l q b at at_below x (most x good) sized kind) (store.qp_sends_only mid q b (grown h))

        pub queue_at_lem : pair_at (queue_bytes l q x) q ≡ rows_with (grown h) (set (queued_at l q) at newest)
        unfolding queue_bytes pair_at send_head_t
        queue_at_lem =
            store.qp_sends_at mid q b (grown h) (store.place_size l q b at at_below x (most x good) sized kind) grown_fits
            ∙ ap (λ (r : PairRows). record { flag = r.flag; row = r.row; head = r.head; ring = r.ring; sends = grown h; queued = r.queued })
            (store.place_at_lem l q b at at_below x (most x good) sized kind kind_fits)

        pub queue_joined : queued_in (rows_with (grown h) (set (queued_at l q) at newest)) ≡ queued_in (pair_at l q) ++ (newest ∷ [])
        unfolding queued_at pair_at
        queue_joined = ring_push no_queued most_queued (queued_at l q) h.first h.count newest (length_rows most_queued _) first room

        mapped : map request_in (queued_in (rows_with (grown h) (set (queued_at l q) at newest))) ≡ ((card l).qp q).queue ++ (request_of x ∷ [])
        mapped =
            ap (map request_in) queue_joined ∙ map-append request_in (queued_in (pair_at l q)) (newest ∷ [])
            ∙ ap (λ (r : Request). map request_in (queued_in (pair_at l q)) ++ (r ∷ [])) (request_back x good newest.body (store.body_put l q b at at_below x (most x good) sized kind))
            ∙ rw queue_is

        -- the record is the newest of the queue
        pub queue_card : card (queue_bytes l q x) ≡ with_qp (card l) (upd (card l).qp q (with_queue ((card l).qp q) (((card l).qp q).queue ++ (request_of x ∷ []))))
        queue_card = pair_card b queue_only ∙ rw (queue_at_lem, other_queue (grown h) (set (queued_at l q) at newest), mapped)

      -- one fewer
      module _ (held : 0 < h.count) (small : h.count < 256) where
        shrunk_fits : Fits waiting_codec (shrunk_sends h)
        unfolding waiting_codec Fit
        shrunk_fits = let m : ring_place most_queued h.first 1 < most_queued = mod-lt (h.first + 1) (omega arith) in (omega arith, (omega arith, tt))

        pub unqueue_only : PairsOnly l (unqueue_bytes l q) q
        unfolding unqueue_bytes
        unqueue_only = store.qp_sends_only l q b (shrunk_sends h)

        pub unqueue_at : pair_at (unqueue_bytes l q) q ≡ rows_with (shrunk_sends h) (queued_at l q)
        unfolding unqueue_bytes pair_at send_head_t
        unqueue_at = store.qp_sends_at l q b (shrunk_sends h) sized shrunk_fits

        -- "the head leaves its queue"
        pub unqueue_card : card (unqueue_bytes l q) ≡ with_qp (card l) (upd (card l).qp q (with_queue ((card l).qp q) (tail ((card l).qp q).queue)))
        unqueue_card = pair_card b unqueue_only ∙ rw (unqueue_at, other_queue (shrunk_sends h) (queued_at l q), queue_is, led held)
