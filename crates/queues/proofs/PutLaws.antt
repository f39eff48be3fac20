-- The completion of a flushed receive, put into the queue that has a place: the bytes after it, and the card that they mean. Assumes nothing.
use mathlib.Core.Path.{◌≡◌, sym, ap, ◌∙◌}
use mathlib.Core.Bool.{true}
use mathlib.Core.List.{List, [], ◌∷◌}
use Prim.Native.Nat.{ℕ, ◌+◌, ◌*◌, ◌^◌, ◌<◌}
use native.Mathlib.Nat.{mod-lt}
use native.Mathlib.Omega.{arith}
use lib.ListN.{length}
use borrow.Author.Tests.{lt-ltb}
use Rattle.wire.specs.Codec.{Fit, Fits}
use Rattle.wire.specs.Parts.{parts_end}
use Rattle.wire.specs.Ring.{ring_place}
use Rattle.wire.specs.Table.{row_at, finish, put_row}
use Rattle.wire.proofs.PartsLaws.{parts_outside}
use Rattle.wire.proofs.TableLaws.{outside, put_row_length, table_other, elsewhere}
use Rattle.tables.specs.Card.{with_cq}
use Rattle.tables.specs.Layout.{state_size, cq_t, qp_flag_t, qp_t, waiting_t, receive_t, send_head_t, kind_t, record_p}
use Rattle.tables.specs.Layout.{flag_codec, pair_codec, waiting_codec, kind_codec, entry_t, queue_codec}
use Rattle.tables.specs.Limits.{qp_count, most_places, cq_count}
use Rattle.tables.specs.Queue.{push_bytes, longer}
use Rattle.tables.specs.Records.{receive_codec, completion_codec}
use Rattle.tables.specs.State.{card, pair_at, queue_at, PairRows}
use Rattle.tables.specs.declared.Completion.{Completion}
use Rattle.tables.specs.declared.QueueHead.{QueueHead}
use Rattle.tables.proofs.KindLaws.{pair_kept}
use Rattle.validate.specs.Accept.{completion_ok}
use Rattle.validate.proofs.AcceptedLaws.{Accepted}
use Rattle.validate.proofs.QueueLaws.{queue_sound, push_only, push_card, push_accepted}
use Rattle.rules.specs.Bytes.{flushed_bytes}
use Rattle.rules.specs.Queues.{flushed_put}
use Rattle.rules.specs.Send.{Put, put_all}
use Rattle.queues.specs.Live.{LiveQueue, LivePair, PlacedPair}
use Rattle.queues.proofs.LiveLaws.{queue_ok_lem, queue_below, queue_flag, pair_ok_lem, pair_below, pair_flag, pair_rcq, rcq_live, rcq_place}

abbrev entry : (wr q : ℕ) → Completion
entry wr q = record { wr = wr; status = 4; opcode = 3; length = 0; imm = 0; owner = q }

entry_fits : (wr q : ℕ) → wr < 2 ^ 64 → q < qp_count → Fits completion_codec (entry wr q)
unfolding completion_codec Fit
entry_fits wr q f h = (omega arith, (omega arith, (omega arith, (omega arith, (omega arith, (omega arith, (omega arith, tt)))))))

entry_ok_lem : (wr q : ℕ) → q < qp_count → completion_ok (entry wr q) ≡ true
entry_ok_lem wr q h = rw (lt-ltb q qp_count h)

-- a completion that is put leaves the state's length and the heads of waiting receives
module _ (l : List ℕ) (n : ℕ) (e : Completion) where
  abbrev h : QueueHead
  h = row_at cq_t l n

  abbrev row : ℕ
  row = most_places * n + ring_place most_places h.first h.count

  push_sized : length (push_bytes l n e) ≡ length l
  unfolding push_bytes
  push_sized = put_row_length cq_t (put_row entry_t l row e) n (longer h) ∙ put_row_length entry_t l row e

  push_waiting : n < cq_count → (q : ℕ) → q < qp_count → row_at waiting_t (push_bytes l n e) q ≡ row_at waiting_t l q
  unfolding push_bytes elsewhere outside finish cq_t entry_t waiting_t queue_codec completion_codec waiting_codec
  push_waiting b q c =
      let k : ring_place most_places h.first h.count < most_places = mod-lt (h.first + h.count) (omega arith) in
      table_other cq_t waiting_t tt (put_row entry_t l row e) n (longer h) q b c ∙ table_other entry_t waiting_t tt l row e q (omega arith) c

module _ {l : List ℕ} {q : ℕ} (f : PlacedPair l q) where
  abbrev s : LivePair l q
  s = f.pair

  abbrev rcq : ℕ
  rcq = (row_at qp_t l q).rcq

  abbrev r : LiveQueue l rcq
  r = rcq_live s

  free : (row_at cq_t l rcq).count < (row_at cq_t l rcq).places
  free = rcq_place s f.place

  pub put_free : (row_at cq_t l rcq).count < most_places
  unfolding queue_at
  put_free = let m = (queue_sound l (queue_ok_lem r) rcq (queue_below r) (queue_flag r)).most in let c = free in omega arith

  module _ (wr : ℕ) where
    -- the completion that the rules put
    put_is : flushed_put (card l) q wr ≡ record { cqn = rcq; entry = entry wr q }
    put_is = rw (pair_rcq s)

    pub put_bytes_lem : push_bytes l rcq (entry wr q) ≡ flushed_bytes l q wr
    put_bytes_lem = sym (ap (λ (x : Put). push_bytes l x.cqn x.entry) put_is)

    pub put_sized : length (flushed_bytes l q wr) ≡ state_size
    put_sized = rw (← put_bytes_lem) (push_sized l rcq (entry wr q) ∙ (pair_ok_lem s).sized)

    pub put_waiting : row_at waiting_t (flushed_bytes l q wr) q ≡ row_at waiting_t l q
    put_waiting = rw (← put_bytes_lem) (push_waiting l rcq (entry wr q) (queue_below r) q (pair_below s))

    module _ (small : wr < 2 ^ 64) where
      fits : Fits completion_codec (entry wr q)
      fits = entry_fits wr q small (pair_below s)

      pub put_accepted : Accepted (flushed_bytes l q wr)
      put_accepted =
          rw (← put_bytes_lem) (push_accepted l (queue_ok_lem r) rcq (queue_below r) (queue_flag r) (entry wr q) fits free (entry_ok_lem wr q (pair_below s)))

      pub put_card : card (flushed_bytes l q wr) ≡ with_cq (card l) (put_all (flushed_put (card l) q wr ∷ []) (card l).cq)
      unfolding put_all
      put_card =
          sym (ap card put_bytes_lem) ∙ push_card l (queue_ok_lem r) rcq (queue_below r) (queue_flag r) (entry wr q) fits free
          ∙ sym (ap (λ (x : Put). with_cq (card l) (put_all (x ∷ []) (card l).cq)) put_is)

      -- the queue pair's rows stay
      put_pair : pair_at (flushed_bytes l q wr) q ≡ pair_at l q
      unfolding outside finish parts_outside parts_end qp_flag_t qp_t waiting_t receive_t send_head_t kind_t record_p flag_codec pair_codec waiting_codec receive_codec kind_codec
      put_pair =
          rw (← put_bytes_lem) (pair_kept (push_only l (queue_ok_lem r) rcq (queue_below r) (queue_flag r) (entry wr q) fits free).block tt q (pair_below s))

      pub put_flag : row_at qp_flag_t (flushed_bytes l q wr) q ≡ 1
      unfolding pair_at
      put_flag = ap (λ (x : PairRows). x.flag) put_pair ∙ pair_flag s
