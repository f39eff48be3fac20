-- The cases of a flush. Assumes nothing.
use mathlib.Core.Path.{◌≡◌, refl, sym, ap, ◌∙◌}
use mathlib.Core.Bool.{true, false, cond, not}
use mathlib.Core.List.{List, []}
use mathlib.Core.Option.{none, some}
use Prim.Native.Nat.{ℕ, ◌+◌, ◌*◌, ◌^◌, ◌<◌}
use lib.Dec.{eqb}
use Rattle.wire.specs.Checks.{refusal}
use Rattle.wire.specs.Codec.{Fit}
use Rattle.wire.specs.Slots.{upd}
use Rattle.wire.specs.Table.{row_at}
use Rattle.tables.specs.Card.{Card, Receive, with_qp, with_waiting, tail, receive_of}
use Rattle.tables.specs.Layout.{waiting_t, receive_t}
use Rattle.tables.specs.Limits.{most_waiting}
use Rattle.tables.specs.Queue.{take_bytes}
use Rattle.tables.specs.Records.{receive_codec}
use Rattle.tables.specs.State.{card}
use Rattle.tables.specs.declared.ReceiveRecord.{ReceiveRecord}
use Rattle.tables.proofs.StoreLaws.{receive_fits}
use Rattle.validate.specs.Accept.{accepts}
use Rattle.validate.proofs.AcceptedLaws.{Accepted}
use Rattle.validate.proofs.WaitingLaws.{first_is, take_card, take_accepted}
use Rattle.rules.specs.Bytes.{effect_bytes, flushed_bytes, flush_bytes}
use Rattle.rules.specs.Call.{Call}
use Rattle.rules.specs.Calls.{owed_checks, checks, status_of, effect, memory_after, buffer_after}
use Rattle.rules.specs.Contract.{Owes}
use Rattle.rules.specs.Lists.{is_empty}
use Rattle.rules.specs.Queues.{flush_checks, flushed}
use Rattle.rules.specs.Send.{room, oldest}
use Rattle.rules.specs.declared.Answer.TheVariants.{Done, Held, Refused}
use Rattle.rules.specs.declared.Cause.TheVariants.{Place}
use Rattle.rules.proofs.Exported.{refused_owes, done_owes}
use Rattle.queues.specs.Live.{LivePair, Flushable}
use Rattle.queues.proofs.LiveLaws.{pair_ok_lem, pair_below, pair_flag, some_wait}
use Rattle.queues.proofs.PutLaws.{put_waiting, put_card, put_accepted, put_flag}

-- ---- the bytes after it

module _ {l : List ℕ} {q : ℕ} (f : Flushable l q) where
  abbrev s : LivePair l q
  s = f.placed.pair

  abbrev w : ReceiveRecord
  w = row_at receive_t l (most_waiting * q + (row_at waiting_t l q).first)

  abbrev mid : List ℕ
  mid = flushed_bytes l q w.wr

  waits : 0 < (row_at waiting_t l q).count
  waits = some_wait s f.waits

  -- the receive still waits when its completion has been put
  pub flush_waits : 0 < (row_at waiting_t mid q).count
  flush_waits = rw (put_waiting f.placed w.wr) waits

  wr_is : (oldest ((card l).qp q).waiting).wr ≡ w.wr
  unfolding receive_of
  wr_is = ap (λ (x : Receive). x.wr) (first_is l (pair_ok_lem s) q (pair_below s) (pair_flag s) waits)

  small : w.wr < 2 ^ 64
  unfolding receive_t receive_codec Fit
  small = (receive_fits l (most_waiting * q + (row_at waiting_t l q).first)).0

  pub flush_bytes_lem : take_bytes mid q ≡ flush_bytes l q
  unfolding flush_bytes
  flush_bytes_lem = rw wr_is

  flush_card : card (flush_bytes l q) ≡ flushed (card l) q
  unfolding flushed
  flush_card =
      sym (ap card flush_bytes_lem)
      ∙ take_card mid (put_accepted f.placed w.wr small) q (pair_below s) (put_flag f.placed w.wr small) flush_waits
      ∙ ap (λ (c : Card). with_qp c (upd c.qp q (with_waiting (c.qp q) (tail (c.qp q).waiting)))) (put_card f.placed w.wr small)
      ∙ rw wr_is

  flush_accepted : Accepted (flush_bytes l q)
  flush_accepted =
      rw (← flush_bytes_lem) (take_accepted mid (put_accepted f.placed w.wr small) q (pair_below s) (put_flag f.placed w.wr small) flush_waits)

-- ---- the call

module _ (l : List ℕ) (q : ℕ) where
  abbrev k : Call
  k = Call.flush q

  order : refusal (owed_checks card accepts l k)
      ≡ cond (not (accepts l)) (some 15)
      (cond (not ((card l).qp q).live) (some 2)
      (cond (not (eqb ((card l).qp q).state 6)) (some 3)
      (cond (is_empty ((card l).qp q).waiting) (some 9) (cond (not (room ((card l).cq ((card l).qp q).rcq) 1)) (some 6) none))))
  unfolding checks flush_checks
  order = refl

  pub flush_15 : accepts l ≡ false → Owes l k (Refused 15) l [] []
  flush_15 e = refused_owes l k 15 (order ∙ rw e)

  pub flush_dead : accepts l ≡ true → ((card l).qp q).live ≡ false → Owes l k (Refused 2) l [] []
  flush_dead ok e = refused_owes l k 2 (order ∙ rw (ok, e))

  module _ (s : LivePair l q) where
    pub flush_state : eqb ((card l).qp q).state 6 ≡ false → Owes l k (Refused 3) l [] []
    flush_state e = refused_owes l k 3 (order ∙ rw (s.ok, s.live, e))

    module _ (six : eqb ((card l).qp q).state 6 ≡ true) where
      pub flush_none : is_empty ((card l).qp q).waiting ≡ true → Owes l k (Refused 9) l [] []
      flush_none e = refused_owes l k 9 (order ∙ rw (s.ok, s.live, six, e))

      module _ (waits : is_empty ((card l).qp q).waiting ≡ false) where
        pub flush_held : room ((card l).cq ((card l).qp q).rcq) 1 ≡ false → Owes l k (Held Place) l [] []
        flush_held e = refused_owes l k 6 (order ∙ rw (s.ok, s.live, six, waits, e))

        pub flush_done : room ((card l).cq ((card l).qp q).rcq) 1 ≡ true → (l' : List ℕ) → l' ≡ flush_bytes l q → Owes l k (Done 0) l' [] []
        unfolding status_of memory_after buffer_after effect effect_bytes
        flush_done e l' t =
            let f : Flushable l q = record { placed = record { pair = s; place = e }; waits = waits } in
            done_owes l k refl (order ∙ rw (s.ok, s.live, six, waits, e)) (flush_card f) (flush_accepted f) l' t
