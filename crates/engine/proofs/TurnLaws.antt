-- A turn: which heads may run, as the code asks it; the head that runs; and what the turn owes at each of its ends. Assumes nothing.
use mathlib.Core.Path.{◌≡◌, refl, sym, ap, ap₂, subst, ◌∙◌}
use mathlib.Core.Logic.{◌≢◌}
use mathlib.Core.Bool.{Bool, true, false, cond, not, ◌&&◌, ◌||◌, false≢true, true≢false}
use mathlib.Core.List.{List}
use mathlib.Core.Option.{Option, none, some}
use Prim.Native.Nat.{ℕ, ◌+◌, ◌%◌, ◌^◌, ◌<◌, ◌≤◌}
use native.Mathlib.Nat.{mod-lt}
use native.Mathlib.Omega.{arith}
use lib.Dec.{eqb, ltb, leb}
use lib.ListN.{length, get_or, drop, length-take}
use borrow.Author.Tests.{eqb-true, eq-eqb, ne_eqb, le-leb, lt-leb, ltb-false, leb-true, not-true}
use Rattle.wire.specs.Checks.{refusal, only}
use Rattle.wire.specs.Codec.{Fit}
use Rattle.wire.specs.Slots.{upd}
use Rattle.wire.specs.Scan.{lowest, all}
use Rattle.wire.specs.Table.{row_at}
use Rattle.wire.proofs.CheckLaws.{passed}
use Rattle.wire.proofs.ScanLaws.{and_left, and_right, and_off, or_left, or_right, lowest_passes}
use Rattle.tables.specs.Card.{Card, with_qp, with_turn, with_queue, tail}
use Rattle.tables.specs.Layout.{state_size, qp_flag_t, send_head_t, turn_t}
use Rattle.tables.specs.Limits.{qp_count, most_queued, most_sges, most_inline}
use Rattle.tables.specs.Queue.{oldest_send, unqueue_bytes}
use Rattle.tables.specs.Records.{Request, send_codec, sent_in, request_in, request_with, send_sge, inline_in, is_inline, flag_bits, send_bad}
use Rattle.tables.specs.State.{card, is_live}
use Rattle.wire.specs.Rows.{rows}
use Rattle.tables.specs.declared.SendRecord.{SendRecord}
use Rattle.tables.specs.declared.Sge.{Sge}
use Rattle.tables.proofs.KindLaws.{turn_card}
use Rattle.tables.proofs.ObjectLaws.{qp_live, qp_below, qp_flag}
use Rattle.tables.proofs.QueuedLaws as queued
use Rattle.validate.specs.Accept.{accepts}
use Rattle.validate.proofs.AcceptedLaws.{Accepted, accepted}
use Rattle.validate.proofs.KeptLaws.{turn_accepted}
use Rattle.validate.proofs.SendLaws.{queue_first, queue_count, oldest_sound, unqueue_accepted}
use Rattle.rules.specs.Answer.{answered, code_of}
use Rattle.rules.specs.declared.Answer.TheVariants.{Done, Refused}
use Rattle.rules.specs.Bytes.{send_bytes, head_gone_bytes, turn_bytes, effect_bytes}
use Rattle.rules.specs.Call.{Call}
use Rattle.rules.specs.Calls.{checks, memory_checks, owed_checks, owed, settled, status_of, value_of, effect, memory_after, buffer_after}
use Rattle.rules.specs.Contract.{OwesAll}
use Rattle.rules.specs.Lists.{is_empty, is_some}
use Rattle.rules.specs.Send.{hold_checks, ready_checks, send_status, send_effect}
use Rattle.rules.specs.Touch.{no_request}
use Rattle.rules.specs.Turn.{seat, passed_over, after, head_of, runnable, served, turn_checks, head_gone, turn_effect}
use Rattle.rules.proofs.Answers.{first_with, answered_code, status_small}
use Rattle.rules.proofs.Exported.{refused_owes, done_all}
use Rattle.rules.proofs.Sent.{sent_live, sent_queue}
use Rattle.rules.proofs.Tests.{empty_is}
use Rattle.delivery.specs.Meet.{is_free}
use Rattle.delivery.specs.Run.{Bounded, Carried, request_by}
use Rattle.delivery.proofs.CardLaws.{Stands}
use Rattle.delivery.proofs.StandLaws.{stands}
use Rattle.engine.specs.Turn.{Serves, turn_leaves}
use Rattle.engine.proofs.OwedLaws.{send_fits}
use Rattle.engine.proofs.RecordLaws.{carried_with}

-- ---- whether a head may run

module _ (l : List ℕ) (a : accepts l ≡ true) (q : ℕ) (b : q < qp_count) where
  pub dead : is_live (row_at qp_flag_t l q) ≡ false → runnable (card l) q ≡ false
  unfolding runnable
  dead h = rw (qp_live l q b, h)

  module _ (live : is_live (row_at qp_flag_t l q) ≡ true) where
    flag : row_at qp_flag_t l q ≡ 1
    flag = eqb-true (row_at qp_flag_t l q) 1 live

    none_is : is_empty ((card l).qp q).queue ≡ eqb (row_at send_head_t l q).count 0
    none_is = empty_is ((card l).qp q).queue ∙ rw (queued.queue_length l q b flag)

    pub nothing_queued : (row_at send_head_t l q).count ≡ 0 → runnable (card l) q ≡ false
    unfolding runnable
    nothing_queued h = rw (qp_live l q b, live, none_is, eq-eqb (row_at send_head_t l q).count 0 h)

    module _ (some-queued : (row_at send_head_t l q).count ≢ 0) where
      waits : 0 < (row_at send_head_t l q).count
      waits = let h = some-queued in omega arith

      head_is : head_of (card l) q ≡ request_in (oldest_send l q)
      head_is =
          ap (λ (rs : List Request). get_or rs 0 no_request)
          (queued.first_request l q b flag (queue_first l (accepted l a) q b flag) waits)

      -- the tests look at the opcode alone
      pub runs_by : (o : ℕ) → o ≡ (oldest_send l q).kind.opcode → runnable (card l) q ≡ is_free l q o
      unfolding runnable hold_checks ready_checks
      runs_by o e = rw (qp_live l q b, live, none_is, ne_eqb (row_at send_head_t l q).count 0 some-queued, head_is, e)

-- ---- a head that runs

-- what is known of it
pub record Head (l : List ℕ) (q : ℕ) : Type 0 where
  pub below : q < qp_count
  pub flag : row_at qp_flag_t l q ≡ 1
  pub live : ((card l).qp q).live ≡ true
  pub waits : 0 < (row_at send_head_t l q).count
  pub first : (row_at send_head_t l q).first < most_queued
  pub some_wait : is_empty ((card l).qp q).queue ≡ false
  pub head : head_of (card l) q ≡ request_in (oldest_send l q)
  pub runs : refusal (hold_checks (card l) q (head_of (card l) q)) ≡ none
  pub sound : send_bad (sent_in (oldest_send l q)) ≡ false
  pub free : is_free l q (oldest_send l q).kind.opcode ≡ true

none_left : {A : Type 0} (o : Option A) → not (is_some o) ≡ true → o ≡ none
none_left none e = refl
none_left (some x) e = absurd (false≢true e)

pub head_of_lem : (l : List ℕ) → accepts l ≡ true → (q : ℕ) → runnable (card l) q ≡ true → Head l q
unfolding runnable hold_checks ready_checks
head_of_lem l a q e =
    let ok = accepted l a in
    let queue : Bool = not (is_empty ((card l).qp q).queue) in
    let free : Bool = not (is_some (refusal (hold_checks (card l) q (head_of (card l) q)))) in
    let f : (((card l).qp q).live && queue) ≡ true = and_left (((card l).qp q).live && queue) free e in
    let live : ((card l).qp q).live ≡ true = and_left ((card l).qp q).live queue f in
    let below = qp_below l q live in
    let flag = qp_flag l q live in
    let some_wait : is_empty ((card l).qp q).queue ≡ false = not-true (is_empty ((card l).qp q).queue) (and_right ((card l).qp q).live queue f) in
    let n : (row_at send_head_t l q).count ≢ 0 =
    (λ z. true≢false (sym (empty_is ((card l).qp q).queue ∙ rw (queued.queue_length l q below flag, eq-eqb (row_at send_head_t l q).count 0 z)) ∙ some_wait)) in
    let waits : 0 < (row_at send_head_t l q).count = omega arith in
    let first = queue_first l ok q below flag in
    let head : head_of (card l) q ≡ request_in (oldest_send l q) =
    ap (λ (rs : List Request). get_or rs 0 no_request) (queued.first_request l q below flag first waits) in
    record {
      below = below;
      flag = flag;
      live = live;
      waits = waits;
      first = first;
      some_wait = some_wait;
      head = head;
      runs = none_left (refusal (hold_checks (card l) q (head_of (card l) q))) (and_right (((card l).qp q).live && queue) free e);
      free = rw head at (and_right (((card l).qp q).live && queue) free e);
      sound = not-true (send_bad (sent_in (oldest_send l q))) (oldest_sound l ok q below flag waits);
    }

-- the limits of a request whose numbers pass the tests of answer 4
pub sound_bounded : (s : SendRecord) (x : List ℕ) → send_bad s ≡ false → Bounded s (inline_in s x)
sound_bounded s x e =
    let i : Bool = is_inline s in
    let early : Bool = ltb 4 s.opcode || not (only flag_bits s.flags) in
    let inline : Bool = i && (eqb s.opcode 4 || ltb most_inline (s.count % 65536)) in
    let many : Bool = not i && ltb most_sges s.count in
    let e₁ : (early || inline) ≡ false = or_left (early || inline) many e in
    let e₂ : many ≡ false = or_right (early || inline) many e in
    let e₃ : inline ≡ false = or_right early inline e₁ in
    record {
      plain = λ h. ltb-false most_sges s.count (and_off (not i) (ltb most_sges s.count) e₂ (rw h));
      short =
          λ h.
          (let u : ltb most_inline (s.count % 65536) ≡ false = or_right (eqb s.opcode 4) (ltb most_inline (s.count % 65536)) (and_off i _ e₃ h) in
          let v : s.count % 65536 ≤ most_inline = ltb-false most_inline (s.count % 65536) u in
          let t = length-take (s.count % 65536) (drop 48 x) in
          omega arith);
      there = λ h. or_left (eqb s.opcode 4) (ltb most_inline (s.count % 65536)) (and_off i _ e₃ h);
    }

-- its numbers s, its record x as it was copied out, its entries and its inline bytes
module _ (l : List ℕ) (q : ℕ) (h : Head l q) (s : SendRecord) (is : s ≡ sent_in (oldest_send l q)) (x : List ℕ) (at : x ≡ (oldest_send l q).body)
    (b : List ℕ) (j : b ≡ inline_in s x) where
  pub head_bounded : Bounded s b
  head_bounded = rw j (sound_bounded s x (ap send_bad is ∙ h.sound))

  pub head_free : is_free l q s.opcode ≡ true
  head_free = rw is h.free

  pub head_carried : (sges : List Sge) → sges ≡ rows most_sges (send_sge x) →
      (m : List ℕ) (st : ℕ) (l' m' : List ℕ) → Carried l q (request_by s sges b) m st l' m' → Carried l q (head_of (card l) q) m st l' m'
  head_carried sges i m st l' m' w =
      let few = (sound_bounded s x (ap send_bad is ∙ h.sound)).plain in
      let t = carried_with x s few sges i b (λ y. j) l q m st l' m' w in
      let e : request_with s x ≡ head_of (card l) q = ap₂ request_with is at ∙ sym h.head in
      subst (λ (r : Request). Carried l q r m st l' m') e t

-- ---- the state after it, and after the head has left

module _ (l : List ℕ) (a : accepts l ≡ true) (q : ℕ) (h : Head l q) where
  abbrev r : Request
  r = head_of (card l) q

  abbrev l1 : List ℕ
  l1 = send_bytes l q r

  abbrev body : List ℕ
  body = (oldest_send l q).body

  ran_stands : Stands l1 (send_effect (card l) q r)
  unfolding send_codec Fit
  ran_stands =
      let f = send_fits body in
      let wr : r.wr < 2 ^ 64 = rw h.head f.0 in
      let imm : r.imm < 2 ^ 32 = rw h.head f.1.1.1.0 in
      stands l (accepted l a) q r wr imm h.live (passed (hold_checks (card l) q r) h.runs)

  still_live : ((card l1).qp q).live ≡ true
  unfolding send_effect
  still_live = ap (λ (c : Card). (c.qp q).live) ran_stands.is ∙ sent_live (card l) q r (send_status (card l) q r) q ∙ h.live

  still_queued : ((card l1).qp q).queue ≡ ((card l).qp q).queue
  unfolding send_effect
  still_queued = ap (λ (c : Card). (c.qp q).queue) ran_stands.is ∙ sent_queue (card l) q r (send_status (card l) q r) q

  flag_then : row_at qp_flag_t l1 q ≡ 1
  flag_then = qp_flag l1 q still_live

  pub waits_then : 0 < (row_at send_head_t l1 q).count
  waits_then =
      let n : length ((card l).qp q).queue ≡ (row_at send_head_t l1 q).count = ap length (sym still_queued) ∙ queued.queue_length l1 q h.below flag_then in
      let m : length ((card l).qp q).queue ≡ (row_at send_head_t l q).count = queued.queue_length l q h.below h.flag in
      let w = h.waits in
      omega arith

  pub size_then : length l1 ≡ state_size
  size_then = ran_stands.ok.sized

  abbrev l2 : List ℕ
  l2 = unqueue_bytes l1 q

  rest_accepted : Accepted l2
  rest_accepted = unqueue_accepted l1 ran_stands.ok q h.below flag_then waits_then

  pub size_rest : length l2 ≡ state_size
  size_rest = rest_accepted.sized

  after_below : after q < qp_count
  after_below = mod-lt (q + 1) (omega arith)

  gone_stands : Stands (head_gone_bytes l1 q) (head_gone (send_effect (card l) q r) q)
  unfolding head_gone_bytes head_gone
  gone_stands =
      let k = queue_count l1 ran_stands.ok q h.below flag_then in
      record {
        ok = turn_accepted rest_accepted (after q) after_below;
        is =
            turn_card l2 (after q) size_rest (let b = after_below in omega arith)
            ∙ ap (λ (c : Card). with_turn c (after q))
            (queued.unqueue_card l1 q h.below flag_then (queue_first l1 ran_stands.ok q h.below flag_then) size_then waits_then (omega arith)
            ∙ ap (λ (c : Card). with_qp c (upd c.qp q (with_queue (c.qp q) (tail (c.qp q).queue)))) ran_stands.is);
      }

-- ---- the call

module _ (l m : List ℕ) where
  abbrev k : Call
  k = Call.turn m

  -- its result has room for the queue pair from bit 16 on
  pub code_below : code_of (owed card accepts l k).answer < 65536
  unfolding all checks memory_checks turn_checks
  code_below = go (refusal (owed_checks card accepts l k)) refl
    where
      go : (o : Option ℕ) → refusal (owed_checks card accepts l k) ≡ o → code_of (settled o (card l) k).answer < 65536
      go none e = let h : status_of (card l) k ≤ 8 = status_small (card l) k in omega arith
      go (some n) e =
          let h : n ≤ 15 = leb-true n 15 (first_with (λ i. leb i 15) (owed_checks card accepts l k) n refl e) in
          let c : code_of (answered 0 (some n)) ≡ n = answered_code n in
          omega arith

  pub not_accepted : accepts l ≡ false → OwesAll l k (turn_leaves (Refused 15) 0 l m)
  not_accepted e = refused_owes l k 15 (rw e)

  module _ (a : accepts l ≡ true) where
    pub other_memory : (length m ≡ (card l).memory → ⊥) → OwesAll l k (turn_leaves (Refused 7) 0 l m)
    unfolding checks memory_checks
    other_memory e = refused_owes l k 7 (rw (a, ne_eqb (length m) (card l).memory e))

    module _ (whole : length m ≡ (card l).memory) (next : ℕ) (place : next ≡ row_at turn_t l 0) (i : ℕ) (over : i ≡ passed_over next (runnable (card l))) where
      tests : refusal (owed_checks card accepts l k) ≡ cond (leb qp_count i) (some 9) none
      unfolding checks memory_checks turn_checks card
      tests = rw (a, eq-eqb (length m) (card l).memory whole, over, place)

      pub none_runs : qp_count ≤ i → OwesAll l k (turn_leaves (Refused 9) 0 l m)
      none_runs h = refused_owes l k 9 (tests ∙ rw (le-leb qp_count i h))

      module _ (some_runs : i < qp_count) where
        pub may_run : runnable (card l) (seat next i) ≡ true
        unfolding passed_over
        may_run =
            let e : i ≡ lowest qp_count (λ j. runnable (card l) (seat next j)) = over in
            rw e (lowest_passes qp_count (λ j. runnable (card l) (seat next j)) (rw e at some_runs))

        is_served : seat next i ≡ served (card l)
        unfolding served card
        is_served = rw (over, place)

        pub turn_done : (st : ℕ) (l' m' : List ℕ) → Serves l (seat next i) m st l' m' → OwesAll l k (turn_leaves (Done st) (seat next i) l' m')
        unfolding status_of value_of memory_after buffer_after effect effect_bytes turn_bytes turn_effect
        turn_done st l' m' s =
            let h = head_of_lem l a (seat next i) may_run in
            let z = gone_stands l a (seat next i) h in
            let done = done_all l k (tests ∙ rw (lt-leb qp_count i some_runs)) (rw (← is_served) z.is) (rw (← is_served) z.ok) l' (rw (← is_served) s.bytes) in
            rw (s.status, s.memory) (rw (← is_served) at done)
