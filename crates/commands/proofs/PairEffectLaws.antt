-- The commands of queue pairs that pass their tests: the card that the state then means is the rules', and the state stays accepted.
-- Assumes nothing.
use mathlib.Core.Path.{◌≡◌, refl, sym, ap, ◌∙◌}
use mathlib.Core.Bool.{Bool, true, false, cond, not, ◌&&◌, ◌||◌, false≢true}
use mathlib.Core.List.{List, [], ◌∷◌, map}
use mathlib.Core.Option.{none, some}
use Prim.Native.Nat.{ℕ, ◌+◌, ◌≤◌, ◌<◌, ◌^◌}
use native.Mathlib.Decide.{ℕ_discrete}
use native.Mathlib.Omega.{arith}
use lib.Dec.{eqb, ltb, leb}
use borrow.Author.Tests.{leb-true, leb-false, ltb-false, le-leb, eqb-true, eq-eqb, ne_eqb, not-false}
use Rattle.wire.specs.Checks.{◌if◌, refusal, Passed, has, only}
use Rattle.wire.proofs.CheckLaws.{passed}
use Rattle.wire.specs.Codec.{Fit, Fits}
use Rattle.wire.specs.Ring.{ring_list}
use Rattle.wire.specs.Scan.{all}
use Rattle.wire.proofs.ScanLaws.{and_left, and_right, or_left, or_right, or_true}
use Rattle.wire.specs.Table.{row_at, put_row}
use Rattle.wire.proofs.TableLaws.{put_row_length}
use Rattle.tables.specs.Card.{cq_live, receive_of}
use Rattle.tables.specs.Records.{request_in}
use Rattle.tables.specs.State.{PairRows, card, pair_at, qp_of, live_qp, dest_of, receives_at, queued_at, posted, queued_in}
use Rattle.tables.specs.Layout.{qp_flag_t, qp_t, waiting_t, send_head_t, flag_codec, pair_codec, waiting_codec}
use Rattle.tables.specs.Limits.{qp_count, most_waiting, most_access}
use Rattle.tables.specs.Commands.{Command}
use Rattle.tables.proofs.KindLaws.{PairsOnly, only_then, pair_card}
use Rattle.tables.proofs.ObjectLaws.{pd_below, cq_below, qp_below, qp_flag, qp_row}
use Rattle.tables.proofs.StoreLaws as store
use Rattle.tables.specs.declared.CreateQp.{CreateQp}
use Rattle.tables.specs.declared.ModifyQp.{ModifyQp}
use Rattle.tables.specs.declared.QueuePair.{QueuePair}
use Rattle.tables.specs.declared.WaitingHead.{WaitingHead}
use Rattle.validate.specs.Accept.{is_state, receive_ok, pair_ok, may_queue, sends_ok, qp_sound}
use Rattle.validate.specs.Search.{free_qpn}
use Rattle.validate.proofs.AcceptedLaws.{Accepted, pairing, only_most, sending, sends_none, sends_kept}
use Rattle.validate.proofs.KeptLaws.{pair_accepted}
use Rattle.validate.proofs.WaitingLaws.{pair_sound}
use Rattle.rules.specs.Control.{command_checks, command_effect, is_move, moved, rights_after, state_bit, rights_bit, dest_bit}
use Rattle.rules.specs.Bytes.{command_bytes, new_pair, none_wait, moved_pair, moved_head}
use Rattle.commands.proofs.EffectLaws.{Kept}

module _ (l : List ℕ) (ok : Accepted l) where
  pub destroy_qp_lem : (q : ℕ) → refusal (command_checks (card l) (Command.destroy_qp q)) ≡ none → Kept l (Command.destroy_qp q)
  unfolding command_checks command_bytes command_effect qp_of qp_flag_t flag_codec Fit
  destroy_qp_lem q e =
      let p = passed (command_checks (card l) (Command.destroy_qp q)) e in
      let h : q < qp_count = qp_below l q (not-false _ p.0) in
      let o = store.qp_flag_only l q h 0 in
      let a = store.qp_flag_at l q h 0 ok.sized (omega arith, tt) in
      record { meant = pair_card h o ∙ rw a; still = pair_accepted ok o (rw a) }

  -- ---- a new queue pair
  module _ (r : CreateQp) (e : refusal (command_checks (card l) (Command.create_qp r)) ≡ none) where
    abbrev n : ℕ
    n = free_qpn (card l)

    -- the tests, in order
    tests : Passed (4 if not (eqb r.kind 2) ∷ 4 if ltb 1 r.signal ∷ 2 if not ((card l).pd r.pd) ∷ 2 if not (cq_live (card l) r.scq) ∷
        2 if not (cq_live (card l) r.rcq) ∷ 8 if leb qp_count n ∷ [])
    unfolding command_checks
    tests = passed (command_checks (card l) (Command.create_qp r)) e

    below : n < qp_count
    below = leb-false qp_count n tests.1.1.1.1.1.0

    signal : r.signal ≤ 1
    signal = ltb-false 1 r.signal tests.1.0

    domain : (card l).pd r.pd ≡ true
    domain = not-false ((card l).pd r.pd) tests.1.1.0

    sends : cq_live (card l) r.scq ≡ true
    sends = not-false (cq_live (card l) r.scq) tests.1.1.1.0

    receives : cq_live (card l) r.rcq ≡ true
    receives = not-false (cq_live (card l) r.rcq) tests.1.1.1.1.0

    fits : Fits pair_codec (new_pair r)
    unfolding pair_codec Fit
    fits =
        let a = pd_below l r.pd domain in
        let b = cq_below l r.scq sends in
        let c = cq_below l r.rcq receives in
        let d = signal in
        (omega arith, (omega arith, (omega arith, (omega arith, (omega arith, (omega arith, (omega arith, (omega arith, tt))))))))

    -- the four stores
    abbrev with_head : List ℕ
    with_head = put_row waiting_t l n none_wait

    abbrev with_heads : List ℕ
    with_heads = put_row send_head_t with_head n none_wait

    abbrev with_row : List ℕ
    with_row = put_row qp_t with_heads n (new_pair r)

    new_only : PairsOnly l (put_row qp_flag_t with_row n 1) n
    new_only =
        only_then (only_then (only_then (store.qp_waiting_only l n below none_wait) (store.qp_sends_only with_head n below none_wait))
        (store.qp_row_only with_heads n below (new_pair r))) (store.qp_flag_only with_row n below 1)

    abbrev new_rows : PairRows
    new_rows = record { flag = 1; row = new_pair r; head = none_wait; ring = (pair_at l n).ring; sends = none_wait; queued = (pair_at l n).queued }

    new_after : pair_at (put_row qp_flag_t with_row n 1) n ≡ new_rows
    unfolding qp_flag_t qp_t waiting_t send_head_t flag_codec waiting_codec Fit
    new_after =
        let a = put_row_length waiting_t l n none_wait ∙ ok.sized in
        let b = put_row_length send_head_t with_head n none_wait ∙ a in
        let c = put_row_length qp_t with_heads n (new_pair r) ∙ b in
        store.qp_flag_at with_row n below 1 c (omega arith, tt)
        ∙ ap (λ (x : PairRows). record { flag = 1; row = x.row; head = x.head; ring = x.ring; sends = x.sends; queued = x.queued })
        (store.qp_row_at with_heads n below (new_pair r) b fits
        ∙ ap (λ (x : PairRows). record { flag = x.flag; row = new_pair r; head = x.head; ring = x.ring; sends = x.sends; queued = x.queued })
        (store.qp_sends_at with_head n below none_wait a (omega arith, (omega arith, tt))
        ∙ ap (λ (x : PairRows). record { flag = x.flag; row = x.row; head = x.head; ring = x.ring; sends = none_wait; queued = x.queued })
        (store.qp_waiting_at l n below none_wait ok.sized (omega arith, (omega arith, tt)))))

    new_sound : qp_sound (card l).pd (cq_live (card l)) n new_rows ≡ true
    unfolding ring_list all
    new_sound =
        let h = below in
        pairing (card l).pd (cq_live (card l)) n new_rows
        (record {
          live = refl;
          domain = domain;
          sends = sends;
          receives = receives;
          limits = rw (le-leb r.signal 1 signal, ne_eqb qp_count n (omega arith));
          first = omega arith;
          count = omega arith;
          waiting = refl;
          queue = sends_none new_rows (omega arith) refl;
        })

    pub create_qp_lem : Kept l (Command.create_qp r)
    unfolding command_bytes command_effect qp_of ring_list
    create_qp_lem = record { meant = pair_card below new_only ∙ rw new_after; still = pair_accepted ok new_only (rw new_after new_sound) }

  -- ---- a move
  module _ (r : ModifyQp) (e : refusal (command_checks (card l) (Command.modify_qp r)) ≡ none) where
    abbrev q : ℕ
    q = r.qpn

    abbrev t : ℕ
    t = r.state

    abbrev d : ℕ
    d = r.dest

    -- the tests, in order
    tests_of : Passed (4 if not (only (state_bit + rights_bit + dest_bit) r.mask) ∷ 4 if not (has state_bit r.mask) ∷ 4 if not (is_state t) ∷
        4 if not (eqb r.pad0 0 && eqb r.pad1 0 && eqb r.pad2 0) ∷ 4 if (has dest_bit r.mask && not (eqb t 2)) ∷
        4 if (not (has dest_bit r.mask) && eqb t 2) ∷ 4 if (has dest_bit r.mask && (leb qp_count d || eqb d q)) ∷
        4 if (has rights_bit r.mask && not (only most_access r.flags)) ∷
        2 if not ((card l).qp q).live ∷ 3 if not (is_move ((card l).qp q).state t) ∷ [])
    unfolding command_checks
    tests_of = passed (command_checks (card l) (Command.modify_qp r)) e

    on : ((card l).qp q).live ≡ true
    on = not-false ((card l).qp q).live tests_of.1.1.1.1.1.1.1.1.0

    within : q < qp_count
    within = qp_below l q on

    live : row_at qp_flag_t l q ≡ 1
    live = qp_flag l q on

    state_fine : is_state t ≡ true
    state_fine = not-false (is_state t) tests_of.1.1.0

    state_small : t ≤ 6
    state_small = by (leb t 3) refl
      where
        by : (b : Bool) → leb t 3 ≡ b → t ≤ 6
        by true x = let y : t ≤ 3 = leb-true t 3 x in omega arith
        by false x = let y : t ≡ 6 = eqb-true t 6 (rw x at state_fine) in omega arith

    -- a move to 2 names another queue pair
    named : eqb t 2 ≡ true → (d < qp_count) × (eqb d q ≡ false)
    named x = by (has dest_bit r.mask) (rw x at tests_of.1.1.1.1.1.0) tests_of.1.1.1.1.1.1.0
      where
        by : (b : Bool) → (not b && true) ≡ false → (b && (leb qp_count d || eqb d q)) ≡ false → (d < qp_count) × (eqb d q ≡ false)
        by true y z = (leb-false qp_count d (or_left (leb qp_count d) (eqb d q) z), or_right (leb qp_count d) (eqb d q) z)
        by false y z = absurd (false≢true (sym y))

    -- flags that are set have no bit above 2
    flagged : has rights_bit r.mask ≡ true → only most_access r.flags ≡ true
    flagged x = not-false (only most_access r.flags) (rw x at tests_of.1.1.1.1.1.1.1.0)

    abbrev p : QueuePair
    p = row_at qp_t l q

    -- the flags after the move are among its old ones, those that are set, and 0
    flags_are : (P : ℕ → Type 0) → P 0 → (has rights_bit r.mask ≡ true → P r.flags) → P p.rights → P (rights_after p.rights r)
    flags_are P at_zero at_set at_old = by (eqb t 0) (has rights_bit r.mask) refl
      where
        by : (a b : Bool) → has rights_bit r.mask ≡ b → P (cond a 0 (cond b r.flags p.rights))
        by true b e = at_zero
        by false true e = at_set e
        by false false e = at_old

    abbrev h : WaitingHead
    h = row_at waiting_t l q

    abbrev p' : QueuePair
    p' = moved_pair p r

    abbrev h' : WaitingHead
    h' = moved_head h t

    abbrev s : WaitingHead
    s = row_at send_head_t l q

    abbrev s' : WaitingHead
    s' = moved_head s t

    moved_fits : Fits pair_codec p'
    unfolding pair_codec Fit
    moved_fits =
        let f = store.pair_fits l q in
        let k = state_small in
        let rights : rights_after p.rights r < 256 ^ 1 =
        flags_are (λ x. x < 256 ^ 1) (omega arith) (λ x. let m = only_most r.flags (flagged x) in omega arith) f.1.1.1.1.1.1.0 in
        (f.0, (f.1.0, (f.1.1.0, (f.1.1.1.0, (omega arith, (by (eqb t 0) (eqb t 2) (λ x. (named x).0) f.1.1.1.1.1.0, (rights, f.1.1.1.1.1.1.1)))))))
      where
        by : (a b : Bool) → (b ≡ true → d < qp_count) → p.dest < 256 ^ 1 → cond a qp_count (cond b d p.dest) < 256 ^ 1
        by true b x y = omega arith
        by false true x y = let w = x refl in omega arith
        by false false x y = y

    rest_fits : (g : WaitingHead) → Fits waiting_codec g → Fits waiting_codec (moved_head g t)
    unfolding waiting_codec Fit
    rest_fits g f = (f.0, (by (eqb t 0) f.1.0, tt))
      where
        by : (a : Bool) → g.count < 256 ^ 1 → cond a 0 g.count < 256 ^ 1
        by true y = omega arith
        by false y = y

    -- the three stores
    abbrev with_move : List ℕ
    with_move = put_row qp_t l q p'

    abbrev with_rest : List ℕ
    with_rest = put_row waiting_t with_move q h'

    moved_only : PairsOnly l (put_row send_head_t with_rest q s') q
    moved_only =
        only_then (only_then (store.qp_row_only l q within p') (store.qp_waiting_only with_move q within h')) (store.qp_sends_only with_rest q within s')

    -- its rows with the head g of its receives and k of its queued sends
    abbrev rows : (g k : WaitingHead) → PairRows
    rows g k = record { flag = row_at qp_flag_t l q; row = p'; head = g; ring = receives_at l q; sends = k; queued = queued_at l q }

    moved_after : pair_at (put_row send_head_t with_rest q s') q ≡ rows h' s'
    unfolding pair_at qp_t waiting_t send_head_t
    moved_after =
        let a = put_row_length qp_t l q p' ∙ ok.sized in
        let b = put_row_length waiting_t with_move q h' ∙ a in
        store.qp_sends_at with_rest q within s' b (rest_fits s (store.sends_fits l q))
        ∙ ap (λ (x : PairRows). record { flag = x.flag; row = x.row; head = x.head; ring = x.ring; sends = s'; queued = x.queued })
        (store.qp_waiting_at with_move q within h' a (rest_fits h (store.waiting_fits l q))
        ∙ ap (λ (x : PairRows). record { flag = x.flag; row = x.row; head = h'; ring = x.ring; sends = x.sends; queued = x.queued })
        (store.qp_row_at l q within p' ok.sized moved_fits))

    -- the rows mean the card's queue pair after the move
    means : qp_of (rows h' s') ≡ moved ((card l).qp q) r
    unfolding qp_of pair_at ring_list
    means = rw (qp_row l q within live, eq-eqb (row_at qp_flag_t l q) 1 live) (by (eqb t 0) (eqb t 2) (λ x. (named x).0))
      where
        by : (a b : Bool) → (b ≡ true → d < qp_count)
            → live_qp (record {
              flag = row_at qp_flag_t l q;
              row =
                  record {
                    pd = p.pd;
                    signal = p.signal;
                    scq = p.scq;
                    rcq = p.rcq;
                    state = t;
                    dest = cond a qp_count (cond b d p.dest);
                    rights = rights_after p.rights r;
                  };
              head = record { first = h.first; count = cond a 0 h.count };
              ring = receives_at l q;
              sends = record { first = s.first; count = cond a 0 s.count };
              queued = queued_at l q;
            })
            ≡ record {
              live = true;
              pd = p.pd;
              signal = p.signal;
              scq = p.scq;
              rcq = p.rcq;
              state = t;
              dest = cond a none (cond b (some d) (dest_of p.dest));
              rights = rights_after p.rights r;
              waiting = cond a [] (map receive_of (posted (pair_at l q)));
              queue = cond a [] (map request_in (queued_in (pair_at l q)));
            }
        by true b x = refl
        by false true x = rw (ne_eqb d qp_count (let w = x refl in omega arith))
        by false false x = refl

    -- the pair's limits, with its receives kept or dropped
    pair_limits : pair_ok q p' ≡ true
    unfolding pair_at
    pair_limits =
        let o = pair_sound l ok q within live in
        let a : Bool = leb p.signal 1 in
        let b : Bool = is_state p.state in
        let f : Bool = only most_access p.rights in
        let c : Bool = leb p.dest qp_count in
        let x : (a && b && f && c) ≡ true = and_left (a && b && f && c) (not (eqb p.dest q)) o.limits in
        let y : (a && b && f) ≡ true = and_left (a && b && f) c x in
        let rights = flags_are (λ x. only most_access x ≡ true) refl flagged (and_right (a && b) f y) in
        rw (and_left a b (and_left (a && b) f y), state_fine, rights)
        (by (eqb t 0) (eqb t 2) named (and_right (a && b && f) c x) (and_right (a && b && f && c) (not (eqb p.dest q)) o.limits))
      where
        by : (a b : Bool) → (b ≡ true → (d < qp_count) × (eqb d q ≡ false)) → leb p.dest qp_count ≡ true → not (eqb p.dest q) ≡ true
            → (leb (cond a qp_count (cond b d p.dest)) qp_count && not (eqb (cond a qp_count (cond b d p.dest)) q)) ≡ true
        by true b x y z = rw (ne_eqb qp_count q (let w = within in omega arith))
        by false true x y z = let w = x refl in let u = w.0 in rw (le-leb d qp_count (omega arith), w.1)
        by false false x y z = rw (y, z)

    -- a state that may have a queue is left for 0 or 6 alone
    moves : is_move p.state t ≡ true
    unfolding pair_at
    moves = rw (qp_row l q within live) at (not-false (is_move ((card l).qp q).state t) tests_of.1.1.1.1.1.1.1.1.1.0)

    queues_still : may_queue p.state ≡ true → eqb t 0 ≡ false → may_queue t ≡ true
    queues_still m z = by (eqb t 6) refl
      where
        none_before : p.state ≤ 2 → may_queue p.state ≡ false
        none_before b = rw (ne_eqb p.state 3 (omega arith), ne_eqb p.state 6 (omega arith))

        by : (b : Bool) → eqb t 6 ≡ b → may_queue t ≡ true
        by true x = rw x (or_true (eqb t 3))
        by false x =
            let y : (eqb t (p.state + 1) && leb t 3) ≡ true = rw (z, x) at moves in
            let u : t ≡ p.state + 1 = eqb-true t (p.state + 1) (and_left (eqb t (p.state + 1)) (leb t 3) y) in
            let v : t ≤ 3 = leb-true t 3 (and_right (eqb t (p.state + 1)) (leb t 3) y) in
            absurd (false≢true (sym (none_before (omega arith)) ∙ m))

    -- its queue is dropped, or was empty, or stands in 6
    queue_sound : (g : WaitingHead) → sends_ok (rows g s') ≡ true
    unfolding pair_at
    queue_sound g = by (eqb t 0) refl
      where
        old : sends_ok (pair_at l q) ≡ true
        old = (pair_sound l ok q within live).queue

        kept : eqb t 0 ≡ false → Dec (s.count ≡ 0) → sends_ok (rows g s) ≡ true
        kept z (yes e) = sends_none (rows g s) (sending (pair_at l q) old).first e
        kept z (no e) = sends_kept (pair_at l q) (rows g s) refl refl (queues_still ((sending (pair_at l q) old).queue e).0 z) old

        by : (a : Bool) → eqb t 0 ≡ a → sends_ok (rows g (record { first = s.first; count = cond a 0 s.count })) ≡ true
        by true z = sends_none (rows g (record { first = s.first; count = 0 })) (sending (pair_at l q) old).first refl
        by false z = kept z (ℕ_discrete s.count 0)

    sound : (g : WaitingHead) → g.first < most_waiting → g.count ≤ most_waiting → all receive_ok (posted (rows g s')) ≡ true
        → qp_sound (card l).pd (cq_live (card l)) q (rows g s') ≡ true
    unfolding pair_at
    sound g f c a =
        let o = pair_sound l ok q within live in
        pairing (card l).pd (cq_live (card l)) q (rows g s')
        (record {
          live = o.live;
          domain = o.domain;
          sends = o.sends;
          receives = o.receives;
          limits = pair_limits;
          first = f;
          count = c;
          waiting = a;
          queue = queue_sound g;
        })

    moved_sound : qp_sound (card l).pd (cq_live (card l)) q (rows h' s') ≡ true
    unfolding pair_at ring_list all
    moved_sound = let o = pair_sound l ok q within live in by (eqb t 0) o.count o.waiting o.first
      where
        by : (a : Bool) → h.count ≤ most_waiting → all receive_ok (posted (pair_at l q)) ≡ true → h.first < most_waiting
            → qp_sound (card l).pd (cq_live (card l)) q (rows (record { first = h.first; count = cond a 0 h.count }) s') ≡ true
        by true x y z = sound (record { first = h.first; count = 0 }) z (omega arith) refl
        by false x y z = sound h z x y

    pub modify_qp_lem : Kept l (Command.modify_qp r)
    unfolding command_bytes command_effect
    modify_qp_lem =
        record {
          meant = pair_card within moved_only ∙ rw (moved_after, means);
          still = pair_accepted ok moved_only (rw moved_after moved_sound);
        }
