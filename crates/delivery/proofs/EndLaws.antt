-- A request that nothing holds, as its code ends: what each part asks and leaves. Assumes nothing.
use mathlib.Core.Path.{◌≡◌, refl, sym, ap, subst, ◌∙◌}
use mathlib.Core.Bool.{true, false, not, false≢true}
use mathlib.Core.List.{List, [], ◌∷◌}
use mathlib.Core.Option.{Option, none, some}
use Prim.Native.Nat.{ℕ, ◌^◌, ◌≤◌, ◌<◌}
use native.Mathlib.Omega.{arith}
use lib.Dec.{lit<}
use lib.ListN.{length, take}
use borrow.Author.Tests.{eq-eqb, ne_eqb}
use Rattle.wire.specs.Checks.{refusal}
use Rattle.wire.proofs.CheckLaws.{passed}
use Rattle.wire.specs.Table.{row_at}
use Rattle.validate.specs.Accept.{accepts}
use Rattle.validate.proofs.AcceptedLaws.{accepted}
use Rattle.tables.specs.State.{card, pair_at, live_qp, no_record}
use Rattle.tables.proofs.ObjectLaws.{qp_below, qp_flag, qp_row}
use Rattle.tables.specs.Layout.{state_size, cq_t, qp_t, waiting_t}
use Rattle.tables.specs.Limits.{cq_count, qp_count, most_places, most_waiting}
use Rattle.tables.specs.declared.QueuePair.{QueuePair}
use Rattle.tables.specs.declared.ReceiveRecord.{ReceiveRecord}
use Rattle.tables.specs.declared.SendRecord.{SendRecord}
use Rattle.tables.specs.declared.Sge.{Sge}
use Rattle.tables.specs.Queue.{push_bytes}
use Rattle.rules.specs.Answer.{answered}
use Rattle.rules.specs.declared.Answer.{Answer}
use Rattle.rules.specs.declared.Answer.TheVariants.{Done, Held}
use Rattle.rules.specs.declared.Cause.TheVariants.{Place}
use Rattle.rules.specs.Bytes.{push_all}
use Rattle.rules.specs.Lists.{is_some}
use Rattle.rules.specs.Send.{hold_checks, ready_checks, is_in_error, sender_put, send_status, send_memory}
use Rattle.rules.specs.Touch.{total}
use Rattle.tables.specs.Records.{Request}
use Rattle.delivery.specs.Meet.{has_place, Sender, bare, ends_at, met_by, holding, is_free}
use Rattle.delivery.specs.Deliver.{is_single, total_by, taken_row, Sending, Delivery}
use Rattle.delivery.specs.Settle.{sender_entry, put_first, settled_bytes, Settling}
use Rattle.delivery.specs.Run.{request_by, Runs, Met, Carried, CarriedOne, Ran, Flushed}
use Rattle.delivery.proofs.RequestLaws.{Told, sending, far_below, first_below, taken_count, status_same, done_short, memory_is}
use Rattle.delivery.proofs.CardLaws.{Open}
use Rattle.delivery.proofs.LimitLaws.{Flushing, flushing}
use Rattle.delivery.proofs.StandLaws.{flush_open, flush_status, flush_bytes_lem}
use Rattle.dma.proofs.SgeLaws.{one_total}
use Rattle.delivery.proofs.MeetLaws.{sender_live, in_error_is, error_stops}
use Rattle.delivery.proofs.SingleLaws.{plain, one, untaken, list_is, single_same}
use Rattle.delivery.proofs.SettleLaws.{put_told}
use Rattle.delivery.proofs.StoreLaws.{settled_is, settling, open_place}
use Rattle.delivery.specs.declared.meet.Ends.{Ends}
use Rattle.std.specs.Prelude.{Ok, Err}

-- the pairs e, the receive w and the total n are those of the request and the state l
pub record Ending (l m : List ℕ) (q : ℕ) (s : SendRecord) (sges : List Sge) (b : List ℕ) (e : Ends) (w : ReceiveRecord) (n : ℕ) : Type 0 where
  pub count : w.count ≤ 2
  pub sending : Sending s sges b n
  pub settling : (st : ℕ) (m' : List ℕ) → Delivery l m e s sges b w n st m' → Settling l e s w st n
  pub carried : (st : ℕ) (m' : List ℕ) → Delivery l m e s sges b w n st m' → Carried l q (request_by s sges b) m st (settled_bytes l e s w st n) m'

module _ (l m : List ℕ) (q : ℕ) (a : accepts l ≡ true) (s : SendRecord) (sges : List Sge) (b : List ℕ) (t : Told s b)
    (good : Runs l q s.opcode) where
  abbrev r : Request
  r = request_by s sges b

  abbrev w0 : ReceiveRecord
  w0 = taken_row l (row_at qp_t l q).dest s.opcode

  abbrev n0 : ℕ
  n0 = total_by s sges b

  status_is : (st : ℕ) (m' : List ℕ) → Delivery l m (ends_at l q) s sges b w0 n0 st m' → st ≡ send_status (card l) q r
  status_is st m' y = y.status ∙ status_same l a q s sges b t good

  total_is : total r ≡ n0
  unfolding total
  total_is = refl

  ending_here : Ending l m q s sges b (ends_at l q) w0 n0
  ending_here =
      record {
        count = taken_count l a q s sges b t good;
        sending = sending s sges b t;
        settling = λ st m' y. settling l a q s sges b t good st (status_is st m' y) n0 (λ i. total_is) (done_short l a q s sges b t good st (status_is st m' y));
        carried =
            λ st m' y. record {
              status = status_is st m' y;
              bytes = settled_is l a q s sges b t good st (status_is st m' y) n0 (λ i. total_is);
              memory = y.memory ∙ memory_is l a q s sges b t good m st (status_is st m' y);
            };
      }

  module _ (e : Ends) (rows_are : e ≡ ends_at l q) where
    pub peer_below : e.d < qp_count
    peer_below = subst (λ (y : Ends). y.d < qp_count) (sym rows_are) (far_below l a q s sges b t good)

    pub head_below : (row_at waiting_t l e.d).first < most_waiting
    head_below = subst (λ (y : Ends). (row_at waiting_t l y.d).first < most_waiting) (sym rows_are) (first_below l a q s sges b t good)

    pub ending : (n : ℕ) → n ≡ n0 → (w : ReceiveRecord) → w ≡ taken_row l e.d s.opcode → Ending l m q s sges b e w n
    ending n j w k =
        let k0 : w ≡ w0 = k ∙ ap (λ (y : Ends). taken_row l y.d s.opcode) rows_are in
        subst (λ (y : Ends). Ending l m q s sges b y w n) (sym rows_are)
        (subst (λ (y : ℕ). Ending l m q s sges b (ends_at l q) w y) (sym j)
        (subst (λ (y : ReceiveRecord). Ending l m q s sges b (ends_at l q) y n0) (sym k0) ending_here))

-- ---- a write or a read of one entry x

module _ (l m : List ℕ) (e : Ends) (a : accepts l ≡ true) (s : SendRecord) (i : is_single s ≡ true) (x : Sge) (wr : s.wr < 2 ^ 64) (imm : s.imm < 2 ^ 32)
    (met : Met l e s.opcode) where
  single_told : (b : List ℕ) → Told s b
  single_told b =
      record {
        limits =
            record {
              plain = λ h. (let c = one s i in omega arith);
              short = λ h. absurd (false≢true (sym (plain s i) ∙ h));
              there = λ h. absurd (false≢true (sym (plain s i) ∙ h));
            };
        wr = wr;
        imm = imm;
      }

  single_ending : (sges : List Sge) (b : List ℕ) → take s.count sges ≡ x ∷ [] → Ending l m e.q s sges b e no_record x.length
  single_ending sges b is =
      let n : total_by s sges b ≡ x.length = rw (plain s i, is) (one_total x) in
      let w : taken_row l e.d s.opcode ≡ no_record = rw (untaken s i) in
      ending l m e.q a s sges b (single_told b) met.good e met.rows x.length (sym n) no_record (sym w)

  -- its delivery with the status st
  module _ (st : ℕ) (m' : List ℕ) (d : Delivery l m e s (x ∷ []) [] no_record x.length st m') where
    pub single_settling : Settling l e s no_record st x.length
    single_settling = (single_ending (x ∷ []) [] (list_is s i x)).settling st m' d

    pub single_carried : (l' : List ℕ) → l' ≡ settled_bytes l e s no_record st x.length → CarriedOne l e.q s x m st l' m'
    single_carried l' k sges b is =
        let y = (single_ending sges b is).carried st m' (single_same s i x l m e sges is b no_record x.length refl st m' d) in
        record { status = y.status; bytes = k ∙ y.bytes; memory = y.memory }

-- ---- the tests that hold a request, by how they ended

module _ (l : List ℕ) (q o : ℕ) where
  abbrev first : Option ℕ
  first = refusal (hold_checks (card l) q (bare o))

  pub free_passes : is_free l q o ≡ true → first ≡ none
  free_passes i = go first i
    where
      go : (k : Option ℕ) → not (is_some k) ≡ true → k ≡ none
      go none h = refl
      go (some n) h = absurd (false≢true h)

  -- the pairs that passed
  met_ends : (e : Ends) → Ok e ≡ holding l q o → (e ≡ ends_at l q) × (first ≡ none)
  met_ends e i = go first refl i
    where
      go : (k : Option ℕ) → first ≡ k → Ok e ≡ met_by k (ends_at l q) → (e ≡ ends_at l q) × (first ≡ none)
      go none j i = (cc, j)
      go (some n) j i = let z : ◌≡◌ {A = ℕ} 0 1 = cc in absurd (omega arith)

  pub is_met : ((card l).qp q).live ≡ true → is_in_error ((card l).qp q) ≡ false → (e : Ends) → Ok e ≡ holding l q o → Met l e o
  is_met lives h e i =
      let y = met_ends e i in
      let z : e.q ≡ q = ap (λ (k : Ends). k.q) y.0 in
      let g : Runs l q o = record { live = lives; good = y.1; runs = h } in
      record { rows = y.0 ∙ ap (ends_at l) (sym z); good = subst (λ (k : ℕ). Runs l k o) (sym z) g }

  -- the request r has the opcode o
  module _ (r : Request) (is : r.opcode ≡ o) (m : List ℕ) where
    same_tests : refusal (hold_checks (card l) q r) ≡ first
    unfolding hold_checks ready_checks
    same_tests = rw is

    pub ran_carried : first ≡ none → (st : ℕ) (l' m' : List ℕ) → Carried l q r m st l' m' → Ran hold_checks l q r m (Done st) l' m'
    ran_carried f st l' m' k =
        let g : refusal (hold_checks (card l) q r) ≡ none = same_tests ∙ f in
        record { answer = rw g (ap Done k.status); bytes = rw g k.bytes; memory = rw g k.memory }

    pub ran_on : (e : Ends) → Ok e ≡ holding l q o → (st : ℕ) (l' m' : List ℕ) → Carried l e.q r m st l' m' →
        Ran hold_checks l q r m (Done st) l' m'
    ran_on e i st l' m' k =
        let y = met_ends e i in
        ran_carried y.1 st l' m' (subst (λ (j : ℕ). Carried l j r m st l' m') (ap (λ (k : Ends). k.q) y.0) k)

    pub held : (n : ℕ) → first ≡ some n → Ran hold_checks l q r m (answered 0 (some n)) l m
    held n f =
        let g : refusal (hold_checks (card l) q r) ≡ some n = same_tests ∙ f in
        record { answer = rw g; bytes = rw g; memory = rw g }

    pub stopped : (a : Answer) → Err a ≡ holding l q o → Ran hold_checks l q r m a l m
    stopped a i = go first refl i
      where
        go : (k : Option ℕ) → first ≡ k → Err a ≡ met_by k (ends_at l q) → Ran hold_checks l q r m a l m
        go none j i = let z : ◌≡◌ {A = ℕ} 0 1 = cc in absurd (omega arith)
        go (some n) j i =
            let z : answered 0 (some n) ≡ a = cc in
            subst (λ (k : Answer). Ran hold_checks l q r m k l m) z (held n j)

-- ---- a request that is flushed

module _ (l m : List ℕ) (q : ℕ) (a : accepts l ≡ true) (lives : ((card l).qp q).live ≡ true) (errs : is_in_error ((card l).qp q) ≡ true) (s : SendRecord)
    (sges : List Sge) (b : List ℕ) (wr : s.wr < 2 ^ 64) (free : refusal (hold_checks (card l) q (bare s.opcode)) ≡ none) (own : QueuePair)
    (at : own ≡ row_at qp_t l q) where
  abbrev asked : Request
  asked = request_by s sges b

  f : Flushing (card l) q
  f = flushing (card l) q asked errs lives (passed (hold_checks (card l) q asked) (same_tests l q s.opcode asked refl m ∙ free))

  row_is : (card l).qp q ≡ live_qp (pair_at l q)
  row_is = qp_row l q (qp_below l q f.live) (qp_flag l q f.live)

  -- what its completion asks
  pub flush_asks : (q < qp_count) × (own.scq < cq_count) × (length l ≡ state_size) × ((row_at cq_t l own.scq).count < most_places)
  unfolding pair_at
  flush_asks =
      let o : Open l own.scq = rw (row_is, ← at) at (flush_open l (accepted l a) q asked wr f) in
      (qp_below l q f.live, o.below, (accepted l a).sized, open_place l (accepted l a) own.scq o)

  put_is : sender_put (card l) q asked 4 ∷ [] ≡ put_first q own s 4 0
  unfolding pair_at
  put_is = rw (row_is, at)

  pub flush_carried : (l' : List ℕ) → l' ≡ push_bytes l own.scq (sender_entry q s.wr s.opcode 4 0) → Carried l q asked m 4 l' m
  unfolding send_memory
  flush_carried l' e =
      let st = flush_status l (accepted l a) q asked wr f in
      record {
        status = sym st;
        bytes = e ∙ put_told l q own s 4 0 refl ∙ ap (push_all l) (sym put_is) ∙ sym (flush_bytes_lem l (accepted l a) q asked wr f);
        memory = rw st;
      }

-- the same of the row own of a queue pair, and a request of the head s
module _ (l : List ℕ) (q : ℕ) (own : QueuePair) (at : Sender l q own) (s : SendRecord) where
  abbrev o : ℕ
  o = s.opcode

  pub errs_then : own.state ≡ 6 → is_in_error ((card l).qp q) ≡ true
  errs_then h = in_error_is l q o own at ∙ eq-eqb own.state 6 h

  pub runs_then : (own.state ≡ 6 → ⊥) → is_in_error ((card l).qp q) ≡ false
  runs_then h = in_error_is l q o own at ∙ ne_eqb own.state 6 h

  -- it is in error
  module _ (six : own.state ≡ 6) where
    pub flush_held : has_place l own ≡ false → Flushed l q s (Held Place) l
    flush_held h sges b m = held l q o (request_by s sges b) refl m 6 (error_stops l q o own at six h)

    module _ (wr : s.wr < 2 ^ 64) (free : refusal (hold_checks (card l) q (bare o)) ≡ none) where
      pub flush_needs : (q < qp_count) × (own.scq < cq_count) × ((row_at cq_t l own.scq).count < most_places)
      flush_needs =
          let f : (q < qp_count) × (own.scq < cq_count) × (length l ≡ state_size) × ((row_at cq_t l own.scq).count < most_places) =
          flush_asks l [] q at.accepted (sender_live l q o own at) (errs_then six) s [] [] wr free own at.row in
          (f.0, f.1, f.3)

      module _ (l' : List ℕ) (is : l' ≡ push_bytes l own.scq (sender_entry q s.wr o 4 0)) where
        pub flush_leaves : (sges : List Sge) (b m : List ℕ) → Carried l q (request_by s sges b) m 4 l' m
        flush_leaves sges b m =
            flush_carried l m q at.accepted (sender_live l q o own at) (errs_then six) s sges b wr free own at.row l' is

        pub flush_done : Flushed l q s (Done 4) l'
        flush_done sges b m = ran_carried l q o (request_by s sges b) refl m free 4 l' m (flush_leaves sges b m)

  -- it is not, and nothing holds the request
  module _ (other : own.state ≡ 6 → ⊥) (free : refusal (hold_checks (card l) q (bare o)) ≡ none) where
    goes_on : Runs l q o
    goes_on = record { live = sender_live l q o own at; good = free; runs = runs_then other }

    -- whatever the request is but for its opcode
    pub dest_below : own.dest < qp_count
    dest_below =
        let h : SendRecord = record { wr = 0; opcode = o; flags = 0; imm = 0; address = 0; key = 0; count = 0 } in
        let t : Told h [] = record {
          limits = record { plain = λ i. omega arith; short = λ i. omega arith; there = λ i. absurd (false≢true i) };
          wr = lit< tt;
          imm = lit< tt;
        } in
        rw at.row (peer_below l [] q at.accepted h [] [] t goes_on (ends_at l q) refl)

    pub met_rows : (far : QueuePair) → far ≡ row_at qp_t l own.dest → Met l (record { q = q; own = own; d = own.dest; far = far }) o
    met_rows far is = record { rows = rw (is, at.row); good = goes_on }
