-- What a dropped region means for a receive that waits on it, and for a remote key. Assumes nothing.
use mathlib.Core.Path.{◌≡◌, refl, sym, ap, ◌∙◌}
use mathlib.Core.Bool.{Bool, true, false, not, ◌&&◌, true≢false}
use mathlib.Core.List.{List, [], ◌∷◌}
use mathlib.Core.Option.{Option, none, some}
use Prim.Native.Nat.{ℕ, zero, suc, ◌/◌, ◌%◌, ◌≤◌, ◌<◌}
use native.Mathlib.Omega.{arith}
use lib.Dec.{eqb, leb}
use lib.ListN.{length, get_or}
use borrow.Author.Tests.{ne_eqb, eqb-true, leb-true, leb-false, le-leb}
use Rattle.wire.specs.Checks.{Check, refusal, Passed}
use Rattle.wire.proofs.ScanLaws.{and_left, and_right, both_true}
use Rattle.wire.specs.Scan.{all}
use Rattle.wire.specs.Slots.{upd}
use Rattle.wire.proofs.SlotLaws.{split, same}
use Rattle.tables.specs.Limits.{mr_count}
use Rattle.tables.specs.Card.{Card, Mr, Qp, free_mr, tail}
use Rattle.tables.specs.Commands.{Command}
use Rattle.tables.specs.declared.Registration.{Registration}
use Rattle.validate.specs.Search.{last_variant, retired, free_mrn}
use Rattle.rules.specs.declared.Answer.TheVariants.{Done}
use Rattle.rules.specs.Answer.{is_done}
use Rattle.rules.specs.Call.{Call}
use Rattle.rules.specs.Calls.{checks, memory_checks, effect, status_of, memory_after, settled, step}
use Rattle.rules.specs.Touch.{fills, takes, total, sge_total, far_bytes}
use Rattle.tables.specs.Records.{Request, request_of}
use Rattle.rules.specs.Permit.{key_of, found, lookup, covers, permits, permits_all}
use Rattle.rules.specs.Control.{range_checks, registration_checks, command_checks, command_effect, new_variant, registered}
use Rattle.rules.specs.Pages.{page_range_checks, page_list_checks}
use Rattle.rules.specs.Send.{delivery_checks, queue_checks, ready, peer_of, taken_by, far_use, error_if, consume_if, send_status, send_memory, send_qps, send_puts, send_effect, pair_checks, ready_checks, place_checks, hold_checks, run_status}
use Rattle.rules.proofs.Answers.{answered_not_done}
use Rattle.rules.proofs.Tests.{passed_after}
use Rattle.rules.proofs.Variants.{slot_free, new_small, slot}
use Rattle.rules.specs.Dropped.{Fails, Denied, LostBy, Lost, Reaches, far_key, StaleFails, DroppedRegion, HeldStays, KeysDropped, Spent, DropSpends, OldKeysGone, DropRetires, StaysRetired, LargestKey, OldKeyStale, NewKeyStands}

and_false : (b : Bool) → (b && false) ≡ false
and_false true = refl
and_false false = refl

all_fails : {A : Type 0} (p : A → Bool) (xs : List A) (i : ℕ) (d : A) → i < length xs → p (get_or xs i d) ≡ false → all p xs ≡ false
unfolding all
all_fails p [] i d h e = absurd (omega arith)
all_fails p (x ∷ xs) zero d h e = rw e
all_fails p (x ∷ xs) (suc i) d h e = rw (all_fails p xs i d (omega arith) e) (and_false (p x))

fill_takes : (o : ℕ) → fills o ≡ true → takes o ≡ true
fill_takes o e =
    let a : 2 ≤ o = leb-true 2 o (and_left (leb 2 o) (leb o 3) e) in
    both_true (leb 1 o) (leb o 3) (le-leb 1 o (omega arith)) (and_right (leb 2 o) (leb o 3) e)

-- a byte under a key that no region has
module _ (c : Card) (q : ℕ) (r : Request) (i : ℕ) (s : Reaches c q r i) (k : lookup c.mr (far_key c q r i) ≡ none) where
  far_fails : permits_all c (peer_of c q) (far_use r.opcode) (far_bytes r (taken_by c q)) ≡ false
  unfolding permits_all permits covers
  far_fails =
      all_fails (permits c (peer_of c q) (far_use r.opcode)) (far_bytes r (taken_by c q)) i (record { address = 0; key = 0 }) s.within (rw k refl)

  status_7 : fills r.opcode ≡ true → send_status c q r ≡ 7
  unfolding send_status run_status
  status_7 e = rw (s.running, far_fails, s.own, s.short, s.fits e, e)

  status_8 : fills r.opcode ≡ false → send_status c q r ≡ 8
  unfolding send_status run_status
  status_8 e = rw (s.running, far_fails, s.own, s.short, e)

-- the queue pairs after status 7, over the sender and the peer
module _ (f : ℕ → Qp) (q d : ℕ) where
  abbrev after_7 : ℕ → Qp
  after_7 = error_if true d (consume_if true d (error_if true q f))

  peer_after : ((after_7 d).state ≡ 6) × ((after_7 d).waiting ≡ tail (f d).waiting)
  peer_after = rw (same d) (refl, ap tail (go (eqb q d) refl))
    where
      go : (b : Bool) → eqb q d ≡ b → (error_if true q f d).waiting ≡ (f d).waiting
      go true e = rw e (ap (λ (x : ℕ). (f x).waiting) (eqb-true q d e))
      go false e = rw e

  sender_after : (after_7 q).state ≡ 6
  sender_after = go (eqb d q) refl
    where
      go : (b : Bool) → eqb d q ≡ b → (after_7 q).state ≡ 6
      go true e = rw e
      go false e = rw (e, same q)

-- what the request gets, by its status
fails : (c : Card) (q : ℕ) (r : Request) (m : List ℕ) → fills r.opcode ≡ true → leb (total r) (sge_total (taken_by c q).sges) ≡ true →
    send_status c q r ≡ 7 → Fails c (send_effect c q r) q r (Done (send_status c q r)) m (send_memory c q r m)
unfolding send_effect send_qps send_puts send_memory
fails c q r m f s e =
    let t : takes r.opcode ≡ true = fill_takes r.opcode f in
    record {
      answer = rw e;
      memory = rw e;
      puts = rw (e, t);
      receiver = rw s;
      consumed = rw (e, t) (peer_after c.qp q (peer_of c q)).1;
      sender_state = rw (e, t) (sender_after c.qp q (peer_of c q));
      peer_state = rw (e, t) (peer_after c.qp q (peer_of c q)).0;
    }

denied : (c : Card) (q : ℕ) (r : Request) (m : List ℕ) → send_status c q r ≡ 8 →
    Denied c (send_effect c q r) q r (Done (send_status c q r)) m (send_memory c q r m)
unfolding send_effect send_qps send_puts send_memory
denied c q r m e =
    record {
      answer = rw e;
      memory = rw e;
      puts = rw (e, and_false (takes r.opcode));
      sender_state = rw (e, and_false (takes r.opcode), same q);
      others = λ j n. rw (e, and_false (takes r.opcode), n);
    }

pub lost : (c : Card) (q : ℕ) (r : Request) (m : List ℕ) (i : ℕ) → Reaches c q r i → lookup c.mr (far_key c q r i) ≡ none →
    Lost c (send_effect c q r) q r (Done (send_status c q r)) m (send_memory c q r m)
lost c q r m i s k = go (fills r.opcode) refl
  where
    go : (b : Bool) → fills r.opcode ≡ b → LostBy b c (send_effect c q r) q r (Done (send_status c q r)) m (send_memory c q r m)
    go true e = fails c q r m e (s.fits e) (status_7 c q r i s k e)
    go false e = denied c q r m (status_8 c q r i s k e)

pub stale_fails : StaleFails
unfolding StaleFails step effect memory_after status_of
stale_fails c q x m i d s k = go (refusal (checks c (Call.send q x m))) d
  where
    go : (o : Option ℕ) → is_done (settled o c (Call.send q x m)).answer ≡ true →
        Lost c (settled o c (Call.send q x m)).card q (request_of x) (settled o c (Call.send q x m)).answer m (settled o c (Call.send q x m)).memory
    go none e = lost c q (request_of x) m i s k
    go (some n) e = absurd (true≢false (sym e ∙ answered_not_done n))

pub keys_dropped : KeysDropped
unfolding KeysDropped command_effect lookup
keys_dropped c n k e = (rw (e, same n), refl)

pub dropped_region : DroppedRegion
unfolding DroppedRegion StaleFails KeysDropped
dropped_region c n q x m i d s e =
    let c₁ = command_effect c (Command.deregister n) in
    stale_fails c₁ q x m i d s (keys_dropped c n (far_key c₁ q (request_of x) i) e).0

-- no test of a post send looks at a region
module _ (c : Card) (n q : ℕ) where
  same_ready : (o : Option ℕ) → ready (command_effect c (Command.deregister n)) q o ≡ ready c q o
  unfolding command_effect
  same_ready none = refl
  same_ready (some d) = refl

  pub same_checks : (x m : List ℕ) → checks (command_effect c (Command.deregister n)) (Call.send q x m) ≡ checks c (Call.send q x m)
  unfolding checks memory_checks pair_checks queue_checks ready_checks place_checks hold_checks delivery_checks command_effect
  same_checks x m = rw (same_ready (c.qp q).dest)

pub held_stays : HeldStays
unfolding HeldStays step
held_stays c n q x m d = go (refusal (checks c (Call.send q x m))) refl d
  where
    c₁ : Card
    c₁ = command_effect c (Command.deregister n)

    go : (o : Option ℕ) → refusal (checks c (Call.send q x m)) ≡ o → is_done (settled o c (Call.send q x m)).answer ≡ false →
        (settled (refusal (checks c₁ (Call.send q x m))) c₁ (Call.send q x m)).answer
        ≡ (settled (refusal (checks c (Call.send q x m))) c (Call.send q x m)).answer
    go none e h = absurd (true≢false h)
    go (some i) e h = rw (same_checks c n q x m, e)

pub old_key_stale : OldKeyStale
unfolding OldKeyStale lookup
old_key_stale c g ps k e h = rw (e, same (free_mrn c), ne_eqb (key_of (free_mrn c) (new_variant c)) k (λ p. h (sym p)))

pub new_key_stands : NewKeyStands
unfolding NewKeyStands lookup
new_key_stands c g ps h =
    (rw (slot (free_mrn c) (new_variant c) (new_small c h), same (free_mrn c), same (key_of (free_mrn c) (new_variant c))), refl)

-- ---- a key that was handed out and dropped

module _ (c : Card) (k : ℕ) where
  -- the slot of the key, by its number
  at_slot : Spent c k → (j : ℕ) → k / 256 ≡ j → (k % 256 ≤ (c.mr j).variant) × (found (c.mr j) j k ≡ none)
  unfolding lookup
  at_slot s j e = rw (← e) (s.handed.1, s.gone)

  spent_registers : (g : Registration) (ps : List ℕ) → Spent c k → Spent (registered c g ps) k
  unfolding lookup
  spent_registers g ps s =
      let i : ℕ = free_mrn c in
      let new : Mr = record { live = true; variant = new_variant c; reg = g; pages = ps } in
      let both =
      split i (λ j. k / 256 ≡ j → (k % 256 ≤ (upd c.mr i new j).variant) × (found (upd c.mr i new j) j k ≡ none))
      (λ e. (let h = (at_slot s i e).0 in rw (same i) (omega arith, rw (ne_eqb (key_of i (new_variant c)) k (λ p. omega arith)))))
      (λ j n e. rw n (at_slot s j e)) (k / 256) refl in
      record { handed = (s.handed.0, both.0); gone = both.1 }

  spent_deregisters : (i : ℕ) → Spent c k → Spent (command_effect c (Command.deregister i)) k
  unfolding command_effect lookup
  spent_deregisters i s =
      let both =
      split i (λ j. k / 256 ≡ j → (k % 256 ≤ (upd c.mr i (free_mr (c.mr i).variant) j).variant) × (found (upd c.mr i (free_mr (c.mr i).variant) j) j k ≡ none))
      (λ e. rw (same i) ((at_slot s i e).0, refl))
      (λ j n e. rw n (at_slot s j e)) (k / 256) refl in
      record { handed = (s.handed.0, both.0); gone = both.1 }

pub drop_spends : DropSpends
unfolding DropSpends KeysDropped command_effect
drop_spends c k h = record { handed = (h.0, rw (same (k / 256)) h.1); gone = (keys_dropped c (k / 256) k refl).0 }

spent_command : (c : Card) (k : ℕ) (x : Command) → Spent c k → Spent (command_effect c x) k
unfolding command_effect
spent_command c k Command.query_device s = s
spent_command c k Command.query_port s = s
spent_command c k (Command.create_cq n) s = record { handed = s.handed; gone = s.gone }
spent_command c k (Command.destroy_cq n) s = record { handed = s.handed; gone = s.gone }
spent_command c k Command.create_pd s = record { handed = s.handed; gone = s.gone }
spent_command c k (Command.destroy_pd n) s = record { handed = s.handed; gone = s.gone }
spent_command c k (Command.register g) s = spent_registers c k g [] s
spent_command c k (Command.deregister n) s = spent_deregisters c k n s
spent_command c k (Command.create_qp r) s = record { handed = s.handed; gone = s.gone }
spent_command c k (Command.modify_qp r) s = record { handed = s.handed; gone = s.gone }
spent_command c k (Command.destroy_qp q) s = record { handed = s.handed; gone = s.gone }

pub old_keys_gone : OldKeysGone
unfolding OldKeysGone
old_keys_gone c k s = (λ x. spent_command c k x s, λ g ps. spent_registers c k g ps s)

-- ---- a slot whose last variant was dropped

pub drop_retires : DropRetires
unfolding DropRetires command_effect
drop_retires c n e = rw (same n, e)

stays_registers : (c : Card) (n : ℕ) (g : Registration) (ps : List ℕ) → free_mrn c < mr_count → retired (c.mr n) ≡ true →
    retired ((registered c g ps).mr n) ≡ true
stays_registers c n g ps b =
    split (free_mrn c) (λ j. retired (c.mr j) ≡ true → retired (upd c.mr (free_mrn c) new j) ≡ true)
    (λ h. (let last = leb-true last_variant taken.variant (and_right (not taken.live) (leb last_variant taken.variant) h) in
    let left = (slot_free c b).1 in absurd (omega arith)))
    (λ j e h. rw e h) n
  where
    taken : Mr
    taken = c.mr (free_mrn c)

    new : Mr
    new = record { live = true; variant = new_variant c; reg = g; pages = ps }

stays_deregisters : (c : Card) (n i : ℕ) → not (c.mr i).live ≡ false → retired (c.mr n) ≡ true →
    retired ((command_effect c (Command.deregister i)).mr n) ≡ true
unfolding command_effect
stays_deregisters c n i live =
    split i (λ j. retired (c.mr j) ≡ true → retired (upd c.mr i (free_mr (c.mr i).variant) j) ≡ true)
    (λ h. absurd (true≢false (sym (and_left (not (c.mr i).live) (leb last_variant (c.mr i).variant) h) ∙ live)))
    (λ j e h. rw e h) n

slot_of : (c : Card) (g : Registration) (range : List Check) → Passed (registration_checks c g range) → free_mrn c < mr_count
slot_of c g range p = let b = leb-false _ (free_mrn c) (passed_after range _ p.1.1).0 in omega arith

-- a registration that passes its tests has a slot
pub has_slot : (c : Card) (g : Registration) → Passed (command_checks c (Command.register g)) → free_mrn c < mr_count
unfolding command_checks
has_slot c g p = slot_of c g (range_checks c g) p

-- and so has one over pages
pub has_slot_paged : (c : Card) (g : Registration) (ps : List ℕ) → Passed (page_list_checks c g ps) → free_mrn c < mr_count
unfolding page_list_checks
has_slot_paged c g ps p = slot_of c g (page_range_checks c g ps) p

stays_command : (c : Card) (n : ℕ) (x : Command) → Passed (command_checks c x) → retired (c.mr n) ≡ true → retired ((command_effect c x).mr n) ≡ true
unfolding command_checks command_effect
stays_command c n Command.query_device p h = h
stays_command c n Command.query_port p h = h
stays_command c n (Command.create_cq i) p h = h
stays_command c n (Command.destroy_cq i) p h = h
stays_command c n Command.create_pd p h = h
stays_command c n (Command.destroy_pd i) p h = h
stays_command c n (Command.register g) p h = stays_registers c n g [] (has_slot c g p) h
stays_command c n (Command.deregister i) p h = stays_deregisters c n i p.0 h
stays_command c n (Command.create_qp r) p h = h
stays_command c n (Command.modify_qp r) p h = h
stays_command c n (Command.destroy_qp q) p h = h

pub stays_retired : StaysRetired
unfolding StaysRetired
stays_retired c n h = (λ x p. stays_command c n x p h, λ g ps p. stays_registers c n g ps (has_slot_paged c g ps p) h)

slot_key : (c : Card) → free_mrn c < mr_count → key_of (free_mrn c) (new_variant c) ≤ 65535
slot_key c b = let v = new_small c b in omega arith

pub largest_key : LargestKey
unfolding LargestKey
largest_key c g = (λ p. slot_key c (has_slot c g p), λ ps p. slot_key c (has_slot_paged c g ps p))
