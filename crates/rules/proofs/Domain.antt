-- What a domain's answer may depend on. Assumes nothing.
use mathlib.Core.Path.{◌≡◌, refl, sym, ap, ap₂, ◌∙◌}
use mathlib.Core.Logic.{◌⊎◌, inl, inr}
use mathlib.Core.Bool.{Bool, true, false, cond, not, ◌&&◌, ◌||◌, true≢false, false≢true}
use mathlib.Core.List.{List, [], ◌∷◌, ◌++◌, map}
use mathlib.Core.Option.{Option, none, some, some-ne-none}
use Prim.Native.Nat.{ℕ, ◌+◌, ◌*◌, ◌/◌, ◌≤◌}
use native.Mathlib.Omega.{arith}
use lib.Dec.{eqb, ltb, leb}
use lib.ListN.{length, get_or}
use borrow.Author.Tests.{eq-eqb, eqb-true, leb-true, ltb-true, not-false}
use Rattle.wire.specs.Checks.{refusal, Passed}
use Rattle.wire.specs.Scan.{all}
use Rattle.wire.proofs.CheckLaws.{passed}
use Rattle.wire.proofs.ScanLaws.{and_left, and_right, and_off, leb_same}
use Rattle.validate.specs.Accept.{accepts}
use Rattle.tables.specs.Card.{Card, Cq, Mr, Qp}
use Rattle.tables.specs.Limits.{qp_count, most_message}
use Rattle.tables.specs.Records.{send_checks}
use Rattle.tables.specs.State.{card}
use Rattle.tables.specs.declared.Registration.{Registration}
use Rattle.rules.specs.declared.Party.{Party}
use Rattle.rules.specs.declared.Answer.TheVariants.{Done}
use Rattle.rules.specs.Answer.{code_of}
use Rattle.rules.specs.Call.{Call}
use Rattle.rules.specs.Calls.{checks, memory_checks, status_of, value_of, effect, memory_after, owed_checks}
use Rattle.rules.specs.Domain.{owns_pair, owns_region, free_places, Agree, Same, OwnAlone}
use Rattle.rules.specs.Lists.{is_empty, or_else, stored}
use Rattle.rules.specs.Permit.{Use, granted, opens, covers, found, key_of, lookup, party_of, permits, permits_all, place}
use Rattle.rules.specs.Send.{Put, put_all, peer_of, oldest, taken_by, ready, room, has_places, is_in_error, pair_checks, queue_checks, ready_checks, place_checks, hold_checks, delivery_checks, own_use, far_use, status_by, run_status, send_status, send_puts, send_effect, send_memory}
use Rattle.rules.specs.Touch.{Byte, takes, fills, reads, total, sge_total, own_bytes, far_bytes, target_bytes, message, delivered}
use Rattle.tables.specs.Records.{Request, request_of}
use Rattle.rules.proofs.Tests.{passed_after, refusal_append}

-- ---- what two views of one number show

same_view : {A : Type 0} (x y : Bool) (u v : A) → cond x (some u) none ≡ cond y (some v) none → x ≡ true → (y ≡ true) × (u ≡ v)
same_view true true u v e h = (refl, cc)
same_view true false u v e h = absurd (some-ne-none u e)
same_view false y u v e h = absurd (false≢true h)

no_view : {A : Type 0} (x y : Bool) (u v : A) → cond x (some u) none ≡ cond y (some v) none → x ≡ false → y ≡ false
no_view false false u v e h = refl
no_view false true u v e h = absurd (some-ne-none v (sym e))
no_view true y u v e h = absurd (true≢false h)

both : (x y : Bool) → x ≡ true → y ≡ true → (x && y) ≡ true
both x y e f = rw (e, f)

and_not : (x y : Bool) → x ≡ false → (x && y) ≡ false
and_not x y e = rw e

and_false : (b : Bool) → (b && false) ≡ false
and_false true = refl
and_false false = refl

-- ---- a region of another domain covers nothing

foreign : (a : ℕ) (s : Mr) (n k : ℕ) (p : Party) (u : Use) (x : ℕ) → p.pd ≡ a → (s.live && eqb s.reg.pd a) ≡ false → covers (found s n k) p u x ≡ false
unfolding covers
foreign a s n k p u x e h = go s.live refl (eqb (key_of n s.variant) k)
  where
    go : (live : Bool) → s.live ≡ live → (is : Bool) → covers (cond (live && is) (some s.reg) none) p u x ≡ false
    go false f is = refl
    go true f false = refl
    go true f true = let z : eqb s.reg.pd a ≡ false = and_off s.live (eqb s.reg.pd a) h f in rw (e, z)

-- the key's region, where it covers the address
found_is : (s : Mr) (n k : ℕ) (p : Party) (u : Use) (x : ℕ) → covers (found s n k) p u x ≡ true → found s n k ≡ some s.reg
unfolding covers
found_is s n k p u x e = go (s.live && eqb (key_of n s.variant) k) e
  where
    go : (b : Bool) → covers (cond b (some s.reg) none) p u x ≡ true → cond b (some s.reg) none ≡ some s.reg
    go true e = refl
    go false e = absurd (false≢true e)

room_same : (s t : Cq) (k : ℕ) → free_places s ≡ free_places t → 1 ≤ k → room s k ≡ room t k
room_same s t k e h =
    leb_same (length s.entries + k) s.places (length t.entries + k) t.places (λ x. omega arith) (λ x. omega arith)

one_or_two : (b : Bool) → 1 ≤ cond b 2 1
one_or_two true = omega arith
one_or_two false = omega arith

module _ (a q : ℕ) (c d : Card) (m n : List ℕ) (g : Agree a q c d m n) where
  -- ---- the sender and its peer

  own : c.qp q ≡ d.qp q
  own = (same_view (owns_pair a c q) (owns_pair a d q) (c.qp q) (d.qp q) (g.pairs q) g.here).1

  own_domain : (c.qp q).pd ≡ a
  own_domain = eqb-true (c.qp q).pd a (and_right (c.qp q).live (eqb (c.qp q).pd a) g.here)

  peer_is : peer_of c q ≡ peer_of d q
  peer_is = ap (λ (s : Qp). or_else s.dest qp_count) own

  -- the named peer is the same in both, or live in neither
  peer : (j : ℕ) → (c.qp q).dest ≡ some j → (c.qp j ≡ d.qp j) ⊎ (((c.qp j).live ≡ false) × ((d.qp j).live ≡ false))
  peer j e = go (c.qp j).live refl (d.qp j).live refl
    where
      go : (x : Bool) → (c.qp j).live ≡ x → (y : Bool) → (d.qp j).live ≡ y → (c.qp j ≡ d.qp j) ⊎ (((c.qp j).live ≡ false) × ((d.qp j).live ≡ false))
      go true h y k =
          inl (same_view (owns_pair a c j) (owns_pair a d j) (c.qp j) (d.qp j) (g.pairs j)
          (both (c.qp j).live (eqb (c.qp j).pd a) h (eq-eqb (c.qp j).pd a (g.inside j e h)))).1
      go false h false k = inr (h, k)
      go false h true k =
          let f : (d.qp q).dest ≡ some j = ap (λ (s : Qp). s.dest) (sym own) ∙ e in
          let y : owns_pair a d j ≡ true = both (d.qp j).live (eqb (d.qp j).pd a) k (eq-eqb (d.qp j).pd a (g.inside' j f k)) in
          let z : owns_pair a d j ≡ false =
          no_view (owns_pair a c j) (owns_pair a d j) (c.qp j) (d.qp j) (g.pairs j) (and_not (c.qp j).live (eqb (c.qp j).pd a) h) in
          absurd (true≢false (sym y ∙ z))

  ready_same : ready c q (c.qp q).dest ≡ ready d q (d.qp q).dest
  ready_same = go (c.qp q).dest refl ∙ ap (λ (s : Qp). ready d q s.dest) own
    where
      go : (o : Option ℕ) → (c.qp q).dest ≡ o → ready c q o ≡ ready d q o
      go none e = refl
      go (some j) e = at (peer j e)
        where
          at : (c.qp j ≡ d.qp j) ⊎ (((c.qp j).live ≡ false) × ((d.qp j).live ≡ false)) → ready c q (some j) ≡ ready d q (some j)
          at (inl s) = rw s
          at (inr s) = rw (s.0, s.1)

  -- a peer that is ready
  record Living : Type 0 where
    same : c.qp (peer_of c q) ≡ d.qp (peer_of d q)
    free : free_places (c.cq (c.qp (peer_of c q)).rcq) ≡ free_places (d.cq (d.qp (peer_of d q)).rcq)
    domain : (c.qp (peer_of c q)).pd ≡ a

  living : ready c q (c.qp q).dest ≡ true → Living
  living r = go (c.qp q).dest refl r
    where
      go : (o : Option ℕ) → (c.qp q).dest ≡ o → ready c q o ≡ true → Living
      go none e r = absurd (false≢true r)
      go (some j) e r = at (peer j e)
        where
          lives : (c.qp j).live ≡ true
          lives = and_left _ _ (and_left _ _ r)

          here : peer_of c q ≡ j
          here = ap (λ (o : Option ℕ). or_else o qp_count) e

          there : peer_of d q ≡ j
          there = sym peer_is ∙ here

          at : (c.qp j ≡ d.qp j) ⊎ (((c.qp j).live ≡ false) × ((d.qp j).live ≡ false)) → Living
          at (inl s) =
              record {
                same = ap c.qp here ∙ s ∙ ap d.qp (sym there);
                free = ap (λ (i : ℕ). free_places (c.cq (c.qp i).rcq)) here ∙ g.receives j e lives ∙ ap (λ (i : ℕ). free_places (d.cq (d.qp i).rcq)) (sym there);
                domain = ap (λ (i : ℕ). (c.qp i).pd) here ∙ g.inside j e lives;
              }
          at (inr s) = absurd (false≢true (sym s.0 ∙ lives))

  -- ---- the tests

  places_same : Living → (o : ℕ) → has_places c q (peer_of c q) o ≡ has_places d q (peer_of d q) o
  places_same w o =
      ap₂ ◌&&◌
      (room_same (c.cq (c.qp q).scq) (d.cq (d.qp q).scq) (cond (takes o && eqb (c.qp q).scq (c.qp (peer_of c q)).rcq) 2 1) g.sends
      (one_or_two (takes o && eqb (c.qp q).scq (c.qp (peer_of c q)).rcq))
      ∙ ap₂ (λ (s t : Qp). room (d.cq (d.qp q).scq) (cond (takes o && eqb s.scq t.rcq) 2 1)) own w.same)
      (ap (λ (b : Bool). not (takes o) || b) (room_same (c.cq (c.qp (peer_of c q)).rcq) (d.cq (d.qp (peer_of d q)).rcq) 1 w.free (omega arith)))

  ready_tests : (r : Request) → refusal (ready_checks c q r) ≡ refusal (ready_checks d q r)
  unfolding ready_checks
  ready_tests r = go (ready c q (c.qp q).dest) refl
    where
      go : (b : Bool) → ready c q (c.qp q).dest ≡ b → refusal (ready_checks c q r) ≡ refusal (ready_checks d q r)
      go false e = let f : ready d q (d.qp q).dest ≡ false = sym ready_same ∙ e in rw (e, f)
      go true e =
          let w = living e in
          let f : ready d q (d.qp q).dest ≡ true = sym ready_same ∙ e in
          let x : is_empty (c.qp (peer_of c q)).waiting ≡ is_empty (d.qp (peer_of d q)).waiting = ap (λ (s : Qp). is_empty s.waiting) w.same in
          rw (e, f, x, places_same w r.opcode)

  hold_tests : (r : Request) → refusal (hold_checks c q r) ≡ refusal (hold_checks d q r)
  unfolding hold_checks place_checks
  hold_tests r = go (is_in_error (c.qp q)) refl
    where
      go : (b : Bool) → is_in_error (c.qp q) ≡ b → refusal (hold_checks c q r) ≡ refusal (hold_checks d q r)
      go true e =
          let f : is_in_error (d.qp q) ≡ true = ap is_in_error (sym own) ∙ e in
          rw (e, f, room_same (c.cq (c.qp q).scq) (d.cq (d.qp q).scq) 1 g.sends (omega arith))
      go false e = let f : is_in_error (d.qp q) ≡ false = ap is_in_error (sym own) ∙ e in rw (e, f) (ready_tests r)

  pair_tests : refusal (pair_checks c q) ≡ refusal (pair_checks d q)
  unfolding pair_checks
  pair_tests = rw own

  -- 02, M-108: "while its QP's queue isn't empty"
  queue_tests : refusal (queue_checks c q) ≡ refusal (queue_checks d q)
  unfolding queue_checks
  queue_tests = rw own

  delivery_tests : (r : Request) → refusal (delivery_checks c q r) ≡ refusal (delivery_checks d q r)
  unfolding delivery_checks
  delivery_tests r =
      rw (
        refusal_append (pair_checks c q) (queue_checks c q ++ hold_checks c q r),
        refusal_append (pair_checks d q) (queue_checks d q ++ hold_checks d q r),
        refusal_append (queue_checks c q) (hold_checks c q r),
        refusal_append (queue_checks d q) (hold_checks d q r),
        pair_tests,
        queue_tests,
        hold_tests r,
      )

  send_tests : (x : List ℕ) → refusal (checks c (Call.send q x m)) ≡ refusal (checks d (Call.send q x n))
  unfolding checks memory_checks
  send_tests x =
      rw (
        refusal_append (send_checks x) (delivery_checks c q (request_of x)),
        refusal_append (send_checks x) (delivery_checks d q (request_of x)),
        delivery_tests (request_of x),
        g.lent,
        g.reset,
      )

  -- ---- permitted bytes

  slot_same : (k : ℕ) → owns_region a c k ≡ true → c.mr k ≡ d.mr k
  slot_same k h = (same_view (owns_region a c k) (owns_region a d k) (c.mr k) (d.mr k) (g.regions k) h).1

  covers_same : (p : Party) → p.pd ≡ a → (u : Use) (b : Byte) →
      covers (lookup c.mr b.key) p u b.address ≡ covers (lookup d.mr b.key) p u b.address
  unfolding lookup
  covers_same p e u b = go (owns_region a c (b.key / 256)) refl
    where
      k : ℕ
      k = b.key / 256

      go : (x : Bool) → owns_region a c k ≡ x → covers (found (c.mr k) k b.key) p u b.address ≡ covers (found (d.mr k) k b.key) p u b.address
      go true h = rw (slot_same k h)
      go false h =
          foreign a (c.mr k) k b.key p u b.address e h
          ∙ sym (foreign a (d.mr k) k b.key p u b.address e (no_view (owns_region a c k) (owns_region a d k) (c.mr k) (d.mr k) (g.regions k) h))

  -- a byte that is permitted: it stands at the same place in both, with the same value
  record Held (b : Byte) : Type 0 where
    same : place c b ≡ place d b
    value : get_or m (place c b) 0 ≡ get_or n (place d b) 0

  held : (p : Party) → p.pd ≡ a → (u : Use) (b : Byte) → covers (lookup c.mr b.key) p u b.address ≡ true → Held b
  unfolding lookup place covers
  held p e u b h = go (owns_region a c (b.key / 256)) refl
    where
      k : ℕ
      k = b.key / 256

      is : found (c.mr k) k b.key ≡ some (c.mr k).reg
      is = found_is (c.mr k) k b.key p u b.address h

      go : (x : Bool) → owns_region a c k ≡ x → Held b
      go false o = absurd (false≢true (sym (foreign a (c.mr k) k b.key p u b.address e o) ∙ h))
      go true o =
          let z : covers (some (c.mr k).reg) p u b.address ≡ true = rw is at h in
          let f : Registration = (c.mr k).reg in
          let x : Bool = eqb f.pd p.pd && granted u f.access && opens u p.rights in
          let y : Bool = leb f.virt b.address in
          let w : Bool = ltb b.address (f.virt + f.length) in
          let s : place c b ≡ place d b = rw (slot_same k o) in
          let v : get_or m (place c b) 0 ≡ get_or n (place c b) 0 =
          g.bytes (place c b)
          (record {
            slot = k;
            owned = o;
            address = b.address;
            low = leb-true f.virt b.address (and_right x y (and_left (x && y) w z));
            high = ltb-true b.address (f.virt + f.length) (and_right (x && y) w z);
            place = rw is;
          }) in
          record { same = s; value = v ∙ ap (λ (i : ℕ). get_or n i 0) s }

  -- of a queue pair of the domain that is the same in both
  module _ (i j : ℕ) (same : c.qp i ≡ d.qp j) (domain : (c.qp i).pd ≡ a) (u : Use) where
    party_same : party_of c i ≡ party_of d j
    party_same = ap (λ (s : Qp). record { pd = s.pd; rights = s.rights }) same

    permits_same : (b : Byte) → permits c i u b ≡ permits d j u b
    unfolding permits
    permits_same b = covers_same (party_of c i) domain u b ∙ ap (λ (p : Party). covers (lookup d.mr b.key) p u b.address) party_same

    all_same : (bs : List Byte) → permits_all c i u bs ≡ permits_all d j u bs
    unfolding permits_all all
    all_same [] = refl
    all_same (b ∷ bs) = ap₂ ◌&&◌ (permits_same b) (all_same bs)

    byte_held : (b : Byte) → permits c i u b ≡ true → Held b
    unfolding permits
    byte_held b h = held (party_of c i) domain u b h

    places_held : (bs : List Byte) → permits_all c i u bs ≡ true → map (place c) bs ≡ map (place d) bs
    unfolding permits_all all
    places_held [] h = refl
    places_held (b ∷ bs) h = ap₂ (λ (x : ℕ) (xs : List ℕ). x ∷ xs) (byte_held b (and_left (permits c i u b) (permits_all c i u bs) h)).same (places_held bs (and_right (permits c i u b) (permits_all c i u bs) h))

    values_held : (bs : List Byte) → permits_all c i u bs ≡ true → map (λ b. get_or m (place c b) 0) bs ≡ map (λ b. get_or n (place d b) 0) bs
    unfolding permits_all all
    values_held [] h = refl
    values_held (b ∷ bs) h = ap₂ (λ (x : ℕ) (xs : List ℕ). x ∷ xs) (byte_held b (and_left (permits c i u b) (permits_all c i u bs) h)).value (values_held bs (and_right (permits c i u b) (permits_all c i u bs) h))

  -- ---- a request that runs

  module _ (w : Living) (r : Request) where
    taken_same : taken_by c q ≡ taken_by d q
    taken_same = ap (λ (s : Qp). oldest s.waiting) w.same

    status_same : run_status c q r ≡ run_status d q r
    unfolding run_status
    status_same =
        rw (
          all_same q q own own_domain (own_use r.opcode) (own_bytes r),
          all_same (peer_of c q) (peer_of d q) w.same w.domain (far_use r.opcode) (far_bytes r (taken_by c q)),
          taken_same,
        )

    puts_same : (s : ℕ) → send_puts c q r s ≡ send_puts d q r s
    unfolding send_puts
    puts_same s = rw (taken_same, w.same, own)

    zero_own : (f x y z v : Bool) → status_by f x y z v ≡ 0 → (y ≡ true) × (v ≡ true)
    zero_own f false y z v e = absurd (omega arith)
    zero_own f true false z v e = absurd (omega arith)
    zero_own true true true false v e = absurd (omega arith)
    zero_own true true true true false e = absurd (omega arith)
    zero_own true true true true true e = (refl, refl)
    zero_own false true true z false e = absurd (omega arith)
    zero_own false true true z true e = (refl, refl)

    module _ (ok : run_status c q r ≡ 0) where
      permitted : (permits_all c q (own_use r.opcode) (own_bytes r) ≡ true) × (permits_all c (peer_of c q) (far_use r.opcode) (far_bytes r (taken_by c q)) ≡ true)
      unfolding run_status
      permitted =
          zero_own (fills r.opcode) (leb (total r) most_message) (permits_all c q (own_use r.opcode) (own_bytes r)) (leb (total r) (sge_total (taken_by c q).sges))
          (permits_all c (peer_of c q) (far_use r.opcode) (far_bytes r (taken_by c q))) ok

      target_places : map (place c) (target_bytes r (taken_by c q)) ≡ map (place d) (target_bytes r (taken_by c q))
      target_places = go (reads r.opcode)
        where
          go : (b : Bool) → map (place c) (cond b (own_bytes r) (far_bytes r (taken_by c q))) ≡ map (place d) (cond b (own_bytes r) (far_bytes r (taken_by c q)))
          go true = places_held q q own own_domain (own_use r.opcode) (own_bytes r) permitted.0
          go false = places_held (peer_of c q) (peer_of d q) w.same w.domain (far_use r.opcode) (far_bytes r (taken_by c q)) permitted.1

      message_same : message (place c) r (taken_by c q) m ≡ message (place d) r (taken_by c q) n
      unfolding message
      message_same = ap (cond r.inline r.bytes) (go (reads r.opcode))
        where
          go : (b : Bool) → map (λ y. get_or m (place c y) 0) (cond b (far_bytes r (taken_by c q)) (own_bytes r))
              ≡ map (λ y. get_or n (place d y) 0) (cond b (far_bytes r (taken_by c q)) (own_bytes r))
          go true = values_held (peer_of c q) (peer_of d q) w.same w.domain (far_use r.opcode) (far_bytes r (taken_by c q)) permitted.1
          go false = values_held q q own own_domain (own_use r.opcode) (own_bytes r) permitted.0

  -- ---- a request that passed the tests

  record Left (r : Request) : Type 0 where
    status : send_status c q r ≡ send_status d q r
    puts : send_puts c q r (send_status c q r) ≡ send_puts d q r (send_status d q r)
    places : List ℕ
    values : List ℕ
    wrote : send_memory c q r m ≡ stored m places values
    wrote' : send_memory d q r n ≡ stored n places values

  flush_puts : (r : Request) → send_puts c q r 4 ≡ send_puts d q r 4
  unfolding send_puts
  flush_puts r = rw (and_false (takes r.opcode), own)

  flushed : (r : Request) → is_in_error (c.qp q) ≡ true → Left r
  unfolding send_status send_memory stored
  flushed r e =
      let f : is_in_error (d.qp q) ≡ true = ap is_in_error (sym own) ∙ e in
      record { status = rw (e, f); puts = rw (e, f) (flush_puts r); places = []; values = []; wrote = rw e; wrote' = rw f }

  runs : (r : Request) → is_in_error (c.qp q) ≡ false → Passed (ready_checks c q r) → Left r
  unfolding send_status send_memory stored delivered ready_checks
  runs r e p = go (eqb (run_status c q r) 0) refl
    where
      w : Living
      w = living (not-false _ p.0)

      f : is_in_error (d.qp q) ≡ false
      f = ap is_in_error (sym own) ∙ e

      s : run_status c q r ≡ run_status d q r
      s = status_same w r

      go : (b : Bool) → eqb (run_status c q r) 0 ≡ b → Left r
      go true h =
          let ok : run_status c q r ≡ 0 = eqb-true (run_status c q r) 0 h in
          let h' : eqb (run_status d q r) 0 ≡ true = ap (λ (i : ℕ). eqb i 0) (sym s) ∙ h in
          record {
            status = rw (e, f) s;
            puts = rw (e, f) (ap (send_puts c q r) s ∙ puts_same w r (run_status d q r));
            places = map (place c) (target_bytes r (taken_by c q));
            values = message (place c) r (taken_by c q) m;
            wrote = rw (e, h);
            wrote' = rw (f, h', ← taken_same w r)
                (ap₂ (λ (ps vs : List ℕ). stored n ps vs) (sym (target_places w r ok)) (sym (message_same w r ok)));
          }
      go false h =
          let h' : eqb (run_status d q r) 0 ≡ false = ap (λ (i : ℕ). eqb i 0) (sym s) ∙ h in
          record {
            status = rw (e, f) s;
            puts = rw (e, f) (ap (send_puts c q r) s ∙ puts_same w r (run_status d q r));
            places = [];
            values = [];
            wrote = rw (e, h);
            wrote' = rw (f, h');
          }

  left : (r : Request) → Passed (hold_checks c q r) → Left r
  unfolding hold_checks
  left r p = go (is_in_error (c.qp q)) refl
    where
      go : (b : Bool) → is_in_error (c.qp q) ≡ b → Left r
      go true e = flushed r e
      go false e = runs r e (rw e at p)

pub own_alone : OwnAlone
unfolding OwnAlone checks memory_checks delivery_checks status_of value_of effect send_effect memory_after put_all stored
own_alone a q x l k m n ea ek g r r' l' k' m' n' b b' X Y = go (refusal (checks (card l) (Call.send q x m))) refl
  where
    same_tests : refusal (checks (card l) (Call.send q x m)) ≡ refusal (checks (card k) (Call.send q x n))
    same_tests = send_tests a q (card l) (card k) m n g x

    o₁ : (o : Option ℕ) → refusal (checks (card l) (Call.send q x m)) ≡ o → refusal (owed_checks card accepts l (Call.send q x m)) ≡ o
    o₁ o e = rw ea e

    o₂ : (o : Option ℕ) → refusal (checks (card l) (Call.send q x m)) ≡ o → refusal (owed_checks card accepts k (Call.send q x n)) ≡ o
    o₂ o e = rw ek (sym same_tests ∙ e)

    go : (o : Option ℕ) → refusal (checks (card l) (Call.send q x m)) ≡ o → Same (card l) (card k) m n r r' (card l') (card k') m' n'
    go (some i) e =
        record {
          result = (rw (o₁ (some i) e) at X.code) ∙ sym (rw (o₂ (some i) e) at Y.code);
          puts = [];
          put = ap (λ (c : Card). c.cq) (rw (o₁ (some i) e) at X.tables);
          put' = ap (λ (c : Card). c.cq) (rw (o₂ (some i) e) at Y.tables);
          places = [];
          values = [];
          wrote = rw (o₁ (some i) e) at X.memory;
          wrote' = rw (o₂ (some i) e) at Y.memory;
        }
    go none e =
        let p = passed (checks (card l) (Call.send q x m)) e in
        let y = request_of x in
        let h =
        passed_after (queue_checks (card l) q) (hold_checks (card l) q y)
        (passed_after (pair_checks (card l) q) (queue_checks (card l) q ++ hold_checks (card l) q y)
        (passed_after (send_checks x) (delivery_checks (card l) q y) p.1)) in
        let z = left a q (card l) (card k) m n g (request_of x) h in
        record {
          result = (rw (o₁ none e) at X.code) ∙ ap (λ (s : ℕ). code_of (Done s) + 65536 * 0) z.status ∙ sym (rw (o₂ none e) at Y.code);
          puts = send_puts (card l) q (request_of x) (send_status (card l) q (request_of x));
          put = ap (λ (c : Card). c.cq) (rw (o₁ none e) at X.tables);
          put' = ap (λ (c : Card). c.cq) (rw (o₂ none e) at Y.tables) ∙ ap (λ (ps : List Put). put_all ps (card k).cq) (sym z.puts);
          places = z.places;
          values = z.values;
          wrote = (rw (o₁ none e) at X.memory) ∙ z.wrote;
          wrote' = (rw (o₂ none e) at Y.memory) ∙ z.wrote';
        }
