-- Each work request is judged right, by the card's agreement with the log. Assumes nothing.
use mathlib.Core.Path.{◌≡◌, refl, sym, ap, ap₂, fun_ext, ◌∙◌}
use mathlib.Core.Bool.{Bool, true, false, cond, not, ◌&&◌, ◌||◌}
use mathlib.Core.List.{List, [], ◌∷◌, map}
use mathlib.Core.Option.{Option, none, some}
use Prim.Native.Nat.{ℕ}
use lib.Dec.{eqb, leb}
use lib.ListN.{get_or}
use Rattle.wire.specs.Scan.{all}
use Rattle.tables.specs.Limits.{most_message, qp_count}
use Rattle.tables.specs.Card.{Card, Receive}
use Rattle.rules.specs.Lists.{is_some, or_else, stored}
use Rattle.rules.specs.Touch.{Byte, fills, total, sge_total, own_bytes, far_bytes, message, delivered}
use Rattle.tables.specs.Records.{Request}
use Rattle.rules.specs.Permit.{Use, permits, permits_all, place, party_of}
use Rattle.rules.specs.Send.{peer_of, taken_by, is_in_error, own_use, far_use, status_by, run_status, send_status, send_memory}
use Rattle.judge.specs.Log.{Log}
use Rattle.judge.specs.Judge.{Right, passes, placed, party, peer, waiting, errored, standing, Work, Source, filled, far_right, near, far, all_pass, fits_receive, near_passes, far_passes, judge, read_side, written_side, sources, value_of, judged_memory}
use Rattle.judge.specs.Demand3.{Correct, WorkClaim}
use Rattle.judge.specs.Distinct.{handed, Distinct}
use Rattle.judge.specs.Dropped.{ended}
use Rattle.judge.proofs.Rights.{needs_right, own_right_lem, far_right_lem, same_fills}
use Rattle.judge.proofs.Keys
use Rattle.judge.proofs.Agree.{Agree, Going, Sendable, is_four, not_four}

-- the work request r on q
abbrev pub works : (q : ℕ) → Request → Work
works q r = record { qpn = q; request = r }

-- ---- the values of a message

map_literal : (l : Log) (m vs : List ℕ) → map (value_of l m) (map Source.literal vs) ≡ vs
map_literal l m [] = refl
map_literal l m (v ∷ vs) = ap (λ (xs : List ℕ). v ∷ xs) (map_literal l m vs)

map_byte : (l : Log) (m : List ℕ) (bs : List Byte) → map (value_of l m) (map Source.byte bs) ≡ map (λ b. get_or m (placed l b) 0) bs
map_byte l m [] = refl
map_byte l m (b ∷ bs) = ap (λ (xs : List ℕ). get_or m (placed l b) 0 ∷ xs) (map_byte l m bs)

module _ (l : Log) (q : ℕ) (r : Request) (m : List ℕ) where
  abbrev w : Work
  w = works q r

  same_values : map (value_of l m) (sources l w) ≡ message (placed l) r (filled l w) m
  unfolding sources read_side near far message
  same_values = go r.inline (eqb r.opcode 4)
    where
      go : (b x : Bool) → map (value_of l m) (cond b (map Source.literal r.bytes) (map Source.byte (cond x (far l w) (near l w)).bytes))
          ≡ cond b r.bytes (map (λ y. get_or m (placed l y) 0) (cond x (far_bytes r (filled l w)) (own_bytes r)))
      go true x = map_literal l m r.bytes
      go false true = map_byte l m (far_bytes r (filled l w))
      go false false = map_byte l m (own_bytes r)

  same_targets : (written_side l w).bytes ≡ cond (eqb r.opcode 4) (own_bytes r) (far_bytes r (filled l w))
  unfolding written_side near far
  same_targets = go (eqb r.opcode 4)
    where
      go : (x : Bool) → (cond x (near l w) (far l w)).bytes ≡ cond x (own_bytes r) (far_bytes r (filled l w))
      go true = refl
      go false = refl

  same_delivered : stored m (map (placed l) (written_side l w).bytes) (map (value_of l m) (sources l w)) ≡ delivered (placed l) r (filled l w) m
  unfolding delivered
  same_delivered = rw (same_values, same_targets)

-- ---- the judge's verdict

module _ (c : Card) (l : Log) (a : Agree c l) where
  same_passes : (q : ℕ) (u : Use) → (c.qp q).live ≡ true → passes l (party l (some q)) (needs_right u) ≡ permits c q u
  unfolding passes permits
  same_passes q u h =
      let k = a.pairs q h in
      fun_ext (λ b. rw (k.domain, k.rights)
      (Keys.same_covers c.memory c.mr (standing l) (ended l) (handed l) (Distinct l) a.keys b.key (party_of c q) u b.address))

  pub same_place : placed l ≡ place c
  unfolding placed place
  same_place = fun_ext (λ b. Keys.same_place c.memory c.mr (standing l) (ended l) (handed l) (Distinct l) a.keys b.key b.address)

  module _ (q : ℕ) (r : Request) {m : List ℕ} (p : Sendable c q r m) (g : Going c q r) where
    pub same_peer : peer l q ≡ some (peer_of c q)
    same_peer = (a.pairs q p.live).peer g.named ∙ some_is (c.qp q).dest g.named
      where
        some_is : (o : Option ℕ) → is_some o ≡ true → o ≡ some (or_else o qp_count)
        some_is none e = let z : ◌≡◌ {A = Bool} false true = e in cc
        some_is (some d) e = refl

    pub same_filled : filled l (works q r) ≡ taken_by c q
    unfolding filled waiting
    same_filled = rw (same_peer, ← (a.pairs (peer_of c q) g.peer_live).waits)

    -- the sides, each by the card's tables
    pub near_is : all_pass l (near l (works q r)) ≡ permits_all c q (own_use r.opcode) (own_bytes r)
    unfolding near permits_all
    near_is =
        ap (λ (u : Right). all (passes l (party l (some q)) u) (own_bytes r)) (own_right_lem r.opcode)
        ∙ ap (λ (f : Byte → Bool). all f (own_bytes r)) (same_passes q (own_use r.opcode) p.live)

    pub far_is : all_pass l (far l (works q r)) ≡ permits_all c (peer_of c q) (far_use r.opcode) (far_bytes r (taken_by c q))
    unfolding far permits_all
    far_is =
        ap (λ (d : Option ℕ). all (passes l (party l d) (far_right r.opcode)) (far_bytes r (filled l (works q r)))) same_peer
        ∙ ap₂ (λ (u : Right) (v : Receive). all (passes l (party l (some (peer_of c q))) u) (far_bytes r v)) (far_right_lem r.opcode p.opcode) same_filled
        ∙ ap (λ (f : Byte → Bool). all f (far_bytes r (taken_by c q))) (same_passes (peer_of c q) (far_use r.opcode) g.peer_live)

    pub fits_is : fits_receive l (works q r) ≡ (not (fills r.opcode) || leb (total r) (sge_total (taken_by c q).sges))
    fits_is = ap₂ (λ (b : Bool) (v : Receive). not b || leb (total r) (sge_total v.sges)) (same_fills r.opcode p.opcode) same_filled

status_zero : (fill short own fits far : Bool) → eqb (status_by fill short own fits far) 0 ≡ (short && own) && ((not fill || fits) && far)
status_zero fill false own fits far = refl
status_zero fill true false fits far = refl
status_zero true true true false far = refl
status_zero true true true true true = refl
status_zero true true true true false = refl
status_zero false true true fits true = refl
status_zero false true true fits false = refl

module _ (c : Card) (l : Log) (a : Agree c l) (q : ℕ) (r : Request) {m : List ℕ} (p : Sendable c q r m) where
  -- the log and the table say the same of its error
  pub same_error : errored l q ≡ is_in_error (c.qp q)
  same_error = sym (a.pairs q p.live).errs

  run_verdict : is_in_error (c.qp q) ≡ false → eqb (run_status c q r) 0 ≡ (near_passes l (works q r) && far_passes l (works q r))
  unfolding run_status near_passes far_passes
  run_verdict e =
      let g = p.going e in
      rw (near_is c l a q r p g, fits_is c l a q r p g, far_is c l a q r p g)
      (status_zero (fills r.opcode) (leb (total r) most_message) (permits_all c q (own_use r.opcode) (own_bytes r))
      (leb (total r) (sge_total (taken_by c q).sges))
      (permits_all c (peer_of c q) (far_use r.opcode) (far_bytes r (taken_by c q))))

  pub verdict : eqb (send_status c q r) 0 ≡ judge l (works q r)
  unfolding send_status judge
  verdict = rw same_error (go (is_in_error (c.qp q)) refl)
    where
      go : (b : Bool) → is_in_error (c.qp q) ≡ b →
          eqb (cond b 4 (run_status c q r)) 0 ≡ (not b && (near_passes l (works q r) && far_passes l (works q r)))
      go true e = refl
      go false e = run_verdict e

  flushed_is : eqb (send_status c q r) 4 ≡ errored l q
  flushed_is = go (is_in_error (c.qp q)) refl ∙ sym same_error
    where
      go : (b : Bool) → is_in_error (c.qp q) ≡ b → eqb (send_status c q r) 4 ≡ is_in_error (c.qp q)
      go true e = rw (is_four c q r e, e)
      go false e = not_four c q r e ∙ sym e

  not_judged : is_in_error (c.qp q) ≡ true → judge l (works q r) ≡ false
  unfolding judge
  not_judged e = rw (same_error, e)

  same_memory : send_memory c q r m ≡ judged_memory l (works q r) m
  unfolding send_memory judged_memory
  same_memory = rw verdict (go (is_in_error (c.qp q)) refl)
    where
      go : (b : Bool) → is_in_error (c.qp q) ≡ b →
          cond (judge l (works q r)) (delivered (place c) r (taken_by c q) m) m
          ≡ cond (judge l (works q r)) (stored m (map (placed l) (written_side l (works q r)).bytes) (map (value_of l m) (sources l (works q r)))) m
      go true e = rw (not_judged e)
      go false e = rw (same_delivered l q r m, same_filled c l a q r p (p.going e), same_place c l a)

-- what the agreement proves of a work request that passed its tests
abbrev pub Proves : WorkClaim → Type 0
Proves P =
    (c : Card) (l : Log) (a : Agree c l) (q : ℕ) (r : Request) (m : List ℕ) → Sendable c q r m →
    P l (works q r) (send_status c q r) m (send_memory c q r m)

pub correct : Proves Correct
unfolding passes placed
correct c l a q r m p =
    record {
      verdict = verdict c l a q r p;
      in_error = flushed_is c l a q r p;
      memory = same_memory c l a q r p;
      inside = λ x u b. rw p.whole (Keys.all_inside c.memory c.mr (standing l) (ended l) (handed l) (Distinct l) a.keys b.key x u b.address);
    }
