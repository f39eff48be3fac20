-- Demand 3 one byte at a time. Assumes nothing.
use mathlib.Core.Path.{◌≡◌, refl, sym, ap, ◌∙◌}
use mathlib.Core.Logic.{◌≢◌}
use mathlib.Core.Bool.{Bool, true, false, cond, not, ◌&&◌, ◌||◌, true≢false}
use mathlib.Core.List.{List, [], ◌∷◌, map}
use Prim.Native.Nat.{ℕ, zero, suc, ◌^◌, ◌≤◌, ◌<◌}
use native.Mathlib.Omega.{arith}
use lib.Dec.{eqb, leb}
use lib.ListN.{length, get_or, take, length-map, get_or-map}
use lib.Seq.{length-take-le}
use borrow.Author.Tests.{leb-true, ne_eqb}
use Rattle.wire.proofs.ScanLaws.{and_left, and_right}
use Rattle.tables.specs.Limits.{most_message}
use Rattle.rules.specs.Lists.{stored}
use Rattle.rules.specs.Touch.{Byte, fills, total, sge_total, sge_bytes, range, own_bytes, far_bytes}
use Rattle.tables.specs.Records.{Request}
use Rattle.rules.proofs.Ranges.{all_in}
use Rattle.rules.proofs.Stored.{stored_length, stored_other, stored_last, map_at, range_length, sge_length}
use Rattle.judge.specs.Log.{Log}
use Rattle.judge.specs.Judge.{errored, Party, Right, Side, passes, placed, Work, filled, near, far, all_pass, fits_receive, near_passes, far_passes, judge, moves, read_side, written_side, Source, sources, value_of, judged_memory}
use Rattle.judge.specs.Demand3.{Correct, Bytewise, Judged, no_byte, target, target_byte, source, source_at, written_length}
use Rattle.judge.proofs.Rights.{same_fills}
use Rattle.judge.proofs.Demand3.{Proves, correct}

-- a source that stands in the memory, as a byte
abbrev pub is_byte : Source → Bool
is_byte (Source.literal v) = false
is_byte (Source.byte b) = true

abbrev byte_or : Byte → Source → Byte
byte_or d (Source.literal v) = d
byte_or d (Source.byte b) = b

no_byte_lem : (vs : List ℕ) (i : ℕ) (d : Source) → i < length vs → is_byte (get_or (map Source.literal vs) i d) ≡ false
no_byte_lem [] i d h = absurd (omega arith)
no_byte_lem (v ∷ vs) zero d h = refl
no_byte_lem (v ∷ vs) (suc i) d h = no_byte_lem vs i d (omega arith)

-- a request that the judge passes; its length tests leave no byte without a place
module _ (l : Log) (w : Work) (ok : judge l w ≡ true) (small : w.request.opcode ≤ 4)
    (plain : w.request.inline ≡ true → eqb w.request.opcode 4 ≡ false) where
  abbrev r : Request
  r = w.request

  both_pass : (near_passes l w && far_passes l w) ≡ true
  unfolding judge
  both_pass = and_right (not (errored l w.qpn)) (near_passes l w && far_passes l w) ok

  near_passes_lem : all_pass l (near l w) ≡ true
  unfolding near_passes
  near_passes_lem = and_right (leb (total r) most_message) (all_pass l (near l w)) (and_left (near_passes l w) (far_passes l w) both_pass)

  far_passes_lem : all_pass l (far l w) ≡ true
  unfolding far_passes
  far_passes_lem = and_right (fits_receive l w) (all_pass l (far l w)) (and_right (near_passes l w) (far_passes l w) both_pass)

  fits : fits_receive l w ≡ true
  unfolding far_passes
  fits = and_left (fits_receive l w) (all_pass l (far l w)) (and_right (near_passes l w) (far_passes l w) both_pass)

  far_length : length (far l w).bytes ≡ total r
  unfolding far far_bytes
  far_length = go (fills r.opcode) (same_fills r.opcode small)
    where
      go : (b : Bool) → (eqb r.opcode 2 || eqb r.opcode 3) ≡ b →
          length (cond b (take (total r) (sge_bytes (filled l w).sges)) (range r.address r.key (total r))) ≡ total r
      go true e =
          let h : total r ≤ sge_total (filled l w).sges = leb-true (total r) (sge_total (filled l w).sges) (rw e at fits) in
          length-take-le (total r) (sge_bytes (filled l w).sges) (let s = sge_length (filled l w).sges in omega arith)
      go false e = range_length r.address r.key (total r)

  near_length : r.inline ≡ false → length (near l w).bytes ≡ total r
  unfolding near own_bytes total
  near_length e = rw e (sge_length r.sges)

  not_inline : eqb r.opcode 4 ≡ true → r.inline ≡ false
  not_inline e = go r.inline refl
    where
      go : (b : Bool) → r.inline ≡ b → r.inline ≡ false
      go true h = absurd (true≢false (sym e ∙ plain h))
      go false h = h

  -- ---- the sides of the message

  record Complete (s : Side) : Type 0 where
    sized : length s.bytes ≡ total r
    passed : all_pass l s ≡ true

  written_whole : Complete (written_side l w)
  unfolding written_side
  written_whole = go (eqb r.opcode 4) refl
    where
      go : (b : Bool) → eqb r.opcode 4 ≡ b → Complete (cond b (near l w) (far l w))
      go true e = record { sized = near_length (not_inline e); passed = near_passes_lem }
      go false e = record { sized = far_length; passed = far_passes_lem }

  read_whole : r.inline ≡ false → Complete (read_side l w)
  unfolding read_side
  read_whole h = go (eqb r.opcode 4)
    where
      go : (b : Bool) → Complete (cond b (far l w) (near l w))
      go true = record { sized = far_length; passed = far_passes_lem }
      go false = record { sized = near_length h; passed = near_passes_lem }

  pub target_passes : (i : ℕ) → i < written_length l w → passes l (written_side l w).party (written_side l w).right (target_byte l w i) ≡ true
  target_passes i h =
      all_in (passes l (written_side l w).party (written_side l w).right) (written_side l w).bytes i no_byte h written_whole.passed

  pub source_passes : (i : ℕ) → i < length (sources l w) → (b : Byte) → source_at l w i ≡ Source.byte b →
      passes l (read_side l w).party (read_side l w).right b ≡ true
  unfolding sources
  source_passes i h b = go r.inline refl h
    where
      go : (x : Bool) → r.inline ≡ x → i < length (cond x (map Source.literal r.bytes) (map Source.byte (read_side l w).bytes)) →
          get_or (cond x (map Source.literal r.bytes) (map Source.byte (read_side l w).bytes)) i (Source.byte no_byte) ≡ Source.byte b →
          passes l (read_side l w).party (read_side l w).right b ≡ true
      go true e h s =
          let n = length-map r.bytes Source.literal in
          absurd (true≢false (sym (ap is_byte s) ∙ no_byte_lem r.bytes i (Source.byte no_byte) (omega arith)))
      go false e h s =
          let n = length-map (read_side l w).bytes Source.byte in
          let is : get_or (read_side l w).bytes i no_byte ≡ b = ap (byte_or no_byte) (sym (get_or-map Source.byte (read_side l w).bytes i no_byte) ∙ s) in
          ap (passes l (read_side l w).party (read_side l w).right) (sym is)
          ∙ all_in (passes l (read_side l w).party (read_side l w).right) (read_side l w).bytes i no_byte (omega arith) (read_whole e).passed

  sources_length : length (sources l w) ≡ total r
  unfolding sources total
  sources_length = go r.inline refl
    where
      go : (x : Bool) → r.inline ≡ x →
          length (cond x (map Source.literal r.bytes) (map Source.byte (read_side l w).bytes)) ≡ cond x (length r.bytes) (sge_total r.sges)
      go true e = length-map r.bytes Source.literal
      go false e = length-map (read_side l w).bytes Source.byte ∙ (read_whole e).sized ∙ rw e

  -- each written byte has its source
  same_count : length (sources l w) ≡ written_length l w
  same_count = sources_length ∙ sym written_whole.sized

  -- ---- what is stored

  module _ (m : List ℕ) (inside : (p : Party) (u : Right) (b : Byte) → passes l p u b ≡ true → (placed l b < length m) × (b.address < 2 ^ 64)) where
    abbrev places : List ℕ
    places = map (placed l) (written_side l w).bytes

    abbrev values : List ℕ
    values = map (value_of l m) (sources l w)

    places_length : length places ≡ written_length l w
    places_length = length-map (written_side l w).bytes (placed l)

    values_length : length values ≡ written_length l w
    values_length = length-map (sources l w) (value_of l m) ∙ same_count

    place_is : (i : ℕ) → i < written_length l w → get_or places i 0 ≡ target l w i
    unfolding target
    place_is i h = map_at (placed l) (written_side l w).bytes i 0 no_byte h

    value_is : (i : ℕ) → i < written_length l w → get_or values i 0 ≡ source l w m i
    unfolding source
    value_is i h = let e = same_count in map_at (value_of l m) (sources l w) i 0 (Source.byte no_byte) (omega arith)

    target_inside : (i : ℕ) → i < written_length l w → target l w i < length m
    unfolding target
    target_inside i h = (inside (written_side l w).party (written_side l w).right (target_byte l w i) (target_passes i h)).0

    written : (i : ℕ) → i < written_length l w → ((j : ℕ) → i < j → j < written_length l w → target l w j ≢ target l w i) →
        get_or (stored m places values) (target l w i) 0 ≡ source l w m i
    written i h last =
        let n = places_length in
        let v = values_length in
        let e = place_is i h in
        let t = target_inside i h in
        ap (λ (x : ℕ). get_or (stored m places values) x 0) (sym e)
        ∙ stored_last m places values i (omega arith) (omega arith) (omega arith)
        (λ j a b p. last j a (omega arith) (sym (place_is j (omega arith)) ∙ p ∙ e))
        ∙ value_is i h

    others : (x : ℕ) → ((i : ℕ) → i < written_length l w → target l w i ≢ x) → get_or (stored m places values) x 0 ≡ get_or m x 0
    others x h = let n = places_length in stored_other m places values x (λ i b p. h i (omega arith) (sym (place_is i (omega arith)) ∙ p))

module _ (l : Log) (w : Work) (s : ℕ) (m m' : List ℕ) (k : Correct l w s m m') (small : w.request.opcode ≤ 4)
    (plain : w.request.inline ≡ true → eqb w.request.opcode 4 ≡ false) where
  -- the status tells the verdict
  on_failure : s ≢ 0 → judge l w ≡ false
  on_failure e = sym k.verdict ∙ ne_eqb s 0 e

  unmoved : moves l w ≡ false → m' ≡ m
  unfolding judged_memory
  unmoved z = rw (k.memory, z)

  pub correct_bytes : Bytewise l w s m m'
  unfolding judged_memory
  correct_bytes =
      record {
        written = λ z i h last. rw (k.memory, z) (written l w z small plain m k.inside i h last);
        others = λ z x h. rw (k.memory, z) (others l w z small plain m k.inside x h);
        kept = unmoved;
        failed = λ z. unmoved (on_failure z);
        sized = ap length k.memory ∙ go (moves l w);
      }
    where
      go : (b : Bool) → length (cond b (stored m (map (placed l) (written_side l w).bytes) (map (value_of l m) (sources l w))) m) ≡ length m
      go true = stored_length m _ _
      go false = refl

pub judged : Proves Judged
judged c l a q r m p =
    let k = correct c l a q r m p in
    record { correct = k; bytewise = correct_bytes l (record { qpn = q; request = r }) _ m _ k p.opcode p.inline }
