-- A byte in no region of the written side's domain keeps its value; a message comes out of regions of the read side's. Assumes nothing.
use mathlib.Core.Path.{◌≡◌, refl, sym, ap}
use mathlib.Core.Logic.{◌≢◌, ◌⊎◌, inl, inr}
use mathlib.Core.Bool.{Bool, true, false, ◌&&◌, true≢false}
use mathlib.Core.List.{List}
use mathlib.Core.Option.{Option, none, some}
use Prim.Native.Nat.{ℕ, zero, suc, ◌+◌, ◌≤◌, ◌<◌}
use native.Mathlib.Decide.{ℕ_discrete}
use native.Mathlib.Omega.{arith}
use lib.Dec.{eqb, leb, ltb}
use lib.ListN.{get_or}
use borrow.Author.Tests.{eqb-true, leb-true, ltb-true}
use Rattle.wire.proofs.ScanLaws.{and_left, and_right}
use Rattle.rules.specs.Lists.{names}
use Rattle.rules.specs.Touch.{Byte}
use Rattle.judge.specs.Log.{Log}
use Rattle.judge.specs.Judge.{Standing, standing, grants, flags_grant, Side, passes, passes_by, placed, place_by, Work, moves, read_side, written_side}
use Rattle.judge.specs.Demand3.{Correct, Bytewise, target, target_byte, written_length}
use Rattle.judge.specs.Apart.{Means, Covered, Reason, Apart}
use Rattle.judge.proofs.Bytes.{target_passes, source_passes, correct_bytes}
use Rattle.judge.proofs.Demand3.{Proves, correct}

-- ---- a number below n where f is x, or none

record Found (f : ℕ → ℕ) (x n : ℕ) : Type 0 where
  i : ℕ
  below : i < n
  is : f i ≡ x

find : (f : ℕ → ℕ) (x n : ℕ) → Found f x n ⊎ ((i : ℕ) → i < n → f i ≢ x)
find f x zero = inr (λ i h e. absurd (omega arith))
find f x (suc n) = go (find f x n) (ℕ_discrete (f n) x)
  where
    go : Found f x n ⊎ ((i : ℕ) → i < n → f i ≢ x) → Dec (f n ≡ x) → Found f x (suc n) ⊎ ((i : ℕ) → i < suc n → f i ≢ x)
    go (inl y) d = let b = y.below in inl (record { i = y.i; below = omega arith; is = y.is })
    go (inr g) (yes e) = inl (record { i = n; below = omega arith; is = e })
    go (inr g) (no g') = inr (λ i h. here i h (ℕ_discrete i n))
      where
        here : (i : ℕ) → i < suc n → Dec (i ≡ n) → f i ≢ x
        here i h (yes e) = rw e g'
        here i h (no d) = g i (omega arith)

-- ---- what a byte that passes stands on

names_some : (o : Option ℕ) (n : ℕ) → names o n ≡ true → o ≡ some n
names_some none n e = absurd (true≢false (sym e))
names_some (some d) n e = ap some (eqb-true d n e)

module _ (l : Log) (s : Side) (b : Byte) (p : ℕ) where
  covered : passes l s.party s.right b ≡ true → placed l b ≡ p → Covered l s b p
  unfolding passes placed
  covered ok = go (standing l b.key) refl ok
    where
      go : (o : Option Standing) → standing l b.key ≡ o → passes_by o s.party s.right b.address ≡ true → place_by o b.address ≡ p → Covered l s b p
      go none e y z = absurd (true≢false (sym y))
      go (some h) e y z =
          let d : Bool = names s.party.domain h.reg.pd in
          let t : Bool = grants h.reg.access s.right in
          let f : Bool = flags_grant s.party.rights s.right in
          let v : Bool = leb h.reg.virt b.address in
          let w : Bool = ltb b.address (h.reg.virt + h.reg.length) in
          record {
            passed = ok;
            reg = h;
            stands = e;
            same = names_some s.party.domain h.reg.pd (and_left d t (and_left (d && t) f (and_left (d && t && f) v (and_left (d && t && f && v) w y))));
            means = record {
              low = leb-true h.reg.virt b.address (and_right (d && t && f) v (and_left (d && t && f && v) w y));
              high = ltb-true b.address (h.reg.virt + h.reg.length) (and_right (d && t && f && v) w y);
              is = z;
            };
          }

module _ (l : Log) (w : Work) (s : ℕ) (m m' : List ℕ) (k : Correct l w s m m') (small : w.request.opcode ≤ 4)
    (plain : w.request.inline ≡ true → eqb w.request.opcode 4 ≡ false) where
  bytes : Bytewise l w s m m'
  bytes = correct_bytes l w s m m' k small plain

  reason : moves l w ≡ true → (p i : ℕ) → i < written_length l w → target l w i ≡ p → Reason l w p
  unfolding target
  reason z p i h e =
      let t = target_passes l w z small plain i h in
      record { i = i; below = h; covered = covered l (written_side l w) (target_byte l w i) p t e }

  kept : moves l w ≡ false → (p : ℕ) → get_or m' p 0 ≡ get_or m p 0
  kept z p = ap (λ (x : List ℕ). get_or x p 0) (bytes.kept z)

  changed : (p : ℕ) → get_or m' p 0 ≢ get_or m p 0 → (b : Bool) → moves l w ≡ b → Reason l w p
  changed p d true z = go (find (target l w) p (written_length l w))
    where
      go : Found (target l w) p (written_length l w) ⊎ ((i : ℕ) → i < written_length l w → target l w i ≢ p) → Reason l w p
      go (inl y) = reason z p y.i y.below y.is
      go (inr g) = absurd (d (bytes.others z p g))
  changed p d false z = absurd (d (kept z p))

  spared : (p : ℕ) →
      ((k a : ℕ) (h : Standing) → standing l k ≡ some h → (written_side l w).party.domain ≡ some h.reg.pd → Means h a p → ⊥) →
      (b : Bool) → moves l w ≡ b → get_or m' p 0 ≡ get_or m p 0
  spared p f true z =
      bytes.others z p
      (λ i b x.
      let y = reason z p i b x in
      let h = y.covered in
      f (target_byte l w y.i).key (target_byte l w y.i).address h.reg h.stands h.same h.means)
  spared p f false z = kept z p

  apart_bytes : Apart l w s m m'
  apart_bytes =
      record {
        changed = λ p d. changed p d (moves l w) refl;
        spared = λ p f. spared p f (moves l w) refl;
        read = λ z i h b e. covered l (read_side l w) b (placed l b) (source_passes l w z small plain i h b e) refl;
      }

pub apart : Proves Apart
apart c l a q r m p = apart_bytes l (record { qpn = q; request = r }) _ m _ (correct c l a q r m p) p.opcode p.inline
