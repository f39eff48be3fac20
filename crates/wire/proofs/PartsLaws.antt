-- Parts of a list of bytes, read and stored. Assumes nothing.
use mathlib.Core.Path.{◌≡◌, sym, ap, ◌∙◌}
use mathlib.Core.Logic.{◌≢◌, ⊎_elim, inl, inr}
use mathlib.Core.Bool.{Bool, ◌&&◌, ◌||◌}
use Prim.Native.Nat.{ℕ, suc, ◌+◌, ◌-◌, ◌*◌, ◌≤◌, ◌<◌, min}
use native.Mathlib.Nat.{mul-le-mul_right, suc-mul}
use native.Mathlib.Omega.{arith}
use mathlib.Core.List.{List, ◌++◌}
use lib.Dec.{T, leb, leb→le}
use lib.ListN.{length, get_or, take, drop, length-take, length-drop, get_or-append}
use lib.Seq.{paste, length-paste, take-paste, take_all, drop-paste, length-take-le, take-take, get_or-take, get_or-drop, get_or-append-add, ext_get_or}
use Rattle.wire.specs.Parts.{Parts, part_place, parts_end, part_at, put_part}
use Rattle.wire.proofs.CodecLaws.{both, either}
use Rattle.wire.proofs.RowLaws.{rows_apart}
use Rattle.wire.proofs.TableLaws.{Block}

-- ---- bytes laid over others

module _ (d s : List ℕ) (at n : ℕ) (h : at + n ≤ length d) (k : n ≤ length s) where
  head_is : take (at + n) (paste d at s n) ≡ take at d ++ take n s
  head_is = take-paste d at s n (omega arith) k

  head_size : length (take at d) ≡ at
  head_size = length-take-le at d (omega arith)

  pub paste_before : (i : ℕ) → i < at → get_or (paste d at s n) i 0 ≡ get_or d i 0
  paste_before i l =
      let b : i < length (take at d) = rw head_size l in
      sym (get_or-take (at + n) (paste d at s n) i 0 (omega arith)) ∙ ap (λ (x : List ℕ). get_or x i 0) head_is
      ∙ get_or-append (take at d) (take n s) 0 i b ∙ get_or-take at d i 0 l

  pub paste_here : (i : ℕ) → i < n → get_or (paste d at s n) (at + i) 0 ≡ get_or s i 0
  paste_here i l =
      let e : get_or (take at d ++ take n s) (length (take at d) + i) 0 ≡ get_or (take n s) i 0 = get_or-append-add (take at d) (take n s) i 0 in
      sym (get_or-take (at + n) (paste d at s n) (at + i) 0 (omega arith)) ∙ ap (λ (x : List ℕ). get_or x (at + i) 0) head_is
      ∙ (rw head_size at e) ∙ get_or-take n s i 0 l

  pub paste_after : (i : ℕ) → at + n ≤ i → get_or (paste d at s n) i 0 ≡ get_or d i 0
  paste_after i l =
      let e : at + n + (i - (at + n)) ≡ i = omega arith in
      let x = get_or-drop (at + n) (paste d at s n) (i - (at + n)) 0 in
      let y = get_or-drop (at + n) d (i - (at + n)) 0 in
      sym (rw e at x) ∙ ap (λ (z : List ℕ). get_or z (i - (at + n)) 0) (drop-paste d at s n (omega arith) k) ∙ (rw e at y)

module _ (t : Parts) where
  part_end : (n : ℕ) → n < t.count → part_place t n + t.size ≤ parts_end t
  unfolding part_place parts_end
  part_end n h =
      let m : suc n * t.size ≤ t.count * t.size = mul-le-mul_right t.size h in
      let e : suc n * t.size ≡ n * t.size + t.size = suc-mul n t.size in
      omega arith

  part_start : (n : ℕ) → t.base ≤ part_place t n
  unfolding part_place
  part_start n = omega arith

  -- the parts lie in the block, or outside of it
  module _ (from to : ℕ) where
    unfoldable pub parts_inside : Bool
    unfolding parts_end
    parts_inside = leb from t.base && leb (parts_end t) to

    unfoldable pub parts_outside : Bool
    unfolding parts_end
    parts_outside = leb (parts_end t) from || leb to t.base

  -- two lists with the same bytes there
  part_same : (l l' : List ℕ) (n : ℕ) → length l' ≡ length l → ((i : ℕ) → i < t.size → get_or l' (part_place t n + i) 0 ≡ get_or l (part_place t n + i) 0) →
      part_at t l' n ≡ part_at t l n
  unfolding part_at
  part_same l l' n e h =
      let p : ℕ = part_place t n in
      let size : (x : List ℕ) → length (take t.size (drop p x)) ≡ min t.size (length x - p) = λ x. length-take t.size (drop p x) ∙ ap (min t.size) (length-drop p x) in
      ext_get_or 0 (take t.size (drop p l')) (take t.size (drop p l)) (size l' ∙ ap (λ (k : ℕ). min t.size (k - p)) e ∙ sym (size l))
      (λ i b. (let c : i < min t.size (length l' - p) = rw (size l') at b in
      let f : i < t.size = omega arith in
      get_or-take t.size (drop p l') i 0 f ∙ get_or-drop p l' i 0 ∙ h i f ∙ sym (get_or-drop p l i 0) ∙ sym (get_or-take t.size (drop p l) i 0 f)))

  pub part_kept : (from to : ℕ) → T (parts_outside from to) → {l l' : List ℕ} → Block from to l l' → (n : ℕ) → n < t.count → part_at t l' n ≡ part_at t l n
  unfolding parts_outside
  part_kept from to off {l} {l'} b n h =
      let e : part_place t n + t.size ≤ parts_end t = part_end n h in
      let s : t.base ≤ part_place t n = part_start n in
      part_same l l' n b.sized
      (λ i c. b.same (part_place t n + i)
      (⊎_elim (λ z. inl (let w : parts_end t ≤ from = leb→le _ _ z in omega arith))
      (λ z. inr (let w : to ≤ t.base = leb→le _ _ z in omega arith))
      (either (leb (parts_end t) from) (leb to t.base) off)))

  -- part n copied over all of a list of its size
  pub part_copied : (l o : List ℕ) (n : ℕ) → n < t.count → parts_end t ≤ length l → length o ≡ t.size →
      {o' : List ℕ} → o' ≡ paste o 0 (drop (part_place t n) l) t.size → o' ≡ part_at t l n
  unfolding part_at
  part_copied l o n h whole w e =
      let s : List ℕ = drop (part_place t n) l in
      let long : t.size ≤ length s = (let b = part_end n h in simp length-drop (omega arith)) in
      let k : length (paste o 0 s t.size) ≡ t.size = length-paste o 0 s t.size (omega arith) long ∙ w in
      let z : 0 + t.size ≡ t.size = omega arith in
      e ∙ sym (take_all t.size (paste o 0 s t.size) (omega arith)) ∙ ap (λ (k : ℕ). take k (paste o 0 s t.size)) (sym z)
      ∙ take-paste o 0 s t.size (omega arith) long

  -- bytes stored in part n
  module _ (l : List ℕ) (n : ℕ) (x : List ℕ) (h : n < t.count) (room : length x ≤ t.size) (whole : parts_end t ≤ length l) where
    fits : part_place t n + length x ≤ length l
    fits = let e : part_place t n + t.size ≤ parts_end t = part_end n h in omega arith

    all : length x ≤ length x
    all = omega arith

    pub put_part_length : length (put_part t l n x) ≡ length l
    unfolding put_part
    put_part_length = length-paste l (part_place t n) x (length x) fits all

    pub part_block : (from to : ℕ) → T (parts_inside from to) → Block from to l (put_part t l n x)
    unfolding put_part parts_inside
    part_block from to within =
        let e : part_place t n + t.size ≤ parts_end t = part_end n h in
        let s : t.base ≤ part_place t n = part_start n in
        let p = both (leb from t.base) (leb (parts_end t) to) within in
        let a : from ≤ t.base = leb→le _ _ p.0 in
        let b : parts_end t ≤ to = leb→le _ _ p.1 in
        record {
          sized = put_part_length;
          same = λ i o. ⊎_elim (λ z. paste_before l x (part_place t n) (length x) fits all i (omega arith))
              (λ z. paste_after l x (part_place t n) (length x) fits all i (omega arith)) o;
        }

    pub part_other : (k : ℕ) → k ≢ n → part_at t (put_part t l n x) k ≡ part_at t l k
    unfolding put_part part_place
    part_other k d =
        part_same l (put_part t l n x) k put_part_length
        (λ i c. ⊎_elim
        (λ z. paste_before l x (part_place t n) (length x) fits all (part_place t k + i) (first i c z))
        (λ z. paste_after l x (part_place t n) (length x) fits all (part_place t k + i) (second i c z))
        (rows_apart t.size k n d))
      where
        first : (i : ℕ) → i < t.size → k * t.size + t.size ≤ n * t.size → part_place t k + i < part_place t n
        first i c z = omega arith

        second : (i : ℕ) → i < t.size → n * t.size + t.size ≤ k * t.size → part_place t n + length x ≤ part_place t k + i
        second i c z = omega arith

    -- they are read back
    pub part_put : take (length x) (part_at t (put_part t l n x) n) ≡ x
    unfolding part_at put_part
    part_put =
        let p : ℕ = part_place t n in
        let y : List ℕ = paste l p x (length x) in
        let q : length y ≡ length l = length-paste l p x (length x) fits all in
        let f : p + length x ≤ length l = fits in
        let e : length (take (length x) (drop p y)) ≡ length x = length-take-le (length x) (drop p y) (simp length-drop (omega arith)) in
        take-take (length x) t.size (drop p y) room
        ∙ ext_get_or 0 (take (length x) (drop p y)) x e
        (λ i b. (let c : i < length x = rw e at b in
        get_or-take (length x) (drop p y) i 0 c ∙ get_or-drop p y i 0 ∙ paste_here l x p (length x) fits all i c))
