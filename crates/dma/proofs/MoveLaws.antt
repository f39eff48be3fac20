-- Laws of the copies: one entry read and written, a list of entries one by one, and a whole message. Assumes nothing.
use mathlib.Core.Path.{◌≡◌, sym, ap, ap₂, ◌∙◌}
use mathlib.Core.Bool.{Bool, true, false, cond, ◌&&◌}
use mathlib.Core.List.{List, [], ◌∷◌, ◌++◌, append_assoc, append-nil, map, map-append}
use Prim.Native.Nat.{ℕ, zero, suc, ◌+◌, ◌-◌, ◌≤◌, ◌<◌}
use native.Mathlib.Nat.{add-zero, zero-add, suc-add}
use native.Mathlib.Omega.{arith}
use lib.Dec.{eqb}
use lib.ListN.{length, get_or, take, drop, length-drop, length-map}
use lib.Seq.{paste, drop-drop, take-paste, take-length}
use borrow.Author.Tests.{eqb-true}
use Rattle.wire.proofs.ScanLaws.{and_left, and_right}
use Rattle.tables.specs.Card.{Card}
use Rattle.tables.specs.Records.{no_sge}
use Rattle.tables.specs.declared.Sge.{Sge}
use Rattle.rules.specs.Lists.{stored}
use Rattle.rules.specs.Permit.{place}
use Rattle.rules.specs.Touch.{Byte, range, sge_bytes, sge_total}
use Rattle.rules.proofs.Runs.{run, map_run, read_run, store_run, stored_join, stored_take}
use Rattle.rules.proofs.Stored.{sge_length}
use Rattle.dma.specs.Moves.{mapped, mapped_all, places, place_of, front, back, Lies, Splits, read_bytes, moved}
use Rattle.dma.proofs.SgeLaws.{one_bytes, one_total, left_cons, left_none, left_tests, left_total}

-- ---- a copy by way of a staging list

-- what was copied to the front of it
front_of : (z s : List ℕ) (n : ℕ) → n ≤ length s → take n (paste z 0 s n) ≡ take n s
front_of z s n h = ap (λ (k : ℕ). take k (paste z 0 s n)) (sym (zero-add n)) ∙ take-paste z 0 s n (omega arith) h

-- ---- places

places_cons : (c : Card) (s : Sge) (ss : List Sge) → places c (s ∷ ss) ≡ places c (s ∷ []) ++ places c ss
unfolding sge_bytes
places_cons c s ss =
    map-append (place c) (range s.address s.key s.length) (sge_bytes ss)
    ∙ ap (λ (l : List Byte). map (place c) l ++ places c ss) (sym (one_bytes s))

length_places : (c : Card) (ss : List Sge) → length (places c ss) ≡ sge_total ss
length_places c ss = length-map (sge_bytes ss) (place c) ∙ sge_length ss

-- ---- one entry whose bytes stand one after the other, which begins at b

module _ (c : Card) (m : List ℕ) (s : Sge) (l : Lies c (length m) s) (b : ℕ) (is : b ≡ place_of c s) where
  pub room : b + s.length ≤ length m
  room = rw is l.ends

  run_is : places c (s ∷ []) ≡ run b s.length
  run_is =
      ap (map (place c)) (one_bytes s) ∙ map_run (place c) s.key s.length s.address (place_of c s) l.at
      ∙ ap (λ (j : ℕ). run j s.length) (sym is)

  read : read_bytes m (places c (s ∷ [])) ≡ take s.length (drop b m)
  read = ap (read_bytes m) run_is ∙ read_run m s.length b room

  pub written : (m' vs : List ℕ) → s.length ≤ length vs → m' ≡ paste m b vs s.length → m' ≡ stored m (places c (s ∷ [])) vs
  written m' vs h e = e ∙ sym (store_run s.length m b vs room h) ∙ ap (λ (ps : List ℕ). stored m ps vs) (sym run_is)

  -- copied behind the first bytes of a staging list
  pub copied : (st st' : List ℕ) (at : ℕ) → at + s.length ≤ length st → st' ≡ paste st at (drop b m) s.length →
      take (at + s.length) st' ≡ take at st ++ read_bytes m (places c (s ∷ []))
  copied st st' at h e =
      let k = room in
      ap (take (at + s.length)) e ∙ take-paste st at (drop b m) s.length (omega arith) (simp length-drop (omega arith))
      ∙ ap (λ (x : List ℕ). take at st ++ x) (sym read)

-- a memory of the same length
pub lies_kept : (c : Card) (n n₁ : ℕ) (s : Sge) → n₁ ≡ n → Lies c n s → Lies c n₁ s
lies_kept c n n₁ s e l = record { at = l.at; ends = rw e l.ends }

-- ---- an entry in two parts

range_join : (n k a j : ℕ) → range a k (n + j) ≡ range a k n ++ range (a + n) k j
unfolding range
range_join zero k a j = let x : zero + j ≡ j = zero-add j in let y : a + zero ≡ a = add-zero a in rw (x, y)
range_join (suc n) k a j =
    let x : suc n + j ≡ suc (n + j) = suc-add n j in
    let y : a + suc n ≡ suc a + n = omega arith in
    rw (x, y) (ap (λ (bs : List Byte). record { address = a; key = k } ∷ bs) (range_join n k (suc a) j))

module _ (c : Card) (s : Sge) (n : ℕ) (h : n ≤ s.length) where
  pub places_split : places c (s ∷ []) ≡ places c (front s n ∷ []) ++ places c (back s n ∷ [])
  places_split =
      let e : s.length ≡ n + (s.length - n) = omega arith in
      ap (map (place c)) (one_bytes s ∙ ap (range s.address s.key) e ∙ range_join n s.key s.address (s.length - n))
      ∙ map-append (place c) (range s.address s.key n) (range (s.address + n) s.key (s.length - n))
      ∙ ap₂ (λ (x y : List ℕ). x ++ y) (ap (map (place c)) (sym (one_bytes (front s n)))) (ap (map (place c)) (sym (one_bytes (back s n))))

  -- one part is all
  pub places_whole : s.length ≤ n → places c (s ∷ []) ≡ places c (front s n ∷ [])
  places_whole b = let e : n ≡ s.length = omega arith in rw e

module _ (c : Card) (m : List ℕ) (s : Sge) (n : ℕ) (h : n ≤ s.length) where
  pub out_two : (st st₁ st₂ : List ℕ) (at : ℕ) → take (at + n) st₁ ≡ take at st ++ read_bytes m (places c (front s n ∷ [])) →
      take (at + n + (s.length - n)) st₂ ≡ take (at + n) st₁ ++ read_bytes m (places c (back s n ∷ [])) →
      take (at + s.length) st₂ ≡ take at st ++ read_bytes m (places c (s ∷ []))
  out_two st st₁ st₂ at e f =
      let k : at + s.length ≡ at + n + (s.length - n) = omega arith in
      ap (λ (j : ℕ). take j st₂) k ∙ f ∙ ap (λ (x : List ℕ). x ++ read_bytes m (places c (back s n ∷ []))) e
      ∙ append_assoc (take at st) (read_bytes m (places c (front s n ∷ []))) (read_bytes m (places c (back s n ∷ [])))
      ∙ ap (λ (x : List ℕ). take at st ++ x)
      (sym (map-append (λ p. get_or m p 0) (places c (front s n ∷ [])) (places c (back s n ∷ []))) ∙ ap (read_bytes m) (sym (places_split c s n h)))

  pub out_one : s.length ≤ n → (st st₁ : List ℕ) (at : ℕ) → take (at + n) st₁ ≡ take at st ++ read_bytes m (places c (front s n ∷ [])) →
      take (at + s.length) st₁ ≡ take at st ++ read_bytes m (places c (s ∷ []))
  out_one b st st₁ at f = let e : n ≡ s.length = omega arith in rw e at f

  pub in_two : (m₁ m₂ st : List ℕ) (at : ℕ) → at + s.length ≤ length st → m₁ ≡ stored m (places c (front s n ∷ [])) (drop at st) →
      m₂ ≡ stored m₁ (places c (back s n ∷ [])) (drop (at + n) st) → m₂ ≡ stored m (places c (s ∷ [])) (drop at st)
  in_two m₁ m₂ st at b e f =
      let q : length (places c (front s n ∷ [])) ≡ n = length_places c (front s n ∷ []) ∙ one_total (front s n) in
      let k : n ≤ length (drop at st) = simp length-drop (omega arith) in
      f ∙ ap (λ (x : List ℕ). stored x (places c (back s n ∷ [])) (drop (at + n) st)) e
      ∙ ap (stored (stored m (places c (front s n ∷ [])) (drop at st)) (places c (back s n ∷ [])))
      (sym (drop-drop n at st) ∙ ap (λ (j : ℕ). drop j (drop at st)) (sym q))
      ∙ sym (stored_join m (places c (front s n ∷ [])) (places c (back s n ∷ [])) (drop at st) (rw q k))
      ∙ ap (λ (ps : List ℕ). stored m ps (drop at st)) (sym (places_split c s n h))

  pub in_one : s.length ≤ n → (m₁ vs : List ℕ) → m₁ ≡ stored m (places c (front s n ∷ [])) vs → m₁ ≡ stored m (places c (s ∷ [])) vs
  in_one b m₁ vs f = f ∙ ap (λ (ps : List ℕ). stored m ps vs) (sym (places_whole c s n h b))

-- an entry whose first part is all of it
pub whole_lies : (c : Card) (memory : ℕ) (s : Sge) (n : ℕ) → Splits c memory s n → n ≡ s.length → Lies c memory s
whole_lies c memory s n d e = rw e at d.first

-- two entries of which the code found that each is one run
pub both_lie : (c : Card) (memory : ℕ) (a b : Sge) (n k : ℕ) → Splits c memory a n → Splits c memory b k → (eqb n a.length && eqb k b.length) ≡ true →
    Lies c memory a × Lies c memory b
both_lie c memory a b n k x y t = (
  whole_lies c memory a n x (eqb-true n a.length (and_left (eqb n a.length) (eqb k b.length) t)),
  whole_lies c memory b k y (eqb-true k b.length (and_right (eqb n a.length) (eqb k b.length) t)),
)

-- ---- one entry more of a list

module _ (c : Card) (m : List ℕ) (s : Sge) where
  -- the message: what is gathered, and the rest
  pub gather_more : (st st' : List ℕ) (at : ℕ) (rest : List Sge) (whole : List ℕ)
      → take (at + s.length) st' ≡ take at st ++ read_bytes m (places c (s ∷ [])) → take at st ++ read_bytes m (places c (s ∷ rest)) ≡ whole
      → take (at + s.length) st' ++ read_bytes m (places c rest) ≡ whole
  gather_more st st' at rest whole got w =
      ap (λ (x : List ℕ). x ++ read_bytes m (places c rest)) got
      ∙ append_assoc (take at st) (read_bytes m (places c (s ∷ []))) (read_bytes m (places c rest))
      ∙ ap (λ (x : List ℕ). take at st ++ x)
      (sym (map-append (λ p. get_or m p 0) (places c (s ∷ [])) (places c rest)) ∙ ap (read_bytes m) (sym (places_cons c s rest)))
      ∙ w

  -- memory: what is scattered, and then the rest
  pub scatter_more : (m' st : List ℕ) (at : ℕ) (rest : List Sge) (whole : List ℕ) → at + s.length ≤ length st
      → m' ≡ stored m (places c (s ∷ [])) (drop at st) → stored m (places c (s ∷ rest)) (drop at st) ≡ whole
      → stored m' (places c rest) (drop (at + s.length) st) ≡ whole
  scatter_more m' st at rest whole h e w =
      let n : length (places c (s ∷ [])) ≡ s.length = length_places c (s ∷ []) ∙ one_total s in
      let k : s.length ≤ length (drop at st) = simp length-drop (omega arith) in
      ap (λ (x : List ℕ). stored x (places c rest) (drop (at + s.length) st)) e
      ∙ ap (stored (stored m (places c (s ∷ [])) (drop at st)) (places c rest))
      (sym (drop-drop s.length at st) ∙ ap (λ (j : ℕ). drop j (drop at st)) (sym n))
      ∙ sym (stored_join m (places c (s ∷ [])) (places c rest) (drop at st) (rw n k))
      ∙ ap (λ (ps : List ℕ). stored m ps (drop at st)) (sym (places_cons c s rest)) ∙ w

-- ---- a list of entries: what a loop over it knows of those left, the entry of the turn, and those left after it

pub record Left (c : Card) (ss : List Sge) (i at : ℕ) : Type 0 where
  pub sum : at + sge_total (drop i ss) ≡ sge_total ss
  pub maps : mapped_all c (sge_bytes (drop i ss)) ≡ true

pub record Turn (c : Card) (ss : List Sge) (i at : ℕ) : Type 0 where
  pub cons : drop i ss ≡ get_or ss i no_sge ∷ drop (i + 1) ss
  pub maps : mapped_all c (sge_bytes (get_or ss i no_sge ∷ [])) ≡ true
  pub fits : at + (get_or ss i no_sge).length ≤ sge_total ss
  pub next : Left c ss (i + 1) (at + (get_or ss i no_sge).length)

pub turn : (c : Card) (ss : List Sge) (i at : ℕ) → Left c ss i at → i < length ss → Turn c ss i at
turn c ss i at l k =
    let s : Sge = get_or ss i no_sge in
    let rest : List Sge = drop (i + 1) ss in
    let m : (mapped_all c (sge_bytes (s ∷ [])) && mapped_all c (sge_bytes rest)) ≡ true =
    rw (one_bytes s) (sym (left_tests ss i (mapped c) k) ∙ l.maps) in
    let n = left_total ss i k in
    let sum = l.sum in
    record {
      cons = left_cons ss i k;
      maps = and_left (mapped_all c (sge_bytes (s ∷ []))) (mapped_all c (sge_bytes rest)) m;
      fits = omega arith;
      next = record { sum = omega arith; maps = and_right (mapped_all c (sge_bytes (s ∷ []))) (mapped_all c (sge_bytes rest)) m };
    }

module _ (c : Card) (m : List ℕ) (ss : List Sge) (i : ℕ) (done : length ss ≤ i) where
  pub gathered : (at : ℕ) (st : List ℕ) → at + sge_total (drop i ss) ≡ sge_total ss
      → take at st ++ read_bytes m (places c (drop i ss)) ≡ read_bytes m (places c ss)
      → take (sge_total ss) st ≡ read_bytes m (places c ss)
  unfolding sge_total sge_bytes
  gathered at st sum e =
      let none = left_none ss i done in
      let n : at ≡ sge_total ss = sym (add-zero at) ∙ ap (λ (l : List Sge). at + sge_total l) (sym none) ∙ sum in
      ap (λ (k : ℕ). take k st) (sym n) ∙ sym (append-nil (take at st))
      ∙ ap (λ (l : List Sge). take at st ++ read_bytes m (places c l)) (sym none) ∙ e

  pub scattered : (whole vs : List ℕ) → stored m (places c (drop i ss)) vs ≡ whole → m ≡ whole
  unfolding sge_bytes stored
  scattered whole vs e = ap (λ (l : List Sge). stored m (places c l) vs) (sym (left_none ss i done)) ∙ e

-- ---- a whole message, by way of a staging list that begins with its values

module _ (c : Card) (m m' st : List ℕ) (ts : List Sge) (w : m' ≡ stored m (places c ts) st) where
  staged : (vs : List ℕ) (n : ℕ) → sge_total ts ≡ n → take n st ≡ vs → m' ≡ stored m (places c ts) vs
  staged vs n k e =
      w ∙ stored_take m (places c ts) st
      ∙ ap (λ (j : ℕ). stored m (places c ts) (take j st)) (length_places c ts ∙ k)
      ∙ ap (stored m (places c ts)) e

  pub transferred : (ss : List Sge) → sge_total ts ≡ sge_total ss → take (sge_total ss) st ≡ read_bytes m (places c ss) → m' ≡ moved m (places c ss) (places c ts)
  unfolding moved
  transferred ss k e = staged (read_bytes m (places c ss)) (sge_total ss) k e

  pub inlined : (z vs : List ℕ) → sge_total ts ≡ length vs → st ≡ paste z 0 (drop 0 vs) (length vs) → m' ≡ stored m (places c ts) vs
  inlined z vs k e = staged vs (length vs) k (ap (take (length vs)) e ∙ front_of z vs (length vs) (omega arith) ∙ take-length vs)

-- in one move
pub moved_one : (c : Card) (m m' : List ℕ) (s t : Sge) (a b : ℕ) → Lies c (length m) s → Lies c (length m) t → a ≡ place_of c s → b ≡ place_of c t
    → sge_total (t ∷ []) ≡ sge_total (s ∷ []) → m' ≡ paste m b (drop a m) s.length → m' ≡ moved m (places c (s ∷ [])) (places c (t ∷ []))
moved_one c m m' s t a b ls lt ea eb k e =
    let n : t.length ≡ s.length = sym (one_total t) ∙ k ∙ one_total s in
    let r = room c m s ls a ea in
    let h : t.length ≤ length (drop a m) = simp length-drop (omega arith) in
    let w : m' ≡ paste m b (drop a m) t.length = e ∙ ap (paste m b (drop a m)) (sym n) in
    transferred c m m' (drop a m) (t ∷ []) (written c m t lt b eb m' (drop a m) h w) (s ∷ []) k
    (ap (λ (j : ℕ). take j (drop a m)) (one_total s) ∙ sym (read c m s ls a ea))

-- there or back
pub between : (c : Card) (m m' : List ℕ) (a b : Sge) (x y : ℕ) (reverse : Bool) → Lies c (length m) a → Lies c (length m) b → x ≡ place_of c a → y ≡ place_of c b
    → sge_total (b ∷ []) ≡ sge_total (a ∷ []) → m' ≡ cond reverse (paste m x (drop y m) a.length) (paste m y (drop x m) a.length)
    → m' ≡ cond reverse (moved m (places c (b ∷ [])) (places c (a ∷ []))) (moved m (places c (a ∷ [])) (places c (b ∷ [])))
between c m m' a b x y true la lb ex ey k e =
    let n : a.length ≡ b.length = sym (one_total a) ∙ sym k ∙ one_total b in
    moved_one c m m' b a y x lb la ey ex (sym k) (e ∙ ap (paste m x (drop y m)) n)
between c m m' a b x y false la lb ex ey k e = moved_one c m m' a b x y la lb ex ey k e
