-- An entry whose bytes lie in a live region: where each lies, in one run of memory or in two. Assumes nothing.
use mathlib.Core.Path.{◌≡◌, refl, sym, ap, subst, ◌∙◌}
use mathlib.Core.Bool.{true}
use mathlib.Core.List.{List, [], ◌∷◌}
use Prim.Native.Nat.{ℕ, ◌+◌, ◌-◌, ◌*◌, ◌/◌, ◌%◌, ◌^◌, ◌≤◌, ◌<◌}
use native.Mathlib.Decide.{ℕ_discrete}
use native.Mathlib.Nat.{add-zero}
use native.Mathlib.Omega.{arith}
use lib.ListN.{length}
use borrow.Author.Tests.{eq-eqb, ne_eqb}
use Rattle.wire.specs.Table.{row_at}
use Rattle.tables.specs.Card.{Card}
use Rattle.tables.specs.State.{card, region_at, pages_of}
use Rattle.tables.specs.Layout.{memory_t, mr_t, page_t}
use Rattle.tables.specs.Limits.{mr_count, most_memory, most_message, page_size, most_pages}
use Rattle.tables.specs.declared.Region.{Region}
use Rattle.tables.specs.declared.Registration.{Registration}
use Rattle.tables.specs.declared.Sge.{Sge}
use Rattle.validate.specs.Accept.{accepts}
use Rattle.validate.proofs.AcceptedLaws.{accepted, memory_most}
use Rattle.rules.specs.Permit.{place}
use Rattle.rules.specs.Touch.{range, sge_bytes, byte_in, byte_of}
use Rattle.dma.specs.Moves.{Ready, mapped, mapped_all, place_of, front, back, Lies, Splits}
use Rattle.dma.proofs.RangeLaws.{byte, range_all, range_at}
use Rattle.dma.proofs.SgeLaws.{one_bytes}
use Rattle.dma.proofs.RegionLaws.{Placed, placed, need_small, in_need, paged_byte, paged_room}

-- ---- an entry whose bytes lie in a live region

abbrev row_of : List ℕ → Sge → Region
row_of l s = row_at mr_t l (s.key / 256)

-- the offset of its first byte
abbrev offset : List ℕ → Sge → ℕ
offset l s = (row_of l s).start + (s.address - (row_of l s).virt)

module _ (l : List ℕ) (ok : accepts l ≡ true) (s : Sge) (h : mapped_all (card l) (sge_bytes (s ∷ [])) ≡ true) where
  abbrev each : mapped_all (card l) (range s.address s.key s.length) ≡ true
  each = rw (one_bytes s) at h

  nth : (i : ℕ) → i < s.length → Placed l (byte (s.address + i) s.key)
  nth i b = placed l ok (byte (s.address + i) s.key) (range_at (mapped (card l)) s.key s.length s.address each i b)

  -- a part of it
  part : (j k : ℕ) → j + k ≤ s.length → mapped_all (card l) (sge_bytes (record { address = s.address + j; length = k; key = s.key } ∷ [])) ≡ true
  part j k b =
      rw (one_bytes (record { address = s.address + j; length = k; key = s.key }))
      (range_all (mapped (card l)) s.key k (s.address + j)
      (λ i d.
      (let e : s.address + j + i ≡ s.address + (j + i) = omega arith in
      rw e (range_at (mapped (card l)) s.key s.length s.address each (j + i) (omega arith)))))

  -- its bytes lie at the offsets from that of the first on
  module _ (i : ℕ) (b : i < s.length) where
    abbrev here : Placed l (byte (s.address + i) s.key)
    here = nth i b

    start_is : here.region.start ≡ (row_of l s).start
    start_is = ap (λ (g : Registration). g.start) here.row

    virt_is : here.region.virt ≡ (row_of l s).virt
    virt_is = ap (λ (g : Registration). g.virt) here.row

    length_is : here.region.length ≡ (row_of l s).length
    length_is = ap (λ (g : Registration). g.length) here.row

  low : 0 < s.length → (row_of l s).virt ≤ s.address
  low b = let x = (nth 0 b).covers.low in let v = virt_is 0 b in omega arith

  module _ (i : ℕ) (b : i < s.length) where
    inside_row : offset l s + i < (row_of l s).start + (row_of l s).length
    inside_row =
        let y = (nth i b).covers.high in
        let v = virt_is i b in
        let n = length_is i b in
        let x = low (omega arith) in
        omega arith

    below_word : s.address + i < 2 ^ 64
    below_word =
        let y = (nth i b).covers.high in
        let w = (nth i b).word in
        omega arith

    place_at_lem : place (card l) (byte (s.address + i) s.key) ≡ byte_in (pages_of (region_at l (s.key / 256))) (offset l s + i)
    unfolding place byte_of
    place_at_lem =
        let p = nth i b in
        let a = start_is i b in
        let v = virt_is i b in
        let x = low (omega arith) in
        let e : p.region.start + (s.address + i - p.region.virt) ≡ offset l s + i = omega arith in
        rw (p.found, p.pages, e)

  place_first : (b : 0 < s.length) → place_of (card l) s ≡ byte_in (pages_of (region_at l (s.key / 256))) (offset l s)
  unfolding place_of
  place_first b =
      let f : s.length ≡ 0 → ⊥ = λ e. omega arith in
      rw (ne_eqb s.length 0 f)
      (ap (λ (x : ℕ). place (card l) (byte x s.key)) (sym (add-zero s.address)) ∙ place_at_lem 0 b
      ∙ ap (byte_in (pages_of (region_at l (s.key / 256)))) (add-zero (offset l s)))

  -- adjacent bytes, and pages
  flat_byte : (row_of l s).kind ≡ 0 → (o : ℕ) → byte_in (pages_of (region_at l (s.key / 256))) o ≡ o
  unfolding byte_in region_at
  flat_byte e o = rw (eq-eqb (row_of l s).kind 0 e)

  flat_place : (b : 0 < s.length) → (row_of l s).kind ≡ 0 → place_of (card l) s ≡ offset l s
  flat_place b e = place_first b ∙ flat_byte e (offset l s)

  abbrev page_of : ℕ → ℕ
  page_of o = row_at page_t l (most_pages * (s.key / 256) + o / page_size)

  module _ (b : 0 < s.length) (over : (row_of l s).kind ≡ 0 → ⊥) where
    at_first : offset l s < (row_of l s).start + (row_of l s).length
    at_first = rw add-zero at (inside_row 0 b)

    page_place : place_of (card l) s ≡ page_size * page_of (offset l s) + offset l s % page_size
    page_place = place_first b ∙ paged_byte l (s.key / 256) (row_at memory_t l 0) (nth 0 b).ranged over (offset l s) at_first

    page_below : offset l s / page_size < most_pages
    page_below =
        let d = in_need l (s.key / 256) (row_at memory_t l 0) (nth 0 b).ranged over (offset l s) at_first in
        let n = need_small l (s.key / 256) (row_at memory_t l 0) (nth 0 b).ranged over in
        omega arith

    page_inside_lem : (k : ℕ) → offset l s % page_size + k ≤ page_size → page_size * page_of (offset l s) + offset l s % page_size + k ≤ row_at memory_t l 0
    page_inside_lem k h = paged_room l (s.key / 256) (row_at memory_t l 0) (nth 0 b).ranged over (offset l s) k at_first h

  pub slot_below : 0 < s.length → s.key / 256 < mr_count
  slot_below b = (nth 0 b).slot

  flat_room : 0 < s.length → (row_of l s).kind ≡ 0 → (row_of l s).start + (row_of l s).length ≤ row_at memory_t l 0
  unfolding region_at
  flat_room b e = (nth 0 b).ranged.flat e

  -- an offset is a small number
  offset_small : 0 < s.length → offset l s < most_memory
  offset_small b = go (ℕ_discrete (row_of l s).kind 0)
    where
      go : Dec ((row_of l s).kind ≡ 0) → offset l s < most_memory
      go (yes e) =
          let w : offset l s + 0 < (row_of l s).start + (row_of l s).length = inside_row 0 b in
          let f = flat_room b e in
          let m = memory_most l (accepted l ok) in
          omega arith
      go (no f) = let d = page_below b f in omega arith

pub empty_place : (c : Card) (s : Sge) → s.length ≡ 0 → place_of c s ≡ 0
unfolding place_of
empty_place c s e = rw (eq-eqb s.length 0 e)

-- ---- an entry whose bytes stand one after the other

module _ (l m : List ℕ) (r : Ready l m) (s : Sge) (h : mapped_all (card l) (sge_bytes (s ∷ [])) ≡ true) where
  none_lies : s.length ≡ 0 → Lies (card l) (length m) s
  none_lies e = let z = empty_place (card l) s e in record { at = λ i b. absurd (omega arith); ends = omega arith }

  flat_lies : 0 < s.length → (row_of l s).kind ≡ 0 → Lies (card l) (length m) s
  flat_lies b e =
      let is = flat_place l r.accepted s h b e in
      let w = inside_row l r.accepted s h (s.length - 1) (omega arith) in
      let f = flat_room l r.accepted s h b e in
      record {
        at = λ i d. place_at_lem l r.accepted s h i d ∙ flat_byte l r.accepted s h e (offset l s + i) ∙ ap (λ (x : ℕ). x + i) (sym is);
        ends = omega (arith, r.whole);
      }

  page_lies : (b : 0 < s.length) → ((row_of l s).kind ≡ 0 → ⊥) → offset l s % page_size + s.length ≤ page_size → Lies (card l) (length m) s
  page_lies b f d =
      let is = page_place l r.accepted s h b f in
      let k = page_inside_lem l r.accepted s h b f s.length d in
      record {
        at = λ i x.
            (let q : (offset l s + i) / page_size ≡ offset l s / page_size = omega arith in
            let y : (offset l s + i) % page_size ≡ offset l s % page_size + i = omega arith in
            place_at_lem l r.accepted s h i x
            ∙ paged_byte l (s.key / 256) (row_at memory_t l 0) (nth l r.accepted s h 0 b).ranged f (offset l s + i) (inside_row l r.accepted s h i x)
            ∙ rw (q, y, is) (omega arith));
        ends = omega (arith, r.whole);
      }

  lies : (((row_of l s).kind ≡ 0 → ⊥) → offset l s % page_size + s.length ≤ page_size) → Lies (card l) (length m) s
  lies d = go (ℕ_discrete s.length 0) (ℕ_discrete (row_of l s).kind 0)
    where
      go : Dec (s.length ≡ 0) → Dec ((row_of l s).kind ≡ 0) → Lies (card l) (length m) s
      go (yes e) k = none_lies e
      go (no e) (yes k) = flat_lies (omega arith) k
      go (no e) (no k) = page_lies (omega arith) k (d k)

-- ---- an entry in two parts

module _ (l m : List ℕ) (r : Ready l m) (s : Sge) (h : mapped_all (card l) (sge_bytes (s ∷ [])) ≡ true) where
  pub front_mapped : (n : ℕ) → n ≤ s.length → mapped_all (card l) (sge_bytes (front s n ∷ [])) ≡ true
  front_mapped n b = rw add-zero at (part l r.accepted s h 0 n (omega arith))

  pub back_mapped : (n : ℕ) → n ≤ s.length → mapped_all (card l) (sge_bytes (back s n ∷ [])) ≡ true
  back_mapped n b = part l r.accepted s h n (s.length - n) (omega arith)

  whole_splits : (((row_of l s).kind ≡ 0 → ⊥) → offset l s % page_size + s.length ≤ page_size) → Splits (card l) (length m) s s.length
  whole_splits d =
      let z : s.length - s.length ≡ 0 = omega arith in
      record {
        most = omega arith;
        word = λ b. absurd (omega arith);
        first = lies l m r s h d;
        others = lies l m r (back s s.length) (back_mapped s.length (omega arith)) (λ k. rw z (omega arith));
      }

  two_splits : (n : ℕ) → 0 < n → n < s.length → s.length ≤ most_message → n ≡ page_size - offset l s % page_size → Splits (card l) (length m) s n
  two_splits n p b t e =
      let x = low l r.accepted s h (omega arith) in
      let o : offset l (back s n) ≡ offset l s + n = omega arith in
      record {
        most = omega arith;
        word = λ d. below_word l r.accepted s h n d;
        first = lies l m r (front s n) (front_mapped n (omega arith)) (λ k. omega arith);
        others = lies l m r (back s n) (back_mapped n (omega arith)) (λ k. rw o (omega arith));
      }

-- ---- the same from a region's row that was read

module _ (l m : List ℕ) (ready : Ready l m) (s : Sge) (h : mapped_all (card l) (sge_bytes (s ∷ [])) ≡ true) (r : Region) (is : r ≡ row_of l s) where
  pub run_none : s.length ≡ 0 → Splits (card l) (length m) s 0
  run_none e = subst (λ n. Splits (card l) (length m) s n) e (whole_splits l m ready s h (λ k. omega arith))

  pub run_flat : r.kind ≡ 0 → Splits (card l) (length m) s s.length
  run_flat e = whole_splits l m ready s h (λ k. absurd (k (ap (λ (x : Region). x.kind) (sym is) ∙ e)))

  pub run_within : s.length ≤ page_size - (r.start + (s.address - r.virt)) % page_size → Splits (card l) (length m) s s.length
  run_within b = let d : s.length ≤ page_size - offset l s % page_size = rw is at b in whole_splits l m ready s h (λ k. omega arith)

  pub run_across : page_size - (r.start + (s.address - r.virt)) % page_size < s.length → s.length ≤ most_message →
      Splits (card l) (length m) s (page_size - (r.start + (s.address - r.virt)) % page_size)
  run_across b t =
      let d : page_size - offset l s % page_size < s.length = rw is at b in
      rw is (two_splits l m ready s h (page_size - offset l s % page_size) (omega arith) d t refl)

module _ (l : List ℕ) (ok : accepts l ≡ true) (s : Sge) (h : mapped_all (card l) (sge_bytes (s ∷ [])) ≡ true) (b : 0 < s.length)
    (r : Region) (is : r ≡ row_of l s) where
  abbrev at : ℕ
  at = r.start + (s.address - r.virt)

  pub row_low : r.virt ≤ s.address
  row_low = rw is (low l ok s h b)

  pub row_small : at < most_memory
  row_small = rw is (offset_small l ok s h b)

  pub row_flat : r.kind ≡ 0 → at ≡ place_of (card l) s
  row_flat e = rw is (sym (flat_place l ok s h b (ap (λ (x : Region). x.kind) (sym is) ∙ e)))

  module _ (over : r.kind ≡ 0 → ⊥) where
    off : (row_of l s).kind ≡ 0 → ⊥
    off e = over (ap (λ (x : Region). x.kind) is ∙ e)

    pub row_index : at / page_size < most_pages
    row_index = rw is (page_below l ok s h b off)

    pub row_page : (p : ℕ) → p ≡ row_at page_t l (most_pages * (s.key / 256) + at / page_size)
        → (page_size * p + at % page_size ≡ place_of (card l) s) × (page_size * p + at % page_size ≤ most_memory)
    row_page p e =
        let q : p ≡ page_of l ok s h (offset l s) = e ∙ rw is in
        let w = page_inside_lem l ok s h b off 0 (omega arith) in
        let m = memory_most l (accepted l ok) in
        (rw (q, is) (sym (page_place l ok s h b off)), rw (q, is) (omega arith))
