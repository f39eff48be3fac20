-- The look-up of a key in the state, and where the bytes of a live region of an accepted state lie. Assumes nothing.
use mathlib.Core.Path.{◌≡◌, refl, sym, ap, ◌∙◌}
use mathlib.Core.Bool.{Bool, true, false, cond, ◌&&◌, false≢true}
use mathlib.Core.List.{List, [], ◌∷◌, map}
use mathlib.Core.Option.{Option, none, some}
use Prim.Native.Nat.{ℕ, ◌+◌, ◌*◌, ◌/◌, ◌%◌, ◌≤◌, ◌<◌}
use native.Mathlib.Omega.{arith}
use lib.Dec.{eqb}
use lib.ListN.{length, get_or, take, length-map, get_or-map}
use lib.Seq.{length-take-le, get_or-take}
use borrow.Author.Tests.{eq-eqb, ne_eqb, eqb-true}
use Rattle.wire.specs.Table.{row_at}
use Rattle.tables.specs.Card.{Mr}
use Rattle.wire.proofs.RowLaws.{length_rows}
use Rattle.tables.specs.State.{card, region_at, registration_of, pages_at, pages_needed, pages_of}
use Rattle.tables.specs.Layout.{memory_t, mr_flag_t, mr_t, page_t}
use Rattle.tables.specs.Limits.{mr_count, most_address, page_size, most_pages}
use Rattle.tables.proofs.ObjectLaws.{mr_live, mr_below, mr_out, mr_row, mr_variant, mr_pages, page_at}
use Rattle.tables.specs.declared.Region.{Region}
use Rattle.tables.specs.declared.Registration.{Registration}
use Rattle.validate.specs.Accept.{accepts, mr_ok}
use Rattle.validate.proofs.AcceptedLaws.{accepted, registered, Ranged, Paged, ranged}
use Rattle.validate.proofs.TestLaws.{need_most}
use Rattle.rules.specs.Lists.{maybe}
use Rattle.rules.specs.Permit.{lookup, key_of}
use Rattle.rules.specs.Touch.{Byte, byte_in}
use Rattle.dma.specs.Grants.{region_of, within}
use Rattle.dma.specs.Moves.{mapped}
use Rattle.std.specs.Prelude.{None, Some}
use Rattle.dma.proofs.RangeLaws.{Within, within_facts}

-- a region's row without its kind
abbrev plain : Region → Region
plain r = record { access = r.access; variant = r.variant; pd = r.pd; kind = 0; start = r.start; length = r.length; virt = r.virt }

-- ---- how the look-up of a key ends

module _ (l : List ℕ) (key : ℕ) where
  abbrev n : ℕ
  n = key / 256

  nothing : lookup (card l).mr key ≡ none → region_of (card l).mr key ≡ None
  unfolding region_of
  nothing e = rw e

  pub region_out : mr_count ≤ n → region_of (card l).mr key ≡ None
  unfolding lookup
  region_out h = nothing (rw (mr_out l n h))

  pub region_free : n < mr_count → (row_at mr_flag_t l n ≡ 1 → ⊥) → region_of (card l).mr key ≡ None
  unfolding lookup
  region_free h f = nothing (rw (mr_live l n h, ne_eqb (row_at mr_flag_t l n) 1 f))

  pub region_other : n < mr_count → row_at mr_flag_t l n ≡ 1 → ((row_at mr_t l n).variant ≡ key % 256 → ⊥) → region_of (card l).mr key ≡ None
  unfolding lookup
  region_other h e f =
      nothing
      (rw (mr_live l n h, mr_variant l n h, eq-eqb (row_at mr_flag_t l n) 1 e, ne_eqb (256 * n + (row_at mr_t l n).variant) key (λ q. f (omega arith))))

  pub region_live : n < mr_count → row_at mr_flag_t l n ≡ 1 → (row_at mr_t l n).variant ≡ key % 256 → region_of (card l).mr key ≡ Some (plain (row_at mr_t l n))
  unfolding region_of lookup
  region_live h e f =
      rw (
        mr_live l n h,
        mr_variant l n h,
        eq-eqb (row_at mr_flag_t l n) 1 e,
        mr_row l n h e,
        eq-eqb (256 * n + (row_at mr_t l n).variant) key (omega arith),
      )

-- ---- a byte that lies in a live region

-- what the look-up finds is live, in the slot that the key names
looked_up : (mr : ℕ → Mr) (k : ℕ) (g : Registration) → lookup mr k ≡ some g → ((mr (k / 256)).live ≡ true) × ((mr (k / 256)).reg ≡ g)
unfolding lookup
looked_up mr k g e = go (mr (k / 256)).live (eqb (key_of (k / 256) (mr (k / 256)).variant) k) e
  where
    go : (a b : Bool) → cond {A = Option Registration} (a && b) (some (mr (k / 256)).reg) none ≡ some g → (a ≡ true) × ((mr (k / 256)).reg ≡ g)
    go true true q = (refl, cc)
    go true false q = let z : ◌≡◌ {A = ℕ} 0 1 = cc in absurd (omega arith)
    go false b q = let z : ◌≡◌ {A = ℕ} 0 1 = cc in absurd (omega arith)

-- a region where the test of an optional one passes
record Passing (o : Option Registration) (f : Registration → Bool) : Type 0 where
  one : Registration
  is : o ≡ some one
  passes : f one ≡ true

passing : (o : Option Registration) (f : Registration → Bool) → maybe false f o ≡ true → Passing o f
passing none f e = absurd (false≢true e)
passing (some g) f e = record { one = g; is = refl; passes = e }

-- its region: where it is found, and what its rows say
pub record Placed (l : List ℕ) (b : Byte) : Type 0 where
  pub region : Registration
  pub found : lookup (card l).mr b.key ≡ some region
  pub slot : b.key / 256 < mr_count
  pub row : region ≡ registration_of (row_at mr_t l (b.key / 256))
  pub pages : ((card l).mr (b.key / 256)).pages ≡ pages_of (region_at l (b.key / 256))
  pub ranged : Ranged (row_at memory_t l 0) (region_at l (b.key / 256))
  pub word : region.virt + region.length ≤ most_address
  pub covers : Within region b.address

module _ (l : List ℕ) (ok : accepts l ≡ true) where
  row_live : (n : ℕ) → ((card l).mr n).live ≡ true → row_at mr_flag_t l n ≡ 1
  row_live n e = eqb-true (row_at mr_flag_t l n) 1 (sym (mr_live l n (mr_below l n e)) ∙ e)

  pub placed : (b : Byte) → mapped (card l) b ≡ true → Placed l b
  unfolding mapped mr_ok region_at
  placed b e =
      let n : ℕ = b.key / 256 in
      let p = passing (lookup (card l).mr b.key) (λ g. within g b.address) e in
      let s = looked_up (card l).mr b.key p.one p.is in
      let h : n < mr_count = mr_below l n s.0 in
      let f : row_at mr_flag_t l n ≡ 1 = row_live n s.0 in
      let q : p.one ≡ registration_of (row_at mr_t l n) = sym s.1 ∙ mr_row l n h f in
      let m : ℕ = row_at memory_t l 0 in
      let r = ranged m (region_at l n) (registered (card l).pd m (region_at l n) ((accepted l ok).mrs n h) (λ z. omega arith)).limits in
      record {
        region = p.one;
        found = p.is;
        slot = h;
        row = q;
        pages = mr_pages l n h f;
        ranged = r;
        word = rw q r.space;
        covers = within_facts p.one b.address p.passes;
      }

-- ---- the byte at an offset into the pages of a region

-- a list of pages that has as many places as it needs
byte_at : (ps : List ℕ) (o : ℕ) → 0 < length ps → byte_in ps o ≡ get_or ps (o / page_size) 0 + o % page_size
unfolding byte_in
byte_at [] o h = absurd (omega arith)
byte_at (p ∷ ps) o h = refl

module _ (l : List ℕ) (n : ℕ) (memory : ℕ) (r : Ranged memory (region_at l n)) (over : (row_at mr_t l n).kind ≡ 0 → ⊥) where
  abbrev row : Region
  row = row_at mr_t l n

  abbrev need : ℕ
  need = pages_needed row.start row.length

  abbrev numbers : List ℕ
  numbers = pages_at l n

  paged : Paged memory (region_at l n)
  unfolding region_at
  paged = r.paged over

  pub need_small : need ≤ most_pages
  unfolding region_at
  need_small = need_most row.start row.length paged.most

  full : length numbers ≡ most_pages
  unfolding pages_at
  full = length_rows most_pages (λ k. row_at page_t l (most_pages * n + k))

  listed : pages_of (region_at l n) ≡ map (λ p. page_size * p) (take need numbers)
  unfolding region_at
  listed = rw (ne_eqb row.kind 0 over)

  cut_length : length (take need numbers) ≡ need
  cut_length = length-take-le need numbers (let f = full in let s = need_small in omega arith)

  listed_length : length (pages_of (region_at l n)) ≡ need
  listed_length = ap length listed ∙ length-map (take need numbers) (λ p. page_size * p) ∙ cut_length

  page_is : (k : ℕ) → k < need → get_or (pages_of (region_at l n)) k 0 ≡ page_size * row_at page_t l (most_pages * n + k)
  page_is k b =
      let s = need_small in
      ap (λ (ps : List ℕ). get_or ps k 0) listed ∙ get_or-map (λ p. page_size * p) (take need numbers) k 0
      ∙ ap (λ (x : ℕ). page_size * x) (get_or-take need numbers k 0 b ∙ page_at l n k (omega arith))

  page_small : (k : ℕ) → k < need → row_at page_t l (most_pages * n + k) < memory / page_size
  unfolding region_at
  page_small k b = let s = need_small in rw (← page_at l n k (omega arith)) (paged.numbers k b)

  pub in_need : (o : ℕ) → o < row.start + row.length → o / page_size < need
  unfolding pages_needed
  in_need o b = omega arith

  pub paged_byte : (o : ℕ) → o < row.start + row.length →
      byte_in (pages_of (region_at l n)) o ≡ page_size * row_at page_t l (most_pages * n + o / page_size) + o % page_size
  paged_byte o b =
      let d = in_need o b in
      byte_at (pages_of (region_at l n)) o (rw listed_length (omega arith)) ∙ ap (λ (x : ℕ). x + o % page_size) (page_is (o / page_size) d)

  pub paged_room : (o k : ℕ) → o < row.start + row.length → o % page_size + k ≤ page_size →
      page_size * row_at page_t l (most_pages * n + o / page_size) + o % page_size + k ≤ memory
  paged_room o k b h = let s = page_small (o / page_size) (in_need o b) in omega arith
