-- Registrations of both kinds, and a deregistration, that pass their tests: the card that the state then means is the rules', and the state
-- stays accepted. Assumes nothing.
use mathlib.Core.Path.{◌≡◌, refl, ap, ◌∙◌}
use mathlib.Core.Bool.{true}
use mathlib.Core.List.{List}
use mathlib.Core.Option.{none}
use Prim.Native.Nat.{ℕ, ◌+◌, ◌-◌, ◌*◌, ◌/◌, ◌≤◌, ◌<◌}
use native.Mathlib.Omega.{arith}
use lib.Dec.{eqb}
use lib.ListN.{length, get_or}
use borrow.Author.Tests.{leb-false, ltb-false, le-leb, lt-ltb, not-false, eqb-false, eqb-true}
use Rattle.wire.specs.Checks.{refusal}
use Rattle.wire.proofs.CheckLaws.{passed}
use Rattle.wire.specs.Codec.{Fit, Fits}
use Rattle.wire.proofs.RowLaws.{length_rows}
use Rattle.wire.proofs.ScanLaws.{all_each}
use Rattle.wire.specs.Slots.{upd}
use Rattle.wire.specs.Table.{row_at, put_row}
use Rattle.wire.proofs.TableLaws.{put_row_length}
use Rattle.validate.specs.Accept.{access_ok, fields_ok, page_inside, paged_ok, land_ok}
use Rattle.validate.proofs.AcceptedLaws.{Accepted, Paged, access_most, memory_most, registering}
use Rattle.validate.proofs.KeptLaws.{region_accepted}
use Rattle.validate.proofs.TestLaws.{page_by_number}
use Rattle.validate.specs.Search.{last_variant, free_mrn}
use Rattle.tables.specs.Card.{Card, with_mr}
use Rattle.tables.specs.State.{RegionRows, card, mr_of, pages_needed, pages_at, region_at}
use Rattle.tables.specs.Layout.{memory_t, mr_flag_t, mr_t, flag_codec, region_codec}
use Rattle.tables.specs.Limits.{mr_count, most_memory, most_address, page_size, most_pages}
use Rattle.tables.specs.Commands.{Command}
use Rattle.tables.proofs.KindLaws.{RegionsOnly, only_then, region_card}
use Rattle.tables.proofs.ObjectLaws.{memory_is, pd_below, mr_below, mr_is}
use Rattle.tables.proofs.StoreLaws as store
use Rattle.tables.specs.declared.Region.{Region}
use Rattle.tables.specs.declared.Registration.{Registration}
use Rattle.rules.proofs.Variants.{new_small}
use Rattle.rules.specs.Bytes.{command_bytes, region_row, region_bytes, paged_bytes}
use Rattle.rules.specs.Control.{command_checks, command_effect, new_variant, registered}
use Rattle.rules.specs.Pages.{page_list_checks, entries_ok}
use Rattle.commands.proofs.EffectLaws.{Kept}
use Rattle.commands.proofs.PagesEffectLaws.{set_numbers, put_then, put_at, entries_most, pages_back, number_inside}

-- ---- a registration of either kind

-- what its tests show
record Allowed (c : Card) (g : Registration) : Type 0 where
  below : free_mrn c < mr_count
  access : access_ok g.access ≡ true
  domain : c.pd g.pd ≡ true
  size : 1 ≤ g.length
  start : g.start ≤ most_memory
  space : g.virt + g.length ≤ most_address

some_bytes : (k : ℕ) → (k ≡ 0 → ⊥) → 1 ≤ k
some_bytes k z = omega arith

module _ (l : List ℕ) (ok : Accepted l) (g : Registration) (a : Allowed (card l) g) (kind : ℕ) (known : kind ≤ 1) where
  abbrev n : ℕ
  n = free_mrn (card l)

  abbrev v : ℕ
  v = new_variant (card l)

  abbrev row : Region
  row = region_row kind g v

  abbrev x : List ℕ
  x = put_row mr_t l n row

  variant : v ≤ last_variant
  variant = new_small (card l) a.below

  fits : Fits region_codec row
  unfolding region_codec Fit
  fits =
      let p = access_most g.access a.access in
      let q = pd_below l g.pd a.domain in
      let r = variant in
      (omega arith, (omega arith, (omega arith, (omega arith, (omega arith, (omega arith, (omega arith, tt)))))))

  put_only : RegionsOnly l (region_bytes l kind g) n
  put_only = only_then (store.mr_row_only l n a.below row) (store.mr_flag_only x n a.below 1)

  put_rows : region_at (region_bytes l kind g) n ≡ record { flag = 1; row = row; pages = (region_at l n).pages }
  unfolding mr_flag_t mr_t flag_codec Fit
  put_rows =
      store.mr_flag_at x n a.below 1 (put_row_length mr_t l n row ∙ ok.sized) (omega arith, tt)
      ∙ ap (λ (r : RegionRows). record { flag = 1; row = r.row; pages = r.pages }) (store.mr_row_at l n a.below row ok.sized fits)

  fields : fields_ok row ≡ true
  fields =
      rw (a.access, le-leb 1 v (omega arith), le-leb 1 g.length a.size)
      (rw (le-leb (g.virt + g.length) most_address a.space))

  -- at the end the slot holds the region over the page numbers qs
  module _ (l' qs : List ℕ) (only : RegionsOnly l l' n) (rows : region_at l' n ≡ record { flag = 1; row = row; pages = qs }) where
    abbrev made : RegionRows
    made = record { flag = 1; row = row; pages = qs }

    placed : card l' ≡ with_mr (card l) (upd (card l).mr n (mr_of made))
    placed = region_card a.below only ∙ rw rows

    sound : land_ok (row_at memory_t l 0) made ≡ true → Accepted l'
    sound e =
        region_accepted ok only
        (rw rows (registering (card l).pd (row_at memory_t l 0) made (record { live = refl; domain = a.domain; limits = rw (fields, e) })))

-- ---- of adjacent bytes

module _ (l : List ℕ) (ok : Accepted l) (g : Registration) (e : refusal (command_checks (card l) (Command.register g)) ≡ none) where
  abbrev memory : ℕ
  memory = row_at memory_t l 0

  flat : Allowed (card l) g × (g.start + g.length ≤ memory)
  unfolding command_checks
  flat =
      let t = passed (command_checks (card l) (Command.register g)) e in
      let i : g.start + g.length ≤ memory = rw memory_is at (ltb-false (card l).memory (g.start + g.length) t.1.1.1.0) in
      let m = memory_most l ok in (
        record {
          below = leb-false mr_count (free_mrn (card l)) t.1.1.1.1.1.0;
          access = not-false (access_ok g.access) t.0;
          domain = not-false ((card l).pd g.pd) t.1.0;
          size = some_bytes g.length (eqb-false g.length 0 t.1.1.0);
          start = omega arith;
          space = ltb-false most_address (g.virt + g.length) t.1.1.1.1.0;
        },
        i,
      )

  pub register : Kept l (Command.register g)
  unfolding command_bytes command_effect mr_of
  register =
      let a = flat.0 in
      let qs : List ℕ = (region_at l (free_mrn (card l))).pages in
      let only = put_only l ok g a 0 (omega arith) in
      let rows = put_rows l ok g a 0 (omega arith) in
      record {
        meant = placed l ok g a 0 (omega arith) (region_bytes l 0 g) qs only rows;
        still = sound l ok g a 0 (omega arith) (region_bytes l 0 g) qs only rows (le-leb (g.start + g.length) memory flat.1);
      }

-- ---- over pages

-- what a registration that is done leaves of an accepted state
pub record KeptPaged (l : List ℕ) (g : Registration) (ps : List ℕ) : Type 0 where
  pub meant : card (paged_bytes l g ps) ≡ registered (card l) g ps
  pub still : Accepted (paged_bytes l g ps)

paged_fine : (memory : ℕ) (r : RegionRows) → Paged memory r → paged_ok memory r ≡ true
paged_fine memory r p =
    let s : ℕ = r.row.start in
    let n : ℕ = r.row.length in
    let o = p.offset in
    rw (le-leb s (page_size - 1) (omega arith), le-leb (s + n) (most_pages * page_size) p.most)
    (all_each (pages_needed s n) (λ k. page_inside memory (page_size * get_or r.pages k 0))
    (λ k b. page_by_number memory (get_or r.pages k 0) ∙ lt-ltb (get_or r.pages k 0) (memory / page_size) (p.numbers k b)))

record Listing (c : Card) (g : Registration) (ps : List ℕ) : Type 0 where
  allowed : Allowed c g
  offset : g.start < page_size
  most : pages_needed g.start g.length ≤ most_pages
  count : length ps ≡ pages_needed g.start g.length
  entries : entries_ok c.memory ps ≡ true

module _ (l : List ℕ) (ok : Accepted l) (g : Registration) (ps : List ℕ) (e : refusal (page_list_checks (card l) g ps) ≡ none) where
  abbrev need : ℕ
  need = pages_needed g.start g.length

  listing : Listing (card l) g ps
  unfolding page_list_checks
  listing =
      let t = passed (page_list_checks (card l) g ps) e in
      let o : g.start < page_size = leb-false page_size g.start t.1.1.1.1.0 in
      record {
        allowed = record {
          below = leb-false mr_count (free_mrn (card l)) t.1.1.1.1.1.1.1.1.0;
          access = not-false (access_ok g.access) t.0;
          domain = not-false ((card l).pd g.pd) t.1.0;
          size = some_bytes g.length (eqb-false g.length 0 t.1.1.0);
          start = omega arith;
          space = ltb-false most_address (g.virt + g.length) t.1.1.1.0;
        };
        offset = o;
        most = ltb-false most_pages need t.1.1.1.1.1.0;
        count = eqb-true (length ps) need (not-false (eqb (length ps) need) t.1.1.1.1.1.1.0);
        entries = not-false (entries_ok (card l).memory ps) t.1.1.1.1.1.1.1.0;
      }

  abbrev slot : ℕ
  slot = free_mrn (card l)

  abbrev old : List ℕ
  old = (region_at l slot).pages

  abbrev put : List ℕ
  put = region_bytes l 1 g

  abbrev numbers : List ℕ
  numbers = set_numbers old 0 ps

  places : length old ≡ most_pages
  unfolding region_at pages_at
  places = length_rows most_pages _

  room : length ps ≤ most_pages
  room = let p = listing in omega arith

  inside : entries_ok (row_at memory_t l 0) ps ≡ true
  inside = rw memory_is at listing.entries

  paged_only : RegionsOnly l (paged_bytes l g ps) slot
  unfolding paged_bytes
  paged_only =
      let a = listing.allowed in
      let r = room in
      put_then slot a.below ps 0 l put (omega arith) (put_only l ok g a 1 (omega arith))

  paged_rows : region_at (paged_bytes l g ps) slot ≡ record { flag = 1; row = region_row 1 g (new_variant (card l)); pages = numbers }
  unfolding paged_bytes
  paged_rows =
      let a = listing.allowed in
      let r = room in
      let o = put_only l ok g a 1 (omega arith) in
      put_at slot a.below ps 0 put (o.block.sized ∙ ok.sized) (omega arith) (entries_most (row_at memory_t l 0) most_memory (memory_most l ok) ps inside)
      ∙ ap (λ (y : RegionRows). record { flag = y.flag; row = y.row; pages = set_numbers y.pages 0 ps }) (put_rows l ok g a 1 (omega arith))

  lies : Paged (row_at memory_t l 0) (record { flag = 1; row = region_row 1 g (new_variant (card l)); pages = numbers })
  unfolding pages_needed
  lies =
      let p = listing in
      record {
        offset = p.offset;
        most = omega arith;
        numbers = λ k b. number_inside (row_at memory_t l 0) ps old k (omega (arith, places, room)) (rw p.count b) inside;
      }

  pub register_paged : KeptPaged l g ps
  unfolding mr_of
  register_paged =
      let p = listing in
      let a = p.allowed in
      record {
        meant =
            placed l ok g a 1 (omega arith) (paged_bytes l g ps) numbers paged_only paged_rows
            ∙ ap (registered (card l) g) (pages_back (row_at memory_t l 0) ps old need p.count (omega (arith, places)) inside);
        still = sound l ok g a 1 (omega arith) (paged_bytes l g ps) numbers paged_only paged_rows (paged_fine (row_at memory_t l 0) _ lies);
      }

-- ---- a deregistration

pub deregister : (l : List ℕ) → Accepted l → (n : ℕ) → refusal (command_checks (card l) (Command.deregister n)) ≡ none → Kept l (Command.deregister n)
unfolding command_checks command_bytes command_effect mr_of mr_flag_t flag_codec Fit
deregister l ok n e =
    let p = passed (command_checks (card l) (Command.deregister n)) e in
    let h : n < mr_count = mr_below l n (not-false _ p.0) in
    let o = store.mr_flag_only l n h 0 in
    let a = store.mr_flag_at l n h 0 ok.sized (omega arith, tt) in
    record { meant = region_card h o ∙ rw (a, mr_is l n h); still = region_accepted ok o (rw a) }
