-- The cases of a registration over pages: which tests passed and which failed gives what the function owes. Assumes nothing.
use mathlib.Core.Path.{◌≡◌, refl, sym, ap, ap₂, ◌∙◌}
use mathlib.Core.Bool.{Bool, true, false, cond, not, ◌&&◌}
use mathlib.Core.List.{List, [], ◌∷◌}
use mathlib.Core.Option.{Option as Maybe, none, some}
use Prim.Native.Nat.{ℕ, ◌+◌, ◌*◌, ◌≤◌, ◌<◌}
use native.Mathlib.Omega.{arith}
use lib.Dec.{eqb, leb}
use lib.ListN.{length}
use borrow.Author.Tests.{le-leb, lt-leb, leb-true, ne_eqb, eq-eqb, eqb-true}
use Rattle.wire.specs.Checks.{Check, ◌if◌, refusal}
use Rattle.wire.specs.Le.{le_at}
use Rattle.wire.specs.Table.{row_at}
use Rattle.wire.proofs.ScanLaws.{and_left, and_right, leb_same}
use Rattle.tables.specs.Commands.{head_checks, register_codec, register_read}
use Rattle.tables.specs.Layout.{memory_t}
use Rattle.tables.specs.Limits.{mr_count, most_memory, most_address, page_size, most_pages}
use Rattle.tables.specs.State.{card, pages_needed}
use Rattle.tables.specs.declared.Ack.{Ack}
use Rattle.tables.specs.declared.Ack.TheVariants as ack
use Rattle.tables.specs.declared.Registration.{Registration}
use Rattle.tables.proofs.ObjectLaws.{memory_is}
use Rattle.validate.specs.Accept.{accepts, access_ok}
use Rattle.validate.proofs.AcceptedLaws.{accepted, memory_most}
use Rattle.validate.specs.Search.{free_mrn}
use Rattle.rules.specs.Bytes.{region_bytes, put_pages, paged_bytes}
use Rattle.rules.specs.Call.{registration_in}
use Rattle.rules.specs.Control.{new_variant}
use Rattle.rules.specs.Pages.{entries_ok, page_list_checks}
use Rattle.rules.specs.Permit.{key_of}
use Rattle.rules.proofs.Tests.{refusal_append}
use Rattle.rules.specs.Verb.{verb_of}
use Rattle.rules.specs.declared.verb.Verb.{Verb}
use Rattle.rules.specs.declared.verb.Verb.TheVariants.{RegisterMr}
use Rattle.rules.proofs.VerbLaws.{verb_unknown, verb_back}
use Rattle.commands.specs.Control.{verb_by, verb_read}
use Rattle.commands.specs.Pages.{count_ok, in_pages, Listed, Recorded, record_checks}
use Rattle.std.specs.Prelude.{Result, Ok, Err, Some, None}
use Rattle.std.specs.Prelude.{Option as Read}
use Rattle.tables.specs.Refusal.{refusal_of}
use Rattle.tables.specs.declared.refusal.Refusal.{Refusal}
use Rattle.tables.specs.declared.refusal.Refusal.TheVariants.{BadField, BadRange, Full, NotLive, Unknown}
use Rattle.commands.proofs.CaseLaws.{over}
use Rattle.commands.proofs.PagesEffectLaws.{entries_most}

-- ---- the count of the pages

-- a region needs at most 16 pages exactly where it ends in them
need_within : (s n : ℕ) → leb (s + n) (most_pages * page_size) ≡ leb (pages_needed s n) most_pages
unfolding pages_needed
need_within s n = leb_same (s + n) (most_pages * page_size) (pages_needed s n) most_pages (λ h. omega arith) (λ h. omega arith)

module _ (g : Registration) (ps : List ℕ) where
  abbrev need : ℕ
  need = pages_needed g.start g.length

  pub count_long : leb (g.start + g.length) (most_pages * page_size) ≡ false → false ≡ count_ok g ps
  count_long e = let h : leb need most_pages ≡ false = sym (need_within g.start g.length) ∙ e in rw h

  pub count_fine : leb (g.start + g.length) (most_pages * page_size) ≡ true → (x : ℕ) → x ≡ need → eqb (length ps) x ≡ count_ok g ps
  count_fine e x i = let h : leb need most_pages ≡ true = sym (need_within g.start g.length) ∙ e in rw (h, i)

  -- a list of the right count is one of at most 16
  count_most : count_ok g ps ≡ true → length ps ≤ most_pages
  count_most e =
      let a = leb-true need most_pages (and_left (leb need most_pages) (eqb (length ps) need) e) in
      let b = eqb-true (length ps) need (and_right (leb need most_pages) (eqb (length ps) need) e) in
      omega arith

-- ---- the tests of answer 11, as a function made them: s is whether virt + length lies below 2^64, c whether the count is right

module _ (g : Registration) (ps : List ℕ) (memory : ℕ) where
  module _ (s c : Bool) (e : s ≡ leb (g.virt + g.length) most_address) (f : c ≡ count_ok g ps) where
    abbrev first : Bool
    first = not (eqb g.length 0) && s && not (leb page_size g.start) && c

    pub range_off : first ≡ false → false ≡ in_pages memory g ps
    range_off h = rw (← e, ← f, h)

    pub range_on : first ≡ true → (x : Bool) → x ≡ entries_ok memory ps → x ≡ in_pages memory g ps
    range_on h x i = rw (← e, ← f, h) i

  -- a list that passes them
  range_known : in_pages memory g ps ≡ true → (length ps ≤ most_pages) × (entries_ok memory ps ≡ true)
  range_known e =
      let x : Bool = not (eqb g.length 0) && leb (g.virt + g.length) most_address && not (leb page_size g.start) in
      let w : (x && count_ok g ps) ≡ true = and_left (x && count_ok g ps) (entries_ok memory ps) e in
      (count_most g ps (and_right x (count_ok g ps) w), and_right (x && count_ok g ps) (entries_ok memory ps) e)

-- and so its numbers are those of pages of the largest memory
pub list_fits : (l ps : List ℕ) (g : Registration) → accepts l ≡ true → in_pages (row_at memory_t l 0) g ps ≡ true
    → (length ps ≤ most_pages) × (entries_ok most_memory ps ≡ true)
list_fits l ps g ok e =
    let k = range_known g ps (row_at memory_t l 0) e in
    (k.0, entries_most (row_at memory_t l 0) most_memory (memory_most l (accepted l ok)) ps k.1)

-- ---- the tests in order

module _ (l ps : List ℕ) where
  module _ (g : Registration) where
    refused : (n : ℕ) → refusal (page_list_checks (card l) g ps) ≡ some n → Listed l (Some g) ps (Err (refusal_of n)) l
    refused n e = record { outcome = rw e; bytes = rw e }

    pub listed_access : access_ok g.access ≡ false → Listed l (Some g) ps (Err BadField) l
    unfolding page_list_checks
    listed_access e = refused 4 (rw e)

    -- the tests of answer 11 are one
    six : (a b c d e f : Bool) (cs : List Check)
        → refusal (11 if a ∷ 11 if not b ∷ 11 if c ∷ 11 if not d ∷ 11 if not e ∷ 11 if not f ∷ cs)
        ≡ cond (not a && b && not c && (d && e) && f) (refusal cs) (some 11)
    six true b c d e f cs = refl
    six false false c d e f cs = refl
    six false true true d e f cs = refl
    six false true false false e f cs = refl
    six false true false true false f cs = refl
    six false true false true true false cs = refl
    six false true false true true true cs = refl

    module _ (known : access_ok g.access ≡ true) where
      pub listed_dead : (card l).pd g.pd ≡ false → Listed l (Some g) ps (Err NotLive) l
      unfolding page_list_checks
      listed_dead e = refused 2 (rw (known, e))

      module _ (live : (card l).pd g.pd ≡ true) where
        abbrev memory : ℕ
        memory = row_at memory_t l 0

        tests : refusal (page_list_checks (card l) g ps) ≡ cond (in_pages memory g ps) (refusal (8 if leb mr_count (free_mrn (card l)) ∷ [])) (some 11)
        unfolding page_list_checks
        tests =
            rw (known, live, memory_is l, over most_address (g.virt + g.length), over most_pages (need g ps))
            (six (eqb g.length 0) (leb (g.virt + g.length) most_address) (leb page_size g.start) (leb (need g ps) most_pages) (eqb (length ps) (need g ps))
            (entries_ok memory ps) (8 if leb mr_count (free_mrn (card l)) ∷ []))

        pub listed_range : in_pages memory g ps ≡ false → Listed l (Some g) ps (Err BadRange) l
        listed_range e = refused 11 (tests ∙ rw e)

        module _ (inside : in_pages memory g ps ≡ true) (n : ℕ) (is : n ≡ free_mrn (card l)) where
          pub listed_full : mr_count ≤ n → Listed l (Some g) ps (Err Full) l
          listed_full h = refused 8 (tests ∙ rw (inside, le-leb mr_count (free_mrn (card l)) (omega arith)))

          pub listed_done : n < mr_count → (v : ℕ) → v ≡ new_variant (card l) → (key : ℕ) → key ≡ key_of n v → (x l' : List ℕ)
              → x ≡ region_bytes l 1 g → l' ≡ put_pages x n 0 ps → Listed l (Some g) ps (Ok (ack.Keys n key)) l'
          unfolding paged_bytes
          listed_done h v e key f x l' s t =
              let p : refusal (page_list_checks (card l) g ps) ≡ none = tests ∙ rw (inside, lt-leb mr_count (free_mrn (card l)) (omega arith)) in
              record {
                outcome = rw p (ap (λ (y : ℕ). Ok (ack.Keys n y)) f ∙ ap₂ (λ (y z : ℕ). Ok (ack.Keys y (key_of y z))) is e);
                bytes = rw p (t ∙ ap₂ (λ (y : List ℕ) (i : ℕ). put_pages y i 0 ps) s is);
              }

  -- ---- the record

  module _ (k : List ℕ) where
    abbrev later : (number : ℕ) → List Check
    later n = 13 if not (eqb n 7) ∷ 1 if not (eqb (length k) (2 + register_codec.size)) ∷ page_list_checks (card l) (registration_in k) ps

    module _ (head : refusal (head_checks k) ≡ none) (n : ℕ) (is : n ≡ le_at 1 k 1) where
      rest : refusal (record_checks (card l) k ps) ≡ refusal (later n)
      rest = refusal_append (head_checks k) (later (le_at 1 k 1)) ∙ rw (head, is)

      pub recorded_other : (n ≡ 7 → ⊥) → Recorded l k ps (Err Unknown) l
      recorded_other h =
          let z : refusal (record_checks (card l) k ps) ≡ some 13 = rest ∙ rw (ne_eqb n 7 h) in
          record { outcome = rw z; bytes = rw z }

      pub recorded_seven : n ≡ 7 → (x : Read Registration) → x ≡ register_read k → (r : Result Ack Refusal) (l' : List ℕ) → Listed l x ps r l' → Recorded l k ps r l'
      recorded_seven h x e r l' d = go (eqb (length k) (2 + register_codec.size)) refl (rw e at d)
        where
          go : (b : Bool) → eqb (length k) (2 + register_codec.size) ≡ b
              → Listed l (cond b (Some (registration_in k)) None) ps r l' → Recorded l k ps r l'
          go true q y =
              let z : refusal (record_checks (card l) k ps) ≡ refusal (page_list_checks (card l) (registration_in k) ps) = rest ∙ rw (eq-eqb n 7 h, q) in
              record { outcome = rw z y.outcome; bytes = rw z y.bytes }
          go false q y =
              let z : refusal (record_checks (card l) k ps) ≡ some 1 = rest ∙ rw (eq-eqb n 7 h, q) in
              record { outcome = rw z y.outcome; bytes = rw z y.bytes }

    pub recorded_stopped : (r : Refusal) → verb_read k ≡ Err r → Recorded l k ps (Err r) l
    recorded_stopped r e = go (refusal (head_checks k)) refl e
      where
        go : (o : Maybe ℕ) → refusal (head_checks k) ≡ o → verb_by o (verb_of (le_at 1 k 1)) ≡ Err r → Recorded l k ps (Err r) l
        go none i e =
            let u : Unknown ≡ r = sym (verb_unknown (le_at 1 k 1) r e) in
            rw (← u) (recorded_other i (le_at 1 k 1) refl (λ s. let j : ◌≡◌ {A = Result Verb Refusal} (Ok RegisterMr) (Err r) = sym (verb_back RegisterMr) ∙ sym (ap verb_of s) ∙ e in cc))
        go (some n) i e =
            let z : refusal (record_checks (card l) k ps) ≡ some n = refusal_append (head_checks k) (later (le_at 1 k 1)) ∙ rw i in
            let q : refusal_of n ≡ r = cc in
            record { outcome = rw (z, q); bytes = rw z }
