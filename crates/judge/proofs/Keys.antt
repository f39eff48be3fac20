-- The region table against the log: a key finds the same registration in both. Assumes nothing.
use mathlib.Core.Path.{◌≡◌, refl, sym, ap, subst, ◌∙◌}
use mathlib.Core.Bool.{Bool, true, false, cond, ◌&&◌, ◌||◌, false≢true}
use mathlib.Core.List.{List, [], ◌∷◌}
use mathlib.Core.Option.{Option, none, some, some-ne-none}
use Prim.Native.Nat.{ℕ, ◌+◌, ◌-◌, ◌/◌, ◌%◌, ◌^◌, ◌≤◌, ◌<◌}
use native.Mathlib.Omega.{arith}
use lib.Dec.{eqb, leb, ltb}
use lib.ListN.{length, get_or}
use borrow.Author.Tests.{eq-eqb, ne_eqb, eqb-true, eqb-false, leb-true, ltb-true}
use Rattle.wire.specs.Slots.{upd}
use Rattle.wire.proofs.SlotLaws.{split, same}
use Rattle.wire.proofs.ScanLaws.{and_left, and_right, or_true}
use Rattle.tables.specs.Limits.{most_address, page_size}
use Rattle.tables.specs.Card.{Mr, free_mr}
use Rattle.tables.specs.State.{pages_needed}
use Rattle.tables.specs.declared.Registration.{Registration}
use Rattle.rules.specs.Lists.{names, is_some}
use Rattle.rules.specs.Touch.{byte_in, byte_of}
use Rattle.rules.specs.declared.Party as rules
use Rattle.rules.specs.Pages.{entry_ok, entries_ok}
use Rattle.rules.specs.Permit.{key_of, lookup, covers, place_in, Use}
use Rattle.validate.specs.Search.{last_variant}
use Rattle.rules.proofs.Ranges.{all_in}
use Rattle.rules.proofs.Variants.{slot}
use Rattle.judge.specs.Log.{KeyNote}
use Rattle.judge.specs.Dropped.{ended_by}
use Rattle.judge.specs.Judge.{Standing, Party, Right, grants, unless, passes_by, place_by, flags_grant}
use Rattle.judge.proofs.Rights.{needs_right, same_right, same_opens}

-- every address of the region means a byte of a memory of length n, and is below 2^64
abbrev pub Sits : (n : ℕ) → (pages : List ℕ) → Registration → (a : ℕ) → Type 0
Sits n ps g a = (byte_of ps g a < n) × (a < 2 ^ 64)

abbrev pub Inside : ℕ → (pages : List ℕ) → Registration → Type 0
Inside n ps g = (a : ℕ) → g.virt ≤ a → a < g.virt + g.length → Sits n ps g a

pub flat_inside : (n : ℕ) (g : Registration) → g.start + g.length ≤ n → g.virt + g.length ≤ most_address → Inside n [] g
unfolding byte_of byte_in
flat_inside n g h b a v w = (omega arith, omega arith)

-- a byte of listed pages, each whole inside the memory
listed_inside : (n : ℕ) (ps : List ℕ) (o : ℕ) → entries_ok n ps ≡ true → o / page_size < length ps → byte_in ps o < n
unfolding byte_in
listed_inside n [] o e h = absurd (omega arith)
listed_inside n (p ∷ ps) o e h =
    let q : ℕ = get_or (p ∷ ps) (o / page_size) 0 in
    let w : q + page_size ≤ n =
    leb-true (q + page_size) n (and_right (eqb (q % page_size) 0) (leb (q + page_size) n) (all_in (entry_ok n) (p ∷ ps) (o / page_size) 0 h e)) in
    omega arith

pub paged_inside : (n : ℕ) (g : Registration) (ps : List ℕ) → length ps ≡ pages_needed g.start g.length → entries_ok n ps ≡ true →
    g.virt + g.length ≤ most_address → Inside n ps g
unfolding byte_of pages_needed
paged_inside n g ps e f b a v w = (listed_inside n ps (g.start + (a - g.virt)) f (omega arith), omega arith)

-- the region of the slot i, with its number, where it has the key k
abbrev pub held_at : Mr → (i k : ℕ) → Option Standing
held_at s i k = cond (s.live && eqb (key_of i s.variant) k) (some (record { mrn = i; reg = s.reg; pages = s.pages })) none

-- the table mr agrees with what the log says of each key: its standing registration, whether one ended, and whether it was handed out;
-- D says that no key was handed out twice
pub record Keys (n : ℕ) (mr : ℕ → Mr) (st : ℕ → Option Standing) (en hd : ℕ → Bool) (D : Type 0) : Type 0 where
  pub finds : (k : ℕ) → held_at (mr (k / 256)) (k / 256) k ≡ st k
  pub gone : (k : ℕ) → en k ≡ true → st k ≡ none
  pub given : (k : ℕ) → en k ≡ true → hd k ≡ true
  pub known : (k : ℕ) → is_some (st k) ≡ true → hd k ≡ true
  pub spent : (k : ℕ) → hd k ≡ true → k % 256 ≤ (mr (k / 256)).variant
  pub distinct : D
  pub inside : (i : ℕ) → (mr i).live ≡ true → Inside n (mr i).pages (mr i).reg
  pub small : (i : ℕ) → (mr i).variant ≤ last_variant

eqb_sym : (x y : ℕ) → eqb x y ≡ eqb y x
eqb_sym x y = go (eqb x y) refl
  where
    go : (b : Bool) → eqb x y ≡ b → eqb x y ≡ eqb y x
    go true e = e ∙ sym (eq-eqb y x (sym (eqb-true x y e)))
    go false e = e ∙ sym (ne_eqb y x (λ p. eqb-false x y e (sym p)))

-- a key of another slot is another key
other_key : (i v k : ℕ) → v ≤ last_variant → eqb i (k / 256) ≡ false → eqb (key_of i v) k ≡ false
other_key i v k h e = ne_eqb (key_of i v) k (λ p. eqb-false i (k / 256) e (omega (arith, slot i v h)))

-- a slot that is not live finds nothing
dead : (s : Mr) (i k : ℕ) → s.live ≡ false → held_at s i k ≡ none
dead s i k e = rw e refl

or_same : (b : Bool) → (b || b) ≡ b
or_same true = refl
or_same false = refl

unless_same : (i : ℕ) (g : Registration) (ps : List ℕ) (b : Bool) → none ≡ unless i (cond b (some (record { mrn = i; reg = g; pages = ps })) none)
unless_same i g ps true = rw same
unless_same i g ps false = refl

unless_other : (i j : ℕ) (g : Registration) (ps : List ℕ) → eqb i j ≡ false → (b : Bool) →
    cond b (some (record { mrn = j; reg = g; pages = ps })) none ≡ unless i (cond b (some (record { mrn = j; reg = g; pages = ps })) none)
unless_other i j g ps e true = rw e
unless_other i j g ps e false = refl

module _ (n : ℕ) (mr : ℕ → Mr) (st : ℕ → Option Standing) (en hd : ℕ → Bool) (D : Type 0) (agree : Keys n mr st en hd D) (i : ℕ) where
  in_slot : (j k : ℕ) → k / 256 ≡ j → held_at (mr j) j k ≡ st k
  in_slot j k e = subst (λ x. held_at (mr x) x k ≡ st k) e (agree.finds k)

  -- a free slot with a variant left takes a registration, under the next one
  pub registers : (g : Registration) (ps : List ℕ) → (mr i).live ≡ false → (mr i).variant < last_variant → Inside n ps g →
      let k₁ = key_of i ((mr i).variant + 1) in
      Keys n (upd mr i (record { live = true; variant = (mr i).variant + 1; reg = g; pages = ps }))
      (λ k. cond (eqb k₁ k || eqb k₁ k) (some (record { mrn = i; reg = g; pages = ps })) (st k)) en (λ k. eqb k₁ k || eqb k₁ k || hd k)
      ((((hd k₁ ≡ false) × (hd k₁ ≡ false))) × D)
  registers g ps free left fits =
      record {
        finds = λ k. rw (or_same (eqb k₁ k)) (finds' k);
        gone = λ k h. rw (or_same (eqb k₁ k)) (still_gone k h (eqb k₁ k) refl);
        given = λ k h. rw (agree.given k h) (or_true (eqb k₁ k || eqb k₁ k));
        known = λ k. rw (or_same (eqb k₁ k)) (known' k (eqb k₁ k));
        spent = λ k. rw (or_same (eqb k₁ k)) (spent' k (eqb k₁ k) refl);
        distinct = ((unheard (hd k₁) refl, unheard (hd k₁) refl), agree.distinct);
        inside = split i _ (rw same (λ e. fits)) (λ j e. rw e (agree.inside j));
        small = split i _ (rw same small') (λ j e. rw e (agree.small j));
      }
    where
      k₁ : ℕ
      k₁ = key_of i ((mr i).variant + 1)

      new : Mr
      new = record { live = true; variant = (mr i).variant + 1; reg = g; pages = ps }

      small' : (mr i).variant + 1 ≤ last_variant
      small' = omega arith

      -- its key was never handed out: the slot's variant would be as large
      unheard : (b : Bool) → hd k₁ ≡ b → b ≡ false
      unheard true e =
          let h : k₁ % 256 ≤ (mr i).variant = rw (slot i ((mr i).variant + 1) small') at (agree.spent k₁ e) in absurd (omega arith)
      unheard false e = refl

      known' : (k : ℕ) (b : Bool) → is_some (cond b (some (record { mrn = i; reg = g; pages = ps })) (st k)) ≡ true → (b || hd k) ≡ true
      known' k true h = refl
      known' k false h = agree.known k h

      still_gone : (k : ℕ) → en k ≡ true → (b : Bool) → eqb k₁ k ≡ b → cond b (some (record { mrn = i; reg = g; pages = ps })) (st k) ≡ none
      still_gone k h true e =
          let q : hd k₁ ≡ true = ap hd (eqb-true k₁ k e) ∙ agree.given k h in absurd (false≢true (sym (unheard (hd k₁) refl) ∙ q))
      still_gone k h false e = agree.gone k h

      spent' : (k : ℕ) (b : Bool) → eqb k₁ k ≡ b → (b || hd k) ≡ true → k % 256 ≤ (upd mr i new (k / 256)).variant
      spent' k b e h =
          split i (λ j. k / 256 ≡ j → k % 256 ≤ (upd mr i new j).variant)
          (λ p. rw (same i) (here b e h p))
          (λ j d p. rw d (subst (λ x. k % 256 ≤ (mr x).variant) p (agree.spent k (there b e h (subst (λ x. eqb i x ≡ false) (sym p) d)))))
          (k / 256) refl
        where
          here : (b : Bool) → eqb k₁ k ≡ b → (b || hd k) ≡ true → k / 256 ≡ i → k % 256 ≤ (mr i).variant + 1
          here true e h p = let q : k₁ ≡ k = eqb-true k₁ k e in omega arith
          here false e h p = let q : k % 256 ≤ (mr i).variant = rw p at (agree.spent k h) in omega arith

          there : (b : Bool) → eqb k₁ k ≡ b → (b || hd k) ≡ true → eqb i (k / 256) ≡ false → hd k ≡ true
          there true e h d = absurd (false≢true (sym (other_key i ((mr i).variant + 1) k small' d) ∙ e))
          there false e h d = h

      finds' : (k : ℕ) → held_at (upd mr i new (k / 256)) (k / 256) k ≡ cond (eqb k₁ k) (some (record { mrn = i; reg = g; pages = ps })) (st k)
      finds' k =
          split i (λ j. k / 256 ≡ j → held_at (upd mr i new j) j k ≡ cond (eqb k₁ k) (some (record { mrn = i; reg = g; pages = ps })) (st k))
          (λ e. rw (same i, sym (in_slot i k e) ∙ dead (mr i) i k free) refl)
          (λ j e p. rw (e, other_key i ((mr i).variant + 1) k small' (subst (λ x. eqb i x ≡ false) (sym p) e)) (in_slot j k p))
          (k / 256) refl

  -- a slot is dropped
  pub deregisters : Keys n (upd mr i (free_mr (mr i).variant)) (λ k. unless i (st k)) (λ k. ended_by (KeyNote.deregistered i) (st k) (en k)) hd D
  deregisters =
      record {
        gone = λ k. now_gone (st k) (en k) (agree.gone k);
        given = λ k. was (st k) (en k) (hd k) (agree.known k) (agree.given k);
        known = λ k h. agree.known k (still_some (st k) h);
        spent = λ k h. split i (λ j. k / 256 ≡ j → k % 256 ≤ (upd mr i (free_mr (mr i).variant) j).variant)
            (λ p. rw (same i, ← p) (agree.spent k h)) (λ j d p. rw (d, ← p) (agree.spent k h)) (k / 256) refl;
        distinct = agree.distinct;
        finds = λ k. split i (λ j. k / 256 ≡ j → held_at (upd mr i (free_mr (mr i).variant) j) j k ≡ unless i (st k))
            (λ e. rw (same i, ← in_slot i k e) (unless_same i (mr i).reg (mr i).pages ((mr i).live && eqb (key_of i (mr i).variant) k)))
            (λ j e p. rw (e, ← in_slot j k p) (unless_other i j (mr j).reg (mr j).pages e ((mr j).live && eqb (key_of j (mr j).variant) k)))
            (k / 256) refl;
        inside = split i _ (rw same (λ e. absurd (false≢true e))) (λ j e. rw e (agree.inside j));
        small = split i _ (rw same (agree.small i)) (λ j e. rw e (agree.small j));
      }
    where
      now_gone : (o : Option Standing) (b : Bool) → (b ≡ true → o ≡ none) → ended_by (KeyNote.deregistered i) o b ≡ true → unless i o ≡ none
      now_gone none b f h = refl
      now_gone (some s) b f h = go (eqb i s.mrn) h
        where
          go : (x : Bool) → (x || b) ≡ true → cond x none (some s) ≡ none
          go true e = refl
          go false e = f e

      was : (o : Option Standing) (b g : Bool) → (is_some o ≡ true → g ≡ true) → (b ≡ true → g ≡ true) → ended_by (KeyNote.deregistered i) o b ≡ true → g ≡ true
      was none b g f e h = e h
      was (some s) b g f e h = f refl

      still_some : (o : Option Standing) → is_some (unless i o) ≡ true → is_some o ≡ true
      still_some none h = h
      still_some (some s) h = refl

-- ---- what a key permits

module _ (n : ℕ) (mr : ℕ → Mr) (st : ℕ → Option Standing) (en hd : ℕ → Bool) (D : Type 0) (agree : Keys n mr st en hd D) where
  pub same_covers : (k : ℕ) (p : rules.Party) (u : Use) (a : ℕ) →
      passes_by (st k) (record { domain = some p.pd; rights = p.rights }) (needs_right u) a ≡ covers (lookup mr k) p u a
  unfolding lookup covers
  same_covers k p u a = rw (← agree.finds k) (go ((mr (k / 256)).live && eqb (key_of (k / 256) (mr (k / 256)).variant) k))
    where
      s : Mr
      s = mr (k / 256)

      go : (b : Bool) → passes_by (cond b (some (record { mrn = k / 256; reg = s.reg; pages = s.pages })) none)
          (record { domain = some p.pd; rights = p.rights }) (needs_right u) a ≡ covers (cond b (some s.reg) none) p u a
      go true = rw (same_right u s.reg.access, same_opens u p.rights, eqb_sym p.pd s.reg.pd)
      go false = refl

  pub same_place : (k a : ℕ) → place_by (st k) a ≡ place_in (lookup mr k) (mr (k / 256)).pages a
  unfolding lookup
  same_place k a = rw (← agree.finds k) (go ((mr (k / 256)).live && eqb (key_of (k / 256) (mr (k / 256)).variant) k))
    where
      s : Mr
      s = mr (k / 256)

      go : (b : Bool) → place_by (cond b (some (record { mrn = k / 256; reg = s.reg; pages = s.pages })) none) a ≡ place_in (cond b (some s.reg) none) s.pages a
      go true = refl
      go false = refl

  pub finds_none : (k : ℕ) → st k ≡ none → lookup mr k ≡ none
  unfolding lookup
  finds_none k e = go ((mr (k / 256)).live && eqb (key_of (k / 256) (mr (k / 256)).variant) k) (agree.finds k ∙ e)
    where
      held : Standing
      held = record { mrn = k / 256; reg = (mr (k / 256)).reg; pages = (mr (k / 256)).pages }

      go : (b : Bool) → cond b (some held) none ≡ none → cond b (some (mr (k / 256)).reg) none ≡ none
      go true h = absurd (some-ne-none held h)
      go false h = refl

-- ---- a byte that passes lies in the memory

placed_inside : (n : ℕ) (h : Standing) (p : Party) (u : Right) (a : ℕ) → Inside n h.pages h.reg → passes_by (some h) p u a ≡ true →
    (place_by (some h) a < n) × (a < 2 ^ 64)
placed_inside n h p u a f e =
    let t : Bool = names p.domain h.reg.pd && grants h.reg.access u && flags_grant p.rights u in
    let v : Bool = leb h.reg.virt a in
    let w : Bool = ltb a (h.reg.virt + h.reg.length) in
    f a (leb-true h.reg.virt a (and_right t v (and_left (t && v) w e))) (ltb-true a (h.reg.virt + h.reg.length) (and_right (t && v) w e))

found_inside : (n : ℕ) (s : Mr) (i k : ℕ) (p : Party) (u : Right) (a : ℕ) → (s.live ≡ true → Inside n s.pages s.reg) →
    passes_by (held_at s i k) p u a ≡ true → (place_by (held_at s i k) a < n) × (a < 2 ^ 64)
found_inside n s i k p u a f = go (s.live && eqb (key_of i s.variant) k) refl
  where
    held : Standing
    held = record { mrn = i; reg = s.reg; pages = s.pages }

    go : (b : Bool) → s.live && eqb (key_of i s.variant) k ≡ b → passes_by (cond b (some held) none) p u a ≡ true →
        (place_by (cond b (some held) none) a < n) × (a < 2 ^ 64)
    go true e = placed_inside n held p u a (f (and_left s.live (eqb (key_of i s.variant) k) e))
    go false e = λ h. absurd (false≢true h)

pub all_inside : (n : ℕ) (mr : ℕ → Mr) (st : ℕ → Option Standing) (en hd : ℕ → Bool) (D : Type 0) → Keys n mr st en hd D →
    (k : ℕ) (p : Party) (u : Right) (a : ℕ) → passes_by (st k) p u a ≡ true → (place_by (st k) a < n) × (a < 2 ^ 64)
all_inside n mr st en hd D agree k p u a = rw (← agree.finds k) (found_inside n (mr (k / 256)) (k / 256) k p u a (agree.inside (k / 256)))
