-- Keys in logs that are written down, the latest note first: which were handed out, which are dropped, and which logs hand one out twice.
-- A card's registration hands out one number as both keys; here they differ. Assumes nothing.
use mathlib.Core.Path.{◌≡◌, refl}
use mathlib.Core.Bool.{true, false, true≢false}
use mathlib.Core.List.{List, [], ◌∷◌, map}
use Prim.Native.Nat.{ℕ}
use Rattle.tables.specs.declared.Registration.{Registration}
use Rattle.judge.specs.Log.{Note, KeyNote}
use Rattle.judge.specs.Distinct.{handed, Distinct}
use Rattle.judge.specs.Judge.{standing}
use Rattle.judge.specs.Dropped.{ended}

module _ (g : Registration) (pages : List ℕ) where
  -- slot 1
  abbrev gives : (lkey rkey : ℕ) → Note
  gives l r = Note.of_key (KeyNote.registered 1 l r g pages)

  abbrev drops : (mrn : ℕ) → Note
  drops n = Note.of_key (KeyNote.deregistered n)

  pub handed_keys : map (handed (Note.other ∷ drops 1 ∷ gives 257 258 ∷ [])) (0 ∷ 256 ∷ 257 ∷ 258 ∷ 259 ∷ [])
      ≡ false ∷ false ∷ true ∷ true ∷ false ∷ []
  unfolding handed
  handed_keys = refl

  -- key 257 while it stands; another slot dropped; its slot dropped before it was handed out; its slot dropped; the slot's next region
  pub ended_key : map (λ l. ended l 257)
      ((gives 257 258 ∷ []) ∷
      (drops 2 ∷ gives 257 258 ∷ []) ∷
      (gives 257 258 ∷ drops 1 ∷ []) ∷
      (drops 1 ∷ gives 257 258 ∷ []) ∷
      (gives 259 260 ∷ drops 1 ∷ gives 257 258 ∷ []) ∷
      [])
      ≡ false ∷ false ∷ false ∷ true ∷ true ∷ []
  unfolding ended standing
  ended_key = refl

  pub once : Distinct (gives 259 260 ∷ drops 1 ∷ gives 257 258 ∷ [])
  unfolding handed Distinct
  once = ((refl, refl), ((refl, refl), tt))

  -- a key that was dropped is handed out again
  pub twice : Distinct (gives 257 260 ∷ drops 1 ∷ gives 257 258 ∷ []) → ⊥
  unfolding handed Distinct
  twice d = true≢false d.0.0

  -- as a remote key
  pub twice_remote : Distinct (gives 259 258 ∷ drops 1 ∷ gives 257 258 ∷ []) → ⊥
  unfolding handed Distinct
  twice_remote d = true≢false d.0.1
