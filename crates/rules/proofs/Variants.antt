-- Keys and variants. Assumes nothing.
use mathlib.Core.Path.{◌≡◌, refl, sym}
use mathlib.Core.Bool.{Bool, true, false, not, ◌&&◌, false≢true}
use Prim.Native.Nat.{ℕ, ◌/◌, ◌≤◌, ◌<◌}
use native.Mathlib.Omega.{arith}
use lib.Dec.{leb}
use borrow.Author.Tests.{leb-false, ne_eqb}
use Rattle.wire.specs.Slots.{upd}
use Rattle.wire.proofs.SlotLaws.{split, same}
use Rattle.wire.proofs.ScanLaws.{lowest_passes}
use Rattle.tables.specs.Card.{Card, Mr, free_mr}
use Rattle.tables.specs.Limits.{mr_count}
use Rattle.validate.specs.Search.{last_variant, vacant, free_mrn}
use Rattle.rules.specs.Permit.{key_of, found, lookup}
use Rattle.rules.specs.Control.{new_variant}
use Rattle.rules.specs.Dropped.{LiveFound}

-- a slot that a registration takes is free, and has a variant left
pub vacant_free : (s : Mr) → vacant s ≡ true → (s.live ≡ false) × (s.variant < last_variant)
vacant_free s = go s.live (leb last_variant s.variant) refl
  where
    go : (b v : Bool) → leb last_variant s.variant ≡ v → (not b && not (not b && v)) ≡ true → (b ≡ false) × (s.variant < last_variant)
    go true v e h = absurd (false≢true h)
    go false true e h = absurd (false≢true h)
    go false false e h = (refl, leb-false last_variant s.variant e)

module _ (c : Card) (h : free_mrn c < mr_count) where
  pub slot_free : ((c.mr (free_mrn c)).live ≡ false) × ((c.mr (free_mrn c)).variant < last_variant)
  slot_free = vacant_free (c.mr (free_mrn c)) (lowest_passes mr_count (λ i. vacant (c.mr i)) h)

  pub new_small : new_variant c ≤ last_variant
  new_small = let s = slot_free.1 in omega arith

-- a key tells its slot
pub slot : (i v : ℕ) → v ≤ last_variant → key_of i v / 256 ≡ i
slot i v h = omega arith

pub live_found : LiveFound
unfolding LiveFound lookup
live_found mr n e h = (
  rw (slot n (mr n).variant h, e, same (key_of n (mr n).variant)),
  λ k d.
      split n (λ j. k / 256 ≡ j → found (upd mr n (free_mr (mr n).variant) j) j k ≡ found (mr j) j k)
      (λ p. rw (same n, e, ne_eqb (key_of n (mr n).variant) k (λ x. d (sym x))))
      (λ j o p. rw o) (k / 256) refl,
)
