-- What the code asks of a byte, by a party and a mask, is the rules' permission of a queue pair for a use, and what is permitted lies
-- in a live region. Assumes nothing.
use mathlib.Core.Path.{◌≡◌, refl, ap₂, ◌∙◌}
use mathlib.Core.Bool.{Bool, true, false, ◌&&◌}
use mathlib.Core.List.{List, [], ◌∷◌}
use mathlib.Core.Option.{Option, none, some}
use Prim.Native.Nat.{ℕ, ◌+◌}
use native.Mathlib.Omega.{arith}
use lib.Dec.{eqb, leb, ltb}
use Rattle.wire.specs.Scan.{all}
use Rattle.wire.proofs.ScanLaws.{and_left, and_right, both_true}
use Rattle.tables.specs.Card.{Card}
use Rattle.tables.specs.State.{card}
use Rattle.tables.specs.declared.Registration.{Registration}
use Rattle.rules.specs.Lists.{maybe}
use Rattle.rules.specs.Permit.{Use, granted, opens, party_of, lookup, covers, permits, permits_all, NeverPast}
use Rattle.rules.specs.Touch.{Byte}
use Rattle.rules.specs.declared.Party.{Party}
use Rattle.dma.specs.Grants.{grants, admits, within, allows, allows_all}
use Rattle.dma.specs.Grants as ask
use Rattle.dma.specs.Moves.{mapped, mapped_all}
use Rattle.dma.proofs.RegionLaws.{placed}

-- the access bit of a use, 0 for none
abbrev pub mask_of : Use → ℕ
mask_of Use.local_read = 0
mask_of Use.local_write = 1
mask_of Use.remote_write = 2
mask_of Use.remote_read = 4

granted_mask : (u : Use) (a : ℕ) → grants (mask_of u) a ≡ granted u a
granted_mask Use.local_read a = refl
granted_mask Use.local_write a = refl
granted_mask Use.remote_write a = refl
granted_mask Use.remote_read a = refl

opens_mask : (u : Use) (f : ℕ) → ask.opens (mask_of u) f ≡ opens u f
opens_mask Use.local_read f = refl
opens_mask Use.local_write f = refl
opens_mask Use.remote_write f = refl
opens_mask Use.remote_read f = refl

and_pairs : (x y z : Bool) → (x && (y && z)) ≡ (x && y && z)
and_pairs true y z = refl
and_pairs false y z = refl

covering : (o : Option Registration) (p : Party) (u : Use) (a : ℕ)
    → maybe false (λ g. admits g p (mask_of u) && within g a) o ≡ covers o p u a
unfolding covers within
covering none p u a = refl
covering (some g) p u a =
    rw (granted_mask u g.access, opens_mask u p.rights)
    (and_pairs (eqb g.pd p.pd && granted u g.access && opens u p.rights) (leb g.virt a) (ltb a (g.virt + g.length)))

allowed : (c : Card) (q : ℕ) (u : Use) (b : Byte) → allows c (party_of c q) (mask_of u) b ≡ permits c q u b
unfolding allows permits
allowed c q u b = covering (lookup c.mr b.key) (party_of c q) u b.address

pub allowed_all : (c : Card) (q : ℕ) (u : Use) (bs : List Byte) → allows_all c (party_of c q) (mask_of u) bs ≡ permits_all c q u bs
unfolding all permits_all
allowed_all c q u [] = refl
allowed_all c q u (b ∷ bs) = ap₂ (λ (x y : Bool). x && y) (allowed c q u b) (allowed_all c q u bs)

-- what is permitted is mapped
module _ (c : Card) (p : Party) (mask : ℕ) where
  permitted_mapped : (b : Byte) → allows c p mask b ≡ true → mapped c b ≡ true
  unfolding allows mapped
  permitted_mapped b e = go (lookup c.mr b.key) e
    where
      go : (o : Option Registration) → maybe false (λ g. admits g p mask && within g b.address) o ≡ true
          → maybe false (λ g. within g b.address) o ≡ true
      go none q = q
      go (some g) q = and_right (admits g p mask) (within g b.address) q

  pub permitted_mapped_all : (bs : List Byte) → allows_all c p mask bs ≡ true → mapped_all c bs ≡ true
  unfolding all
  permitted_mapped_all [] e = refl
  permitted_mapped_all (b ∷ bs) e =
      both_true (mapped c b) (mapped_all c bs) (permitted_mapped b (and_left (allows c p mask b) (allows_all c p mask bs) e))
      (permitted_mapped_all bs (and_right (allows c p mask b) (allows_all c p mask bs) e))

-- "An address at or past 2^64 is never permitted."
pub never_past : NeverPast
unfolding NeverPast
never_past l q u b ok e =
    let p = placed l ok b (permitted_mapped (card l) (party_of (card l) q) (mask_of u) b (allowed (card l) q u b ∙ e)) in
    let x = p.word in
    let y = p.covers.high in
    omega arith
