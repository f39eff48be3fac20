-- Document 01, "Permitted byte", and 02, M-104, as the code asks them: by a party and by a mask of access bits, where the rules have a queue
-- pair and a use. The two are one: proofs/UseLaws.antt. Assumes nothing.
use Rattle.std.specs.Prelude.{Option, None, Some, Bool, false, ◌&&◌, ◌||◌, List, ℕ, ◌+◌, ◌/◌, eqb, leb, ltb}
use Rattle.wire.specs.Checks.{has}
use Rattle.wire.specs.Scan.{all}
use Rattle.tables.specs.Card.{Card, Mr}
use Rattle.tables.specs.declared.Region.{Region}
use Rattle.tables.specs.declared.Registration.{Registration}
use Rattle.rules.specs.Bytes.{region_row}
use Rattle.rules.specs.Lists.{maybe}
use Rattle.rules.specs.Permit.{lookup}
use Rattle.rules.specs.Touch.{Byte}
use Rattle.rules.specs.declared.Party.{Party}

-- the region that "a live MR has this key" speaks of, as its row holds it but for its kind
unfoldable pub region_of : (ℕ → Mr) → (key : ℕ) → Option Region
region_of mr key = maybe None (λ g. Some (region_row 0 g (mr (key / 256)).variant)) (lookup mr key)

-- "the use's right: local reading none, local writing bit 1, remote write 2, remote read 4": the mask is the bit, 0 for none
abbrev pub grants : (mask access : ℕ) → Bool
grants mask access = eqb mask 0 || has mask access

-- 02: a remote write or read needs the right "in the peer's flags .. local uses only at the region", which are those of the masks 0 and 1
abbrev pub opens : (mask rights : ℕ) → Bool
opens mask rights = leb mask 1 || has mask rights

-- "a live MR has .. the QP's PD, .. and its access has the use's right", and so have the party's flags
abbrev pub admits : Registration → Party → (mask : ℕ) → Bool
admits g p mask = eqb g.pd p.pd && grants mask g.access && opens mask p.rights

-- "virt ≤ address < virt + length"; the sum is a whole number
unfoldable pub within : Registration → (address : ℕ) → Bool
within g a = leb g.virt a && ltb a (g.virt + g.length)

-- "a live MR has this key and the QP's PD, virt ≤ address < virt + length, and its access has the use's right"
unfoldable pub allows : Card → Party → (mask : ℕ) → Byte → Bool
allows c p mask b = maybe false (λ g. admits g p mask && within g b.address) (lookup c.mr b.key)

-- "A range is permitted if all its bytes are; an empty one looks at no key", and at no flags
abbrev pub allows_all : Card → Party → (mask : ℕ) → List Byte → Bool
allows_all c p mask bytes = all (allows c p mask) bytes

-- the first and the last of n addresses from a on lie in the region; the sums are whole numbers
abbrev pub spans : Registration → (a n : ℕ) → Bool
spans g a n = leb g.virt a && leb (a + n) (g.virt + g.length)
