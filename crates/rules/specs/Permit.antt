-- Document 01, "Permitted byte", and 02, M-104, "Rights on the queue pair", by the card's tables. Assumes nothing.
use Rattle.std.specs.Prelude.{◌≡◌, Bool, true, false, cond, ◌&&◌, List, ℕ, ◌+◌, ◌*◌, ◌/◌, ◌^◌, ◌<◌, eqb, ltb, leb}
use Rattle.std.proofs.Math.Option.{Option, none, some}
use Rattle.wire.specs.Scan.{all}
use Rattle.wire.specs.Checks.{has}
use Rattle.validate.specs.Accept.{accepts}
use Rattle.tables.specs.Card.{Card, Mr}
use Rattle.tables.specs.State.{card}
use Rattle.tables.specs.declared.Registration.{Registration}
use Rattle.rules.specs.declared.Party.{Party}
use Rattle.rules.specs.Touch.{Byte, byte_of}

-- "the use's right: local reading none, local writing bit 1, remote write 2, remote read 4"
pub data Use : Type 0 where
  local_read : Use
  local_write : Use
  remote_write : Use
  remote_read : Use

abbrev pub granted : Use → (access : ℕ) → Bool
granted local_read a = true
granted local_write a = has 1 a
granted remote_write a = has 2 a
granted remote_read a = has 4 a

-- 02, M-104: "Each byte of a remote write or read needs the right in the region and in the peer's flags .. local uses only at the region"
abbrev pub opens : Use → (rights : ℕ) → Bool
opens local_read f = true
opens local_write f = true
opens remote_write f = granted remote_write f
opens remote_read f = granted remote_read f

-- whose use it is: the queue pair q's, by its domain and its flags
abbrev pub party_of : Card → (q : ℕ) → Party
party_of c q = record { pd = (c.qp q).pd; rights = (c.qp q).rights }

-- "Both keys are 256 × mrn + variant"; a variant is at most 255, so that only the slot k / 256 can have the key k
abbrev pub key_of : (mrn variant : ℕ) → ℕ
key_of n v = 256 * n + v

abbrev pub found : Mr → (n k : ℕ) → Option Registration
found s n k = cond (s.live && eqb (key_of n s.variant) k) (some s.reg) none

-- the live region that has this key
unfoldable pub lookup : (ℕ → Mr) → (k : ℕ) → Option Registration
lookup mr k = found (mr (k / 256)) (k / 256) k

-- "has .. the QP's PD, virt ≤ address < virt + length, and its access has the use's right", and so have the party's flags where the use
-- asks them; the sum is a whole number. A region ends at 2^64 − 1 at most, so "An address at or past 2^64 is never permitted": NeverPast
-- below.
unfoldable pub covers : Option Registration → Party → Use → (a : ℕ) → Bool
covers none p u a = false
covers (some g) p u a =
    eqb g.pd p.pd && granted u g.access && opens u p.rights && leb g.virt a && ltb a (g.virt + g.length)

-- the byte is permitted to the queue pair q for the use
unfoldable pub permits : Card → (q : ℕ) → Use → Byte → Bool
permits c q u b = covers (lookup c.mr b.key) (party_of c q) u b.address

-- "A range is permitted if all its bytes are; an empty one looks at no key", and at no flags
unfoldable pub permits_all : Card → (q : ℕ) → Use → List Byte → Bool
permits_all c q u bs = all (permits c q u) bs

abbrev pub place_in : Option Registration → (pages : List ℕ) → (a : ℕ) → ℕ
place_in none ps a = 0
place_in (some g) ps a = byte_of ps g a

-- the memory byte that a permitted byte is
unfoldable pub place : Card → Byte → ℕ
place c b = place_in (lookup c.mr b.key) (c.mr (b.key / 256)).pages b.address

-- "An address at or past 2^64 is never permitted", on any state that passes the state test
unfoldable pub NeverPast : Type 0
NeverPast = (l : List ℕ) (q : ℕ) (u : Use) (b : Byte) → accepts l ≡ true → permits (card l) q u b ≡ true → b.address < 2 ^ 64
