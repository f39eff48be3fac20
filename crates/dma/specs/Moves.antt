-- Document 01, step 6 of "Posting and delivering": where the bytes of scatter/gather entries stand in memory, and memory after they
-- are moved. Assumes nothing.
use Rattle.std.specs.Prelude.{◌≡◌, Bool, true, false, cond, List, map, ℕ, ◌+◌, ◌-◌, ◌^◌, ◌≤◌, ◌<◌, eqb, length, get_or}
use Rattle.wire.specs.Scan.{all}
use Rattle.wire.specs.Table.{row_at}
use Rattle.tables.specs.Card.{Card}
use Rattle.tables.specs.Layout.{state_size, memory_t}
use Rattle.tables.specs.Limits.{most_message}
use Rattle.tables.specs.declared.Sge.{Sge}
use Rattle.validate.specs.Accept.{accepts}
use Rattle.rules.specs.Lists.{stored, maybe}
use Rattle.rules.specs.Permit.{lookup, place}
use Rattle.rules.specs.Touch.{Byte, sge_bytes, sge_total}
use Rattle.dma.specs.Grants.{within}

-- an accepted state, and a memory whose length is "the reset length"
pub record Ready (state memory : List ℕ) : Type 0 where
  pub accepted : accepts state ≡ true
  pub size : length state ≡ state_size
  pub whole : length memory ≡ row_at memory_t state 0

-- "a live MR has this key" and "virt ≤ address < virt + length", whatever its domain and rights: the byte is one of memory
unfoldable pub mapped : Card → Byte → Bool
mapped c b = maybe false (λ g. within g b.address) (lookup c.mr b.key)

abbrev pub mapped_all : Card → List Byte → Bool
mapped_all c bytes = all (mapped c) bytes

-- "The byte is memory start + (address − virt)": the places of the bytes of entries
abbrev pub places : Card → List Sge → List ℕ
places c sges = map (place c) (sge_bytes sges)

-- where an entry begins; 0 for an empty one, which "looks at no key"
unfoldable pub place_of : Card → Sge → ℕ
place_of c s = cond (eqb s.length 0) 0 (place c (record { address = s.address; key = s.key }))

-- the first n bytes of an entry, and the others
abbrev pub front : Sge → (n : ℕ) → Sge
front s n = record { address = s.address; length = n; key = s.key }

abbrev pub back : Sge → (n : ℕ) → Sge
back s n = record { address = s.address + n; length = s.length - n; key = s.key }

-- the bytes of an entry stand one after the other in a memory of that length, from where it begins on
pub record Lies (c : Card) (memory : ℕ) (s : Sge) : Type 0 where
  pub at : (i : ℕ) → i < s.length → place c (record { address = s.address + i; key = s.key }) ≡ place_of c s + i
  pub ends : place_of c s + s.length ≤ memory

-- so do its first n bytes, and so do the others: an entry crosses at most one page's end
pub record Splits (c : Card) (memory : ℕ) (s : Sge) (n : ℕ) : Type 0 where
  pub most : n ≤ s.length
  pub word : n < s.length → s.address + n < 2 ^ 64
  pub first : Lies c memory (front s n)
  pub others : Lies c memory (back s n)

-- the bytes at the places
abbrev pub read_bytes : List ℕ → (places : List ℕ) → List ℕ
read_bytes m ps = map (λ p. get_or m p 0) ps

-- "All source bytes are read before any is written; pieces fill in list order, a later one overwriting"
unfoldable pub moved : List ℕ → (sources targets : List ℕ) → List ℕ
moved m sources targets = stored m targets (read_bytes m sources)

-- what a move asks: bytes of memory on both sides, as many there as here, and not "over 4,096"
pub record Message (c : Card) (ss ts : List Sge) : Type 0 where
  pub sources : mapped_all c (sge_bytes ss) ≡ true
  pub targets : mapped_all c (sge_bytes ts) ≡ true
  pub total : sge_total ts ≡ sge_total ss
  pub most : sge_total ss ≤ most_message
