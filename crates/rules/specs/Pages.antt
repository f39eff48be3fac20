-- Document 02, M-105, "Regions over page lists": "a second registration call: command 7's record, tests and ack as before .. with the page
-- list lent beside it as 64-bit numbers". Its tests in order; its ack is Control.antt's new_keys, the card after it registered, and the
-- state's bytes Bytes.antt's paged_bytes.
-- Assumes nothing.
use Rattle.std.specs.Prelude.{Bool, not, ◌&&◌, List, [], ◌∷◌, ◌++◌, ℕ, ◌+◌, ◌%◌, eqb, ltb, leb, length}
use Rattle.wire.specs.Checks.{Check, ◌if◌}
use Rattle.wire.specs.Le.{le_at}
use Rattle.wire.specs.Scan.{all}
use Rattle.tables.specs.Card.{Card}
use Rattle.tables.specs.Commands.{ack_least, head_checks, register_codec}
use Rattle.tables.specs.Limits.{most_address, page_size, most_pages}
use Rattle.tables.specs.State.{pages_needed}
use Rattle.tables.specs.declared.Registration.{Registration}
use Rattle.validate.specs.Accept.{page_inside}
use Rattle.rules.specs.Control.{registration_checks}

-- ---- the record

-- "fewer than two bytes 1; 13; data length 1", and "any other command 13"
abbrev pub seven_checks : (command : List ℕ) → List Check
seven_checks k = head_checks k ++ (13 if not (eqb (le_at 1 k 1) 7) ∷ 1 if not (eqb (length k) (2 + register_codec.size)) ∷ [])

-- "12 for any record means under 13 ack bytes"
unfoldable pub page_record_checks : (command ack : List ℕ) → List Check
page_record_checks k a = 12 if ltb (length a) ack_least ∷ seven_checks k

-- ---- the registration

-- "Each entry is a page's first byte in the lent memory, a multiple of 4096, with the whole page inside the memory": that of the reset
abbrev pub entry_ok : (memory entry : ℕ) → Bool
entry_ok memory e = eqb (e % page_size) 0 && page_inside memory e

abbrev pub entries_ok : (memory : ℕ) → List ℕ → Bool
entries_ok memory ps = all (entry_ok memory) ps

-- "Start is the offset into the first page, 0 to 4095, else 11"; "exactly the pages that start + length needs, at most 16. A wrong count,
-- multiple or end gives 11, after the other range tests (the old start test doesn't apply)"
abbrev pub page_range_checks : Card → Registration → (pages : List ℕ) → List Check
page_range_checks c g ps =
    11 if eqb g.length 0 ∷
    11 if ltb most_address (g.virt + g.length) ∷
    11 if leb page_size g.start ∷
    11 if ltb most_pages (pages_needed g.start g.length) ∷
    11 if not (eqb (length ps) (pages_needed g.start g.length)) ∷
    11 if not (entries_ok c.memory ps) ∷
    []

-- "command 7's .. tests .. as before", with these range tests
unfoldable pub page_list_checks : Card → Registration → (pages : List ℕ) → List Check
page_list_checks c g ps = registration_checks c g (page_range_checks c g ps)
