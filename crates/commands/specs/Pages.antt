-- Document 02, M-105, over the lent state: what the functions that register a region over pages owe. The rules are rules/specs/Pages.antt.
-- Assumes nothing.
use Rattle.std.specs.Prelude.{Bool, true, not, ◌&&◌, List, [], ◌∷◌, ◌++◌, ℕ, ◌+◌, eqb, leb, length, Result, Some, None}
use Rattle.std.specs.Prelude.{Option as Read}
use Rattle.wire.specs.Checks.{Check, ◌if◌}
use Rattle.tables.specs.Card.{Card}
use Rattle.tables.specs.Limits.{most_address, page_size, most_pages}
use Rattle.tables.specs.State.{card, pages_needed}
use Rattle.tables.specs.declared.Ack.{Ack}
use Rattle.tables.specs.declared.Registration.{Registration}
use Rattle.tables.specs.declared.refusal.Refusal.{Refusal}
use Rattle.rules.specs.Bytes.{paged_bytes}
use Rattle.rules.specs.Call.{registration_in}
use Rattle.rules.specs.Control.{new_keys}
use Rattle.rules.specs.Pages.{seven_checks, page_list_checks, entries_ok}
use Rattle.commands.specs.Control.{Ends}

-- ---- the tests of answer 11 together

-- "exactly the pages that start + length needs, at most 16"
abbrev pub count_ok : Registration → (pages : List ℕ) → Bool
count_ok g ps = leb (pages_needed g.start g.length) most_pages && eqb (length ps) (pages_needed g.start g.length)

-- "A wrong count, multiple or end gives 11, after the other range tests"
abbrev pub in_pages : (memory : ℕ) → Registration → (pages : List ℕ) → Bool
in_pages memory g ps =
    not (eqb g.length 0) && leb (g.virt + g.length) most_address && not (leb page_size g.start) && count_ok g ps && entries_ok memory ps

-- ---- what a function owes that registers a region over pages: "command 7's record, tests and ack as before"

-- the tests from the record's data on
abbrev pub list_checks : Card → Read Registration → (pages : List ℕ) → List Check
list_checks c (Some g) ps = page_list_checks c g ps
list_checks c None ps = 1 if true ∷ []

abbrev pub list_bytes : List ℕ → Read Registration → (pages : List ℕ) → List ℕ
list_bytes l (Some g) ps = paged_bytes l g ps
list_bytes l None ps = l

abbrev pub Listed : (l : List ℕ) → Read Registration → (pages : List ℕ) → Result Ack Refusal → (l' : List ℕ) → Type 0
Listed l x ps r l' = Ends (list_checks (card l) x ps) (new_keys (card l)) l (list_bytes l x ps) r l'

-- the tests from the record's length on
abbrev pub record_checks : Card → (command pages : List ℕ) → List Check
record_checks c k ps = seven_checks k ++ page_list_checks c (registration_in k) ps

abbrev pub Recorded : (l command pages : List ℕ) → Result Ack Refusal → (l' : List ℕ) → Type 0
Recorded l k ps r l' = Ends (record_checks (card l) k ps) (new_keys (card l)) l (paged_bytes l (registration_in k) ps) r l'
