-- Enqueue after its record was read. Assumes nothing.
use Rattle.std.specs.Prelude.{◌≡◌, List, [], ℕ, length}
use Rattle.std.proofs.Math.Option.{none}
use Rattle.wire.specs.Checks.{refusal}
use Rattle.tables.specs.Records.{send_checks}
use Rattle.tables.specs.State.{card}
use Rattle.rules.specs.Call.{Call}
use Rattle.rules.specs.Contract.{Owes}
use Rattle.rules.specs.declared.Answer.{Answer}

-- a send record that neither 1 nor 4 refuses
abbrev pub Sent : (x : List ℕ) → Type 0
Sent x = refusal (send_checks x) ≡ none

-- 7, 1 and 4 are tested; 2, 3 and 8 are left: what the enqueue of such a record x on queue pair q, with any memory of the reset
-- length, answers and leaves
abbrev pub Enqueues : (l : List ℕ) (q : ℕ) (x : List ℕ) → Answer → (l' : List ℕ) → Type 0
Enqueues l q x r l' = (m : List ℕ) → length m ≡ (card l).memory → Owes l (Call.enqueue q x m) r l' m []
