-- Post receive after its record was read. Assumes nothing.
use Rattle.std.specs.Prelude.{◌≡◌, List, [], ℕ, Ok}
use Rattle.tables.specs.Records.{receive_read}
use Rattle.tables.specs.declared.ReceiveRecord.{ReceiveRecord}
use Rattle.rules.specs.Call.{Call}
use Rattle.rules.specs.Contract.{Owes}
use Rattle.rules.specs.declared.Answer.{Answer}

-- "Post receive: under 24 bytes 1; count over 2 gives 4; exact length 1" are tested; "2; state 0 .. gives 3; full 8" and 02's 6
-- are left: what the post receive of any record that reads as w, on queue pair q, answers and leaves
abbrev pub Posts : (l : List ℕ) (q : ℕ) → ReceiveRecord → Answer → (l' : List ℕ) → Type 0
Posts l q w r l' = (x : List ℕ) → receive_read x ≡ Ok w → Owes l (Call.receive q x) r l' [] []
