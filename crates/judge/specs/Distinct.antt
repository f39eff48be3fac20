-- Document 02, M-109: "along demand 3's log no key is handed out twice". Assumes nothing.
use Rattle.std.specs.Prelude.{◌≡◌, Bool, false, ◌||◌, [], ◌∷◌, ℕ, eqb}
use Rattle.judge.specs.Log.{Log, Note, KeyNote}

-- a registration of the log handed the key out
abbrev pub handed_by : KeyNote → (k : ℕ) → Bool → Bool
handed_by (KeyNote.registered m lkey rkey g ps) k b = eqb lkey k || eqb rkey k || b
handed_by (KeyNote.deregistered m) k b = b

unfoldable pub handed : Log → (k : ℕ) → Bool
handed [] k = false
handed (Note.of_key n ∷ l) k = handed_by n k (handed l k)
handed (Note.of_pair q n ∷ l) k = handed l k
handed (Note.other ∷ l) k = handed l k

-- the keys that a registration hands out are new to the log l before it, and before holds of that
abbrev pub DistinctBy : KeyNote → (l : Log) → (before : Type 0) → Type 0
DistinctBy (KeyNote.registered m lkey rkey g ps) l before = ((handed l lkey ≡ false) × (handed l rkey ≡ false)) × before
DistinctBy (KeyNote.deregistered m) l before = before

unfoldable pub Distinct : Log → Type 0
Distinct [] = Unit {0}
Distinct (Note.of_key n ∷ l) = DistinctBy n l (Distinct l)
Distinct (Note.of_pair q n ∷ l) = Distinct l
Distinct (Note.other ∷ l) = Distinct l
