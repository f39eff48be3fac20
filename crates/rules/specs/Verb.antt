-- Document 01, "Control commands", and 02, M-100: the number of each command, and the command of a number. Assumes nothing.
use Rattle.std.specs.Prelude.{cond, List, [], ◌∷◌, ℕ, eqb, Result, Ok, Err}
use Rattle.tables.specs.declared.refusal.Refusal.{Refusal}
use Rattle.tables.specs.declared.refusal.Refusal.TheVariants.{Unknown}
use Rattle.rules.specs.declared.verb.Verb.{Verb}
use Rattle.rules.specs.declared.verb.Verb.TheVariants.{QueryDevice, QueryPort, CreateCq, DestroyCq, CreatePd, DestroyPd, RegisterMr, DeregisterMr, CreateQp, ModifyQp, DestroyQp}

abbrev pub verb_number : Verb → ℕ
verb_number QueryDevice = 0
verb_number QueryPort = 1
verb_number CreateCq = 2
verb_number DestroyCq = 3
verb_number CreatePd = 4
verb_number DestroyPd = 5
verb_number RegisterMr = 7
verb_number DeregisterMr = 8
verb_number CreateQp = 9
verb_number ModifyQp = 10
verb_number DestroyQp = 12

-- the one of these that has the number n
unfoldable pub verb_in : List Verb → (n : ℕ) → Result Verb Refusal
verb_in [] n = Err Unknown
verb_in (v ∷ vs) n = cond (eqb n (verb_number v)) (Ok v) (verb_in vs n)

abbrev pub verb_of : (n : ℕ) → Result Verb Refusal
verb_of =
    verb_in
    (QueryDevice ∷ QueryPort ∷ CreateCq ∷ DestroyCq ∷ CreatePd ∷ DestroyPd ∷ RegisterMr ∷ DeregisterMr ∷ CreateQp ∷ ModifyQp ∷ DestroyQp ∷ [])
