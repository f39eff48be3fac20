-- The command of a number: what finding it, or none, says of the number. Assumes nothing.
use mathlib.Core.Path.{◌≡◌, refl, sym, ap, ◌∙◌}
use mathlib.Core.Bool.{Bool, true, false, cond}
use mathlib.Core.List.{List, [], ◌∷◌}
use mathlib.Core.Option.{none}
use Prim.Native.Nat.{ℕ}
use lib.Dec.{eqb}
use borrow.Author.Tests.{eqb-true, ne_eqb}
use Rattle.std.specs.Prelude.{Result, Ok, Err}
use Rattle.wire.specs.Le.{le_at}
use Rattle.tables.specs.Commands.{command_of}
use Rattle.tables.specs.declared.refusal.Refusal.{Refusal}
use Rattle.tables.specs.declared.refusal.Refusal.TheVariants.{Unknown}
use Rattle.rules.specs.Verb.{verb_number, verb_in, verb_of}
use Rattle.rules.specs.declared.verb.Verb.{Verb}
use Rattle.rules.specs.declared.verb.Verb.TheVariants.{QueryDevice, QueryPort, CreateCq, DestroyCq, CreatePd, DestroyPd, RegisterMr, DeregisterMr, CreateQp, ModifyQp, DestroyQp}

known_in : (vs : List Verb) (n : ℕ) (v : Verb) → verb_in vs n ≡ Ok v → n ≡ verb_number v
unfolding verb_in
known_in [] n v e = cc
known_in (w ∷ vs) n v e = go (eqb n (verb_number w)) refl e (known_in vs n v)
  where
    go : (b : Bool) → eqb n (verb_number w) ≡ b → cond b (Ok w) (verb_in vs n) ≡ Ok v → (verb_in vs n ≡ Ok v → n ≡ verb_number v) → n ≡ verb_number v
    go true i e ih = let j : w ≡ v = cc in eqb-true n (verb_number w) i ∙ ap verb_number j
    go false i e ih = ih e

-- the command that was found has the number
pub verb_known : (n : ℕ) (v : Verb) → verb_of n ≡ Ok v → n ≡ verb_number v
verb_known n v e = known_in _ n v e

-- a refusal says that the number is no command's
unknown_in : (vs : List Verb) (n : ℕ) (r : Refusal) → verb_in vs n ≡ Err r → r ≡ Unknown
unfolding verb_in
unknown_in [] n r e = cc
unknown_in (w ∷ vs) n r e = go (eqb n (verb_number w)) e (unknown_in vs n r)
  where
    go : (b : Bool) → cond b (Ok w) (verb_in vs n) ≡ Err r → (verb_in vs n ≡ Err r → r ≡ Unknown) → r ≡ Unknown
    go true e ih = cc
    go false e ih = ih e

pub verb_unknown : (n : ℕ) (r : Refusal) → verb_of n ≡ Err r → r ≡ Unknown
verb_unknown n r e = unknown_in _ n r e

-- each command is found by its number
pub verb_back : (v : Verb) → verb_of (verb_number v) ≡ Ok v
unfolding verb_in
verb_back QueryDevice = refl
verb_back QueryPort = refl
verb_back CreateCq = refl
verb_back DestroyCq = refl
verb_back CreatePd = refl
verb_back DestroyPd = refl
verb_back RegisterMr = refl
verb_back DeregisterMr = refl
verb_back CreateQp = refl
verb_back ModifyQp = refl
verb_back DestroyQp = refl

-- no two have one number
pub number_differs : (v w : Verb) → (v ≡ w → ⊥) → verb_number v ≡ verb_number w → ⊥
number_differs v w h e = let j : ◌≡◌ {A = Result Verb Refusal} (Ok v) (Ok w) = sym (verb_back v) ∙ ap verb_of e ∙ verb_back w in h (cc)

-- so a number where none is found is no command's
no_verb : (n : ℕ) (r : Refusal) → verb_of n ≡ Err r → (v : Verb) → eqb n (verb_number v) ≡ false
no_verb n r e v = ne_eqb n (verb_number v) (λ i. let j : Ok v ≡ Err r = sym (verb_back v) ∙ sym (ap verb_of i) ∙ e in cc)

pub no_command : (k : List ℕ) (r : Refusal) → verb_of (le_at 1 k 1) ≡ Err r → command_of k ≡ none
unfolding command_of
no_command k r e =
    let f = no_verb (le_at 1 k 1) r e in
    rw (f QueryDevice, f QueryPort, f CreateCq, f DestroyCq, f CreatePd, f DestroyPd, f RegisterMr, f DeregisterMr, f CreateQp, f ModifyQp, f DestroyQp)
