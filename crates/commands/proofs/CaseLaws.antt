-- The cases of the commands: which tests passed and which failed gives what the function owes. Assumes nothing.
use mathlib.Core.Path.{◌≡◌, refl, sym, ap, ap₂, ◌∙◌}
use mathlib.Core.Bool.{Bool, true, false, cond, not, ◌&&◌}
use mathlib.Core.List.{List, [], ◌∷◌}
use mathlib.Core.Option.{none, some}
use Prim.Native.Nat.{ℕ, ◌+◌, ◌≤◌, ◌<◌}
use native.Mathlib.Omega.{arith}
use lib.Dec.{eqb, ltb, leb}
use lib.ListN.{length}
use borrow.Author.Tests.{le-leb, lt-leb, leb-true, leb-false, lt-ltb, le-ltb}
use Rattle.wire.specs.Checks.{Check, ◌if◌, refusal}
use Rattle.wire.specs.Table.{row_at, put_row}
use Rattle.tables.specs.State.{card}
use Rattle.tables.specs.Layout.{memory_t, pd_flag_t, mr_t}
use Rattle.tables.specs.Limits.{pd_count, cq_count, mr_count, most_places, most_address}
use Rattle.tables.proofs.ObjectLaws.{memory_is, mr_variant}
use Rattle.tables.specs.Commands.{Command}
use Rattle.validate.specs.Accept.{access_ok}
use Rattle.validate.specs.Search.{last_variant, free_pdn, free_cqn, free_mrn}
use Rattle.tables.specs.declared.Ack.{Ack}
use Rattle.tables.specs.declared.Ack.TheVariants as ack
use Rattle.tables.specs.declared.Device.{Device}
use Rattle.tables.specs.declared.Port.{Port}
use Rattle.tables.specs.declared.Registration.{Registration}
use Rattle.rules.specs.Permit.{key_of}
use Rattle.rules.proofs.Variants.{new_small}
use Rattle.rules.specs.Control.{command_checks, command_ack, device_of, port_of, new_variant}
use Rattle.rules.specs.Bytes.{command_bytes, region_bytes}
use Rattle.commands.specs.Control.{no_data_read, Ran, bare, in_range, destroy_of, used_of}
use Rattle.tables.specs.Card.{live_of}
use Rattle.tables.specs.declared.Kind.{Kind}
use Rattle.tables.specs.declared.Kind.TheVariants.{Pd, Cq, Mr, Qp}
use Rattle.std.specs.Prelude.{Result, Ok, Err}
use Rattle.tables.specs.Refusal.{refusal_of}
use Rattle.tables.specs.declared.refusal.Refusal.{Refusal}
use Rattle.tables.specs.declared.refusal.Refusal.TheVariants.{BadField, BadRange, Full, InUse, NotLive, WrongLength}

-- what a call of a test has shown, where its result r let the command pass, and where it did not
pub passes : {r b : Bool} → r ≡ b → r ≡ true → b ≡ true
passes e f = sym e ∙ f

pub fails : {r b : Bool} → r ≡ b → r ≡ false → b ≡ false
fails e f = sym e ∙ f

-- a command that a test refuses, and one that passes all
module _ (l : List ℕ) (q : Command) where
  pub ran_refused : (n : ℕ) → refusal (command_checks (card l) q) ≡ some n → Ran l (some q) (Err (refusal_of n)) l
  ran_refused n e = record { outcome = rw e; bytes = rw e }

  pub ran_done : refusal (command_checks (card l) q) ≡ none → (r : Result Ack Refusal) (l' : List ℕ)
      → r ≡ Ok (command_ack (card l) q) → l' ≡ command_bytes l q → Ran l (some q) r l'
  ran_done e r l' a b = record { outcome = rw e a; bytes = rw e b }

-- one whose data has not its length
pub ran_wrong : (l : List ℕ) → Ran l none (Err WrongLength) l
ran_wrong l = record { outcome = refl; bytes = refl }

-- a command without data, whose test gave this
module _ (l k : List ℕ) (q : Command) where
  pub bare_right : no_data_read k ≡ Ok tt → bare q k ≡ some q
  bare_right e = go (eqb (length k) 2) e
    where
      go : (b : Bool) → cond {A = Result (Unit {0}) Refusal} b (Ok tt) (Err WrongLength) ≡ Ok tt → cond b (some q) none ≡ some q
      go true e = refl
      go false e = cc

pub over : (a b : ℕ) → ltb a b ≡ not (leb b a)
over a b = by (leb b a) refl
  where
    by : (x : Bool) → leb b a ≡ x → ltb a b ≡ not (leb b a)
    by true e = rw (e, le-ltb a b (leb-true b a e))
    by false e = rw (e, lt-ltb a b (leb-false b a e))

module _ (l : List ℕ) where
  -- ---- destroy CQ, PD, QP, and deregister MR
  module _ (kind : Kind) (n : ℕ) where
    destroy_tests : refusal (command_checks (card l) (destroy_of kind n)) ≡ refusal (2 if not (live_of (card l) kind n) ∷ 10 if used_of (card l) kind n ∷ [])
    unfolding command_checks
    destroy_tests = by kind
      where
        by : (k : Kind) → refusal (command_checks (card l) (destroy_of k n)) ≡ refusal (2 if not (live_of (card l) k n) ∷ 10 if used_of (card l) k n ∷ [])
        by Pd = refl
        by Cq = refl
        by Mr = refl
        by Qp = refl

    no_data : command_ack (card l) (destroy_of kind n) ≡ ack.Done
    unfolding command_ack
    no_data = by kind
      where
        by : (k : Kind) → command_ack (card l) (destroy_of k n) ≡ ack.Done
        by Pd = refl
        by Cq = refl
        by Mr = refl
        by Qp = refl

    pub destroy_dead : live_of (card l) kind n ≡ false → Ran l (some (destroy_of kind n)) (Err NotLive) l
    destroy_dead e = ran_refused l (destroy_of kind n) 2 (destroy_tests ∙ rw e)

    module _ (live : live_of (card l) kind n ≡ true) where
      pub destroy_used : used_of (card l) kind n ≡ true → Ran l (some (destroy_of kind n)) (Err InUse) l
      destroy_used e = ran_refused l (destroy_of kind n) 10 (destroy_tests ∙ rw (live, e))

      pub destroy_done : used_of (card l) kind n ≡ false → (l' : List ℕ) → l' ≡ command_bytes l (destroy_of kind n)
          → Ran l (some (destroy_of kind n)) (Ok ack.Done) l'
      destroy_done e l' s = ran_done l (destroy_of kind n) (destroy_tests ∙ rw (live, e)) (Ok ack.Done) l' (rw no_data) s

  -- ---- queries: no test, and nothing is stored
  pub device_done : (d : Device) → d ≡ device_of (card l) → Ran l (some Command.query_device) (Ok (ack.Device d)) l
  unfolding command_checks command_ack command_bytes
  device_done d e = ran_done l Command.query_device refl (Ok (ack.Device d)) l (ap (λ (x : Device). Ok (ack.Device x)) e) refl

  pub port_done : (p : Port) → p ≡ port_of (card l) → Ran l (some Command.query_port) (Ok (ack.Port p)) l
  unfolding command_checks command_ack command_bytes
  port_done p e = ran_done l Command.query_port refl (Ok (ack.Port p)) l (ap (λ (x : Port). Ok (ack.Port x)) e) refl

  -- ---- create CQ
  module _ (p : ℕ) where
    abbrev fine : Bool
    fine = leb 1 p && leb p most_places

    pub create_cq_fields : fine ≡ false → Ran l (some (Command.create_cq p)) (Err BadField) l
    unfolding command_checks
    create_cq_fields e = ran_refused l (Command.create_cq p) 4 (rw e)

    module _ (passed : fine ≡ true) (n : ℕ) (is : n ≡ free_cqn (card l)) where
      pub create_cq_full : cq_count ≤ n → Ran l (some (Command.create_cq p)) (Err Full) l
      unfolding command_checks
      create_cq_full h = ran_refused l (Command.create_cq p) 8 (rw (passed, le-leb cq_count (free_cqn (card l)) (omega arith)))

      pub create_cq_done : n < cq_count → (l' : List ℕ) → l' ≡ command_bytes l (Command.create_cq p)
          → Ran l (some (Command.create_cq p)) (Ok (ack.Number n)) l'
      unfolding command_checks command_ack
      create_cq_done h l' s =
          ran_done l (Command.create_cq p) (rw (passed, lt-leb cq_count (free_cqn (card l)) (omega arith))) (Ok (ack.Number n)) l'
          (ap (λ (x : ℕ). Ok (ack.Number x)) is) s

  -- ---- create PD
  module _ (n : ℕ) (is : n ≡ free_pdn (card l)) where
    pub create_pd_full : pd_count ≤ n → Ran l (some Command.create_pd) (Err Full) l
    unfolding command_checks
    create_pd_full h = ran_refused l Command.create_pd 8 (rw (le-leb pd_count (free_pdn (card l)) (omega arith)))

    pub create_pd_done : n < pd_count → (l' : List ℕ) → l' ≡ put_row pd_flag_t l n 1 → Ran l (some Command.create_pd) (Ok (ack.Number n)) l'
    unfolding command_checks command_ack command_bytes
    create_pd_done h l' s =
        ran_done l Command.create_pd (rw (lt-leb pd_count (free_pdn (card l)) (omega arith))) (Ok (ack.Number n)) l'
        (ap (λ (x : ℕ). Ok (ack.Number x)) is) (s ∙ ap (λ (x : ℕ). put_row pd_flag_t l x 1) is)

  -- ---- register
  pub new_variant_lem : (n : ℕ) → n ≡ free_mrn (card l) → n < mr_count → (row_at mr_t l n).variant + 1 ≡ new_variant (card l)
  new_variant_lem n is h = ap (λ (x : ℕ). x + 1) (sym (mr_variant l n h) ∙ ap (λ (x : ℕ). ((card l).mr x).variant) is)

  -- it is a byte
  pub variant_left : (n : ℕ) → n ≡ free_mrn (card l) → n < mr_count → (row_at mr_t l n).variant + 1 ≤ last_variant
  variant_left n is h = let b : free_mrn (card l) < mr_count = omega arith in rw (new_variant_lem n is h) (new_small (card l) b)

  module _ (g : Registration) where
    -- the tests of answer 11 are one
    range_tests : (cs : List Check)
        → refusal (11 if eqb g.length 0 ∷ 11 if ltb (card l).memory (g.start + g.length) ∷ 11 if ltb most_address (g.virt + g.length) ∷ cs)
        ≡ cond (in_range (row_at memory_t l 0) g) (refusal cs) (some 11)
    range_tests cs =
        rw (memory_is l, over (row_at memory_t l 0) (g.start + g.length), over most_address (g.virt + g.length))
        (three (eqb g.length 0) (leb (g.start + g.length) (row_at memory_t l 0)) (leb (g.virt + g.length) most_address))
      where
        three : (x y z : Bool) → refusal (11 if x ∷ 11 if not y ∷ 11 if not z ∷ cs) ≡ cond (not x && y && z) (refusal cs) (some 11)
        three true y z = refl
        three false false z = refl
        three false true false = refl
        three false true true = refl

    pub register_access : access_ok g.access ≡ false → Ran l (some (Command.register g)) (Err BadField) l
    unfolding command_checks
    register_access e = ran_refused l (Command.register g) 4 (rw e)

    module _ (known : access_ok g.access ≡ true) where
      pub register_dead : (card l).pd g.pd ≡ false → Ran l (some (Command.register g)) (Err NotLive) l
      unfolding command_checks
      register_dead e = ran_refused l (Command.register g) 2 (rw (known, e))

      module _ (live : (card l).pd g.pd ≡ true) where
        register_tests : refusal (command_checks (card l) (Command.register g))
            ≡ cond (in_range (row_at memory_t l 0) g) (refusal (8 if leb mr_count (free_mrn (card l)) ∷ [])) (some 11)
        unfolding command_checks
        register_tests = rw (known, live) (range_tests (8 if leb mr_count (free_mrn (card l)) ∷ []))

        pub register_range : in_range (row_at memory_t l 0) g ≡ false → Ran l (some (Command.register g)) (Err BadRange) l
        register_range e = ran_refused l (Command.register g) 11 (register_tests ∙ rw e)

        module _ (inside : in_range (row_at memory_t l 0) g ≡ true) (n : ℕ) (is : n ≡ free_mrn (card l)) where
          pub register_full : mr_count ≤ n → Ran l (some (Command.register g)) (Err Full) l
          register_full h = ran_refused l (Command.register g) 8 (register_tests ∙ rw (inside, le-leb mr_count (free_mrn (card l)) (omega arith)))

          pub register_done : n < mr_count → (v : ℕ) → v ≡ new_variant (card l) → (key : ℕ) → key ≡ key_of n v → (l' : List ℕ)
              → l' ≡ region_bytes l 0 g → Ran l (some (Command.register g)) (Ok (ack.Keys n key)) l'
          unfolding command_ack command_bytes
          register_done h v e key f l' s =
              ran_done l (Command.register g) (register_tests ∙ rw (inside, lt-leb mr_count (free_mrn (card l)) (omega arith)))
              (Ok (ack.Keys n key)) l' (ap (λ (x : ℕ). Ok (ack.Keys n x)) f ∙ ap₂ (λ (x z : ℕ). Ok (ack.Keys x (key_of x z))) is e) s
