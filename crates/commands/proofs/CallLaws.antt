-- Any control command: which command its bytes are, the tests before its own, and what the call owes. Assumes nothing.
use mathlib.Core.Path.{◌≡◌, refl, sym, ◌∙◌}
use mathlib.Core.Bool.{Bool, true, false, cond, ◌&&◌, false≢true}
use mathlib.Core.List.{List, [], ◌++◌}
use mathlib.Core.Option.{Option, none, some, some-ne-none}
use Prim.Native.Nat.{ℕ, ◌+◌, ◌≤◌, ◌<◌}
use lib.Dec.{eqb, leb}
use lib.ListN.{length}
use native.Mathlib.Omega.{arith}
use borrow.Author.Tests.{lt-ltb, le-ltb, le-leb, leb-true, ltb-false, not-false}
use Rattle.wire.specs.Checks.{Check, refusal}
use Rattle.wire.proofs.CheckLaws.{passed}
use Rattle.wire.specs.Le.{le_at}
use Rattle.wire.specs.Scan.{all}
use Rattle.validate.specs.Accept.{accepts}
use Rattle.validate.proofs.AcceptedLaws.{Accepted, accepted}
use Rattle.tables.specs.Card.{Card}
use Rattle.tables.specs.State.{card}
use Rattle.tables.specs.Commands.{head_checks, data_read, encode_ack, ack_size, ack_need, room_by, control_class, Command, ack_least, data_size, command_of}
use Rattle.tables.specs.declared.Ack.{Ack}
use Rattle.tables.specs.declared.Ack.TheVariants as ack
use Rattle.tables.proofs.AckLaws.{need_least}
use Rattle.rules.proofs.Answers.{command_tests}
use Rattle.rules.proofs.Exported.{refused_owes, done_owes}
use Rattle.rules.proofs.Tests.{first_of, refusal_append}
use Rattle.rules.specs.Answer.{outcome_answer}
use Rattle.rules.specs.Bytes.{command_bytes, effect_bytes}
use Rattle.rules.specs.Call.{Call}
use Rattle.rules.specs.Calls.{checks, control_checks, owed_checks, status_of, effect, memory_after, buffer_after}
use Rattle.rules.specs.Contract.{Owes}
use Rattle.rules.specs.Control.{command_checks, command_ack, command_effect}
use Rattle.rules.specs.Verb.{verb_number, verb_of}
use Rattle.rules.specs.declared.verb.Verb.{Verb}
use Rattle.rules.specs.declared.verb.Verb.TheVariants.{QueryDevice, QueryPort, CreateCq, DestroyCq, CreatePd, DestroyPd, RegisterMr, DeregisterMr, CreateQp, ModifyQp, DestroyQp}
use Rattle.rules.proofs.VerbLaws.{verb_known, verb_unknown, no_command}
use Rattle.rules.specs.Lists.{is_some, maybe}
use Rattle.rules.specs.declared.Answer.{Answer}
use Rattle.rules.specs.declared.Answer.TheVariants as answer
use Rattle.commands.specs.Control.{verb_by, verb_read, Ran, Chosen, Classed, number_checks, class_checks, read_as, bare, outcome_ack}
use Rattle.std.specs.Prelude.{Result, Ok, Err, Some, None}
use Rattle.std.specs.Prelude.{Option as Read}
use Rattle.tables.specs.Refusal.{refusal_of}
use Rattle.tables.specs.declared.refusal.Refusal.{Refusal}
use Rattle.tables.specs.declared.refusal.Refusal.TheVariants.{Unknown}
use Rattle.commands.proofs.EndLaws.{quiet, ended}
use Rattle.commands.proofs.EffectLaws as effect
use Rattle.commands.proofs.EffectLaws.{Kept}
use Rattle.commands.proofs.PairEffectLaws as pairs
use Rattle.commands.proofs.RegionEffectLaws as regions

-- ---- the command number chooses

-- a reading by the data's length, made into a command
made : {A : Type 0} (f : A → Command) (n : ℕ) (of : List ℕ → A) (k : List ℕ) → read_as f (data_read n of k) ≡ cond (eqb (length k) n) (some (f (of k))) none
made f n of k = go (eqb (length k) n)
  where
    go : (b : Bool) → read_as f (cond b (Some (of k)) None) ≡ cond b (some (f (of k))) none
    go true = refl
    go false = refl

-- what a command that was read tells
pub verb_named : (k : List ℕ) (v : Verb) → verb_read k ≡ Ok v → (refusal (head_checks k) ≡ none) × (le_at 1 k 1 ≡ verb_number v)
verb_named k v e = go (refusal (head_checks k)) e
  where
    go : (o : Option ℕ) → verb_by o (verb_of (le_at 1 k 1)) ≡ Ok v → (o ≡ none) × (le_at 1 k 1 ≡ verb_number v)
    go none e = (refl, verb_known (le_at 1 k 1) v e)
    go (some n) e = (cc, cc)

module _ (l k : List ℕ) where
  -- the number says that it is the command q; o is q where its data has its length
  chosen : (q : Command) → command_of k ≡ some q → (o : Option Command) → o ≡ cond (eqb (length k) (2 + data_size q)) (some q) none
      → (r : Result Ack Refusal) (l' : List ℕ) → Ran l o r l' → Chosen l k r l'
  chosen q c o is r l' x = go (eqb (length k) (2 + data_size q)) refl (rw is at x)
    where
      go : (b : Bool) → eqb (length k) (2 + data_size q) ≡ b → Ran l (cond b (some q) none) r l' → Chosen l k r l'
      go true e y = record { outcome = rw (c, e) y.outcome; bytes = rw (c, e) y.bytes }
      go false e y = record { outcome = rw (c, e) y.outcome; bytes = rw (c, e) y.bytes }

  -- by the data of the command
  module _ (r : Result Ack Refusal) (l' : List ℕ) where
    pub by_data : {A : Type 0} (f : A → Command) (n : ℕ) (of : List ℕ → A) → command_of k ≡ some (f (of k)) → 2 + data_size (f (of k)) ≡ n
        → (x : Read A) → x ≡ data_read n of k → Ran l (read_as f x) r l' → Chosen l k r l'
    by_data f n of c s x is = chosen (f (of k)) c (read_as f x) (rw (s, is) (made f n of k)) r l'

    pub by_nothing : (q : Command) → command_of k ≡ some q → data_size q ≡ 0 → Ran l (bare q k) r l' → Chosen l k r l'
    by_nothing q c s = chosen q c (bare q k) (rw s) r l'

  -- ---- the tests before: the length, the class and the number
  -- no command is named
  pub dispatch_stopped : (r : Refusal) → verb_read k ≡ Err r → Classed l k (Err r) l
  dispatch_stopped r e = go (refusal (head_checks k)) refl e
    where
      go : (o : Option ℕ) → refusal (head_checks k) ≡ o → verb_by o (verb_of (le_at 1 k 1)) ≡ Err r → Classed l k (Err r) l
      go none i e =
          let u : r ≡ Unknown = verb_unknown (le_at 1 k 1) r e in
          let z : refusal (class_checks (card l) k) ≡ some 13 = refusal_append (head_checks k) (number_checks (card l) k) ∙ rw (i, no_command k r e) in
          record { outcome = rw (z, u); bytes = rw z }
      go (some n) i e =
          let z : refusal (class_checks (card l) k) ≡ some n = refusal_append (head_checks k) (number_checks (card l) k) ∙ rw i in
          let q : refusal_of n ≡ r = cc in
          record { outcome = rw (z, q); bytes = rw z }

-- ---- the call

class_quiet : (c : Card) (k : List ℕ) → all (λ t. quiet t.no) (class_checks c k) ≡ true
unfolding all
class_quiet c k = command_tests quiet refl refl refl refl refl refl c (command_of k)

-- ---- tests that all pass, the earlier of them

first_none : (xs ys : List Check) → refusal (xs ++ ys) ≡ none → refusal xs ≡ none
first_none xs ys e = go (refusal xs) (rw (refusal_append xs ys) at e)
  where
    go : (o : Option ℕ) → first_of o (refusal ys) ≡ none → o ≡ none
    go none p = refl
    go (some n) p = absurd (some-ne-none n p)

-- ---- room for the ack

-- the head is refused, or it is not
need_refused : (k : List ℕ) (n : ℕ) → refusal (head_checks k) ≡ some n → ack_need k ≡ ack_least
unfolding ack_need
need_refused k n e = go (leb 2 (length k)) (eqb (le_at 1 k 0) control_class) refl refl
  where
    go : (a b : Bool) → leb 2 (length k) ≡ a → eqb (le_at 1 k 0) control_class ≡ b → cond (leb 2 (length k) && eqb (le_at 1 k 0) control_class) (room_by (command_of k)) ack_least ≡ ack_least
    go false b x y = rw x
    go true false x y = rw (x, y)
    go true true x y = absurd (some-ne-none n (sym e ∙ rw (le-ltb (length k) 2 (leb-true 2 (length k) x), y)))

need_named : (k : List ℕ) → refusal (head_checks k) ≡ none → ack_need k ≡ room_by (command_of k)
unfolding ack_need
need_named k e =
    let p = passed (head_checks k) e in
    rw (le-leb 2 (length k) (ltb-false (length k) 2 p.0), not-false (eqb (le_at 1 k 0) control_class) p.1.0)

-- by the command that is named
abbrev pub room_of : Result Verb Refusal → ℕ
room_of (Ok QueryDevice) = 129
room_of (Ok QueryPort) = 33
room_of (Ok CreateCq) = ack_least
room_of (Ok DestroyCq) = ack_least
room_of (Ok CreatePd) = ack_least
room_of (Ok DestroyPd) = ack_least
room_of (Ok RegisterMr) = ack_least
room_of (Ok DeregisterMr) = ack_least
room_of (Ok CreateQp) = ack_least
room_of (Ok ModifyQp) = ack_least
room_of (Ok DestroyQp) = ack_least
room_of (Err r) = ack_least

named_room : (k : List ℕ) (v : Verb) → le_at 1 k 1 ≡ verb_number v → room_by (command_of k) ≡ room_of (Ok v)
unfolding command_of
named_room k QueryDevice i = rw i
named_room k QueryPort i = rw i
named_room k CreateCq i = rw i
named_room k DestroyCq i = rw i
named_room k CreatePd i = rw i
named_room k DestroyPd i = rw i
named_room k RegisterMr i = rw i
named_room k DeregisterMr i = rw i
named_room k CreateQp i = rw i
named_room k ModifyQp i = rw i
named_room k DestroyQp i = rw i

pub need_is : (k : List ℕ) → ack_need k ≡ room_of (verb_read k)
need_is k = go (refusal (head_checks k)) refl
  where
    found : (x : Result Verb Refusal) → verb_of (le_at 1 k 1) ≡ x → room_by (command_of k) ≡ room_of x
    found (Ok v) i = named_room k v (verb_known (le_at 1 k 1) v i)
    found (Err r) i = rw (no_command k r i)

    go : (o : Option ℕ) → refusal (head_checks k) ≡ o → ack_need k ≡ room_of (verb_by o (verb_of (le_at 1 k 1)))
    go none i = need_named k i ∙ found (verb_of (le_at 1 k 1)) refl
    go (some n) i = need_refused k n i

pub least_room : (v : Verb) → (v ≡ QueryDevice → ⊥) → (v ≡ QueryPort → ⊥) → room_of (Ok v) ≡ ack_least
least_room QueryDevice a b = absurd (a refl)
least_room QueryPort a b = absurd (b refl)
least_room CreateCq a b = refl
least_room DestroyCq a b = refl
least_room CreatePd a b = refl
least_room DestroyPd a b = refl
least_room RegisterMr a b = refl
least_room DeregisterMr a b = refl
least_room CreateQp a b = refl
least_room ModifyQp a b = refl
least_room DestroyQp a b = refl

-- an ack fits the room of its command
ack_room_lem : (c : Card) (o : Option Command) → ack_size (maybe ack.Done (command_ack c) o) ≤ room_by o
unfolding command_ack
ack_room_lem c none = omega arith
ack_room_lem c (some Command.query_device) = omega arith
ack_room_lem c (some Command.query_port) = omega arith
ack_room_lem c (some (Command.create_cq n)) = omega arith
ack_room_lem c (some (Command.destroy_cq n)) = omega arith
ack_room_lem c (some Command.create_pd) = omega arith
ack_room_lem c (some (Command.destroy_pd n)) = omega arith
ack_room_lem c (some (Command.register g)) = omega arith
ack_room_lem c (some (Command.deregister n)) = omega arith
ack_room_lem c (some (Command.create_qp r)) = omega arith
ack_room_lem c (some (Command.modify_qp r)) = omega arith
ack_room_lem c (some (Command.destroy_qp q)) = omega arith

pub outcome_room : (l k : List ℕ) (p : Result Ack Refusal) (l' : List ℕ) → Classed l k p l' → ack_size (outcome_ack p) ≤ ack_need k
outcome_room l k p l' d = go (refusal (class_checks (card l) k)) refl
  where
    go : (m : Option ℕ) → refusal (class_checks (card l) k) ≡ m → ack_size (outcome_ack p) ≤ ack_need k
    go none e =
        let eo : p ≡ Ok (maybe ack.Done (command_ack (card l)) (command_of k)) = d.outcome ∙ rw e in
        rw (eo, need_named k (first_none (head_checks k) (number_checks (card l) k) e)) (ack_room_lem (card l) (command_of k))
    go (some n) e =
        let eo : p ≡ Err (refusal_of n) = d.outcome ∙ rw e in
        let h : ack_least ≤ ack_need k = need_least k in
        rw eo (omega arith)

-- every command that passes its tests
kept : (l : List ℕ) → Accepted l → (q : Command) → refusal (command_checks (card l) q) ≡ none → Kept l q
kept l ok Command.query_device e = effect.query_device_lem l ok
kept l ok Command.query_port e = effect.query_port_lem l ok
kept l ok (Command.create_cq n) e = effect.create_cq_lem l ok n e
kept l ok (Command.destroy_cq n) e = effect.destroy_cq_lem l ok n e
kept l ok Command.create_pd e = effect.create_pd_lem l ok e
kept l ok (Command.destroy_pd n) e = effect.destroy_pd_lem l ok n e
kept l ok (Command.register g) e = regions.register l ok g e
kept l ok (Command.deregister n) e = regions.deregister l ok n e
kept l ok (Command.create_qp r) e = pairs.create_qp_lem l ok r e
kept l ok (Command.modify_qp r) e = pairs.modify_qp_lem l ok r e
kept l ok (Command.destroy_qp q) e = pairs.destroy_qp_lem l ok q e

-- tests that all pass, and the later of them
pub rest_none : (xs ys : List Check) → refusal (xs ++ ys) ≡ none → refusal ys ≡ none
rest_none xs ys e = go (refusal xs) (rw (refusal_append xs ys) at e)
  where
    go : (o : Option ℕ) → first_of o (refusal ys) ≡ none → refusal ys ≡ none
    go none p = p
    go (some n) p = absurd (some-ne-none n p)

left : (l : List ℕ) → Accepted l → (o : Option Command) → refusal (maybe [] (command_checks (card l)) o) ≡ none
    → (card (maybe l (command_bytes l) o) ≡ maybe (card l) (command_effect (card l)) o) × Accepted (maybe l (command_bytes l) o)
left l ok none e = (refl, ok)
left l ok (some q) e = let s = kept l ok q e in (s.meant, s.still)

-- the ack of a command that the number names
said : (c : Card) (a : List ℕ) (o : Option Command) → is_some o ≡ true
    → maybe a (λ q. encode_ack (command_ack c q) a) o ≡ encode_ack (maybe ack.Done (command_ack c) o) a
said c a none e = absurd (false≢true e)
said c a (some q) e = refl

module _ (l k a : List ℕ) where
  abbrev call : Call
  call = Call.control k a

  abbrev o : Option Command
  o = command_of k

  module _ (good : accepts l ≡ true) where
    pub control_short : length a < ack_need k → Owes l call (answer.Refused 12) l [] a
    unfolding checks control_checks
    control_short h = refused_owes l call 12 (rw (good, lt-ltb (length a) (ack_need k) h))

    module _ (room : ack_need k ≤ length a) where
      tests : refusal (owed_checks card accepts l call) ≡ refusal (class_checks (card l) k)
      unfolding checks control_checks
      tests = rw (good, le-ltb (length a) (ack_need k) room)

      -- one that is done
      done : refusal (class_checks (card l) k) ≡ none
          → Owes l call (answer.Done 0) (maybe l (command_bytes l) o) [] (encode_ack (maybe ack.Done (command_ack (card l)) o) a)
      unfolding effect_bytes status_of effect memory_after buffer_after control_checks
      done e =
          let s = left l (accepted l good) o (rest_none (control_checks k a) (maybe [] (command_checks (card l)) o) (rw (le-ltb (length a) (ack_need k) room) e)) in
          let p = passed (class_checks (card l) k) e in
          rw (← said (card l) a o (not-false (is_some o) p.1.1.0)) (done_owes l call refl (tests ∙ e) s.0 s.1 (maybe l (command_bytes l) o) refl)

      pub control_done : (p : Result Ack Refusal) (l' : List ℕ) → Classed l k p l' → (x : Ack) → x ≡ outcome_ack p → (r : Answer) → r ≡ outcome_answer p
          → (a' : List ℕ) → a' ≡ encode_ack x a → Owes l call r l' [] a'
      control_done =
          ended l a call refl (λ n. refl) (class_checks (card l) k) tests (class_quiet (card l) k)
          (maybe ack.Done (command_ack (card l)) o) (maybe l (command_bytes l) o) done
