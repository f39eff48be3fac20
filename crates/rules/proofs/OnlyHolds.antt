-- The only holds. Assumes nothing.
use mathlib.Core.Path.{◌≡◌, refl, subst, ◌∙◌}
use mathlib.Core.Bool.{Bool, true, false, cond, not, ◌&&◌, ◌||◌, true≢false, false≢true}
use mathlib.Core.List.{List, [], ◌∷◌, ◌++◌}
use mathlib.Core.Option.{Option, none, some}
use Prim.Native.Nat.{ℕ}
use native.Mathlib.Omega.{arith}
use lib.Dec.{eqb, leb}
use lib.ListN.{length}
use Rattle.wire.specs.Checks.{Check, ◌if◌, refusal}
use Rattle.wire.specs.Scan.{all}
use Rattle.wire.proofs.ScanLaws.{and_left, and_right}
use Rattle.tables.specs.Card.{Card}
use Rattle.tables.specs.Commands.{Command, command_of}
use Rattle.tables.specs.Limits.{most_waiting}
use Rattle.tables.specs.Records.{send_checks, receive_checks}
use Rattle.rules.specs.declared.Cause.TheVariants.{Peer, Place}
use Rattle.rules.specs.declared.Answer.TheVariants.{Held, Refused}
use Rattle.rules.specs.Answer.{answered, is_held}
use Rattle.rules.specs.Call.{Call, registration_in}
use Rattle.rules.specs.Calls.{checks, memory_checks, reset_checks, control_checks, buffer_checks, settled, step}
use Rattle.rules.specs.Control.{command_checks}
use Rattle.rules.specs.Holds.{lacks_places, no_place, may_hold, OnlyHolds}
use Rattle.rules.specs.Lists.{maybe, is_some, is_empty}
use Rattle.rules.specs.Pages.{page_record_checks, page_list_checks}
use Rattle.rules.specs.Queues.{join_checks, flush_checks, poll_checks}
use Rattle.rules.specs.Send.{pair_checks, ready_checks, place_checks, hold_checks, delivery_checks, queue_checks, ready, is_in_error, peer_of}
use Rattle.rules.specs.Touch.{takes}
use Rattle.rules.specs.Turn.{enqueue_checks, turn_checks}
use Rattle.tables.specs.Records.{request_of}
use Rattle.rules.proofs.Answers.{first_with, command_tests}
use Rattle.rules.proofs.Ranges.{all_split}
use Rattle.rules.proofs.Tests.{first_of, refusal_append}

-- a number of no hold
abbrev plain : ℕ → Bool
plain n = not (eqb n 5) && not (eqb n 6)

-- each test that is met has one
abbrev Plain : List Check → Type 0
Plain cs = (n : ℕ) → refusal cs ≡ some n → plain n ≡ true

command_plain : (c : Card) (o : Option Command) → all (λ t. plain t.no) (maybe [] (command_checks c) o) ≡ true
command_plain = command_tests plain refl refl refl refl refl refl

-- a test that is not met may have any number
without : (xs : List Check) (n : ℕ) (b : Bool) (ys : List Check) → b ≡ false → all (λ t. plain t.no) (xs ++ ys) ≡ true → Plain (xs ++ (n if b ∷ ys))
unfolding all
without [] n b ys e h i = rw e (first_with plain ys i h)
without (x ∷ xs) n b ys e h i = go x.bad (without xs n b ys e (and_right (plain x.no) (all (λ t. plain t.no) (xs ++ ys)) h) i)
  where
    go : (f : Bool) → (refusal (xs ++ (n if b ∷ ys)) ≡ some i → plain i ≡ true) → cond f (some x.no) (refusal (xs ++ (n if b ∷ ys))) ≡ some i →
        plain i ≡ true
    go true ih p = let z : x.no ≡ i = cc in subst (λ j. plain j ≡ true) z (and_left (plain x.no) (all (λ t. plain t.no) (xs ++ ys)) h)
    go false ih p = ih p

-- tests of plain numbers before others that are not met
before_none : (xs ys : List Check) → all (λ t. plain t.no) xs ≡ true → is_some (refusal ys) ≡ false → Plain (xs ++ ys)
before_none xs ys h e n = rw (refusal_append xs ys) (go (refusal xs) refl (refusal ys) e)
  where
    go : (a : Option ℕ) → refusal xs ≡ a → (b : Option ℕ) → is_some b ≡ false → first_of a b ≡ some n → plain n ≡ true
    go none i none j k = let z : ◌≡◌ {A = ℕ} 0 1 = cc in absurd (omega arith)
    go none i (some y) j k = absurd (true≢false j)
    go (some x) i b j k = first_with plain xs n h (i ∙ k)

-- the tests of a post send that hold are met where it may be held
hold_met : (e p a b d : Bool) → is_some (refusal (cond e (6 if p ∷ []) (5 if a ∷ 5 if b ∷ 6 if d ∷ []))) ≡ cond e p ((a || b) || d)
hold_met true true a b d = refl
hold_met true false a b d = refl
hold_met false p true b d = refl
hold_met false p false true d = refl
hold_met false p false false true = refl
hold_met false p false false false = refl

send_holds : (c : Card) (q : ℕ) (x : List ℕ) (m : List ℕ) → is_some (refusal (hold_checks c q (request_of x))) ≡ may_hold c (Call.send q x m)
unfolding hold_checks ready_checks place_checks
send_holds c q x m =
    let o = (request_of x).opcode in
    hold_met (is_in_error (c.qp q)) (no_place c (c.qp q).scq) (not (ready c q (c.qp q).dest))
    (takes o && is_empty (c.qp (peer_of c q)).waiting) (lacks_places c q o)

checks_plain : (c : Card) (k : Call) → may_hold c k ≡ false → Plain (checks c k)
unfolding all checks memory_checks queue_checks enqueue_checks turn_checks reset_checks control_checks page_record_checks page_list_checks buffer_checks send_checks receive_checks pair_checks delivery_checks join_checks flush_checks poll_checks
checks_plain c (Call.reset n) e = λ i. first_with plain (reset_checks n) i refl
checks_plain c (Call.control k a) e =
    λ i. first_with plain (control_checks k a ++ maybe [] (command_checks c) (command_of k)) i
    (rw (all_split (λ t. plain t.no) (control_checks k a) (maybe [] (command_checks c) (command_of k)), command_plain c (command_of k)))
checks_plain c (Call.register_pages k ps a) e = λ i. first_with plain (page_record_checks k a ++ page_list_checks c (registration_in k) ps) i refl
checks_plain c (Call.send q x m) e =
    before_none (memory_checks c m ++ (send_checks x ++ (pair_checks c q ++ queue_checks c q))) (hold_checks c q (request_of x)) refl
    (send_holds c q x m ∙ e)
checks_plain c (Call.receive q x) e =
    without (receive_checks x ++ (2 if not (c.qp q).live ∷ 3 if eqb (c.qp q).state 0 ∷ [])) 6 (may_hold c (Call.receive q x))
    (8 if leb most_waiting (length (c.qp q).waiting) ∷ []) e refl
checks_plain c (Call.flush q) e =
    without (2 if not (c.qp q).live ∷ 3 if not (is_in_error (c.qp q)) ∷ 9 if is_empty (c.qp q).waiting ∷ []) 6 (may_hold c (Call.flush q)) [] e refl
checks_plain c (Call.enqueue q x m) e = λ i. first_with plain (memory_checks c m ++ (send_checks x ++ enqueue_checks c q)) i refl
checks_plain c (Call.turn m) e = λ i. first_with plain (memory_checks c m ++ turn_checks c) i refl
checks_plain c (Call.poll n b) e = λ i. first_with plain (buffer_checks b ++ poll_checks c n) i refl

plain_refused : (n : ℕ) → plain n ≡ true → is_held (answered 0 (some n)) ≡ false
plain_refused n = go (eqb n 5) (eqb n 6)
  where
    go : (a b : Bool) → (not a && not b) ≡ true → is_held (cond a (Held Peer) (cond b (Held Place) (Refused n))) ≡ false
    go true b e = absurd (false≢true e)
    go false true e = absurd (false≢true e)
    go false false e = refl

pub only_holds : OnlyHolds
unfolding OnlyHolds step
only_holds c k h = go (refusal (checks c k)) refl
  where
    go : (o : Option ℕ) → refusal (checks c k) ≡ o → is_held (settled o c k).answer ≡ false
    go none e = refl
    go (some n) e = plain_refused n (checks_plain c k h n e)
