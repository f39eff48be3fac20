-- "lends buffers that never give 12": no call of a tape is answered 12, on any state. Assumes nothing.
use mathlib.Core.Path.{◌≡◌, refl, sym}
use mathlib.Core.Bool.{Bool, true, not, true≢false}
use mathlib.Core.List.{List, [], ◌∷◌, ◌++◌}
use mathlib.Core.Option.{Option, some}
use Prim.Native.Nat.{ℕ}
use lib.Dec.{eqb}
use lib.ListN.{drop}
use borrow.Author.Tests.{le-ltb}
use Rattle.tables.proofs.AckLaws.{need_most}
use Rattle.wire.specs.Checks.{Check, ◌if◌, refusal}
use Rattle.wire.specs.Codec.{within, clear, apart}
use Rattle.wire.specs.Scan.{all}
use Rattle.validate.specs.Accept.{accepts}
use Rattle.tables.specs.Card.{Card}
use Rattle.tables.specs.State.{card}
use Rattle.tables.specs.Commands.{Command, ack_need, command_of}
use Rattle.tables.specs.Records.{send_checks, receive_checks, completion_codec}
use Rattle.tables.specs.Reset.{zeros}
use Rattle.rules.specs.Call.{Call}
use Rattle.rules.specs.Calls.{checks, control_checks, memory_checks, buffer_checks, owed_checks}
use Rattle.rules.specs.Control.{command_checks}
use Rattle.rules.specs.Lists.{maybe}
use Rattle.rules.specs.Queues.{join_checks, flush_checks, poll_checks}
use Rattle.rules.specs.Send.{pair_checks, queue_checks, delivery_checks}
use Rattle.tables.specs.Records.{request_of}
use Rattle.rules.proofs.Answers.{first_with, command_tests, hold_tests}
use Rattle.rules.proofs.Ranges.{all_split}
use Rattle.tape.specs.declared.Kind.{Kind}
use Rattle.tape.specs.Tape.{completion_size, tape_ack, call_of}

abbrev other : ℕ → Bool
other n = not (eqb n 12)

abbrev spare : Check → Bool
spare t = other t.no

command_spare : (c : Card) (o : Option Command) → all spare (maybe [] (command_checks c) o) ≡ true
command_spare = command_tests other refl refl refl refl refl refl

without : (cs : List Check) → all spare cs ≡ true → refusal cs ≡ some 12 → ⊥
without cs a e = true≢false (sym (first_with other cs 12 a e))

-- the call k on the state l
abbrev Never : (l : List ℕ) → Call → Type 0
Never l k = refusal (owed_checks card accepts l k) ≡ some 12 → ⊥

module _ (l : List ℕ) where
  abbrev unusable : Check
  unusable = 15 if not (accepts l)

  control_never : (b : List ℕ) → Never l (Call.control b (zeros tape_ack))
  unfolding all checks control_checks
  control_never b e =
      without (unusable ∷ (drop 1 (control_checks b (zeros tape_ack)) ++ maybe [] (command_checks (card l)) (command_of b)))
      (rw (all_split spare (drop 1 (control_checks b (zeros tape_ack))) (maybe [] (command_checks (card l)) (command_of b)), command_spare (card l) (command_of b)))
      (rw (le-ltb tape_ack (ack_need b) (need_most b)) at e)

  send_never : (q : ℕ) (x m : List ℕ) → Never l (Call.send q x m)
  unfolding all checks memory_checks send_checks pair_checks queue_checks delivery_checks
  send_never q x m e = without (owed_checks card accepts l (Call.send q x m)) (hold_tests other refl refl (card l) q (request_of x)) e

  receive_never : (q : ℕ) (x : List ℕ) → Never l (Call.receive q x)
  unfolding all checks receive_checks join_checks
  receive_never q x e = without (owed_checks card accepts l (Call.receive q x)) refl e

  flush_never : (q : ℕ) → Never l (Call.flush q)
  unfolding all checks flush_checks
  flush_never q e = without (owed_checks card accepts l (Call.flush q)) refl e

  poll_never : (n : ℕ) → Never l (Call.poll n (zeros completion_size))
  unfolding all checks buffer_checks poll_checks within clear apart completion_codec
  poll_never n e = without (unusable ∷ poll_checks (card l) n) refl e

  pub never_short : (k : Kind) (n : ℕ) (b m : List ℕ) → Never l (call_of k n b m)
  never_short Kind.Control n b m = control_never b
  never_short Kind.Send n b m = send_never n b m
  never_short Kind.Receive n b m = receive_never n b
  never_short Kind.Poll n b m = poll_never n
  never_short Kind.Flush n b m = flush_never n
