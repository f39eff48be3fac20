-- Demand 1: every answer is a number of the table, and what an answer other than 0 leaves. Assumes nothing.
use mathlib.Core.Path.{◌≡◌, refl, sym, ap, subst, ◌∙◌}
use mathlib.Core.Bool.{Bool, true, false, cond, not, ◌&&◌, ◌||◌, true≢false}
use mathlib.Core.List.{List, [], ◌∷◌}
use mathlib.Core.Option.{Option, none, some}
use Prim.Native.Nat.{ℕ, ◌+◌, ◌*◌, ◌/◌, ◌%◌, ◌≤◌}
use native.Mathlib.Nat.{add-zero}
use native.Mathlib.Omega.{arith}
use lib.Dec.{eqb, leb}
use lib.ListN.{set}
use borrow.Author.Tests.{leb-true, le-leb, ne_eqb, eqb-true}
use Rattle.wire.specs.Checks.{Check, refusal}
use Rattle.wire.specs.Codec.{put_fields}
use Rattle.wire.specs.Le.{put_le}
use Rattle.wire.proofs.ScanLaws.{and_left, and_right, both_true}
use Rattle.wire.specs.Scan.{all}
use Rattle.validate.specs.Accept.{accepts}
use Rattle.tables.specs.Card.{Card}
use Rattle.tables.specs.State.{card}
use Rattle.tables.specs.Limits.{most_message}
use Rattle.tables.specs.Commands.{Command, command_of, ack_fields}
use Rattle.tables.specs.Records.{send_checks, receive_checks}
use Rattle.rules.specs.declared.Cause.TheVariants.{Peer, Place}
use Rattle.rules.specs.declared.Answer.{Answer}
use Rattle.rules.specs.declared.Answer.TheVariants.{Done, Held, Refused}
use Rattle.rules.specs.Answer.{number, code_of, answered, answer_in, value_in, is_done, listed}
use Rattle.rules.specs.Control.{command_checks}
use Rattle.rules.specs.Touch.{fills, total, sge_total, own_bytes, far_bytes}
use Rattle.tables.specs.Records.{Request, request_of}
use Rattle.rules.specs.Permit.{permits_all}
use Rattle.rules.specs.Send.{pair_checks, ready_checks, place_checks, hold_checks, delivery_checks, queue_checks, is_in_error, peer_of, taken_by, own_use, far_use, status_by, run_status, send_status}
use Rattle.rules.specs.Turn.{enqueue_checks, turn_checks, served, head_of}
use Rattle.rules.specs.Queues.{flushes_at_once, join_checks, join_status, flush_checks, poll_checks}
use Rattle.rules.specs.Call.{Call, Buffer, given, memory_of}
use Rattle.rules.specs.Pages.{page_record_checks, page_list_checks}
use Rattle.rules.proofs.Ranges.{all_split}
use Rattle.rules.specs.Demand1.{ack_left, left_by, buffer_left, Returns, Demand1}
use Rattle.rules.specs.Calls.{checks, memory_checks, reset_checks, control_checks, buffer_checks, settled, step, status_of, value_of, owed, owed_checks, usable, ack_refused, refused_by, buffer_refused, Result}
use Rattle.rules.specs.Lists.{maybe}

-- ---- a fact of every test's number is one of the refusal's

pub first_with : (f : ℕ → Bool) (cs : List Check) (n : ℕ) → all (λ c. f c.no) cs ≡ true → refusal cs ≡ some n → f n ≡ true
unfolding all
first_with f [] n p e = let z : ◌≡◌ {A = ℕ} 0 1 = cc in absurd (omega arith)
first_with f (c ∷ cs) n p e = go c.bad (first_with f cs n (and_right (f c.no) (all (λ x. f x.no) cs) p)) e
  where
    go : (b : Bool) → (refusal cs ≡ some n → f n ≡ true) → cond b (some c.no) (refusal cs) ≡ some n → f n ≡ true
    go true ih e = let s : c.no ≡ n = cc in subst (λ x. f x ≡ true) s (and_left (f c.no) (all (λ x. f x.no) cs) p)
    go false ih e = ih e

-- a fact of the six numbers that a command's tests have is one of each test
module _ (f : ℕ → Bool) (four : f 4 ≡ true) (two : f 2 ≡ true) (eleven : f 11 ≡ true) (three : f 3 ≡ true) (ten : f 10 ≡ true) (eight : f 8 ≡ true) where
  one_command : (c : Card) (k : Command) → all (λ t. f t.no) (command_checks c k) ≡ true
  unfolding all command_checks
  one_command c Command.query_device = refl
  one_command c Command.query_port = refl
  one_command c (Command.create_cq n) = rw (four, eight)
  one_command c (Command.destroy_cq n) = rw (two, ten)
  one_command c Command.create_pd = rw eight
  one_command c (Command.destroy_pd n) = rw (two, ten)
  one_command c (Command.register g) = rw (four, two, eleven, eight)
  one_command c (Command.deregister n) = rw two
  one_command c (Command.create_qp r) = rw (four, two, eight)
  one_command c (Command.modify_qp r) = rw (four, two, three)
  one_command c (Command.destroy_qp q) = rw two

  pub command_tests : (c : Card) (o : Option Command) → all (λ t. f t.no) (maybe [] (command_checks c) o) ≡ true
  unfolding all
  command_tests c none = refl
  command_tests c (some k) = one_command c k

-- the tests' numbers stand in the table from 1 on and below 14
abbrev within : ℕ → Bool
within n = leb 1 n && leb n 13

abbrev fine : Check → Bool
fine k = within k.no

command_fine : (c : Card) (o : Option Command) → all fine (maybe [] (command_checks c) o) ≡ true
command_fine = command_tests within refl refl refl refl refl refl

-- a fact of 5 and 6 is one of each test that holds a request
pub hold_tests : (f : ℕ → Bool) → f 5 ≡ true → f 6 ≡ true → (c : Card) (q : ℕ) (r : Request) → all (λ t. f t.no) (hold_checks c q r) ≡ true
unfolding all hold_checks place_checks ready_checks
hold_tests f five six c q r = go (is_in_error (c.qp q))
  where
    go : (b : Bool) → all (λ t. f t.no) (cond b (place_checks c q) (ready_checks c q r)) ≡ true
    go true = cc
    go false = cc

checks_fine : (c : Card) (k : Call) → all fine (checks c k) ≡ true
unfolding all checks memory_checks queue_checks enqueue_checks turn_checks reset_checks control_checks page_record_checks page_list_checks buffer_checks send_checks receive_checks pair_checks delivery_checks join_checks flush_checks poll_checks
checks_fine c (Call.reset n) = refl
checks_fine c (Call.control k a) = rw (all_split fine (control_checks k a) (maybe [] (command_checks c) (command_of k)), command_fine c (command_of k))
checks_fine c (Call.register_pages k ps a) = refl
checks_fine c (Call.send q x m) = hold_tests within refl refl c q (request_of x)
checks_fine c (Call.enqueue q x m) = refl
checks_fine c (Call.turn m) = refl
checks_fine c (Call.receive q x) = refl
checks_fine c (Call.flush q) = refl
checks_fine c (Call.poll n b) = refl

pub refusal_within : (c : Card) (k : Call) (n : ℕ) → refusal (checks c k) ≡ some n → (1 ≤ n) × (n ≤ 13)
refusal_within c k n e =
    let h = first_with within (checks c k) n (checks_fine c k) e in
    (leb-true 1 n (and_left (leb 1 n) (leb n 13) h), leb-true n 13 (and_right (leb 1 n) (leb n 13) h))

-- the number of an answer is that of the test
pub answered_number : (n : ℕ) → number (answered 0 (some n)) ≡ n
answered_number n = go (eqb n 5) refl (eqb n 6) refl
  where
    go : (a : Bool) → eqb n 5 ≡ a → (b : Bool) → eqb n 6 ≡ b → number (answered 0 (some n)) ≡ n
    go true p b q = rw p (sym (eqb-true n 5 p))
    go false p true q = rw (p, q) (sym (eqb-true n 6 q))
    go false p false q = rw (p, q)

-- and a result's number is no more
pub answered_code : (n : ℕ) → code_of (answered 0 (some n)) ≡ n
answered_code n = go (eqb n 5) refl (eqb n 6) refl
  where
    go : (a : Bool) → eqb n 5 ≡ a → (b : Bool) → eqb n 6 ≡ b → code_of (answered 0 (some n)) ≡ n
    go true p b q = rw p (sym (eqb-true n 5 p))
    go false p true q = rw (p, q) (sym (eqb-true n 6 q))
    go false p false q = rw (p, q) (add-zero n)

pub answered_not_done : (n : ℕ) → is_done (answered 0 (some n)) ≡ false
answered_not_done n = go (eqb n 5) (eqb n 6)
  where
    go : (a b : Bool) → is_done (cond a (Held Peer) (cond b (Held Place) (Refused n))) ≡ false
    go true b = refl
    go false true = refl
    go false false = refl

-- the answer of one call on a card is a number of the table below 14
pub step_below : (c : Card) (k : Call) → number (step c k).answer ≤ 13
unfolding step
step_below c k = go (refusal (checks c k)) refl
  where
    go : (o : Option ℕ) → refusal (checks c k) ≡ o → number (settled o c k).answer ≤ 13
    go none e = omega arith
    go (some n) e = rw (answered_number n) (refusal_within c k n e).1

-- ---- statuses

steps_small : (fill short own fits far : Bool) → status_by fill short own fits far ≤ 8
steps_small fill false own fits far = omega arith
steps_small fill true false fits far = omega arith
steps_small true true true false far = omega arith
steps_small true true true true true = omega arith
steps_small true true true true false = omega arith
steps_small false true true fits true = omega arith
steps_small false true true fits false = omega arith

run_small : (c : Card) (q : ℕ) (r : Request) → run_status c q r ≤ 8
unfolding run_status
run_small c q r =
    steps_small (fills r.opcode) (leb (total r) most_message) (permits_all c q (own_use r.opcode) (own_bytes r))
    (leb (total r) (sge_total (taken_by c q).sges))
    (permits_all c (peer_of c q) (far_use r.opcode) (far_bytes r (taken_by c q)))

send_small : (c : Card) (q : ℕ) (r : Request) → send_status c q r ≤ 8
unfolding send_status
send_small c q r = go (is_in_error (c.qp q))
  where
    go : (b : Bool) → cond b 4 (run_status c q r) ≤ 8
    go true = omega arith
    go false = run_small c q r

join_small : (c : Card) (q : ℕ) → join_status c q ≤ 8
unfolding join_status
join_small c q = go (flushes_at_once c q)
  where
    go : (b : Bool) → cond b 4 0 ≤ 8
    go true = omega arith
    go false = omega arith

-- a status is a number of the list, of which 8 is the greatest
pub status_small : (c : Card) (k : Call) → status_of c k ≤ 8
unfolding status_of
status_small c (Call.reset n) = omega arith
status_small c (Call.control k a) = omega arith
status_small c (Call.register_pages k ps a) = omega arith
status_small c (Call.send q x m) = send_small c q (request_of x)
status_small c (Call.receive q x) = join_small c q
status_small c (Call.enqueue q x m) = omega arith
status_small c (Call.turn m) = send_small c (served c) (head_of c (served c))
status_small c (Call.flush q) = omega arith
status_small c (Call.poll n b) = omega arith

-- ---- what an answer other than 0 leaves

-- an answer other than 0 leaves the card and the memory; of the answer buffer it leaves what the rules say
pub record Left (c : Card) (k : Call) (r : Result) : Type 0 where
  pub card : r.card ≡ c
  pub memory : r.memory ≡ memory_of k
  pub buffer : r.buffer ≡ buffer_refused (number r.answer) k

settled_unchanged : (c : Card) (k : Call) (n : ℕ) → Left c k (settled (some n) c k)
settled_unchanged c k n = record { card = refl; memory = refl; buffer = rw (answered_number n) }

pub step_unchanged : (c : Card) (k : Call) → is_done (step c k).answer ≡ false → Left c k (step c k)
unfolding step
step_unchanged c k = go (refusal (checks c k))
  where
    go : (o : Option ℕ) → is_done (settled o c k).answer ≡ false → Left c k (settled o c k)
    go none e = absurd (true≢false e)
    go (some n) e = settled_unchanged c k n

-- the ack byte 1 of a refused command: the first byte, and no other
pub error_ack : (a : List ℕ) → put_fields ack_fields a 0 (1 ∷ []) ≡ set a 0 1
unfolding put_fields put_le
error_ack a = refl

module _ (cardOf : List ℕ → Card) (accepts : List ℕ → Bool) where
  -- on a state that it can use a call does what it does on the card
  pub owed_is : (l : List ℕ) (k : Call) → owed cardOf accepts l k ≡ cond (usable cardOf accepts l k) (step (cardOf l) k) (settled (some 15) (cardOf l) k)
  unfolding step
  owed_is l k = go (usable cardOf accepts l k)
    where
      go : (b : Bool) → settled (cond (not b) (some 15) (refusal (checks (cardOf l) k))) (cardOf l) k
          ≡ cond b (settled (refusal (checks (cardOf l) k)) (cardOf l) k) (settled (some 15) (cardOf l) k)
      go true = refl
      go false = refl

  -- demand 1: every answer is a number of the table
  pub owed_listed : (l : List ℕ) (k : Call) → listed (number (owed cardOf accepts l k).answer) ≡ true
  owed_listed l k = rw (owed_is l k) (go (usable cardOf accepts l k))
    where
      go : (b : Bool) → listed (number (cond b (step (cardOf l) k) (settled (some 15) (cardOf l) k)).answer) ≡ true
      go true =
          let h = step_below (cardOf l) k in
          both_true _ _ (le-leb (number (step (cardOf l) k).answer) 15 (omega arith))
          (ap not (ne_eqb (number (step (cardOf l) k).answer) 14 (omega arith)))
      go false = refl

  -- demand 1: a refused or held call changes no memory, no table and no lent byte, but for the one ack byte of a refused command
  pub owed_unchanged : (l : List ℕ) (k : Call) → is_done (owed cardOf accepts l k).answer ≡ false → Left (cardOf l) k (owed cardOf accepts l k)
  owed_unchanged l k = rw (owed_is l k) (go (usable cardOf accepts l k))
    where
      go : (b : Bool) → is_done (cond b (step (cardOf l) k) (settled (some 15) (cardOf l) k)).answer ≡ false →
          Left (cardOf l) k (cond b (step (cardOf l) k) (settled (some 15) (cardOf l) k))
      go true e = step_unchanged (cardOf l) k e
      go false e = settled_unchanged (cardOf l) k 15

  -- ---- the result that a caller in C gets tells the answer

  owed_within : (l : List ℕ) (k : Call) (n : ℕ) → refusal (owed_checks cardOf accepts l k) ≡ some n → (1 ≤ n) × (n ≤ 15)
  owed_within l k n = go (usable cardOf accepts l k)
    where
      go : (b : Bool) → cond (not b) (some 15) (refusal (checks (cardOf l) k)) ≡ some n → (1 ≤ n) × (n ≤ 15)
      go true e = let h = refusal_within (cardOf l) k n e in let a = h.0 in let b = h.1 in (omega arith, omega arith)
      go false e = let z : 15 ≡ n = cc in (omega arith, omega arith)

  -- r is a result that tells the answer a and the value v beside it
  pub record Tells (r : ℕ) (a : Answer) (v : ℕ) : Type 0 where
    pub answer : answer_in r ≡ a
    pub value : value_in r ≡ v

  code_refused : (n : ℕ) → 1 ≤ n → n ≤ 15 → Tells (code_of (answered 0 (some n)) + 65536 * 0) (answered 0 (some n)) 0
  code_refused n h m =
      let e : code_of (answered 0 (some n)) ≡ n = answered_code n in
      let d : (n + 65536 * 0) / 256 % 256 ≡ 0 = omega arith in
      let w : (n + 65536 * 0) % 256 ≡ n = omega arith in
      record { answer = rw (e, d, w, ne_eqb n 0 (omega arith)); value = omega arith }

  code_done : (s v : ℕ) → s ≤ 8 → Tells (code_of (Done s) + 65536 * v) (Done s) v
  code_done s v h =
      let d : (0 + 256 * s + 65536 * v) / 256 % 256 ≡ s = omega arith in
      let w : (0 + 256 * s + 65536 * v) % 256 ≡ 0 = omega arith in
      record { answer = rw (w, d); value = omega arith }

  pub code_back : (l : List ℕ) (k : Call) → let o = owed cardOf accepts l k in Tells (code_of o.answer + 65536 * o.value) o.answer o.value
  code_back l k = go (refusal (owed_checks cardOf accepts l k)) refl
    where
      go : (o : Option ℕ) → refusal (owed_checks cardOf accepts l k) ≡ o →
          Tells (code_of (settled o (cardOf l) k).answer + 65536 * (settled o (cardOf l) k).value) (settled o (cardOf l) k).answer
          (settled o (cardOf l) k).value
      go none e = code_done (status_of (cardOf l) k) (value_of (cardOf l) k) (status_small (cardOf l) k)
      go (some n) e = let h = owed_within l k n e in code_refused n h.0 h.1

-- ---- demand 1, of the exported functions

ack_left_lem : (n : ℕ) (a : List ℕ) → ack_refused n a ≡ ack_left n a
ack_left_lem n a = ap (λ (x : List ℕ). cond (eqb n 12 || eqb n 15) a x) (error_ack a)

buffer_left_lem : (n : ℕ) (b : Buffer) → refused_by n b ≡ left_by n b
buffer_left_lem n Buffer.no_buffer = refl
buffer_left_lem n (Buffer.for_ack a) = ack_left_lem n a
buffer_left_lem n (Buffer.for_completion b) = refl

module _ (l : List ℕ) (k : Call) (r : ℕ) (l' m' b' : List ℕ) where
  -- a call that is done
  done_returns : (s v : ℕ) → r ≡ code_of (Done s) + 65536 * v → Returns l k r l' m' b'
  done_returns s v e =
      let z : r % 256 ≡ 0 = omega arith in
      record {
        answer = rw z;
        status = λ h. absurd (h z);
        state = λ h. absurd (h z);
        memory = λ h. absurd (h z);
        buffer = λ h. absurd (h z);
      }

  -- a call that is refused or held with n
  refused_returns : (n : ℕ) → listed n ≡ true → r ≡ n → l' ≡ l → m' ≡ memory_of k → b' ≡ buffer_refused n k → Returns l k r l' m' b'
  refused_returns n h e i j b =
      let x : n ≤ 15 = leb-true n 15 (and_left (leb n 15) (not (eqb n 14)) h) in
      let z : r % 256 ≡ n = omega arith in
      record {
        answer = rw z h;
        status = λ u. omega arith;
        state = λ u. i;
        memory = λ u. j;
        buffer = λ u. b ∙ buffer_left_lem n (given k).buffer ∙ ap (λ (y : ℕ). buffer_left y k) (sym z);
      }

pub demand1 : Demand1
unfolding Demand1
demand1 l k r l' m' b' x = go (refusal (owed_checks card accepts l k)) refl
  where
    go : (o : Option ℕ) → refusal (owed_checks card accepts l k) ≡ o → Returns l k r l' m' b'
    go none e = done_returns l k r l' m' b' (status_of (card l) k) (value_of (card l) k) (rw e at x.code)
    go (some n) e =
        let d : is_done (owed card accepts l k).answer ≡ false = rw e (answered_not_done n) in
        let i : number (owed card accepts l k).answer ≡ n = rw e (answered_number n) in
        let u = owed_unchanged card accepts l k d in
        refused_returns l k r l' m' b' n (rw i at (owed_listed card accepts l k)) ((rw e at x.code) ∙ add-zero (code_of (answered 0 (some n))) ∙ answered_code n) (x.state ∙ rw e)
        (x.memory ∙ u.memory) (x.buffer ∙ u.buffer ∙ ap (λ (y : ℕ). buffer_refused y k) i)
