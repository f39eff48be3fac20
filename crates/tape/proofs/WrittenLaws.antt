-- Answer records written: what stands in the buffer, and how many bytes a call wrote. Assumes nothing.
use mathlib.Core.Path.{◌≡◌, refl, sym, ap, ap₂, ◌∙◌}
use mathlib.Core.Logic.{⊎_elim, inl, inr}
use mathlib.Core.Bool.{Bool, true, false, cond, not, ◌&&◌, true≢false}
use mathlib.Core.List.{List, [], ◌∷◌, ◌++◌}
use mathlib.Core.Option.{Option, none, some}
use Prim.Native.Nat.{ℕ, ◌+◌, ◌≤◌}
use native.Mathlib.Omega.{arith}
use lib.Dec.{eqb}
use lib.ListN.{length, take, drop, length-append}
use lib.Seq.{paste, take-length, drop-append-add, drop-drop}
use borrow.Author.Tests.{ltb-false, ne_eqb}
use types.Run.{OneOf}
use Rattle.wire.specs.Checks.{Check, refusal}
use Rattle.wire.proofs.CheckLaws.{passed}
use Rattle.wire.specs.Codec.{decode}
use Rattle.wire.specs.Le.{le_at}
use Rattle.validate.specs.Accept.{accepts, memory_ok}
use Rattle.tables.specs.Card.{Card}
use Rattle.tables.specs.State.{card}
use Rattle.tables.specs.declared.CreateQp.{CreateQp}
use Rattle.tables.specs.declared.ModifyQp.{ModifyQp}
use Rattle.tables.specs.declared.Registration.{Registration}
use Rattle.tables.specs.Commands.{ack_size, Command, number_codec, register_codec, create_qp_codec, modify_qp_codec, command_of}
use Rattle.tables.specs.Layout.{state_size}
use Rattle.tables.specs.Reset.{reset_bytes}
use Rattle.rules.specs.Answer.{is_done}
use Rattle.rules.specs.Call.{Call}
use Rattle.rules.specs.Calls.{checks, reset_checks, control_checks, owed_checks, settled}
use Rattle.rules.specs.Control.{command_ack, command_checks}
use Rattle.rules.specs.Lists.{maybe}
use Rattle.rules.specs.declared.Answer.{Answer}
use Rattle.rules.proofs.Answers.{answered_not_done}
use Rattle.rules.proofs.Tests.{passed_before}
use Rattle.rules.specs.Bytes.{effect_bytes}
use Rattle.rules.specs.Contract.{Owes, bytes_by}
use Rattle.tape.specs.Tape.{answer_head, answer_record, answer_to, written_by}
use Rattle.tape.specs.Inside.{placed, Answers, resets}

-- the head, then the bytes behind it
module _ (r : Answer) (b : List ℕ) where
  pub record_size_lem : 6 + length b ≡ length (answer_record r b)
  unfolding answer_record
  record_size_lem =
      let f : length (answer_head r (length b) ++ b) ≡ 6 + length b = length-append (answer_head r (length b)) b in
      omega arith

  pub record_placed : (out : List ℕ) → paste (answer_head r (length b) ++ drop 6 out) 6 b (length b) ≡ placed (answer_record r b) out
  unfolding answer_record
  record_placed out =
      let s : 6 + length b ≡ length (answer_record r b) = record_size_lem in
      let d : drop (6 + length b) (answer_head r (length b) ++ drop 6 out) ≡ drop (length b) (drop 6 out) =
      drop-append-add (answer_head r (length b)) (drop 6 out) (length b) in
      let f : drop (length b) (drop 6 out) ≡ drop (6 + length b) out = drop-drop (length b) 6 out in
      ap₂ (λ (x t : List ℕ). answer_head r (length b) ++ x ++ t) (take-length b) (d ∙ f ∙ ap (λ (k : ℕ). drop k out) s)

-- ---- the size of an ack

abbrev size_of : Card → Option Command → ℕ
size_of c o = maybe 1 (λ q. ack_size (command_ack c q)) o

picked : (c : Card) (n : ℕ) (g : Registration) (p : CreateQp) (t : ModifyQp) (b0 b1 b2 b3 b4 b5 b7 b8 b9 b10 b12 : Bool) →
    (cond b0 129 (cond b1 33 (cond b2 5 (cond b3 1 (cond b4 5 (cond b5 1 (cond b7 13 (cond b8 1 (cond b9 5 1))))))))) ≡
    size_of c
    (cond b0 (some Command.query_device) (cond b1 (some Command.query_port)
    (cond b2 (some (Command.create_cq n)) (cond b3 (some (Command.destroy_cq n)) (cond b4 (some Command.create_pd) (cond b5 (some (Command.destroy_pd n))
    (cond b7 (some (Command.register g)) (cond b8 (some (Command.deregister n)) (cond b9 (some (Command.create_qp p))
    (cond b10 (some (Command.modify_qp t)) (cond b12 (some (Command.destroy_qp n)) none)))))))))))
unfolding command_ack
picked c n g p t true b1 b2 b3 b4 b5 b7 b8 b9 b10 b12 = refl
picked c n g p t false true b2 b3 b4 b5 b7 b8 b9 b10 b12 = refl
picked c n g p t false false true b3 b4 b5 b7 b8 b9 b10 b12 = refl
picked c n g p t false false false true b4 b5 b7 b8 b9 b10 b12 = refl
picked c n g p t false false false false true b5 b7 b8 b9 b10 b12 = refl
picked c n g p t false false false false false true b7 b8 b9 b10 b12 = refl
picked c n g p t false false false false false false true b8 b9 b10 b12 = refl
picked c n g p t false false false false false false false true b9 b10 b12 = refl
picked c n g p t false false false false false false false false true b10 b12 = refl
picked c n g p t false false false false false false false false false true b12 = refl
picked c n g p t false false false false false false false false false false true = refl
picked c n g p t false false false false false false false false false false false = refl

-- each command's ack, by the command byte
abbrev pub size_by : ℕ → ℕ
size_by n =
    cond (eqb n 0) 129
    (cond (eqb n 1) 33
    (cond (eqb n 2) 5 (cond (eqb n 3) 1 (cond (eqb n 4) 5 (cond (eqb n 5) 1 (cond (eqb n 7) 13 (cond (eqb n 8) 1 (cond (eqb n 9) 5 1))))))))

pub ack_size_lem : (c : Card) (k : List ℕ) → size_by (le_at 1 k 1) ≡ size_of c (command_of k)
unfolding command_of
ack_size_lem c k =
    let n = le_at 1 k 1 in
    picked c (decode number_codec k 2) (decode register_codec k 2) (decode create_qp_codec k 2) (decode modify_qp_codec k 2)
    (eqb n 0) (eqb n 1) (eqb n 2) (eqb n 3) (eqb n 4) (eqb n 5) (eqb n 7) (eqb n 8) (eqb n 9) (eqb n 10) (eqb n 12)

same : (x y z : Bool) → ◌≡◌ {A = ℕ} 1 (cond x 1 (cond y 1 (cond z 1 1)))
same true y z = refl
same false true z = refl
same false false true = refl
same false false false = refl

module _ (c : Card) (k : List ℕ) (n : ℕ) (byte : n ≡ le_at 1 k 1) where
  sized : size_by n ≡ size_of c (command_of k)
  sized = ap (λ (x : ℕ). size_by x) byte ∙ ack_size_lem c k

  -- what a query reports
  pub ack_device : n ≡ 0 → 129 ≡ size_of c (command_of k)
  ack_device e = rw e at sized

  pub ack_port : n ≡ 1 → 33 ≡ size_of c (command_of k)
  ack_port e = rw e at sized

  -- a registration's number and keys
  pub ack_keys : n ≡ 7 → 13 ≡ size_of c (command_of k)
  ack_keys e = rw e at sized

  -- one number
  pub ack_number : OneOf (2 ∷ 4 ∷ 9 ∷ []) n → 5 ≡ size_of c (command_of k)
  ack_number h = ⊎_elim (λ e. rw e at sized) (⊎_elim (λ e. rw e at sized) (λ e. rw e at sized)) h

  -- the ack byte alone
  pub ack_bare : (n ≡ 0 → ⊥) → (n ≡ 1 → ⊥) → (n ≡ 7 → ⊥) → (OneOf (2 ∷ 4 ∷ 9 ∷ []) n → ⊥) → 1 ≡ size_of c (command_of k)
  ack_bare x y a b =
      let e : 1 ≡ size_by n =
      rw (ne_eqb n 0 x, ne_eqb n 1 y, ne_eqb n 2 (λ x. b (inl x)), ne_eqb n 4 (λ x. b (inr (inl x))), ne_eqb n 7 a, ne_eqb n 9 (λ x. b (inr (inr x))))
      (same (eqb n 3) (eqb n 5) (eqb n 8)) in
      e ∙ sized

-- a command answered 0 has its class and command bytes
pub done_two : {l k a : List ℕ} {r : Answer} {l' m' b' : List ℕ} → Owes l (Call.control k a) r l' m' b' → is_done r ≡ true → 2 ≤ length k
unfolding checks control_checks
done_two {l} {k} {a} {r} o d = by (refusal cs) refl
  where
    call : Call
    call = Call.control k a

    cs : List Check
    cs = owed_checks card accepts l call

    by : (x : Option ℕ) → refusal cs ≡ x → 2 ≤ length k
    by none e = ltb-false (length k) 2 (passed_before (control_checks k a) (maybe [] (command_checks (card l)) (command_of k)) (passed cs e).1).1.0
    by (some n) e = absurd (true≢false (sym d ∙ ap is_done o.meets.answer ∙ ap (λ (x : Option ℕ). is_done (settled x (card l) call).answer) e ∙ answered_not_done n))

-- ---- from what a call owes to its answer record

pub answers : {l l' m' b' out out' : List ℕ} {k : Call} {r : Answer} {s : ℕ} → Owes l k r l' m' b' → (n : ℕ) → n ≡ written_by r (card l) k
    → s ≡ length (answer_record r (take n b')) → out' ≡ placed (answer_record r (take n b')) out → Answers k l out s l' out'
unfolding answer_to
answers {l} {l'} {m'} {b'} {out} {out'} {k} {r} o n w size bytes =
    let e : answer_record r (take n b') ≡ answer_to l k = rw (w, o.meets.answer, o.meets.buffer) in
    record { count = size ∙ ap length e; bytes = bytes ∙ ap (λ (x : List ℕ). placed x out) e; state = o.bytes }

-- ---- the reset of a tape

module _ (l : List ℕ) (n : ℕ) where
  bytes_by_lem : (sized fits : Bool) → bytes_by (cond (not sized) (some 15) (cond (not fits) (some 11) none)) l (Call.reset n) ≡ cond (sized && fits) (reset_bytes n) l
  unfolding effect_bytes
  bytes_by_lem true true = refl
  bytes_by_lem true false = refl
  bytes_by_lem false fits = refl

  done_by : (sized fits : Bool) → is_done (settled (cond (not sized) (some 15) (cond (not fits) (some 11) none)) (card l) (Call.reset n)).answer ≡ (sized && fits)
  done_by true true = refl
  done_by true false = refl
  done_by false fits = refl

  module _ {r : Answer} {l' : List ℕ} (o : Owes l (Call.reset n) r l' [] []) where
    pub started_answer : is_done r ≡ resets l n
    unfolding checks reset_checks
    started_answer = ap is_done o.meets.answer ∙ done_by (eqb (length l) state_size) (memory_ok n)

    pub started_bytes : l' ≡ cond (resets l n) (reset_bytes n) l
    unfolding checks reset_checks
    started_bytes = o.bytes ∙ bytes_by_lem (eqb (length l) state_size) (memory_ok n)
