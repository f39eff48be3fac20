-- The bounds of a record: a header is in its first six bytes, a body has at most 640, an answer record at most 135. Assumes nothing.
use mathlib.Core.Path.{◌≡◌, refl, sym, ap, ◌∙◌}
use mathlib.Core.Bool.{Bool, true, false, cond, ◌&&◌, ◌||◌}
use mathlib.Core.List.{List}
use mathlib.Core.Option.{Option, none, some}
use Prim.Native.Nat.{ℕ, ◌+◌, min, ◌≤◌}
use native.Mathlib.Decide.{dec_lt}
use native.Mathlib.Omega.{arith}
use lib.Dec.{eqb, ltb}
use lib.ListN.{length, take, length-take, length-append}
use lib.Seq.{get_or-take}
use borrow.Author.Tests.{le-ltb, lt-ltb, leb-true, eqb-true}
use Rattle.wire.specs.Le.{le_at}
use Rattle.wire.proofs.LeLaws.{le_at_same}
use Rattle.wire.proofs.ScanLaws.{and_right}
use Rattle.validate.specs.Accept.{accepts}
use Rattle.tables.specs.Card.{Card}
use Rattle.tables.specs.State.{card}
use Rattle.tables.specs.Commands.{Command, ack_size}
use Rattle.rules.specs.Answer.{is_done}
use Rattle.rules.specs.Call.{Call, Buffer, given}
use Rattle.rules.specs.Calls.{Result as Calls·Result, owed}
use Rattle.rules.specs.Control.{command_ack}
use Rattle.rules.specs.Lists.{maybe}
use Rattle.rules.specs.declared.Answer.{Answer}
use Rattle.rules.specs.declared.Answer.TheVariants.{Done, Held, Refused}
use Rattle.std.specs.Prelude.{Ok, Err}
use Rattle.tape.specs.declared.HeaderError.{HeaderError}
use Rattle.tape.specs.declared.Kind.{Kind}
use Rattle.tape.specs.declared.Header.{Header}
use Rattle.tape.specs.Tape.{is_mark, is_kind, kind_of, is_good, is_length, header_at, ack_written_by, written_in, written_by, answer_head, answer_record, header_of, answer_to}

-- ---- a header is in its first six bytes

module _ (i : List ℕ) where
  front : (w at : ℕ) → at + w ≤ 6 → le_at w (take 6 i) at ≡ le_at w i at
  front w at h = le_at_same w (take 6 i) i at (λ j a b. get_or-take 6 i j 0 (omega arith))

  pub header_front : header_of (take 6 i) ≡ header_of i
  unfolding header_of
  header_front =
      let n : length (take 6 i) ≡ min 6 (length i) = length-take 6 i in
      let e : ltb (length (take 6 i)) 6 ≡ ltb (length i) 6 =
      elim (dec_lt (length i) 6) [
        | yes h ↦ lt-ltb (length (take 6 i)) 6 (omega arith) ∙ sym (lt-ltb (length i) 6 h)
        | no h ↦ le-ltb (length (take 6 i)) 6 (omega arith) ∙ sym (le-ltb (length i) 6 (omega arith))
      ] in
      rw (e, front 1 0 (omega arith), front 1 1 (omega arith), front 1 2 (omega arith), front 1 3 (omega arith), front 2 4 (omega arith))

-- ---- a record's body has at most 640 bytes

taken : (a g : Bool) (r : Header) {r' : Header} → cond a (Err HeaderError.Cut) (cond g (Ok r) (Err HeaderError.Bad)) ≡ Ok r' → (g ≡ true) × (r ≡ r')
taken true g r e = absurd cc
taken false true r e = (refl, cc)
taken false false r e = absurd cc

length_most : (k : Kind) (n : ℕ) → is_length k n ≡ true → n ≤ 640
length_most Kind.Control n h = leb-true n 640 h
length_most Kind.Send n h = leb-true n 640 h
length_most Kind.Receive n h = leb-true n 640 h
length_most Kind.Poll n h = let z = eqb-true n 0 h in omega arith
length_most Kind.Flush n h = let z = eqb-true n 0 h in omega arith

pub body_most : (i : List ℕ) {r : Header} → header_of i ≡ Ok r → r.length ≤ 640
unfolding header_of
body_most i {r} e =
    let t : (is_good i ≡ true) × (header_at i ≡ r) = taken (ltb (length i) 6) (is_good i) (header_at i) e in
    let m : le_at 2 i 4 ≤ 640 = length_most (kind_of (le_at 1 i 2)) _ (and_right (is_mark i && is_kind (le_at 1 i 2)) _ t.0) in
    let s : le_at 2 i 4 ≡ r.length = ap (λ (x : Header). x.length) t.1 in
    omega arith

-- ---- an answer record has at most 135 bytes

size_most : (c : Card) (q : Command) → ack_size (command_ack c q) ≤ 129
unfolding command_ack
size_most c Command.query_device = omega arith
size_most c Command.query_port = omega arith
size_most c (Command.create_cq n) = omega arith
size_most c (Command.destroy_cq n) = omega arith
size_most c Command.create_pd = omega arith
size_most c (Command.destroy_pd n) = omega arith
size_most c (Command.register g) = omega arith
size_most c (Command.deregister n) = omega arith
size_most c (Command.create_qp r) = omega arith
size_most c (Command.modify_qp r) = omega arith
size_most c (Command.destroy_qp q) = omega arith

some_most : (c : Card) (o : Option Command) → maybe 1 (λ q. ack_size (command_ack c q)) o ≤ 129
some_most c none = omega arith
some_most c (some q) = size_most c q

picked_most : (b : Bool) {x y most : ℕ} → x ≤ most → y ≤ most → cond b x y ≤ most
picked_most true p q = p
picked_most false p q = q

ack_most : (r : Answer) (c : Card) (o : Option Command) → ack_written_by r c o ≤ 129
ack_most (Done s) c o = some_most c o
ack_most (Held x) c o = omega arith
ack_most (Refused n) c o = picked_most (eqb n 12 || eqb n 15) (omega arith) (omega arith)

written_most : (r : Answer) (c : Card) (o : Option Command) (b : Buffer) → written_in r c o b ≤ 129
written_most r c o Buffer.no_buffer = omega arith
written_most r c o (Buffer.for_ack a) = ack_most r c o
written_most r c o (Buffer.for_completion b) = picked_most (is_done r) (omega arith) (omega arith)

pub answer_most : (l : List ℕ) (k : Call) → length (answer_to l k) ≤ 135
unfolding answer_to answer_record
answer_most l k =
    let o : Calls·Result = owed card accepts l k in
    let n : ℕ = written_by o.answer (card l) k in
    let w : n ≤ 129 = written_most o.answer (card l) (given k).command (given k).buffer in
    let t : length (take n o.buffer) ≡ min n (length o.buffer) = length-take n o.buffer in
    let e : length (answer_to l k) ≡ 6 + length (take n o.buffer) = length-append (answer_head o.answer (length (take n o.buffer))) (take n o.buffer) in
    omega arith
