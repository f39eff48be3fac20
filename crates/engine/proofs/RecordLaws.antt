-- From a send record to the request that post send hands on: its limits, and that it fares as the rules' request of the record. Assumes nothing.
use mathlib.Core.Path.{◌≡◌, refl, sym, ap, subst, ◌∙◌}
use mathlib.Core.Bool.{Bool, true, false, cond, not, false≢true}
use mathlib.Core.List.{List, [], ◌∷◌}
use mathlib.Core.Option.{Option, none, some}
use Prim.Native.Nat.{ℕ, zero, suc, ◌+◌, ◌*◌, ◌≤◌}
use native.Mathlib.Omega.{arith}
use lib.Dec.{eqb, ltb}
use lib.ListN.{length, take, drop, length-drop}
use lib.Seq.{length-take-le}
use borrow.Author.Tests.{eqb-true, ltb-false, not-false}
use Rattle.wire.specs.Checks.{Check, refusal}
use Rattle.wire.specs.Codec.{decode}
use Rattle.wire.proofs.CheckLaws.{passed}
use Rattle.wire.specs.Rows.{rows_from, rows}
use Rattle.wire.proofs.ScanLaws.{and_off}
use Rattle.tables.specs.Card.{Card}
use Rattle.tables.specs.Limits.{most_sges, most_inline}
use Rattle.tables.specs.Records.{is_signaled, is_inline, inline_length, inline_bytes, inline_in, request_with, send_codec, send_checks, send_sge, send_read}
use Rattle.tables.specs.State.{card}
use Rattle.tables.proofs.ReadingLaws.{inline_length_lem}
use Rattle.std.specs.Prelude.{Ok}
use Rattle.tables.proofs.RefusalLaws.{result_ok}
use Rattle.tables.specs.declared.SendRecord.{SendRecord}
use Rattle.tables.specs.declared.Sge.{Sge}
use Rattle.rules.specs.Bytes.{send_bytes}
use Rattle.rules.specs.Send.{hold_checks, ready_checks, delivery_checks, run_status, send_status, send_puts, send_memory}
use Rattle.rules.specs.Touch.{total, own_bytes, far_bytes, message, delivered}
use Rattle.tables.specs.Records.{Request, request_of}
use Rattle.rules.specs.declared.Answer.{Answer}
use Rattle.delivery.specs.Run.{request_by, Bounded, Carried, ran_bytes, ran_memory, Ran}

-- s begins the send record x, which passes its own tests
pub record Posted (x : List ℕ) (s : SendRecord) : Type 0 where
  pub head : s ≡ decode send_codec x 0
  pub good : refusal (send_checks x) ≡ none

-- the record that was read
pub posted : (x : List ℕ) (s : SendRecord) → send_read x ≡ Ok s → Posted x s
unfolding send_read
posted x s e = let r = result_ok (refusal (send_checks x)) (decode send_codec x 0) s e in record { head = sym r.1; good = r.0 }

-- ---- its limits

exact : (x : List ℕ) (n : ℕ) (b : Bool) → not (eqb (length x) (cond b 576 n)) ≡ false → b ≡ true → length x ≡ 576
exact x n true e i = eqb-true (length x) 576 (not-false (eqb (length x) 576) e)
exact x n false e i = absurd (false≢true i)

pub long_enough : (x : List ℕ) → refusal (send_checks x) ≡ none → 576 ≤ length x
unfolding send_checks
long_enough x g = ltb-false (length x) 576 (passed (send_checks x) g).0

bounds : (x : List ℕ) → refusal (send_checks x) ≡ none → Bounded (decode send_codec x 0) (inline_bytes x)
unfolding send_checks inline_bytes
bounds x g =
    let s : SendRecord = decode send_codec x 0 in
    let p = passed (send_checks x) g in
    record {
      plain = λ i. ltb-false most_sges s.count (and_off (not (is_inline s)) (ltb most_sges s.count) p.1.1.1.1.1.0 (rw i));
      short =
          λ i. (let h : inline_length x ≤ most_inline = ltb-false most_inline (inline_length x) (and_off (is_inline s) (ltb most_inline (inline_length x)) p.1.1.1.1.0 i) in
          let z : length x ≡ 576 = exact x (576 + 16 * s.count) (is_inline s) p.1.1.1.1.1.1.0 i in
          rw (length-take-le (inline_length x) (drop 48 x) (simp length-drop (omega arith))) h);
      there = λ i. and_off (is_inline s) (eqb s.opcode 4) p.1.1.1.0 i;
    }

-- the inline bytes that the reader hands back, by the record's numbers
inline_is : (x : List ℕ) → inline_bytes x ≡ inline_in (decode send_codec x 0) x
unfolding inline_bytes
inline_is x = rw (inline_length_lem x)

-- ---- its entries

take_from : {A : Type 0} (n m k : ℕ) (f : ℕ → A) → n ≤ m → take n (rows_from m k f) ≡ rows_from n k f
unfolding rows_from
take_from zero m k f h = refl
take_from (suc n) zero k f h = absurd (omega arith)
take_from {A} (suc n) (suc m) k f h = ap (λ (l : List A). f k ∷ l) (take_from n m (k + 1) f (omega arith))

entries_are : (x : List ℕ) (n : ℕ) → n ≤ most_sges → take n (rows most_sges (send_sge x)) ≡ rows n (send_sge x)
unfolding rows
entries_are x n h = take_from n most_sges 0 (send_sge x) h

-- ---- the request

-- no rule tells the request r from r'
record Alike (r r' : Request) : Type 0 where
  opcode : r.opcode ≡ r'.opcode
  status : (c : Card) (q : ℕ) → send_status c q r ≡ send_status c q r'
  puts : (c : Card) (q st : ℕ) → send_puts c q r st ≡ send_puts c q r' st
  memory : (c : Card) (q : ℕ) (m : List ℕ) → send_memory c q r m ≡ send_memory c q r' m

module _ (s : SendRecord) where
  -- the request of the head s whose inline flag is y, whose inline bytes are b and whose entries are ps
  abbrev shape : (y : Bool) → (b : List ℕ) → (ps : List Sge) → Request
  shape y b ps =
      record {
        wr = s.wr;
        opcode = s.opcode;
        signaled = is_signaled s;
        inline = y;
        bytes = b;
        imm = s.imm;
        address = s.address;
        key = s.key;
        sges = ps;
      }

  -- they look at no entry of an inline request
  other_entries : (b : List ℕ) (ps ps' : List Sge) → Alike (shape true b ps) (shape true b ps')
  unfolding send_status run_status send_puts send_memory total own_bytes far_bytes message delivered
  other_entries b ps ps' = record { opcode = refl; status = λ c q. refl; puts = λ c q st. refl; memory = λ c q m. refl }

  -- and at no inline byte of another
  other_bytes : (b b' : List ℕ) (ps : List Sge) → Alike (shape false b ps) (shape false b' ps)
  unfolding send_status run_status send_puts send_memory total own_bytes far_bytes message delivered
  other_bytes b b' ps = record { opcode = refl; status = λ c q. refl; puts = λ c q st. refl; memory = λ c q m. refl }

  alike : (y : Bool) (b b' : List ℕ) (ps ps' : List Sge) → (y ≡ true → b ≡ b') → (y ≡ false → ps ≡ ps') → Alike (shape y b ps) (shape y b' ps')
  alike true b b' ps ps' i j = subst (λ (z : List ℕ). Alike (shape true b ps) (shape true z ps')) (i refl) (other_entries b ps ps')
  alike false b b' ps ps' i j = subst (λ (z : List Sge). Alike (shape false b ps) (shape false b' z)) (j refl) (other_bytes b b' ps)

-- the tests look at the opcode alone
pub ByOpcode : (Card → ℕ → Request → List Check) → Type 0
ByOpcode tests = (c : Card) (q : ℕ) (r r' : Request) → r.opcode ≡ r'.opcode → tests c q r ≡ tests c q r'

pub hold_opcode : ByOpcode hold_checks
unfolding ByOpcode hold_checks ready_checks
hold_opcode c q r r' e = rw e

pub delivery_opcode : ByOpcode delivery_checks
unfolding ByOpcode delivery_checks
delivery_opcode c q r r' e = rw (hold_opcode c q r r' e)

-- the state's bytes after two requests that no rule tells apart
same_bytes : (r r' : Request) → Alike r r' → (l : List ℕ) (q : ℕ) → send_bytes l q r ≡ send_bytes l q r'
unfolding send_bytes
same_bytes r r' k l q = rw (k.status (card l) q, k.puts (card l) q (send_status (card l) q r'), k.opcode)

-- the bytes x are a record whose numbers are s: those of a queued record stand elsewhere
module _ (x : List ℕ) (s : SendRecord) (few : is_inline s ≡ false → s.count ≤ most_sges) (sges : List Sge) (i : sges ≡ rows most_sges (send_sge x))
    (b : List ℕ) (j : is_inline s ≡ true → b ≡ inline_in s x) where
  alike_with : Alike (request_by s sges b) (request_with s x)
  alike_with =
      let inline : Bool = is_inline s in
      alike s inline b (cond inline (inline_in s x) []) (take s.count sges) (cond inline [] (rows s.count (send_sge x)))
      (λ h. rw h (j h)) (λ h. rw h (ap (take s.count) i ∙ entries_are x s.count (few h)))

  pub carried_with : (l : List ℕ) (q : ℕ) (m : List ℕ) (st : ℕ) (l' m' : List ℕ) → Carried l q (request_by s sges b) m st l' m' →
      Carried l q (request_with s x) m st l' m'
  carried_with l q m st l' m' w =
      let k = alike_with in
      record {
        status = w.status ∙ k.status (card l) q;
        bytes = w.bytes ∙ same_bytes (request_by s sges b) (request_with s x) k l q;
        memory = w.memory ∙ k.memory (card l) q m;
      }

module _ (tests : Card → ℕ → Request → List Check) (by : ByOpcode tests) where
  ran_alike : (r r' : Request) → Alike r r' → (l : List ℕ) (q : ℕ) (m : List ℕ) (a : Answer) (l' m' : List ℕ) → Ran tests l q r m a l' m' → Ran tests l q r' m a l' m'
  unfolding ByOpcode
  ran_alike r r' k l q m a l' m' w =
      let t : refusal (tests (card l) q r') ≡ refusal (tests (card l) q r) = ap refusal (sym (by (card l) q r r' k.opcode)) in
      let o : Option ℕ = refusal (tests (card l) q r) in
      record {
        answer = rw (t, sym (k.status (card l) q)) w.answer;
        bytes = rw t (w.bytes ∙ bytes o);
        memory = rw t (w.memory ∙ memory o);
      }
    where
      bytes : (o : Option ℕ) → ran_bytes o l q r ≡ ran_bytes o l q r'
      bytes none = same_bytes r r' k l q
      bytes (some n) = refl

      memory : (o : Option ℕ) → ran_memory o l q r m ≡ ran_memory o l q r' m
      memory none = k.memory (card l) q m
      memory (some n) = refl

  module _ (x : List ℕ) (s : SendRecord) (p : Posted x s) where
    pub ran_record : (l : List ℕ) (q : ℕ) (m : List ℕ) (sges : List Sge) → sges ≡ rows most_sges (send_sge x) → (b : List ℕ) → b ≡ inline_bytes x →
        (a : Answer) (l' m' : List ℕ) → Ran tests l q (request_by s sges b) m a l' m' → Ran tests l q (request_of x) m a l' m'
    unfolding request_of
    ran_record l q m sges i b j a l' m' w =
        subst (λ (y : SendRecord). Ran tests l q (request_with y x) m a l' m') p.head
        (ran_alike (request_by s sges b) (request_with s x)
        (alike_with x s (rw p.head (bounds x p.good).plain) sges i b (λ h. j ∙ inline_is x ∙ ap (λ (y : SendRecord). inline_in y x) (sym p.head)))
        l q m a l' m' w)

module _ (x : List ℕ) (s : SendRecord) (p : Posted x s) where
  pub bounded : Bounded s (inline_bytes x)
  bounded = subst (λ (y : SendRecord). Bounded y (inline_bytes x)) (sym p.head) (bounds x p.good)
