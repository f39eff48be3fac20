-- What a public call owes, by its tests: one that is refused or held, one that is done, and the same call from C. Assumes nothing.
use mathlib.Core.Path.{◌≡◌, refl, sym, ap, ap₂, ◌∙◌}
use mathlib.Core.Bool.{false, true≢false}
use mathlib.Core.List.{List}
use mathlib.Core.Option.{Option, none, some}
use Prim.Native.Nat.{ℕ, ◌+◌, ◌*◌}
use native.Mathlib.Nat.{add-zero}
use Rattle.wire.specs.Checks.{refusal}
use Rattle.validate.specs.Accept.{accepts}
use Rattle.validate.proofs.AcceptedLaws.{Accepted, accepting}
use Rattle.tables.specs.State.{card}
use Rattle.rules.specs.Answer.{answered, code_of, is_done}
use Rattle.rules.specs.Call.{Call, Outcome, given, memory_of, leaving}
use Rattle.rules.specs.Calls.{owed_checks, owed, settled, status_of, value_of, effect, memory_after, buffer_after, buffer_refused, Meets}
use Rattle.rules.specs.declared.Answer.{Answer}
use Rattle.rules.specs.declared.Answer.TheVariants.{Done}
use Rattle.rules.proofs.Meeting.{doing, is_turn, no_value, refused_meets, done_meets}
use Rattle.rules.specs.Bytes.{effect_bytes}
use Rattle.rules.specs.Contract.{bytes_by, bytes_after, OwesAll, Owes, Exports}

module _ (l : List ℕ) (k : Call) where
  pub refused_owes : (n : ℕ) → refusal (owed_checks card accepts l k) ≡ some n → Owes l k (answered 0 (some n)) l (memory_of k) (buffer_refused n k)
  refused_owes n e = record { meets = refused_meets card accepts l k n e; bytes = rw e }

  -- the bytes mean the card after the call, and the next call accepts them
  pub done_all : refusal (owed_checks card accepts l k) ≡ none → card (effect_bytes l k) ≡ effect (card l) k → Accepted (effect_bytes l k)
      → (l' : List ℕ) → l' ≡ effect_bytes l k → OwesAll l k (doing (card l) k l')
  done_all e c a l' b =
      record { meets = done_meets card accepts l k e l' (ap card b ∙ c) (ap accepts b ∙ accepting (effect_bytes l k) a); bytes = rw e b }

  -- of a call that returns nothing beside its answer
  pub done_owes : is_turn (given k).pair ≡ false → refusal (owed_checks card accepts l k) ≡ none → card (effect_bytes l k) ≡ effect (card l) k
      → Accepted (effect_bytes l k) → (l' : List ℕ) → l' ≡ effect_bytes l k →
      Owes l k (Done (status_of (card l) k)) l' (memory_after (card l) k) (buffer_after (card l) k)
  done_owes n e c a l' b =
      let v : value_of (card l) k ≡ 0 = no_value (card l) k n in
      rw v at (done_all e c a l' b)

  pub exported_all : (o : Outcome) → OwesAll l k o → Exports l k (code_of o.answer + 65536 * o.value) o.state o.memory o.buffer
  exported_all o w =
      let m = w.meets in
      record {
        code = ap₂ (λ (a : Answer) (v : ℕ). code_of a + 65536 * v) m.answer m.value;
        state = w.bytes;
        tables = m.card;
        memory = m.memory;
        buffer = m.buffer;
        sound = λ d. m.sound (ap is_done m.answer ∙ d);
      }

  pub exported : (r : Answer) (l' m' b' : List ℕ) → Owes l k r l' m' b' → Exports l k (code_of r) l' m' b'
  exported r l' m' b' o =
      let m = o.meets in
      record {
        code = sym (add-zero (code_of r)) ∙ (exported_all (leaving r l' m' b') o).code;
        state = o.bytes;
        tables = m.card;
        memory = m.memory;
        buffer = m.buffer;
        sound = λ d. m.sound (ap is_done m.answer ∙ d);
      }

  bytes_left : is_done (owed card accepts l k).answer ≡ false → bytes_after l k ≡ l
  bytes_left = go (refusal (owed_checks card accepts l k))
    where
      go : (o : Option ℕ) → is_done (settled o (card l) k).answer ≡ false → bytes_by o l k ≡ l
      go none d = absurd (true≢false d)
      go (some n) d = refl

  -- a call from C met the contract, with the answer that it owes
  pub met : {r : ℕ} {l' m' b' : List ℕ} → Exports l k r l' m' b' →
      Meets card accepts l k
      (record { answer = (owed card accepts l k).answer; value = (owed card accepts l k).value; state = l'; memory = m'; buffer = b' })
  met x =
      record { answer = refl; value = refl; card = x.tables; memory = x.memory; buffer = x.buffer; kept = λ d. x.state ∙ bytes_left d; sound = x.sound }
