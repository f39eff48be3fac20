-- No call depends on what memory holds. Assumes nothing.
use mathlib.Core.Path.{◌≡◌, refl, sym, ◌∙◌}
use mathlib.Core.List.{List}
use mathlib.Core.Option.{Option, none, some}
use Prim.Native.Nat.{ℕ, ◌+◌, ◌*◌}
use lib.ListN.{length}
use Rattle.wire.specs.Checks.{refusal}
use Rattle.validate.specs.Accept.{accepts}
use Rattle.tables.specs.State.{card}
use Rattle.rules.specs.Answer.{code_of}
use Rattle.rules.specs.Bytes.{effect_bytes}
use Rattle.rules.specs.Call.{Call, memory_of}
use Rattle.rules.specs.Calls.{checks, memory_checks, status_of, value_of, buffer_after, buffer_refused, settled, owed_checks, usable}
use Rattle.rules.specs.Contract.{bytes_by}
use Rattle.rules.specs.Replay.{lending, Alike, Replays}

-- two calls that differ in nothing but the memory's bytes
record Blind (l : List ℕ) (k k' : Call) : Type 0 where
  usable : usable card accepts l k' ≡ usable card accepts l k
  checks : checks (card l) k' ≡ checks (card l) k
  status : status_of (card l) k' ≡ status_of (card l) k
  value : value_of (card l) k' ≡ value_of (card l) k
  bytes : effect_bytes l k' ≡ effect_bytes l k
  buffer : buffer_after (card l) k' ≡ buffer_after (card l) k
  refused : (n : ℕ) → buffer_refused n k' ≡ buffer_refused n k

no_memory : (l : List ℕ) (k : Call) → Blind l k k
no_memory l k = record { usable = refl; checks = refl; status = refl; value = refl; bytes = refl; buffer = refl; refused = λ n. refl }

blind : (m l : List ℕ) (k : Call) → length m ≡ length (memory_of k) → Blind l k (lending m k)
unfolding checks memory_checks status_of value_of effect_bytes buffer_after
blind m l (Call.reset n) e = no_memory l (Call.reset n)
blind m l (Call.control k a) e = no_memory l (Call.control k a)
blind m l (Call.register_pages k ps a) e = no_memory l (Call.register_pages k ps a)
blind m l (Call.send q x m₀) e =
    record { usable = refl; checks = rw e; status = refl; value = refl; bytes = refl; buffer = refl; refused = λ n. refl }
blind m l (Call.receive q x) e = no_memory l (Call.receive q x)
blind m l (Call.flush q) e = no_memory l (Call.flush q)
blind m l (Call.enqueue q x m₀) e =
    record { usable = refl; checks = rw e; status = refl; value = refl; bytes = refl; buffer = refl; refused = λ n. refl }
blind m l (Call.turn m₀) e =
    record { usable = refl; checks = rw e; status = refl; value = refl; bytes = refl; buffer = refl; refused = λ n. refl }
blind m l (Call.poll n b) e = no_memory l (Call.poll n b)

-- what both owe
same_owed : (l : List ℕ) (k k' : Call) → Blind l k k' → (o : Option ℕ) →
    Alike (code_of (settled o (card l) k).answer + 65536 * (settled o (card l) k).value)
    (code_of (settled o (card l) k').answer + 65536 * (settled o (card l) k').value) (bytes_by o l k) (bytes_by o l k')
    (settled o (card l) k).buffer (settled o (card l) k').buffer
same_owed l k k' h none = record { result = rw (h.status, h.value); state = rw h.bytes; buffer = rw h.buffer }
same_owed l k k' h (some n) = record { result = refl; state = refl; buffer = rw (h.refused n) }

pub replays : Replays
unfolding Replays
replays l k m e r r' l₁ l₂ m₁ m₂ b₁ b₂ x y =
    let h = blind m l k e in
    let a = same_owed l k (lending m k) h (refusal (owed_checks card accepts l k)) in
    let s : refusal (owed_checks card accepts l (lending m k)) ≡ refusal (owed_checks card accepts l k) = rw (h.usable, h.checks) in
    record {
      result = x.code ∙ a.result ∙ sym (rw s at y.code);
      state = x.state ∙ a.state ∙ sym (rw s at y.state);
      buffer = x.buffer ∙ a.buffer ∙ sym (rw s at y.buffer);
    }
