use mathlib.Core.Path.{sym, ◌∙◌}
use mathlib.Core.List.{List}
use Prim.Native.Nat.{ℕ}
use Rattle.tables.proofs.ObjectLaws.{memory_is}
use Rattle.validate.proofs.AcceptedLaws.{accepted_size}
use Rattle.rules.specs.Send.{delivery_checks}
use Rattle.engine.proofs.OwedLaws.{other_memory, bad_record_lem, ran}
use Rattle.engine.proofs.RecordLaws.{posted, long_enough, bounded, delivery_opcode, ran_record}
use Rattle.engine.proofs.send.post_send.Goals as goal

pub returns-then-memory-load_memory : goal.returns-then-memory-load_memory
returns-then-memory-load_memory c =
    let a = c.args in
    let s = c.in-Some.ensures.value in
    let l : List ℕ = c.in-Some.state.now in
    rw (c.into-then-memory-load_memory.ensures, ← s.1)
    (other_memory l a.qpn a.sent.now a.memory.now s.0 (λ z. c.if-memory-load_memory.true (z ∙ memory_is l ∙ sym c.load_memory.ensures)))

pub inline_bytes-requires : goal.inline_bytes-requires
inline_bytes-requires c =
    let x : List ℕ = c.args.sent.now in
    long_enough x (posted x _ (sym c.read_send.ensures ∙ c.in-Ok.is)).good

pub new-r-requires : goal.new-r-requires
new-r-requires c =
    let x : List ℕ = c.args.sent.now in
    let b = bounded x _ (posted x _ (sym c.read_send.ensures ∙ c.in-Ok.is)) in
    record { few = b.plain; short = rw c.inline_bytes.ensures b.short }

pub direct-requires : goal.direct-requires
direct-requires c =
    let s = c.in-Some.ensures.value in
    let b = bounded c.args.sent.now _ (posted _ _ (sym c.read_send.ensures ∙ c.in-Ok.is)) in (
      record { accepted = s.0; size = accepted_size _ s.0; whole = c.if-memory-load_memory.false ∙ c.load_memory.ensures },
      record { plain = c.new-r.result.few; short = c.new-r.result.short; there = rw c.new-r.ensures.same_head b.there },
    )

pub returns-in-Ok : goal.returns-in-Ok
returns-in-Ok c =
    let a = c.args in
    let s = c.in-Some.ensures.value in
    let l : List ℕ = c.in-Some.state.now in
    let m : List ℕ = a.memory.now in
    let x : List ℕ = a.sent.now in
    let v = c.if-memory-load_memory.false ∙ c.load_memory.ensures ∙ sym (memory_is l) in
    let p = posted x _ (sym c.read_send.ensures ∙ c.in-Ok.is) in
    rw (← s.1)
    (ran l a.qpn x m s.0 v p.good _ _ _
    (ran_record delivery_checks delivery_opcode x _ p l a.qpn m _ c.send_sges-sges.ensures _ c.inline_bytes.ensures _ _ _ (rw c.new-r.ensures.asks at c.direct.ensures)))

pub returns-in-Err : goal.returns-in-Err
returns-in-Err c =
    let a = c.args in
    let s = c.in-Some.ensures.value in
    let l : List ℕ = c.in-Some.state.now in
    let v = c.if-memory-load_memory.false ∙ c.load_memory.ensures ∙ sym (memory_is l) in
    rw (c.from.ensures, ← s.1) (bad_record_lem l a.qpn a.sent.now a.memory.now s.0 v _ (sym c.read_send.ensures ∙ c.in-Err.is))
