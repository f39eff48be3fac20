use mathlib.Core.Path.{sym, ◌∙◌}
use Rattle.tables.proofs.ObjectLaws.{memory_is}
use Rattle.queues.proofs.EnqueueLaws.{enqueue_memory, enqueue_bad, read_sent}
use Rattle.queues.proofs.sends.enqueue.Goals as goal

pub returns-then-memory-load_memory : goal.returns-then-memory-load_memory
returns-then-memory-load_memory c =
    let s = c.in-Some.ensures.value in
    let a = c.args in
    let l = c.in-Some.state.now in
    rw (c.into-then-memory-load_memory.ensures, ← s.1)
    (enqueue_memory l a.qpn a.sent.now a.memory.now s.0 (λ z. c.if-memory-load_memory.true (z ∙ memory_is l ∙ sym c.load_memory.ensures)))

pub enqueue_record-requires : goal.enqueue_record-requires
enqueue_record-requires c = (c.in-Some.ensures.value.0, read_sent c.args.sent.now _ (sym c.read_send.ensures ∙ c.in-Ok.is))

pub returns-in-Ok : goal.returns-in-Ok
returns-in-Ok c =
    let s = c.in-Some.ensures.value in
    let whole = c.if-memory-load_memory.false ∙ c.load_memory.ensures ∙ sym (memory_is c.in-Some.state.now) in
    rw (← s.1) (c.enqueue_record.ensures c.args.memory.now whole)

pub returns-in-Err : goal.returns-in-Err
returns-in-Err c =
    let s = c.in-Some.ensures.value in
    let a = c.args in
    let l = c.in-Some.state.now in
    let whole = c.if-memory-load_memory.false ∙ c.load_memory.ensures ∙ sym (memory_is l) in
    rw (c.from.ensures, ← s.1) (enqueue_bad l a.qpn a.sent.now s.0 a.memory.now whole _ (sym c.read_send.ensures ∙ c.in-Err.is))
