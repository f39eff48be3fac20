-- One place and the head are stored, as queue_bytes says; the head was not full.
use mathlib.Core.Path.{ap}
use native.Mathlib.Omega.{arith}
use Rattle.tables.specs.declared.WaitingHead.{WaitingHead}
use Rattle.tables.specs.Queue.{queue_bytes}
use Rattle.tables.proofs.sends.push_send.Goals as goal

pub overflow_add-next : goal.overflow_add-next
overflow_add-next c =
    let e = ap (λ (h : WaitingHead). h.count) c.load_head-h.ensures in
    omega arith

pub returns : goal.returns
unfolding queue_bytes
returns c = cc
