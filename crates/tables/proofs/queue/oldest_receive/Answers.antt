use mathlib.Core.Path.{ap}
use native.Mathlib.Omega.{arith}
use Rattle.tables.specs.declared.WaitingHead.{WaitingHead}
use Rattle.tables.proofs.queue.oldest_receive.Goals as goal

pub load_receive-requires : goal.load_receive-requires
load_receive-requires c =
    let e = ap (λ (h : WaitingHead). h.first) c.load_head-h.ensures in
    omega arith

pub returns : goal.returns
returns c = cc
