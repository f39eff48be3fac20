-- The column's row of the oldest place.
use mathlib.Core.Path.{ap}
use native.Mathlib.Omega.{arith}
use Rattle.tables.specs.declared.WaitingHead.{WaitingHead}
use Rattle.tables.proofs.sends.first_opcode.Goals as goal

pub load_kind-k-requires : goal.load_kind-k-requires
load_kind-k-requires c =
    let e = ap (λ (h : WaitingHead). h.first) c.load_head-h.ensures in
    omega arith

pub returns : goal.returns
returns c = cc
