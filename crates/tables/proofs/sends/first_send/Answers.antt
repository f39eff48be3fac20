-- The numbers of the copied record, those of the column from there.
use mathlib.Core.Path.{ap}
use native.Mathlib.Omega.{arith}
use Rattle.tables.specs.declared.WaitingHead.{WaitingHead}
use Rattle.tables.proofs.sends.first_send.Goals as goal

pub load_record-requires : goal.load_record-requires
load_record-requires c =
    let e = ap (λ (h : WaitingHead). h.first) c.load_head-h.ensures in
    (omega arith, omega arith)

pub load_kind-k-requires : goal.load_kind-k-requires
load_kind-k-requires c =
    let e = ap (λ (h : WaitingHead). h.first) c.load_head-h.ensures in
    omega arith

pub returns : goal.returns
returns c = (cc, cc)
