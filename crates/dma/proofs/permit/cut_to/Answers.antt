use native.Mathlib.Omega.{arith}
use Rattle.dma.proofs.SgeLaws.{cut_more, cut_done}
use Rattle.dma.proofs.permit.cut_to.Goals as goal

pub loop-s-preserved : goal.loop-s-preserved
loop-s-preserved c =
    let l = c.loop-s in
    cut_more l.sges _ l.s-index l.left c.min-s.result (omega arith) (omega arith) l.invariant

pub returns : goal.returns
returns c = let l = c.loop-s in cut_done l.sges _ l.s-index l.left (omega arith) l.invariant
