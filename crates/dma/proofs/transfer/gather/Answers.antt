use mathlib.Core.Path.{◌∙◌}
use native.Mathlib.Omega.{arith}
use lib.ListN.{get_or, drop}
use Prim.Native.Nat.{◌+◌}
use Rattle.tables.specs.State.{card}
use Rattle.tables.specs.Records.{no_sge}
use Rattle.dma.proofs.MoveLaws.{Turn, turn, gathered, gather_more}
use Rattle.dma.proofs.transfer.gather.Goals as goal

pub copy_out-requires : goal.copy_out-requires
copy_out-requires c =
    let l = c.loop-s in
    let w : Turn (card c.args.state.now) c.args.sges.now l.s-index l.at = turn (card c.args.state.now) c.args.sges.now l.s-index l.at l.invariant.0 (omega arith) in
    record { ready = c.requires.ready; s_value = (w.maps, omega (arith, w.fits), omega (arith, w.fits)) }

pub loop-s-preserved : goal.loop-s-preserved
loop-s-preserved c =
    let l = c.loop-s in
    let w : Turn (card c.args.state.now) c.args.sges.now l.s-index l.at = turn (card c.args.state.now) c.args.sges.now l.s-index l.at l.invariant.0 (omega arith) in (
      w.next,
      c.copy_out.auto.staging ∙ l.invariant.1,
      gather_more (card c.args.state.now) c.args.memory.now (get_or c.args.sges.now l.s-index no_sge) l.staging _ l.at
          (drop (l.s-index + 1) c.args.sges.now) _ c.copy_out.ensures (rw w.cons at l.invariant.2),
    )

pub returns : goal.returns
returns c =
    let l = c.loop-s in
    gathered (card c.args.state.now) c.args.memory.now c.args.sges.now l.s-index (omega arith) l.at l.staging l.invariant.0.sum l.invariant.2
