use mathlib.Core.Path.{◌∙◌}
use native.Mathlib.Omega.{arith}
use lib.ListN.{get_or, drop}
use Prim.Native.Nat.{◌+◌}
use Rattle.tables.specs.State.{card}
use Rattle.tables.specs.Records.{no_sge}
use Rattle.dma.proofs.MoveLaws.{Turn, turn, scattered, scatter_more}
use Rattle.dma.proofs.transfer.scatter.Goals as goal

pub copy_in-requires : goal.copy_in-requires
copy_in-requires c =
    let l = c.loop-s in
    let w : Turn (card c.args.state.now) c.args.sges.now l.s-index l.at = turn (card c.args.state.now) c.args.sges.now l.s-index l.at l.invariant.0 (omega arith) in
    record {
      ready = record { accepted = c.requires.ready.accepted; size = c.requires.ready.size; whole = l.invariant.1 ∙ c.requires.ready.whole };
      s_value = (w.maps, omega (arith, w.fits), omega (arith, w.fits));
    }

pub loop-s-preserved : goal.loop-s-preserved
loop-s-preserved c =
    let l = c.loop-s in
    let w : Turn (card c.args.state.now) c.args.sges.now l.s-index l.at = turn (card c.args.state.now) c.args.sges.now l.s-index l.at l.invariant.0 (omega arith) in (
      w.next,
      c.copy_in.auto.memory ∙ l.invariant.1,
      scatter_more (card c.args.state.now) l.memory (get_or c.args.sges.now l.s-index no_sge) _ c.args.staging.now l.at
          (drop (l.s-index + 1) c.args.sges.now) _ (omega arith) c.copy_in.ensures (rw w.cons at l.invariant.2),
    )

pub returns : goal.returns
returns c =
    let l = c.loop-s in
    scattered (card c.args.state.now) l.memory c.args.sges.now l.s-index (omega arith) _ (drop l.at c.args.staging.now) l.invariant.2
