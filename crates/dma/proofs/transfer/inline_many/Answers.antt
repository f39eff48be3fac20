use Rattle.tables.specs.State.{card}
use Rattle.dma.proofs.MoveLaws.{inlined}
use Rattle.dma.proofs.transfer.inline_many.Goals as goal

pub returns : goal.returns
returns c =
    inlined (card c.args.state.now) c.args.memory.now _ _ c.args.to.now c.scatter.ensures _ c.args.bytes.now c.requires.total.0 c.copy_bytes.ensures
