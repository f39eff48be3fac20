use Rattle.tables.specs.State.{card}
use Rattle.dma.proofs.MoveLaws.{transferred}
use Rattle.dma.proofs.transfer.transfer_many.Goals as goal

pub returns : goal.returns
returns c =
    transferred (card c.args.state.now) c.args.memory.now _ _ c.args.to.now c.scatter.ensures c.args.from.now c.requires.message.total c.gather.ensures
