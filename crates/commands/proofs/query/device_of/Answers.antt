use Rattle.tables.proofs.ObjectLaws.{memory_is}
use Rattle.rules.specs.Control.{device_of}
use Rattle.commands.proofs.query.device_of.Goals as goal

pub returns : goal.returns
unfolding device_of
returns c = rw (memory_is, c.load_memory.ensures)
