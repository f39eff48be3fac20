use Rattle.tables.specs.Reset.{reset_bytes}
use Rattle.tables.proofs.reset.reset.Goals as goal

pub returns : goal.returns
unfolding reset_bytes
returns c = (cc)
