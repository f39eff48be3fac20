use Rattle.rules.proofs.Exported.{exported}
use Rattle.engine.proofs.lesungkap_control.Goals as goal

pub returns : goal.returns
returns c = rw c.from.ensures (exported _ _ _ _ _ _ c.control.ensures)
