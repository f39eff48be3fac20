use Rattle.rules.proofs.Exported.{exported}
use Rattle.engine.proofs.lesungkap_post_receive.Goals as goal

pub returns : goal.returns
returns c = rw c.from.ensures (exported _ _ _ _ _ _ c.post_receive.ensures)
