use mathlib.Core.Path.{ap}
use mathlib.Core.Bool.{not}
use lib.Dec.{eqb}
use Rattle.tables.specs.declared.WaitingHead.{WaitingHead}
use Rattle.engine.proofs.send.is_queued.Goals as goal

pub returns : goal.returns
returns c = ap (λ (h : WaitingHead). not (eqb h.count 0)) c.load_head-h.ensures
