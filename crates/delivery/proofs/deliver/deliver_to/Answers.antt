use mathlib.Core.Path.{sym, ◌∙◌}
use Rattle.delivery.proofs.StatusLaws.{carries}
use Rattle.delivery.proofs.deliver.deliver_to.Goals as goal

pub move_bytes-requires-clause-carries : goal.move_bytes-requires-clause-carries
move_bytes-requires-clause-carries c =
    let a = c.args in
    let r = a.r.now in
    carries a.state.now a.memory.now a.e r.head r.sges.now r.inline.now a.w a.n c.requires.side c.requires.fits _ _ a.far.now
    (sym c.sges_permitted.ensures ∙ c.if-not-sges_permitted.false) c.requires.list
    (record { plain = r.few; short = r.short; total = c.requires.total })
