use Rattle.std.proofs.Common.{rules, ◌≡◌, length}
use Rattle.tables.specs.Layout.{state_size}
use Rattle.queues.proofs.ResetLaws.{reset_range, reset_done}
use Rattle.queues.proofs.reset.Goals as goal

pub returns-then-not-fits : goal.returns-then-not-fits
returns-then-not-fits c =
    let a = c.args in
    let sized : length a.state.now ≡ state_size = search rules in
    let same : c.in-Some.state.now ≡ a.state.now = search rules in
    rw (c.into-then-not-fits.ensures, same) (reset_range a.state.now a.memory sized c.if-not-fits.true)

pub returns : goal.returns
returns c =
    let a = c.args in
    let sized : length a.state.now ≡ state_size = search rules in
    reset_done a.state.now a.memory sized c.if-not-fits.false _ c.reset.ensures
