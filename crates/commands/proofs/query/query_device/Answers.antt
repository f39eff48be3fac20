use mathlib.Core.Path.{sym, ◌∙◌}
use Rattle.tables.specs.Commands.{Command}
use Rattle.commands.proofs.CaseLaws.{bare_right, device_done}
use Rattle.commands.proofs.query.query_device.Goals as goal

pub returns : goal.returns
returns c =
    let right = c in
    let s = c in
    rw (bare_right s.args.state.now s.args.command.now Command.query_device (sym right.no_data.ensures ∙ right.in_ok-no_data.was)) (device_done s.args.state.now _ c.device_of.ensures)
