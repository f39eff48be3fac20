use mathlib.Core.Path.{sym, ◌∙◌, refl}
use Rattle.tables.specs.Commands.{Command}
use Rattle.rules.specs.Control.{port_of}
use Rattle.commands.proofs.CaseLaws.{bare_right, port_done}
use Rattle.commands.proofs.query.query_port.Goals as goal

pub returns : goal.returns
unfolding port_of
returns c =
    let s = c in
    rw (bare_right s.args.state.now s.args.command.now Command.query_port (sym c.no_data.ensures ∙ c.in_ok-no_data.was)) (port_done s.args.state.now _ refl)
