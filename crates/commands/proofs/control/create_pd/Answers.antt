use mathlib.Core.Path.{sym, ◌∙◌}
use Rattle.tables.specs.Commands.{Command}
use Rattle.commands.proofs.CaseLaws.{bare_right, create_pd_full, create_pd_done}
use Rattle.commands.proofs.control.create_pd.Goals as goal

pub returns-then-n-ge-PD_COUNT : goal.returns-then-n-ge-PD_COUNT
returns-then-n-ge-PD_COUNT c =
    let right = c in
    let s = right in
    rw (bare_right s.args.state.now s.args.command.now Command.create_pd (sym right.no_data.ensures ∙ right.in_ok-no_data.was))
    (create_pd_full _ c.free_pdn-n.result c.free_pdn-n.ensures c.if-n-ge-PD_COUNT.true)

pub returns : goal.returns
returns c =
    let room = c in
    let right = room in
    let s = right in
    rw (bare_right s.args.state.now s.args.command.now Command.create_pd (sym right.no_data.ensures ∙ right.in_ok-no_data.was))
    (create_pd_done _ room.free_pdn-n.result room.free_pdn-n.ensures room.if-n-ge-PD_COUNT.false _ c.store_flag.ensures)
