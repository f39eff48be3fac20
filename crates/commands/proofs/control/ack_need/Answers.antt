use mathlib.Core.Path.{sym, ap, ◌∙◌}
use Rattle.commands.proofs.CallLaws.{room_of, need_is, least_room}
use Rattle.commands.proofs.control.ack_need.Goals as goal

pub returns-in_default : goal.returns-in_default
returns-in_default c = sym (need_is c.args.command.now ∙ ap room_of (sym c.read_verb.ensures ∙ c.in_default.is))

pub returns-in-QueryDevice : goal.returns-in-QueryDevice
returns-in-QueryDevice c =
    let named = c in
    sym (need_is c.args.command.now ∙ ap room_of (sym named.read_verb.ensures ∙ named.in-Ok.is) ∙ rw c.in-QueryDevice.is)

pub returns-in-QueryPort : goal.returns-in-QueryPort
returns-in-QueryPort c =
    let named = c in
    sym (need_is c.args.command.now ∙ ap room_of (sym named.read_verb.ensures ∙ named.in-Ok.is) ∙ rw c.in-QueryPort.is)

pub returns-in_default-verb : goal.returns-in_default-verb
returns-in_default-verb c =
    let named = c in
    let d = c.in_default-verb in
    sym (need_is c.args.command.now ∙ ap room_of (sym named.read_verb.ensures ∙ named.in-Ok.is) ∙ least_room _ d.not-QueryDevice d.not-QueryPort)
