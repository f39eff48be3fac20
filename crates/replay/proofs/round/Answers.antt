-- The bytes used are among those held.
use mathlib.Core.Path.{sym, ◌∙◌}
use native.Mathlib.Omega.{arith}
use lib.ListN.{length-take, length-drop}
use Rattle.tape.specs.Inside.{held_in}
use Rattle.tape.proofs.ReplyLaws.{answered_within}
use Rattle.replay.proofs.round.Goals as goal

pub overflow_add-from : goal.overflow_add-from
overflow_add-from g c =
    let a = c.args in
    let w = answered_within (held_in a.held a.window.now) a.held.ended a.state.now a.memory.now (sym c.reply.ensures.says ∙ c.in-Answered.is) in
    let u = simp (length-take, length-drop) at w.0 in
    omega arith

pub returns-in_ok-ok-in-Answered : goal.returns-in_ok-ok-in-Answered
returns-in_ok-ok-in-Answered g c =
    let a = c.args in
    let w = answered_within (held_in a.held a.window.now) a.held.ended a.state.now a.memory.now (sym c.reply.ensures.says ∙ c.in-Answered.is) in
    let u = simp (length-take, length-drop) at w.0 in
    (omega arith, c.requires.1)
