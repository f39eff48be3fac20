use mathlib.Core.Path.{sym, ◌∙◌}
use mathlib.Core.Logic.{inl, inr}
use Rattle.tape.proofs.StepLaws.{step_whole, step_bad, step_lacks}
use Rattle.tape.proofs.steps.step.Goals as goal

pub returns-in-Ok : goal.returns-in-Ok
returns-in-Ok c =
    let a = c.args.held in
    sym (step_whole a.bytes.now a.ended c.in-Ok.header (sym c.in-Ok.ensures) c.if-header-held.true)

pub returns-in-Ok-2 : goal.returns-in-Ok-2
returns-in-Ok-2 c =
    let a = c.args.held in
    c.lacking.ensures ∙ sym (step_lacks a.bytes.now a.ended (inr (c.in-Ok.header, sym c.in-Ok.ensures, c.if-header-held.false)))

pub returns-in-Err-Bad : goal.returns-in-Err-Bad
returns-in-Err-Bad c =
    let a = c.args.held in
    sym (step_bad a.bytes.now a.ended (rw c.in-Err-Bad.field-0-is at (sym c.in-Err-Bad.ensures)))

pub returns-in-Err-Cut : goal.returns-in-Err-Cut
returns-in-Err-Cut c =
    let a = c.args.held in
    c.lacking-in-Err-Cut.ensures ∙ sym (step_lacks a.bytes.now a.ended (inl (rw c.in-Err-Cut.field-0-is at (sym c.in-Err-Cut.ensures))))
