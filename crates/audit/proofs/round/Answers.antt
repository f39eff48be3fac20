-- What was found decides, by one law of RoundLaws for each way out.
use mathlib.Core.Path.{refl, ap}
use native.Mathlib.Omega.{arith}
use Rattle.std.specs.Prelude.{Ok, Err}
use Rattle.std.specs.declared.ops.ControlFlow.TheVariants.{Continue}
use Rattle.audit.proofs.RoundLaws.{does_calls, does_answers, used_same, does_same, does_agrees, later_most, does_differs}
use Rattle.audit.proofs.round.Goals as goal

pub pass-requires : goal.pass-requires
pass-requires c =
    let a = c.args in
    (used_same a.state.now a.memory.now a.calls.now a.answers.now a.position c.requires.0 c.find.ensures.finds c.in-Same.is, c.requires.2)

pub overflow_add-number : goal.overflow_add-number
overflow_add-number c =
    let a = c.args in
    let k = later_most a.state.now a.memory.now a.calls.now a.answers.now a.position c.requires.0 c.find.ensures.finds c.in-Differs.is in
    omega arith

pub returns-in-Ok : goal.returns-in-Ok
returns-in-Ok c =
    let a = c.args in
    let d =
    does_calls a.state.now a.memory.now a.calls.now a.answers.now a.position c.requires.0 c.find.ensures.finds
    a.files.now c.requires.1 c.in-Calls.is (Ok c.in-Ok.calls) c.in-Ok.ensures refl in
    record { round = d.0; goes = d.1 }

pub returns-in-Err : goal.returns-in-Err
returns-in-Err c =
    let a = c.args in
    let d =
    does_calls a.state.now a.memory.now a.calls.now a.answers.now a.position c.requires.0 c.find.ensures.finds
    a.files.now c.requires.1 c.in-Calls.is (Err c.in-Err.field-0) c.in-Err.ensures refl in
    record { round = d.0; goes = d.1 }

pub returns-in-Ok-more : goal.returns-in-Ok-more
returns-in-Ok-more c =
    let a = c.args in
    let d =
    does_answers a.state.now a.memory.now a.calls.now a.answers.now a.position c.requires.0 c.find.ensures.finds
    a.files.now c.requires.1 c.in-Answers.is (Ok c.in-Ok-more.answers) c.in-Ok-more.ensures refl in
    record { round = d.0; goes = d.1 }

pub returns-in-Err-more : goal.returns-in-Err-more
returns-in-Err-more c =
    let a = c.args in
    let d =
    does_answers a.state.now a.memory.now a.calls.now a.answers.now a.position c.requires.0 c.find.ensures.finds
    a.files.now c.requires.1 c.in-Answers.is (Err c.in-Err-more.field-0) c.in-Err-more.ensures refl in
    record { round = d.0; goes = d.1 }

pub returns-in-Same : goal.returns-in-Same
returns-in-Same c =
    let a = c.args in
    let d =
    does_same a.state.now a.memory.now a.calls.now a.answers.now a.position c.requires.0 c.find.ensures.finds
    a.files.now c.in-Same.is (ap Continue c.pass.ensures) in
    record { round = d.0; goes = d.1 }

pub returns-in-Agrees : goal.returns-in-Agrees
returns-in-Agrees c =
    let a = c.args in
    let d =
    does_agrees a.state.now a.memory.now a.calls.now a.answers.now a.position c.requires.0 c.find.ensures.finds
    a.files.now c.in-Agrees.is in
    record { round = d.0; goes = d.1 }

pub returns-in-Differs : goal.returns-in-Differs
returns-in-Differs c =
    let a = c.args in
    let d =
    does_differs a.state.now a.memory.now a.calls.now a.answers.now a.position c.requires.0 c.find.ensures.finds
    a.files.now c.in-Differs.is refl in
    record { round = d.0; goes = d.1 }
