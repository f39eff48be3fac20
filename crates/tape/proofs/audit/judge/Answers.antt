-- The buffer after the reply has 135 bytes, and the answer fits it.
use mathlib.Core.Path.{◌≡◌, refl, sym, ◌∙◌}
use native.Mathlib.Omega.{arith}
use lib.ListN.{length, length-take}
use Rattle.tape.specs.declared.Found.{Found}
use Rattle.tape.specs.Tape.{step_of}
use Rattle.tape.proofs.ReplyLaws.{answered_within, leaves_length}
use Rattle.tape.proofs.FoundLaws.{found_answered, found_fault, found_end, found_more}
use Rattle.tape.proofs.audit.judge.Goals as goal

pub slice_bounds-out-end : goal.slice_bounds-out-end
slice_bounds-out-end c =
    let a = c.args in
    let i = a.calls.bytes.now in
    let r : length c.reply.new.out ≡ 135 = leaves_length (step_of i a.calls.ended) a.state.now a.memory.now i c.reply.ensures refl in
    let w = answered_within i a.calls.ended a.state.now a.memory.now (sym c.reply.ensures.says ∙ c.in-Answered.is) in
    omega arith

pub slice_bounds-judge_due-end : goal.slice_bounds-judge_due-end
slice_bounds-judge_due-end c =
    let a = c.args in
    let i = a.calls.bytes.now in
    let r : length c.reply.new.out ≡ 135 = leaves_length (step_of i a.calls.ended) a.state.now a.memory.now i c.reply.ensures refl in
    let w = answered_within i a.calls.ended a.state.now a.memory.now (sym c.reply.ensures.says ∙ c.in-Answered.is) in
    simp length-take (omega arith)

pub slice_bounds-out-end-in-Fault : goal.slice_bounds-out-end-in-Fault
slice_bounds-out-end-in-Fault c =
    let a = c.args in
    let i = a.calls.bytes.now in
    let r : length c.reply.new.out ≡ 135 = leaves_length (step_of i a.calls.ended) a.state.now a.memory.now i c.reply.ensures refl in
    omega arith

pub slice_bounds-judge_due-end-in-Fault : goal.slice_bounds-judge_due-end-in-Fault
slice_bounds-judge_due-end-in-Fault c =
    let a = c.args in
    let i = a.calls.bytes.now in
    let r : length c.reply.new.out ≡ 135 = leaves_length (step_of i a.calls.ended) a.state.now a.memory.now i c.reply.ensures refl in
    simp length-take (omega arith)

pub returns-in-Answered : goal.returns-in-Answered
returns-in-Answered c =
    let a = c.args in
    let i = a.calls.bytes.now in
    found_answered a.given.now c.judge_due.result (step_of i a.calls.ended) a.state.now a.memory.now i c.reply.ensures c.in-Answered.is c.judge_due.ensures

pub returns-in-Fault : goal.returns-in-Fault
returns-in-Fault c =
    let a = c.args in
    let i = a.calls.bytes.now in
    found_fault a.given.now c.judge_due-in-Fault.result (step_of i a.calls.ended) a.state.now a.memory.now i c.reply.ensures c.in-Fault.is
    (rw (c.closing-last.ensures, c.saturating_sub.ensures) at c.judge_due-in-Fault.ensures)

pub returns-in-End : goal.returns-in-End
returns-in-End c =
    let a = c.args in
    let i = a.calls.bytes.now in
    found_end a.given.now c.closing.result (step_of i a.calls.ended) a.state.now a.memory.now i c.reply.ensures c.in-End.is c.closing.ensures

pub returns-in-More : goal.returns-in-More
returns-in-More c =
    let a = c.args in
    let i = a.calls.bytes.now in
    found_more a.given.now Found.Calls (step_of i a.calls.ended) a.state.now a.memory.now i c.reply.ensures c.in-More.is refl
