use mathlib.Core.Path.{refl}
use Rattle.tape.proofs.WrittenLaws.{answers}
use Rattle.tape.proofs.answer_record.Goals as goal

pub returns-in-Send-clause-answers : goal.returns-in-Send-clause-answers
returns-in-Send-clause-answers c =
    rw c.in-Send.is (answers c.post_send-answer.ensures 0 refl c.put_answer.ensures.value c.put_answer.ensures.out_after)

pub returns-in-Receive-clause-answers : goal.returns-in-Receive-clause-answers
returns-in-Receive-clause-answers c =
    let p = c.put_answer-in-Receive.ensures in rw c.in-Receive.is (answers c.post_receive-answer.ensures 0 refl p.value p.out_after)

pub returns-in-Flush-clause-answers : goal.returns-in-Flush-clause-answers
returns-in-Flush-clause-answers c =
    let p = c.put_answer-in-Flush.ensures in rw c.in-Flush.is (answers c.flush-answer.ensures 0 refl p.value p.out_after)
