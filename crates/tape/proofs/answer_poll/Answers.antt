use Rattle.tape.proofs.WrittenLaws.{answers}
use Rattle.tape.proofs.answer_poll.Goals as goal

pub returns : goal.returns
returns c =
    answers c.poll-answer.ensures c.completion_written-n.result c.completion_written-n.ensures.0 c.put_answer.ensures.value
    c.put_answer.ensures.out_after
