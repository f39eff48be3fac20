use Rattle.tape.proofs.WrittenLaws.{answers, done_two}
use Rattle.tables.specs.State.{card}
use Rattle.tape.proofs.answer_control.Goals as goal

pub ack_written-n-requires : goal.ack_written-n-requires
ack_written-n-requires c = done_two c.control-answer.ensures

pub returns : goal.returns
returns c =
    let l = c.args.state.now in
    answers c.control-answer.ensures c.ack_written-n.result (c.ack_written-n.ensures.value (card l)) c.put_answer.ensures.value
    c.put_answer.ensures.out_after
