-- The card is reset to the length that the command line asks for, over zero bytes.
use Rattle.tape.proofs.LengthLaws.{starts_by}
use Rattle.replay.proofs.main.Goals as goal

pub run_in-requires : goal.run_in-requires
run_in-requires c =
    let n = c.in-Some in
    let m = c.memory-memory in
    let st = c.start in
    starts_by 1 n.length n.ensures.asks n.ensures.bounds.1 st.ensures.value st.ensures.state_after c.if-start.true m.ensures.value
    m.ensures.value_2
