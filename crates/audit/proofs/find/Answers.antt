use Rattle.audit.proofs.RoundLaws.{finds_used}
use Rattle.audit.proofs.find.Goals as goal

pub returns : goal.returns
returns c =
    let e = c in
    let a = e.args in
    let f = c.audit.ensures in
    record { finds = f; used = finds_used a.state.now a.memory.now a.calls.now a.answers.now a.position e.requires f }
