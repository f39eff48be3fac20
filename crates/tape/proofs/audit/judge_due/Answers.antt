use mathlib.Core.Path.{◌≡◌, sym, ◌∙◌}
use mathlib.Core.Bool.{true, false}
use Rattle.tape.specs.Audit.{starts}
use Rattle.tape.proofs.StartLaws.{starts_pointwise}
use Rattle.tape.proofs.audit.judge_due.Goals as goal

pub returns-then-starts_with : goal.returns-then-starts_with
returns-then-starts_with c =
    let a = c.args in
    let e : starts a.due.now a.given.now ≡ true = sym (starts_pointwise a.due.now a.given.now) ∙ sym c.starts_with.ensures.value ∙ c.if-starts_with.true in
    rw e

pub returns : goal.returns
returns c =
    let a = c.args in
    let e : starts a.due.now a.given.now ≡ false = sym (starts_pointwise a.due.now a.given.now) ∙ sym c.starts_with.ensures.value ∙ c.if-starts_with.false in
    rw e
