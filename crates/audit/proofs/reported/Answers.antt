-- The command line, a reset card, and the audit over it.
use Rattle.std.specs.Prelude.{None}
use mathlib.Core.Path.{◌≡◌, refl, sym, ◌∙◌}
use Prim.Native.Nat.{ℕ}
use native.Mathlib.Omega.{arith}
use lib.ListN.{length-replicate}
use Rattle.tables.specs.Layout.{state_size}
use Rattle.tables.specs.Reset.{zeros}
use Rattle.tape.proofs.LengthLaws.{resets_none, starts_by}
use Rattle.audit.specs.Report.{Silent}
use Rattle.audit.proofs.reported.Goals as goal

pub audit-requires : goal.audit-requires
audit-requires g c =
    let m = c.memory-memory in
    let n = c.in_ok-length in
    let st = c.start in
    starts_by 3 n.length n.ensures.asks n.ensures.bounds.1 st.ensures.value st.ensures.state_after c.if-start.true m.ensures.value
    m.ensures.value_2

pub returns-in_err-length : goal.returns-in_err-length
returns-in_err-length g c =
    let o = c.open-calls in
    let p = c.open-answers in
    let none : c.from_residual.result ≡ None = grind arith in
    rw none
    (record {
      calls = o.result.number;
      answers = p.result.number;
      memory = 0;
      calls_named = o.ensures;
      answers_named = p.ensures;
      asked = c.in_err-length.ensures.asks;
      reports = Silent.lengthless refl;
    })

pub returns-then-start : goal.returns-then-start
returns-then-start g c =
    let o = c.open-calls in
    let p = c.open-answers in
    record {
      calls = o.result.number;
      answers = p.result.number;
      memory = c.in_ok-length.length;
      calls_named = o.ensures;
      answers_named = p.ensures;
      asked = c.in_ok-length.ensures.asks;
      reports = c.audit.ensures;
    }

pub returns : goal.returns
returns g c =
    let o = c.open-calls in
    let p = c.open-answers in
    let n = c.in_ok-length in
    record {
      calls = o.result.number;
      answers = p.result.number;
      memory = n.length;
      calls_named = o.ensures;
      answers_named = p.ensures;
      asked = n.ensures.asks;
      reports =
          Silent.lengthless
          (resets_none (zeros state_size) n.length (length-replicate {A = ℕ} state_size 0) n.ensures.bounds.1
          (sym c.start.ensures.value ∙ c.if-start.false));
    }
