-- The invariant: where the program stands, by `Stand`; its number stays at most the rounds made.
use mathlib.Core.Path.{◌≡◌, refl}
use native.Mathlib.Omega.{arith}
use Rattle.audit.proofs.RunLaws.{start, stand_start, stand_on, stand_done, stand_out}
use borrow.Author.Rules.{rules}
use Rattle.audit.proofs.run.Goals as goal

pub loop-init : goal.loop-init
loop-init c =
    let a = c.args in
    let d = c.default-position.ensures in
    let e : c.default-position.result ≡ start =
    λ i.
    record {
      calls = record { from = d.0.0 i; to = d.0.1.0 i; ended = d.0.1.1 i };
      answers = record { from = d.1.0.0 i; to = d.1.0.1.0 i; ended = d.1.0.1.1 i };
      number = d.1.1 i;
    } in (
      refl,
      refl,
      ((omega arith, omega arith), (omega arith, omega arith)),
      omega arith,
      rw e (stand_start a.files.now _ _ _ a.calls.now a.answers.now c.requires.state_value.0 c.requires.state_value.1),
    )

pub returns-in-Break : goal.returns-in-Break
returns-in-Break c = stand_done c.«loop».invariant.4 c.in-Break.ensures.round

pub loop-preserved : goal.loop-preserved
loop-preserved c =
    let g = c.in-Continue.ensures.goes in (
      search rules,
      search rules,
      g.0,
      let n = g.1 in omega arith,
      stand_on c.«loop».invariant.4 c.in-Continue.ensures.round _ (omega arith),
    )

pub returns : goal.returns
returns c = stand_out c.«loop».invariant.4 (omega arith)
