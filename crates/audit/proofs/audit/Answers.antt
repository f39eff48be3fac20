-- The card's memory is the first bytes of the array.
use mathlib.Core.Path.{sym, ap, subst, ◌∙◌}
use Prim.Native.Nat.{ℕ}
use native.Mathlib.Omega.{arith}
use lib.ListN.{length, take, length-take}
use lib.Seq.{length-take-le}
use Rattle.tables.specs.Reset.{zeros, reset_bytes}
use Rattle.audit.specs.Report.{Reports}
use Rattle.audit.proofs.RunLaws.{take_zeros}
use borrow.Author.Rules.{rules}
use Rattle.audit.proofs.audit.Goals as goal

pub slice_bounds-run-end-2 : goal.slice_bounds-run-end-2
slice_bounds-run-end-2 c = simp length-take (omega arith)

pub run-requires : goal.run-requires
run-requires c =
    let e = c in
    let same = length-take-le e.args.length e.args.memory.now e.requires.fits in
    record {
      wide = (search rules, search rules);
      state_value = (
        e.requires.state ∙ ap reset_bytes (sym same),
        ap (take e.args.length) e.requires.memory ∙ take_zeros e.args.length (length e.args.memory.now) e.requires.fits ∙ ap zeros (sym same),
      );
    }

pub returns : goal.returns
returns c =
    let e = c in
    let same = length-take-le e.args.length e.args.memory.now e.requires.fits in
    subst (λ (n : ℕ). Reports e.args.files.now.calls.number e.args.files.now.answers.number n c.run.result) same c.run.ensures
