use mathlib.Core.Path.{◌≡◌, sym, ◌∙◌}
use borrow.Author.Rules.{rules}
use Rattle.std.specs.Prelude.{Result, Err}
use Rattle.tables.specs.declared.Ack.{Ack}
use Rattle.tables.specs.declared.refusal.Refusal.{Refusal}
use Rattle.commands.proofs.CallLaws.{dispatch_stopped, verb_named}
use Rattle.commands.proofs.control.dispatch.Goals as goal

pub run-requires : goal.run-requires
run-requires c =
    let read = c in
    sym (verb_named read.args.command.now _ (sym read.read_verb.ensures ∙ c.in_ok-read_verb.was)).1

pub returns-in_err-read_verb : goal.returns-in_err-read_verb
returns-in_err-read_verb c =
    let e : ◌≡◌ {A = Result Ack Refusal} c.from_residual.result (Err c.in_err-read_verb.field-0.0) = search rules in
    rw e (dispatch_stopped _ c.args.command.now _ (sym c.read_verb.ensures ∙ c.in_err-read_verb.was))
