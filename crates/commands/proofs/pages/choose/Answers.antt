use mathlib.Core.Path.{◌≡◌, sym, ap, ◌∙◌}
use borrow.Author.Rules.{rules}
use Rattle.std.specs.Prelude.{Result, Err}
use Rattle.tables.specs.declared.Ack.{Ack}
use Rattle.tables.specs.declared.refusal.Refusal.{Refusal}
use Rattle.tables.specs.Commands.{register_codec}
use Rattle.commands.proofs.CallLaws.{verb_named}
use Rattle.commands.proofs.PagesCaseLaws.{recorded_stopped, recorded_other, recorded_seven}
use Rattle.rules.specs.declared.verb.Verb.TheVariants.{RegisterMr}
use Rattle.rules.proofs.VerbLaws.{number_differs}
use Rattle.rules.specs.Verb.{verb_number}
use Rattle.commands.proofs.pages.choose.Goals as goal

pub returns-in_default : goal.returns-in_default
returns-in_default c =
    let s = c in
    let k = s.args.command.now in
    let named = verb_named k _ (sym s.read_verb.ensures ∙ s.in_ok-read_verb.was) in
    recorded_other s.args.state.now s.args.pages.now k named.0 _ (sym named.1) (number_differs _ RegisterMr c.in_default.not-RegisterMr)

pub returns-in-RegisterMr : goal.returns-in-RegisterMr
unfolding register_codec
returns-in-RegisterMr c =
    let s = c in
    let k = s.args.command.now in
    let named = verb_named k _ (sym s.read_verb.ensures ∙ s.in_ok-read_verb.was) in
    recorded_seven s.args.state.now s.args.pages.now k named.0 _ (sym named.1) (ap verb_number s.in-RegisterMr.is) _ s.read_data.ensures _ _ s.register_paged.ensures

pub returns-in_err-read_verb : goal.returns-in_err-read_verb
returns-in_err-read_verb c =
    let e : ◌≡◌ {A = Result Ack Refusal} c.from_residual.result (Err c.in_err-read_verb.field-0.0) = search rules in
    rw e (recorded_stopped _ c.args.pages.now c.args.command.now _ (sym c.read_verb.ensures ∙ c.in_err-read_verb.was))
