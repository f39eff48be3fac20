use mathlib.Core.Path.{sym}
use Rattle.tape.proofs.StepLaws.{whole_held}
use borrow.Author.Rules.{rules}
use Rattle.tape.proofs.steps.reply.Goals as goal

pub answer_whole-requires : goal.answer_whole-requires
answer_whole-requires c = ((whole_held _ _ (sym c.in-Whole.ensures)).1, search rules)
