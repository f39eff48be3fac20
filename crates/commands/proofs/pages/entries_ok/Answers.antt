use mathlib.Core.Path.{◌∙◌}
use borrow.Author.Rules.{rules}
use borrow.Author.Tests.{tests}
use Rattle.std.proofs.lemmas.Iterator.{YieldsList-from_slice}
use Rattle.std.proofs.lemmas.Iterator.Search.{all_from_yields_List}
use Rattle.rules.specs.Pages.{entry_ok}
use Rattle.commands.proofs.PagesLaws.{all_pass}
use Rattle.commands.proofs.pages.entries_ok.Goals as goal

pub returns : goal.returns
returns c =
    let ok = entry_ok c.args.memory in
    all_from_yields_List ok _ _ _ c.all.ensures.ran (YieldsList-from_slice c.args.pages.now cc) (λ x b q k. search (rules, tests)) ∙ all_pass ok c.args.pages.now
