use mathlib.Core.Path.{◌≡◌}
use lib.ListN.{drop}
use Rattle.rules.specs.Bytes.{put_pages}
use Rattle.commands.proofs.pages.put_pages.Given as goal

abbrev pub invariant-loop-k : goal.invariant-loop-k
invariant-loop-k l = put_pages l.state l.n l.k (drop l.k l.pages) ≡ put_pages l.initial.state l.n 0 l.pages
