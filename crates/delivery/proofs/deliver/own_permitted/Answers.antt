use mathlib.Core.Path.{◌≡◌, sym, ◌∙◌}
use mathlib.Core.Bool.{true}
use Rattle.tables.specs.Records.{is_inline}
use Rattle.wire.specs.Scan.{all}
use Rattle.delivery.proofs.deliver.own_permitted.Goals as goal

pub returns-then-is_inline : goal.returns-then-is_inline
unfolding all
returns-then-is_inline c = let e : is_inline c.args.r.now.head ≡ true = sym c.is_inline.ensures ∙ c.if-is_inline.true in rw e c.if-is_inline.true
