use Rattle.std.proofs.Common.{ℕ, ◌+◌, ◌<◌, ◌≤◌}
use Rattle.wire.specs.Table.{row_at}
use Rattle.tables.specs.Layout.{page_t}
use Rattle.validate.proofs.together.pages_below.Given as goal

abbrev pub invariant-loop-k : goal.invariant-loop-k
invariant-loop-k g l = (l.k ≤ l.many) × ((j : ℕ) → j < l.k → row_at page_t l.state (l.from + j) ≤ l.most)
