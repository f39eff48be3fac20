use Rattle.std.proofs.Common.{ℕ, ◌+◌, ◌*◌, ◌<◌, ◌≤◌}
use Rattle.wire.specs.Table.{row_at}
use Rattle.tables.specs.Layout.{entry_t}
use Rattle.tables.specs.Limits.{most_places, most_message}
use Rattle.validate.proofs.objects.Queue.completions_pass.Given as goal

abbrev pub invariant-loop-k : goal.invariant-loop-k
invariant-loop-k l =
    (l.k ≤ most_places)
    × ((j : ℕ) → j < l.k → (row_at entry_t l.self.state.now (most_places * l.self.n + j)).status ≤ l.statuses)
    × ((j : ℕ) → j < l.k → (row_at entry_t l.self.state.now (most_places * l.self.n + j)).opcode ≤ l.opcodes)
    × ((j : ℕ) → j < l.k → (row_at entry_t l.self.state.now (most_places * l.self.n + j)).owner ≤ l.owners)
    × ((j : ℕ) → j < l.k → (row_at entry_t l.self.state.now (most_places * l.self.n + j)).length ≤ most_message)
