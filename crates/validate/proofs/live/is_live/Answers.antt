use Rattle.std.proofs.Common.{rules}
use native.Mathlib.Omega.{arith}
use Rattle.tables.proofs.FlagLaws.{object_live, object_out}
use Rattle.validate.proofs.live.is_live.Goals as goal

pub returns-then-i-count : goal.returns-then-i-count
returns-then-i-count c =
    let e = c.count.ensures in
    let h = c.if-i-count.true in
    rw (object_live c.args.kind _ c.args.n (omega arith), ← c.load_flag.ensures)

pub returns-else-i-count : goal.returns-else-i-count
returns-else-i-count c =
    let e = c.count.ensures in
    let h = c.if-i-count.false in
    rw (object_out c.args.kind (c.args.state.now) c.args.n (omega arith)) (search rules)
