use native.Mathlib.Omega.{arith}
use Rattle.tables.proofs.FlagLaws.{head_within, head_put}
use Rattle.tables.proofs.rows.store_head.Goals as goal

pub overflow_add-heads : goal.overflow_add-heads
overflow_add-heads c = let h = head_within c.args.queue c.args.n c.requires in let e = c.heads.ensures in omega arith

pub put_bytes-requires : goal.put_bytes-requires
put_bytes-requires c = let h = head_within c.args.queue c.args.n c.requires in let e = c.heads.ensures in omega arith

pub returns : goal.returns
returns c = rw (c.put_bytes.ensures, c.heads.ensures) (head_put c.args.queue c.args.state.now c.args.n c.args.r)
