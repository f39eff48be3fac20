use native.Mathlib.Omega.{arith}
use Rattle.tables.proofs.FlagLaws.{head_within, head_read}
use Rattle.tables.proofs.rows.load_head.Goals as goal

pub overflow_add-at : goal.overflow_add-at
overflow_add-at c = let h = head_within c.args.queue c.args.n c.requires in let e = c.heads.ensures in omega arith

pub get-requires : goal.get-requires
get-requires c = let h = head_within c.args.queue c.args.n c.requires in let e = c.heads.ensures in omega arith

pub overflow_add-at-2 : goal.overflow_add-at-2
overflow_add-at-2 c = let h = head_within c.args.queue c.args.n c.requires in let e = c.heads.ensures in omega arith

pub get-requires-2 : goal.get-requires-2
get-requires-2 c = let h = head_within c.args.queue c.args.n c.requires in let e = c.heads.ensures in omega arith

pub returns : goal.returns
returns c = rw (c.get.ensures, c.get-2.ensures, c.heads.ensures) (head_read c.args.queue c.args.state.now c.args.n)
