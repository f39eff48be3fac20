use native.Mathlib.Omega.{arith}
use Rattle.tables.proofs.FlagLaws.{flag_within, flag_read}
use Rattle.tables.proofs.rows.load_flag.Goals as goal

pub overflow_add-flags : goal.overflow_add-flags
overflow_add-flags c = let h = flag_within c.args.kind c.args.n c.requires in let e = c.flags.ensures in omega arith

pub get-requires : goal.get-requires
get-requires c = let h = flag_within c.args.kind c.args.n c.requires in let e = c.flags.ensures in omega arith

pub returns : goal.returns
returns c = rw (c.get.ensures, c.flags.ensures) (flag_read c.args.kind c.args.state.now c.args.n)
