use native.Mathlib.Nat.{mod-eq_of_lt}
use Rattle.wire.specs.Le.{put_le}
use native.Mathlib.Omega.{arith}
use Rattle.wire.proofs.U8Word.store.Goals as goal

pub returns : goal.returns
unfolding put_le
returns c = rw (mod-eq_of_lt {n = c.args.self} {m = 256} (omega arith))
