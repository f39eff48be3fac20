use Rattle.wire.specs.Le.{le_at}
use native.Mathlib.Omega.{arith}
use Rattle.wire.proofs.U8Word.load.Goals as goal

pub returns : goal.returns
unfolding le_at
returns c = omega (arith, c.type_inv.s c.args.at)
