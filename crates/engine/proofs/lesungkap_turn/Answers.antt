-- The result holds the queue pair from bit 16 on: TurnLaws.code_below.
use Prim.Native.Nat.{◌<◌}
use native.Mathlib.Omega.{arith}
use Rattle.rules.proofs.Exported.{exported_all}
use Rattle.engine.proofs.TurnLaws.{code_below}
use Rattle.engine.proofs.lesungkap_turn.Goals as goal

pub overflow_add-result : goal.overflow_add-result
overflow_add-result c =
    let b = c in
    let t = c.turn-t.ensures in
    let e : c.from.result < 65536 =
    rw (c.from.ensures, t.0.meets.answer) (code_below b.args.state.now b.args.memory.now) in
    let q = t.1 in
    omega arith

pub returns : goal.returns
returns c =
    rw c.from.ensures (exported_all _ _ _ c.turn-t.ensures.0)
