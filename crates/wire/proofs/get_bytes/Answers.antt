use mathlib.Core.Path.{◌≡◌, sym, ◌∙◌}
use Prim.Native.Nat.{◌+◌, ◌-◌}
use native.Mathlib.Nat.{add-zero}
use native.Mathlib.Omega.{arith}
use Rattle.wire.proofs.WordLaws.{fields_part}
use Rattle.wire.proofs.get_bytes.Goals as goal

pub returns : goal.returns
returns g c =
    let a = c.args in
    let n : a.at + g.row.N - a.at ≡ g.row.N = omega arith in
    let read = rw add-zero at (fields_part g.row.N 0 a.s.now a.at (λ i. omega (arith, c.type_inv.s i)) (omega arith)) in
    let whole = rw c.unwrap.ensures at c.try_from.ensures.1 in
    rw n at whole.same ∙ sym read
