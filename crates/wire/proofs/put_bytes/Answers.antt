use mathlib.Core.Path.{sym, ◌∙◌}
use native.Mathlib.Omega.{arith}
use borrow.Author.Rules.{rules}
use Prim.Native.Nat.{◌+◌, ◌-◌}
use Rattle.std.proofs.lemmas.Slice.{put_mid-paste}
use Rattle.wire.proofs.WordLaws.{put_part}
use Rattle.wire.proofs.put_bytes.Goals as goal

pub returns : goal.returns
returns g c =
    let a = c.args in
    put_mid-paste a.at (a.at + g.row.N - a.at) a.s.now _ a.bytes g.row.N c.copy_from_slice.ensures.after (omega arith) (omega arith)
    ∙ sym (put_part g.row.N a.s.now a.at a.bytes (omega arith) (λ i. search rules) (omega arith))
