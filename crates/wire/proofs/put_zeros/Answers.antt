use mathlib.Core.Path.{◌≡◌, ◌∙◌}
use mathlib.Core.List.{List}
use native.Mathlib.Omega.{arith}
use lib.ListN.{length, take, drop, length-take, length-drop}
use Prim.Native.Nat.{ℕ, ◌+◌, ◌-◌}
use Rattle.std.specs.Prelude.{replicate}
use Rattle.std.proofs.lemmas.List.{length-replicate}
use Rattle.std.proofs.lemmas.Slice.{put_mid-paste}
use Rattle.wire.proofs.CopyLaws.{zeros_paste}
use Rattle.wire.proofs.put_zeros.Goals as goal

pub returns : goal.returns
returns c =
    let a = c.args in
    let zeros : List ℕ = replicate a.n 0 in
    let n : length (take (a.at + a.n - a.at) (drop a.at a.s.now)) ≡ a.n = simp (length-take, length-drop) (omega arith) in
    put_mid-paste a.at (a.at + a.n - a.at) a.s.now c.fill.new.self zeros a.n (rw n at (c.fill.ensures.after (λ y h. h))) (omega arith) (omega (arith, length-replicate {A = ℕ} a.n 0))
    ∙ zeros_paste a.n a.s.now a.at c.requires
