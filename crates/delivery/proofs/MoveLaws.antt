-- The message of a post send that succeeds: what the move asks, as a transfer there or back asks it. Assumes nothing.
use mathlib.Core.Path.{◌≡◌}
use mathlib.Core.Bool.{false}
use mathlib.Core.List.{List}
use Prim.Native.Nat.{ℕ}
use native.Mathlib.Omega.{arith}
use Rattle.tables.specs.Card.{Card}
use Rattle.tables.specs.declared.SendRecord.{SendRecord}
use Rattle.tables.specs.declared.Sge.{Sge}
use Rattle.tables.specs.Records.{is_inline}
use Rattle.dma.specs.Moves.{Message}
use Rattle.delivery.specs.Deliver.{Carries}

module _ (c : Card) (s : SendRecord) (b : List ℕ) (own far : List Sge) (k : Carries c s b own far) (e : is_inline s ≡ false) where
  pub there : Message c own far
  there =
      let h = k.plain e in
      let m = k.most in
      let o = h.1 in
      record { sources = h.0; targets = k.target; total = omega arith; most = omega arith }

  pub back : Message c far own
  back =
      let h = k.plain e in
      let m = k.most in
      let o = h.1 in
      record { sources = k.target; targets = h.0; total = omega arith; most = omega arith }
