-- The loop has looked at i queue pairs from `next` on, and none of them may run: what is left to find is `lowest_from` from i on.
use borrow.Author.Rules.{rules}
use mathlib.Core.Path.{◌≡◌, sym, ◌∙◌}
use mathlib.Core.Bool.{Bool, true, false}
use Prim.Native.Nat.{ℕ}
use native.Mathlib.Nat.{mod-lt}
use native.Mathlib.Omega.{arith}
use Rattle.wire.proofs.ScanLaws.{lowest_start, lowest_here, lowest_later, lowest_none}
use Rattle.tables.specs.State.{card}
use Rattle.rules.specs.Turn.{seat, passed_over, runnable}
use Rattle.engine.proofs.turn.first_runnable.Goals as goal

pub loop-i-init : goal.loop-i-init
unfolding passed_over
loop-i-init c =
    let b = c in
    let p : ℕ → Bool = λ k. runnable (card b.args.state.now) (seat b.args.next k) in
    (search rules, lowest_start 8 p)

pub can_run-requires : goal.can_run-requires
can_run-requires c = let b = c in (b.requires.0, mod-lt _ (omega arith))

pub returns-then-can_run : goal.returns-then-can_run
returns-then-can_run c =
    let b = c in
    let h = c.loop-i in
    let p : ℕ → Bool = λ k. runnable (card b.args.state.now) (seat b.args.next k) in
    let e : p h.i ≡ true = sym c.can_run.ensures ∙ c.if-can_run.true in
    sym (h.invariant.1 ∙ lowest_here 8 h.i p (search rules) e)

pub loop-i-preserved : goal.loop-i-preserved
loop-i-preserved c =
    let b = c in
    let h = c.loop-i in
    let p : ℕ → Bool = λ k. runnable (card b.args.state.now) (seat b.args.next k) in
    let e : p h.i ≡ false = sym c.can_run.ensures ∙ c.if-can_run.false in
    (search rules, h.invariant.1 ∙ lowest_later 8 h.i p (search rules) e)

pub returns : goal.returns
returns c =
    let b = c in
    let h = c.loop-i in
    let e : h.i ≡ 8 = search rules in
    let p : ℕ → Bool = λ k. runnable (card b.args.state.now) (seat b.args.next k) in
    sym (h.invariant.1 ∙ rw e (lowest_none 8 8 p (omega arith)))
