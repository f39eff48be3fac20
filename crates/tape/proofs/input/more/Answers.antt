-- The bytes held move to the window's start, and the read is behind them.
use mathlib.Core.Path.{refl, sym, ap}
use native.Mathlib.Nat.{add-zero}
use Prim.Native.Nat.{ℕ, ◌-◌}
use mathlib.Core.Bool.{true}
use Rattle.std.specs.Prelude.{Err}
use Rattle.tape.specs.declared.input.Held.{Held}
use Rattle.tape.proofs.InputLaws.{reads_more}
use borrow.Author.Rules.{rules}
use Rattle.tape.proofs.input.more.Goals as goal

pub returns-in-Ok : goal.returns-in-Ok
returns-in-Ok c =
    let a = c.args in
    reads_more a.source.now.number a.held a.window.now (search rules, search rules) _ c.copy_within.new.self c.read_once.new.buffer c.in-Ok.n refl
    c.copy_within.ensures.after (search rules) c.in-Ok.ensures.count_in_bounds c.in-Ok.ensures.gives

pub returns-in-Err : goal.returns-in-Err
returns-in-Err c =
    let a = c.args in
    let k : ℕ = a.held.to - a.held.from in
    let h = λ (n : ℕ). let r : Held = record { from = 0; to = n; ended = true } in r in
    reads_more a.source.now.number a.held a.window.now (search rules, search rules) (Err (record { held = h k })) c.copy_within.new.self c.read_once.new.buffer
    0 (ap h (sym (add-zero k))) c.copy_within.ensures.after (search rules) c.in-Err.ensures.count_in_bounds c.in-Err.ensures.gives
