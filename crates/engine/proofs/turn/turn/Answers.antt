-- Each end of the turn by its law of TurnLaws.
use mathlib.Core.Path.{sym, ◌∙◌}
use mathlib.Core.List.{List}
use Prim.Native.Nat.{ℕ}
use native.Mathlib.Nat.{mod-lt}
use native.Mathlib.Omega.{arith}
use Rattle.tables.proofs.ObjectLaws.{memory_is}
use Rattle.validate.proofs.AcceptedLaws.{accepted, accepted_size, turn_below}
use Rattle.engine.proofs.TurnLaws.{not_accepted, other_memory, none_runs, may_run, turn_done}
use borrow.Author.Rules.{rules}
use Rattle.engine.proofs.turn.turn.Goals as goal

pub returns-in_default : goal.returns-in_default
returns-in_default c = rw c.refused.ensures (not_accepted _ _ c.in_default.ensures.value, search rules)

pub returns-then-memory-load_memory : goal.returns-then-memory-load_memory
returns-then-memory-load_memory c =
    let s = c.in-Some.ensures.value in
    let l : List ℕ = c.in-Some.state.now in
    rw (c.refused-then-memory-load_memory.ensures, ← s.1)
    (other_memory l c.args.memory.now s.0 (λ z. c.if-memory-load_memory.true (z ∙ memory_is l ∙ sym c.load_memory.ensures)), search rules)

pub first_runnable-passed-requires : goal.first_runnable-passed-requires
first_runnable-passed-requires c =
    let y = c.in-Some.ensures.value.0 in
    (y, rw c.load_turn-next.ensures (turn_below _ (accepted _ y)))

pub returns-then-passed-ge-QP_COUNT : goal.returns-then-passed-ge-QP_COUNT
returns-then-passed-ge-QP_COUNT c =
    let s = c.in-Some.ensures.value in
    let l : List ℕ = c.in-Some.state.now in
    let v = c.if-memory-load_memory.false ∙ c.load_memory.ensures ∙ sym (memory_is l) in
    rw (c.refused-then-passed-ge-QP_COUNT.ensures, ← s.1)
    (none_runs l c.args.memory.now s.0 v _ c.load_turn-next.ensures _ c.first_runnable-passed.ensures c.if-passed-ge-QP_COUNT.true, search rules)

pub serve-st-requires : goal.serve-st-requires
serve-st-requires c =
    let y = c.in-Some.ensures.value.0 in
    let l : List ℕ = c.in-Some.state.now in
    let v = c.if-memory-load_memory.false ∙ c.load_memory.ensures ∙ sym (memory_is l) in (
      record { accepted = y; size = accepted_size l y; whole = v ∙ memory_is l },
      may_run l c.args.memory.now y v _ c.load_turn-next.ensures _ c.first_runnable-passed.ensures c.if-passed-ge-QP_COUNT.false,
    )

pub returns : goal.returns
returns c =
    let s = c.in-Some.ensures.value in
    let l : List ℕ = c.in-Some.state.now in
    let v = c.if-memory-load_memory.false ∙ c.load_memory.ensures ∙ sym (memory_is l) in
    rw (← s.1)
    (turn_done l c.args.memory.now s.0 v _ c.load_turn-next.ensures _ c.first_runnable-passed.ensures c.if-passed-ge-QP_COUNT.false _ _ _ c.serve-st.ensures, mod-lt _ (omega arith))
