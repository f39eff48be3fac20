-- After the head ran it still stands at the head of its queue (TurnLaws.waits-then), and leaves it.
use mathlib.Core.Path.{ap, ◌∙◌}
use mathlib.Core.List.{List}
use Prim.Native.Nat.{ℕ}
use native.Mathlib.Omega.{arith}
use Rattle.wire.specs.Table.{put_row}
use Rattle.tables.specs.Layout.{turn_t}
use Rattle.tables.specs.Queue.{unqueue_bytes}
use Rattle.rules.specs.Bytes.{head_gone_bytes}
use Rattle.rules.specs.Turn.{after}
use Rattle.engine.proofs.TurnLaws.{head_of_lem, waits_then}
use Rattle.engine.proofs.turn.serve.Goals as goal

pub drop_oldest-requires : goal.drop_oldest-requires
drop_oldest-requires c =
    let b = c in
    let l = b.args.state.now in
    let a = b.requires.0.accepted in
    let h = head_of_lem l a b.args.q b.requires.1 in
    rw c.run_head-st.ensures.bytes (h.below, waits_then l a b.args.q h)

pub overflow_add-q : goal.overflow_add-q
overflow_add-q c =
    let b = c in
    let h = (head_of_lem b.args.state.now b.requires.0.accepted b.args.q b.requires.1).below in
    omega arith

pub returns : goal.returns
unfolding head_gone_bytes
returns c =
    let r = c.run_head-st.ensures in
    record {
      status = r.status;
      bytes =
          c.store_turn.ensures
          ∙ ap (λ (l : List ℕ). put_row turn_t l 0 (after c.args.q)) (c.drop_oldest.ensures ∙ ap (λ (l : List ℕ). unqueue_bytes l c.args.q) r.bytes);
      memory = r.memory;
    }
