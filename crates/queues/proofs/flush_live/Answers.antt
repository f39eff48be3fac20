use mathlib.Core.Path.{sym, ◌∙◌}
use Rattle.queues.proofs.FlushLaws.{flush_state, flush_none, flush_held, flush_done}
use Rattle.queues.proofs.flush_live.Goals as goal

pub returns-then-not-in_state : goal.returns-then-not-in_state
returns-then-not-in_state c = rw c.into.ensures (flush_state _ _ c.requires (sym c.in_state.ensures ∙ c.if-not-in_state.true))

pub returns-then-none_waiting : goal.returns-then-none_waiting
returns-then-none_waiting c =
    let c1 = c in
    let six = sym c1.in_state.ensures ∙ c1.if-not-in_state.false in
    rw c.into-then-none_waiting.ensures (flush_none _ _ c1.requires six (sym c.none_waiting.ensures ∙ c.if-none_waiting.true))

pub returns-then-not-has_place : goal.returns-then-not-has_place
returns-then-not-has_place c =
    let c1 = c in
    let c2 = c1 in
    let six = sym c2.in_state.ensures ∙ c2.if-not-in_state.false in
    let waits = sym c1.none_waiting.ensures ∙ c1.if-none_waiting.false in
    flush_held _ _ c2.requires six waits (sym c.has_place.ensures ∙ c.if-not-has_place.true)

pub complete_oldest-requires : goal.complete_oldest-requires
complete_oldest-requires c =
    let c1 = c in
    let c2 = c1 in
    record {
      placed =
          record {
            pair = c2.requires;
            place = sym c1.has_place.ensures ∙ c1.if-not-has_place.false;
          };
      waits = sym c2.none_waiting.ensures ∙ c2.if-none_waiting.false;
    }

pub returns : goal.returns
returns c =
    let c1 = c in
    let c2 = c1 in
    let c3 = c2 in
    let six = sym c3.in_state.ensures ∙ c3.if-not-in_state.false in
    let waits = sym c2.none_waiting.ensures ∙ c2.if-none_waiting.false in
    let place = sym c1.has_place.ensures ∙ c1.if-not-has_place.false in
    flush_done _ _ c3.requires six waits place _ c.complete_oldest.ensures
