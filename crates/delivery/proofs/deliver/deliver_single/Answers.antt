-- the sender's side is permitted
use mathlib.Core.Path.{◌≡◌, refl, sym, ◌∙◌}
use mathlib.Core.Bool.{true, not, ◌||◌}
use mathlib.Core.List.{[], ◌∷◌}
use lib.Dec.{leb}
use Rattle.tables.specs.Records.{receive_sges}
use Rattle.tables.specs.State.{card, no_record}
use Rattle.rules.specs.Touch.{fills, sge_bytes, sge_total}
use Rattle.dma.specs.Grants.{allows_all}
use Rattle.delivery.specs.Deliver.{OwnSide, party_in, far_mask, far_list}
use Rattle.delivery.proofs.StatusLaws.{own_refused, far_refused, all_moved, carries}
use Rattle.delivery.proofs.SingleLaws.{unfilled, list_is, far_range, single_sending, own_judged, far_judged}
use Rattle.delivery.proofs.deliver.deliver_single.Goals as goal

pub returns-then-not-range_permitted : goal.returns-then-not-range_permitted
returns-then-not-range_permitted c =
    let b = c in
    let a = b.args in
    own_refused a.state.now a.memory.now a.e a.s (a.a ∷ []) [] no_record a.a.length c.if-a-gt-MOST_MESSAGE.false
    (sym (own_judged a.s b.requires.1 a.a a.state.now a.memory.now a.e _ c.party_of.ensures _
    c.own_mask.ensures _ c.range_permitted.ensures) ∙ c.if-not-range_permitted.true)

pub returns-then-not-range_permitted-2 : goal.returns-then-not-range_permitted-2
returns-then-not-range_permitted-2 c =
    let side : let a = c.args in OwnSide (card a.state.now) a.e a.s (a.a ∷ []) a.a.length = let b = c in
    let a = b.args in
    record {
      short = c.if-a-gt-MOST_MESSAGE.false;
      permitted = sym (own_judged a.s b.requires.1 a.a a.state.now a.memory.now a.e _ c.party_of.ensures _
          c.own_mask.ensures _ c.range_permitted.ensures) ∙ c.if-not-range_permitted.false;
    } in
    let fits : (not (fills c.args.s.opcode) || leb c.args.a.length (sge_total (receive_sges no_record))) ≡ true = rw (unfilled c.args.s c.requires.1) in
    let range_is : let a = c.args in c.range_permitted-2.result ≡ allows_all (card a.state.now) (party_in a.e.far) (far_mask a.s.opcode) (sge_bytes (far_list a.s no_record a.a.length)) = let b = c in
    let a = b.args in
    far_judged a.s b.requires.1 a.a a.state.now a.memory.now a.e _ c.party_of-2.ensures _ c.far_mask.ensures _
    c.range_permitted-2.ensures in
    let k = c in
    let b = k in
    let a = b.args in
    far_refused a.state.now a.memory.now a.e a.s (a.a ∷ []) [] no_record a.a.length side fits _
    (rw (unfilled a.s b.requires.1)) (sym range_is ∙ c.if-not-range_permitted-2.true)

pub move_single-requires : goal.move_single-requires
move_single-requires c =
    let side : let a = c.args in OwnSide (card a.state.now) a.e a.s (a.a ∷ []) a.a.length = let b = c in
    let a = b.args in
    record {
      short = c.if-a-gt-MOST_MESSAGE.false;
      permitted = sym (own_judged a.s b.requires.1 a.a a.state.now a.memory.now a.e _ c.party_of.ensures _
          c.own_mask.ensures _ c.range_permitted.ensures) ∙ c.if-not-range_permitted.false;
    } in
    let fits : (not (fills c.args.s.opcode) || leb c.args.a.length (sge_total (receive_sges no_record))) ≡ true = rw (unfilled c.args.s c.requires.1) in
    let d = c in
    let k = d in
    let b = k in
    let a = b.args in
    let y = carries a.state.now a.memory.now a.e a.s (a.a ∷ []) [] no_record a.a.length side fits c.party_of-2.result c.far_mask.result _
    (rw (far_range a.s b.requires.1 a.a) (sym c.range_permitted-2.ensures ∙ c.if-not-range_permitted-2.false)) refl (single_sending a.s b.requires.1 a.a) in
    record { ready = b.requires; carries = rw (list_is a.s b.requires.1 a.a) at y }

pub returns : goal.returns
returns c =
    let side : let a = c.args in OwnSide (card a.state.now) a.e a.s (a.a ∷ []) a.a.length = let b = c in
    let a = b.args in
    record {
      short = c.if-a-gt-MOST_MESSAGE.false;
      permitted = sym (own_judged a.s b.requires.1 a.a a.state.now a.memory.now a.e _ c.party_of.ensures _
          c.own_mask.ensures _ c.range_permitted.ensures) ∙ c.if-not-range_permitted.false;
    } in
    let fits : (not (fills c.args.s.opcode) || leb c.args.a.length (sge_total (receive_sges no_record))) ≡ true = rw (unfilled c.args.s c.requires.1) in
    let range_is : let a = c.args in c.range_permitted-2.result ≡ allows_all (card a.state.now) (party_in a.e.far) (far_mask a.s.opcode) (sge_bytes (far_list a.s no_record a.a.length)) = let b = c in
    let a = b.args in
    far_judged a.s b.requires.1 a.a a.state.now a.memory.now a.e _ c.party_of-2.ensures _ c.far_mask.ensures _
    c.range_permitted-2.ensures in
    let d = c in
    let k = d in
    let b = k in
    let a = b.args in
    all_moved a.state.now a.memory.now a.e a.s (a.a ∷ []) [] no_record a.a.length side fits
    (sym range_is ∙ c.if-not-range_permitted-2.false) _ refl _
    (rw (list_is a.s b.requires.1 a.a) c.move_single.ensures)
