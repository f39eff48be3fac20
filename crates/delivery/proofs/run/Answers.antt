use mathlib.Core.Path.{◌≡◌, refl, sym, ap, ◌∙◌}
use mathlib.Core.Bool.{true}
use mathlib.Core.List.{[], ◌∷◌}
use native.Mathlib.Omega.{arith}
use Prim.Native.Nat.{ℕ}
use lib.ListN.{length, get_or, take}
use Rattle.tables.specs.Records.{no_sge}
use Rattle.delivery.specs.Asked.{asked}
use Rattle.delivery.specs.Deliver.{is_single}
use Rattle.delivery.proofs.MeetLaws.{sender_live}
use Rattle.delivery.proofs.SingleLaws.{plain, one, first_of}
use Rattle.delivery.proofs.EndLaws.{is_met, ran_on, stopped, runs_then}
use Rattle.delivery.proofs.run.Goals as goal

pub returns-in-Err : goal.returns-in-Err
returns-in-Err c =
    let a = c.args in
    stopped a.state.now a.q a.r.now.head.opcode (asked a.r.now) refl a.memory.now _ (sym c.in-Err.is ∙ c.meet.ensures)

pub carry_single-requires-clause-s_value : goal.carry_single-requires-clause-s_value
carry_single-requires-clause-s_value c =
    let a = c.args in (
      sym c.is_single.ensures ∙ c.if-is_single.true,
      is_met a.state.now a.q a.r.now.head.opcode (sender_live a.state.now a.q a.r.now.head.opcode a.own c.requires.1)
          (runs_then a.state.now a.q a.own c.requires.1 a.r.now.head c.requires.2) _ (sym c.in-Ok.is ∙ c.meet.ensures),
    )

pub returns-then-is_single : goal.returns-then-is_single
returns-then-is_single c =
    let a = c.args in
    let is_one : is_single c.args.r.now.head ≡ true = sym c.is_single.ensures ∙ c.if-is_single.true in
    let n : length c.args.r.now.sges.now ≡ 1 = c.args.r.now.listed (plain c.args.r.now.head is_one) ∙ one c.args.r.now.head is_one in
    let list : take c.args.r.now.head.count c.args.r.now.sges.now ≡ get_or c.args.r.now.sges.now 0 no_sge ∷ [] =
    ap (λ (k : ℕ). take k c.args.r.now.sges.now) (one c.args.r.now.head is_one) ∙ first_of c.args.r.now.sges.now (omega arith) in
    ran_on a.state.now a.q a.r.now.head.opcode (asked a.r.now) refl a.memory.now _ (sym c.in-Ok.is ∙ c.meet.ensures) _ _ _
    (c.carry_single.ensures a.r.now.sges.now a.r.now.inline.now list)

pub carry_out-requires-clause-met : goal.carry_out-requires-clause-met
carry_out-requires-clause-met c =
    let a = c.args in
    is_met a.state.now a.q a.r.now.head.opcode (sender_live a.state.now a.q a.r.now.head.opcode a.own c.requires.1)
    (runs_then a.state.now a.q a.own c.requires.1 a.r.now.head c.requires.2) _ (sym c.in-Ok.is ∙ c.meet.ensures)

pub returns : goal.returns
returns c =
    let a = c.args in
    ran_on a.state.now a.q a.r.now.head.opcode (asked a.r.now) refl a.memory.now _ (sym c.in-Ok.is ∙ c.meet.ensures) _ _ _ c.carry_out.ensures
