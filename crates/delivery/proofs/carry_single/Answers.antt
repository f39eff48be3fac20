use Rattle.delivery.proofs.SingleLaws.{untaken, own_fault}
use Rattle.delivery.proofs.EndLaws.{single_settling, single_carried}
use mathlib.Core.List.{[], ◌∷◌}
use Rattle.tables.specs.State.{no_record}
use Prim.Native.Nat.{◌^◌, ◌<◌}
use borrow.Author.Rules.{rules}
use Rattle.delivery.proofs.carry_single.Goals as goal

pub deliver_single-st-requires : goal.deliver_single-st-requires
deliver_single-st-requires c = (c.requires.ready, c.requires.s_value.0)

pub settle_single-requires : goal.settle_single-requires
settle_single-requires c =
    let wr_fits : c.args.s.wr < 2 ^ 64 = search rules in
    let imm_fits : c.args.s.imm < 2 ^ 32 = search rules in
    let k = c in
    let b = k in
    let a = b.args in
    let d = k.deliver_single-st.ensures in (
      single_settling a.state.now a.memory.now a.e b.requires.ready.accepted a.s b.requires.s_value.0 a.a wr_fits imm_fits b.requires.s_value.1 _ _ d,
      untaken a.s b.requires.s_value.0,
      own_fault a.s b.requires.s_value.0 a.state.now a.e (a.a ∷ []) no_record a.a.length _ d.status,
    )

pub returns : goal.returns
returns c =
    let wr_fits : c.args.s.wr < 2 ^ 64 = search rules in
    let imm_fits : c.args.s.imm < 2 ^ 32 = search rules in
    let k = c in
    let b = k in
    let a = b.args in
    single_carried a.state.now a.memory.now a.e b.requires.ready.accepted a.s b.requires.s_value.0 a.a wr_fits imm_fits b.requires.s_value.1 _ _
    k.deliver_single-st.ensures _ c.settle_single.ensures
