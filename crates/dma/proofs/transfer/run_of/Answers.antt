use native.Mathlib.Omega.{arith}
use mathlib.Core.Path.{refl}
use Rattle.dma.proofs.EntryLaws.{slot_below, row_low, row_small, run_none, run_flat, run_within, run_across}
use Rattle.dma.proofs.transfer.run_of.Goals as goal

pub returns-then-s-eq0 : goal.returns-then-s-eq0
returns-then-s-eq0 c =
    let s = c in
    let l = s.args.state.now in
    let m = s.args.memory.now in
    run_none l m s.requires.ready s.args.s s.requires.s_value.0 _ refl c.if-s-eq0.true

pub load_mr-r-requires : goal.load_mr-r-requires
load_mr-r-requires c =
    let s = c in
    let f = c.if-s-eq0.false in
    slot_below s.args.state.now s.requires.ready.accepted s.args.s s.requires.s_value.0 (omega arith)

pub returns-then-r-eq-FLAT : goal.returns-then-r-eq-FLAT
returns-then-r-eq-FLAT c =
    let s = c in
    let l = s.args.state.now in
    let m = s.args.memory.now in
    run_flat l m s.requires.ready s.args.s s.requires.s_value.0 _ c.load_mr-r.ensures c.if-r-eq-FLAT.true

pub overflow_sub-left : goal.overflow_sub-left
overflow_sub-left c =
    let s = c in
    let f = c.if-s-eq0.false in
    row_low s.args.state.now s.requires.ready.accepted s.args.s s.requires.s_value.0 (omega arith) _ c.load_mr-r.ensures

pub overflow_add-left : goal.overflow_add-left
overflow_add-left c =
    let s = c in
    let f = c.if-s-eq0.false in
    let b = row_small s.args.state.now s.requires.ready.accepted s.args.s s.requires.s_value.0 (omega arith) _ c.load_mr-r.ensures in
    record { fits = omega arith }

pub returns-then-s-left : goal.returns-then-s-left
returns-then-s-left c =
    let s = c in
    let l = s.args.state.now in
    let m = s.args.memory.now in
    run_within l m s.requires.ready s.args.s s.requires.s_value.0 _ c.load_mr-r.ensures c.if-s-left.true

pub returns : goal.returns
returns c =
    let s = c in
    let l = s.args.state.now in
    let m = s.args.memory.now in
    run_across l m s.requires.ready s.args.s s.requires.s_value.0 _ c.load_mr-r.ensures c.if-s-left.false s.requires.s_value.1
