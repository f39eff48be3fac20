use mathlib.Core.Path.{sym}
use native.Mathlib.Omega.{arith}
use Rattle.tables.specs.State.{card}
use Rattle.dma.proofs.EntryLaws.{empty_place, slot_below, row_low, row_small, row_flat, row_index, row_page}
use Rattle.dma.proofs.transfer.place_of.Goals as goal

pub returns-then-s-eq0 : goal.returns-then-s-eq0
returns-then-s-eq0 c =
    let s = c in
    sym (empty_place (card s.args.state.now) s.args.s c.if-s-eq0.true)

pub load_mr-r-requires : goal.load_mr-r-requires
load_mr-r-requires c =
    let s = c in
    let f = c.if-s-eq0.false in
    slot_below s.args.state.now s.requires.0 s.args.s s.requires.1 (omega arith)

pub overflow_sub-offset : goal.overflow_sub-offset
overflow_sub-offset c =
    let s = c in
    let f = c.if-s-eq0.false in
    row_low s.args.state.now s.requires.0 s.args.s s.requires.1 (omega arith) _ c.load_mr-r.ensures

pub overflow_add-offset : goal.overflow_add-offset
overflow_add-offset c =
    let s = c in
    let f = c.if-s-eq0.false in
    let b = row_small s.args.state.now s.requires.0 s.args.s s.requires.1 (omega arith) _ c.load_mr-r.ensures in
    record { fits = omega arith }

pub returns-then-r-eq-FLAT : goal.returns-then-r-eq-FLAT
returns-then-r-eq-FLAT c =
    let s = c in
    let f = c.if-s-eq0.false in
    row_flat s.args.state.now s.requires.0 s.args.s s.requires.1 (omega arith) _ c.load_mr-r.ensures c.if-r-eq-FLAT.true

pub load_page-page-requires : goal.load_page-page-requires
load_page-page-requires c =
    let s = c in
    let f = c.if-s-eq0.false in
    let x = row_index s.args.state.now s.requires.0 s.args.s s.requires.1 (omega arith) _ c.load_mr-r.ensures c.if-r-eq-FLAT.false in
    let y = slot_below s.args.state.now s.requires.0 s.args.s s.requires.1 (omega arith) in
    omega arith

pub returns : goal.returns
returns c =
    let s = c in
    let f = c.if-s-eq0.false in
    (row_page s.args.state.now s.requires.0 s.args.s s.requires.1 (omega arith) _ c.load_mr-r.ensures c.if-r-eq-FLAT.false _ c.load_page-page.ensures).0
