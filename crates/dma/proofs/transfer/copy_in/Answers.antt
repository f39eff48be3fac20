use lib.ListN.{length-drop}
use native.Mathlib.Omega.{arith}
use Rattle.tables.specs.State.{card}
use Rattle.dma.proofs.EntryLaws.{front_mapped, back_mapped}
use Rattle.dma.proofs.MoveLaws.{written, lies_kept, in_one, in_two}
use Rattle.dma.proofs.transfer.copy_in.Goals as goal

pub place_of-to-requires : goal.place_of-to-requires
place_of-to-requires c =
    let s = c in (
      s.requires.ready.accepted,
      front_mapped s.args.state.now s.args.memory.now s.requires.ready s.args.s s.requires.s_value.0 _ c.run_of-n.ensures.most,
    )

pub place_of-then-requires : goal.place_of-then-requires
place_of-then-requires c =
    let run = c in
    let s = run in (
      s.requires.ready.accepted,
      back_mapped s.args.state.now s.args.memory.now s.requires.ready s.args.s s.requires.s_value.0 _ run.run_of-n.ensures.most,
    )

pub returns-then-n-s : goal.returns-then-n-s
returns-then-n-s c =
    let two = c in
    let then = two in
    let one = then in
    let at = one in
    let run = at in
    let s = run in
    let d = run.run_of-n.ensures in
    let k = card s.args.state.now in
    let m = s.args.memory.now in
    in_two k m s.args.s _ d.most _ _ s.args.staging.now s.args.at s.requires.s_value.2
    (written k m _ d.first _ at.place_of-to.ensures _ _ (simp length-drop (omega (arith, d.most))) one.copy_bytes.ensures)
    (written k _ _ (lies_kept k _ _ _ one.copy_bytes.auto.dst d.others) _ then.place_of-then.ensures _ _
    (simp length-drop (omega (arith, d.most))) two.copy_bytes-then-n-s.ensures)

pub returns-else-n-s : goal.returns-else-n-s
returns-else-n-s c =
    let one = c in
    let at = one in
    let run = at in
    let s = run in
    let d = run.run_of-n.ensures in
    let k = card s.args.state.now in
    let m = s.args.memory.now in
    in_one k m s.args.s _ d.most c.if-n-s.false _ _
    (written k m _ d.first _ at.place_of-to.ensures _ _ (simp length-drop (omega (arith, d.most))) one.copy_bytes.ensures)
