use mathlib.Core.Path.{◌≡◌, ap}
use Prim.Native.Nat.{◌<◌, ◌+◌}
use native.Mathlib.Nat.{mod-lt}
use native.Mathlib.Omega.{arith}
use lib.ListN.{length, get_or, replicate, length-replicate}
use lib.Seq.{get_or-set_same}
use Rattle.tables.specs.Limits.{most_places}
use Rattle.tables.specs.Queue.{push_bytes}
use Rattle.tables.specs.State.{no_completion}
use Rattle.tables.specs.declared.CompletionQueue.{CompletionQueue}
use Rattle.tables.specs.declared.QueueHead.{QueueHead}
use borrow.Author.Rules.{rules}
use Rattle.tables.proofs.queue.push_completion.Goals as goal

pub push-longer-requires : goal.push-longer-requires
push-longer-requires c =
    let k = ap (λ (h : QueueHead). h.count) c.load_cq-h.ensures in
    (search rules, omega arith)

pub store_head-requires : goal.store_head-requires
store_head-requires c =
    let p = c.push-longer.ensures in
    let n = ap (λ (h : QueueHead). h.count) c.load_cq-h.ensures in
    let f = ap (λ (q : CompletionQueue). q.first) p in
    let k = ap (λ (q : CompletionQueue). q.count) p in
    let z = ap (λ (q : CompletionQueue). q.places) p in
    (search rules, omega arith, omega arith, omega arith)

pub returns : goal.returns
unfolding push_bytes
returns c =
    let c1 = c in
    let c2 = c1 in
    let c3 = c2 in
    let c4 = c3 in
    let at = c3.ring_place-at in
    let h = c4.load_cq-h in
    let e = c4.args.e in
    let none = c4.default.result in
    let b : at.result < length (replicate most_places none) =
    rw (at.ensures, length-replicate most_places none) (mod-lt (h.result.first + h.result.count) (omega arith)) in
    let stored : get_or c3.push-longer.result.ring at.result no_completion ≡ e =
    rw (c3.push-longer.ensures, ← at.ensures) (get_or-set_same (replicate most_places none) at.result e no_completion b) in
    rw (c1.store_head.ensures, c2.store_entry.ensures, stored, c3.push-longer.ensures, at.ensures, h.ensures)
