use mathlib.Core.Path.{ap, ◌∙◌}
use Prim.Native.Nat.{◌<◌}
use native.Mathlib.Omega.{arith}
use lib.ListN.{length, replicate, length-replicate}
use lib.Seq.{get_or-set_same}
use Rattle.tables.specs.Limits.{most_places}
use Rattle.tables.specs.Queue.{pop_bytes}
use Rattle.tables.specs.State.{no_completion}
use Rattle.tables.specs.declared.CompletionQueue.{CompletionQueue}
use Rattle.tables.specs.declared.QueueHead.{QueueHead}
use borrow.Author.Rules.{rules}
use Rattle.tables.proofs.queue.take_front.Goals as goal

pub load_entry-requires : goal.load_entry-requires
load_entry-requires c =
    let f = ap (λ (h : QueueHead). h.first) c.load_cq-h.ensures in
    omega arith

pub bounds-q-at : goal.bounds-q-at
bounds-q-at c =
    let f = ap (λ (h : QueueHead). h.first) c.load_cq-h.ensures in
    omega arith

pub bounds-q-at-2 : goal.bounds-q-at-2
bounds-q-at-2 c =
    let f = ap (λ (h : QueueHead). h.first) c.load_cq-h.ensures in
    omega arith

pub pop-requires : goal.pop-requires
pop-requires c =
    let k = ap (λ (h : QueueHead). h.count) c.load_cq-h.ensures in
    (search rules, omega arith)

pub store_head-requires : goal.store_head-requires
store_head-requires c =
    let p = c.pop.ensures in
    let f = ap (λ (q : CompletionQueue). q.first) p in
    let k = ap (λ (q : CompletionQueue). q.count) p in
    let z = ap (λ (q : CompletionQueue). q.places) p in
    (search rules, omega arith, omega arith, omega arith)

pub returns : goal.returns
unfolding pop_bytes
returns c =
    let c1 = c in
    let c2 = c1 in
    let c3 = c2 in
    let h = c3.load_cq-h in
    let ring = replicate most_places c3.default.result in
    let f = ap (λ (x : QueueHead). x.first) h.ensures in
    let b : h.result.first < length ring = rw (length-replicate most_places no_completion) (omega arith) in
    let front = get_or-set_same ring h.result.first c2.load_entry.result no_completion b in
    (front ∙ rw (c2.load_entry.ensures, h.ensures), rw (c1.store_head.ensures, c1.pop.ensures, h.ensures))
