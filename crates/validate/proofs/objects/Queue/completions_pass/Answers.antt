use Rattle.std.proofs.Common.{◌≡◌, ◌+◌, ◌*◌, ◌<◌, Bool, true, ◌&&◌, ltb, leb, ap, arith, rules, ltb-true, leb-true}
use Rattle.wire.specs.Table.{row_at}
use Rattle.wire.proofs.ScanLaws.{all_each, and_left, and_right}
use Rattle.tables.specs.Layout.{entry_t}
use Rattle.tables.specs.Limits.{qp_count, most_places, most_message}
use Rattle.tables.specs.declared.Completion.{Completion}
use Rattle.validate.specs.Accept.{completion_ok}
use Rattle.validate.proofs.BitLaws.{or_more}
use Rattle.validate.proofs.TogetherLaws.{max_more, completion_by}
use Rattle.validate.proofs.objects.Queue.completions_pass.Goals as goal

pub returns-then-count-lt-MANY_UNREAD : goal.returns-then-count-lt-MANY_UNREAD
returns-then-count-lt-MANY_UNREAD c e = (cc)

pub loop-k-init : goal.loop-k-init
loop-k-init c = (search rules, λ j h. absurd (omega arith), λ j h. absurd (omega arith), λ j h. absurd (omega arith), λ j h. absurd (omega arith))

pub returns-then-e-gt-MOST_MESSAGE : goal.returns-then-e-gt-MOST_MESSAGE
returns-then-e-gt-MOST_MESSAGE c e = (cc)

pub loop-k-preserved : goal.loop-k-preserved
loop-k-preserved c =
    let a = c.args in
    let h = c.loop-k in
    let e = c.load_entry-e.result in
    let is : e ≡ row_at entry_t a.self.state.now (most_places * a.self.n + h.k) = c.load_entry-e.ensures in (
      search rules,
      or_more (λ j. (row_at entry_t a.self.state.now (most_places * a.self.n + j)).status) h.k h.statuses e.status (ap (λ (x : Completion). x.status) is) h.invariant.1,
      or_more (λ j. (row_at entry_t a.self.state.now (most_places * a.self.n + j)).opcode) h.k h.opcodes e.opcode (ap (λ (x : Completion). x.opcode) is) h.invariant.2,
      or_more (λ j. (row_at entry_t a.self.state.now (most_places * a.self.n + j)).owner) h.k h.owners e.owner (ap (λ (x : Completion). x.owner) is) h.invariant.3,
      max_more (λ j. (row_at entry_t a.self.state.now (most_places * a.self.n + j)).length) h.k most_message most_message (search rules) (rw (← is) c.if-e-gt-MOST_MESSAGE.false) h.invariant.4,
    )

pub returns : goal.returns
returns c e =
    let a = c.args in
    let h = c.loop-k in
    let z : h.k ≡ most_places = omega arith in
    let s : Bool = leb h.statuses 1 in
    let o : Bool = leb h.opcodes 4 in
    let w : Bool = ltb h.owners qp_count in
    let so : (s && o) ≡ true = and_left (s && o) w e in
    let inv = h.invariant in
    all_each most_places (λ k. completion_ok (row_at entry_t a.self.state.now (most_places * a.self.n + k)))
    (λ k b. let m : k < h.k = omega arith in
    completion_by (row_at entry_t a.self.state.now (most_places * a.self.n + k)) h.statuses h.opcodes h.owners (leb-true h.statuses 1 (and_left s o so))
    (leb-true h.opcodes 4 (and_right s o so)) (ltb-true h.owners qp_count (and_right (s && o) w e)) (inv.1 k m) (inv.2 k m) (inv.3 k m) (inv.4 k m))
