use Rattle.std.proofs.Common.{◌≡◌, ℕ, ◌+◌, ◌%◌, sym, ap, ◌∙◌, add-zero, mod-lt, mod-eq_of_lt, arith, rules}
use native.Mathlib.Nat.{mod-add-mod}
use Rattle.wire.specs.Ring.{ring_place}
use Rattle.wire.proofs.ScanLaws.{all_none, all_more, all_fails}
use Rattle.validate.proofs.together.ring_passes.Goals as goal

pub loop-init : goal.loop-init
loop-init g c = (search rules, search rules, sym (ap (λ (x : ℕ). x % c.args.cap) (add-zero c.args.first) ∙ mod-eq_of_lt c.requires.places.0), λ p t. all_none _)

pub returns-then-not-test : goal.returns-then-not-test
returns-then-not-test g c p t =
    let a = c.args in
    let h = c.loop in
    sym (all_fails a.count (λ k. p (ring_place a.cap a.first k)) h.counter (search rules) (rw (← h.invariant.2) (sym (t h.at c.test.result h.invariant.1 c.test.ensures) ∙ c.if-not-test.true)))

pub loop-preserved : goal.loop-preserved
loop-preserved g c =
    let a = c.args in
    let h = c.loop in
    let e : c.ring_place-at.result ≡ ring_place a.cap h.at 1 = c.ring_place-at.ensures in
    let z : a.first + h.counter + 1 ≡ a.first + (h.counter + 1) = omega arith in (
      search rules,
      rw e (mod-lt (h.at + 1) (omega arith)),
      e ∙ ap (λ (x : ℕ). (x + 1) % a.cap) h.invariant.2 ∙ mod-add-mod (a.first + h.counter) a.cap 1 ∙ ap (λ (x : ℕ). x % a.cap) z,
      λ p t. all_more h.counter (λ k. p (ring_place a.cap a.first k)) (h.invariant.3 p t) (rw (← h.invariant.2) (sym (t h.at c.test.result h.invariant.1 c.test.ensures) ∙ c.if-not-test.false)),
    )

pub returns : goal.returns
returns g c p t = let e : c.loop.counter ≡ c.args.count = search rules in sym (rw e at (c.loop.invariant.3 p t))
