use Rattle.std.proofs.Common.{◌≡◌, ℕ, ◌+◌, ◌*◌, ◌<◌, sym, ◌∙◌, arith, rules}
use Rattle.wire.specs.Table.{row_at}
use Rattle.wire.proofs.ScanLaws.{all_each}
use Rattle.tables.specs.Layout.{mr_t}
use Rattle.validate.specs.Together.{first_word, word_ok}
use Rattle.validate.proofs.BitLaws.{Between, between_more}
use Rattle.validate.proofs.TogetherLaws.{row_small, word_by}
use Rattle.validate.proofs.objects.Eight.words_pass.Goals as goal

pub loop-i-init : goal.loop-i-init
loop-i-init c = (search rules, λ k h. absurd (omega arith))

pub loop-i-preserved : goal.loop-i-preserved
loop-i-preserved c =
    let a = c.args in
    let h = c.loop-i in
    let f : ℕ → ℕ = λ k. first_word (row_at mr_t a.self.state.now (8 * a.self.g + k)) in
    let e : c.first_word-w.result ≡ f h.i = c.first_word-w.ensures ∙ rw c.row.ensures in
    (search rules, between_more f h.i h.all h.any c.first_word-w.result e h.invariant.1)

pub returns : goal.returns
returns c e =
    let a = c.args in
    let h = c.loop-i in
    let z : h.i ≡ 8 = omega arith in
    let m : (k : ℕ) → k < 8 → Between h.all h.any (first_word (row_at mr_t a.self.state.now (8 * a.self.g + k))) = rw z at h.invariant.1 in
    all_each 8 (λ i. word_ok a.kind a.domains (row_at mr_t a.self.state.now (8 * a.self.g + i)))
    (λ i b. word_by a.kind a.domains h.all h.any (row_at mr_t a.self.state.now (8 * a.self.g + i)) (search rules) (row_small a.self.state.now (8 * a.self.g + i))
    (sym c.words_ok.ensures ∙ e) (m i b))
