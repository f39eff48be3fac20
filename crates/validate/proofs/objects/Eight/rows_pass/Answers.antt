use Rattle.std.proofs.Common.{◌≡◌, ℕ, ◌+◌, ◌*◌, true, sym, ◌∙◌, rules}
use Rattle.wire.specs.Scan.{all_below}
use Rattle.wire.specs.Table.{row_at}
use Rattle.tables.specs.Layout.{mr_t}
use Rattle.tables.specs.declared.Region.{Region}
use Rattle.validate.specs.Together.{variant_ok, virt_ok, word_ok, range_ok}
use Rattle.validate.proofs.TogetherLaws.{all_four}
use Rattle.validate.proofs.objects.Eight.rows_pass.Goals as goal

pub returns-then-words_pass : goal.returns-then-words_pass
returns-then-words_pass c e =
    let a = c.args in
    let r : ℕ → Region = λ i. row_at mr_t a.self.state.now (8 * a.self.g + i) in
    let variants : all_below 8 (λ i. variant_ok (r i)) ≡ true = search rules in
    let numbers : c.numbers_pass.result ≡ true = search rules in
    let words : all_below 8 (λ i. word_ok a.kind a.domains (r i)) ≡ true = search rules in
    all_four 8 (λ i. variant_ok (r i)) (λ i. virt_ok a.limit (r i)) (λ i. word_ok a.kind a.domains (r i)) (λ i. range_ok a.limit (r i))
    variants
    (c.numbers_pass.ensures (λ r. r.virt) (λ r x q. search rules) numbers)
    words
    (sym c.ranges_pass.ensures ∙ e)
