use Rattle.std.proofs.Common.{◌*◌, get_or, sym, ◌∙◌, rules}
use Rattle.tables.specs.Limits.{page_size}
use Rattle.tables.specs.State.{pages_at}
use Rattle.tables.proofs.ObjectLaws.{page_at}
use Rattle.validate.specs.Accept.{page_inside}
use Rattle.validate.proofs.ChainLaws.{all_of}
use Rattle.validate.proofs.TestLaws.{page_by_number}
use Rattle.validate.proofs.TogetherLaws.{numbers_by}
use Rattle.validate.proofs.objects.Slot.numbers_ok.Goals as goal

pub returns-then-page_bits_pass : goal.returns-then-page_bits_pass
returns-then-page_bits_pass c =
    let a = c.args in
    c.if-page_bits_pass.true ∙ sym (numbers_by a.self.memory a.self.state.now a.self.n a.count c.requires (c.page_bits_pass.ensures c.if-page_bits_pass.true))

pub returns-else-page_bits_pass : goal.returns-else-page_bits_pass
returns-else-page_bits_pass c =
    let a = c.args in
    let r = c.requires in
    all_of a.count (λ j. page_inside a.self.memory (page_size * get_or (pages_at a.self.state.now a.self.n) j 0)) _ _ _ (search rules) c.all.ensures.ran
    (λ x b q k. (
      search rules,
      λ h. let law = page_by_number a.self.memory (get_or (pages_at a.self.state.now a.self.n) x 0) in let at = page_at a.self.state.now a.self.n x (search rules) in search rules,
    ))
