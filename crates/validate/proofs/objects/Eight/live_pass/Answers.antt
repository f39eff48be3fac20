use Rattle.std.proofs.Common.{◌≡◌, ◌∙◌, rules, eq-eqb}
use Rattle.wire.specs.Table.{row_at}
use Rattle.tables.specs.Layout.{memory_t}
use Rattle.validate.proofs.TogetherLaws.{eight_flat, eight_paged}
use Rattle.validate.proofs.objects.Eight.live_pass.Goals as goal

pub returns-in-0 : goal.returns-in-0
returns-in-0 c e =
    let a = c.args in
    let k = c.get-kind.result in
    let is : k ≡ 0 = search rules in
    let m : c.limit_of.result ≡ row_at memory_t a.self.state.now 0 = c.limit_of.ensures ∙ rw (eq-eqb k 0 is) a.self.stored in
    eight_flat a.self.state.now a.self.g k c.limit_of.result a.domains c.requires.i_value c.requires.state_value (search rules)
    (c.rows_pass.ensures c.if-rows_pass.true) is m

pub returns-then-numbers_pass : goal.returns-then-numbers_pass
returns-then-numbers_pass c e =
    let a = c.args in
    let k = c.get-kind.result in
    let is : k ≡ 1 = search rules in
    let m : c.limit_of.result ≡ 65536 = c.limit_of.ensures ∙ rw is in
    eight_paged a.self.state.now a.self.g k c.limit_of.result a.domains c.requires.i_value c.requires.state_value (search rules)
    (c.rows_pass.ensures c.if-rows_pass.true) is m
    (c.numbers_pass.ensures (λ r. r.start) (λ r x q. search rules) c.if-numbers_pass.true) (rw a.self.stored at (c.pages_pass.ensures e))
