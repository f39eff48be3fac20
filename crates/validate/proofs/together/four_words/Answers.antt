use Rattle.std.proofs.Common.{◌≡◌, sym, ◌∙◌, arith}
use lib.Bits.{bit_or}
use Rattle.std.proofs.lemmas.Nat.{le_or_l, le_or_r}
use Rattle.validate.proofs.TestLaws.{four_zero}
use Rattle.validate.proofs.together.four_words.Goals as goal

pub returns : goal.returns
returns c e =
    let a = c.args in
    let w1 = c.get.result in
    let w2 = c.get-2.result in
    let w3 = c.get-3.result in
    let w4 = c.get-4.result in
    let x = le_or_l w1 w2 in
    let x' = le_or_r w1 w2 in
    let y = le_or_l (bit_or w1 w2) w3 in
    let y' = le_or_r (bit_or w1 w2) w3 in
    let z = le_or_l (bit_or (bit_or w1 w2) w3) w4 in
    let z' = le_or_r (bit_or (bit_or w1 w2) w3) w4 in
    let q : bit_or (bit_or (bit_or w1 w2) w3) w4 ≡ 0 = e in
    let e1 : w1 ≡ 0 = omega arith in
    let e2 : w2 ≡ 0 = omega arith in
    let e3 : w3 ≡ 0 = omega arith in
    let e4 : w4 ≡ 0 = omega arith in
    four_zero a.s.now a.at (sym c.get.ensures ∙ e1) (sym c.get-2.ensures ∙ e2) (sym c.get-3.ensures ∙ e3) (sym c.get-4.ensures ∙ e4)
