use borrow.Author.Rules.{rules}
use mathlib.Core.Path.{◌≡◌, sym, ◌∙◌}
use native.Mathlib.Omega.{arith}
use Prim.Native.Nat.{◌+◌, ◌*◌}
use Rattle.std.proofs.lemmas.Nat.{trailing_le}
use lib.Bits.{bit_xor}
use Rattle.wire.proofs.FlagLaws.{all_set, some_clear, flag_by_bits, word_found, word_past}
use Rattle.wire.proofs.ScanLaws.{lowest_start, lowest_none}
use Rattle.wire.proofs.lowest_clear.Goals as goal

pub loop-i-init : goal.loop-i-init
loop-i-init c = (search rules, lowest_start (8 * c.args.words) _)

pub overflow_add-result : goal.overflow_add-result
overflow_add-result c =
    let most = trailing_le 64 (bit_xor c.get-flags.result 72340172838076673) in
    search rules

pub returns-then-flags-ne-ALL_SET8 : goal.returns-then-flags-ne-ALL_SET8
returns-then-flags-ne-ALL_SET8 c =
    let a = c.args in
    let h = c.loop-i in
    let n = λ (e : _). c.if-flags-ne-ALL_SET8.true (c.get-flags.ensures ∙ e) in
    rw (c.get-flags.ensures, flag_by_bits 8 a.s.now (a.at + 8 * h.i) n)
    (sym (h.invariant.1 ∙ word_found a.s.now a.at a.words h.i (search rules) (some_clear a.s.now (a.at + 8 * h.i) 8 n)))

pub loop-i-preserved : goal.loop-i-preserved
loop-i-preserved c =
    let a = c.args in
    let h = c.loop-i in
    let e = all_set a.s.now (a.at + 8 * h.i) 8 (sym c.get-flags.ensures ∙ c.if-flags-ne-ALL_SET8.false) in
    (search rules, h.invariant.1 ∙ word_past a.s.now a.at a.words h.i (search rules) e)

pub returns : goal.returns
returns c =
    let a = c.args in
    let h = c.loop-i in
    let e : h.i ≡ a.words = omega arith in
    sym (h.invariant.1 ∙ rw e (lowest_none (8 * a.words) (8 * a.words) _ (omega arith)))
