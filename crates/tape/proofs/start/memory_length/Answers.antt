use mathlib.Core.Path.{◌≡◌, sym, ◌∙◌}
use mathlib.Core.Bool.{true, false}
use lib.ListN.{get_or}
use Rattle.tape.specs.Length.{is_digit}
use Rattle.tape.proofs.LengthLaws.{value_start, value_other, value_long, value_more, value_end, some_value}
use borrow.Author.Rules.{rules}
use Rattle.tape.proofs.start.memory_length.Goals as goal

pub loop-byte-init : goal.loop-byte-init
loop-byte-init c = (search rules, value_start _)

pub returns-then-not-is_ascii_digit-clause-value : goal.returns-then-not-is_ascii_digit-clause-value
returns-then-not-is_ascii_digit-clause-value c =
    let l = c.loop-byte in
    let other : is_digit (get_or c.args.text.now l.byte-index 0) ≡ false = sym c.is_ascii_digit.ensures.value ∙ c.if-not-is_ascii_digit.true in
    sym (l.invariant.1 ∙ value_other c.args.text.now l.value l.byte-index (search rules) other)

pub returns-then-value-gt-MOST_LENGTH-clause-value : goal.returns-then-value-gt-MOST_LENGTH-clause-value
returns-then-value-gt-MOST_LENGTH-clause-value c =
    let l = c.loop-byte in
    let digit : is_digit (get_or c.args.text.now l.byte-index 0) ≡ true = sym c.is_ascii_digit.ensures.value ∙ c.if-not-is_ascii_digit.false in
    sym (l.invariant.1 ∙ value_long c.args.text.now l.value l.byte-index (search rules) digit c.if-value-gt-MOST_LENGTH.true)

pub loop-byte-preserved : goal.loop-byte-preserved
loop-byte-preserved c =
    let l = c.loop-byte in
    let digit : is_digit (get_or c.args.text.now l.byte-index 0) ≡ true = sym c.is_ascii_digit.ensures.value ∙ c.if-not-is_ascii_digit.false in (
      c.if-value-gt-MOST_LENGTH.false,
      l.invariant.1 ∙ value_more c.args.text.now l.value l.byte-index (search rules) digit c.if-value-gt-MOST_LENGTH.false,
    )

pub returns-clause-value : goal.returns-clause-value
returns-clause-value c =
    let l = c.loop-byte in
    rw c.then_some.ensures (some_value l.value ∙ sym (l.invariant.1 ∙ value_end c.args.text.now l.value l.byte-index (search rules)))
