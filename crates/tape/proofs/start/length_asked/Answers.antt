-- The word is what the call gave; the length is the last case of `length_by`.
use mathlib.Core.Path.{◌≡◌, sym, ◌∙◌}
use mathlib.Core.List.{[]}
use Prim.Native.Nat.{◌-◌}
use native.Mathlib.Omega.{arith}
use lib.ListN.{take}
use borrow.Author.Tests.{lt-leb, le-ltb}
use Rattle.std.specs.Prelude.{None}
use Rattle.tape.specs.System.{Event, by_call}
use Rattle.tape.proofs.LengthLaws.{length_none}
use Rattle.tape.proofs.start.length_asked.Goals as goal

pub returns-in_err-n-clause-asks : goal.returns-in_err-n-clause-asks
returns-in_err-n-clause-asks g c =
    let count = c.words-count.result in
    let i = c.args.i in
    let none : c.from_residual.result ≡ None = grind arith in
    rw none
    (record {
      count = count;
      text = [];
      counted = c.words-count.ensures;
      last = λ e. by_call (Event.word _ _ _);
      same = sym (rw (lt-leb count i c.if-count-i.false, le-ltb 1 (count - i) c.if-count-i-gt1.false) length_none);
    })

pub returns-clause-asks : goal.returns-clause-asks
returns-clause-asks g c =
    let count = c.words-count.result in
    let i = c.args.i in
    record {
      count = count;
      text = take c.in_ok-n.n c.arg.new.buf;
      counted = c.words-count.ensures;
      last = λ e. by_call (Event.word _ _ _);
      same = c.memory_length.ensures.value ∙ sym (rw (lt-leb count i c.if-count-i.false, le-ltb 1 (count - i) c.if-count-i-gt1.false));
    }
