use mathlib.Core.Path.{◌≡◌, sym}
use mathlib.Core.Bool.{true, false, ◌&&◌}
use Rattle.std.specs.Prelude.{Ok, Err}
use Rattle.std.proofs.lemmas.Result.{err_from_is_err_and}
use Rattle.wire.specs.Le.{le_at}
use Rattle.tape.specs.Tape.{kind_in, is_mark, is_length}
use Rattle.tape.proofs.HeadLaws.{header_cut, header_no_kind, header_read, header_wrong}
use borrow.Author.Rules.{rules}
use Rattle.tape.proofs.read_header.Goals as goal

pub returns-then-input-lt-HEADER : goal.returns-then-input-lt-HEADER
returns-then-input-lt-HEADER c = header_cut c.args.input.now c.if-input-lt-HEADER.true

pub returns-in_err-kind : goal.returns-in_err-kind
returns-in_err-kind c =
    let p = err_from_is_err_and c.from_residual.result c.from_residual.ensures.1 in
    let k : kind_in (le_at 1 c.args.input.now 2) ≡ Err c.in_err-kind.field-0.0 = rw c.get.ensures at (sym c.in_err-kind.ensures) in
    rw (p.1, p.2) (header_no_kind c.args.input.now (search rules) k)

pub returns-then-not-is_good : goal.returns-then-not-is_good
returns-then-not-is_good c =
    let i = c.args.input.now in
    let k : kind_in (le_at 1 i 2) ≡ Ok c.in_ok-kind.kind = rw c.get.ensures at (sym c.in_ok-kind.ensures) in
    let g : (is_mark i && is_length c.in_ok-kind.kind (le_at 2 i 4)) ≡ false = rw (c.is_mark.ensures, c.is_length.ensures, c.get-length.ensures) at c.if-not-is_good.true in
    header_wrong i (search rules) k g

pub returns : goal.returns
returns c =
    let i = c.args.input.now in
    let k : kind_in (le_at 1 i 2) ≡ Ok c.in_ok-kind.kind = rw c.get.ensures at (sym c.in_ok-kind.ensures) in
    let g : (is_mark i && is_length c.in_ok-kind.kind (le_at 2 i 4)) ≡ true = cc in
    rw (c.get-number.ensures, c.get-length.ensures) (header_read i (search rules) k g)
