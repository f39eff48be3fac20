use mathlib.Core.Path.{◌≡◌, refl}
use Prim.Native.Nat.{◌+◌, ◌-◌}
use native.Mathlib.Omega.{arith}
use lib.ListN.{length}
use Rattle.std.proofs.lemmas.Slice.{put_mid-paste}
use Rattle.tape.proofs.WrittenLaws.{record_size_lem, record_placed}
use Rattle.tape.proofs.put_answer.Goals as goal

pub returns : goal.returns
returns c =
    let a = c.args in
    let n : length a.written.now ≡ 6 + length a.written.now - 6 = omega arith in
    record {
      value = record_size_lem a.answer a.written.now;
      out_after =
          rw (put_mid-paste 6 _ c.put_head.new.out c.copy_from_slice.new.self a.written.now (length a.written.now) c.copy_from_slice.ensures.after n refl, c.put_head.ensures)
          (record_placed a.answer a.written.now a.out.now);
    }
