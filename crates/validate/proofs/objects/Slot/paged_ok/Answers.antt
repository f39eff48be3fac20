use Rattle.std.proofs.Common.{◌+◌, ◌≤◌, rules}
use Rattle.validate.proofs.TestLaws.{need_most}
use Rattle.validate.proofs.objects.Slot.paged_ok.Goals as goal

pub numbers_ok-requires : goal.numbers_ok-requires
numbers_ok-requires c =
    let r = c.args.r in
    let h : r.start + r.length ≤ 65536 = search rules in
    rw c.pages_needed.ensures (need_most r.start r.length h)
