use Rattle.std.proofs.Common.{sym, rules}
use Rattle.wire.proofs.ScanLaws.{any_none, any_more}
use Rattle.validate.proofs.together.any_number.Goals as goal

pub loop-n-init : goal.loop-n-init
loop-n-init g c = (search rules, λ p t. sym (any_none p))

pub loop-n-preserved : goal.loop-n-preserved
loop-n-preserved g c =
    let h = c.loop-n in
    (search rules, λ p t. rw (any_more h.n p, t h.n c.test-found.result (search rules) c.test-found.ensures, h.invariant.1 p t))
