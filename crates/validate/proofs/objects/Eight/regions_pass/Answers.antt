use Rattle.validate.proofs.TogetherLaws.{live_mrs, live_pds}
use Rattle.validate.proofs.objects.Eight.regions_pass.Goals as goal

pub live_pass-requires-clause-i_value : goal.live_pass-requires-clause-i_value
live_pass-requires-clause-i_value c = live_mrs c.args.self.state.now c.args.self.g (rw c.lowest_clear.ensures at c.if-lowest_clear-ge8.true)

pub live_pass-requires-clause-state_value : goal.live_pass-requires-clause-state_value
live_pass-requires-clause-state_value c = rw c.lowest_clear-then-lowest_clear-ge8.ensures (live_pds c.args.self.state.now)
