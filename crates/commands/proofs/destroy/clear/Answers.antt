use Rattle.tables.proofs.FlagLaws.{object_below}
use Rattle.commands.proofs.EffectLaws.{flag_cleared}
use Rattle.commands.proofs.destroy.clear.Goals as goal

pub store_flag-requires : goal.store_flag-requires
store_flag-requires c = object_below c.args.kind c.args.state.now c.args.n c.requires

pub returns : goal.returns
returns c = rw c.store_flag.ensures (flag_cleared c.args.kind c.args.state.now c.args.n)
