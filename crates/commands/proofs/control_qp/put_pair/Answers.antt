-- The heads, the row and the flag are stored, as command_bytes says.
use Rattle.rules.specs.Bytes.{command_bytes}
use Rattle.commands.proofs.PairCaseLaws.{create_small}
use Rattle.commands.proofs.control_qp.put_pair.Goals as goal

pub new_pair-requires : goal.new_pair-requires
new_pair-requires c = let s = c in create_small s.args.state.now s.args.r s.requires.2

pub returns : goal.returns
unfolding command_bytes
returns c =
    let row = c in
    let heads = row in
    let s = heads in
    rw (c.store_flag.ensures, row.store_qp.ensures, heads.store_heads.ensures, row.new_pair.ensures, s.requires.1)
