use Rattle.rules.specs.Bytes.{command_bytes}
use Rattle.commands.proofs.control.put_queue.Goals as goal

pub returns : goal.returns
unfolding command_bytes
returns c =
    let row = c in
    rw (c.store_flag.ensures, row.store_cq.ensures, row.requires.1)
