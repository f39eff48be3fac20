-- The row and the two heads are stored, as command_bytes says.
use Rattle.rules.specs.Bytes.{command_bytes}
use Rattle.commands.proofs.control_qp.move_pair.Goals as goal

pub returns : goal.returns
unfolding command_bytes
returns c =
    let row = c in
    let sends = row in
    let waiting = sends in
    rw (c.store_heads.ensures, row.store_qp.ensures)
    (rw (
      row.moved_pair.ensures,
      sends.moved_head-s.ensures,
      waiting.moved_head-w.ensures,
      sends.load_head-2.ensures,
      waiting.load_head.ensures,
      waiting.load_qp-p.ensures,
    ))
