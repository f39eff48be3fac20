use Rattle.tables.specs.Layout.{waiting_t, send_head_t}
use Rattle.tables.proofs.WorkQueue.heads.Goals as goal

pub returns-in-Receive : goal.returns-in-Receive
unfolding waiting_t
returns-in-Receive c = rw c.in-Receive.is

pub returns-in-Send : goal.returns-in-Send
unfolding send_head_t
returns-in-Send c = rw c.in-Send.is
