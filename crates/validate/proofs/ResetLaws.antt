-- The state that a reset leaves is accepted. Assumes nothing.
use Rattle.std.proofs.Common.{ℕ, ◌≤◌, le-leb}
use Rattle.tables.specs.Limits.{most_memory}
use Rattle.tables.specs.Reset.{reset_bytes}
use Rattle.tables.specs.State.{queue_at, region_at, pair_at}
use Rattle.tables.proofs.ResetLaws.{sized, length_stored, turn_zero, pd_zero, cq_zero, mr_zero, qp_zero}
use Rattle.validate.specs.Accept.{pd_ok, cq_ok, mr_ok, qp_ok}
use Rattle.validate.proofs.AcceptedLaws.{Accepted}

pub reset_accepted : (memory : ℕ) → 1 ≤ memory → memory ≤ most_memory → Accepted (reset_bytes memory)
unfolding pd_ok cq_ok mr_ok qp_ok queue_at region_at pair_at
reset_accepted memory least most =
    record {
      sized = sized memory;
      memory = rw (length_stored memory least most, le-leb 1 memory least, le-leb memory most_memory most);
      turn = rw (turn_zero memory);
      pds = λ n h. rw (pd_zero memory n h);
      cqs = λ n h. rw (cq_zero memory n h);
      mrs = λ n h. rw (mr_zero memory n h);
      qps = λ n h. rw (qp_zero memory n h);
    }
