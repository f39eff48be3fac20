use Rattle.tables.specs.Layout.{pd_flag_t, cq_flag_t, mr_flag_t, qp_flag_t}
use Rattle.tables.proofs.Kind.flags.Goals as goal

pub returns-in-Pd : goal.returns-in-Pd
unfolding pd_flag_t
returns-in-Pd c = rw c.in-Pd.is

pub returns-in-Cq : goal.returns-in-Cq
unfolding cq_flag_t
returns-in-Cq c = rw c.in-Cq.is

pub returns-in-Mr : goal.returns-in-Mr
unfolding mr_flag_t
returns-in-Mr c = rw c.in-Mr.is

pub returns-in-Qp : goal.returns-in-Qp
unfolding qp_flag_t
returns-in-Qp c = rw c.in-Qp.is
