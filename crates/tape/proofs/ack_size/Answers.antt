use borrow.Author.Rules.{rules}
use native.Mathlib.Omega.{arith}
use Rattle.tape.proofs.WrittenLaws.{ack_device, ack_port, ack_keys, ack_bare, ack_number}
use Rattle.tape.proofs.ack_size.Goals as goal

pub returns-in-0 : goal.returns-in-0
returns-in-0 c = record { value = λ d. ack_device d c.args.command.now c.get.result c.get.ensures c.in-0.is; upper_bound = omega arith }

pub returns-in-1 : goal.returns-in-1
returns-in-1 c = record { value = λ d. ack_port d c.args.command.now c.get.result c.get.ensures c.in-1.is; upper_bound = omega arith }

pub returns-in-7 : goal.returns-in-7
returns-in-7 c = record { value = λ d. ack_keys d c.args.command.now c.get.result c.get.ensures c.in-7.is; upper_bound = omega arith }

pub returns-in-2 : goal.returns-in-2
returns-in-2 c = record { value = λ d. ack_number d c.args.command.now c.get.result c.get.ensures c.in-2.is; upper_bound = omega arith }

pub returns-in_default : goal.returns-in_default
returns-in_default c =
    record { value = λ d. ack_bare d c.args.command.now c.get.result c.get.ensures (search rules) (search rules) (search rules) (search rules); upper_bound = omega arith }
