-- The ack data that the judge reads is what the card wrote: one layout, read and written. Assumes nothing.
use mathlib.Core.Path.{◌≡◌, refl, ap}
use mathlib.Core.List.{List, [], ◌∷◌}
use Prim.Native.Nat.{ℕ, ◌^◌, ◌≤◌, ◌<◌}
use native.Mathlib.Omega.{arith}
use lib.ListN.{length, take, drop}
use borrow.Author.Tests.{leb-false}
use Rattle.wire.specs.Checks.{Passed}
use Rattle.wire.specs.Codec.{fields_at, put_fields, Fit, within, clear, apart}
use Rattle.wire.proofs.CodecLaws.{fields_at_stored}
use Rattle.tables.specs.Card.{Card}
use Rattle.tables.specs.Limits.{pd_count, cq_count, mr_count, qp_count}
use Rattle.tables.specs.Commands.{Command, ack_fields, ack_least, encode_ack, numbers_of}
use Rattle.tables.specs.declared.Registration.{Registration}
use Rattle.validate.specs.Search.{free_pdn, free_cqn, free_mrn, free_qpn}
use Rattle.rules.specs.Permit.{key_of}
use Rattle.rules.specs.Control.{command_checks, command_ack, new_variant}
use Rattle.rules.proofs.Dropped.{has_slot}
use Rattle.rules.proofs.Variants.{new_small}
use Rattle.judge.specs.Log.{ack_data}

module _ (a : List ℕ) (h : ack_least ≤ length a) where
  none_written : drop 1 (fields_at (take 1 ack_fields) (put_fields ack_fields a 0 (0 ∷ [])) 0) ≡ []
  unfolding fields_at
  none_written = refl

  one_written : (n : ℕ) → n < 256 ^ 4 → drop 1 (fields_at (take 2 ack_fields) (put_fields ack_fields a 0 (0 ∷ n ∷ [])) 0) ≡ n ∷ []
  unfolding put_fields within clear apart Fit
  one_written n b = ap (drop 1) (fields_at_stored 13 (take 2 ack_fields) a 0 (0 ∷ n ∷ []) tt tt h (omega arith, (b, tt)))

  three_written : (m i j : ℕ) → m < 256 ^ 4 → i < 256 ^ 4 → j < 256 ^ 4 →
      drop 1 (fields_at (take 4 ack_fields) (put_fields ack_fields a 0 (0 ∷ m ∷ i ∷ j ∷ [])) 0) ≡ m ∷ i ∷ j ∷ []
  unfolding within clear apart Fit
  three_written m i j x y z =
      ap (drop 1) (fields_at_stored 13 ack_fields a 0 (0 ∷ m ∷ i ∷ j ∷ []) tt tt h (omega arith, (x, (y, (z, tt)))))

  pub keys_back : (c : Card) (g : Registration) → free_mrn c < mr_count →
      ack_data (Command.register g) (encode_ack (command_ack c (Command.register g)) a) ≡ numbers_of (command_ack c (Command.register g))
  unfolding ack_data command_ack
  keys_back c g i =
      let v = new_small c i in
      let k : key_of (free_mrn c) (new_variant c) < 256 ^ 4 = omega arith in
      three_written (free_mrn c) (key_of (free_mrn c) (new_variant c)) (key_of (free_mrn c) (new_variant c)) (omega arith) k k

  pub ack_back : (c : Card) (k : Command) → Passed (command_checks c k) →
      ack_data k (encode_ack (command_ack c k) a) ≡ numbers_of (command_ack c k)
  unfolding ack_data command_checks command_ack fields_at
  ack_back c Command.query_device p = refl
  ack_back c Command.query_port p = refl
  ack_back c (Command.create_cq n) p = let i : free_cqn c < cq_count = leb-false cq_count (free_cqn c) p.1.0 in one_written (free_cqn c) (omega arith)
  ack_back c (Command.destroy_cq n) p = none_written
  ack_back c Command.create_pd p = let i : free_pdn c < pd_count = leb-false pd_count (free_pdn c) p.0 in one_written (free_pdn c) (omega arith)
  ack_back c (Command.destroy_pd n) p = none_written
  ack_back c (Command.register g) p = keys_back c g (has_slot c g p)
  ack_back c (Command.deregister n) p = none_written
  ack_back c (Command.create_qp r) p =
      let i : free_qpn c < qp_count = leb-false qp_count (free_qpn c) p.1.1.1.1.1.0 in one_written (free_qpn c) (omega arith)
  ack_back c (Command.modify_qp r) p = none_written
  ack_back c (Command.destroy_qp q) p = none_written
