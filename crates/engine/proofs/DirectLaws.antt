-- How the tests of post send's queue pair end, "QP 2; QP not in RTS 3", and 02, M-108, "10, after 3, while its QP's queue isn't empty": one law
-- for each answer, and one for the run after them. Assumes nothing.
use mathlib.Core.Path.{◌≡◌, ap, ◌∙◌}
use mathlib.Core.Bool.{Bool, true, false, cond, not, ◌||◌}
use mathlib.Core.List.{List, ◌++◌}
use mathlib.Core.Option.{none, some}
use Prim.Native.Nat.{ℕ, ◌<◌, ◌≤◌}
use native.Mathlib.Omega.{arith}
use lib.Dec.{eqb}
use borrow.Author.Tests.{eqb-true, eq-eqb, ne_eqb}
use Rattle.wire.specs.Checks.{refusal}
use Rattle.wire.specs.Table.{row_at}
use Rattle.tables.specs.Layout.{qp_flag_t, qp_t, send_head_t}
use Rattle.tables.specs.Limits.{qp_count}
use Rattle.tables.specs.State.{card, pair_at, is_live}
use Rattle.tables.specs.declared.QueuePair.{QueuePair}
use Rattle.tables.proofs.ObjectLaws.{qp_out, qp_live, qp_row}
use Rattle.tables.proofs.QueuedLaws.{queue_length}
use Rattle.rules.specs.Answer.{answered}
use Rattle.rules.specs.Send.{pair_checks, queue_checks, hold_checks, delivery_checks}
use Rattle.tables.specs.Records.{Request}
use Rattle.rules.specs.declared.Answer.{Answer}
use Rattle.rules.specs.declared.Answer.TheVariants.{Refused}
use Rattle.rules.proofs.Tests.{first_of, refusal_append, empty_is}
use Rattle.tables.specs.declared.SendRecord.{SendRecord}
use Rattle.tables.specs.declared.Sge.{Sge}
use Rattle.delivery.specs.Meet.{Sender}
use Rattle.delivery.specs.Run.{request_by, Ran, Flushed}

module _ (l : List ℕ) (q : ℕ) (r : Request) (m : List ℕ) where
  turned_down : (n : ℕ) → refusal (delivery_checks (card l) q r) ≡ some n → Ran delivery_checks l q r m (answered 0 (some n)) l m
  turned_down n e = record { answer = rw e; bytes = rw e; memory = rw e }

  in_order : refusal (delivery_checks (card l) q r)
      ≡ first_of (refusal (pair_checks (card l) q)) (first_of (refusal (queue_checks (card l) q)) (refusal (hold_checks (card l) q r)))
  unfolding delivery_checks
  in_order =
      refusal_append (pair_checks (card l) q) (queue_checks (card l) q ++ hold_checks (card l) q r)
      ∙ ap (first_of (refusal (pair_checks (card l) q))) (refusal_append (queue_checks (card l) q) (hold_checks (card l) q r))

  pub no_pair : qp_count ≤ q → Ran delivery_checks l q r m (Refused 2) l m
  unfolding pair_checks delivery_checks
  no_pair h = turned_down 2 (rw (qp_out l q h))

  module _ (b : q < qp_count) where
    pub not_live : is_live (row_at qp_flag_t l q) ≡ false → Ran delivery_checks l q r m (Refused 2) l m
    unfolding pair_checks delivery_checks
    not_live h = turned_down 2 (rw (qp_live l q b, h))

    module _ (is_live_lem : is_live (row_at qp_flag_t l q) ≡ true) (own : QueuePair) (at : own ≡ row_at qp_t l q) where
      abbrev ready : Bool
      ready = eqb own.state 3 || eqb own.state 6

      pair_tests : refusal (pair_checks (card l) q) ≡ cond (not ready) (some 3) none
      unfolding pair_checks pair_at
      pair_tests = rw (qp_row l q b (eqb-true (row_at qp_flag_t l q) 1 is_live_lem), ← at)

      pub not_ready : (own.state ≡ 6 → ⊥) → (own.state ≡ 3 → ⊥) → Ran delivery_checks l q r m (Refused 3) l m
      not_ready k h = turned_down 3 (in_order ∙ rw (pair_tests, ne_eqb own.state 3 h, ne_eqb own.state 6 k))

      pub sends : own.state ≡ 3 → ready ≡ true
      sends h = rw (eq-eqb own.state 3 h)

      pub errs : own.state ≡ 6 → ready ≡ true
      errs h = rw (ne_eqb own.state 3 (λ z. omega arith), eq-eqb own.state 6 h)

      module _ (passed : ready ≡ true) (queued : Bool) (is : queued ≡ not (eqb (row_at send_head_t l q).count 0)) where
        queue_tests : refusal (queue_checks (card l) q) ≡ cond queued (some 10) none
        unfolding queue_checks
        queue_tests = rw (empty_is ((card l).qp q).queue, queue_length l q b (eqb-true (row_at qp_flag_t l q) 1 is_live_lem), is)

        pub has_queue : queued ≡ true → Ran delivery_checks l q r m (Refused 10) l m
        has_queue h = turned_down 10 (in_order ∙ rw (pair_tests, passed, queue_tests, h))

        -- the tests that hold a request decide
        pub run_on : queued ≡ false → (a : Answer) (l' m' : List ℕ) → Ran hold_checks l q r m a l' m' → Ran delivery_checks l q r m a l' m'
        run_on h a l' m' w =
            let e : refusal (delivery_checks (card l) q r) ≡ refusal (hold_checks (card l) q r) =
            in_order ∙ rw (pair_tests, passed, queue_tests, h) in
            record { answer = rw e w.answer; bytes = rw e w.bytes; memory = rw e w.memory }

-- a request on a queue pair in error, whose row is own
module _ (l : List ℕ) (q : ℕ) (own : QueuePair) (at : Sender l q own) (six : own.state ≡ 6) (s : SendRecord) (queued : Bool)
    (is : queued ≡ not (eqb (row_at send_head_t l q).count 0)) where
  pub error_queue : queued ≡ true → (sges : List Sge) (b m : List ℕ) → Ran delivery_checks l q (request_by s sges b) m (Refused 10) l m
  error_queue h sges b m =
      has_queue l q (request_by s sges b) m at.below at.live own at.row
      (errs l q (request_by s sges b) m at.below at.live own at.row six) queued is h

  pub error_on : queued ≡ false → (a : Answer) (l' : List ℕ) → Flushed l q s a l' → (sges : List Sge) (b m : List ℕ) →
      Ran delivery_checks l q (request_by s sges b) m a l' m
  error_on h a l' w sges b m =
      run_on l q (request_by s sges b) m at.below at.live own at.row
      (errs l q (request_by s sges b) m at.below at.live own at.row six) queued is h a l' m (w sges b m)
