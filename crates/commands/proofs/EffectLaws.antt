-- A command that passes its tests: the card that the state then means is the rules', and the state stays accepted. Each command stores to
-- one object, and is judged by that object's rows at its end. Those of regions stand in RegionEffectLaws.antt, those of queue pairs in
-- PairEffectLaws.antt. Assumes nothing.
use mathlib.Core.Path.{◌≡◌, refl, ap, ◌∙◌}
use mathlib.Core.Logic.{◌⊎◌, inl, inr}
use mathlib.Core.Bool.{true, false, not, ◌&&◌}
use mathlib.Core.List.{List, [], ◌∷◌}
use mathlib.Core.Option.{none}
use Prim.Native.Nat.{ℕ, ◌≤◌, ◌<◌}
use native.Mathlib.Omega.{arith}
use lib.Dec.{leb}
use borrow.Author.Tests.{leb-true, leb-false, le-leb, not-false}
use Rattle.wire.specs.Checks.{◌if◌, refusal, Passed}
use Rattle.wire.proofs.CheckLaws.{passed}
use Rattle.wire.specs.Codec.{Fit}
use Rattle.wire.specs.Ring.{ring_list}
use Rattle.wire.specs.Scan.{all}
use Rattle.wire.proofs.ScanLaws.{and_left, and_right}
use Rattle.wire.specs.Slots.{upd}
use Rattle.wire.specs.Table.{row_at, put_row}
use Rattle.wire.proofs.TableLaws.{put_row_length}
use Rattle.validate.proofs.AcceptedLaws.{Accepted, queueing}
use Rattle.validate.proofs.KeptLaws.{domain_accepted, queue_accepted}
use Rattle.validate.specs.Search.{free_pdn, free_cqn, pd_in_use}
use Rattle.tables.specs.Card.{with_pd}
use Rattle.tables.specs.State.{QueueRows, card, is_live, cq_of, queue_at}
use Rattle.commands.specs.Control.{destroy_of}
use Rattle.tables.specs.declared.Kind.{Kind}
use Rattle.tables.specs.declared.Kind.TheVariants.{Pd, Cq, Mr, Qp}
use Rattle.tables.specs.Layout.{flags_of, pd_flag_t, cq_flag_t, cq_t, flag_codec, queue_codec}
use Rattle.tables.specs.Limits.{pd_count, cq_count, most_places}
use Rattle.tables.specs.Commands.{Command}
use Rattle.tables.proofs.KindLaws.{QueuesOnly, only_then, domain_card, queue_card}
use Rattle.tables.proofs.ObjectLaws.{pd_below, cq_below}
use Rattle.tables.proofs.StoreLaws as store
use Rattle.tables.specs.declared.QueueHead.{QueueHead}
use Rattle.rules.specs.Control.{command_checks, command_effect}
use Rattle.rules.specs.Bytes.{command_bytes, empty_queue}

-- what a command that is done leaves of an accepted state
pub record Kept (l : List ℕ) (q : Command) : Type 0 where
  pub meant : card (command_bytes l q) ≡ command_effect (card l) q
  pub still : Accepted (command_bytes l q)

-- what a destruction writes: the object's flag
pub flag_cleared : (k : Kind) (l : List ℕ) (n : ℕ) → put_row (flags_of k) l n 0 ≡ command_bytes l (destroy_of k n)
unfolding command_bytes
flag_cleared Pd l n = refl
flag_cleared Cq l n = refl
flag_cleared Mr l n = refl
flag_cleared Qp l n = refl

module _ (l : List ℕ) (ok : Accepted l) where
  -- ---- queries
  pub query_device_lem : Kept l Command.query_device
  unfolding command_bytes command_effect
  query_device_lem = record { meant = refl; still = ok }

  pub query_port_lem : Kept l Command.query_port
  unfolding command_bytes command_effect
  query_port_lem = record { meant = refl; still = ok }

  -- ---- domains
  domain_flag : (n v : ℕ) → n < pd_count → v ≤ 1 → (is_live v ≡ true) ⊎ (pd_in_use (card l) n ≡ false)
      → (card (put_row pd_flag_t l n v) ≡ with_pd (card l) (upd (card l).pd n (is_live v))) × Accepted (put_row pd_flag_t l n v)
  domain_flag n v h s u =
      let o = store.pd_flag_only l n v h in
      let e : row_at pd_flag_t (put_row pd_flag_t l n v) n ≡ v = store.pd_flag_at l n v h ok.sized (omega arith) in
      (domain_card h o ∙ rw e, domain_accepted ok h o (rw e (le-leb v 1 s)) (rw e u))

  pub create_pd_lem : refusal (command_checks (card l) Command.create_pd) ≡ none → Kept l Command.create_pd
  unfolding command_checks command_bytes command_effect
  create_pd_lem e =
      let p = passed (command_checks (card l) Command.create_pd) e in
      let f : ℕ = free_pdn (card l) in
      let s = domain_flag f 1 (leb-false pd_count f p.0) (omega arith) (inl refl) in
      record { meant = s.0; still = s.1 }

  pub destroy_pd_lem : (n : ℕ) → refusal (command_checks (card l) (Command.destroy_pd n)) ≡ none → Kept l (Command.destroy_pd n)
  unfolding command_checks command_bytes command_effect
  destroy_pd_lem n e =
      let p = passed (command_checks (card l) (Command.destroy_pd n)) e in
      let s = domain_flag n 0 (pd_below l n (not-false _ p.0)) (omega arith) (inr p.1.0) in
      record { meant = s.0; still = s.1 }

  -- ---- completion queues
  module _ (n : ℕ) (e : refusal (command_checks (card l) (Command.create_cq n)) ≡ none) where
    abbrev k : ℕ
    k = free_cqn (card l)

    abbrev head : QueueHead
    head = empty_queue n

    tests_cq : Passed (4 if not (leb 1 n && leb n most_places) ∷ 8 if leb cq_count k ∷ [])
    unfolding command_checks
    tests_cq = passed (command_checks (card l) (Command.create_cq n)) e

    cq_within : k < cq_count
    cq_within = leb-false cq_count k tests_cq.1.0

    places : (1 ≤ n) × (n ≤ most_places)
    places =
        let g : (leb 1 n && leb n most_places) ≡ true = not-false _ tests_cq.0 in
        (leb-true 1 n (and_left (leb 1 n) (leb n most_places) g), leb-true n most_places (and_right (leb 1 n) (leb n most_places) g))

    abbrev cq_row : List ℕ
    cq_row = put_row cq_t l k head

    cq_only : QueuesOnly l (put_row cq_flag_t cq_row k 1) k
    cq_only = only_then (store.cq_head_only l k cq_within head) (store.cq_flag_only cq_row k cq_within 1)

    abbrev cq_rows : QueueRows
    cq_rows = record { flag = 1; head = head; ring = (queue_at l k).ring }

    cq_after : queue_at (put_row cq_flag_t cq_row k 1) k ≡ cq_rows
    unfolding cq_flag_t cq_t flag_codec queue_codec Fit
    cq_after =
        let p = places.1 in
        store.cq_flag_at cq_row k cq_within 1 (put_row_length cq_t l k head ∙ ok.sized) (omega arith, tt)
        ∙ ap (λ (r : QueueRows). record { flag = 1; head = r.head; ring = r.ring })
        (store.cq_head_at l k cq_within head ok.sized (omega arith, (omega arith, (omega arith, (omega arith, tt)))))

    pub create_cq_lem : Kept l (Command.create_cq n)
    unfolding command_bytes command_effect cq_of ring_list all
    create_cq_lem =
        record {
          meant = queue_card cq_within cq_only ∙ rw cq_after;
          still =
              queue_accepted ok cq_within cq_only
              (rw cq_after
              (queueing cq_rows
              (record { live = refl; least = places.0; most = places.1; first = omega arith; count = omega arith; entries = refl })))
              (inl (rw cq_after));
        }

  pub destroy_cq_lem : (n : ℕ) → refusal (command_checks (card l) (Command.destroy_cq n)) ≡ none → Kept l (Command.destroy_cq n)
  unfolding command_checks command_bytes command_effect cq_of cq_flag_t flag_codec Fit
  destroy_cq_lem n e =
      let p = passed (command_checks (card l) (Command.destroy_cq n)) e in
      let h : n < cq_count = cq_below l n (not-false _ p.0) in
      let o = store.cq_flag_only l n h 0 in
      let a = store.cq_flag_at l n h 0 ok.sized (omega arith, tt) in
      record { meant = queue_card h o ∙ rw a; still = queue_accepted ok h o (rw a) (inr p.1.0) }
