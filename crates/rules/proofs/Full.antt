-- 8 is given exactly if no number or place is free. Assumes nothing.
use mathlib.Core.Path.{◌≡◌, refl, sym, ap, ◌∙◌}
use mathlib.Core.Bool.{Bool, true, false, cond, not}
use mathlib.Core.List.{List, [], ◌∷◌, ◌++◌, map}
use mathlib.Core.Option.{Option, none, some}
use Prim.Native.Nat.{ℕ, zero, suc, ◌≤◌, ◌<◌}
use native.Mathlib.Omega.{arith}
use lib.Dec.{ltb, leb}
use borrow.Author.Tests.{leb-true, leb-false}
use Rattle.wire.specs.Checks.{Check, ◌if◌, refusal}
use Rattle.wire.specs.Scan.{lowest, lowest_from, any_below, all}
use Rattle.wire.proofs.ScanLaws.{lowest_passes, lowest_least, any_here, any_same}
use Rattle.tables.specs.Card.{Card, cq_live, fresh, with_pd, with_mr}
use Rattle.tables.specs.Commands.{Command, command_of}
use Rattle.tables.specs.Limits.{pd_count, cq_count, mr_count, qp_count}
use Rattle.tables.specs.Records.{send_checks, receive_checks}
use Rattle.tables.specs.State.{pages_needed}
use Rattle.validate.specs.Search.{vacant}
use Rattle.rules.specs.Call.{Call}
use Rattle.rules.specs.Calls.{checks, memory_checks, reset_checks, control_checks, buffer_checks}
use Rattle.rules.specs.Control.{command_checks}
use Rattle.rules.specs.Full.{none_free, table_full, others, FullExactly}
use Rattle.rules.specs.Lists.{maybe}
use Rattle.rules.specs.Marks.{region}
use Rattle.rules.specs.Pages.{page_record_checks, page_list_checks}
use Rattle.rules.specs.Queues.{join_checks, flush_checks, poll_checks}
use Rattle.rules.specs.Send.{pair_checks, ready_checks, place_checks, hold_checks, delivery_checks, queue_checks, is_in_error}
use Rattle.rules.specs.Turn.{enqueue_checks, turn_checks}
use Rattle.tables.specs.Records.{request_of}

none_of : (n : ℕ) → any_below n (λ k. false) ≡ false
unfolding any_below
none_of zero = refl
none_of (suc n) = none_of n

-- the lowest free number is past the table exactly if none below it is free
none_free_lem : (n : ℕ) (p : ℕ → Bool) → leb n (lowest n p) ≡ none_free n p
none_free_lem n p = go (leb n (lowest n p)) refl
  where
    go : (b : Bool) → leb n (lowest n p) ≡ b → b ≡ not (any_below n p)
    go true e =
        let h : n ≤ lowest n p = leb-true n (lowest n p) e in
        sym (ap not (any_same n p (λ k. false) (λ k b. lowest_least n p k (omega arith)) ∙ none_of n))
    go false e =
        let h : lowest n p < n = leb-false n (lowest n p) e in
        sym (ap not (any_here n p (lowest n p) h (lowest_passes n p h)))

-- regions in the first n slots of a card with a live domain
abbrev taken : (n : ℕ) → Card
taken n = with_mr (with_pd (fresh 4096) (λ i. true)) (λ i. record { live = ltb i n; variant = 1; reg = region 0 0; pages = [] })

-- with 255 a registration of either kind has slot 255, with 256 it is answered 8
pub last_slot : map (λ n. refusal (command_checks (taken n) (Command.register (region 0 0)))) (255 ∷ 256 ∷ []) ++
    map (λ n. refusal (page_list_checks (taken n) (region 0 0) (0 ∷ []))) (255 ∷ 256 ∷ [])
    ≡ none ∷ some 8 ∷ none ∷ some 8 ∷ []
unfolding command_checks page_list_checks pages_needed all lowest lowest_from
last_slot = refl

-- each command's tests are its others, and then 8 if its table is full
command_full : (c : Card) (k : Command) → refusal (command_checks c k) ≡ refusal (others (command_checks c k) ++ (8 if table_full c k ∷ []))
unfolding command_checks
command_full c Command.query_device = refl
command_full c Command.query_port = refl
command_full c (Command.create_cq n) = rw (none_free_lem cq_count (λ i. not (cq_live c i)))
command_full c (Command.destroy_cq n) = refl
command_full c Command.create_pd = rw (none_free_lem pd_count (λ i. not (c.pd i)))
command_full c (Command.destroy_pd n) = refl
command_full c (Command.register g) = rw (none_free_lem mr_count (λ i. vacant (c.mr i)))
command_full c (Command.deregister n) = refl
command_full c (Command.create_qp r) = rw (none_free_lem qp_count (λ i. not (c.qp i).live))
command_full c (Command.modify_qp r) = refl
command_full c (Command.destroy_qp q) = refl

control_full : (c : Card) (k a : List ℕ) (o : Option Command) → let ts = control_checks k a ++ maybe [] (command_checks c) o in
    refusal ts ≡ refusal (others ts ++ (8 if maybe false (table_full c) o ∷ []))
unfolding control_checks
control_full c k a none = refl
control_full c k a (some x) = rw (command_full c x)

pub full_exactly : FullExactly
unfolding FullExactly checks memory_checks queue_checks enqueue_checks turn_checks reset_checks control_checks page_record_checks page_list_checks buffer_checks send_checks receive_checks pair_checks delivery_checks hold_checks place_checks ready_checks join_checks flush_checks poll_checks
full_exactly c (Call.reset n) = refl
full_exactly c (Call.control k a) = control_full c k a (command_of k)
full_exactly c (Call.register_pages k ps a) = rw (none_free_lem mr_count (λ i. vacant (c.mr i)))
full_exactly c (Call.send q x m) = go (is_in_error (c.qp q))
  where
    ts : Bool → List Check
    ts e =
        memory_checks c m ++
        (send_checks x ++ (pair_checks c q ++ (queue_checks c q ++ cond e (place_checks c q) (ready_checks c q (request_of x)))))

    go : (e : Bool) → refusal (ts e) ≡ refusal (others (ts e) ++ (8 if false ∷ []))
    go true = refl
    go false = refl
full_exactly c (Call.receive q x) = refl
full_exactly c (Call.flush q) = refl
full_exactly c (Call.enqueue q x m) = refl
full_exactly c (Call.turn m) = refl
full_exactly c (Call.poll n b) = refl
