-- Turns are fair: each turn serves the first queue pair from the turn place on whose head may run, so that one that may run comes nearer with each
-- turn that serves another. Assumes nothing.
use mathlib.Core.Path.{◌≡◌, refl, sym, ap, ◌∙◌}
use mathlib.Core.Logic.{◌≢◌}
use mathlib.Core.Bool.{Bool, true, false, cond, ◌&&◌, ◌||◌, true≢false}
use mathlib.Core.List.{List, [], ◌∷◌}
use mathlib.Core.Option.{Option, none, some}
use Prim.Native.Nat.{ℕ, zero, suc, ◌+◌, ◌-◌, ◌%◌, ◌≤◌, ◌<◌}
use native.Mathlib.Decide.{dec_lt}
use native.Mathlib.Omega.{arith}
use lib.Dec.{eqb}
use lib.ListN.{length, take}
use borrow.Author.Tests.{eqb-false, leb-false}
use Rattle.wire.specs.Checks.{Passed}
use Rattle.wire.specs.Scan.{lowest}
use Rattle.wire.proofs.ScanLaws.{lowest_least}
use Rattle.tables.specs.Card.{Card, Receive, with_cq}
use Rattle.tables.specs.Commands.{Command, command_of}
use Rattle.tables.specs.Limits.{qp_count}
use Rattle.rules.specs.Answer.{answered, is_done}
use Rattle.rules.specs.Call.{Call, OnPair, given}
use Rattle.rules.specs.Calls.{checks, memory_checks, effect, value_of, settled, owed, Result}
use Rattle.rules.specs.Control.{command_effect}
use Rattle.rules.specs.Lists.{All, is_some, maybe}
use Rattle.rules.specs.Queues.{flushes_at_once, join_puts, joined, received, flushed, polled}
use Rattle.rules.specs.Send.{put_all, send_effect}
use Rattle.rules.specs.Touch.{receive_in}
use Rattle.rules.specs.Turn.{seat, passed_over, after, runnable, served, turn_checks, enqueued, head_gone, turn_effect}
use Rattle.judge.specs.Log.{Log, begins}
use Rattle.judge.specs.Demand3.{Seen, Linked, AfterReset, state_after}
use Rattle.judge.specs.Fair.{NoneTwice, before, is_among, FairTo, served_in, serves, more, servings, GoesOn, AtServing, Runnable, Fair}
use Rattle.judge.specs.Whole.{Met}
use Rattle.judge.proofs.Agree.{Agree}
use Rattle.judge.proofs.Run.{of_owed, of_refused, agrees_after, begun}

-- q is visited as number d from t on
record Sits (t d q : ℕ) : Type 0 where
  below : d < qp_count
  at : seat t d ≡ q

-- p is visited before number d
record Earlier (t d p : ℕ) : Type 0 where
  i : ℕ
  less : i < d
  sits : Sits t i p

record Waits (t d : ℕ) (ps : List ℕ) : Type 0 where
  earlier : All (Earlier t d) ps
  once : NoneTwice ps
  few : length ps ≤ d

-- ---- one turn on, from t to the one after number i

shift : (t i j : ℕ) → seat (after (seat t i)) j ≡ seat t (i + 1 + j)
shift t i j = omega arith

later : (t i d q : ℕ) → i < d → Sits t d q → Sits (after (seat t i)) (d - i - 1) q
later t i d q h s =
    let b : d < qp_count = s.below in
    let e : i + 1 + (d - i - 1) ≡ d = omega arith in
    record { below = omega arith; at = shift t i (d - i - 1) ∙ ap (seat t) e ∙ s.at }

sooner : (t i j p : ℕ) → i + 1 + j < qp_count → Sits (after (seat t i)) j p → Sits t (i + 1 + j) p
sooner t i j p h s = record { below = h; at = sym (shift t i j) ∙ s.at }

apart : (t i j : ℕ) → i < j → j < qp_count → seat t j ≡ seat t i → ⊥
apart t i j h k e = omega arith

all_earlier : (t i d : ℕ) (ps : List ℕ) → i < d → d < qp_count → All (Earlier (after (seat t i)) (d - i - 1)) ps → All (Earlier t d) ps
unfolding All
all_earlier t i d [] h b a = tt
all_earlier t i d (p ∷ ps) h b a =
    let x = a.0 in
    let l : x.i < d - i - 1 = x.less in
    (record { i = i + 1 + x.i; less = omega arith; sits = sooner t i x.i p (omega arith) x.sits }, all_earlier t i d ps h b a.1)

none_here : (t i d : ℕ) (ps : List ℕ) → i < d → d < qp_count → All (Earlier (after (seat t i)) (d - i - 1)) ps → All (λ x. x ≢ seat t i) ps
unfolding All
none_here t i d [] h b a = tt
none_here t i d (p ∷ ps) h b a =
    let x = a.0 in
    let l : x.i < d - i - 1 = x.less in
    let s = sooner t i x.i p (omega arith) x.sits in
    ((λ e. apart t i (i + 1 + x.i) (omega arith) s.below (s.at ∙ e)), none_here t i d ps h b a.1)

one_more : (t i d : ℕ) (ps : List ℕ) → i < d → d < qp_count → Waits (after (seat t i)) (d - i - 1) ps → Waits t d (seat t i ∷ ps)
unfolding All NoneTwice
one_more t i d ps h b w =
    let f : length ps ≤ d - i - 1 = w.few in
    record {
      earlier = (record { i = i; less = h; sits = record { below = omega arith; at = refl } }, all_earlier t i d ps h b w.earlier);
      once = (none_here t i d ps h b w.earlier, w.once);
      few = omega arith;
    }

no_wait : (t d : ℕ) → Waits t d []
unfolding All NoneTwice
no_wait t d = record { earlier = tt; once = tt; few = omega arith }

-- where q may run, a turn serves it or one that is visited before it
not_past : (t d q : ℕ) (runs : ℕ → Bool) → Sits t d q → runs q ≡ true → passed_over t runs ≤ d
unfolding passed_over
not_past t d q runs s r =
    elim (dec_lt d (lowest qp_count (λ i. runs (seat t i)))) [
      | yes h ↦ absurd (true≢false (sym r ∙ ap runs (sym s.at) ∙ lowest_least qp_count (λ i. runs (seat t i)) d h))
      | no h ↦ omega arith
    ]

-- ---- what one call does to the turn place

-- the call leaves the card c' and serves a queue pair, or none
abbrev TurnsBy : (c c' : Card) → Option ℕ → Type 0
TurnsBy c c' none = c'.turn ≡ c.turn
TurnsBy c c' (some p) = (passed_over c.turn (runnable c) < qp_count) × ((p ≡ served c) × (c'.turn ≡ after p))

abbrev Turned : Card → Call → Result → Type 0
Turned c k r = is_some (begins k) && is_done r.answer ≡ false → TurnsBy c r.card (served_in (given k).pair r.answer r.value)

refused_turns : (c : Card) (o : OnPair) (v n : ℕ) → TurnsBy c c (served_in o (answered 0 (some n)) v)
refused_turns c OnPair.turns v n = of_refused (λ r. TurnsBy c c (served_in OnPair.turns r v)) (λ x. refl) (λ x. refl) n
refused_turns c OnPair.nothing v n = refl
refused_turns c (OnPair.sends q r) v n = refl
refused_turns c (OnPair.receives q w) v n = refl
refused_turns c (OnPair.flushes q) v n = refl
refused_turns c (OnPair.enqueues q r) v n = refl

command_turn : (c : Card) (k : Command) → (command_effect c k).turn ≡ c.turn
unfolding command_effect
command_turn c Command.query_device = refl
command_turn c Command.query_port = refl
command_turn c (Command.create_cq n) = refl
command_turn c (Command.destroy_cq n) = refl
command_turn c Command.create_pd = refl
command_turn c (Command.destroy_pd n) = refl
command_turn c (Command.register g) = refl
command_turn c (Command.deregister n) = refl
command_turn c (Command.create_qp r) = refl
command_turn c (Command.modify_qp r) = refl
command_turn c (Command.destroy_qp q) = refl

done_turns : (c : Card) (k : Call) → Passed (checks c k) → Turned c k (settled none c k)
unfolding checks memory_checks turn_checks effect value_of send_effect received joined flushed polled enqueued turn_effect head_gone served
done_turns c (Call.reset n) p e = absurd (true≢false e)
done_turns c (Call.control k a) p e = go (command_of k)
  where
    go : (o : Option Command) → (maybe c (command_effect c) o).turn ≡ c.turn
    go none = refl
    go (some x) = command_turn c x
done_turns c (Call.register_pages k ps a) p e = refl
done_turns c (Call.send q x m) p e = refl
done_turns c (Call.receive q x) p e = go (flushes_at_once c q)
  where
    w : Receive
    w = receive_in x

    go : (b : Bool) → (cond {A = Card} b (with_cq c (put_all (join_puts c q w) c.cq)) (joined c q w)).turn ≡ c.turn
    go true = refl
    go false = refl
done_turns c (Call.flush q) p e = refl
done_turns c (Call.enqueue q x m) p e = refl
done_turns c (Call.turn m) p e = (leb-false qp_count _ p.1.0, (refl, refl))
done_turns c (Call.poll n b) p e = refl

module _ (cardOf : List ℕ → Card) (accepts : List ℕ → Bool) where
  call_turns : (st : List ℕ) (x : Seen) → Met cardOf accepts st x → GoesOn x → TurnsBy (cardOf st) (cardOf x.left.state) (serves x)
  call_turns st x h g =
      let r : Result = owed cardOf accepts st x.call in
      rw (h.card, h.answer, h.value)
      (of_owed Turned (λ c k n e. refused_turns c (given k).pair 0 n) done_turns cardOf accepts st x.call (rw h.answer at g))

-- ---- along a list

module _ (Made : (st : List ℕ) → Seen → Type 0) (cardOf : List ℕ → Card) (accepts : List ℕ → Bool)
    (met : (st : List ℕ) (x : Seen) → Made st x → Met cardOf accepts st x) (q : ℕ) where
  abbrev next : List ℕ → ℕ
  next st = (cardOf st).turn

  waits : (st : List ℕ) (xs : List Seen) (d : ℕ) → Sits (next st) d q → Linked Made st xs → All GoesOn xs → Runnable cardOf q st xs →
      Waits (next st) d (before q (servings xs))
  unfolding Linked All Runnable servings before served
  waits st [] d z h g r = no_wait (next st) d
  waits st (x ∷ xs) d z h g r =
      go (serves x) (call_turns cardOf accepts st x (met st x h.0) g.0) r.0 (λ e y. waits x.left.state xs e y h.1 g.1 r.1)
    where
      rest : List ℕ
      rest = before q (servings xs)

      runs : ℕ → Bool
      runs = runnable (cardOf st)

      i : ℕ
      i = passed_over (next st) runs

      left : List ℕ
      left = x.left.state

      go : (o : Option ℕ) → TurnsBy (cardOf st) (cardOf left) o → AtServing o (runs q ≡ true) →
          ((e : ℕ) → Sits (next left) e q → Waits (next left) e rest) → Waits (next st) d (before q (more o (servings xs)))
      go none e u ih = let w = ih d (rw e z) in rw e at w
      go (some p) e u ih = at (eqb p q) refl
        where
          at : (b : Bool) → eqb p q ≡ b → Waits (next st) d (cond b [] (p ∷ rest))
          at true h = no_wait (next st) d
          at false h =
              let n : p ≢ q = eqb-false p q h in
              let k : i ≤ d = not_past (next st) d q runs z u in
              let y : i ≢ d = (λ v. n (e.1.0 ∙ ap (seat (next st)) v ∙ z.at)) in
              let less : i < d = omega arith in
              let f : next left ≡ after (seat (next st) i) = e.1.1 ∙ ap after e.1.0 in
              let w = ih (d - i - 1) (rw f (later (next st) i d q less z)) in
              rw e.1.0 (one_more (next st) i d rest less z.below (rw f at w))

-- ---- within eight

found_soon : (q k : ℕ) (ps : List ℕ) → length (before q ps) < k → k ≤ length ps → is_among q (take k ps) ≡ true
unfolding before is_among
found_soon q zero ps h l = absurd (omega arith)
found_soon q (suc k) [] h l = absurd (omega arith)
found_soon q (suc k) (p ∷ ps) h l = go (eqb p q) h (λ a b. found_soon q k ps a b)
  where
    go : (b : Bool) → length (cond b [] (p ∷ before q ps)) < suc k → (length (before q ps) < k → k ≤ length ps → is_among q (take k ps) ≡ true) →
        (b || is_among q (take k ps)) ≡ true
    go true h ih = refl
    go false h ih = ih (omega arith) (omega arith)

module _ (Made : (st : List ℕ) → Seen → Type 0) (cardOf : List ℕ → Card) (accepts : List ℕ → Bool)
    (met : (st : List ℕ) (x : Seen) → Made st x → Met cardOf accepts st x) where
  -- from any card that agrees with a log
  pub fair_from : (st : List ℕ) (l : Log) → Agree (cardOf st) l → (ys : List Seen) → Linked Made st ys → All GoesOn ys →
      (q : ℕ) → q < qp_count → Runnable cardOf q st ys → FairTo q (servings ys)
  fair_from st l a ys h g q below r =
      let bound : (cardOf st).turn < qp_count = a.turn in
      let d : ℕ = (q + (qp_count - (cardOf st).turn)) % qp_count in
      let w = waits Made cardOf accepts met q st ys d (record { below = omega arith; at = omega arith }) h g r in
      let f : length (before q (servings ys)) ≤ d = w.few in
      let m : d < qp_count = omega arith in
      record { within = λ k. found_soon q 8 (servings ys) (omega arith) k; once = w.once }

  pub fair : Fair Made cardOf
  unfolding Fair AfterReset
  fair x b xs links ys more on q below r =
      fair_from (state_after x.left.state xs) _
      (agrees_after Made cardOf accepts met x.left.state b.base xs (begun Made cardOf accepts met x b) links) ys more on q below r
