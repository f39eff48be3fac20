-- Claims along the lists of calls that begin with a reset answered 0. Assumes nothing.
use mathlib.Core.Path.{◌≡◌, refl, sym, ap, ◌∙◌}
use mathlib.Core.Bool.{Bool, true, false, cond, true≢false}
use mathlib.Core.List.{List, [], ◌∷◌}
use mathlib.Core.Option.{Option, none, some, some-ne-none}
use Prim.Native.Nat.{ℕ}
use native.Mathlib.Omega.{arith}
use lib.Dec.{eqb}
use lib.ListN.{length}
use borrow.Author.Tests.{ne_eqb, not-false}
use Rattle.wire.specs.Checks.{refusal, Passed}
use Rattle.wire.proofs.CheckLaws.{passed}
use Rattle.tables.specs.Card.{Card, fresh}
use Rattle.tables.specs.Layout.{state_size}
use Rattle.rules.specs.Answer.{answered, number, is_done}
use Rattle.rules.specs.Call.{Call, given, memory_of, Outcome}
use Rattle.rules.specs.Calls.{checks, effect, status_of, value_of, memory_after, buffer_refused, settled, step, owed, usable, Result, Meets}
use Rattle.rules.specs.declared.Answer.{Answer}
use Rattle.rules.specs.declared.Cause.{Cause}
use Rattle.tables.specs.Records.{Request, request_of}
use Rattle.tables.specs.Records.{receive_checks}
use Rattle.rules.specs.Queues.{join_checks, join_status}
use Rattle.rules.proofs.Tests.{passed_after}
use Rattle.rules.specs.Turn.{served, head_of, head_gone, turn_effect}
use Rattle.rules.specs.Send.{send_status, send_effect, send_memory}
use Rattle.rules.specs.declared.Cause.TheVariants.{Peer, Place}
use Rattle.rules.specs.declared.Answer.TheVariants.{Done, Held, Refused}
use Rattle.rules.proofs.Answers.{owed_is, step_below, answered_not_done}
use Rattle.judge.specs.Log.{Log, begins, fed}
use Rattle.judge.specs.Judge.{Work, waiting}
use Rattle.judge.specs.Whole.{Met}
use Rattle.judge.specs.Demand3.{Judged, posted_on, FlushedBy, Flushes, Seen, heard, Claim, Each, log_after, state_after, work_by, work, WorkClaim, WhenDone, OfWork, Linked, Begins, AfterReset, Every, Resumed, Steady}
use Rattle.judge.proofs.Agree.{Agree, start, Sendable, sendable, turning, same_head, turn_sendable, accepted_call}
use Rattle.judge.proofs.Demand3.{works, Proves}
use Rattle.judge.proofs.Bytes.{judged}

-- ---- what one call leaves, by its tests: Q of a call that is refused or held, and of one that is done

module _ (Q : Card → Call → Result → Type 0)
    (refused : (c : Card) (k : Call) (n : ℕ) → Q c k (settled (some n) c k))
    (done : (c : Card) (k : Call) → Passed (checks c k) → Q c k (settled none c k)) where
  of_step : (c : Card) (k : Call) → Q c k (step c k)
  unfolding step
  of_step c k = go (refusal (checks c k)) refl
    where
      go : (o : Option ℕ) → refusal (checks c k) ≡ o → Q c k (settled o c k)
      go none e = done c k (passed (checks c k) e)
      go (some n) e = refused c k n

  pub of_owed : (cardOf : List ℕ → Card) (accepts : List ℕ → Bool) (st : List ℕ) (k : Call) → Q (cardOf st) k (owed cardOf accepts st k)
  of_owed cardOf accepts st k = rw (owed_is cardOf accepts st k) (go (usable cardOf accepts st k))
    where
      go : (b : Bool) → Q (cardOf st) k (cond b (step (cardOf st) k) (settled (some 15) (cardOf st) k))
      go true = of_step (cardOf st) k
      go false = refused (cardOf st) k 15

-- an answer of a test is held or refused
pub of_refused : (F : Answer → Type 0) → ((c : Cause) → F (Held c)) → ((n : ℕ) → F (Refused n)) → (n : ℕ) → F (answered 0 (some n))
of_refused F held refused n = go (eqb n 5) (eqb n 6)
  where
    go : (x y : Bool) → F (cond x (Held Peer) (cond y (Held Place) (Refused n)))
    go true y = held Peer
    go false true = held Place
    go false false = refused n

-- ---- the agreement after a call

abbrev Agrees : Log → Card → Call → Result → Type 0
Agrees l c k r = Agree c l → Agree r.card (fed l k r.answer r.value r.buffer)

agrees_refused : (l : Log) (c : Card) (k : Call) (n : ℕ) → Agrees l c k (settled (some n) c k)
unfolding fed
agrees_refused l c k n = of_refused (λ r. Agree c l → Agree c (fed l k r 0 (buffer_refused n k))) (λ x a. a) (λ x a. a) n

-- ---- a claim of a work request, where the agreement proves it: of the cards before and after it, too

abbrev pub CardClaim : Type 1
CardClaim = (l : Log) → (c c' : Card) → Work → (s : ℕ) → (m m' : List ℕ) → Type 0

-- of a request with the card c' after it
abbrev Shown : CardClaim → (after : Card → (q : ℕ) → Request → Card) → Type 0
Shown P after =
    (c : Card) (l : Log) (a : Agree c l) (q : ℕ) (r : Request) (m : List ℕ) → Sendable c q r m →
    P l c (after c q r) (works q r) (send_status c q r) m (send_memory c q r m)

-- posted, or run by a turn
pub record Shows (P : CardClaim) : Type 0 where
  pub posted : Shown P send_effect
  pub turned : Shown P (λ c q r. head_gone (send_effect c q r) q)

module _ (P : CardClaim) (shows : Shows P) (l : Log) where
  abbrev Right : Card → Call → Result → Type 0
  Right c k r = Agree c l → (o : Outcome) → o.value ≡ r.value → WhenDone (λ w s. P l c r.card w s (memory_of k) r.memory) (work_by l k o) r.answer

  ran_none : (f : Work → ℕ → Type 0) (w : Option Work) (n : ℕ) → WhenDone f w (answered 0 (some n))
  ran_none f none n = tt
  ran_none f (some w) n = of_refused (WhenDone f (some w)) (λ x. tt) (λ x. tt) n

  right_done : (c : Card) (k : Call) → Passed (checks c k) → Right c k (settled none c k)
  unfolding status_of value_of memory_after effect turn_effect
  right_done c (Call.reset n) p a o e = tt
  right_done c (Call.control k b) p a o e = tt
  right_done c (Call.register_pages k ps b) p a o e = tt
  right_done c (Call.send q x m) p a o e = shows.posted c l a q (request_of x) m (sendable c q x m p)
  right_done c (Call.receive q x) p a o e = tt
  right_done c (Call.flush q) p a o e = tt
  right_done c (Call.enqueue q x m) p a o e = tt
  right_done c (Call.turn m) p a o e =
      let t = turning c m p in
      rw (e, same_head c l a (served c) t.live)
      (shows.turned c l a (served c) (head_of c (served c)) m (turn_sendable c l a m t))
  right_done c (Call.poll n b) p a o e = tt

  right : (k : Call) (cardOf : List ℕ → Card) (accepts : List ℕ → Bool) (st : List ℕ) → Right (cardOf st) k (owed cardOf accepts st k)
  right k cardOf accepts st =
      of_owed Right (λ c k n a o e. ran_none (λ w s. P l c c w s (memory_of k) (memory_of k)) (work_by l k o) n) right_done cardOf accepts st k

module _ (cardOf : List ℕ → Card) (accepts : List ℕ → Bool) where
  pub still_agrees : (st : List ℕ) (l : Log) (x : Seen) → Agree (cardOf st) l → Met cardOf accepts st x → Agree (cardOf x.left.state) (heard l x)
  still_agrees st l x a h =
      rw (h.card, h.answer, h.value, h.buffer) (of_owed (Agrees l) (agrees_refused l) (λ c k p a. accepted_call c k l p a) cardOf accepts st x.call a)

  pub of_cards : (P : CardClaim) → Shows P → (st : List ℕ) (l : Log) (x : Seen) → Agree (cardOf st) l → Met cardOf accepts st x →
      WhenDone (λ w s. P l (cardOf st) (cardOf x.left.state) w s (memory_of x.call) x.left.memory) (work l x) x.left.answer
  of_cards P shows st l x a h = go x.call x.left h
    where
      go : (k : Call) (o : Outcome) → Meets cardOf accepts st k o →
          WhenDone (λ w s. P l (cardOf st) (cardOf o.state) w s (memory_of k) o.memory) (work_by l k o) o.answer
      go k o h =
          let r : Result = owed cardOf accepts st k in
          rw (h.answer, h.card, h.memory)
          (right P shows l k cardOf accepts st a o h.value)

  pub of_work : (P : WorkClaim) → Proves P → (st : List ℕ) (l : Log) (x : Seen) → Agree (cardOf st) l → Met cardOf accepts st x → OfWork P st l x
  of_work P proves = of_cards (λ l c c' w s m m'. P l w s m m') (record { posted = proves; turned = proves })

  -- a receive that is done is flushed, or waits, by the log
  flushes_card : (l : Log) (c : Card) (k : Call) → Passed (checks c k) → Agree c l → FlushedBy l (posted_on k) (Done (status_of c k))
  unfolding checks join_checks status_of join_status waiting
  flushes_card l c (Call.reset n) p a = tt
  flushes_card l c (Call.control k b) p a = tt
  flushes_card l c (Call.register_pages k ps b) p a = tt
  flushes_card l c (Call.send q x m) p a = tt
  flushes_card l c (Call.receive q x) p a =
      let h = a.pairs q (not-false _ (passed_after (receive_checks x) (join_checks c q) p).0) in
      rw (← h.errs, ← h.waits) refl
  flushes_card l c (Call.flush q) p a = tt
  flushes_card l c (Call.enqueue q x m) p a = tt
  flushes_card l c (Call.turn m) p a = tt
  flushes_card l c (Call.poll n b) p a = tt

  flushes_none : (l : Log) (o : Option ℕ) (n : ℕ) → FlushedBy l o (answered 0 (some n))
  flushes_none l none n = tt
  flushes_none l (some q) n = of_refused (FlushedBy l (some q)) (λ x. tt) (λ x. tt) n

  pub flushes : (st : List ℕ) (l : Log) (x : Seen) → Agree (cardOf st) l → Met cardOf accepts st x → Flushes st l x
  flushes st l x a h =
      rw h.answer
      (of_owed (λ c k r. Agree c l → FlushedBy l (posted_on k) r.answer) (λ c k n a. flushes_none l (posted_on k) n) (λ c k p a. flushes_card l c k p a)
      cardOf accepts st x.call a)

  -- every state of a list is accepted where one is
  module _ (sized : (l : List ℕ) → accepts l ≡ true → eqb (length l) state_size ≡ true) where
    usable_accepted : (l : List ℕ) (k : Call) → accepts l ≡ true → usable cardOf accepts l k ≡ true
    usable_accepted l k e = go (given k).whole
      where
        go : (b : Bool) → cond b (accepts l) (eqb (length l) state_size) ≡ true
        go true = e
        go false = sized l e

    not_15 : (l : List ℕ) (x : Seen) → Met cardOf accepts l x → accepts l ≡ true → eqb (number x.left.answer) 15 ≡ false
    not_15 l x h e =
        rw (h.answer, owed_is cardOf accepts l x.call, usable_accepted l x.call e)
        (let b = step_below (cardOf l) x.call in ne_eqb (number (step (cardOf l) x.call).answer) 15 (omega arith))

    pub still_accepted : (l : List ℕ) (x : Seen) → Met cardOf accepts l x → accepts l ≡ true → accepts x.left.state ≡ true
    still_accepted l x h e = go (is_done x.left.answer) refl
      where
        go : (b : Bool) → is_done x.left.answer ≡ b → accepts x.left.state ≡ true
        go true d = h.sound d
        go false d = rw (h.kept d) e

-- ---- lists

-- an answer Done 0 is no refusal
not_refused : (n : ℕ) → answered 0 (some n) ≡ Done 0 → ⊥
not_refused n e = true≢false (sym (ap is_done e) ∙ answered_not_done n)

-- a log begins with nothing under it, and with the card after a reset
pub record Fresh (c : Card) (base : Log) : Type 0 where
  pub length : ℕ
  pub card : c ≡ fresh length
  pub empty : base ≡ []

fresh_agrees : (c : Card) (base : Log) → Fresh c base → Agree c base
fresh_agrees c base f = rw (f.card, f.empty) (start f.length)

abbrev FreshAfter : Card → Call → Result → Type 0
FreshAfter c k r = (base : Log) → begins k ≡ some base → r.answer ≡ Done 0 → Fresh r.card base

fresh_done : (c : Card) (k : Call) → Passed (checks c k) → FreshAfter c k (settled none c k)
unfolding effect
fresh_done c (Call.reset n) p base e d = record { length = n; card = refl; empty = cc }
fresh_done c (Call.control k a) p base e d = absurd (some-ne-none base (sym e))
fresh_done c (Call.register_pages k ps a) p base e d = absurd (some-ne-none base (sym e))
fresh_done c (Call.send q x m) p base e d = absurd (some-ne-none base (sym e))
fresh_done c (Call.receive q x) p base e d = absurd (some-ne-none base (sym e))
fresh_done c (Call.flush q) p base e d = absurd (some-ne-none base (sym e))
fresh_done c (Call.enqueue q x m) p base e d = absurd (some-ne-none base (sym e))
fresh_done c (Call.turn m) p base e d = absurd (some-ne-none base (sym e))
fresh_done c (Call.poll n b) p base e d = absurd (some-ne-none base (sym e))

-- Made is what is known of the calls of a list, and makes them meet their contract
module _ (Made : (st : List ℕ) → Seen → Type 0) (cardOf : List ℕ → Card) (accepts : List ℕ → Bool)
    (met : (st : List ℕ) (x : Seen) → Made st x → Met cardOf accepts st x) where
  -- whatever the state held
  pub fresh_card : (x : Seen) (b : Begins Made x) → Fresh (cardOf x.left.state) b.base
  fresh_card x b =
      let h = met b.before x b.made in
      rw h.card
      (of_owed FreshAfter (λ c k n base e d. absurd (not_refused n d)) fresh_done cardOf accepts b.before x.call b.base b.begin
      (sym h.answer ∙ b.done))

  pub begun : (x : Seen) (b : Begins Made x) → Agree (cardOf x.left.state) b.base
  begun x b = fresh_agrees (cardOf x.left.state) b.base (fresh_card x b)

  -- from any card that agrees with a log
  pub each : (P : Claim) → ((st : List ℕ) (l : Log) (x : Seen) → Agree (cardOf st) l → Met cardOf accepts st x → P st l x) →
      (st : List ℕ) (l : Log) (xs : List Seen) → Agree (cardOf st) l → Linked Made st xs → Each P st l xs
  unfolding Each Linked
  each P claim st l [] a h = tt
  each P claim st l (x ∷ xs) a h =
      let m = met st x h.0 in
      (claim st l x a m, each P claim x.left.state (heard l x) xs (still_agrees cardOf accepts st l x a m) h.1)

  pub agrees_after : (st : List ℕ) (l : Log) (xs : List Seen) → Agree (cardOf st) l → Linked Made st xs →
      Agree (cardOf (state_after st xs)) (log_after l xs)
  unfolding Linked state_after log_after
  agrees_after st l [] a h = a
  agrees_after st l (x ∷ xs) a h = agrees_after x.left.state (heard l x) xs (still_agrees cardOf accepts st l x a (met st x h.0)) h.1

  -- a claim of the calls of a list, and of its work requests
  pub every : (P : Claim) → ((st : List ℕ) (l : Log) (x : Seen) → Agree (cardOf st) l → Met cardOf accepts st x → P st l x) → Every Made P
  unfolding AfterReset
  every P claim x b xs links = each P claim x.left.state b.base xs (begun x b) links

  pub every_work : (P : WorkClaim) → Proves P → Every Made (OfWork P)
  every_work P claim = every (OfWork P) (of_work cardOf accepts P claim)

  pub resumed : Resumed Made cardOf
  unfolding AfterReset
  resumed x b xs links st is ys more =
      each (λ s l y. OfWork Judged s l y × Flushes s l y)
      (λ s l y a h. (of_work cardOf accepts Judged judged s l y a h, flushes cardOf accepts s l y a h)) st (log_after b.base xs) ys
      (rw is (agrees_after x.left.state b.base xs (begun x b) links)) more

  -- no call of such a list is answered 15
  module _ (sized : (l : List ℕ) → accepts l ≡ true → eqb (length l) state_size ≡ true) where
    all_steady : (st : List ℕ) (l : Log) (xs : List Seen) → accepts st ≡ true → Linked Made st xs → Each (Steady accepts) st l xs
    unfolding Each Linked
    all_steady st l [] e h = tt
    all_steady st l (x ∷ xs) e h =
        let m = met st x h.0 in
        let a = still_accepted cardOf accepts sized st x m e in
        ((a, not_15 cardOf accepts sized st x m e), all_steady x.left.state (heard l x) xs a h.1)

    pub steady : Every Made (Steady accepts)
    unfolding AfterReset
    steady x b xs links = all_steady x.left.state b.base xs ((met b.before x b.made).sound (ap is_done b.done)) links
