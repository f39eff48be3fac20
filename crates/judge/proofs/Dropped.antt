-- A work request that needs a key whose registration does not stand. Assumes nothing.
use mathlib.Core.Path.{◌≡◌, refl, sym, ap, ◌∙◌}
use mathlib.Core.Bool.{Bool, true, false, cond, not, true≢false, false≢true}
use mathlib.Core.List.{List}
use mathlib.Core.Option.{Option, none, some}
use Prim.Native.Nat.{ℕ}
use lib.Dec.{leb}
use Rattle.wire.specs.Checks.{Check, refusal}
use Rattle.wire.proofs.ScanLaws.{and_left, and_right}
use Rattle.tables.specs.Limits.{most_message}
use Rattle.wire.proofs.SlotLaws.{split, same}
use Rattle.tables.specs.Card.{Card}
use Rattle.rules.specs.Touch.{fills, total, far_bytes}
use Rattle.tables.specs.Records.{Request}
use Rattle.tables.specs.Commands.{Command, command_of}
use Rattle.rules.specs.Answer.{is_done}
use Rattle.rules.specs.Call.{Call}
use Rattle.rules.specs.Calls.{checks, effect, settled, usable, owed_checks, owed}
use Rattle.rules.specs.Control.{command_effect}
use Rattle.rules.specs.Permit.{lookup}
use Rattle.rules.specs.Turn.{head_gone}
use Rattle.rules.specs.Send.{peer_of, taken_by, is_in_error, send_status, send_effect, send_memory}
use Rattle.rules.specs.declared.Answer.{Answer}
use Rattle.rules.specs.declared.Answer.TheVariants.{Done}
use Rattle.rules.specs.Dropped.{LostBy, Reaches, far_key}
use Rattle.rules.proofs.Answers.{answered_not_done}
use Rattle.rules.proofs.Dropped.{lost, same_checks}
use Rattle.judge.specs.Log.{Log}
use Rattle.judge.specs.Judge.{standing, near, far, all_pass, near_passes}
use Rattle.judge.specs.Demand3.{Seen, Linked}
use Rattle.judge.specs.Distinct.{handed, Distinct}
use Rattle.judge.specs.Dropped.{ended, Stale, Loses, StaysHeld}
use Rattle.judge.specs.Whole.{Met}
use Rattle.judge.proofs.Keys
use Rattle.judge.proofs.Agree.{Agree, Going, Sendable}
use Rattle.judge.proofs.Demand3.{works, same_error, same_filled, near_is, fits_is}
use Rattle.judge.proofs.Run.{Shows}
use Rattle.rules.specs.Lists.{maybe}

module _ (c : Card) (l : Log) (a : Agree c l) (q : ℕ) (r : Request) {m : List ℕ} (p : Sendable c q r m) (i : ℕ) (s : Stale l (works q r) i) where
  running : is_in_error (c.qp q) ≡ false
  running = sym (same_error c l a q r p) ∙ s.running

  g : Going c q r
  g = p.going running

  far_bytes_lem : (far l (works q r)).bytes ≡ far_bytes r (taken_by c q)
  unfolding far
  far_bytes_lem = ap (far_bytes r) (same_filled c l a q r p g)

  reaches : Reaches c q r i
  unfolding near_passes
  reaches =
      record {
        running = running;
        short = and_left (leb (total r) most_message) (all_pass l (near l (works q r))) s.near;
        own = sym (near_is c l a q r p g) ∙ and_right (leb (total r) most_message) (all_pass l (near l (works q r))) s.near;
        fits = λ e. rw e at (sym (fits_is c l a q r p g) ∙ s.fits);
        within = rw far_bytes_lem at s.within;
      }

  no_region : lookup c.mr (far_key c q r i) ≡ none
  no_region = Keys.finds_none c.memory c.mr (standing l) (ended l) (handed l) (Distinct l) a.keys (far_key c q r i) (rw far_bytes_lem at s.gone)

-- where the head of the queue has left, too
module _ (c c' : Card) (q : ℕ) (r : Request) (a : Answer) (m m' : List ℕ) where
  gone_waiting : (j : ℕ) → ((head_gone c' q).qp j).waiting ≡ (c'.qp j).waiting
  unfolding head_gone
  gone_waiting = split q (λ j. ((head_gone c' q).qp j).waiting ≡ (c'.qp j).waiting) (rw same) (λ j e. rw e)

  gone_state : (j : ℕ) → ((head_gone c' q).qp j).state ≡ (c'.qp j).state
  unfolding head_gone
  gone_state = split q (λ j. ((head_gone c' q).qp j).state ≡ (c'.qp j).state) (rw same) (λ j e. rw e)

  lost_gone : (b : Bool) → LostBy b c c' q r a m m' → LostBy b c (head_gone c' q) q r a m m'
  unfolding head_gone
  lost_gone true f =
      record {
        answer = f.answer;
        memory = f.memory;
        puts = f.puts;
        receiver = f.receiver;
        consumed = gone_waiting (peer_of c q) ∙ f.consumed;
        sender_state = gone_state q ∙ f.sender_state;
        peer_state = gone_state (peer_of c q) ∙ f.peer_state;
      }
  lost_gone false f =
      record {
        answer = f.answer;
        memory = f.memory;
        puts = f.puts;
        sender_state = gone_state q ∙ f.sender_state;
        others = λ j e. rw e (f.others j e);
      }

pub fruitless : Shows Loses
fruitless =
    record {
      posted = λ c l a q r m p i s. lost c q r m i (reaches c l a q r p i s) (no_region c l a q r p i s);
      turned =
          λ c l a q r m p i s.
          lost_gone c (send_effect c q r) q r (Done (send_status c q r)) m (send_memory c q r m) (fills r.opcode)
          (lost c q r m i (reaches c l a q r p i s) (no_region c l a q r p i s));
    }

-- ---- a held post send stays held

module _ (cardOf : List ℕ → Card) (accepts : List ℕ → Bool) where
  -- a call that was answered 0 found its state acceptable; a post send and a control command test the same
  done_usable : (st : List ℕ) (k : Call) → is_done (owed cardOf accepts st k).answer ≡ true → usable cardOf accepts st k ≡ true
  done_usable st k = go (usable cardOf accepts st k) (checks (cardOf st) k)
    where
      go : (b : Bool) (cs : List Check) → is_done (settled (cond (not b) (some 15) (refusal cs)) (cardOf st) k).answer ≡ true → b ≡ true
      go true cs e = refl
      go false cs e = absurd (false≢true e)

  dropped_card : (st k a : List ℕ) (n : ℕ) → command_of k ≡ some (Command.deregister n) → is_done (owed cardOf accepts st (Call.control k a)).answer ≡ true →
      (owed cardOf accepts st (Call.control k a)).card ≡ command_effect (cardOf st) (Command.deregister n)
  unfolding effect
  dropped_card st k a n e = go (refusal (owed_checks cardOf accepts st (Call.control k a)))
    where
      go : (o : Option ℕ) → is_done (settled o (cardOf st) (Call.control k a)).answer ≡ true →
          (settled o (cardOf st) (Call.control k a)).card ≡ command_effect (cardOf st) (Command.deregister n)
      go none d = ap (maybe (cardOf st) (command_effect (cardOf st))) e
      go (some i) d = absurd (true≢false (sym d ∙ answered_not_done i))

  -- the same post send before and after the drop
  same_held : (st st' : List ℕ) (n q : ℕ) (s m : List ℕ) → accepts st ≡ true → accepts st' ≡ true →
      cardOf st' ≡ command_effect (cardOf st) (Command.deregister n) → is_done (owed cardOf accepts st (Call.send q s m)).answer ≡ false →
      (owed cardOf accepts st' (Call.send q s m)).answer ≡ (owed cardOf accepts st (Call.send q s m)).answer
  same_held st st' n q s m u v e d =
      rw (v, u, e, same_checks (cardOf st) n q s m) (go (refusal (checks (cardOf st) (Call.send q s m))) (rw u at d))
    where
      go : (o : Option ℕ) → is_done (settled o (cardOf st) (Call.send q s m)).answer ≡ false →
          (settled o (command_effect (cardOf st) (Command.deregister n)) (Call.send q s m)).answer ≡ (settled o (cardOf st) (Call.send q s m)).answer
      go none h = absurd (true≢false h)
      go (some i) h = refl

  module _ (Made : (st : List ℕ) → Seen → Type 0) (met : (st : List ℕ) (x : Seen) → Made st x → Met cardOf accepts st x) where
    pub stays_held : StaysHeld Made
    unfolding StaysHeld Linked
    stays_held q n s m k a st x y z links is d yis e zis =
        let hx = met st x links.0 in
        let hy = met x.left.state y links.1.0 in
        let hz = met y.left.state z links.1.1.0 in
        let before : x.left.state ≡ st = hx.kept d in
        let ax : x.left.answer ≡ (owed cardOf accepts st (Call.send q s m)).answer = rw is at hx.answer in
        let ay : y.left.answer ≡ (owed cardOf accepts st (Call.control k a)).answer = rw (before, yis) at hy.answer in
        let az : z.left.answer ≡ (owed cardOf accepts y.left.state (Call.send q s m)).answer = rw (zis, is) at hz.answer in
        az ∙ go (is_done y.left.answer) refl hy before ax ay ∙ sym ax
      where
        go : (b : Bool) → is_done y.left.answer ≡ b → Met cardOf accepts x.left.state y → x.left.state ≡ st →
            x.left.answer ≡ (owed cardOf accepts st (Call.send q s m)).answer → y.left.answer ≡ (owed cardOf accepts st (Call.control k a)).answer →
            (owed cardOf accepts y.left.state (Call.send q s m)).answer ≡ (owed cardOf accepts st (Call.send q s m)).answer
        go true i hy before ax ay =
            let f : is_done (owed cardOf accepts st (Call.control k a)).answer ≡ true = ap is_done (sym ay) ∙ i in
            same_held st y.left.state n q s m (done_usable st (Call.control k a) f) (hy.sound i)
            ((rw (before, yis) at hy.card) ∙ dropped_card st k a n e f) (ap is_done (sym ax) ∙ d)
        go false i hy before ax ay = ap (λ (t : List ℕ). (owed cardOf accepts t (Call.send q s m)).answer) (hy.kept i ∙ before)
