-- The queue pair table against the log: the domain, the flags, the peer, the waiting receives and the error of each live queue pair. Assumes nothing.
use mathlib.Core.Path.{◌≡◌, refl, sym, ap, ◌∙◌}
use mathlib.Core.Bool.{Bool, true, false, cond, not, ◌&&◌, ◌||◌, false≢true}
use mathlib.Core.List.{List, [], ◌∷◌, ◌++◌}
use mathlib.Core.Option.{Option, none, some}
use Prim.Native.Nat.{ℕ, zero, suc, ◌≤◌}
use native.Mathlib.Omega.{arith}
use lib.Dec.{eqb}
use lib.ListN.{length, drop, length-append}
use lib.Seq.{drop-append-le}
use Rattle.wire.proofs.SlotLaws.{split, same}
use Rattle.wire.specs.Slots.{upd}
use Rattle.tables.specs.Card.{Qp, Receive, with_queue, tail}
use Rattle.tables.specs.declared.CreateQp.{CreateQp}
use Rattle.tables.specs.declared.ModifyQp.{ModifyQp}
use Rattle.rules.specs.Lists.{All, is_some, is_empty, when}
use Rattle.rules.specs.Touch.{takes}
use Rattle.tables.specs.Records.{Request}
use Rattle.rules.specs.Send.{error_if, consume_if, consumes, fails, is_in_error}
use Rattle.rules.specs.Permit.{Use}
use Rattle.rules.specs.Control.{rights_after}
use Rattle.judge.specs.Log.{Log, PairNote, enqueued_by, enqueued_on, turns_by, turns_on}
use Rattle.judge.specs.Judge.{domain, domain_by, rights, rights_by, peer, peer_by, accepted, accepted_by, consumed, consumed_by, errored, errored_by}
use Rattle.judge.proofs.Rights.{same_right}

pub and_false : (b : Bool) → b && false ≡ false
and_false true = refl
and_false false = refl

and_true : (b : Bool) → b && true ≡ b
and_true true = refl
and_true false = refl

-- all that the log says of one queue pair
pub record Said : Type 0 where
  pub domain : Option ℕ
  pub rights : ℕ
  pub peer : Option ℕ
  pub accepted : List Receive
  pub consumed : ℕ
  pub enqueued : List Request
  pub turns : ℕ
  pub errored : Bool

abbrev pub said : Log → ℕ → Said
said l q =
    record {
      domain = domain l q;
      rights = rights l q;
      peer = peer l q;
      accepted = accepted l q;
      consumed = consumed l q;
      enqueued = enqueued_on l q;
      turns = turns_on l q;
      errored = errored l q;
    }

-- the same after one note more, its own or one of a queue pair whose peer it then was
abbrev pub said_by : PairNote → (own named : Bool) → Said → Said
said_by n own named v =
    record {
      domain = when own (domain_by n) v.domain;
      rights = when own (rights_by n) v.rights;
      peer = when own (peer_by n) v.peer;
      accepted = when own (accepted_by n) v.accepted;
      consumed = consumed_by n own named v.consumed;
      enqueued = when own (enqueued_by n) v.enqueued;
      turns = when own (turns_by n) v.turns;
      errored = errored_by n own named v.errored;
    }

-- a request whose record passed its own tests
pub record Good (r : Request) : Type 0 where
  pub opcode : r.opcode ≤ 4
  pub inline : r.inline ≡ true → eqb r.opcode 4 ≡ false

-- the fields of a live queue pair agree with it
pub record Knows (pd f : ℕ) (dest : Option ℕ) (ws : List Receive) (rs : List Request) (error : Bool) (v : Said) : Type 0 where
  pub domain : v.domain ≡ some pd
  pub rights : v.rights ≡ f
  pub peer : is_some dest ≡ true → v.peer ≡ dest
  pub waits : ws ≡ drop v.consumed v.accepted
  pub bounded : v.consumed ≤ length v.accepted
  pub queue : rs ≡ drop v.turns v.enqueued
  pub taken : v.turns ≤ length v.enqueued
  pub good : All Good rs
  pub errs : error ≡ v.errored

abbrev pub Pair : Qp → Said → Type 0
Pair s v = s.live ≡ true → Knows s.pd s.rights s.dest s.waiting s.queue (is_in_error s) v

-- a queue pair is created
pub begins : (r : CreateQp) (named : Bool) (v : Said) → Knows r.pd 0 none [] [] false (said_by (PairNote.created r) true named v)
unfolding All
begins r named v =
    record {
      domain = refl;
      rights = refl;
      peer = λ h. absurd (false≢true h);
      waits = refl;
      bounded = omega arith;
      queue = refl;
      taken = omega arith;
      good = tt;
      errs = refl;
    }

-- a receive joins
pub joins : {p f : ℕ} {d : Option ℕ} {ws : List Receive} {rs : List Request} {b : Bool} {v : Said} (w : Receive) (named : Bool) →
    Knows p f d ws rs b v → Knows p f d (ws ++ (w ∷ [])) rs b (said_by (PairNote.posted w 0) true named v)
joins {v} w named k =
    record {
      domain = k.domain;
      rights = k.rights;
      peer = k.peer;
      waits = rw (drop-append-le v.consumed v.accepted (w ∷ []) k.bounded) (ap (λ x. x ++ (w ∷ [])) k.waits);
      bounded = omega (arith, length-append v.accepted (w ∷ []), k.bounded);
      queue = k.queue;
      taken = k.taken;
      good = k.good;
      errs = k.errs;
    }

all_more : {A : Type 0} (P : A → Type 0) (xs : List A) (x : A) → All P xs → P x → All P (xs ++ (x ∷ []))
unfolding All
all_more P [] x h p = (p, tt)
all_more P (y ∷ ys) x h p = (h.0, all_more P ys x h.1 p)

-- a request is enqueued
pub enqueues : {p f : ℕ} {d : Option ℕ} {ws : List Receive} {rs : List Request} {b : Bool} {v : Said} (r : Request) (named : Bool) → Good r →
    Knows p f d ws rs b v → Knows p f d ws (rs ++ (r ∷ [])) b (said_by (PairNote.enqueued r) true named v)
enqueues {rs} {v} r named g k =
    record {
      domain = k.domain;
      rights = k.rights;
      peer = k.peer;
      waits = k.waits;
      bounded = k.bounded;
      queue = rw (drop-append-le v.turns v.enqueued (r ∷ []) k.taken) (ap (λ x. x ++ (r ∷ [])) k.queue);
      taken = omega (arith, length-append v.enqueued (r ∷ []), k.taken);
      good = all_more Good rs r k.good g;
      errs = k.errs;
    }

drop_more : {A : Type 0} (n : ℕ) (xs : List A) → drop (suc n) xs ≡ tail (drop n xs)
drop_more zero [] = refl
drop_more zero (x ∷ xs) = refl
drop_more (suc n) [] = refl
drop_more (suc n) (x ∷ xs) = drop_more n xs

drop_some : {A : Type 0} (n : ℕ) (xs : List A) → is_empty (drop n xs) ≡ false → suc n ≤ length xs
drop_some zero [] e = absurd (false≢true (sym e))
drop_some zero (x ∷ xs) e = omega arith
drop_some (suc n) [] e = absurd (false≢true (sym e))
drop_some (suc n) (x ∷ xs) e = omega (arith, drop_some n xs e)

abbrev pub took : Bool → Said → Said
took b v =
    record {
      domain = v.domain;
      rights = v.rights;
      peer = v.peer;
      accepted = v.accepted;
      consumed = cond b (suc v.consumed) v.consumed;
      enqueued = v.enqueued;
      turns = v.turns;
      errored = v.errored;
    }

pub said_flush : (own named : Bool) (v : Said) → took own v ≡ said_by PairNote.flushed own named v
said_flush true named v = refl
said_flush false named v = refl

-- it goes to error
abbrev pub erred : Bool → Said → Said
erred b v =
    record {
      domain = v.domain;
      rights = v.rights;
      peer = v.peer;
      accepted = v.accepted;
      consumed = v.consumed;
      enqueued = v.enqueued;
      turns = v.turns;
      errored = b || v.errored;
    }

-- a turn took the oldest of its queue
abbrev pub turned : Bool → Said → Said
turned b v =
    record {
      domain = v.domain;
      rights = v.rights;
      peer = v.peer;
      accepted = v.accepted;
      consumed = v.consumed;
      enqueued = v.enqueued;
      turns = cond b (suc v.turns) v.turns;
      errored = v.errored;
    }

pub said_turned : (r : Request) (s : ℕ) (own named : Bool) (v : Said) →
    turned own (said_by (PairNote.sent false r s) own named v) ≡ said_by (PairNote.sent true r s) own named v
said_turned r s true named v = refl
said_turned r s false named v = refl

fails_run : (s : ℕ) → eqb s 4 ≡ false → fails s ≡ not (eqb s 0)
fails_run s e = rw e (and_true (not (eqb s 0)))

pub said_sent : (r : Request) (s : ℕ) → eqb s 4 ≡ false → (own named : Bool) (v : Said) →
    erred (named && eqb s 7) (took (named && consumes r.opcode s) (erred (own && fails s) v)) ≡ said_by (PairNote.sent false r s) own named v
said_sent r s e true named v = rw (fails_run s e)
said_sent r s e false named v = refl

-- a request that is flushed tells nothing new
pub said_flushed : (r : Request) (own named : Bool) (v : Said) → (own ≡ true → v.errored ≡ true) → v ≡ said_by (PairNote.sent false r 4) own named v
said_flushed r true named v h =
    rw (and_false (takes r.opcode), and_false named)
    (ap (λ (b : Bool). record {
      domain = v.domain;
      rights = v.rights;
      peer = v.peer;
      accepted = v.accepted;
      consumed = v.consumed;
      enqueued = v.enqueued;
      turns = v.turns;
      errored = b;
    }) (h refl))
said_flushed r false named v h = rw (and_false (takes r.opcode), and_false named)

-- the oldest receive leaves
leaves : {p f : ℕ} {d : Option ℕ} {ws : List Receive} {rs : List Request} {b : Bool} {v : Said} → is_empty ws ≡ false →
    Knows p f d ws rs b v → Knows p f d (tail ws) rs b (took true v)
leaves {v} h k =
    record {
      domain = k.domain;
      rights = k.rights;
      peer = k.peer;
      waits = ap tail k.waits ∙ sym (drop_more v.consumed v.accepted);
      bounded = drop_some v.consumed v.accepted (rw (← k.waits) h);
      queue = k.queue;
      taken = k.taken;
      good = k.good;
      errs = k.errs;
    }

all_rest : {A : Type 0} (P : A → Type 0) (xs : List A) → All P xs → All P (tail xs)
unfolding All
all_rest P [] h = tt
all_rest P (x ∷ xs) h = h.1

-- the oldest queued request leaves
leaves_queue : {p f : ℕ} {d : Option ℕ} {ws : List Receive} {rs : List Request} {b : Bool} {v : Said} → is_empty rs ≡ false →
    Knows p f d ws rs b v → Knows p f d ws (tail rs) b (turned true v)
leaves_queue {rs} {v} h k =
    record {
      domain = k.domain;
      rights = k.rights;
      peer = k.peer;
      waits = k.waits;
      bounded = k.bounded;
      queue = ap tail k.queue ∙ sym (drop_more v.turns v.enqueued);
      taken = drop_some v.turns v.enqueued (rw (← k.queue) h);
      good = all_rest Good rs k.good;
      errs = k.errs;
    }

-- a move, over the tests that its state is 0 and that it is 2
pub changes : {p f : ℕ} {o : Option ℕ} {ws : List Receive} {rs : List Request} {b : Bool} {v : Said} (r : ModifyQp) (named : Bool) →
    Knows p f o ws rs b v →
    Knows p (rights_after f r) (cond (eqb r.state 0) none (cond (eqb r.state 2) (some r.dest) o)) (cond (eqb r.state 0) [] ws)
    (cond (eqb r.state 0) [] rs) (eqb r.state 6) (said_by (PairNote.changed r) true named v)
unfolding All
changes {o} {ws} {rs} {v} r named k =
    record {
      domain = k.domain;
      rights = rw (same_right Use.remote_read r.mask, k.rights);
      peer = peer (eqb r.state 0) (eqb r.state 2);
      waits = dropped v.consumed ws v.accepted (eqb r.state 0) k.waits;
      bounded = none_left v.consumed v.accepted (eqb r.state 0) k.bounded;
      queue = dropped v.turns rs v.enqueued (eqb r.state 0) k.queue;
      taken = none_left v.turns v.enqueued (eqb r.state 0) k.taken;
      good = good (eqb r.state 0);
      errs = refl;
    }
  where
    peer : (z t : Bool) → is_some (cond z none (cond t (some r.dest) o)) ≡ true →
        cond t (some r.dest) v.peer ≡ cond z none (cond t (some r.dest) o)
    peer true t h = absurd (false≢true h)
    peer false true h = refl
    peer false false h = k.peer h

    dropped : {A : Type 0} (n : ℕ) (xs ys : List A) (z : Bool) → xs ≡ drop n ys → cond z [] xs ≡ drop (cond z 0 n) (cond z [] ys)
    dropped n xs ys true e = refl
    dropped n xs ys false e = e

    none_left : {A : Type 0} (n : ℕ) (ys : List A) (z : Bool) → n ≤ length ys → cond z 0 n ≤ length (cond z [] ys)
    none_left n ys true e = omega arith
    none_left n ys false e = e

    good : (z : Bool) → All Good (cond z [] rs)
    good true = tt
    good false = k.good

-- the three steps of a send, and the fourth of a turn
module _ (qp : ℕ → Qp) (v : ℕ → Said) (agree : (j : ℕ) → Pair (qp j) (v j)) (q : ℕ) where
  fails_one : {p f : ℕ} {d : Option ℕ} {ws : List Receive} {rs : List Request} {b : Bool} {v : Said} → Knows p f d ws rs b v →
      Knows p f d ws rs true (erred true v)
  fails_one k =
      record {
        domain = k.domain;
        rights = k.rights;
        peer = k.peer;
        waits = k.waits;
        bounded = k.bounded;
        queue = k.queue;
        taken = k.taken;
        good = k.good;
        errs = refl;
      }

  pub errors : (b : Bool) (j : ℕ) → Pair (error_if b q qp j) (erred (eqb q j && b) (v j))
  errors false j = rw (and_false (eqb q j)) (agree j)
  errors true j = split q (λ j. Pair (error_if true q qp j) (erred (eqb q j && true) (v j))) (rw same (λ e. fails_one (agree q e))) (λ j e. rw e (agree j)) j

  pub takes_one : is_empty (qp q).waiting ≡ false → (j : ℕ) → Pair (consume_if true q qp j) (took (eqb q j) (v j))
  takes_one h = split q _ (rw same (λ e. leaves h (agree q e))) (λ j e. rw e (agree j))

  pub consumes_if : (b : Bool) → (b ≡ true → is_empty (qp q).waiting ≡ false) → (j : ℕ) → Pair (consume_if b q qp j) (took (eqb q j && b) (v j))
  consumes_if false h j = rw (and_false (eqb q j)) (agree j)
  consumes_if true h j = rw (and_true (eqb q j)) (takes_one (h refl) j)

  pub turns_one : is_empty (qp q).queue ≡ false → (j : ℕ) → Pair (upd qp q (with_queue (qp q) (tail (qp q).queue)) j) (turned (eqb q j) (v j))
  turns_one h = split q _ (rw same (λ e. leaves_queue h (agree q e))) (λ j e. rw e (agree j))

pub error_waiting : (b : Bool) (q : ℕ) (qp : ℕ → Qp) (j : ℕ) → (error_if b q qp j).waiting ≡ (qp j).waiting
error_waiting false q qp j = refl
error_waiting true q qp j = split q (λ j. (error_if true q qp j).waiting ≡ (qp j).waiting) (rw same) (λ j e. rw e) j
