-- A post send that passes its tests: what they tell of the two queue pairs, and that each completion which it puts has a place and is
-- within its limits. Assumes nothing.
use mathlib.Core.Path.{◌≡◌, refl}
use mathlib.Core.Bool.{Bool, true, false, cond, not, ◌&&◌, ◌||◌, false≢true}
use mathlib.Core.List.{[], ◌∷◌, ◌++◌}
use mathlib.Core.Option.{Option, none, some}
use Prim.Native.Nat.{ℕ, ◌+◌, ◌^◌, ◌<◌, ◌≤◌}
use native.Mathlib.Omega.{arith}
use lib.Dec.{eqb, leb}
use lib.ListN.{length, length-append}
use borrow.Author.Tests.{leb-true, lt-ltb, not-false}
use Rattle.wire.specs.Checks.{Passed}
use Rattle.wire.specs.Codec.{Fit, Fits}
use Rattle.wire.proofs.ScanLaws.{and_left, and_right, and_off}
use Rattle.validate.specs.Accept.{completion_ok, is_status}
use Rattle.tables.specs.Card.{Card, Cq, with_cq}
use Rattle.tables.specs.Limits.{qp_count, most_message}
use Rattle.tables.specs.Records.{completion_codec}
use Rattle.tables.specs.declared.Completion.{Completion}
use Rattle.rules.specs.Lists.{is_empty, or_else, names}
use Rattle.rules.specs.Send.{peer_of, taken_by, can_receive, ready, room, has_places, is_in_error, hold_checks, ready_checks, place_checks, status_by, run_status, send_status, consumes, pushed, length_by, sender_put, receiver_put, send_puts, own_use, far_use}
use Rattle.rules.specs.Permit.{permits_all}
use Rattle.rules.specs.Touch.{takes, fills, total, sge_total, own_bytes, far_bytes}
use Rattle.tables.specs.Records.{Request}
use Rattle.delivery.proofs.CardLaws.{Can, CanAll}

-- ---- what the tests tell

pub record Going (c : Card) (q o : ℕ) : Type 0 where
  pub runs : is_in_error (c.qp q) ≡ false
  pub live : (c.qp q).live ≡ true
  pub peer : (c.qp (peer_of c q)).live ≡ true
  pub waits : takes o ≡ true → is_empty (c.qp (peer_of c q)).waiting ≡ false
  pub places : has_places c q (peer_of c q) o ≡ true

peer_live : (c : Card) (q : ℕ) (d : Option ℕ) → ready c q d ≡ true → (c.qp (or_else d qp_count)).live ≡ true
peer_live c q none e = absurd (false≢true e)
peer_live c q (some d) e =
    let a : Bool = (c.qp d).live in
    let b : Bool = can_receive (c.qp d).state in
    and_left a b (and_left (a && b) (names (c.qp d).dest q) e)

pub going : (c : Card) (q : ℕ) (r : Request) → is_in_error (c.qp q) ≡ false → (c.qp q).live ≡ true → Passed (hold_checks c q r) → Going c q r.opcode
unfolding hold_checks ready_checks
going c q r n lives p =
    let h : Passed (ready_checks c q r) = rw n at p in
    record {
      runs = n;
      live = lives;
      peer = peer_live c q (c.qp q).dest (not-false (ready c q (c.qp q).dest) h.0);
      waits = and_off (takes r.opcode) (is_empty (c.qp (peer_of c q)).waiting) h.1.0;
      places = not-false (has_places c q (peer_of c q) r.opcode) h.1.1.0;
    }

-- one in error has a place for its completion, and looks at no peer
pub record Flushing (c : Card) (q : ℕ) : Type 0 where
  pub errs : is_in_error (c.qp q) ≡ true
  pub live : (c.qp q).live ≡ true
  pub place : room (c.cq (c.qp q).scq) 1 ≡ true

pub flushing : (c : Card) (q : ℕ) (r : Request) → is_in_error (c.qp q) ≡ true → (c.qp q).live ≡ true → Passed (hold_checks c q r) → Flushing c q
unfolding hold_checks place_checks
flushing c q r n lives p =
    let h : Passed (place_checks c q) = rw n at p in
    record { errs = n; live = lives; place = not-false (room (c.cq (c.qp q).scq) 1) h.0 }

-- ---- the numbers of a completion

status_ok : (f a b e g : Bool) → is_status (status_by f a b e g) ≡ true
status_ok f false b e g = refl
status_ok f true false e g = refl
status_ok true true true true true = refl
status_ok true true true true false = refl
status_ok true true true false g = refl
status_ok false true true e true = refl
status_ok false true true e false = refl

status_small : (f a b e g : Bool) → leb (status_by f a b e g) 8 ≡ true
status_small f false b e g = refl
status_small f true false e g = refl
status_small true true true true true = refl
status_small true true true true false = refl
status_small true true true false g = refl
status_small false true true e true = refl
status_small false true true e false = refl

length_ok : (n : ℕ) (f a b e g : Bool) → leb n most_message ≡ a → leb (cond (eqb (status_by f a b e g) 0) n 0) most_message ≡ true
length_ok n f false b e g h = refl
length_ok n f true false e g h = refl
length_ok n true true true true true h = h
length_ok n true true true true false h = refl
length_ok n true true true false g h = refl
length_ok n false true true e true h = h
length_ok n false true true e false h = refl

sender_opcode_lem : (a b : Bool) → leb (cond a 2 (cond b 0 1)) 4 ≡ true
sender_opcode_lem true b = refl
sender_opcode_lem false true = refl
sender_opcode_lem false false = refl

receiver_opcode_lem : (a : Bool) → leb (cond a 4 3) 4 ≡ true
receiver_opcode_lem true = refl
receiver_opcode_lem false = refl

receiver_status_lem : (a b : Bool) → is_status (cond a 0 (cond b 3 1)) ≡ true
receiver_status_lem true b = refl
receiver_status_lem false true = refl
receiver_status_lem false false = refl

receiver_small : (a b : Bool) → leb (cond a 0 (cond b 3 1)) 8 ≡ true
receiver_small true b = refl
receiver_small false true = refl
receiver_small false false = refl

imm_small : (b : Bool) (n : ℕ) → n < 2 ^ 32 → cond b n 0 < 2 ^ 32
imm_small true n h = h
imm_small false n h = omega arith

-- a completion within its limits
module _ (e : Completion) (wr : e.wr < 2 ^ 64) (status : is_status e.status ≡ true) (small : leb e.status 8 ≡ true) (opcode : leb e.opcode 4 ≡ true)
    (size : leb e.length most_message ≡ true) (imm : e.imm < 2 ^ 32) (owner : e.owner < qp_count) where
  entry_fits : Fits completion_codec e
  unfolding completion_codec Fit
  entry_fits =
      let a = leb-true e.status 8 small in
      let b = leb-true e.opcode 4 opcode in
      let d = leb-true e.length most_message size in
      (omega arith, (omega arith, (omega arith, (omega arith, (omega arith, (omega arith, (omega arith, tt)))))))

  entry_ok_lem : completion_ok e ≡ true
  entry_ok_lem = rw (status, opcode, size, lt-ltb e.owner qp_count owner)

-- ---- their places

one_free : (n m : ℕ) (b : Bool) → leb (n + cond b 2 1) m ≡ true → n + 1 ≤ m
one_free n m true e = let h = leb-true (n + 2) m e in omega arith
one_free n m false e = leb-true (n + 1) m e

two_free : (n m : ℕ) (b : Bool) → leb (n + cond b 2 1) m ≡ true → b ≡ true → n + 2 ≤ m
two_free n m true e h = leb-true (n + 2) m e
two_free n m false e h = absurd (false≢true h)

or_not : (a b : Bool) → (not a || b) ≡ true → a ≡ true → b ≡ true
or_not true b e f = e
or_not false b e f = absurd (false≢true f)

module _ (c : Card) (q : ℕ) (r : Request) (g : Going c q r.opcode) (own : q < qp_count) (far : peer_of c q < qp_count)
    (wr : r.wr < 2 ^ 64) (imm : r.imm < 2 ^ 32) (taken : takes r.opcode ≡ true → (taken_by c q).wr < 2 ^ 64) where
  abbrev s : ℕ
  s = send_status c q r

  abbrev sq : ℕ
  sq = (c.qp q).scq

  abbrev rq : ℕ
  rq = (c.qp (peer_of c q)).rcq

  abbrev both : Bool
  both = takes r.opcode && eqb sq rq

  abbrev mine : Bool
  mine = permits_all c q (own_use r.opcode) (own_bytes r)

  abbrev fit : Bool
  fit = leb (total r) (sge_total (taken_by c q).sges)

  abbrev theirs : Bool
  theirs = permits_all c (peer_of c q) (far_use r.opcode) (far_bytes r (taken_by c q))

  s_ok : is_status s ≡ true
  unfolding send_status run_status
  s_ok = rw g.runs (status_ok (fills r.opcode) (leb (total r) most_message) mine fit theirs)

  s_small : leb s 8 ≡ true
  unfolding send_status run_status
  s_small = rw g.runs (status_small (fills r.opcode) (leb (total r) most_message) mine fit theirs)

  s_length : leb (length_by r s) most_message ≡ true
  unfolding send_status run_status
  s_length = rw g.runs (length_ok (total r) (fills r.opcode) (leb (total r) most_message) mine fit theirs refl)

  first_room : room (c.cq sq) (cond both 2 1) ≡ true
  first_room = and_left (room (c.cq sq) (cond both 2 1)) (not (takes r.opcode) || room (c.cq rq) 1) g.places

  second_room : takes r.opcode ≡ true → length (c.cq rq).entries + 1 ≤ (c.cq rq).places
  second_room t =
      leb-true (length (c.cq rq).entries + 1) (c.cq rq).places
      (or_not (takes r.opcode) (room (c.cq rq) 1) (and_right (room (c.cq sq) (cond both 2 1)) (not (takes r.opcode) || room (c.cq rq) 1) g.places) t)

  pub sender_can : Can c (sender_put c q r s)
  sender_can =
      let e : Completion = (sender_put c q r s).entry in
      let o = sender_opcode_lem (eqb r.opcode 4) (fills r.opcode) in
      record {
        room = one_free (length (c.cq sq).entries) (c.cq sq).places both first_room;
        fits = entry_fits e wr s_ok s_small o s_length (omega arith) own;
        good = entry_ok_lem e wr s_ok s_small o s_length (omega arith) own;
      }

  receiver_can : (c' : Card) → takes r.opcode ≡ true → length (c'.cq rq).entries + 1 ≤ (c'.cq rq).places → Can c' (receiver_put c q r s)
  receiver_can c' t h =
      let e : Completion = (receiver_put c q r s).entry in
      let a : Bool = eqb s 0 in
      let b : Bool = leb (total r) (sge_total (taken_by c q).sges) in
      let i = imm_small (a && (eqb r.opcode 1 || eqb r.opcode 3)) r.imm imm in
      record {
        room = h;
        fits = entry_fits e (taken t) (receiver_status_lem a b) (receiver_small a b) (receiver_opcode_lem (eqb r.opcode 1)) s_length i far;
        good = entry_ok_lem e (taken t) (receiver_status_lem a b) (receiver_small a b) (receiver_opcode_lem (eqb r.opcode 1)) s_length i far;
      }

  abbrev after : ℕ → Cq
  after = pushed (sender_put c q r s) c.cq

  -- the receiver's place, after the sender's completion
  room_after : takes r.opcode ≡ true → length (after rq).entries + 1 ≤ (after rq).places
  room_after t = go (eqb sq rq) refl
    where
      go : (b : Bool) → eqb sq rq ≡ b → length (after rq).entries + 1 ≤ (after rq).places
      go true e =
          let n = length-append (c.cq sq).entries ((sender_put c q r s).entry ∷ []) in
          let h = two_free (length (c.cq sq).entries) (c.cq sq).places both first_room (rw (t, e)) in
          rw e (omega arith)
      go false e = rw e (second_room t)

  pub can_all : CanAll c (send_puts c q r s)
  unfolding CanAll send_puts
  can_all = go (not (eqb s 0) || eqb (c.qp q).signal 0 || r.signaled) (consumes r.opcode s) refl
    where
      go : (x y : Bool) → consumes r.opcode s ≡ y → CanAll c (cond x (sender_put c q r s ∷ []) [] ++ cond y (receiver_put c q r s ∷ []) [])
      go true true e = (sender_can, (receiver_can (with_cq c after) (and_left (takes r.opcode) _ e) (room_after (and_left (takes r.opcode) _ e)), tt))
      go true false e = (sender_can, tt)
      go false true e = (receiver_can c (and_left (takes r.opcode) _ e) (second_room (and_left (takes r.opcode) _ e)), tt)
      go false false e = tt

-- ---- one that is flushed

pub flushed_can : (c : Card) (q : ℕ) (r : Request) → Flushing c q → q < qp_count → r.wr < 2 ^ 64 → Can c (sender_put c q r 4)
flushed_can c q r f own wr =
    let e : Completion = (sender_put c q r 4).entry in
    let o = sender_opcode_lem (eqb r.opcode 4) (fills r.opcode) in
    let n : ℕ = length (c.cq (c.qp q).scq).entries in
    record {
      room = leb-true (n + 1) (c.cq (c.qp q).scq).places f.place;
      fits = entry_fits e wr refl refl o refl (omega arith) own;
      good = entry_ok_lem e wr refl refl o refl (omega arith) own;
    }
