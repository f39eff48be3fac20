-- Post send as a whole: what it owes its reader after each ending of its tests. Assumes nothing.
use mathlib.Core.Path.{◌≡◌, refl, ◌∙◌}
use mathlib.Core.Bool.{true, false}
use mathlib.Core.List.{List, [], ◌++◌}
use mathlib.Core.Option.{Option, none, some}
use Prim.Native.Nat.{ℕ}
use lib.ListN.{length}
use borrow.Author.Tests.{eq-eqb, ne_eqb, not-false}
use Rattle.wire.specs.Checks.{refusal, Passed}
use Rattle.wire.proofs.CheckLaws.{passed}
use Rattle.wire.specs.Codec.{Fit, Fits, fields_at, decode}
use Rattle.wire.proofs.CodecLaws.{fields_at_fit}
use Rattle.validate.specs.Accept.{accepts}
use Rattle.validate.proofs.AcceptedLaws.{accepted}
use Rattle.tables.specs.State.{card}
use Rattle.tables.specs.Records.{send_codec, send_checks, send_read}
use Rattle.std.specs.Prelude.{Err}
use Rattle.tables.specs.Refusal.{refusal_number}
use Rattle.tables.specs.declared.refusal.Refusal.{Refusal}
use Rattle.rules.specs.Answer.{answered, refused}
use Rattle.rules.specs.declared.Answer.{Answer}
use Rattle.rules.specs.declared.Answer.TheVariants.{Done, Refused}
use Rattle.rules.specs.Call.{Call}
use Rattle.rules.specs.Calls.{checks, memory_checks, owed_checks, status_of, effect, memory_after, buffer_after}
use Rattle.rules.specs.Send.{pair_checks, queue_checks, hold_checks, delivery_checks, send_status, send_memory}
use Rattle.tables.specs.Records.{Request, request_of}
use Rattle.rules.proofs.Exported.{refused_owes, done_owes}
use Rattle.rules.proofs.Firm.{record_refused, refused_answer}
use Rattle.rules.proofs.Tests.{first_of, refusal_append, passed_after}
use Rattle.rules.specs.Bytes.{send_bytes, effect_bytes}
use Rattle.rules.specs.Contract.{Owes}
use Rattle.delivery.specs.Run.{Ran}
use Rattle.delivery.proofs.StandLaws.{stands}

-- the numbers of a send record's head
pub send_fits : (x : List ℕ) → Fits send_codec (decode send_codec x 0)
unfolding send_codec fields_at
send_fits x = fields_at_fit _ x 0

-- ---- each ending

module _ (l : List ℕ) (q : ℕ) (x m : List ℕ) where
  -- a request that passed: its queue pair is live, and nothing holds it
  tests_passed : (r : Request) → refusal (delivery_checks (card l) q r) ≡ none → (((card l).qp q).live ≡ true) × Passed (hold_checks (card l) q r)
  unfolding delivery_checks pair_checks
  tests_passed r e =
      let p = passed (delivery_checks (card l) q r) e in (
        not-false ((card l).qp q).live p.0,
        passed_after (queue_checks (card l) q) (hold_checks (card l) q r)
            (passed_after (pair_checks (card l) q) (queue_checks (card l) q ++ hold_checks (card l) q r) p),
      )

  abbrev k : Call
  k = Call.send q x m

  pub not_accepted : accepts l ≡ false → Owes l k (Refused 15) l m []
  not_accepted e = refused_owes l k 15 (rw e)

  module _ (a : accepts l ≡ true) where
    pub other_memory : (length m ≡ (card l).memory → ⊥) → Owes l k (Refused 7) l m []
    unfolding checks memory_checks
    other_memory e = refused_owes l k 7 (rw (a, ne_eqb (length m) (card l).memory e))

    module _ (whole : length m ≡ (card l).memory) where
      rest_is : refusal (owed_checks card accepts l k) ≡ first_of (refusal (send_checks x)) (refusal (delivery_checks (card l) q (request_of x)))
      unfolding checks memory_checks
      rest_is = rw (a, eq-eqb (length m) (card l).memory whole) (refusal_append (send_checks x) (delivery_checks (card l) q (request_of x)))

      pub bad_record_lem : (r : Refusal) → send_read x ≡ Err r → Owes l k (refused r) l m []
      bad_record_lem r e = rw (← refused_answer 0 r) (refused_owes l k (refusal_number r) (rest_is ∙ rw (record_refused x r e)))

      module _ (good : refusal (send_checks x) ≡ none) (r : Answer) (l' m' : List ℕ) where
        pub ran : Ran delivery_checks l q (request_of x) m r l' m' → Owes l k r l' m' []
        unfolding request_of send_codec Fit status_of effect memory_after buffer_after effect_bytes
        ran w = go (refusal (delivery_checks (card l) q (request_of x))) refl
          where
            go : (o : Option ℕ) → refusal (delivery_checks (card l) q (request_of x)) ≡ o → Owes l k r l' m' []
            go none e =
                let e0 : refusal (owed_checks card accepts l k) ≡ none = rest_is ∙ rw (good, e) in
                let f = send_fits x in
                let p = tests_passed (request_of x) e in
                let z = stands l (accepted l a) q (request_of x) f.0 f.1.1.1.0 p.0 p.1 in
                let er : r ≡ Done (send_status (card l) q (request_of x)) = w.answer ∙ rw e in
                let el : l' ≡ send_bytes l q (request_of x) = w.bytes ∙ rw e in
                let em : m' ≡ send_memory (card l) q (request_of x) m = w.memory ∙ rw e in
                rw (er, em) (done_owes l k refl e0 z.is z.ok l' el)
            go (some n) e =
                let e0 : refusal (owed_checks card accepts l k) ≡ some n = rest_is ∙ rw (good, e) in
                let er : r ≡ answered 0 (some n) = w.answer ∙ rw e in
                let el : l' ≡ l = w.bytes ∙ rw e in
                let em : m' ≡ m = w.memory ∙ rw e in
                rw (er, el, em) (refused_owes l k n e0)
