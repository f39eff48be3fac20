-- The registration call over a page list: what it owes. Assumes nothing.
use mathlib.Core.Path.{◌≡◌, refl, ◌∙◌}
use mathlib.Core.Bool.{true}
use mathlib.Core.List.{List, []}
use mathlib.Core.Option.{none}
use Prim.Native.Nat.{ℕ, ◌≤◌, ◌<◌}
use lib.ListN.{length}
use borrow.Author.Tests.{lt-ltb, le-ltb}
use Rattle.wire.specs.Checks.{refusal}
use Rattle.wire.specs.Scan.{all}
use Rattle.validate.specs.Accept.{accepts}
use Rattle.validate.proofs.AcceptedLaws.{accepted}
use Rattle.tables.specs.State.{card}
use Rattle.tables.specs.Commands.{encode_ack, ack_least}
use Rattle.tables.specs.declared.Ack.{Ack}
use Rattle.rules.proofs.Exported.{refused_owes, done_owes}
use Rattle.rules.specs.Bytes.{effect_bytes, paged_bytes}
use Rattle.rules.specs.Answer.{outcome_answer}
use Rattle.rules.specs.Call.{Call, registration_in}
use Rattle.rules.specs.Calls.{checks, owed_checks, status_of, effect, memory_after, buffer_after}
use Rattle.rules.specs.Contract.{Owes}
use Rattle.rules.specs.Control.{command_ack, new_keys}
use Rattle.rules.specs.Pages.{page_record_checks, page_list_checks}
use Rattle.rules.specs.declared.Answer.{Answer}
use Rattle.rules.specs.declared.Answer.TheVariants as answer
use Rattle.commands.specs.Control.{outcome_ack}
use Rattle.commands.specs.Pages.{record_checks, Recorded}
use Rattle.std.specs.Prelude.{Result}
use Rattle.tables.specs.declared.refusal.Refusal.{Refusal}
use Rattle.commands.proofs.CallLaws.{rest_none}
use Rattle.commands.proofs.EndLaws.{quiet, ended}
use Rattle.commands.proofs.RegionEffectLaws.{register_paged}

module _ (l k ps a : List ℕ) where
  abbrev call : Call
  call = Call.register_pages k ps a

  module _ (good : accepts l ≡ true) where
    pub pages_short : length a < ack_least → Owes l call (answer.Refused 12) l [] a
    unfolding checks page_record_checks
    pages_short h = refused_owes l call 12 (rw (good, lt-ltb (length a) ack_least h))

    module _ (room : ack_least ≤ length a) where
      tests : refusal (owed_checks card accepts l call) ≡ refusal (record_checks (card l) k ps)
      unfolding checks page_record_checks
      tests = rw (good, le-ltb (length a) ack_least room)

      passed : refusal (record_checks (card l) k ps) ≡ none → refusal (page_list_checks (card l) (registration_in k) ps) ≡ none
      unfolding page_record_checks
      passed e = rest_none (page_record_checks k a) (page_list_checks (card l) (registration_in k) ps) (rw (le-ltb (length a) ack_least room) e)

      done : refusal (record_checks (card l) k ps) ≡ none
          → Owes l call (answer.Done 0) (paged_bytes l (registration_in k) ps) [] (encode_ack (new_keys (card l)) a)
      unfolding effect_bytes status_of effect memory_after buffer_after command_ack
      done e =
          let s = register_paged l (accepted l good) (registration_in k) ps (passed e) in
          done_owes l call refl (tests ∙ e) s.meant s.still (paged_bytes l (registration_in k) ps) refl

      quiets : all (λ t. quiet t.no) (record_checks (card l) k ps) ≡ true
      unfolding all page_list_checks
      quiets = refl

      pub pages_done : (p : Result Ack Refusal) (l' : List ℕ) → Recorded l k ps p l' → (x : Ack) → x ≡ outcome_ack p → (r : Answer) → r ≡ outcome_answer p
          → (a' : List ℕ) → a' ≡ encode_ack x a → Owes l call r l' [] a'
      pages_done =
          ended l a call refl (λ n. refl) (record_checks (card l) k ps) tests quiets (new_keys (card l)) (paged_bytes l (registration_in k) ps) done
