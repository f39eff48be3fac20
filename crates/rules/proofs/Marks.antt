-- P1 to P11 hold. Assumes nothing.
use mathlib.Core.Path.{◌≡◌, refl, sym, ap, ap₂, fun_ext, ◌∙◌}
use mathlib.Core.Bool.{true, false, cond}
use mathlib.Core.List.{List, [], ◌∷◌, ◌++◌}
use mathlib.Core.Option.{none, some}
use Prim.Native.Nat.{ℕ, zero, suc, ◌+◌, ◌-◌, ◌≤◌, ◌<◌}
use native.Mathlib.Decide.{dec_le}
use native.Mathlib.Omega.{arith}
use lib.Dec.{eqb, ltb}
use borrow.Author.Tests.{lt-leb, lt-ltb, le-ltb, eqb-false, ne_eqb}
use Rattle.wire.specs.Checks.{refusal}
use Rattle.wire.specs.Scan.{lowest, lowest_from, any_below, all}
use Rattle.wire.specs.Slots.{upd}
use Rattle.wire.proofs.ScanLaws.{lowest_none}
use Rattle.wire.proofs.SlotLaws.{split, same, upd_twice}
use Rattle.tables.specs.Card.{Card, Mr, free_mr, with_mr}
use Rattle.tables.specs.Commands.{Command, numbers_of}
use Rattle.tables.specs.Limits.{mr_count}
use Rattle.validate.specs.Search.{last_variant, vacant, free_mrn}
use Rattle.validate.proofs.SearchLaws.{search_past, lowest_is}
use Rattle.rules.specs.Lists.{All}
use Rattle.rules.specs.Touch.{range, byte_in, byte_of}
use Rattle.rules.specs.Permit.{key_of, permits, permits_all, place, lookup, covers}
use Rattle.rules.specs.Control.{command_checks, command_ack, command_effect}
use Rattle.rules.specs.Marks.{obeyed, after, region, platform, renewed, registrations, rounds, nearly_used, next, Verdict, ask, Question, table, Marks}

-- ---- P9: cards that differ from the platform in their regions alone

abbrev regioned : (ℕ → Mr) → Card
regioned f = with_mr platform f

-- a slot that is taken, with the variant v
abbrev held : ℕ → Mr
held v = record { live = true; variant = v; reg = region 256 4096; pages = [] }

domain : platform.pd 0 ≡ true
unfolding platform after command_checks command_effect lowest lowest_from
domain = refl

memory : platform.memory ≡ 4096
unfolding platform after command_checks command_effect lowest lowest_from
memory = refl

module _ (f : ℕ → Mr) (s : ℕ) (inside : s < mr_count) (free : (f s).live ≡ false) (left : (f s).variant < last_variant)
    (least : (k : ℕ) → k < s → (f k).live ≡ true) where
  found : free_mrn (regioned f) ≡ s
  found = lowest_is mr_count (λ i. vacant (f i)) s inside (rw (free, lt-leb last_variant (f s).variant left)) (λ k h. rw (least k h))

  passes : refusal (command_checks (regioned f) (Command.register (region 256 4096))) ≡ none
  unfolding command_checks
  passes = rw (domain, memory, found, lt-leb mr_count s inside)

  registered : after (regioned f) (Command.register (region 256 4096) ∷ []) ≡ regioned (upd f s (held ((f s).variant + 1)))
  unfolding after command_effect
  registered = rw (passes, found)

  acked : numbers_of (command_ack (regioned f) (Command.register (region 256 4096))) ≡ s ∷ key_of s ((f s).variant + 1) ∷ key_of s ((f s).variant + 1) ∷ []
  unfolding command_ack
  acked = rw found

-- no slot can be taken
refused : (f : ℕ → Mr) → ((k : ℕ) → k < mr_count → vacant (f k) ≡ false) →
    refusal (command_checks (regioned f) (Command.register (region 256 4096))) ≡ some 8
unfolding command_checks
refused f taken =
    let e : free_mrn (regioned f) ≡ mr_count =
    search_past mr_count mr_count (λ i. vacant (f i)) (omega arith) taken ∙ lowest_none mr_count mr_count (λ i. vacant (f i)) (omega arith) in
    rw (domain, memory, e)

after_join : (c : Card) (ks js : List Command) → after c (ks ++ js) ≡ after (after c ks) js
unfolding after
after_join c [] js = refl
after_join c (k ∷ ks) js = after_join (obeyed (refusal (command_checks c k)) c k) ks js

-- ---- the slots before k are taken

abbrev fills : ℕ → ℕ → Mr
fills k i = cond (ltb i k) (held 1) (free_mr 0)

one_more : (i k : ℕ) → eqb k i ≡ false → ltb i (k + 1) ≡ ltb i k
one_more i k e =
    elim (dec_le (i + 1) k) [
      | yes h ↦ lt-ltb i (k + 1) (omega arith) ∙ sym (lt-ltb i k (omega arith))
      | no h ↦ let n : ¬ (k ≡ i) = eqb-false k i e in le-ltb i (k + 1) (omega arith) ∙ sym (le-ltb i k (omega arith))
    ]

fill_one : (k : ℕ) → k < mr_count → after (regioned (fills k)) (Command.register (region 256 4096) ∷ []) ≡ regioned (fills (k + 1))
fill_one k h =
    let out : ltb k k ≡ false = le-ltb k k (omega arith) in
    registered (fills k) k h (rw out) (rw out (omega arith)) (λ j b. rw (lt-ltb j k b))
    ∙ ap regioned (fun_ext (split k (λ i. upd (fills k) k (held ((fills k k).variant + 1)) i ≡ fills (k + 1) i)
    (rw (same k, out, lt-ltb k (k + 1) (omega arith)))
    (λ i e. rw (e, one_more i k e))))

fill : (n k : ℕ) → n + k ≤ mr_count → after (regioned (fills k)) (registrations n) ≡ regioned (fills (n + k))
unfolding after registrations
fill zero k h = ap (λ (x : ℕ). regioned (fills x)) (omega arith)
fill (suc n) k h =
    after_join (regioned (fills k)) (Command.register (region 256 4096) ∷ []) (registrations n)
    ∙ ap (λ (c : Card). after c (registrations n)) (fill_one k (omega arith))
    ∙ fill n (k + 1) (omega arith) ∙ ap (λ (x : ℕ). regioned (fills x)) (omega arith)

platform_fills : platform ≡ regioned (fills 1)
unfolding platform after command_checks command_effect lowest lowest_from
platform_fills =
    ap (with_mr platform) {x = platform.mr} {y = fills 1}
    (fun_ext (split 0 (λ i. platform.mr i ≡ fills 1 i) refl (λ i e. let n : ¬ (0 ≡ i) = eqb-false 0 i e in rw (e, le-ltb i 1 (omega arith)))))

-- ---- all slots but s are taken

module _ (s : ℕ) (inside : s < mr_count) where
  abbrev used : ℕ → Card
  used v = regioned (upd (fills mr_count) s (held v))

  abbrev dropped : ℕ → Card
  dropped v = regioned (upd (fills mr_count) s (free_mr v))

  drops : (v : ℕ) → after (used v) (Command.deregister s ∷ []) ≡ dropped v
  unfolding after command_checks command_effect
  drops v =
      let p : refusal (command_checks (used v) (Command.deregister s)) ≡ none = rw (same s) in
      rw (p, same s) (ap regioned (upd_twice (fills mr_count) s (held v) (free_mr v)))

  others : (v k : ℕ) → k < mr_count → eqb s k ≡ false → (upd (fills mr_count) s (free_mr v) k).live ≡ true
  others v k h e = rw (e, lt-ltb k mr_count h)

  lower : (v k : ℕ) → k < s → (upd (fills mr_count) s (free_mr v) k).live ≡ true
  lower v k h = let n : ¬ (s ≡ k) = omega arith in others v k (omega arith) (ne_eqb s k n)

  takes : (v : ℕ) → v < last_variant → after (dropped v) (Command.register (region 256 4096) ∷ []) ≡ used (v + 1)
  takes v h =
      registered (upd (fills mr_count) s (free_mr v)) s inside (rw (same s)) (rw (same s) h) (lower v)
      ∙ rw (same s) (ap regioned (upd_twice (fills mr_count) s (free_mr v) (held (v + 1))))

  round : (v : ℕ) → v < last_variant → after (used v) (rounds s 1) ≡ used (v + 1)
  unfolding rounds
  round v h =
      after_join (used v) (Command.deregister s ∷ []) (Command.register (region 256 4096) ∷ [])
      ∙ ap (λ (c : Card). after c (Command.register (region 256 4096) ∷ [])) (drops v) ∙ takes v h

  many : (n v : ℕ) → n + v ≤ last_variant → after (used v) (rounds s n) ≡ used (n + v)
  unfolding after rounds
  many zero v h = ap used (omega arith)
  many (suc n) v h =
      after_join (used v) (rounds s 1) (rounds s n)
      ∙ ap (λ (c : Card). after c (rounds s n)) (round v (omega arith)) ∙ many n (v + 1) (omega arith) ∙ ap used (omega arith)

  full : after platform (registrations (mr_count - 1)) ≡ used 1
  full =
      ap (λ (c : Card). after c (registrations (mr_count - 1))) platform_fills ∙ fill (mr_count - 1) 1 (omega arith)
      ∙ ap regioned {x = fills mr_count} {y = upd (fills mr_count) s (held 1)}
      (fun_ext (split s (λ i. fills mr_count i ≡ upd (fills mr_count) s (held 1) i) (rw (same s, lt-ltb s mr_count inside)) (λ i e. rw e)))

  nearly : nearly_used s ≡ used 254
  unfolding nearly_used
  nearly = ap (λ (c : Card). after c (rounds s 253)) full ∙ many 253 1 (omega arith)

  -- the slot's last key, and then none: it is retired, and every other slot is taken
  last_keys : next (used 254) s ≡ some (key_of s 255 ∷ key_of s 255 ∷ [])
  last_keys =
      let f : ℕ → Mr = upd (fills mr_count) s (free_mr 254) in
      let at : f s ≡ free_mr 254 = rw (same s) in
      let free : (f s).live ≡ false = ap (λ (m : Mr). m.live) at in
      let left : (f s).variant < last_variant = rw at (omega arith) in
      rw (drops 254, passes f s inside free left (lower 254), acked f s inside free left (lower 254)) (rw at)

  no_keys : next (used 255) s ≡ none
  no_keys =
      rw (
        drops 255,
        refused (upd (fills mr_count) s (free_mr 255))
            (split s (λ k. k < mr_count → vacant (upd (fills mr_count) s (free_mr 255) k) ≡ false) (rw (same s) (λ h. refl)) (λ k e h. rw (others 255 k h e))),
      )

  p9 : ask (Question.last s) ≡ Verdict.keys (some (key_of s 255 ∷ key_of s 255 ∷ [])) none
  p9 = rw (nearly, round 254 (omega arith)) (ap₂ Verdict.keys last_keys no_keys)

pub marks : Marks
unfolding Marks All all table after platform renewed range byte_in byte_of permits permits_all place lookup covers command_checks command_ack command_effect lowest lowest_from any_below
marks = (refl, (refl, (refl, (refl, (refl, (refl, (refl, (refl, (refl, (p9 31 (omega arith), (p9 255 (omega arith), (refl, (refl, (refl, (refl, tt)))))))))))))))
