-- Lists of scatter/gather entries: one entry, the first of those left and the rest, totals, and a list cut to its first bytes.
-- Assumes nothing.
use mathlib.Core.Path.{◌≡◌, refl, sym, ap, ◌∙◌}
use mathlib.Core.Bool.{Bool, ◌&&◌}
use mathlib.Core.List.{List, [], ◌∷◌, ◌++◌, append-nil, map}
use Rattle.std.specs.Prelude.{sum}
use Rattle.std.specs.List.{list_all}
use Rattle.std.proofs.lemmas.List.{drop-set-lt, take_all}
use Rattle.std.proofs.lemmas.List.Recursion.{is_sum_by}
use Rattle.std.proofs.lemmas.List.Sums.{sum-map}
use Prim.Native.Nat.{ℕ, ◌+◌, ◌-◌, ◌≤◌, ◌<◌, min}
use native.Mathlib.Numerals.{add-one}
use native.Mathlib.Nat.{add-zero}
use native.Mathlib.Omega.{arith}
use lib.ListN.{length, get_or, set, take, drop, drop_of_length-le}
use lib.Seq.{drop-cons, take-suc-set, append_snoc}
use Rattle.wire.specs.Scan.{all}
use Rattle.tables.specs.Records.{no_sge}
use Rattle.tables.specs.declared.Sge.{Sge}
use Rattle.rules.specs.Touch.{Byte, range, sge_bytes, sge_total, cut}
use Rattle.rules.proofs.Ranges.{all_split}

-- ---- a list of one entry

pub one_bytes : (s : Sge) → sge_bytes (s ∷ []) ≡ range s.address s.key s.length
unfolding sge_bytes
one_bytes s = append-nil (range s.address s.key s.length)

pub one_total : (s : Sge) → sge_total (s ∷ []) ≡ s.length
unfolding sge_total
one_total s = add-zero s.length

-- ---- the first entry of those left, and the rest

module _ (ss : List Sge) (i : ℕ) where
  pub left_cons : i < length ss → drop i ss ≡ get_or ss i no_sge ∷ drop (i + 1) ss
  left_cons l = rw (add-one i, drop-cons ss i no_sge l)

  pub left_none : length ss ≤ i → drop i ss ≡ []
  left_none h = drop_of_length-le ss {i = i} h

  pub left_total : i < length ss → sge_total (drop i ss) ≡ (get_or ss i no_sge).length + sge_total (drop (i + 1) ss)
  unfolding sge_total
  left_total l = ap sge_total (left_cons l)

  -- the bytes of one entry
  abbrev pub bytes_at : List Byte
  bytes_at = range (get_or ss i no_sge).address (get_or ss i no_sge).key (get_or ss i no_sge).length

  pub left_tests : (p : Byte → Bool) → i < length ss → all p (sge_bytes (drop i ss)) ≡ (all p bytes_at && all p (sge_bytes (drop (i + 1) ss)))
  unfolding sge_bytes
  left_tests p l = ap (λ (xs : List Sge). all p (sge_bytes xs)) (left_cons l) ∙ all_split p bytes_at (sge_bytes (drop (i + 1) ss))

-- a list of one entry
pub alone : (ss : List Sge) → length ss ≡ 1 → ss ≡ get_or ss 0 no_sge ∷ []
alone ss e = left_cons ss 0 (omega arith) ∙ ap (λ (l : List Sge). get_or ss 0 no_sge ∷ l) (left_none ss (0 + 1) (omega arith))

-- ---- a list entry by entry

pub total_sum : (ss : List Sge) → sge_total ss ≡ sum (map (λ s. s.length) ss)
unfolding sge_total
total_sum ss = is_sum_by sge_total (λ s. s.length) refl (λ s rest. refl) ss ∙ sym (sum-map (λ s. s.length) ss)

pub tests_each : (p : Byte → Bool) (ss : List Sge) → all p (sge_bytes ss) ≡ list_all (λ s. all p (range s.address s.key s.length)) ss
unfolding sge_bytes all
tests_each p [] = refl
tests_each p (s ∷ ss) =
    all_split p (range s.address s.key s.length) (sge_bytes ss) ∙ ap (λ (b : Bool). all p (range s.address s.key s.length) && b) (tests_each p ss)

-- ---- a cut list

-- one entry more is cut
pub cut_more : (out whole : List Sge) (i left k : ℕ) → i < length out → k ≡ min left (get_or out i no_sge).length → take i out ++ cut left (drop i out) ≡ whole
    → take (i + 1) (set out i (record { address = (get_or out i no_sge).address; length = k; key = (get_or out i no_sge).key }))
    ++ cut (left - k) (drop (i + 1) (set out i (record { address = (get_or out i no_sge).address; length = k; key = (get_or out i no_sge).key }))) ≡ whole
unfolding cut
cut_more out whole i left k l e h =
    let s : Sge = get_or out i no_sge in
    let q : Sge = record { address = s.address; length = k; key = s.key } in
    let rest : List Sge = drop (i + 1) out in
    let d : left - k ≡ left - s.length = omega arith in
    ap (λ (x : List Sge). take (i + 1) (set out i q) ++ cut (left - k) x) (drop-set-lt (i + 1) out i q (omega arith))
    ∙ ap (λ (n : ℕ). take n (set out i q) ++ cut (left - k) rest) (add-one i)
    ∙ ap (λ (x : List Sge). x ++ cut (left - k) rest) (take-suc-set out i q l)
    ∙ append_snoc (take i out) q (cut (left - k) rest)
    ∙ ap (λ (n : ℕ). take i out ++ q ∷ cut n rest) d
    ∙ ap (λ (n : ℕ). take i out ++ record { address = s.address; length = n; key = s.key } ∷ cut (left - s.length) rest) e
    ∙ ap (λ (x : List Sge). take i out ++ cut left x) (sym (left_cons out i l))
    ∙ h

pub cut_done : (out whole : List Sge) (i left : ℕ) → length out ≤ i → take i out ++ cut left (drop i out) ≡ whole → out ≡ whole
unfolding cut
cut_done out whole i left e h =
    sym (take_all i out e) ∙ sym (append-nil (take i out))
    ∙ ap (λ (l : List Sge). take i out ++ cut left l) (sym (left_none out i e)) ∙ h
