-- Bytes held in a window: moved to its start, with a piece read behind them. Assumes nothing.
use mathlib.Core.Path.{◌≡◌, refl, sym, ap, ap₂, subst, ◌∙◌}
use mathlib.Core.List.{List, ◌++◌, append-nil}
use mathlib.Core.Bool.{Bool, true, false, true≢false}
use Prim.Native.Nat.{ℕ, ◌+◌, ◌-◌, ◌≤◌}
use native.Mathlib.Omega.{arith}
use lib.ListN.{length, take, drop, length-drop, length-append, drop_of_length-le}
use lib.Dec.{eqb}
use lib.IntN.{ℤ, pos, negsuc}
use Rattle.tape.specs.declared.input.Held.{Held}
use Rattle.tape.specs.declared.input.ReadFailed.{ReadFailed}
use Rattle.tape.specs.System.{Event, Happened, Unreadable}
use Rattle.tape.specs.Inside.{held_in, Lies, bytes_by, is_failure, count_in, is_err, held_after, Gives, Reads}
use borrow.Rule.Slice.PartMut.{put_mid}
use lib.Seq.{length-take-le, take-add, take-append_seam, drop-append_seam}
use Rattle.std.specs.List.{copy_within}
use Rattle.std.specs.Prelude.{Result, Ok, Err}

-- ---- a read

abbrev pub answered : {E : Type 0} → Result ℕ E → ℤ
answered (Ok n) = pos n
answered (Err e) = negsuc 0

-- one that answered with so many bytes
pub gives_read : (file : ℤ) (buffer : List ℕ) (n : ℕ) → Happened (Event.read file (pos n) buffer) → Gives file buffer n false
gives_read file buffer n h = record { answer = pos n; happened = h; bytes = refl; failure = refl }

-- one that failed
pub gives_error : (file : ℤ) (buffer : List ℕ) → Happened (Event.read file (negsuc 0) buffer) → Gives file buffer 0 true
gives_error file buffer h = record { answer = negsuc 0; happened = h; bytes = refl; failure = refl }

-- one that ended with either
pub gives : {E : Type 0} (file : ℤ) (buffer : List ℕ) (r : Result ℕ E) → Happened (Event.read file (answered r) buffer)
    → Gives file buffer (count_in r) (is_err r)
gives file buffer (Ok n) h = gives_read file buffer n h
gives file buffer (Err e) h = gives_error file buffer h

module _ {file : ℤ} {buffer : List ℕ} {n : ℕ} {failed : Bool} (g : Gives file buffer n failed) where
  pub gives_bytes : failed ≡ false → Happened (Event.read file (pos n) buffer)
  gives_bytes good = by g.answer g.happened g.bytes (sym good ∙ g.failure)
    where
      by : (answer : ℤ) → Happened (Event.read file answer buffer) → n ≡ bytes_by answer → false ≡ is_failure answer → Happened (Event.read file (pos n) buffer)
      by (pos k) h e f = subst (λ (k : ℕ). Happened (Event.read file (pos k) buffer)) (sym e) h
      by (negsuc k) h e f = absurd (true≢false (sym f))

  pub gives_failure : failed ≡ true → Unreadable file
  gives_failure bad = by g.answer g.happened (sym bad ∙ g.failure)
    where
      by : (answer : ℤ) → Happened (Event.read file answer buffer) → true ≡ is_failure answer → Unreadable file
      by (pos k) h f = absurd (true≢false f)
      by (negsuc k) h f = (k, buffer, h)

module _ (file : ℤ) (h : Held) (w : List ℕ) where
  -- a read into the buffer behind those held, which moved to the window's start
  module _ (lies : Lies h w) (r : Result Held ReadFailed) (w₁ buffer : List ℕ) (n : ℕ)
      (is : held_after r ≡ record { from = 0; to = h.to - h.from + n; ended = eqb n 0 })
      (moved : w₁ ≡ copy_within w h.from h.to 0) (sized : length buffer ≡ length w₁ - (h.to - h.from))
      (fits : n ≤ length buffer) (gave : Gives file buffer n (is_err r)) where
    abbrev k : ℕ
    k = h.to - h.from

    counted : length (held_in h w) ≡ k
    counted =
        let d : length (drop h.from w) ≡ length w - h.from = length-drop h.from w in
        length-take-le k (drop h.from w) (omega arith)

    shifted : w₁ ≡ held_in h w ++ drop k w
    shifted = let z : 0 + k ≡ k = omega arith in moved ∙ ap (λ (j : ℕ). held_in h w ++ drop j w) z

    long : length w₁ ≡ length w
    long =
        let a : length (held_in h w ++ drop k w) ≡ length (held_in h w) + length (drop k w) = length-append (held_in h w) (drop k w) in
        let d : length (drop k w) ≡ length w - k = length-drop k w in
        let e = counted in
        let s : length w₁ ≡ length (held_in h w ++ drop k w) = ap length shifted in
        omega arith

    front : take k w₁ ≡ held_in h w
    front =
        ap (take k) shifted ∙ ap (λ (j : ℕ). take j (held_in h w ++ drop k w)) (sym counted) ∙ take-append_seam (held_in h w) (drop k w)

    abbrev w₂ : List ℕ
    w₂ = put_mid k (length w₁ - k) w₁ buffer

    behind : w₂ ≡ held_in h w ++ buffer
    behind =
        let e = counted in
        let l = long in
        let past : length (drop k w₁) ≤ length w₁ - k = omega (arith, length-drop k w₁) in
        ap₂ (λ (x y : List ℕ). x ++ (buffer ++ y)) front (drop_of_length-le (drop k w₁) past) ∙ ap (λ (x : List ℕ). held_in h w ++ x) (append-nil buffer)

    -- the window's first bytes are those held, and then what the read gave
    all : take (k + n - 0) w₂ ≡ held_in h w ++ take n buffer
    all =
        let e : k + n - 0 ≡ length (held_in h w) + n = omega (arith, counted) in
        ap₂ take e behind ∙ take-add (length (held_in h w)) n (held_in h w ++ buffer)
        ∙ ap₂ (λ (x y : List ℕ). x ++ take n y) (take-append_seam (held_in h w) buffer) (drop-append_seam (held_in h w) buffer)

    pub reads_more : Reads file h w r w₂
    reads_more = record {
      lies =
          rw is (
            omega arith,
            let a : length (held_in h w ++ buffer) ≡ length (held_in h w) + length buffer = length-append (held_in h w) buffer in
                let e = counted in
                let s : length w₂ ≡ length (held_in h w ++ buffer) = ap length behind in
                omega arith,
          );
      buffer = buffer;
      count = n;
      gives = λ l. gave;
      room = λ l x. let e = counted in let y = long in omega arith;
      held = λ l. rw is all;
      ended = λ l. rw is;
    }
