-- Round after round, the report is the verdict on every two tapes that the reads began, or says why there is none. Assumes nothing.
use mathlib.Core.Path.{◌≡◌, refl, sym, ap, ap₂, subst, ◌∙◌}
use mathlib.Core.Bool.{Bool, true, false, cond, true≢false}
use mathlib.Core.List.{List, [], ◌∷◌, ◌++◌, flatten, append-nil, append_assoc}
use Prim.Native.Nat.{ℕ, zero, suc, ◌+◌, ◌-◌, ◌≤◌, ◌<◌, min}
use native.Mathlib.Numerals.{add-one}
use native.Mathlib.Omega.{arith}
use lib.Dec.{eqb}
use lib.IntN.{ℤ}
use lib.ListN.{length, take, drop, length-take, length-drop, length-append, take-append-drop}
use lib.Seq.{length-take-le, take-add, drop-drop, drop_at}
use borrow.Author.Tests.{eqb-false}
use Rattle.tables.specs.Reset.{zeros, reset_bytes}
use Rattle.std.specs.Prelude.{Result, Ok, Err, Option, Some, None}
use Rattle.std.specs.declared.ops.ControlFlow.TheVariants.{Continue, Break}
use Rattle.tape.specs.declared.Found.{Found}
use Rattle.tape.specs.declared.input.Held.{Held}
use Rattle.tape.specs.declared.input.ReadFailed.{ReadFailed}
use Rattle.tape.specs.Tape.{played, records}
use Rattle.tape.specs.Pieces.{Input, next, past}
use Rattle.tape.specs.System.{BytesOf, Continues}
use Rattle.tape.specs.Audit.{Verdict, against, verdict}
use Rattle.tape.specs.Inside.{held_in, Lies, Room, is_err, held_after, Reads, Finding, Finds}
use Rattle.tape.proofs.PieceLaws.{content, Lawful, next_content, past_content}
use Rattle.tape.proofs.InputLaws.{gives_bytes, gives_failure}
use Rattle.tape.proofs.FoundLaws.{Within, found_within}
use Rattle.tape.proofs.AuditLaws.{verdict_from, verdict_by, round_keeps}
use Rattle.audit.specs.declared.Files.{Files}
use Rattle.audit.specs.declared.Position.{Position}
use Rattle.audit.specs.declared.Report.{Report}
use Rattle.audit.specs.Report.{Tapes, VerdictOn, Silent, Reports}
use Rattle.audit.specs.Inside.{shown, behind, passed, read_by, on_calls, on_answers, Follows, Round}
use Rattle.audit.proofs.RoundLaws.{among}

-- the first bytes of a memory of zeros
pub take_zeros : (k n : ℕ) → k ≤ n → take k (zeros n) ≡ zeros k
take_zeros zero n le = refl
take_zeros (suc k) zero le = absurd (omega arith)
take_zeros (suc k) (suc n) le = ap (λ (l : List ℕ). 0 ∷ l) (take_zeros k n (omega arith))

-- ---- one tape: the bytes passed, then those held

record Side (file : ℤ) (before : List ℕ) (h : Held) (w : List ℕ) : Type 0 where
  lies : Lies h w
  from : BytesOf file (before ++ held_in h w) h.ended

-- with bytes passed
held_behind : (h : Held) (w : List ℕ) (n : ℕ) → Lies h w → n ≤ length (held_in h w) → drop n (held_in h w) ≡ held_in (behind h n) w
held_behind h w n l le =
    let u : h.from + n ≤ h.to = among h w n l le in
    let k : ℕ = h.to - (h.from + n) in
    let s : h.to - h.from ≡ n + k = omega arith in
    let d : List ℕ = drop h.from w in
    let z : length d ≡ length w - h.from = length-drop h.from w in
    ap (λ (j : ℕ). drop n (take j d)) s ∙ ap (drop n) (take-add n k d)
    ∙ drop_at (take n d) (take k (drop n d)) n (length-take-le n d (omega arith)) ∙ ap (take k) (drop-drop n h.from w)

-- as many rounds as a tape has asked for at most
abbrev cost : (before held : List ℕ) → (ended : Bool) → ℕ
cost b h e = length b + (length b + length h) + cond e 1 0

cost_read : (b h w : List ℕ) (n : ℕ) → 0 < length w → suc (cost b h false) ≤ cost b (h ++ take n w) (eqb n 0)
cost_read b h w n room = by (eqb n 0) refl
  where
    by : (e : Bool) → eqb n 0 ≡ e → suc (cost b h false) ≤ cost b (h ++ take n w) e
    by true z =
        let s : length (h ++ take n w) ≡ length h + length (take n w) = length-append h (take n w) in
        omega arith
    by false z =
        let s : length (h ++ take n w) ≡ length h + length (take n w) = length-append h (take n w) in
        let t : length (take n w) ≡ min n (length w) = length-take n w in
        let some : n ≡ 0 → ⊥ = eqb-false n 0 z in
        omega arith

cost_past : (b h : List ℕ) (n : ℕ) (e : Bool) → n ≤ length h → cost b h e + n ≤ cost (b ++ take n h) (drop n h) e
cost_past b h n e le =
    let s : length (b ++ take n h) ≡ length b + length (take n h) = length-append b (take n h) in
    let t : length (take n h) ≡ n = length-take-le n h le in
    let d : length (drop n h) ≡ length h - n = length-drop n h in
    omega arith

module _ {file : ℤ} {before : List ℕ} {h : Held} {w : List ℕ} (s : Side file before h w) where
  -- after a read that did not fail
  side_read : h.ended ≡ false → Room h w → {d : Result Held ReadFailed} {w' : List ℕ} → Reads file h w d w' → is_err d ≡ false
      → Side file before (held_after d) w'
  side_read still room {d} {w'} r good =
      let b : List ℕ = take r.count r.buffer in
      let from : BytesOf file ((before ++ held_in h w) ++ b) (eqb r.count 0) =
      BytesOf.more r.buffer r.count (subst (BytesOf file (before ++ held_in h w)) still s.from) (gives_bytes (r.gives s.lies) good)
      (r.room s.lies room) in
      record {
        lies = r.lies;
        from =
            subst (BytesOf file (before ++ held_in (held_after d) w')) (sym (r.ended s.lies))
            (subst (λ (x : List ℕ). BytesOf file x (eqb r.count 0))
            (append_assoc before (held_in h w) b ∙ ap (λ (x : List ℕ). before ++ x) (sym (r.held s.lies))) from);
      }

  -- with bytes passed
  side_past : (n : ℕ) → n ≤ length (held_in h w) → Side file (before ++ take n (held_in h w)) (behind h n) w
  side_past n le = record {
    lies = (among h w n s.lies le, s.lies.1);
    from =
        subst (λ (x : List ℕ). BytesOf file x h.ended)
        (ap (λ (x : List ℕ). before ++ x)
        (sym (take-append-drop n (held_in h w)) ∙ ap (λ (x : List ℕ). take n (held_in h w) ++ x) (held_behind h w n s.lies le))
        ∙ sym (append_assoc before (take n (held_in h w)) (held_in (behind h n) w)))
        s.from;
  }

-- ---- a tape that begins with the bytes held

-- with fewer bytes
continues_fewer : (t h p : List ℕ) {e e' : Bool} → e' ≡ false → Continues t (h ++ p) e → Continues t h e'
continues_fewer t h p still b = (p ++ b.0, b.1 ∙ append_assoc h p b.0, λ z. absurd (true≢false (sym z ∙ still)))

-- with more
continues_more : (t h : List ℕ) (n : ℕ) {e : Bool} {h' : List ℕ} → drop n h ≡ h' → Continues t h' e → Continues (take n h ++ t) h e
continues_more t h n {e} {h'} s b = (
  b.0,
  ap (λ (x : List ℕ). take n h ++ x) (b.1 ∙ ap (λ (x : List ℕ). x ++ b.0) (sym s))
      ∙ sym (append_assoc (take n h) (drop n h) b.0) ∙ ap (λ (x : List ℕ). x ++ b.0) (take-append-drop n h),
  b.2,
)

drop_front : (t h : List ℕ) (n : ℕ) → n ≤ length h → drop n (take n h ++ t) ≡ t
drop_front t h n le = drop_at (take n h) t n (length-take-le n h le)

-- it is an input: what is not held is one piece
abbrev piece : List ℕ → List (List ℕ)
piece [] = []
piece (b ∷ r) = (b ∷ r) ∷ []

piece_all : (r : List ℕ) → flatten (piece r) ≡ r
unfolding flatten
piece_all [] = refl
piece_all (b ∷ r) = append-nil (b ∷ r)

abbrev input : (held : List ℕ) → (ended : Bool) → (rest : List ℕ) → Input
input h e r = record { held = h; ended = e; pieces = piece r }

module _ {t : List ℕ} (h : List ℕ) {e : Bool} (b : Continues t h e) where
  continues_content : content (input h e b.0) ≡ t
  continues_content = ap (λ (x : List ℕ). h ++ x) (piece_all b.0) ∙ sym b.1

  continues_lawful : Lawful (input h e b.0)
  continues_lawful z = ap piece (b.2 z)

-- ---- a round leaves the verdict on what is left of two tapes

module _ (l m x y : List ℕ) (p : Position) where
  abbrev finding : Finding
  finding = shown l m x y p

  within : (f : Found) → finding.found ≡ f
      → Within f (held_in p.calls x) p.calls.ended (held_in p.answers y) p.answers.ended
  within f e =
      let z : Finds finding f finding.state finding.memory = record { found = sym e; state = refl; memory = refl } in
      found_within l m (held_in p.calls x) p.calls.ended (held_in p.answers y) p.answers.ended z

  module _ {c a : List ℕ} (bc : Continues c (held_in p.calls x) p.calls.ended) (ba : Continues a (held_in p.answers y) p.answers.ended) where
    abbrev calls : Input
    calls = input (held_in p.calls x) p.calls.ended bc.0

    abbrev answers : Input
    answers = input (held_in p.answers y) p.answers.ended ba.0

    -- by what it found
    found : (f : Found) → finding.found ≡ f
        → verdict_by p.number f finding.state finding.memory calls answers ≡ against p.number (played l m c) a
    found f e =
        ap (λ (f : Found). verdict_by p.number f finding.state finding.memory calls answers) (sym e)
        ∙ round_keeps p.number l m calls answers (continues_lawful (held_in p.calls x) bc) (continues_lawful (held_in p.answers y) ba)
        ∙ ap₂ (λ (c a : List ℕ). against p.number (played l m c) a) (continues_content (held_in p.calls x) bc) (continues_content (held_in p.answers y) ba)

    -- the inputs after it are of the tapes c' and a'
    left : (n : ℕ) (l' m' : List ℕ) → l' ≡ finding.state → m' ≡ finding.memory → (i j : Input) (c' a' : List ℕ) → content i ≡ c' → content j ≡ a'
        → verdict_from n finding.state finding.memory i j ≡ against n (played l' m' c') a'
    left n l' m' sl sm i j c' a' ec ea =
        ap₂ (λ (l m : List ℕ). against n (played l m (content i)) (content j)) (sym sl) (sym sm)
        ∙ ap₂ (λ (c a : List ℕ). against n (played l' m' c) a) ec ea

-- ---- where the program stands after some rounds

pub record Stand (files : Files) (memory : ℕ) (l m x y : List ℕ) (p : Position) (rounds : ℕ) : Type 0 where
  calls_passed : List ℕ
  answers_passed : List ℕ
  calls : Side files.calls.number calls_passed p.calls x
  answers : Side files.answers.number answers_passed p.answers y
  keeps : (c a : List ℕ) → Continues c (held_in p.calls x) p.calls.ended → Continues a (held_in p.answers y) p.answers.ended
      → verdict memory (calls_passed ++ c) (answers_passed ++ a) ≡ against p.number (played l m c) a
  spent : 18446744073709551615
      ≤ rounds + (cost calls_passed (held_in p.calls x) p.calls.ended + cost answers_passed (held_in p.answers y) p.answers.ended)

-- before the first
abbrev unheld : Held
unheld = record { from = 0; to = 0; ended = false }

abbrev pub start : Position
start = record { calls = unheld; answers = unheld; number = 0 }

pub stand_start : (files : Files) (memory : ℕ) (l m x y : List ℕ) → l ≡ reset_bytes memory → m ≡ zeros memory
    → Stand files memory l m x y start 18446744073709551615
unfolding verdict records
stand_start files memory l m x y sl sm = record {
  calls_passed = [];
  answers_passed = [];
  calls = record { lies = (omega arith, omega arith); from = BytesOf.unread };
  answers = record { lies = (omega arith, omega arith); from = BytesOf.unread };
  keeps = λ c a bc ba. ap₂ (λ (l m : List ℕ). against 0 (played l m c) a) (sym sl) (sym sm);
  spent = omega arith;
}

-- a read that failed ends the rounds, and no other
read_on : (d : Result Held ReadFailed) {q : Position} (on : Held → Position) → Continue q ≡ read_by d on → (is_err d ≡ false) × (q ≡ on (held_after d))
read_on (Ok h) on e = (refl, cc)
read_on (Err f) on e = absurd cc

read_done : (d : Result Held ReadFailed) {v : Option Report} (on : Held → Position) → Break v ≡ read_by d on → (is_err d ≡ true) × (v ≡ None)
read_done (Ok h) on e = absurd cc
read_done (Err f) on e = (refl, cc)

module _ {files : Files} {memory : ℕ} {l m x y : List ℕ} {p : Position} {rounds : ℕ} (s : Stand files memory l m x y p rounds) where
  abbrev held_calls : List ℕ
  held_calls = held_in p.calls x

  abbrev held_answers : List ℕ
  held_answers = held_in p.answers y

  -- ---- a round more

  module _ (q : Position) (l' m' : List ℕ) (sl : l' ≡ (shown l m x y p).state) (sm : m' ≡ (shown l m x y p).memory) (k : ℕ) (fewer : rounds ≤ k + 1) where
    read_calls : (shown l m x y p).found ≡ Found.Calls → (d : Result Held ReadFailed) {x' : List ℕ} → Room p.calls x → Reads files.calls.number p.calls x d x'
        → is_err d ≡ false → Stand files memory l' m' x' y (on_calls p (held_after d)) k
    read_calls e d {x'} room r good =
        let still : p.calls.ended ≡ false = (within l m x y p Found.Calls e).1 in
        let held : held_in (held_after d) x' ≡ held_calls ++ take r.count r.buffer = r.held s.calls.lies in
        record {
          calls_passed = s.calls_passed;
          answers_passed = s.answers_passed;
          calls = side_read s.calls still room r good;
          answers = s.answers;
          keeps =
              λ c a bc ba.
              let b : Continues c held_calls p.calls.ended =
              continues_fewer c held_calls (take r.count r.buffer) still (bc.0, bc.1 ∙ ap (λ (h : List ℕ). h ++ bc.0) held, bc.2) in
              s.keeps c a b ba ∙ sym (found l m x y p b ba Found.Calls e)
              ∙ left l m x y p b ba p.number l' m' sl sm (next (calls l m x y p b ba)) (answers l m x y p b ba) c a
              (next_content (calls l m x y p b ba) ∙ continues_content held_calls b) (continues_content held_answers ba);
          spent =
              let before : cost s.calls_passed held_calls p.calls.ended ≡ cost s.calls_passed held_calls false =
              ap (cost s.calls_passed held_calls) still in
              let after : cost s.calls_passed (held_in (held_after d) x') (held_after d).ended ≡ cost s.calls_passed (held_calls ++ take r.count r.buffer) (eqb r.count 0) =
              ap₂ (cost s.calls_passed) held (r.ended s.calls.lies) in
              let more = cost_read s.calls_passed held_calls r.buffer r.count (r.room s.calls.lies room) in
              let most = s.spent in
              omega arith;
        }

    read_answers : (shown l m x y p).found ≡ Found.Answers → (d : Result Held ReadFailed) {y' : List ℕ} → Room p.answers y → Reads files.answers.number p.answers y d y'
        → is_err d ≡ false → Stand files memory l' m' x y' (on_answers p (held_after d)) k
    read_answers e d {y'} room r good =
        let still : p.answers.ended ≡ false = (within l m x y p Found.Answers e).1 in
        let held : held_in (held_after d) y' ≡ held_answers ++ take r.count r.buffer = r.held s.answers.lies in
        record {
          calls_passed = s.calls_passed;
          answers_passed = s.answers_passed;
          calls = s.calls;
          answers = side_read s.answers still room r good;
          keeps =
              λ c a bc ba.
              let b : Continues a held_answers p.answers.ended =
              continues_fewer a held_answers (take r.count r.buffer) still (ba.0, ba.1 ∙ ap (λ (h : List ℕ). h ++ ba.0) held, ba.2) in
              s.keeps c a bc b ∙ sym (found l m x y p bc b Found.Answers e)
              ∙ left l m x y p bc b p.number l' m' sl sm (calls l m x y p bc b) (next (answers l m x y p bc b)) c a
              (continues_content held_calls bc) (next_content (answers l m x y p bc b) ∙ continues_content held_answers b);
          spent =
              let before : cost s.answers_passed held_answers p.answers.ended ≡ cost s.answers_passed held_answers false =
              ap (cost s.answers_passed held_answers) still in
              let after : cost s.answers_passed (held_in (held_after d) y') (held_after d).ended ≡ cost s.answers_passed (held_answers ++ take r.count r.buffer) (eqb r.count 0) =
              ap₂ (cost s.answers_passed) held (r.ended s.answers.lies) in
              let more = cost_read s.answers_passed held_answers r.buffer r.count (r.room s.answers.lies room) in
              let most = s.spent in
              omega arith;
        }

    pass_record : (u w : ℕ) → (shown l m x y p).found ≡ Found.Same u w → Stand files memory l' m' x y (passed p u w) k
    pass_record u w e =
        let i : (u ≤ length held_calls) × (w ≤ length held_answers) × (6 ≤ u) = within l m x y p (Found.Same u w) e in
        let hc : drop u held_calls ≡ held_in (behind p.calls u) x = held_behind p.calls x u s.calls.lies i.0 in
        let ha : drop w held_answers ≡ held_in (behind p.answers w) y = held_behind p.answers y w s.answers.lies i.1 in
        record {
          calls_passed = s.calls_passed ++ take u held_calls;
          answers_passed = s.answers_passed ++ take w held_answers;
          calls = side_past s.calls u i.0;
          answers = side_past s.answers w i.1;
          keeps =
              λ c a bc ba.
              let b : Continues (take u held_calls ++ c) held_calls p.calls.ended = continues_more c held_calls u hc bc in
              let b' : Continues (take w held_answers ++ a) held_answers p.answers.ended = continues_more a held_answers w ha ba in
              ap₂ (verdict memory) (append_assoc s.calls_passed (take u held_calls) c) (append_assoc s.answers_passed (take w held_answers) a)
              ∙ s.keeps (take u held_calls ++ c) (take w held_answers ++ a) b b' ∙ sym (found l m x y p b b' (Found.Same u w) e)
              ∙ left l m x y p b b' (suc p.number) l' m' sl sm (past u (calls l m x y p b b')) (past w (answers l m x y p b b')) c a
              (sym (past_content (calls l m x y p b b') u i.0) ∙ ap (drop u) (continues_content held_calls b) ∙ drop_front c held_calls u i.0)
              (sym (past_content (answers l m x y p b b') w i.1) ∙ ap (drop w) (continues_content held_answers b') ∙ drop_front a held_answers w i.1)
              ∙ ap (λ (n : ℕ). against n (played l' m' c) a) (sym (add-one p.number));
          spent =
              let ec : cost (s.calls_passed ++ take u held_calls) (held_in (behind p.calls u) x) p.calls.ended ≡ cost (s.calls_passed ++ take u held_calls) (drop u held_calls) p.calls.ended =
              ap (λ (h : List ℕ). cost (s.calls_passed ++ take u held_calls) h p.calls.ended) (sym hc) in
              let ea : cost (s.answers_passed ++ take w held_answers) (held_in (behind p.answers w) y) p.answers.ended ≡ cost (s.answers_passed ++ take w held_answers) (drop w held_answers) p.answers.ended =
              ap (λ (h : List ℕ). cost (s.answers_passed ++ take w held_answers) h p.answers.ended) (sym ha) in
              let pc = cost_past s.calls_passed held_calls u p.calls.ended i.0 in
              let pa = cost_past s.answers_passed held_answers w p.answers.ended i.1 in
              let most = s.spent in
              omega arith;
        }

    on_by : (x' y' : List ℕ) (f : Found) → (shown l m x y p).found ≡ f → Follows files f p x y (Continue q) x' y' → Stand files memory l' m' x' y' q k
    on_by x' y' Found.Calls e w =
        let o = read_on w.0 (on_calls p) w.1 in
        subst (λ (q : Position). Stand files memory l' m' x' y' q k) (sym o.1)
        (subst (λ (y' : List ℕ). Stand files memory l' m' x' y' (on_calls p (held_after w.0)) k) (sym w.4) (read_calls e w.0 w.2 w.3 o.0))
    on_by x' y' Found.Answers e w =
        let o = read_on w.0 (on_answers p) w.1 in
        subst (λ (q : Position). Stand files memory l' m' x' y' q k) (sym o.1)
        (subst (λ (x' : List ℕ). Stand files memory l' m' x' y' (on_answers p (held_after w.0)) k) (sym w.4) (read_answers e w.0 w.2 w.3 o.0))
    on_by x' y' (Found.Same u n) e w =
        let t : Continue q ≡ Continue (passed p u n) = w.0 in
        let z : q ≡ passed p u n = cc in
        subst (λ (q : Position). Stand files memory l' m' x' y' q k) (sym z)
        (subst (λ (x' : List ℕ). Stand files memory l' m' x' y' (passed p u n) k) (sym w.1)
        (subst (λ (y' : List ℕ). Stand files memory l' m' x y' (passed p u n) k) (sym w.2) (pass_record u n e)))
    on_by x' y' Found.Agrees e w = absurd (let t : Continue q ≡ Break (Some Report.Agrees) = w in cc)
    on_by x' y' (Found.Differs n) e w =
        absurd (let t : Continue q ≡ Break (Some (Report.Differs (p.number + n))) = w in cc)

  pub stand_on : {q : Position} {l' m' x' y' : List ℕ} → Round files l m x y p (Continue q) l' m' x' y' → (k : ℕ) → rounds ≤ k + 1
      → Stand files memory l' m' x' y' q k
  stand_on {q} {l'} {m'} {x'} {y'} r k fewer =
      on_by q l' m' r.state r.memory k fewer x' y' (shown l m x y p).found refl r.follows

  -- ---- the last

  abbrev tapes : Tapes files.calls.number files.answers.number
  tapes = record {
    call_bytes = s.calls_passed ++ held_calls;
    ended_calls = p.calls.ended;
    answer_bytes = s.answers_passed ++ held_answers;
    ended_answers = p.answers.ended;
    from_calls = s.calls.from;
    from_answers = s.answers.from;
  }

  verdict_on_lem : {v : Verdict} (f : Found) → (shown l m x y p).found ≡ f
      → ((i j : Input) → verdict_by p.number f (shown l m x y p).state (shown l m x y p).memory i j ≡ v) → VerdictOn memory v tapes
  verdict_on_lem f e says c a bc ba =
      let b : Continues (held_calls ++ bc.0) held_calls p.calls.ended = (bc.0, refl, bc.2) in
      let b' : Continues (held_answers ++ ba.0) held_answers p.answers.ended = (ba.0, refl, ba.2) in
      ap₂ (verdict memory) (bc.1 ∙ append_assoc s.calls_passed held_calls bc.0) (ba.1 ∙ append_assoc s.answers_passed held_answers ba.0)
      ∙ s.keeps (held_calls ++ bc.0) (held_answers ++ ba.0) b b' ∙ sym (found l m x y p b b' f e)
      ∙ says (calls l m x y p b b') (answers l m x y p b b')

  done_by : (v : Option Report) (x' y' : List ℕ) (f : Found) → (shown l m x y p).found ≡ f → Follows files f p x y (Break v) x' y'
      → Reports files.calls.number files.answers.number memory v
  done_by v x' y' Found.Calls e w =
      let o = read_done w.0 (on_calls p) w.1 in
      subst (Reports files.calls.number files.answers.number memory) (sym o.1) (Silent.no_calls (gives_failure (w.3.gives s.calls.lies) o.0))
  done_by v x' y' Found.Answers e w =
      let o = read_done w.0 (on_answers p) w.1 in
      subst (Reports files.calls.number files.answers.number memory) (sym o.1) (Silent.no_answers (gives_failure (w.3.gives s.answers.lies) o.0))
  done_by v x' y' (Found.Same u n) e w =
      absurd (let t : Break v ≡ Continue (passed p u n) = w.0 in cc)
  done_by v x' y' Found.Agrees e w =
      let z : v ≡ Some Report.Agrees = cc in
      subst (Reports files.calls.number files.answers.number memory) (sym z) (tapes, verdict_on_lem Found.Agrees e (λ i j. refl))
  done_by v x' y' (Found.Differs n) e w =
      let z : v ≡ Some (Report.Differs (p.number + n)) = cc in
      subst (Reports files.calls.number files.answers.number memory) (sym z) (tapes, verdict_on_lem (Found.Differs n) e (λ i j. refl))

  pub stand_done : {v : Option Report} {l' m' x' y' : List ℕ} → Round files l m x y p (Break v) l' m' x' y' → Reports files.calls.number files.answers.number memory v
  stand_done {v} {l'} {m'} {x'} {y'} r = done_by v x' y' (shown l m x y p).found refl r.follows

  -- all rounds are used up
  pub stand_out : rounds ≡ 0 → Silent files.calls.number files.answers.number memory
  stand_out z =
      let c : length (s.calls_passed ++ held_calls) ≡ length s.calls_passed + length held_calls = length-append s.calls_passed held_calls in
      let a : length (s.answers_passed ++ held_answers) ≡ length s.answers_passed + length held_answers = length-append s.answers_passed held_answers in
      let ec = one p.calls.ended in
      let ea = one p.answers.ended in
      let most = s.spent in
      Silent.endless tapes (omega arith)
    where
      one : (e : Bool) → cond e 1 0 ≤ 1
      one true = omega arith
      one false = omega arith
