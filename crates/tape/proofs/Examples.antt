-- Document 01's whole case, the ends of a tape, the edges of a header, and verdicts, computed. Assumes nothing.
use mathlib.Core.Path.{◌≡◌, refl, sym, ap}
use mathlib.Core.Bool.{true}
use mathlib.Core.List.{List, [], ◌∷◌, ◌++◌, flatten}
use Prim.Native.Nat.{ℕ}
use native.Mathlib.Omega.{arith}
use Rattle.wire.specs.Codec.{put_fields}
use Rattle.wire.specs.Le.{le_at, put_le}
use Rattle.wire.specs.Scan.{lowest, lowest_from}
use Rattle.validate.specs.Accept.{accepts}
use Rattle.validate.proofs.AcceptedLaws.{accepting}
use Rattle.tables.specs.Card.{fresh}
use Rattle.tables.specs.State.{card}
use Rattle.tables.specs.Commands.{command_of, data_size, ack_need}
use Rattle.tables.specs.Reset.{zeros, reset_bytes}
use Rattle.validate.proofs.ResetLaws.{reset_accepted}
use Rattle.tables.proofs.ResetLaws.{reset_card}
use Rattle.rules.specs.Call.{Call}
use Rattle.rules.specs.Calls.{checks, control_checks, status_of, buffer_after}
use Rattle.rules.specs.Control.{command_checks, command_ack}
use Rattle.std.specs.Prelude.{Ok, Err}
use Rattle.tape.specs.declared.HeaderError.{HeaderError}
use Rattle.tape.specs.declared.Kind.{Kind}
use Rattle.tape.specs.Tape.{header_of, step_of, answer_record, answer_to, play, records, tape_ack, tape_memory, bad_record, output}
use Rattle.tape.specs.Audit.{Verdict, starts, against, verdict}
use Rattle.tape.proofs.VerdictLaws.{agrees_output}

-- 52 4B 01 00 02 00 06 04
abbrev whole_case : List ℕ
whole_case = 82 ∷ 75 ∷ 1 ∷ 0 ∷ 2 ∷ 0 ∷ 6 ∷ 4 ∷ []

first_domain : answer_to (reset_bytes tape_memory) (Call.control (6 ∷ 4 ∷ []) (zeros tape_ack)) ≡ 114 ∷ 107 ∷ 0 ∷ 0 ∷ 5 ∷ 0 ∷ 0 ∷ 0 ∷ 0 ∷ 0 ∷ 0 ∷ []
unfolding answer_to answer_record checks control_checks command_checks command_ack command_of data_size ack_need status_of buffer_after put_fields put_le le_at lowest lowest_from
first_domain =
    let l : List ℕ = reset_bytes tape_memory in
    let c : card l ≡ fresh tape_memory = reset_card tape_memory (omega arith) (omega arith) in
    let a : accepts l ≡ true = accepting l (reset_accepted tape_memory (omega arith) (omega arith)) in
    rw (a, c)

-- "Whole case: 52 4B 01 00 02 00 06 04 gives 72 6B 00 00 05 00 00 00 00 00 00."
pub whole_case_lem : output whole_case ≡ 114 ∷ 107 ∷ 0 ∷ 0 ∷ 5 ∷ 0 ∷ 0 ∷ 0 ∷ 0 ∷ 0 ∷ 0 ∷ []
unfolding output records play step_of header_of le_at flatten
whole_case_lem = ap (λ (a : List ℕ). a ++ []) first_domain

pub header_edges : (header_of (82 ∷ 75 ∷ 1 ∷ 0 ∷ 128 ∷ 2 ∷ []) ≡ Ok (record { kind = Kind.Control; number = 0; length = 640 })) × (header_of (82 ∷ 75 ∷ 1 ∷ 0 ∷ 129 ∷ 2 ∷ []) ≡ Err HeaderError.Bad)
    × (header_of (82 ∷ 75 ∷ 4 ∷ 255 ∷ 0 ∷ 0 ∷ []) ≡ Ok (record { kind = Kind.Poll; number = 255; length = 0 })) × (header_of (82 ∷ 75 ∷ 5 ∷ 0 ∷ 1 ∷ 0 ∷ []) ≡ Err HeaderError.Bad)
    × (header_of (82 ∷ 75 ∷ 0 ∷ 0 ∷ 0 ∷ 0 ∷ []) ≡ Err HeaderError.Bad) × (header_of (82 ∷ 75 ∷ 6 ∷ 0 ∷ 0 ∷ 0 ∷ []) ≡ Err HeaderError.Bad)
    × (header_of (75 ∷ 82 ∷ 1 ∷ 0 ∷ 2 ∷ 0 ∷ []) ≡ Err HeaderError.Bad) × (header_of (82 ∷ 75 ∷ 1 ∷ 0 ∷ 2 ∷ []) ≡ Err HeaderError.Cut)
unfolding header_of le_at
header_edges = (refl, refl, refl, refl, refl, refl, refl, refl)

-- "Clean end adds nothing."
pub empty_tape : output [] ≡ []
unfolding output records play flatten
empty_tape = refl

-- ---- verdicts

pub whole_case_agrees : verdict tape_memory whole_case (114 ∷ 107 ∷ 0 ∷ 0 ∷ 5 ∷ 0 ∷ 0 ∷ 0 ∷ 0 ∷ 0 ∷ 0 ∷ []) ≡ Verdict.agrees
whole_case_agrees = (agrees_output whole_case _).1 (sym whole_case_lem)

-- no calls: no answer is due, and a byte is record 0; a bad record: its answer is record 0, and a byte behind it record 1
pub verdict_edges : (verdict tape_memory [] [] ≡ Verdict.agrees) × (verdict tape_memory [] (0 ∷ []) ≡ Verdict.differs 0)
    × (verdict tape_memory (0 ∷ []) bad_record ≡ Verdict.agrees) × (verdict tape_memory (0 ∷ []) [] ≡ Verdict.differs 0)
    × (verdict tape_memory (0 ∷ []) (114 ∷ 107 ∷ 14 ∷ []) ≡ Verdict.differs 0) × (verdict tape_memory (0 ∷ []) (bad_record ++ (0 ∷ [])) ≡ Verdict.differs 1)
unfolding verdict against starts records play step_of header_of
verdict_edges = (refl, refl, refl, refl, refl, refl)
