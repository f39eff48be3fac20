-- Document 01, "Answer numbers": the number of each refusal, and the refusal of a number. Assumes nothing.
use Rattle.std.specs.Prelude.{Bool, cond, ℕ, eqb, Result, Ok, Err}
use Rattle.std.proofs.Math.Option.{Option, none, some}
use Rattle.tables.specs.declared.refusal.Refusal.{Refusal}
use Rattle.tables.specs.declared.refusal.Refusal.TheVariants.{WrongLength, NotLive, WrongState, BadField, OtherMemory, Full, NothingThere, InUse, BadRange, ShortBuffer, Unknown, BadRecord, BadState}

abbrev pub refusal_number : Refusal → ℕ
refusal_number WrongLength = 1
refusal_number NotLive = 2
refusal_number WrongState = 3
refusal_number BadField = 4
refusal_number OtherMemory = 7
refusal_number Full = 8
refusal_number NothingThere = 9
refusal_number InUse = 10
refusal_number BadRange = 11
refusal_number ShortBuffer = 12
refusal_number Unknown = 13
refusal_number BadRecord = 14
refusal_number BadState = 15

-- the refusal whose number this is; any, where it is no refusal's
abbrev pub refusal_of : ℕ → Refusal
refusal_of n =
    cond (eqb n 1) WrongLength
    (cond (eqb n 2) NotLive
    (cond (eqb n 3) WrongState
    (cond (eqb n 4) BadField
    (cond (eqb n 7) OtherMemory
    (cond (eqb n 8) Full
    (cond (eqb n 9) NothingThere
    (cond (eqb n 10) InUse
    (cond (eqb n 11) BadRange
    (cond (eqb n 12) ShortBuffer
    (cond (eqb n 13) Unknown
    (cond (eqb n 14) BadRecord BadState)))))))))))

-- a number that a refusal has
abbrev pub is_refusal : ℕ → Bool
is_refusal n = eqb (refusal_number (refusal_of n)) n

-- a value, or the refusal that its tests give
abbrev pub result_by : {A : Type 0} → Option ℕ → A → Result A Refusal
result_by none v = Ok v
result_by (some n) v = Err (refusal_of n)
