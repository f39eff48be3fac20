use mathlib.Core.Path.{◌≡◌, refl, sym, ap, ◌∙◌}
use mathlib.Core.Bool.{false}
use Rattle.rules.specs.Answer.{is_done}
use Rattle.rules.specs.declared.Answer.{Answer}
use Rattle.rules.specs.declared.Answer.TheVariants.{Done, Held, Refused}
use Rattle.tape.proofs.WrittenLaws.{started_answer, started_bytes}
use Rattle.tape.proofs.start.start.Goals as goal
use Prim.Native.Nat.{ℕ}

not_done : (r : Answer) → ((s : ℕ) → r ≡ Done s → ⊥) → is_done r ≡ false
not_done (Done s) h = absurd (h s refl)
not_done (Held x) h = refl
not_done (Refused n) h = refl

pub returns-in-Done : goal.returns-in-Done
returns-in-Done c =
    let o = c.reset.ensures in
    let a = c.args in
    record { value = sym (ap is_done c.in-Done.is) ∙ started_answer a.state.now a.memory o; state_after = started_bytes a.state.now a.memory o }

pub returns-in_default : goal.returns-in_default
returns-in_default c =
    let o = c.reset.ensures in
    let a = c.args in
    record {
      value = sym (not_done c.reset.result c.in_default.not-Done) ∙ started_answer a.state.now a.memory o;
      state_after = started_bytes a.state.now a.memory o;
    }
