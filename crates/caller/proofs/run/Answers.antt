-- Nine calls in turn: what each exported function promises makes them a list of the judge's theorem. Assumes nothing.
use mathlib.Core.Path.{refl, ◌∙◌}
use mathlib.Core.List.{[], ◌∷◌}
use Rattle.judge.specs.Demand3.{Linked, state_after}
use Rattle.caller.proofs.ExchangeLaws.{answered}
use Rattle.caller.proofs.run.Goals as goal

pub shape_of-state : goal.shape_of-state
shape_of-state c =
    c.poll.auto.state ∙ c.flush.auto.state ∙ c.turn.auto.state ∙ c.enqueue.auto.state ∙ c.send.auto.state
    ∙ c.receive.auto.state ∙ c.register_pages.auto.state ∙ c.control.auto.state ∙ c.reset.auto.state

pub returns : goal.returns
unfolding Linked state_after
returns c =
    answered _ _ c.reset.ensures [] refl (_ ∷ _ ∷ _ ∷ _ ∷ _ ∷ _ ∷ _ ∷ _ ∷ []) (
      c.control.ensures,
      (
        c.register_pages.ensures,
        (
          c.receive.ensures,
          (
            c.send.ensures,
            (c.enqueue.ensures, (c.turn.ensures, (c.flush.ensures, (c.poll.ensures, tt)))),
          ),
        ),
      ),
    )
