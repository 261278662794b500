-- The events that are run are those of the list, and so are the replies.
use Rattle.std.proofs.Common.{ℕ, List, nat_eq, sym, subst}
use Rattle.moka_hist.specs.declared.events.Event.{Event}
use Rattle.moka_hist.specs.declared.replies.Reply.{Reply}
use Rattle.moka_machine.specs.NumberTest.{number_tests}
use Rattle.moka_run.specs.Running.{Answers}
use Rattle.moka_run.proofs.answers.replies_to.Goals as goal

pub returns-in-Ok : goal.returns-in-Ok
returns-in-Ok c = λ s h reached.
    subst (λ (rs : List (Reply ℕ ℕ ℕ)). Answers nat_eq number_tests c.args.events.items rs c.run_events.new.cache s) (sym c.from_vec.ensures)
    (subst (λ (es : List (Event ℕ ℕ ℕ)). Answers nat_eq number_tests es c.in-Ok.replies.items c.run_events.new.cache s) c.deref.ensures.value (c.in-Ok.ensures.run s h reached))
