-- `soundness::sound` meets its contract. Assumes nothing.
use mathlib.Core.Path.{sym, ◌∙◌}
use Rattle.store.proofs.CallLaws.{call-10}
use Rattle.soundness.proofs.sound.Goals as goal

pub returns-else-check-clause-found : goal.returns-else-check-clause-found
returns-else-check-clause-found c call = call-10 call _ (sym c.check.ensures ∙ c.if-check.false)
