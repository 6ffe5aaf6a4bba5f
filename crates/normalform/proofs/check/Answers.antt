-- `normalform::check` meets its contract: what `check_form` answers, without the form.
-- Assumes nothing.
use Rattle.normalform.proofs.Normalizing.{form_accepted}
use Rattle.normalform.proofs.check.Goals as goal

pub returns : goal.returns
returns c = form_accepted _ _ _ c.in_ok-check_form.ensures
