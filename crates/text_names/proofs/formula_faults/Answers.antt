use Rattle.text_names.proofs.Finding.{finds-all}
use Rattle.text_names.proofs.formula_faults.Goals as goal

pub returns : goal.returns
returns c =
    finds-all _ _ _ _ c.find_faults.ensures
