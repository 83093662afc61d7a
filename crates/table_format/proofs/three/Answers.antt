use Rattle.table_format.proofs.three.Goals as goal

pub returns : goal.returns
returns c =
    cc
