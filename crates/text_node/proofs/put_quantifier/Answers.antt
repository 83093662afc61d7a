use Rattle.text_form.specs.Form.{variable_byte}
use Rattle.text_node.specs.inner.Nodes.{quantifier_bytes}
use Rattle.text_node.proofs.Nodes.{put_three}
use Rattle.text_node.proofs.put_quantifier.Goals as goal

pub returns : goal.returns
unfolding quantifier_bytes variable_byte
returns c =
    rw (← c.quantifier_sign.ensures) (put_three _ _ _ _ _ _ _ _ _ _ _ c.put_byte-second.ensures c.put_byte-third.ensures c.put_byte.ensures)
