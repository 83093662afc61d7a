use Rattle.text_form.specs.Form.{set_byte, variable_byte}
use Rattle.text_node.proofs.Nodes.{put_three}
use Rattle.text_node.proofs.put_member.Goals as goal

pub returns : goal.returns
unfolding set_byte variable_byte
returns c =
    put_three _ _ _ _ _ _ _ _ _ _ _ c.put_byte-second.ensures c.put_byte-third.ensures c.put_byte.ensures
