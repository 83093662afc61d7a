use Rattle.std.proofs.Common.{◌≡◌, arith}
use Rattle.logic.specs.Formula.{relation_of}
use Rattle.text_form.specs.Spelling.{relation_bytes, spaced}
use Rattle.text_node.proofs.Nodes.{last-relation}
use Rattle.text_node.proofs.put_relation.Goals.{in-0, in-1, in-2, in-3, in-4, in_default}
use Rattle.text_node.proofs.put_relation.Goals as goal

pub returns : goal.returns
unfolding relation_of relation_bytes spaced
returns c =
    let sign : c.match-relation.sign.now ≡ spaced (relation_bytes (relation_of c.args.relation)) = elim c.match-relation.branch [
      | in-0 w ↦ rw (w.sign-is, w.in-0.is)
      | in-1 w ↦ rw (w.sign-is, w.in-1.is)
      | in-2 w ↦ rw (w.sign-is, w.in-2.is)
      | in-3 w ↦ rw (w.sign-is, w.in-3.is)
      | in-4 w ↦ rw (w.sign-is, w.in-4.is)
      | in_default w ↦ rw (w.sign-is, last-relation c.args.relation (omega arith))
    ] in
    rw (← sign) c.put_bytes.ensures
