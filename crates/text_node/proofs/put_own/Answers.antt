use Rattle.std.proofs.Common.{arith}
use Rattle.text_put.proofs.Putting.{puts_none}
use Rattle.text_node.proofs.Nodes.{own-literal, own-quantifier, own-none}
use Rattle.text_node.proofs.put_own.Goals as goal

pub returns-in-1 : goal.returns-in-1
returns-in-1 c =
    rw (own-quantifier _ _ _ _ c.args.kind (omega arith) (omega arith)) c.put_quantifier.ensures

pub returns-in-5-to-255 : goal.returns-in-5-to-255
returns-in-5-to-255 c =
    rw (own-literal _ _ _ _ c.args.kind (omega arith)) c.put_literal.ensures

pub returns-in_default : goal.returns-in_default
returns-in_default c =
    rw (own-none _ _ _ _ c.args.kind (omega arith) (λ e. omega arith) (λ e. omega arith)) (puts_none _ _)

pub returns-in_default-2 : goal.returns-in_default-2
returns-in_default-2 c =
    rw (own-none _ _ _ _ c.args.kind (omega arith) (λ e. omega arith) (λ e. omega arith)) (puts_none _ _)
