use Rattle.std.proofs.Common.{arith}
use Rattle.text_form.specs.Form.{set_byte, variable_byte, lettered_test}
use Rattle.text_form.specs.Spelling.{test_bytes}
use Rattle.text_node.proofs.Nodes.{spaced-few, test_in, test-out, test-port, test-size, put-ports, put-sizes}
use Rattle.text_node.proofs.put_literal.Goals as goal

pub returns-in-5 : goal.returns-in-5
unfolding test_bytes lettered_test
returns-in-5 c =
    rw (test_in _ _ _ _ c.in-5.is) c.put_member.ensures

pub returns-in-6 : goal.returns-in-6
unfolding test_bytes lettered_test
returns-in-6 c =
    rw (test-out _ _ _ _ c.in-6.is) c.put_member-in-6.ensures

pub put_byte-requires : goal.put_byte-requires
put_byte-requires c =
    omega (arith, spaced-few)

pub returns-in-7 : goal.returns-in-7
unfolding variable_byte
returns-in-7 c =
    rw (test-port _ _ _ _ c.in-7.is) (put-ports _ _ _ _ _ _ _ _ _ _ _ c.put_byte-sign.ensures c.put_relation-last.ensures c.put_byte.ensures)

pub put_digits-requires : goal.put_digits-requires
put_digits-requires c =
    omega (arith, spaced-few)

pub returns-in_default : goal.returns-in_default
unfolding set_byte
returns-in_default c =
    rw (test-size c.args.kind _ _ _ (λ e. omega arith) (λ e. omega arith) (λ e. omega arith)) (put-sizes _ _ _ _ _ _ _ _ _ _ _ _ _ c.put_byte-set.ensures c.put_byte-sign-in_default.ensures c.put_relation-last-in_default.ensures (rw c.from.ensures at c.put_digits.ensures))
