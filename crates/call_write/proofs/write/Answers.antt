use mathlib.Core.Path.{◌≡◌, sym, ap, ◌∙◌}
use borrow.Author.Rules.{rules}
use Rattle.std.specs.Prelude.{Err}
use Rattle.logic.specs.Refusal.{answer_number}
use mathlib.Core.Bool.{Bool, cond}
use native.Mathlib.Omega.{arith}
use lib.Dec.{ltb}
use lib.ListN.{length}
use Rattle.text_write.specs.inner.Forming.{FormsPlan}
use Rattle.call_write.proofs.Answering.{short, broken-11, refused-at, accepted}
use Rattle.call_write.proofs.write.Goals as goal

pub returns-in_default : goal.returns-in_default
returns-in_default c =
    broken-11 c.args.table.now c.args.text.now c.in_default.ensures

pub form_text-e-requires : goal.form_text-e-requires
form_text-e-requires c =
    let p = c.in-Some.ensures in record { plan = p.0; decodes = p.1; sets-are = p.2.sets-are; nodes-are = p.2.nodes-are }

pub returns-in_err-writable : goal.returns-in_err-writable
unfolding answer_number FormsPlan
returns-in_err-writable c =
    let p = c.in-Some.ensures in let f = c.form_text-e.ensures p.0 p.1 in let e : c.from_residual.result ≡ Err c.in_err-writable.field-0.0 = search rules in rw e (refused-at c.args.table.now c.args.text.now p.0 p.1 _ _ c.form_text-e.result f (omega arith) _ (c.in_err-writable.ensures ∙ ap (λ (b : Bool). cond b 17 (cond (ltb (length c.args.text.now) c.form_text-e.result.end) 12 0)) c.unreadable.ensures))

pub slice_bounds-put_bytes-end : goal.slice_bounds-put_bytes-end
unfolding answer_number
slice_bounds-put_bytes-end c =
    omega (arith, short c.form_text-e.result (length c.args.text.now) (sym (c.in_ok-writable.ensures ∙ ap (λ (b : Bool). cond b 17 (cond (ltb (length c.args.text.now) c.form_text-e.result.end) 12 0)) c.unreadable.ensures)))

pub put_bytes-requires : goal.put_bytes-requires
unfolding answer_number
put_bytes-requires c =
    omega (arith, short c.form_text-e.result (length c.args.text.now) (sym (c.in_ok-writable.ensures ∙ ap (λ (b : Bool). cond b 17 (cond (ltb (length c.args.text.now) c.form_text-e.result.end) 12 0)) c.unreadable.ensures)))

pub overflow_cast-result : goal.overflow_cast-result
unfolding answer_number
overflow_cast-result c =
    omega (arith, short c.form_text-e.result (length c.args.text.now) (sym (c.in_ok-writable.ensures ∙ ap (λ (b : Bool). cond b 17 (cond (ltb (length c.args.text.now) c.form_text-e.result.end) 12 0)) c.unreadable.ensures)))

pub returns : goal.returns
unfolding FormsPlan answer_number
returns c =
    let p = c.in-Some.ensures in let f = c.form_text-e.ensures p.0 p.1 in accepted c.args.table.now c.args.text.now p.0 p.1 _ _ c.form_text-e.result f (omega arith) (sym (c.in_ok-writable.ensures ∙ ap (λ (b : Bool). cond b 17 (cond (ltb (length c.args.text.now) c.form_text-e.result.end) 12 0)) c.unreadable.ensures)) _ _ c.put_bytes.ensures
