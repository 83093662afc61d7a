use mathlib.Core.Path.{◌≡◌, sym, subst}
use mathlib.Core.Bool.{true}
use Prim.Native.Nat.{ℕ}
use lib.Dec.{eqb}
use lib.ListN.{length}
use borrow.Author.Rules.{rules}
use Rattle.std.specs.Prelude.{Option, SomeIff}
use Rattle.std.specs.List.{position}
use Rattle.std.proofs.lemmas.Iterator.{YieldsList-from_slice}
use Rattle.std.proofs.lemmas.Iterator.Search.{position_from_yields_List}
use Rattle.planroot_input.specs.Lines.{line, ends}
use Rattle.plantable_bytes.proofs.Passing.{end-found}
use Rattle.plantable_bytes.proofs.line_end.Goals as goal

pub returns : goal.returns
returns c =
    let found : c.position.result ≡ position (λ (b : ℕ). eqb b 10) c.args.input.now =
    position_from_yields_List (λ b. eqb b 10) _ _ c.position.result c.position.ensures.ran (YieldsList-from_slice _ c.iter.ensures.rest) (λ x b q k. search rules) in
    subst (λ (r : Option ℕ). SomeIff r (ends c.args.input.now ≡ true) (length (line c.args.input.now))) (sym found) (end-found c.args.input.now)
