-- A new index has room for every node of a plan.
use Rattle.std.proofs.Common.{◌≡◌, ℕ, ap, arith, length}
use lib.ListN.{length-replicate}
use Rattle.table_format.specs.declared.Index.{Index}
use Rattle.table_format.specs.inner.Index.{blank_index}
use Rattle.table_check.specs.inner.Check.{IndexRoom}

pub blank-room : (x : Index) → x ≡ blank_index → IndexRoom x
unfolding blank_index
blank-room x e = record {
  of-firsts = omega (arith, length-replicate {A = ℕ} 512 0, ap (λ (y : Index). length y.firsts) e);
  of-ends = omega (arith, length-replicate {A = ℕ} 512 0, ap (λ (y : Index). length y.ends) e);
  of-uses = omega (arith, length-replicate {A = ℕ} 512 0, ap (λ (y : Index). length y.uses) e);
}
