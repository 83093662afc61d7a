-- A tree's depth under another name of the same number. Assumes nothing.
use Rattle.std.proofs.Common.{◌≡◌, ℕ, List, subst}
use Rattle.cells_tuples.specs.inner.Tuples.{AllPortsReady, AllPortsGive}

module _ (u : ℕ) (bytes firsts ends uses masks sizes cells : List ℕ) (i members resized d d' : ℕ) (h : d ≡ d') where
  pub ready_at : (out : List ℕ) → AllPortsReady u bytes firsts ends uses masks sizes cells i d members resized out
      → AllPortsReady u bytes firsts ends uses masks sizes cells i d' members resized out
  ready_at out r = subst (λ (x : ℕ). AllPortsReady u bytes firsts ends uses masks sizes cells i x members resized out) h r

  pub gives_at : (before after : List ℕ) (r : ℕ) → AllPortsGive u bytes firsts ends uses masks sizes cells i d members resized before after r
      → AllPortsGive u bytes firsts ends uses masks sizes cells i d' members resized before after r
  gives_at before after r g = subst (λ (x : ℕ). AllPortsGive u bytes firsts ends uses masks sizes cells i x members resized before after r) h g
