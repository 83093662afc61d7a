-- What reading is decided by, and what an accepted reading leaves. Assumes nothing.
use mathlib.Core.Path.{◌≡◌, refl, sym, ap, ◌∙◌}
use mathlib.Core.Bool.{Bool, true, false, cond, not, ◌&&◌}
use mathlib.Core.List.{List, ◌++◌, append_assoc}
use Prim.Native.Nat.{ℕ, ◌≤◌, ◌<◌}
use native.Mathlib.Decide.{dec_le}
use native.Mathlib.Omega.{arith}
use lib.Dec.{leb}
use lib.ListN.{length, take, drop, length-append}
use lib.Seq.{take_all, length-take-le}
use borrow.Author.Tests.{lt-ltb}
use Rattle.logic.specs.Formula.{Plan, node_count}
use Rattle.std.specs.Prelude.{Result as Outcome, Ok}
use Rattle.logic.specs.declared.refusal.Refusal.{Refusal}
use Rattle.logic.specs.Moves.{refusal}
use Rattle.text_grammar.specs.Parser.{Result, parsed}
use Rattle.text_core.specs.Core.{plan_of}
use Rattle.table_format.specs.Bytes.{table_bytes, sets_field, records, header, encoding}
use Rattle.table_format.specs.Decode.{decode, own_bytes}
use Rattle.table_format.proofs.Bytes.{sets-of-header}
use Rattle.table_format.proofs.Own.{own_is}
use Rattle.contracts.specs.declared.Read.{Read}
use Rattle.contracts.specs.Read.{ReadValues, read_refused, read_values, table_length, text_grounds, read_grounds, read_or, reads, ReadPromise}
use Rattle.contracts.specs.Admitted.{admitted_plan}
use Rattle.contracts.proofs.Grounds.{few-sets}
use Rattle.contracts.proofs.Reading.{accepted-admitted, admitted-read, read-decodes}

-- a text that is too long is refused by its length, whatever follows
too_long : (u : ℕ) (s B : List ℕ) → 4096 < length s → reads u s B ≡ (read_refused (cond (leb 1 u && leb u 64) 1 10), B)
unfolding reads text_grounds read_grounds refusal read_or
too_long u s B h = rw (lt-ltb 4096 (length s) h) (go (leb 1 u && leb u 64) (parsed s))
  where
    go : (p : Bool) (r : Result) → read_or (cond (not p) 10 1) u r B ≡ (read_refused (cond p 1 10), B)
    go true r = refl
    go false r = refl

-- reading is decided by the first 4,097 bytes
pub same_start : (u : ℕ) (t B : List ℕ) → reads u (take 4097 t) B ≡ reads u t B
same_start u t B = go (dec_le (length t) 4097)
  where
    go : Dec (length t ≤ 4097) → reads u (take 4097 t) B ≡ reads u t B
    go (yes h) = ap (λ (x : List ℕ). reads u x B) (take_all 4097 t h)
    go (no f) =
        let long : length (take 4097 t) ≡ 4097 = length-take-le 4097 t (omega arith) in
        too_long u (take 4097 t) B (omega arith) ∙ sym (too_long u t B (omega arith))

pub longer-text : (u : ℕ) (s more B : List ℕ) → 4096 < length s → reads u (s ++ more) B ≡ reads u s B
longer-text u s more B h = too_long u (s ++ more) B (omega (arith, length-append s more)) ∙ sym (too_long u s B h)

pub sets-encoded : (P : Plan) (rest : List ℕ) → sets_field (encoding P ++ rest) ≡ P.sets
unfolding encoding
sets-encoded P rest =
    let k = node_count P.formula in
    let t = records P.formula 0 65535 in
    ap sets_field (append_assoc (header P.ports P.sets k) t rest) ∙ sets-of-header P.ports P.sets k (t ++ rest)

-- The table of an accepted reading: a plan's, of which the answer has the node count.
pub record LeftTable (nodes : ℕ) (B O : List ℕ) : Type 0 where
  pub plan : Plan
  pub nodes-are : nodes ≡ node_count plan.formula
  pub sets-field : sets_field O ≡ plan.sets
  pub own-long : own_bytes O ≡ table_bytes plan.sets nodes
  pub few-sets : plan.sets ≤ 16
  pub few-nodes : nodes ≤ 512
  pub fits : table_length plan ≤ length B

pub accepted-table : (u : ℕ) (s B O : List ℕ) (x : Outcome Read Refusal) (nodes total : ℕ) → ReadPromise (reads u s B) x O → x ≡ Ok (record { nodes = nodes; cells = total }) → LeftTable nodes B O
unfolding read_values admitted_plan plan_of
accepted-table u s B O x nodes total e y =
    let v = ap (λ (a : Outcome Read Refusal). read_values a) (sym y) ∙ e.values-are in
    let A = accepted-admitted u s B (ap (λ (q : ReadValues). q.number) (sym v)) in
    let P = admitted_plan A in
    let past = drop (table_length P) B in
    let count : nodes ≡ node_count P.formula = ap (λ (q : ReadValues). q.nodes) v ∙ ap (λ (q : ReadValues × List ℕ). q.0.nodes) (admitted-read u s B A) in
    record {
      plan = P;
      nodes-are = count;
      sets-field = ap sets_field (e.table_is ∙ ap (λ (q : ReadValues × List ℕ). q.1) (admitted-read u s B A)) ∙ sets-encoded P past;
      own-long = (own_is O P (ap decode e.table_is ∙ read-decodes u s B A)).long ∙ ap (λ (k : ℕ). table_bytes P.sets k) (sym count);
      few-sets = few-sets A.sets A.tree A.names;
      few-nodes = omega (arith, A.few-nodes);
      fits = A.fits;
    }
