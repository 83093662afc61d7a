-- What is kept of an input gives the same as the whole input: "Bytes [..] past a plan's own are never [..] read". Assumes nothing.
use mathlib.Core.Path.{◌≡◌, refl, sym, ap, ◌∙◌}
use mathlib.Core.List.{List, ◌++◌, append_assoc}
use Prim.Native.Nat.{ℕ, ◌+◌, ◌-◌, ◌≤◌}
use native.Mathlib.Omega.{arith}
use lib.ListN.{length, take, drop, take-append-drop}
use lib.Seq.{take-add}
use Rattle.logic.specs.Formula.{Plan}
use Rattle.table_format.specs.Bytes.{header_length, record_length, records_from, encoding}
use Rattle.table_format.specs.Decode.{Decoded, broken, sound, decode, own_bytes}
use Rattle.table_format.proofs.Encoding.{decode-complete, decode-sound}
use Rattle.table_format.proofs.Own.{own-only}
use Rattle.table_format.proofs.Rooted.{front-is, open-table}
use Rattle.contracts.specs.WriteCall.{writes}
use Rattle.program_bytes.specs.Outcome.{Kept}
use Rattle.plantext_bytes.specs.Text.{written_text, input_text, input_room}

-- a plan's own bytes are all there, and they are few
own-few : (l : List ℕ) (P : Plan) → decode l ≡ sound P → (own_bytes l ≤ length l) × (own_bytes l ≤ input_room)
unfolding own_bytes records_from header_length record_length
own-few l P d = let F = front-is l (open-table l P (decode-sound l P d)).front in (F.whole, omega (arith, F.nodes512))

kept-sound : (l : List ℕ) (P : Plan) → decode l ≡ sound P → decode (take input_room l) ≡ sound P
kept-sound l P d =
    let m = own_bytes l in
    let r = input_room - m in
    let few = own-few l P d in
    let e : input_room ≡ m + r = omega arith in
    ap decode (ap (λ (k : ℕ). take k l) e ∙ take-add m r l) ∙ own-only l (take r (drop m l)) few.0 ∙ d

more-sound : (l more : List ℕ) (P : Plan) → decode l ≡ sound P → decode (l ++ more) ≡ sound P
more-sound l more P d =
    let t = decode-sound l P d in
    decode-complete (l ++ more) P record { rest = t.rest ++ more; is = ap (λ (x : List ℕ). x ++ more) t.is ∙ append_assoc (encoding P) t.rest more; rules = t.rules }

-- the first 4,105 bytes are a table of the same plan, or of none
same-table : (l : List ℕ) → decode (take input_room l) ≡ decode l
same-table l = go (decode l) refl
  where
    kept : List ℕ
    kept = take input_room l

    none-else : (x : Decoded) → decode kept ≡ x → decode l ≡ broken → x ≡ broken
    none-else broken e b = refl
    none-else (sound P) e b = sym (more-sound kept (drop input_room l) P e) ∙ ap decode (take-append-drop input_room l) ∙ b

    go : (x : Decoded) → decode l ≡ x → decode kept ≡ x
    go broken e = none-else (decode kept) refl e
    go (sound P) e = kept-sound l P e

-- what is kept of an input gives the same as the whole input
pub same_kept : (input B : List ℕ) → input_text (take input_room input) B ≡ input_text input B
unfolding input_text
same_kept input B = ap (λ (x : Decoded). written_text (writes x B)) (same-table input)

pub kept-text : (input kept : List ℕ) (n : ℕ) (B : List ℕ) → length kept ≡ input_room → Kept input n kept → input_text (take n kept) B ≡ input_text input B
kept-text input kept n B e K = ap (λ (x : List ℕ). input_text x B) (K.bytes-are ∙ ap (λ (k : ℕ). take k input) e) ∙ same_kept input B
