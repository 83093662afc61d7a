-- A line, put word by word. Assumes nothing.
use mathlib.Core.Path.{◌≡◌, sym, ap}
use mathlib.Core.List.{List, ◌++◌}
use Prim.Native.Nat.{ℕ, ◌≤◌}
use native.Mathlib.Omega.{arith}
use lib.ListN.{length, length-append}
use Rattle.text_tokens.specs.Tokens.{digits_of}
use Rattle.planroot_print.specs.declared.Line.{Line}
use Rattle.planroot_print.specs.declared.Line.TheVariants.{Penalty, Refusal}
use Rattle.planroot_print.specs.Line.{is_penalty, line_number, line_root, line_total, decimal, penalty_word, cells_word, refused_word, line_end, penalty_bytes, refusal_bytes, line_bytes, line_room, Shows}
use Rattle.text_put.specs.inner.Puts.{Puts}
use Rattle.text_put.proofs.Putting.{puts-more, puts-front}
use Rattle.text_put.proofs.Digits.{digits-few}

module _ (out x y : List ℕ) (a b end : ℕ) (out' : List ℕ) where
  pub penalty-put : (root total : ℕ) (z w : List ℕ) (c d : ℕ) → Puts 0 penalty_word out a x → Puts a (digits_of 10 root) x b y → Puts b cells_word y c z → Puts c (digits_of 10 total) z d w
      → Puts d line_end w end out' → Puts 0 (penalty_bytes root total) out end out'
  unfolding penalty_bytes decimal
  penalty-put root total z w c d A B C D E =
      puts-more 0 out penalty_word _ a end x out' A
      (puts-more a x (digits_of 10 root) _ b end y out' B (puts-more b y cells_word _ c end z out' C (puts-more c z (digits_of 10 total) line_end d end w out' D E)))

  pub refusal-put : (number : ℕ) → Puts 0 refused_word out a x → Puts a (digits_of 10 number) x b y → Puts b line_end y end out' → Puts 0 (refusal_bytes number) out end out'
  unfolding refusal_bytes decimal
  refusal-put number A B C = puts-more 0 out refused_word _ a end x out' A (puts-more a x (digits_of 10 number) line_end b end y out' B C)

penalty-room : (root total : ℕ) → length (penalty_bytes root total) ≤ line_room
unfolding penalty_bytes decimal
penalty-room root total =
    let p = digits_of 10 root in
    let q = digits_of 10 total in
    omega (arith, digits-few 10 root, digits-few 10 total, length-append p (cells_word ++ (q ++ line_end)), length-append q line_end)

refusal-room : (number : ℕ) → length (refusal_bytes number) ≤ line_room
unfolding refusal_bytes decimal
refusal-room number = let p = digits_of 10 number in omega (arith, digits-few 10 number, length-append p line_end)

-- the line is at the front of the table, and the rest of the table is as it was
module _ (out : List ℕ) (end : ℕ) (out' : List ℕ) (room : line_room ≤ length out) where
  at_front : (line : Line) (bytes : List ℕ) → bytes ≡ line_bytes line → length bytes ≤ line_room → Puts 0 bytes out end out'
      → Shows line out end out'
  at_front line bytes e h P = record {
    count-is = rw (← e) (omega (arith, P.end_is));
    bytes-are = rw (← e) (puts-front bytes out end out' (omega arith) P);
    few = omega (arith, P.end_is);
  }

  pub penalty-line : (line : Line) (root total : ℕ) → line ≡ Penalty root total → Puts 0 (penalty_bytes root total) out end out'
      → Shows line out end out'
  unfolding line_bytes is_penalty line_root line_total
  penalty-line line root total e P = at_front line (penalty_bytes root total) (sym (ap line_bytes e)) (penalty-room root total) P

  pub refusal-line : (line : Line) (number : ℕ) → line ≡ Refusal number → Puts 0 (refusal_bytes number) out end out'
      → Shows line out end out'
  unfolding line_bytes is_penalty line_number
  refusal-line line number e P = at_front line (refusal_bytes number) (sym (ap line_bytes e)) (refusal-room number) P
