-- The numbers of the grounds: as the code's enum has them, none is 0, and no two are one. Assumes nothing.
use mathlib.Core.Path.{◌≡◌, refl, sym, ap, ◌∙◌}
use mathlib.Core.Logic.{◌≢◌}
use Prim.Native.Nat.{ℕ, zero, suc, pred, ◌+◌}
use native.Mathlib.Omega.{arith}
use denote.Enum.Declared.{tag_of}
use Rattle.logic.specs.declared.refusal.Refusal.{Refusal}
use Rattle.logic.specs.declared.refusal.Refusal.TheVariants.{TextTooLong, UnknownByte, OutsideGrammar, TextTooDeep, WrongName, ConstantTooLarge, FourthQuantifier, TooManyNodes, TooManyCells, PortsOutOfRange, BrokenTable, TableTooShort, MaskPortTooHigh, Unknown, MoveNotLegal, ListTooShort, TextUnwritable, JournalFull, JournalEmpty, AlreadyInCondition}
use Rattle.logic.specs.contracts.refusal.Refusal.{the_type}
use Rattle.std.specs.Prelude.{Result, Ok, Err}
use Rattle.logic.specs.Refusal.{refusal_number, Told}

pub number-is : (g : Refusal) → tag_of the_type g + 1 ≡ refusal_number g
unfolding refusal_number
number-is TextTooLong = refl
number-is UnknownByte = refl
number-is OutsideGrammar = refl
number-is TextTooDeep = refl
number-is WrongName = refl
number-is ConstantTooLarge = refl
number-is FourthQuantifier = refl
number-is TooManyNodes = refl
number-is TooManyCells = refl
number-is PortsOutOfRange = refl
number-is BrokenTable = refl
number-is TableTooShort = refl
number-is MaskPortTooHigh = refl
number-is Unknown = refl
number-is MoveNotLegal = refl
number-is ListTooShort = refl
number-is TextUnwritable = refl
number-is JournalFull = refl
number-is JournalEmpty = refl
number-is AlreadyInCondition = refl

pub number-some : (g : Refusal) → refusal_number g ≢ 0
unfolding refusal_number
number-some TextTooLong e = omega (arith, e)
number-some UnknownByte e = omega (arith, e)
number-some OutsideGrammar e = omega (arith, e)
number-some TextTooDeep e = omega (arith, e)
number-some WrongName e = omega (arith, e)
number-some ConstantTooLarge e = omega (arith, e)
number-some FourthQuantifier e = omega (arith, e)
number-some TooManyNodes e = omega (arith, e)
number-some TooManyCells e = omega (arith, e)
number-some PortsOutOfRange e = omega (arith, e)
number-some BrokenTable e = omega (arith, e)
number-some TableTooShort e = omega (arith, e)
number-some MaskPortTooHigh e = omega (arith, e)
number-some Unknown e = omega (arith, e)
number-some MoveNotLegal e = omega (arith, e)
number-some ListTooShort e = omega (arith, e)
number-some TextUnwritable e = omega (arith, e)
number-some JournalFull e = omega (arith, e)
number-some JournalEmpty e = omega (arith, e)
number-some AlreadyInCondition e = omega (arith, e)

-- the ground of a number
ground_of : ℕ → Refusal
ground_of zero = TextTooLong
ground_of (suc zero) = UnknownByte
ground_of (suc (suc zero)) = OutsideGrammar
ground_of (suc (suc (suc zero))) = TextTooDeep
ground_of (suc (suc (suc (suc zero)))) = WrongName
ground_of (suc (suc (suc (suc (suc zero))))) = ConstantTooLarge
ground_of (suc (suc (suc (suc (suc (suc zero)))))) = FourthQuantifier
ground_of (suc (suc (suc (suc (suc (suc (suc zero))))))) = TooManyNodes
ground_of (suc (suc (suc (suc (suc (suc (suc (suc zero)))))))) = TooManyCells
ground_of (suc (suc (suc (suc (suc (suc (suc (suc (suc zero))))))))) = PortsOutOfRange
ground_of (suc (suc (suc (suc (suc (suc (suc (suc (suc (suc zero)))))))))) = BrokenTable
ground_of (suc (suc (suc (suc (suc (suc (suc (suc (suc (suc (suc zero))))))))))) = TableTooShort
ground_of (suc (suc (suc (suc (suc (suc (suc (suc (suc (suc (suc (suc zero)))))))))))) = MaskPortTooHigh
ground_of (suc (suc (suc (suc (suc (suc (suc (suc (suc (suc (suc (suc (suc zero))))))))))))) = Unknown
ground_of (suc (suc (suc (suc (suc (suc (suc (suc (suc (suc (suc (suc (suc (suc zero)))))))))))))) = MoveNotLegal
ground_of (suc (suc (suc (suc (suc (suc (suc (suc (suc (suc (suc (suc (suc (suc (suc zero))))))))))))))) = ListTooShort
ground_of (suc (suc (suc (suc (suc (suc (suc (suc (suc (suc (suc (suc (suc (suc (suc (suc zero)))))))))))))))) = TextUnwritable
ground_of (suc (suc (suc (suc (suc (suc (suc (suc (suc (suc (suc (suc (suc (suc (suc (suc (suc zero))))))))))))))))) = JournalFull
ground_of (suc (suc (suc (suc (suc (suc (suc (suc (suc (suc (suc (suc (suc (suc (suc (suc (suc (suc zero)))))))))))))))))) = JournalEmpty
ground_of (suc (suc (suc (suc (suc (suc (suc (suc (suc (suc (suc (suc (suc (suc (suc (suc (suc (suc (suc zero))))))))))))))))))) = AlreadyInCondition
ground_of (suc (suc (suc (suc (suc (suc (suc (suc (suc (suc (suc (suc (suc (suc (suc (suc (suc (suc (suc (suc j)))))))))))))))))))) = AlreadyInCondition

ground-is : (g : Refusal) → ground_of (pred (refusal_number g)) ≡ g
unfolding refusal_number ground_of
ground-is TextTooLong = refl
ground-is UnknownByte = refl
ground-is OutsideGrammar = refl
ground-is TextTooDeep = refl
ground-is WrongName = refl
ground-is ConstantTooLarge = refl
ground-is FourthQuantifier = refl
ground-is TooManyNodes = refl
ground-is TooManyCells = refl
ground-is PortsOutOfRange = refl
ground-is BrokenTable = refl
ground-is TableTooShort = refl
ground-is MaskPortTooHigh = refl
ground-is Unknown = refl
ground-is MoveNotLegal = refl
ground-is ListTooShort = refl
ground-is TextUnwritable = refl
ground-is JournalFull = refl
ground-is JournalEmpty = refl
ground-is AlreadyInCondition = refl

pub one-ground : (g g' : Refusal) → refusal_number g ≡ refusal_number g' → g ≡ g'
one-ground g g' e = sym (ground-is g) ∙ ap (λ (n : ℕ). ground_of (pred n)) e ∙ ground-is g'

-- so the values of an answer always tell its case
pub all-told : {A : Type 0} (r : Result A Refusal) → Told r
unfolding Told
all-told (Ok x) = tt
all-told (Err g) = number-some g
