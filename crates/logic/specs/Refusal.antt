-- The numbers of the grounds for refusal. Paper 01, section Grounds for refusal; paper 02, requests 2026-01, 02, 03 and 05.
use Rattle.std.specs.Prelude.{◌≢◌, ℕ, Result, Ok, Err}
use Rattle.logic.specs.declared.refusal.Refusal.{Refusal}
use Rattle.logic.specs.declared.refusal.Refusal.TheVariants.{TextTooLong, UnknownByte, OutsideGrammar, TextTooDeep, WrongName, ConstantTooLarge, FourthQuantifier, TooManyNodes, TooManyCells, PortsOutOfRange, BrokenTable, TableTooShort, MaskPortTooHigh, Unknown, MoveNotLegal, ListTooShort, TextUnwritable, JournalFull, JournalEmpty, AlreadyInCondition}

-- "1 text over 4,096 bytes; 2 a byte of no token, space or line end [..]; 3 outside the grammar; 4 more than 64 of `(`, `~` and
-- quantifiers around one token; 5 set undeclared, declared twice or a seventeenth, variable unbound or bound again within its reach;
-- 6 constant above 64; 7 a fourth enclosing quantifier; 8 core over 512 nodes; 9 too many cells."
-- "10 u outside 1 to 64; 11 plan table breaks a rule above or is cut short; 12 cell, scratch, mask or output table too short; 13 a mask
-- with a port of u or more." "14 unknown kind, set, port or kinds sum (0, or above 15), or an unused field not 0; 15 move not legal."
-- "16, the lent list is too short"; "17, the text would meet refusal 1 or 4"; "18, journal full"; "19, undo on an empty journal";
-- "20, the port is already in that condition".
unfoldable pub refusal_number : Refusal → ℕ
refusal_number TextTooLong = 1
refusal_number UnknownByte = 2
refusal_number OutsideGrammar = 3
refusal_number TextTooDeep = 4
refusal_number WrongName = 5
refusal_number ConstantTooLarge = 6
refusal_number FourthQuantifier = 7
refusal_number TooManyNodes = 8
refusal_number TooManyCells = 9
refusal_number PortsOutOfRange = 10
refusal_number BrokenTable = 11
refusal_number TableTooShort = 12
refusal_number MaskPortTooHigh = 13
refusal_number Unknown = 14
refusal_number MoveNotLegal = 15
refusal_number ListTooShort = 16
refusal_number TextUnwritable = 17
refusal_number JournalFull = 18
refusal_number JournalEmpty = 19
refusal_number AlreadyInCondition = 20

-- The number that a call answers: "The answer is the number"; 0 where it is not refused.
unfoldable pub answer_number : {A : Type 0} → Result A Refusal → ℕ
answer_number (Ok r) = 0
answer_number (Err g) = refusal_number g

-- No refusal has the number 0, so that the values of an answer tell its case.
unfoldable pub Told : {A : Type 0} → Result A Refusal → Type 0
Told (Ok r) = Unit {0}
Told (Err g) = refusal_number g ≢ 0
