-- What the exported functions give: the fields of the C structs by the answer definitions of the calls, and the tables afterwards.
use Rattle.std.specs.Prelude.{◌≡◌, List, ℕ}
use Rattle.contracts.specs.State.{State}
use Rattle.contracts.specs.Read.{ReadValues}
use Rattle.contracts.specs.Load.{LoadValues}
use Rattle.contracts.specs.Counting.{CountValues}
use Rattle.answers.specs.declared.ReadAnswer.{ReadAnswer}
use Rattle.answers.specs.declared.LoadAnswer.{LoadAnswer}
use Rattle.answers.specs.declared.CountAnswer.{CountAnswer}

-- Each field of the struct by 01's number and values.
pub record ReadFields (v : ReadValues) (r : ReadAnswer) : Type 0 where
  pub number_is : r.number ≡ v.number
  pub nodes-are : r.nodes ≡ v.nodes
  pub cells_are : r.cells ≡ v.cells

-- The struct and every byte of the output table afterwards.
pub record ReadGives (given : ReadValues × List ℕ) (r : ReadAnswer) (table : List ℕ) : Type 0 where
  pub fields : ReadFields given.0 r
  pub table_is : table ≡ given.1

-- The same of load, with every mask and every cell afterwards.
pub record LoadFields (v : LoadValues) (r : LoadAnswer) : Type 0 where
  pub number_is : r.number ≡ v.number
  pub root_is : r.root ≡ v.root
  pub cells_are : r.cells ≡ v.cells

-- The fields of load's answer and the tables afterwards are those that are given.
pub record LoadGives (given : LoadValues × State) (r : LoadAnswer) (s' : State) : Type 0 where
  pub fields : LoadFields given.0 r
  pub tables-are : s' ≡ given.1

-- A number and a count.
pub record CountFields (v : CountValues) (r : CountAnswer) : Type 0 where
  pub number_is : r.number ≡ v.number
  pub count-is : r.count ≡ v.count

-- The struct and every byte of the lent text afterwards.
pub record WriteGives (given : CountValues × List ℕ) (r : CountAnswer) (text : List ℕ) : Type 0 where
  pub fields : CountFields given.0 r
  pub text-is : text ≡ given.1
