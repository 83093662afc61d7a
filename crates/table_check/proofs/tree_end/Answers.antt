use mathlib.Core.Path.{sym, ◌∙◌}
use native.Mathlib.Omega.{arith}
use Rattle.table_format.specs.Bytes.{record_length}
use Rattle.table_check.proofs.Judging.{too_short, bad-record, early-end, cut_short}
use Rattle.table_check.proofs.tree_end.Goals.{then-part-lt-RECORD-via-then-part-lt-RECORD, then-part-lt-RECORD-via-else-part-lt-RECORD+then-not-record_ok, then-end-i-via-then-end-i, then-end-i-via-else-end-i+then-part-end}
use Rattle.table_check.proofs.tree_end.Goals as goal

pub record_ok-requires : goal.record_ok-requires
unfolding record_length
record_ok-requires c =
    c.if-part-lt-RECORD.false

pub returns-then-part-lt-RECORD : goal.returns-then-part-lt-RECORD
unfolding record_length
returns-then-part-lt-RECORD c =
    elim c.then-part-lt-RECORD.branch [
      | then-part-lt-RECORD-via-then-part-lt-RECORD w ↦ too_short (λ q. omega (arith, q, c.requires)) w.if-part-lt-RECORD.true
      | then-part-lt-RECORD-via-else-part-lt-RECORD+then-not-record_ok w ↦ bad-record (λ q. omega (arith, q, c.requires)) (sym w.record_ok.ensures ∙ w.if-not-record_ok.true)
    ]

pub end_of-end-requires : goal.end_of-end-requires
unfolding record_length
end_of-end-requires c =
    c.if-part-lt-RECORD.false

pub returns-then-end-i : goal.returns-then-end-i
unfolding record_length
returns-then-end-i c =
    elim c.then-end-i.branch [
      | then-end-i-via-then-end-i w ↦ early-end (λ q. omega (arith, q, c.requires)) c.end_of-end.ensures.is w.if-end-i.true
      | then-end-i-via-else-end-i+then-part-end w ↦ cut_short (λ q. omega (arith, q, c.requires)) c.end_of-end.ensures.is w.if-part-end.true
    ]

pub returns : goal.returns
unfolding record_length
returns c =
    record {
      long = c.if-part-lt-RECORD.false;
      rule = sym c.record_ok.ensures ∙ c.if-not-record_ok.false;
      end_is = c.end_of-end.ensures;
      after = c.if-end-i.false;
      within = c.if-part-end.false;
    }
