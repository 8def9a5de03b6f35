use Rattle.std.proofs.Common.{◌+◌, ◌∙◌, sym, arith}
use Rattle.csv.specs.Records.{fields_of}
use Rattle.acd_reports.specs.Plan.{requests_from}
use Rattle.acd_reports.specs.PlanReaders.{rows_left}
use Rattle.acd_reports.proofs.PlanLemmas.{all_done, is_fault, row_done, row_faulty}
use Rattle.acd_reports.proofs.ReadLemmas.{read_none, read_some, rows_end}
use Rattle.acd_reports.proofs.plan.requests_in.Goals as goal

pub returns-then-not-branch : goal.returns-then-not-branch
returns-then-not-branch c =
    all_done c.loop-number.requests.items (c.loop-number.number + 1) (rows_left c.loop-number.reader) (requests_from 1 (rows_left c.args.reader.now)) c.loop-number.invariant.so_far
    (read_none c.loop-number.reader c.read_row.new.reader (fields_of c.read_row.new.row) c.in_ok-read_row.field-0 c.if-not-branch.true c.in_ok-read_row.ensures.reads)

pub returns-in-Err : goal.returns-in-Err
returns-in-Err c =
    let wanted = requests_from 1 (rows_left c.args.reader.now) in
    let some = read_some c.loop-number.reader c.read_row.new.reader (fields_of c.read_row.new.row) c.in_ok-read_row.field-0 c.if-not-branch.false c.in_ok-read_row.ensures.reads in
    is_fault c.in-Err.fault wanted
    (row_faulty c.loop-number.requests.items (c.loop-number.number + 1) (rows_left c.loop-number.reader) wanted (fields_of c.read_row.new.row) (rows_left c.read_row.new.reader) c.in-Err.fault
    c.loop-number.invariant.so_far some.0 (sym c.request_in.ensures ∙ c.in-Err.is))

pub loop-number-preserved : goal.loop-number-preserved
loop-number-preserved c =
    let some = read_some c.loop-number.reader c.read_row.new.reader (fields_of c.read_row.new.row) c.in_ok-read_row.field-0 c.if-not-branch.false c.in_ok-read_row.ensures.reads in
    record {
      plain = some.2;
      short = omega (arith, some.1, c.loop-number.invariant.short);
      so_far = rw c.in_ok-keep-in-Ok.ensures
          (row_done c.loop-number.requests.items (c.loop-number.number + 1) (rows_left c.loop-number.reader) (requests_from 1 (rows_left c.args.reader.now)) (fields_of c.read_row.new.row) (rows_left c.read_row.new.reader) c.in-Ok.request
          c.loop-number.invariant.so_far some.0 (sym c.request_in.ensures ∙ c.in-Ok.is));
    }

pub returns : goal.returns
returns c =
    all_done c.loop-number.requests.items (c.loop-number.number + 1) (rows_left c.loop-number.reader) (requests_from 1 (rows_left c.args.reader.now)) c.loop-number.invariant.so_far
    (rows_end c.loop-number.reader c.loop-number.invariant.plain (omega (arith, c.loop-number.invariant.short, c.loop-number-test.false)))
