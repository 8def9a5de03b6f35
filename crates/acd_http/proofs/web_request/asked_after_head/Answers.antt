use Rattle.std.proofs.Common.{refl}
use Rattle.acd_http.specs.declared.head_request.HeadRequest.TheVariants as want
use Rattle.acd_http.proofs.Asks.{head_wants, body_unasked, known_finds, unknown_finds, whole_finds, part_finds}
use Rattle.acd_http.proofs.web_request.asked_after_head.Goals as goal

pub returns-in-Ok-Refused : goal.returns-in-Ok-Refused
returns-in-Ok-Refused g c = λ first read.
    let left = g.R.Read.remaining c.args.reader.now in
    let asked = c.head_asked-bodiless in
    let found = c.in-Ok-Refused in
    known_finds first left c.args.input.now c.args.len asked.result.0 (want.Refused found.why) _
    (head_wants first left c.args.input.now c.as_slice.result.now c.args.len asked.result found.field-0 (want.Refused found.why)
    c.as_slice.ensures c.requires asked.ensures found.is found.field-0-is read) (λ rest. refl)

pub returns-in-Ok-Look : goal.returns-in-Ok-Look
returns-in-Ok-Look g c = λ first read.
    let left = g.R.Read.remaining c.args.reader.now in
    let asked = c.head_asked-bodiless in
    let found = c.in-Ok-Look in
    known_finds first left c.args.input.now c.args.len asked.result.0 (want.Look found.question) _
    (head_wants first left c.args.input.now c.as_slice.result.now c.args.len asked.result found.field-0 (want.Look found.question)
    c.as_slice.ensures c.requires asked.ensures found.is found.field-0-is read) (λ rest. refl)

pub returns-in-Err : goal.returns-in-Err
returns-in-Err g c = λ first read.
    let asked = c.head_asked-bodiless in
    unknown_finds first (g.R.Read.remaining c.args.reader.now) c.args.input.now c.as_slice.result.now c.args.len asked.result.0 asked.result.1 c.in-Err.field-0
    c.as_slice.ensures c.requires asked.ensures c.in-Err.is read

pub returns-in-Ok-true : goal.returns-in-Ok-true
returns-in-Ok-true g c = λ first read.
    let left = g.R.Read.remaining c.args.reader.now in
    let asked = c.head_asked-bodiless in
    let body = c.in-Ok-Body in
    let found = c.in-Ok-true in
    whole_finds first left (g.R.Read.remaining c.read_up_to.new.reader) (c.args.input.now, c.read_up_to.new.input) c.as_slice-in-Ok-true.result.now c.args.len body.more
    asked.result.0 found.field-0 c.body_asked.result
    (head_wants first left c.args.input.now c.as_slice.result.now c.args.len asked.result body.field-0 (want.Body body.more)
    c.as_slice.ensures c.requires asked.ensures body.is body.field-0-is read)
    found.field-0-test found.ensures c.as_slice-in-Ok-true.ensures c.body_asked.ensures

pub returns-in-Ok-false : goal.returns-in-Ok-false
returns-in-Ok-false g c = λ first read.
    let left = g.R.Read.remaining c.args.reader.now in
    let asked = c.head_asked-bodiless in
    let body = c.in-Ok-Body in
    let found = c.in-Ok-false in
    part_finds first left (g.R.Read.remaining c.read_up_to.new.reader) (c.args.input.now, c.read_up_to.new.input) c.args.len body.more asked.result.0 found.field-0
    (head_wants first left c.args.input.now c.as_slice.result.now c.args.len asked.result body.field-0 (want.Body body.more)
    c.as_slice.ensures c.requires asked.ensures body.is body.field-0-is read) found.field-0-test found.ensures

pub returns-in-Err-read_up_to : goal.returns-in-Err-read_up_to
returns-in-Err-read_up_to g c = λ first read.
    let left = g.R.Read.remaining c.args.reader.now in
    let asked = c.head_asked-bodiless in
    let body = c.in-Ok-Body in
    body_unasked first left (g.R.Read.remaining c.read_up_to.new.reader) (c.args.input.now, c.read_up_to.new.input) c.args.len body.more asked.result.0
    (head_wants first left c.args.input.now c.as_slice.result.now c.args.len asked.result body.field-0 (want.Body body.more)
    c.as_slice.ensures c.requires asked.ensures body.is body.field-0-is read) c.in-Err-read_up_to.ensures
