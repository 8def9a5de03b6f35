use Rattle.std.proofs.Common.{◌+◌, drop, arith, length-drop}
use Rattle.std.proofs.lemmas.List.{take_all}
use Rattle.acd_lines.proofs.Splits.{nowhere_none, first_none, first_split}
use Rattle.acd_lines.proofs.split.split_once.Goals as goal

pub returns-in-Some : goal.returns-in-Some
returns-in-Some c =
    let text = c.args.text.now in
    let rest = drop (c.in-Some.place + 1) text in
    let found = c.in-Some.ensures in
    (first_split c.args.byte c.in-Some.place text _ found.0.high found.1 (take_all _ rest (omega (arith, length-drop (c.in-Some.place + 1) text))), first_none c.args.byte c.in-Some.place text found.0)

pub returns-in-None : goal.returns-in-None
returns-in-None c = nowhere_none c.args.byte c.args.text.now c.in-None.ensures
