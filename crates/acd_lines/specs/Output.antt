-- The output of an input: one answer line for each line, with the answers to the arrivals in order.
use Rattle.std.specs.Prelude.{◌≡◌, ◌⊎◌, ℕ, List, [], ◌∷◌, filter, map}
use Rattle.std.specs.Io.BufRead.{ends_with_byte}
use Rattle.acd_terms.specs.declared.command.Request.{Request}
use Rattle.acd_codec.specs.declared.member.Member.TheVariants as members
use Rattle.acd_codec.specs.declared.fault.FixedAnswer.TheVariants as fixed
use Rattle.acd_desk.specs.declared.taken.Taken.{Taken}
use Rattle.acd_lines.specs.Input.{Line, no_moment, too_long, faulty, arrival, cut}
use Rattle.acd_lines.specs.Answers.{malformed_line, fixed_line, taken_line}

-- the lines of some bytes that have ended
abbrev pub whole_lines : List ℕ → List (List ℕ)
whole_lines bytes = filter (ends_with_byte 10) (cut bytes)

-- some lines, the answers to the arrivals among them, and the answer lines: faulty JSON may find no memory
abbrev pub AnswerLines : List Line → List Taken → List (List ℕ) → Type 0
AnswerLines [] [] [] = Unit {0}
AnswerLines (no_moment ∷ lines) answers (out ∷ outs) = (out ≡ malformed_line members.Moment) × AnswerLines lines answers outs
AnswerLines (too_long ∷ lines) answers (out ∷ outs) = (out ≡ fixed_line fixed.BodyTooLarge) × AnswerLines lines answers outs
AnswerLines (faulty member ∷ lines) answers (out ∷ outs) = ((out ≡ malformed_line member) ⊎ (out ≡ fixed_line fixed.NoMemory)) × AnswerLines lines answers outs
AnswerLines (arrival moment request ∷ lines) (t ∷ answers) (out ∷ outs) = (out ≡ taken_line request t) × AnswerLines lines answers outs
AnswerLines _ _ _ = ⊥

-- the requests of a plan, which come in at moment 0
abbrev pub imported : List Request → List Line
imported requests = map (arrival 0) requests
