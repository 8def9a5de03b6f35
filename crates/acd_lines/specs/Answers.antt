-- The text written for one line, and what becomes of the desk.
use Rattle.std.specs.Prelude.{◌≡◌, ◌⊎◌, ℕ, List, ◌∷◌, ◌++◌, [], decimal}
use Rattle.acd_terms.specs.declared.command.Request.{Request}
use Rattle.acd_codec.specs.declared.member.Member.{Member}
use Rattle.acd_codec.specs.declared.member.Member.TheVariants as members
use Rattle.acd_codec.specs.declared.fault.FixedAnswer.{FixedAnswer}
use Rattle.acd_codec.specs.declared.fault.FixedAnswer.TheVariants as fixed
use Rattle.acd_desk.specs.declared.taken.Taken.{Taken}
use Rattle.acd_desk.specs.declared.answer_text.AnswerText.{AnswerText}
use Rattle.acd_desk.specs.Reads.AnswerTexts.{Said, said, fixed_said, malformed_said, taken_said}
use Rattle.acd_desk.specs.Contents.Arrivals.{arrival_at}
use Rattle.acd_desk.specs.Desks.DeskCalls.{DeskState, Took}
use Rattle.acd_lines.specs.Input.{Line, no_moment, too_long, faulty, arrival}

-- status, space, body, line feed
abbrev pub line_text : Said → List ℕ
line_text s = decimal s.status ++ 32 ∷ (s.body ++ 10 ∷ [])

abbrev pub malformed_line : Member → List ℕ
malformed_line member = line_text (malformed_said member)

-- an answer that is the same for all requests
abbrev pub fixed_line : FixedAnswer → List ℕ
fixed_line answer = line_text (fixed_said answer)

-- the line that an answer is
abbrev pub answered_text : AnswerText → List ℕ
answered_text a = line_text (said a)

-- the answer of the desk to a request
abbrev pub taken_line : Request → Taken → List ℕ
taken_line r t = line_text (taken_said r t)

-- what was asked of a desk got this answer, where `Answers` says which line may be written for it
abbrev pub GetsAnswer : {D L : Type 0} → (D → L → List ℕ → D → Type 0) → D → L → AnswerText → D → Type 0
GetsAnswer Answers d asked answer e = Answers d asked (answered_text answer) e

module _ {D : Type 0} (stands : D → DeskState) where
  -- the desk, a line, what is written for it, and the desk after it
  abbrev pub Answers : D → Line → List ℕ → D → Type 0
  Answers d no_moment out e = (out ≡ malformed_line members.Moment) × (e ≡ d)
  Answers d too_long out e = (out ≡ fixed_line fixed.BodyTooLarge) × (e ≡ d)
  Answers d (faulty member) out e = ((out ≡ malformed_line member) ⊎ (out ≡ fixed_line fixed.NoMemory)) × (e ≡ d)
  Answers d (arrival moment request) out e = (t : Taken) × (out ≡ taken_line request t) × Took (stands d) (arrival_at moment request) t (stands e)

  -- the same where that is the line of an answer
  abbrev pub AnsweredBy : D → Line → AnswerText → D → Type 0
  AnsweredBy d line answer e = GetsAnswer Answers d line answer e
