-- Answers in text: their statuses and bodies.
use Rattle.std.specs.Prelude.{◌≡◌, ◌⊎◌, ℕ, List, [], ◌∷◌, true, Option, Some, None, Result, Ok, Err, String}
use Rattle.acd_terms.specs.declared.command.Request.{Request}
use Rattle.acd_terms.specs.declared.command.Arrival.{Arrival}
use Rattle.acd_codec.specs.declared.member.Member.{Member}
use Rattle.acd_codec.specs.declared.replies.Rejected.{Rejected}
use Rattle.acd_codec.specs.declared.replies.Rejected.TheVariants as rejections
use Rattle.acd_codec.specs.declared.fault.FixedAnswer.{FixedAnswer}
use Rattle.acd_codec.specs.declared.fault.FixedAnswer.TheVariants as fixed
use Rattle.acd_codec.specs.ReplyTexts.{malformed_text, fixed_status, fixed_text, rejected_status, rejected_text}
use Rattle.acd_book.specs.declared.book.Book.{Ghosts}
use Rattle.acd_desk.specs.declared.desk.Desk.{Desk}
use Rattle.acd_desk.specs.declared.answer_text.AnswerText.{AnswerText}
use Rattle.acd_desk.specs.declared.answer_text.AnswerText.TheVariants.{Made, Fixed}
use Rattle.acd_desk.specs.declared.fault.DeskFault.{DeskFault}
use Rattle.acd_desk.specs.declared.fault.DeskFault.TheVariants as fault
use Rattle.acd_desk.specs.declared.taken.Taken.{Taken}
use Rattle.acd_desk.specs.declared.taken.Taken.TheVariants as taken
use Rattle.acd_desk.specs.Contents.AcceptedArrivals.{is_rejection}
use Rattle.acd_desk.specs.Desks.DeskCalls.{DeskState, state_of, Took, Ran}
use Rattle.acd_desk.specs.Reads.ReadAnswers.{text_read}

-- the text for a client
pub record Said : Type 0 where
  pub status : ℕ
  pub body : List ℕ

-- the text of an answer
abbrev pub said : AnswerText → Said
said (Made status body) = record { status = status; body = body }
said (Fixed status body) = record { status = status; body = body.now }

-- an answer that is the same for all requests
abbrev pub fixed_said : FixedAnswer → Said
fixed_said answer = record { status = fixed_status answer; body = fixed_text answer }

-- the answer to a request with a faulty member
abbrev pub malformed_said : Member → Said
malformed_said member = record { status = 400; body = malformed_text member }

abbrev pub rejected_said : Request → Rejected → Said
rejected_said r why = record { status = rejected_status why; body = rejected_text r.requester r.invoke why }

-- the answer is this rejection, or its text finds no memory
abbrev pub IsRejection : Request → Rejected → Said → Type 0
IsRejection r why out = (out ≡ rejected_said r why) ⊎ (out ≡ fixed_said fixed.NoMemory)

-- the answer of the desk to a request
abbrev pub taken_said : Request → Taken → Said
taken_said r (taken.Reply status body) = record { status = status; body = body }
taken_said r taken.InvokeReused = rejected_said r rejections.InvokeReused
taken_said r taken.DeskFull = rejected_said r rejections.DeskFull
taken_said r taken.NoMemory = fixed_said fixed.NoMemory
taken_said r taken.StoreFault = fixed_said fixed.StoreFault

-- the text of a rejection may find no memory
abbrev pub IsSaid : Request → Taken → Said → Type 0
IsSaid r t out = (out ≡ taken_said r t) ⊎ ((is_rejection t ≡ true) × (out ≡ fixed_said fixed.NoMemory))

-- the text that the desk read, seen as its characters
abbrev pub seen_text : {Z : Type 0} → Result (Option (String Z)) DeskFault → Result (Option (List ℕ)) DeskFault
seen_text (Ok text) = Ok (text_read text)
seen_text (Err why) = Err why

-- the answer to a question, by the result of the look-up
abbrev pub found_said : Result (Option (List ℕ)) DeskFault → Said
found_said (Ok (Some text)) = record { status = 200; body = text }
found_said (Ok None) = fixed_said fixed.NotFound
found_said (Err fault.NoMemory) = fixed_said fixed.NoMemory
found_said (Err fault.StoreFault) = fixed_said fixed.StoreFault

-- the desk executed an arrival, and this is the text of its answer
pub record SaysOf (old : DeskState) (a : Arrival) (out : Said) (new : DeskState) : Type 0 where
  pub answer : Taken
  pub says : out ≡ taken_said a.request answer
  pub took : Took old a answer new
  pub ran : Ran old (a ∷ []) (answer ∷ []) new

-- the same of a desk over a book, by the words of that book
abbrev pub DeskSays : {B : Type 0} → Ghosts B → Desk B → Arrival → Said → Desk B → Type 0
DeskSays book old a out new = SaysOf (state_of book old) a out (state_of book new)
