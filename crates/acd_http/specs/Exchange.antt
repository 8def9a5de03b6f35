-- The text written in answer to a question, and the desk after it.
use Rattle.std.specs.Prelude.{◌≡◌, ◌≢◌, ◌⊎◌, ℕ, List, [], ◌∷◌, Bool, false, if◌then◌else◌, Option, Some, None, Result, Ok, Err, IfErr, OnOk}
use Rattle.std.specs.Borrow.{MutBor}
use Rattle.acd_terms.specs.declared.command.Request.{Request}
use Rattle.acd_codec.specs.declared.fault.FixedAnswer.{FixedAnswer}
use Rattle.acd_codec.specs.declared.fault.FixedAnswer.TheVariants as fixed
use Rattle.acd_book.specs.declared.book.Book.{Ghosts}
use Rattle.acd_book.specs.Content.{Content}
use Rattle.acd_desk.specs.declared.desk.Desk.{Desk}
use Rattle.acd_desk.specs.declared.fault.DeskFault.{DeskFault}
use Rattle.acd_desk.specs.declared.taken.Taken.{Taken}
use Rattle.acd_desk.specs.declared.question.Question.{Question}
use Rattle.acd_desk.specs.Reads.AnswerTexts.{Said, said, fixed_said, taken_said, found_said}
use Rattle.acd_desk.specs.Contents.Arrivals.{arrival_at}
use Rattle.acd_desk.specs.Desks.DeskCalls.{DeskState, state_of, Took, Ran}
use Rattle.acd_desk.specs.Reads.DeskReads.{ReadDone}
use Rattle.acd_desk.specs.Reads.ReadAnswers.{question_read, is_plain}
use Rattle.std.specs.Io.KnownBytes.{Appends}
use Rattle.acd_io.specs.Streams.{IsInput}
use Rattle.acd_io.specs.SentBytes.{Breaks}
use Rattle.acd_lines.specs.Lines.{Streams, Untouched}
use Rattle.acd_http.specs.declared.refused.Refused.{Refused}
use Rattle.acd_http.specs.declared.reply.Kind.{Kind}
use Rattle.acd_http.specs.declared.reply.Kind.TheVariants.{Json, Plain}
use Rattle.acd_http.specs.declared.web_request.WebRequest.{WebRequest}
use Rattle.acd_http.specs.declared.web_request.WebRequest.TheVariants as ask
use Rattle.acd_http.specs.declared.answer.Reply.{Reply}
use Rattle.acd_http.specs.declared.exchanging.ExchangeFault.{ExchangeFault}
use Rattle.acd_http.specs.declared.exchanging.ExchangeFault.TheVariants as fault
use Rattle.acd_http.specs.RefusalReplies.{refused_said, refused_allow}
use Rattle.acd_http.specs.ReplyBytes.{reply_bytes}
use Rattle.acd_http.specs.WebRequests.{Asks, IsAsked, IsUnasked, is_bodiless}
use denote.Triple.Both.{Both}

-- an answer in JSON
abbrev pub json_reply : Bool → Said → List ℕ
json_reply bodiless s = reply_bytes bodiless s.status Json None s.body

-- a reply that is the same for all
abbrev pub fixed_reply : Bool → FixedAnswer → List ℕ
fixed_reply bodiless answer = json_reply bodiless (fixed_said answer)

-- the reply to what the desk doesn't see
abbrev pub refused_reply : Bool → Refused → List ℕ
refused_reply bodiless why = reply_bytes bodiless (refused_said why).status Json (refused_allow why) (refused_said why).body

-- the reply for the desk's answer to a request
abbrev pub taken_reply : Request → Taken → List ℕ
taken_reply r t = json_reply false (taken_said r t)

-- the report alone is plain text
abbrev pub reply_kind : Question → Kind
reply_kind question = if is_plain question then Plain else Json

-- the answer is JSON where nothing was found
abbrev pub kind_found : Kind → Result (Option (List ℕ)) DeskFault → Kind
kind_found kind (Ok (Some text)) = kind
kind_found kind (Ok None) = Json
kind_found kind (Err why) = Json

-- the reply to a read
abbrev pub found_reply : Bool → Kind → Result (Option (List ℕ)) DeskFault → List ℕ
found_reply bodiless kind found = reply_bytes bodiless (found_said found).status (kind_found kind found) None (found_said found).body

-- the bytes of a reply
abbrev pub reply_out : Bool → Reply → List ℕ
reply_out bodiless r = reply_bytes bodiless (said r.answer).status r.kind r.allow (said r.answer).body

-- for private clauses: a reply has these bytes, without its body and with it
abbrev pub RepliesAs : Reply → (Bool → List ℕ) → Type 0
RepliesAs reply bytes = (bodiless : Bool) → reply_out bodiless reply ≡ bytes bodiless

module _ {D : Type 0} (stands : D → DeskState) (moment : ℕ) where
  -- the desk was read for the answer to a question, and gave this
  abbrev pub HasRead : D → Question → Result (Option (List ℕ)) DeskFault → D → Type 0
  HasRead d question found e = ReadDone (stands d) (stands e) found (λ (c : Content) (text : Option (List ℕ)). text ≡ question_read c moment question)

  -- the desk, what was asked, the reply to it, and the desk after it
  abbrev pub Replies : D → WebRequest → List ℕ → D → Type 0
  Replies d ask.Truncated out e = ⊥
  Replies d (ask.Refused why bodiless) out e = (out ≡ refused_reply bodiless why) × (e ≡ d)
  Replies d (ask.Look question bodiless) out e =
      (found : Result (Option (List ℕ)) DeskFault) × (out ≡ found_reply bodiless (reply_kind question) found) × HasRead d question found e
  Replies d (ask.Arrival r) out e =
      (t : Taken) × (out ≡ taken_reply r t) × Took (stands d) (arrival_at moment r) t (stands e) × Ran (stands d) (arrival_at moment r ∷ []) (t ∷ []) (stands e)

  -- Before the desk is asked there may be no memory: then it is left as it was.
  abbrev pub AnswersAsked : D → WebRequest → List ℕ → D → Type 0
  AnswersAsked d asked out e = Replies d asked out e ⊎ ((asked ≢ ask.Truncated) × (out ≡ fixed_reply (is_bodiless asked) fixed.NoMemory) × (e ≡ d))

  -- Something was asked and answered, and the reply was sent as is said.
  pub record Exchanged (known : Option (List ℕ)) (d e : D) (WentOut : List ℕ → Type 0) : Type 0 where
    pub input : List ℕ
    pub asked : WebRequest
    pub reply : List ℕ
    pub is : IsInput known input
    pub asks : Asks input asked
    pub answers : AnswersAsked d asked reply e
    pub out : WentOut reply

  -- the state after a fault
  abbrev pub StoppedBy : Streams → D → D → ExchangeFault → Type 0
  -- a beginning of the reply was written, and not all
  StoppedBy io d e fault.Write = Exchanged io.old_input d e (Breaks io.old_output io.new_output)
  -- the input ends before the request does
  StoppedBy io d e fault.Truncated = IsAsked io.old_input ask.Truncated × io.unwritten × (e ≡ d)
  -- the bytes read are not the whole request
  StoppedBy io d e fault.Read = IsUnasked io.old_input io.left × io.unwritten × (e ≡ d)
  -- nothing was read
  StoppedBy io d e fault.NoMemory = Untouched io × (e ≡ d)

  -- how an exchange ended: without a fault the whole reply was written
  pub record ExchangeDone (io : Streams) (d e : D) (result : Result (Unit {0}) ExchangeFault) : Type 0 where
    pub whole : OnOk result (Exchanged io.old_input d e (Appends io.old_output io.new_output))
    pub cause : IfErr result (StoppedBy io d e)

-- ---- of a desk over a book, by the words of that book

-- how an exchange at a moment ended, over the desk before it and after it
abbrev pub ExchangeDoneAt : {B : Type 0} → Ghosts B → ℕ → Streams → Both (MutBor (Desk B)) (MutBor (Desk B)) → Result (Unit {0}) ExchangeFault → Type 0
ExchangeDoneAt book moment io desk result = ExchangeDone (state_of book) moment io desk.entry.now desk.exit.now result

-- for private clauses: at a moment this was asked, and this is the reply to it
abbrev pub RepliesWith : {B : Type 0} → Ghosts B → ℕ × WebRequest → Desk B → Reply → Desk B → Type 0
RepliesWith book asked d reply e = Replies (state_of book) asked.0 d asked.1 (reply_out (is_bodiless asked.1) reply) e

-- the same of a read, whether it is asked with the body or without
abbrev pub RepliesToRead : {B : Type 0} → Ghosts B → ℕ × Question → Desk B → Reply → Desk B → Type 0
RepliesToRead book asked d reply e = (bodiless : Bool) → RepliesWith book (asked.0, ask.Look asked.1 bodiless) d reply e

-- the same, or none where the input ended before something was asked
abbrev pub Answered : {B : Type 0} → Ghosts B → ℕ × WebRequest → Desk B → Option Reply → Desk B → Type 0
Answered book asked d None e = (asked.1 ≡ ask.Truncated) × (e ≡ d)
Answered book asked d (Some reply) e = RepliesWith book asked d reply e
