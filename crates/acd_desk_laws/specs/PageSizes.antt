-- How long a page of executed requests may be.
use Rattle.std.specs.Prelude.{◌≡◌, ℕ, ◌^◌, ◌<◌, ◌≤◌, List, length, IfSome}
use Rattle.acd_terms.specs.Lists.{Every}
use Rattle.acd_terms.specs.declared.answer.Answer.TheVariants as answer
use Rattle.acd_terms.specs.declared.answer.Outcome.{Outcome}
use Rattle.acd_terms.specs.declared.answer.Outcome.TheVariants.{Done}
use Rattle.acd_codec.specs.RequestForms.{IsSerial, IsRequest}
use Rattle.acd_codec.specs.ReplyTexts.{outcome_status, reply_text}
use Rattle.acd_book.specs.declared.kept.Kept.{Kept}
use Rattle.acd_book.specs.Content.{Content}
use Rattle.acd_desk.specs.Contents.SoundContent.{IsSound}
use Rattle.acd_desk.specs.Reads.ReadAnswers.{requests_read}

-- its number is that of a call or a monitor
abbrev pub IsOutcome : Outcome → Type 0
IsOutcome (Done (answer.Call call)) = IsSerial call
IsOutcome (Done (answer.Monitor monitor)) = IsSerial monitor
IsOutcome _ = Unit {0}

-- the record kept of a request is a reply of the desk to it
pub record IsReplied (k : Kept) : Type 0 where
  pub outcome : Outcome
  pub formed : IsOutcome outcome
  pub status : k.status ≡ outcome_status outcome
  pub body : k.body ≡ reply_text k.request.requester k.request.invoke outcome

-- each part of a kept record is of its form, as it is of each that a program has
pub record IsFormed (k : Kept) : Type 0 where
  pub request : IsRequest k.request
  pub moment : k.moment < 2 ^ 32
  pub stamp : k.stamp < 2 ^ 64

abbrev pub longest_page : ℕ
longest_page = 600000

-- where the kept records are replies of the desk, a page is no longer
abbrev pub PagesAreShort : Type 0
PagesAreShort = (c : Content) (after : ℕ) → c.rows.last_stamp < 2 ^ 64 → Every IsFormed c.kept → Every IsReplied c.kept
    → IfSome (requests_read c after) (λ (text : List ℕ). length text ≤ longest_page)

-- and so they are in each sound content
abbrev pub SoundIsReplied : Type 0
SoundIsReplied = (c : Content) → IsSound c → Every IsReplied c.kept
