-- The part of a reply that is sent.
use Rattle.std.proofs.Common.{◌≡◌, ℕ, List, [], ◌++◌, Bool, cond, length, Result, Ok, Err, IfErr, inl, inr, refl, sym, ap, ◌∙◌, subst}
use Rattle.std.specs.Io.KnownBytes.{Appends}
use Rattle.acd_codec.specs.declared.fault.FixedAnswer.TheVariants as fixed
use Rattle.acd_desk.specs.Desks.DeskCalls.{DeskState}
use Rattle.acd_desk.specs.Reads.AnswerTexts.{said}
use Rattle.acd_io.specs.SentBytes.{Breaks, WasSent}
use Rattle.acd_lines.specs.Lines.{Streams}
use Rattle.acd_http.specs.declared.web_request.WebRequest.{WebRequest}
use Rattle.acd_http.specs.declared.answer.Reply.{Reply}
use Rattle.acd_http.specs.ReplyBytes.{head_text, reply_bytes}
use Rattle.acd_http.specs.declared.web_request.ParseFault.{ParseFault}
use Rattle.acd_http.specs.declared.web_request.ParseFault.TheVariants as unknown
use Rattle.acd_http.specs.declared.exchanging.ExchangeFault.{ExchangeFault}
use Rattle.acd_http.specs.declared.exchanging.ExchangeFault.TheVariants.{Write}
use Rattle.acd_http.specs.WebRequests.{IsAsked, IsUnknown, is_bodiless}
use Rattle.acd_http.specs.Exchange.{Exchanged, ExchangeDone, StoppedBy, Replies, fixed_reply, reply_out}

-- the bytes of a reply are its head and its body
pub in_two : (bodiless : Bool) (r : Reply) (head sent body : List ℕ) (status : ℕ) → head ≡ head_text status r.kind (length body) r.allow → status ≡ (said r.answer).status → body ≡ (said r.answer).body → sent ≡ cond bodiless [] body
    → head ++ sent ≡ reply_out bodiless r
unfolding reply_bytes
in_two bodiless r head sent body status is a e f =
    let text : head ≡ head_text (said r.answer).status r.kind (length (said r.answer).body) r.allow = is ∙ ap (λ (n : ℕ). head_text n r.kind (length body) r.allow) a ∙ ap (λ (l : List ℕ). head_text (said r.answer).status r.kind (length l) r.allow) e in
    let right : sent ≡ cond bodiless [] (said r.answer).body = f ∙ ap (λ (l : List ℕ). cond bodiless [] l) e in
    ap (λ (l : List ℕ). l ++ sent) text ∙ ap (λ (l : List ℕ). head_text (said r.answer).status r.kind (length (said r.answer).body) r.allow ++ l) right

-- by the way in which the reply was sent
module _ {D : Type 0} (stands : D → DeskState) (moment : ℕ) where
  sent : (io : Streams) (d e : D) (r : Result (Unit {0}) ExchangeFault) (text : List ℕ) → ((WentOut : List ℕ → Type 0) → WentOut text → Exchanged stands moment io.old_input d e WentOut) → WasSent r io.old_output io.new_output text → IfErr r (λ fault. fault ≡ Write)
      → ExchangeDone stands moment io d e r
  sent io d e (Ok u) text all out is = record { whole = all (Appends io.old_output io.new_output) out; cause = tt }
  sent io d e (Err fault) text all out is = record { whole = tt; cause = subst (StoppedBy stands moment io d e) (sym is) (all (Breaks io.old_output io.new_output) out) }

  -- the question was answered
  pub reply_sent : (io : Streams) (d e : D) (asked : WebRequest) (reply : Reply) (bodiless : Bool) (r : Result (Unit {0}) ExchangeFault) → IsAsked io.old_input asked → Replies stands moment d asked (reply_out (is_bodiless asked) reply) e → bodiless ≡ is_bodiless asked
      → WasSent r io.old_output io.new_output (reply_out bodiless reply) → IfErr r (λ fault. fault ≡ Write) → ExchangeDone stands moment io d e r
  reply_sent io d e asked reply bodiless r h replies same out fault =
      sent io d e r (reply_out bodiless reply)
      (λ WentOut went. record { input = h.0; asked = asked; reply = reply_out bodiless reply; is = h.1; asks = h.2; answers = inl (subst (λ (b : Bool). Replies stands moment d asked (reply_out b reply) e) (sym same) replies); out = went }) out fault

  -- there was no memory to see what is asked
  pub unseen_sent : (io : Streams) (d : D) (bodiless b : Bool) (reply : Reply) (f : ParseFault) (r : Result (Unit {0}) ExchangeFault) → f ≡ unknown.NoMemory bodiless → bodiless ≡ b → IsUnknown io.old_input io.left f
      → reply_out bodiless reply ≡ fixed_reply bodiless fixed.NoMemory → WasSent r io.old_output io.new_output (reply_out b reply) → IfErr r (λ fault. fault ≡ Write) → ExchangeDone stands moment io d d r
  unseen_sent io d bodiless b reply f r is same unseen e out fault =
      let h = subst (λ (x : ParseFault). IsUnknown io.old_input io.left x) is unseen in
      sent io d d r (reply_out bodiless reply)
      (λ WentOut went. record { input = h.3.0; asked = h.0; reply = reply_out bodiless reply; is = h.3.1; asks = h.3.2; answers = inr (h.1, e ∙ ap (λ (x : Bool). fixed_reply x fixed.NoMemory) h.2, refl); out = went })
      (subst (λ (x : Bool). WasSent r io.old_output io.new_output (reply_out x reply)) (sym same) out) fault
