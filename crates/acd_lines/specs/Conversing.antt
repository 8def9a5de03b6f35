-- For private clauses: a conversation over a call.
use Rattle.std.specs.Prelude.{◌≡◌, ℕ, List, [], Option}
use Rattle.std.specs.Borrow.{MutBor}
use Rattle.std.specs.declared.io.Read as read
use Rattle.std.specs.declared.io.Write as write
use Rattle.acd_desk.specs.declared.desk.Desk.{Desk}
use Rattle.acd_lines.specs.declared.conversation.Replies.{Replies}
use Rattle.acd_lines.specs.declared.conversation.Conversation.{Conversation}
use Rattle.acd_lines.specs.Lines.{Streams, streams}
use Rattle.acd_lines.specs.WaitingBytes.{OverCall, Talk}
use denote.Triple.Both.{Both}

-- it is had with the same desk, and its answers go to the same writer
abbrev pub KeepsEnds : {B A W : Type 0} → Replies B A W → Replies B A W → Type 0
KeepsEnds first last = (last.desk.ghost_name ≡ first.desk.ghost_name) × (last.writer.ghost_name ≡ first.writer.ghost_name)

-- by its desk, its outbox and its writer, as they were before the call, and as they are after
abbrev pub over_replies : {B A W : Type 0} → (W → Option (List ℕ)) → Replies B A W → Replies B A W → OverCall (Desk B)
over_replies contents first last = record {
  old = first.desk.now;
  new = last.desk.now;
  out = record {
    old_output = contents first.writer.now;
    new_output = contents last.writer.now;
    waited = first.outbox.now.waiting.items;
    waits = last.outbox.now.waiting.items;
  };
}

-- by what answers its lines, and by what is kept
abbrev pub talk_with : {B A W : Type 0} → (W → Option (List ℕ)) → Replies B A W → List ℕ → Talk (Desk B)
talk_with contents replies kept = record {
  desk = replies.desk.now;
  kept = kept;
  waiting = replies.outbox.now.waiting.items;
  output = contents replies.writer.now;
}

abbrev pub talk : {B A W : Type 0} → (W → Option (List ℕ)) → Conversation B A W → Talk (Desk B)
talk contents now = talk_with contents now.replies now.partial.now

-- as it was before a call, and as it is after
pub record LineTurn (S : Type 0) : Type 0 where
  pub old : Talk S
  pub new : Talk S

abbrev pub turn : {B A W : Type 0} → (W → Option (List ℕ)) → Conversation B A W → Conversation B A W → LineTurn (Desk B)
turn contents first last = record { old = talk contents first; new = talk contents last }

-- nothing is kept, and nothing waits
abbrev pub IsBegun : {B A W : Type 0} → Conversation B A W → Type 0
IsBegun first = (first.partial.now ≡ []) × (first.replies.outbox.now.waiting.items ≡ [])

-- a conversation, and the reader of its lines, over a call: the reader and the writer, and the desk before and after
pub record Hearing (S : Type 0) : Type 1 where
  pub io : Streams
  pub old : S
  pub new : S

-- by the names of their parameters, which have both values
abbrev pub heard : {B A R W : Type 0} → read.Ghosts R → write.Ghosts W → Both (MutBor R) (MutBor R) → Both (MutBor (Conversation B A W)) (MutBor (Conversation B A W)) → Hearing (Desk B)
heard holds says reader self = record {
  io = streams holds.remaining says.contents (reader.entry.now, reader.exit.now) (self.entry.now.replies.writer.now, self.exit.now.replies.writer.now);
  old = self.entry.now.replies.desk.now;
  new = self.exit.now.replies.desk.now;
}
