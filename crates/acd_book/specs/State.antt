-- The state of a book, and what its calls leave of it.
use Rattle.std.specs.Prelude.{◌≡◌, ◌⊎◌, ⊤, ℕ, ◌≤◌, List, Vec, Result, IfOk, OnOk, OnErr, IsErrOf}
use Rattle.acd_book.specs.Content.{Content, Commit, Within, HasRisen}
use Rattle.acd_book.specs.declared.fault.BookFault.{BookFault}
use Rattle.acd_book.specs.declared.fault.BookFault.TheVariants.{Store}

-- a book at a moment
pub record BookState : Type 1 where
  -- its content, where it is open
  pub content : Content
  -- the contents that a reopening may find, if nothing is done to the book from now on
  pub stops : Content → Type 0
  -- its tables are as they were made: each call keeps this
  pub is_sound : Type 0
  -- its store has broken no promise so far: that may happen at any call
  pub is_clean : Type 0
  -- no failure has shut it
  pub is_open : Type 0
  -- how often its store has failed
  pub failures : ℕ

-- the book is honest over a call, or over many: it was sound before, and is clean after
abbrev pub IfHonest : BookState → BookState → Type 0 → Type 0
IfHonest old new P = new.is_clean → old.is_sound → P

-- a step of a book, of one call or of many, where `Failed` says that its store failed in it
pub record BookStep (Failed : Type 0) (old new : BookState) : Type 0 where
  pub clean : new.is_clean → old.is_clean
  pub sound : IfHonest old new new.is_sound
  -- no failure is counted but where the store has failed
  pub quiet : ¬ Failed → new.failures ≡ old.failures
  pub counts : old.failures ≤ new.failures

-- a step that changes nothing: a book that is open was open, with the same content, and no stop is new
pub record Unchanged (old new : BookState) : Type 0 where
  pub same : IfHonest old new (new.is_open → old.is_open × (new.content ≡ old.content))
  pub stops : IfHonest old new (Within new.stops old.stops)

-- a read, where `IsAnswer c found` says that this is found in that content
pub record Reads {A : Type 0} (old new : BookState) (result : Result A BookFault) (IsAnswer : Content → A → Type 0) : Type 0 where
  pub step : BookStep (IsErrOf result Store) old new
  pub unchanged : Unchanged old new
  pub value : IfHonest old new (IfOk result (λ (found : A). old.is_open × IsAnswer old.content found))
  pub stays : OnOk result (IfHonest old new new.is_open)
  -- while it is open no stop is lost
  pub keeps : IfHonest old new (new.is_open → Within old.stops new.stops)
  -- a failure is counted where the store has failed
  pub cause : IsErrOf result Store → HasRisen old.failures new.failures

-- a commit, where `after c` is what it makes of a content that it follows
pub record Commits (old new : BookState) (result : Result (Unit {0}) BookFault) (Follows : Content → Type 0) (after : Content → Content) : Type 0 where
  pub step : BookStep (IsErrOf result Store) old new
  pub opened : IfHonest old new (OnOk result (old.is_open × new.is_open))
  pub made : IfHonest old new (Follows old.content → OnOk result (new.content ≡ after old.content))
  pub undone : IfHonest old new (new.is_open → OnErr result (old.is_open × (new.content ≡ old.content)))
  pub stops : IfHonest old new ((c : Content) → new.stops c → old.stops c ⊎ (old.is_open × (Follows old.content → c ≡ after old.content)))
  pub cause : IsErrOf result Store → HasRisen old.failures new.failures

-- ---- of a call of a book, by what a book says of itself

-- it reads, where `IsAnswer c found` says that this is found in that content
abbrev pub BookReads : {B A : Type 0} → (B → BookState) → B → B → Result A BookFault → (Content → A → Type 0) → Type 0
BookReads state old new result IsAnswer = Reads (state old) (state new) result IsAnswer

-- it finds just this of the content
abbrev pub BookFinds : {B A : Type 0} → (B → BookState) → B → B → Result A BookFault → (Content → A) → Type 0
BookFinds {A = A} state old new result answer = Reads (state old) (state new) result (λ (c : Content) (found : A). found ≡ answer c)

-- it finds just this list
abbrev pub BookLists : {B T Z : Type 0} → (B → BookState) → B → B → Result (Vec T Z) BookFault → (Content → List T) → Type 0
BookLists {T = T} {Z = Z} state old new result answer = Reads (state old) (state new) result (λ (c : Content) (found : Vec T Z). found.items ≡ answer c)

-- it commits
abbrev pub BookCommits : {B : Type 0} → (B → BookState) → B → B → Result (Unit {0}) BookFault → Commit → Type 0
BookCommits state old new result commit = Commits (state old) (state new) result commit.Follows commit.after

-- a book whose store never fails
abbrev pub unfailing : Content → BookState
unfailing c = record { content = c; stops = λ x. x ≡ c; is_sound = ⊤; is_clean = ⊤; is_open = ⊤; failures = 0 }
