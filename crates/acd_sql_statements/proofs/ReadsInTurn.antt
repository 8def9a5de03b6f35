-- Reads, one after the other.
use Rattle.std.proofs.Common.{◌≡◌, List, [], ◌∷◌, Result, Ok, Err, IsTrue, IfOk, sym, subst}
use Rattle.sqlite_value.specs.Order.{Row}
use Rattle.sqlite.specs.declared.error.Error.{Error}
use Rattle.sqlite.specs.State.{State, HasCleanDisk}
use Rattle.acd_terms.specs.declared.rows.Rows.{Rows}
use Rattle.acd_terms.specs.declared.record.GroupRecord.{GroupRecord}
use Rattle.acd_terms.specs.declared.record.StationRecord.{StationRecord}
use Rattle.acd_terms.specs.declared.record.AgentRecord.{AgentRecord}
use Rattle.acd_terms.specs.declared.record.CallRecord.{CallRecord}
use Rattle.acd_terms.specs.declared.record.ConnectionRecord.{ConnectionRecord}
use Rattle.acd_terms.specs.declared.record.MonitorRecord.{MonitorRecord}
use Rattle.acd_book.proofs.ReadsInTurn.{Finding}
use Rattle.acd_book.specs.Content.{Content}
use Rattle.acd_sql_columns.specs.Relations.{meta_of}
use Rattle.acd_sql_columns.specs.declared.meta.Meta.{Meta}
use Rattle.acd_sql_columns.specs.Transactions.{HoldsContent, Quiet, NoStop}
use Rattle.acd_sql_columns.specs.Rows.{meta_shown}
use Rattle.acd_sql_columns.specs.ReadResults.{Finds, joined_rows}

pub quiet_still : (s : State) → Quiet s s
quiet_still s = record { clean = λ k. k; was_open = λ k up. up; same = λ k c h up. h }

pub quiet_on : (a b c : State) → Quiet a b → Quiet b c → Quiet a c
quiet_on a b c p q = record {
  clean = λ k. p.clean (q.clean k);
  was_open = λ k up. p.was_open (q.clean k) (q.was_open k up);
  same = λ k x h up. q.same k x (p.same (q.clean k) x h (q.was_open k up)) up;
}

-- a stop leaves what it might have left before
abbrev pub StopsNowhere : State → State → Type 0
StopsNowhere old new = HasCleanDisk new → (c : Content) → HoldsContent old c → NoStop old new

-- of the row that shows any counters, these are read
abbrev pub ReadsMeta : List Row → Meta → Type 0
ReadsMeta rows meta = (m : Meta) → rows ≡ meta_shown m ∷ [] → meta ≡ m

-- the one row that is read is that of the content
pub finds_meta : (old new : State) (rows : List Row) (r : Result Meta Error) → IfOk r (ReadsMeta rows)
    → (HasCleanDisk new → IsTrue new.is_open) → Quiet old new → StopsNowhere old new
    → (HasCleanDisk new → (c : Content) → HoldsContent old c → rows ≡ meta_shown (meta_of c.rows) ∷ []) → Finds old new r (λ c meta. meta ≡ meta_of c.rows)
finds_meta old new rows (Ok meta) read up quiet stops are =
    record { up = up; quiet = quiet; stops = stops; answer = λ k c held. read (meta_of c.rows) (are k c held) }
finds_meta old new rows (Err e) read up quiet stops are = record { up = λ k. tt; quiet = quiet; stops = stops; answer = λ k. tt }

pub finds_none : {A : Type 0} (old new : State) (e : Error) (IsAnswer : Finding A) → Quiet old new
    → StopsNowhere old new → Finds old new (Err e) IsAnswer
finds_none old new e IsAnswer quiet stops = record { up = λ k. tt; quiet = quiet; stops = stops; answer = λ k. tt }

-- a read that failed finds nothing, whatever was asked for
pub finds_failed : {A B : Type 0} {old new : State} {e : Error} {r : Result B Error} {P : Finding A} {Q : Finding B}
    → Finds {E = Error} old new (Err e) P → r ≡ Err e → Finds old new r Q
finds_failed {A} {B} {old} {new} {e} {r} {P} {Q} h is = subst (λ (r : Result B Error). Finds old new r Q) (sym is) (finds_none old new e Q h.quiet h.stops)

module _ {A B : Type 0} (old mid new : State) (a : A) (P : Finding A) (Q : Finding B) (first : Finds {E = Error} old mid (Ok a) P) where
  -- both, where the second succeeded
  pub chained : {C : Type 0} (b : B) (whole : C) (W : Finding C) → ((c : Content) → P c a → Q c b → W c whole) → Finds {E = Error} mid new (Ok b) Q
      → Finds {E = Error} old new (Ok whole) W
  chained b whole W both second = record {
    up = second.up;
    quiet = quiet_on old mid new first.quiet second.quiet;
    stops = λ k c held db left.
        let m = second.quiet.clean k in
        first.stops m c held db (second.stops k c (first.quiet.same m c held (first.up m)) db left);
    answer = λ k c held.
        let m = second.quiet.clean k in
        both c (first.answer m c held) (second.answer k c (first.quiet.same m c held (first.up m)));
  }

  -- the second failed
  pub broken : {C : Type 0} (e : Error) (W : Finding C) → Finds mid new (Err e) Q → Finds old new (Err e) W
  broken e W second = record {
    up = λ k. tt;
    quiet = quiet_on old mid new first.quiet second.quiet;
    stops = λ k c held db left.
        let m = second.quiet.clean k in
        first.stops m c held db (second.stops k c (first.quiet.same m c held (first.up m)) db left);
    answer = λ k. tt;
  }

-- both answers say what was asked for
abbrev pub FindsBoth : {A B : Type 0} → Finding A → A → Finding B → Finding B → Type 0
FindsBoth {A} {B} P a Q W = (c : Content) (b : B) → P c a → Q c b → W c b

-- a consequence of the answer is found too
pub finds_so : {A : Type 0} (old new : State) (r : Result A Error) (P Q : Content → A → Type 0) → ((c : Content) → HoldsContent old c → (a : A) → P c a → Q c a)
    → Finds old new r P → Finds old new r Q
finds_so old new (Ok a) P Q so h = record { up = h.up; quiet = h.quiet; stops = h.stops; answer = λ k c held. so c held a (h.answer k c held) }
finds_so old new (Err e) P Q so h = record { up = λ k. tt; quiet = h.quiet; stops = h.stops; answer = λ k. tt }

-- the answer is used for the next result
pub finds_on : {A B : Type 0} (old new : State) (a : A) (r : Result B Error) (P : Finding A) (Q : Finding B)
    → Finds {E = Error} old new (Ok a) P
    → IfOk r (λ (b : B). (c : Content) → P c a → Q c b) → Finds old new r Q
finds_on old new a (Ok b) P Q h on = record { up = h.up; quiet = h.quiet; stops = h.stops; answer = λ k c held. on c (h.answer k c held) }
finds_on old new a (Err e) P Q h on = record { up = λ k. tt; quiet = h.quiet; stops = h.stops; answer = λ k. tt }

-- the last of two answers what was asked for
pub finds_after : {A B : Type 0} (old mid new : State) (a : A) (r : Result B Error) (P : Finding A) (Q W : Content → B → Type 0)
    → Finds {E = Error} old mid (Ok a) P
    → FindsBoth P a Q W → Finds mid new r Q → Finds old new r W
finds_after old mid new a (Ok b) P Q W first both second = chained old mid new a P Q first b b W (λ c p q. both c b p q) second
finds_after old mid new a (Err e) P Q W first both second = broken old mid new a P Q first e W second

pub joined_is : (s : Rows) (m : Meta) (groups : List GroupRecord) (stations : List StationRecord) (agents : List AgentRecord) (calls : List CallRecord)
    (connections : List ConnectionRecord) (monitors : List MonitorRecord)
    → m ≡ meta_of s → groups ≡ s.groups → stations ≡ s.stations → agents ≡ s.agents → calls ≡ s.calls → connections ≡ s.connections → monitors ≡ s.monitors
    → joined_rows m groups stations agents calls connections monitors ≡ s
joined_is s m groups stations agents calls connections monitors e a b c d f h = λ i. joined_rows (e i) (a i) (b i) (c i) (d i) (f i) (h i)
