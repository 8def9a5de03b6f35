-- A book that is called sound where something else is so.
use Rattle.std.proofs.Common.{List, refl, sym, ap, subst}
use Rattle.sqlite_trees.specs.Tree.{Trees}
use Rattle.sqlite.specs.Effect.{Database}
use Rattle.sqlite.specs.State.{State}
use Rattle.acd_terms.specs.declared.command.Arrival.{Arrival}
use Rattle.acd_book.specs.Content.{Content}
use Rattle.acd_book.specs.State.{BookState, BookStep}
use Rattle.acd_sql_columns.specs.InTables.{content_of}
use Rattle.acd_sql_columns.specs.Transactions.{IsBook}
use Rattle.acd_sql_columns.proofs.Rows.RowsOfRecords.{decoded}
use Rattle.acd_sql_columns.proofs.Writes.TransactionEnds.{is_book}
use Rattle.acd_sqlbook.specs.Caches.{SoundWith}
use Rattle.acd_sqlbook.specs.State.{book_state}
use Rattle.acd_sqlbook.specs.declared.cache.Cache.{Cache}
use Rattle.acd_desk.specs.declared.taken.Taken.{Taken}
use Rattle.acd_desk.specs.Contents.AnyContent.{Leads}
use Rattle.acd_desk.specs.Desks.DeskCalls.{HoldsRun}
use Rattle.acd_desk.specs.Desks.Session.{Session}
use Rattle.acd_sessions.specs.Over.{LeavesBooks}

abbrev pub called : BookState → Type 0 → BookState
called b Sound = record b { is_sound = Sound }

of_content : (db : Trees) (c : Content) → IsBook db c → IsBook db (content_of db)
of_content db c book = subst (IsBook db) (sym (decoded db c book.encodes)) book

-- a sound book in a database leaves books
pub leaves_books : (t : State) (cache : Cache) (failures : _) → SoundWith cache (book_state t failures) → LeavesBooks t
leaves_books t cache failures sound = record {
  now = λ up. let held = sound.0.stands up in of_content t.now.trees held.0 (is_book t held.0 t.now.trees held.1 (ap (λ (d : Database). d.trees) held.1.idle));
  committed = λ up. let held = sound.0.stands up in of_content t.committed.trees held.0 (is_book t held.0 t.committed.trees held.1 refl);
  left = λ db at. let parts = sound.0.left db at in of_content db parts.0 parts.1;
}

module _ (Sound : Type 0) (b : BookState) where
  pub leads_called : (c : Content) (l : List Arrival) (ts : List Taken) → Leads c l ts b → Leads c l ts (called b Sound)
  leads_called c l ts h = record { replies = h.replies; content = h.content; stops = h.stops }

  pub holds_called : (c : Content) (l : List Arrival) → HoldsRun c l b → HoldsRun c l (called b Sound)
  holds_called c l h = record { content = h.content; whole = h.whole; laws = h.laws; alone = h.alone }

-- of a book that was sound, what a step, a session or a read left
module _ (Sound : Type 0) (new : BookState) (so : new.is_sound → Sound) where
  pub step_called : {F : Type 0} (old : BookState) → BookStep F old new → BookStep F old (called new Sound)
  step_called old s = record { clean = s.clean; sound = λ clean sound. so (s.sound clean sound); quiet = s.quiet; counts = s.counts }

  pub session_called : (P : Taken → Type 0) (old : BookState) (l : List Arrival) (ts : List Taken) → Session P old l ts new → Session P old l ts (called new Sound)
  session_called P old l ts s = record {
    even = s.even;
    step = step_called old s.step;
    opened = s.opened;
    accepts = s.accepts;
    leads = λ clean sound counted. leads_called Sound new old.content l ts (s.leads clean sound counted);
    replies = s.replies;
    holds = λ clean sound whole up. holds_called Sound new old.content _ (s.holds clean sound whole up);
    up = s.up;
    stops = s.stops;
    sound_stops = s.sound_stops;
    later = s.later;
    cause = s.cause;
  }
