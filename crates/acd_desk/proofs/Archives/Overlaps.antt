-- What a content has in common with its archive, compared step by step.
use Rattle.std.proofs.Common.{◌≡◌, ◌≢◌, ℕ, ◌+◌, ◌<◌, ◌≤◌, Bool, true, false, List, [], ◌∷◌, ◌++◌, min, Option, Some, None, is_some, Result, Ok, Err, refl, sym, ap, subst, ◌∙◌, arith, true≢false}
use Rattle.std.proofs.Math.Nat.{le_refl}
use Rattle.std.specs.Bool.{Decides}
use Rattle.acd_terms.specs.Lists.{Every}
use Rattle.acd_terms.specs.declared.rows.Rows.{Rows}
use Rattle.acd_terms.specs.declared.event.Event.{Event}
use Rattle.acd_book.specs.declared.kept.Kept.{Kept}
use Rattle.acd_book.specs.declared.fault.BookFault.{BookFault}
use Rattle.acd_book.specs.Content.{Content}
use Rattle.acd_book.specs.Memory.{stamp_of, number_of_event}
use Rattle.acd_book.specs.Order.{Rises}
use Rattle.acd_book.specs.State.{BookState, Reads}
use Rattle.acd_desk.specs.declared.overlap.Cut.{Cut}
use Rattle.acd_desk.specs.declared.overlap.Next.{Next}
use Rattle.acd_desk.specs.declared.overlap.Next.TheVariants.{Same, Other, Over}
use Rattle.acd_desk.specs.declared.overlap.Pages.{Pages}
use Rattle.acd_desk.specs.declared.pair.PairFault.{PairFault}
use Rattle.acd_desk.specs.Reads.Kinds.{Kind, by_stamp, by_number, first_above, page_above}
use Rattle.acd_desk.specs.Reads.Pages.{Extends}
use Rattle.acd_book.specs.ListOverlap.{IsSplitAt, BeginsWithin, cut_before}
use Rattle.acd_desk.specs.Contents.CarriedContent.{Archive}
use Rattle.acd_lemmas.proofs.Lists.{head_is}
use Rattle.acd_desk.specs.Audits.AuditWith.{HoldsArchive}
use Rattle.acd_desk.specs.Audits.Overlap.{AreInOrder, cut_stamp, cut_number, KeepsArchive, ReportsArchive, IsNextOf, ArePagesOf, ReadsNext, IsOther, IsOtherUpTo, StandAbove, IsCleanCut, DecidesCleanCut, IsCutOf, earlier, FindsOther, FindsMoment, FindsAbove, FindsPlace}
use Rattle.acd_book.specs.BookReads.{Anything, IfOrdered, ReadsIfOpen}
use Rattle.acd_book.proofs.ReadsInTurn.{Finding}
use Rattle.acd_desk.proofs.Archives.BothReads.{Books, FindingOfBoth, OfArchive, OfCurrent, AndThen, ReadsFrom, both_known, both_as, both_ok, both_then}
use Rattle.acd_book.proofs.ReadsAhead.{by_read, read_ok, read_nothing, read_twice}
use Rattle.acd_book.proofs.SharedLists.{within, Shares, shares_nothing, cut_rises, cut_within, reached, split_there, split_once}
use Rattle.acd_desk.proofs.Archives.SharedSteps.{next_shares, other_shares, over_shares}

-- ---- one kind ----

-- so far both have the same, at least as many as the loop has come past, and the pages are of both
pub record SharesSoFar {T : Type 0} (kind : Kind T) (ends : ℕ × ℕ) (count place : ℕ) (pages : Pages T) (a c : Content) (u : Unit {0}) : Type 0 where
  pub are : ArePagesOf kind a c pages
  pub shares : StandAbove kind ends.0 ends.1 a c → Shares kind.place ends.0 place (kind.all a) (kind.all c) × (count ≤ place)

pub shares_start : {T : Type 0} {kind : Kind T} {a : Books} {above last : ℕ} {pages : Pages T} → ((x z : Content) → ArePagesOf kind x z pages)
    → ReadsFrom a a (Ok tt) (SharesSoFar kind (above, last) above above pages)
shares_start {kind = kind} {above = above} {last = last} are =
    both_known
    (λ x z. record {
      are = are x z;
      shares = λ at. (
        shares_nothing kind.place above (kind.all x) (kind.all z) at.archive
            (subst (λ (n : ℕ). Rises kind.place n (kind.all z)) (sym at.cut) (cut_rises kind.place last (kind.all z) at.current)),
        le_refl above,
      );
    })

-- the pages are of both again, and this is next
abbrev pub NextIs : {T : Type 0} → Kind T → ℕ × ℕ → ℕ → ℕ → Pages T → FindingOfBoth Next
NextIs kind ends count place pages x z found =
    SharesSoFar kind ends count place pages x z tt × IsNextOf (kind.place, ends.1) (page_above kind place 1 x) (page_above kind place 1 z) found

-- so much is known where the next of both is found
pub next_read : {T : Type 0} (kind : Kind T) {a b e : Books} {ends : ℕ × ℕ} {count place : ℕ} (old new : Pages T) {found next : Next} → found ≡ next
    → ReadsFrom a b (Ok tt) (SharesSoFar kind ends count place old) → ReadsFrom b e (Ok found) (ReadsNext kind (old, new) place ends.1)
    → ReadsFrom a e (Ok next) (NextIs kind ends count place new)
next_read kind old new is so_far read =
    both_as is (both_then so_far read (λ x z so y holds. let all = holds so.are in (record { are = all.0; shares = so.shares }, all.1)))

pub shares_next : {T : Type 0} {kind : Kind T} {a b : Books} {ends : ℕ × ℕ} {count place next : ℕ} {pages : Pages T}
    → ReadsFrom a b (Ok (Same next)) (NextIs kind ends count place pages) → ReadsFrom a b (Ok tt) (SharesSoFar kind ends (count + 1) next pages)
shares_next {kind = kind} {ends = ends} {count = count} {place = place} {next = next} read =
    both_ok read
    (λ x z both. record {
      are = both.0.are;
      shares = λ at.
          let now = both.0.shares at in
          next_shares kind.place ends.0 place ends.1 count next (kind.all x) (kind.all z) now.0 now.1 both.1;
    })

pub shares_other : {T : Type 0} {kind : Kind T} {a b : Books} {ends : ℕ × ℕ} {count place mark : ℕ} {pages : Pages T}
    → ReadsFrom a b (Ok (Other mark)) (NextIs kind ends count place pages) → ReadsFrom a b (Ok (Some mark)) (FindsOther kind ends.0 ends.1)
shares_other {kind = kind} {ends = ends} {place = place} read =
    both_ok read (λ x z both at. other_shares kind.place ends.0 place ends.1 (kind.all x) (kind.all z) (both.0.shares at).0 both.1)

pub shares_over : {T : Type 0} {kind : Kind T} {a b : Books} {ends : ℕ × ℕ} {count place : ℕ} {pages : Pages T}
    → ReadsFrom a b (Ok Over) (NextIs kind ends count place pages) → ReadsFrom a b (Ok None) (FindsOther kind ends.0 ends.1)
shares_over {kind = kind} {ends = ends} {place = place} read =
    both_ok read (λ x z both at. over_shares kind.place ends.0 place ends.1 (kind.all x) (kind.all z) (both.0.shares at).0 both.1)

pub shares_whole : {T : Type 0} {kind : Kind T} {a b : Books} {ends : ℕ × ℕ} {count place : ℕ} {pages : Pages T} → ends.1 ≤ count
    → ReadsFrom a b (Ok tt) (SharesSoFar kind ends count place pages) → ReadsFrom a b (Ok None) (FindsOther kind ends.0 ends.1)
shares_whole {kind = kind} {ends = ends} {count = count} {place = place} all so_far =
    both_ok so_far
    (λ x z so at.
    let now = so.shares at in
    reached kind.place ends.0 place ends.1 (kind.all x) (kind.all z) now.0 (within ends.1 count place all now.1) at.within)

-- the first of both aren't the same
pub firsts_differ : {T : Type 0} (x y : T) (archived current : List T) (r : Bool) → archived ≡ x ∷ [] → current ≡ y ∷ [] → Decides r (x ≡ y) → r ≡ false
    → current ≢ archived
firsts_differ x y archived current r is_archived is_current same differ = λ is.
    true≢false (sym (same.1 (sym (head_is y x [] [] (sym is_current ∙ is ∙ is_archived)))) ∙ differ)

-- the pages of both reach so far, and show what both have next
pub next_shown : {T : Type 0} (kind : Kind T) {a b : Books} (place last : ℕ) (old new : Pages T) {archived current : List T} {found : Next}
    → archived ≡ first_above kind.place place 1 new.archive.items.items → current ≡ first_above kind.place place 1 new.current.items.items
    → IsNextOf (kind.place, last) archived current found
    → ReadsFrom a b (Ok (tt, tt))
    (AndThen (OfArchive (Extends kind (old.archive, new.archive) place 1)) (OfCurrent (Extends kind (old.current, new.current) place 1)))
    → ReadsFrom a b (Ok found) (ReadsNext kind (old, new) place last)
next_shown {T = T} kind place last old new {archived} {current} {found} is_archived is_current next read =
    both_ok read
    (λ x z both are.
    let archive = both.0 are.0 in
    let mine = both.1 are.1 in (
      (archive.0, mine.0),
      subst (λ (l : List T). IsNextOf (kind.place, last) (page_above kind place 1 x) l found) (is_current ∙ mine.1)
          (subst (λ (l : List T). IsNextOf (kind.place, last) l current found) (is_archived ∙ archive.1) next),
    ))

-- wherever the ends are, they are those of the archive's kept ones
at_cut : {T : Type 0} (kind : Kind T) (a c : Content) (above last end : ℕ) (found : Option ℕ) → last ≡ end → above ≡ cut_before kind.place end (kind.all c)
    → StandAbove kind (cut_before kind.place end (kind.all c)) end a c → FindsOther kind above last a c found
    → IsOther (BeginsWithin kind.place (cut_before kind.place end (kind.all c)) end (kind.all a) (kind.all c)) found
at_cut kind a c above last end found is_last is_cut at finds =
    subst (λ (n : ℕ). FindsOther kind n end a c found) is_cut (subst (λ (n : ℕ). FindsOther kind above n a c found) is_last finds) at

finds_record : (a c : Content) (above last : ℕ) (found : Option ℕ) → AreInOrder a c → last ≡ a.rows.last_stamp → above ≡ cut_stamp a c
    → FindsOther by_stamp above last a c found → IsOther (KeepsArchive a c) found
finds_record a c above last found order is_last is_cut finds =
    at_cut by_stamp a c above last a.rows.last_stamp found is_last is_cut
    (record { archive = order.archive.ordered.kept; within = order.archive.counted.kept; current = order.current.kept; cut = refl }) finds

finds_event : (a c : Content) (above last : ℕ) (found : Option ℕ) → AreInOrder a c → last ≡ a.rows.last_event → above ≡ cut_number a c
    → FindsOther by_number above last a c found → IsOther (ReportsArchive a c) found
finds_event a c above last found order is_last is_cut finds =
    at_cut by_number a c above last a.rows.last_event found is_last is_cut
    (record { archive = order.archive.ordered.events; within = order.archive.counted.events; current = order.current.events; cut = refl }) finds

-- ---- both together ----

pub holds_both : (a c : Content) → KeepsArchive a c → ReportsArchive a c → IsCleanCut a (cut_stamp a c) (cut_number a c) → HoldsArchive a c
holds_both a c keeps reports clean =
    let left : Archive = record { events = reports.past; kept = keeps.past } in
    let carried : Content = record { rows = a.rows; events = reports.carried; kept = keeps.carried } in
    let whole : Rows → List Event → List Kept → Content = λ x y z. record { rows = x; events = y; kept = z } in
    record {
      left = left;
      carried = carried;
      cut = record {
        whole = ap (λ (y : List Event). whole a.rows y a.kept) reports.split.whole
            ∙ ap (λ (z : List Kept). whole a.rows (reports.past ++ reports.carried) z) keeps.split.whole;
        events = clean keeps.past keeps.carried reports.past reports.carried keeps.split reports.split;
      };
      kept_left = keeps.rest;
      events_left = reports.rest;
      kept = keeps.mine;
      events = reports.mine;
      kept_rise = keeps.newer;
      events_rise = reports.newer;
    }

kept_split : (a c : Content) (h : HoldsArchive a c) → AreInOrder a c → IsSplitAt stamp_of (cut_stamp a c) a.kept h.left.kept h.carried.kept
kept_split a c h order =
    split_there stamp_of a.rows.last_stamp a.kept c.kept h.left.kept h.carried.kept h.kept_left (ap (λ (x : Content). x.kept) h.cut.whole) h.kept
    order.archive.ordered.kept order.archive.counted.kept h.kept_rise

events_split : (a c : Content) (h : HoldsArchive a c) → AreInOrder a c → IsSplitAt number_of_event (cut_number a c) a.events h.left.events h.carried.events
events_split a c h order =
    split_there number_of_event a.rows.last_event a.events c.events h.left.events h.carried.events h.events_left (ap (λ (x : Content). x.events) h.cut.whole) h.events
    order.archive.ordered.events order.archive.counted.events h.events_rise

pub holds_keeps : (a c : Content) → AreInOrder a c → HoldsArchive a c → KeepsArchive a c
holds_keeps a c order h =
    record { past = h.left.kept; carried = h.carried.kept; rest = h.kept_left; split = kept_split a c h order; mine = h.kept; newer = h.kept_rise }

pub holds_reports : (a c : Content) → AreInOrder a c → HoldsArchive a c → ReportsArchive a c
holds_reports a c order h =
    record { past = h.left.events; carried = h.carried.events; rest = h.events_left; split = events_split a c h order; mine = h.events; newer = h.events_rise }

pub holds_clean : (a c : Content) → AreInOrder a c → HoldsArchive a c → IsCleanCut a (cut_stamp a c) (cut_number a c)
holds_clean a c order h past carried left reported kept_two events_two =
    let mine = kept_split a c h order in
    let holds = events_split a c h order in
    let once = split_once stamp_of (cut_stamp a c) h.left.kept h.carried.kept past carried (sym mine.whole ∙ kept_two.whole)
    mine.below kept_two.below mine.above kept_two.above in
    let also = split_once number_of_event (cut_number a c) h.left.events h.carried.events left reported (sym holds.whole ∙ events_two.whole)
    holds.below events_two.below holds.above events_two.above in
    subst (λ (ks : List Kept). Every (λ (e : Event). Every (λ (k : Kept). e.moment < k.moment) ks) left) once.1
    (subst (λ (es : List Event). Every (λ (e : Event). Every (λ (k : Kept). e.moment < k.moment) h.carried.kept) es) also.0 h.cut.events)

-- ---- reads of the archive alone, whatever they find ----

pub read_on : {T S : Type 0} {P : Finding T} {a b d : BookState} {x : T} {y : S} → ReadsIfOpen {A = Unit {0}} a b (Ok tt) Anything → Reads b d (Ok x) P
    → ReadsIfOpen {A = S} a d (Ok y) Anything
read_on {T = T} {S = S} {P = P} {a = a} {b = b} {d = d} {x = x} {y = y} one two =
    read_ok {A = T} {C = S} Anything a d x y
    (read_twice {A = Unit {0}} {C = T} Anything a b d tt (Ok x) one (by_read Anything b d (Ok x) two (λ c z holds. tt)) (λ c u z v. tt)) (λ c u. tt)

pub fault_on : {T S : Type 0} {P : Finding T} {a b d : BookState} {f : BookFault} {r : Result S BookFault}
    → ReadsIfOpen {A = Unit {0}} a b (Ok tt) Anything → Reads {A = T} b d (Err f) P → r ≡ Err f → ReadsIfOpen {A = S} a d r Anything
fault_on {T = T} {S = S} {P = P} {a = a} {b = b} {d = d} {f = f} {r = r} one two is =
    read_nothing {A = T} {C = S} Anything a d f r
    (read_twice {A = Unit {0}} {C = T} Anything a b d tt (Err f) one (by_read Anything b d (Err f) two (λ c z holds. tt)) (λ c u z v. tt)) is

-- ---- the first place where they differ ----

number_within : (a c : Content) (n : ℕ) → n ≡ cut_number a c → n ≤ a.rows.last_event
number_within a c n is = subst (λ (m : ℕ). m ≤ a.rows.last_event) (sym is) (cut_within number_of_event a.rows.last_event c.events)

pub moment_unclean : {a b : Books} {cut : Cut} {last : ℕ} {clean : Bool} → clean ≡ false
    → ReadsFrom a b (Ok clean) (OfArchive (DecidesCleanCut cut.stamp cut.number)) → ReadsFrom a b (Ok (Some 0)) (FindsMoment cut last)
moment_unclean {cut = cut} is read =
    both_ok read
    (λ x z decides order is_last is_cut both. true≢false (sym ((decides order.archive (number_within x z cut.number is_cut)).1 both.0) ∙ is))

clean_and : (P Q : Type 0) (found : Option ℕ) → P → IsOther Q found → IsOther (P × Q) found
clean_and P Q None p h = (p, h)
clean_and P Q (Some place) p h = λ both. h both.1

pub moment_clean : {a b e : Books} {cut : Cut} {last : ℕ} {clean : Bool} {result : Result (Option ℕ) PairFault} → clean ≡ true
    → ReadsFrom a b (Ok clean) (OfArchive (DecidesCleanCut cut.stamp cut.number)) → ReadsFrom b e result (FindsOther by_number cut.number last)
    → ReadsFrom a e result (FindsMoment cut last)
moment_clean {cut = cut} {last = last} is read events =
    both_then read events
    (λ x z decides y holds order is_last is_cut.
    clean_and (IsCleanCut x cut.stamp cut.number) (ReportsArchive x z) y ((decides order.archive (number_within x z cut.number is_cut)).0 is)
    (finds_event x z cut.number last y order is_last is_cut holds))

clean_at : (a c : Content) (cut : Cut) → (cut.stamp ≡ cut_stamp a c) × (cut.number ≡ cut_number a c) → IsCleanCut a cut.stamp cut.number
    → IsCleanCut a (cut_stamp a c) (cut_number a c)
clean_at a c cut is clean = subst (λ (n : ℕ). IsCleanCut a n (cut_number a c)) is.0 (subst (λ (n : ℕ). IsCleanCut a cut.stamp n) is.1 clean)

clean_there : (a c : Content) (cut : Cut) → (cut.stamp ≡ cut_stamp a c) × (cut.number ≡ cut_number a c)
    → IsCleanCut a (cut_stamp a c) (cut_number a c) → IsCleanCut a cut.stamp cut.number
clean_there a c cut is clean = subst (λ (n : ℕ). IsCleanCut a n cut.number) (sym is.0) (subst (λ (n : ℕ). IsCleanCut a (cut_stamp a c) n) (sym is.1) clean)

-- an event is found where a moment is
no_event : (event moment : Option ℕ) → is_some event ≡ is_some moment → event ≡ None → moment ≡ None
no_event event None same none = refl
no_event event (Some m) same none = absurd (true≢false (sym same ∙ ap is_some none))

some_event : (moment : Option ℕ) (place : ℕ) (event : Option ℕ) → is_some event ≡ is_some moment → event ≡ Some place → (m : ℕ) × (moment ≡ Some m)
some_event None place event same is = absurd (true≢false (sym (ap is_some is) ∙ same))
some_event (Some m) place event same is = (m, refl)

at_most : (n last : ℕ) → min n last ≤ last
at_most n last = omega arith

above_found : (a c : Content) (cut last : Cut) → AreInOrder a c → (cut.stamp ≡ cut_stamp a c) × (cut.number ≡ cut_number a c)
    → (record_at moment event : Option ℕ)
    → IsOther (KeepsArchive a c) record_at → IsOther (IsCleanCut a cut.stamp cut.number × ReportsArchive a c) moment → is_some event ≡ is_some moment
    → IsOtherUpTo last.stamp (HoldsArchive a c) (earlier record_at event last.stamp)
above_found a c cut last order is None moment None kept reported same =
    let both = subst (IsOther (IsCleanCut a cut.stamp cut.number × ReportsArchive a c)) (no_event None moment same refl) reported in
    holds_both a c kept both.1 (clean_at a c cut is both.0)
above_found a c cut last order is None moment (Some place) kept reported same =
    let some = some_event moment place (Some place) same refl in
    let not_both = subst (IsOther (IsCleanCut a cut.stamp cut.number × ReportsArchive a c)) some.1 reported in
    (at_most place last.stamp, λ holds. not_both (clean_there a c cut is (holds_clean a c order holds), holds_reports a c order holds))
above_found a c cut last order is (Some stamp) moment None kept reported same = (at_most stamp last.stamp, λ holds. kept (holds_keeps a c order holds))
above_found a c cut last order is (Some stamp) moment (Some place) kept reported same =
    (at_most (min stamp place) last.stamp, λ holds. kept (holds_keeps a c order holds))

pub above_all : {a b : Books} {cut last : Cut} {record_at moment event result : Option ℕ}
    → ReadsFrom a b (Ok ((record_at, moment), event))
    (AndThen (AndThen (FindsOther by_stamp cut.stamp last.stamp) (FindsMoment cut last.number)) (OfArchive Anything))
    → is_some event ≡ is_some moment → result ≡ earlier record_at event last.stamp → ReadsFrom a b (Ok result) (FindsAbove cut last)
above_all {cut = cut} {last = last} {record_at = record_at} {moment = moment} {event = event} read same is =
    both_ok read
    (λ x z all order is_last is_cut.
    subst (IsOtherUpTo last.stamp (HoldsArchive x z)) (sym is)
    (above_found x z cut last order is_cut record_at moment event
    (finds_record x z cut.stamp last.stamp record_at order is_last.stamp is_cut.0 all.0.0) (all.0.1 order is_last.number is_cut.1) same))

pub place_found : {a b e : Books} {cut last : Cut} {result : Result (Option ℕ) PairFault} → ReadsFrom a b (Ok cut) (OfCurrent (IfOrdered (IsCutOf last)))
    → ReadsFrom b e result (FindsAbove cut last) → ReadsFrom a e result (FindsPlace last)
place_found one two =
    both_then one two
    (λ x z cuts y holds order is_last.
    let at = cuts order.current in
    holds order is_last (
      at.0 ∙ ap (λ (n : ℕ). cut_before stamp_of n z.kept) is_last.stamp,
      at.1 ∙ ap (λ (n : ℕ). cut_before number_of_event n z.events) is_last.number,
    ))
