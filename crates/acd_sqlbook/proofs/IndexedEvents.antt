-- Events that are read by the numbers that an index has of them.
use Rattle.std.proofs.Common.{◌≡◌, inl, inr, ℕ, ◌+◌, ◌-◌, ◌<◌, ◌≤◌, Bool, true, false, cond, nat_lt, List, [], ◌∷◌, ◌++◌, length, take, drop, filter, map, get_or, Some, refl, sym, ap, ap₂, subst, ◌∙◌, arith}
use Rattle.std.specs.Ordering.{nat_cmp}
use Rattle.std.proofs.lemmas.Bool.Decides.{nat_tests}
use Rattle.std.proofs.lemmas.Grind.{common_steps}
use Rattle.std.proofs.lemmas.List.{take_more}
use Rattle.sqlite.specs.State.{State}
use Rattle.acd_terms.specs.Lists.{Among, Every, AllAfter, IsAscending}
use Rattle.acd_terms.specs.declared.event.Event.{Event}
use Rattle.acd_book.specs.Content.{Content, is_at, is_at_after, events_after}
use Rattle.acd_book.specs.Memory.{number_of_event}
use Rattle.acd_book.specs.Order.{Rises}
use Rattle.acd_sql_columns.specs.Transactions.{HoldsContent}
use Rattle.acd_sql_columns.specs.declared.tables.Table.TheVariants as table
use Rattle.acd_sql_statements.specs.EventsByNumber.{picked}
use Rattle.acd_lemmas.proofs.Numbers.{less_is}
use Rattle.acd_sqlbook.specs.EventIndex.{last_of}
use Rattle.acd_book.proofs.EventsAbove.{events_raised}
use Rattle.acd_lemmas.proofs.Lists.{every-append, every-take}
use Rattle.std.proofs.lemmas.Bool.{and_parts}

-- ---- a page of the numbers

abbrev pub Ascends : List Event → Type 0
Ascends events = IsAscending (λ (a b : Event). nat_cmp a.number b.number) events

-- the events of a connection's content do
pub ascending : (s : State) (c : Content) → HoldsContent s c → Ascends c.events
ascending s c held = (held.encodes table.Events).ascending

is_above : (n : ℕ) → 0 < n → nat_lt (n - 1) n ≡ true
is_above n h = grind (arith, nat_tests)

not_above : (m n : ℕ) → m < n → nat_lt (n - 1) m ≡ false
not_above m n h = grind (arith, nat_tests)

among_after : (x e : Event) (events : List Event) → AllAfter (λ (a b : Event). nat_cmp a.number b.number) x events → Among e events → x.number < e.number
among_after x e [] after a = absurd a
among_after x e (y ∷ events) after (inl is) = less_is x.number e.number (ap (λ (z : Event). nat_cmp x.number z.number) is ∙ after.0)
among_after x e (y ∷ events) after (inr a) = among_after x e events after.1 a

-- the first that isn't below the number of an event is the event
pub one_there : (events : List Event) (e : Event) → Ascends events → Among e events → 0 < e.number → events_after events (e.number - 1) 1 ≡ e ∷ []
one_there [] e up a low = absurd a
one_there (x ∷ events) e up (inl is) low =
    ap (λ (b : Bool). take 1
    (cond b (x ∷ filter (λ (y : Event). nat_lt (e.number - 1) y.number) events) (filter (λ (y : Event). nat_lt (e.number - 1) y.number) events)))
    (ap (λ (z : Event). nat_lt (e.number - 1) z.number) (sym is) ∙ is_above e.number low)
    ∙ ap (λ (z : Event). z ∷ []) (sym is)
one_there (x ∷ events) e up (inr a) low =
    ap (λ (b : Bool). take 1
    (cond b (x ∷ filter (λ (y : Event). nat_lt (e.number - 1) y.number) events) (filter (λ (y : Event). nat_lt (e.number - 1) y.number) events)))
    (not_above x.number e.number (among_after x e events up.0 a))
    ∙ one_there events e up.1 a low

abbrev IsThere : List Event → Event → Type 0
IsThere events e = Among e events × (0 < e.number)

all_there : (events some : List Event) → Ascends events → Every (IsThere events) some → picked events (map number_of_event some) ≡ some
all_there events [] up all = refl
all_there events (e ∷ some) up all = ap₂ (λ (l m : List Event). l ++ m) (one_there events e up all.0.0 all.0.1) (all_there events some up all.1)

over_zero : (n m : ℕ) → nat_lt n m ≡ true → 0 < m
over_zero n m h = grind (arith, nat_tests)

more_there : (x : Event) (events some : List Event) → Every (IsThere events) some → Every (IsThere (x ∷ events)) some
more_there x events [] all = tt
more_there x events (y ∷ some) all = ((inr all.0.0, all.0.1), more_there x events some all.1)

next_there : (device n : ℕ) (x : Event) (events : List Event) (b : Bool) → is_at_after (Some device) n x ≡ b
    → Every (IsThere events) (filter (is_at_after (Some device) n) events)
    → Every (IsThere (x ∷ events)) (cond b (x ∷ filter (is_at_after (Some device) n) events) (filter (is_at_after (Some device) n) events))
next_there device n x events true passes rest = (
  (inl refl, over_zero n x.number (and_parts (is_at (Some device) x) (nat_lt n x.number) passes).1),
  more_there x events (filter (is_at_after (Some device) n) events) rest,
)
next_there device n x events false passes rest = more_there x events (filter (is_at_after (Some device) n) events) rest

passing_there : (device n : ℕ) (events : List Event) → Every (IsThere events) (filter (is_at_after (Some device) n) events)
passing_there device n [] = tt
passing_there device n (x ∷ events) = next_there device n x events (is_at_after (Some device) n x) refl (passing_there device n events)

-- the events of a page of numbers are the page
pub page_picked : (device n limit : ℕ) (events : List Event) (numbers : List ℕ) → Ascends events
    → numbers ≡ map number_of_event (take limit (filter (is_at_after (Some device) n) events))
    → picked events numbers ≡ take limit (filter (is_at_after (Some device) n) events)
page_picked device n limit events numbers up is =
    let page = take limit (filter (is_at_after (Some device) n) events) in
    ap (picked events) is
    ∙ all_there events page up (every-take (IsThere events) limit (filter (is_at_after (Some device) n) events) (passing_there device n events))

-- ---- events that go on

pub drop_next : (i : ℕ) (xs : List Event) (d : Event) → i < length xs → drop i xs ≡ get_or xs i d ∷ drop (i + 1) xs
drop_next i xs d h = grind (arith, common_steps)

pub none_left : (i : ℕ) (xs : List Event) → length xs ≤ i → drop i xs ≡ []
none_left i xs h = grind (arith, common_steps)

pub all_taken : (i : ℕ) (xs : List Event) → length xs ≤ i → take i xs ≡ xs
all_taken i xs h = grind (arith, common_steps)

-- one more event, which continues
pub rises_on : (top i : ℕ) (events : List Event) (e : Event) → i < length events → e ≡ get_or events i e → top < e.number
    → Rises number_of_event e.number (drop (i + 1) events) → Rises number_of_event top (drop i events)
rises_on top i events e low is up rest =
    subst (Rises number_of_event top) (sym (drop_next i events e low ∙ ap (λ (x : Event). x ∷ drop (i + 1) events) (sym is))) (up, rest)

pub ends_on : (top i : ℕ) (events : List Event) (e : Event) → i < length events → e ≡ get_or events i e
    → last_of top (drop i events) ≡ last_of e.number (drop (i + 1) events)
ends_on top i events e low is = ap (last_of top) (drop_next i events e low ∙ ap (λ (x : Event). x ∷ drop (i + 1) events) (sym is))

pub below_on : (top i : ℕ) (events : List Event) (e : Event) → i < length events → e ≡ get_or events i e → top < e.number
    → Every (λ (x : Event). x.number ≤ top) (take i events)
    → Every (λ (x : Event). x.number ≤ e.number) (take (i + 1) events)
below_on top i events e low is up all =
    subst (Every (λ (x : Event). x.number ≤ e.number)) (sym (take_more events i e low ∙ ap (λ (x : Event). take i events ++ x ∷ []) (sym is)))
    (every-append (λ (x : Event). x.number ≤ e.number) (take i events) (e ∷ []) (events_raised top e.number (take i events) (omega (arith, up)) all)
    (omega arith, tt))
