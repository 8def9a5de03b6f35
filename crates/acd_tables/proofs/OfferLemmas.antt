-- The groups that may have an offer, through the changes of sets.
use Rattle.std.proofs.Common.{◌≡◌, ℕ, Bool, true, false, true≢false, ◌==◌, ◌&&◌, ◌||◌, not, List, [], ◌∷◌, ◌++◌, Option, Some, None, refl, ap, sym, subst, ◌∙◌, eqb-true}
use Rattle.std.specs.Ordering.{is_eq, nat_cmp, ordering_then}
use Rattle.std.specs.declared.cmp.Ordering.{Ordering}
use Rattle.std.specs.declared.cmp.Ordering.TheVariants.{Less, Equal, Greater}
use Rattle.std.specs.BTreeSet.{BTreeSet, contains}
use Rattle.std.proofs.lemmas.Bool.{and_parts}
use Rattle.std.proofs.lemmas.Map.Lookups.{exact_unsigned}
use Rattle.acd_terms.specs.Groups.{is_one_of}
use Rattle.acd_terms.specs.declared.rows.Rows.{Rows}
use Rattle.acd_terms.specs.declared.record.GroupRecord.{GroupRecord}
use Rattle.acd_model.specs.Scans.{group_of}
use Rattle.acd_lemmas.proofs.Lists.{eq_is, some_is}
use Rattle.acd_lemmas.proofs.KeyedLists.{cmp_self}
use Rattle.acd_lemmas.proofs.State.{group_key}
use Rattle.acd_tables.specs.Sets.{Removed, KeepsKeys}
use Rattle.acd_tables.specs.IndexedRows.{PairSets, pair_cmp, lists, OfferKey, offer_cmp, offer_key, HasOffer, HasNoEntry, ListsOffers}
use Rattle.acd_tables.specs.Swaps.{is_swap_entry, is_of_group, Enters, Leaves, Undoes, Offers, ListsEach, KeepsWaiting, GroupsJust, EntryJust, ListsNoMore}
use Rattle.acd_tables.specs.declared.indexes.Indexes.{Indexes}
use Rattle.acd_tables.proofs.Entries.{any_last}

both_equal : (a b : Ordering) → is_eq (ordering_then a b) ≡ true → (a ≡ Equal) × (b ≡ Equal)
both_equal Less b e = absurd (cc (e))
both_equal Equal b e = (refl, eq_is b e)
both_equal Greater b e = absurd (cc (e))

-- a key equals itself
pub key_itself : (k : OfferKey) → is_eq (offer_cmp k k) ≡ true
key_itself k = ap is_eq (ap (λ o. ordering_then o (nat_cmp k.1 k.1)) (cmp_self k.0.0 k.0.0 refl) ∙ cmp_self k.1 k.1 refl)

-- keys that are equal have one number
pub key_number : (j k : OfferKey) → is_eq (offer_cmp j k) ≡ true → j.1 ≡ k.1
key_number j k e = exact_unsigned j.1 k.1 (both_equal (nat_cmp k.0.0 j.0.0) (nat_cmp j.1 k.1) e).1

-- and one priority
pub key_priority : (j k : OfferKey) → is_eq (offer_cmp j k) ≡ true → k.0.0 ≡ j.0.0
key_priority j k e = exact_unsigned k.0.0 j.0.0 (both_equal (nat_cmp k.0.0 j.0.0) (nat_cmp j.1 k.1) e).0

-- a member that is there now entered or was there
came : (a b c : Bool) → c ≡ (a || b) → c ≡ true → a ≡ false → b ≡ true
came true b c e h n = absurd cc
came false b c e h n = sym e ∙ h

of_its_group : (entry : Option (List ℕ × (ℕ × ℕ))) (g : ℕ) (p : ℕ × ℕ) → is_swap_entry pair_cmp entry g p ≡ true → is_of_group entry g ≡ true
of_its_group None g p h = h
of_its_group (Some k) g p h = (and_parts (is_one_of k.0 g) (is_eq (pair_cmp k.1 p)) h).0

module _ (s : Rows) where
  -- more groups may be indexed
  pub offers-more : (queues ready : PairSets) (listed offering : BTreeSet OfferKey) → ListsOffers s queues ready offering
      → ((k : OfferKey) → contains offer_cmp offering k ≡ true → contains offer_cmp listed k ≡ true) → ListsOffers s queues ready listed
  offers-more queues ready listed offering old kept g r p q there h k = kept (offer_key r) (old g r p q there h k)

  -- the groups of what enters a queue are indexed before, and those of what enters the ready agents where somebody
  -- waits
  pub offers-entered : (x : Indexes) (queues ready : PairSets) (listed once : BTreeSet OfferKey) (e f waiting : Option (List ℕ × (ℕ × ℕ))) → Offers s x
      → Enters pair_cmp x.queues queues e → Enters pair_cmp x.ready ready f
      → KeepsKeys offer_cmp x.offering once → ListsEach s once (is_of_group e) → KeepsWaiting x.queues (is_of_group f) (is_of_group waiting)
      → KeepsKeys offer_cmp once listed × ListsEach s listed (is_of_group waiting) → ListsOffers s queues ready listed
  offers-entered x queues ready listed once e f waiting old eq er first of_queue waits more g r p q there h k =
      by (is_swap_entry pair_cmp e g p) refl (is_swap_entry pair_cmp f g q) refl
    where
      by : (a : Bool) → is_swap_entry pair_cmp e g p ≡ a → (b : Bool) → is_swap_entry pair_cmp f g q ≡ b → contains offer_cmp listed (offer_key r) ≡ true
      by true x b y = more.0 (offer_key r) (of_queue g r (of_its_group e g p x) there)
      by false x true y = more.1 g r (waits g p (of_its_group f g q y) (came (is_swap_entry pair_cmp e g p) _ _ (eq.members g p) h x)) there
      by false x false y =
          more.0 (offer_key r) (first (offer_key r)
          (old g r p q there (came (is_swap_entry pair_cmp e g p) _ _ (eq.members g p) h x) (came (is_swap_entry pair_cmp f g q) _ _ (er.members g q) k y)))

  was_there : (a b c : Bool) → c ≡ (not a && b) → c ≡ true → b ≡ true
  was_there true b c e h = absurd cc
  was_there false b c e h = sym e ∙ h

  -- with fewer members there are fewer offers
  pub offers-left : (queues queues' ready ready' : PairSets) (offering : BTreeSet OfferKey) (e f : Option (List ℕ × (ℕ × ℕ)))
      → ListsOffers s queues ready offering → Leaves pair_cmp queues queues' e → Leaves pair_cmp ready ready' f
      → ListsOffers s queues' ready' offering
  offers-left queues queues' ready ready' offering e f old lq lr g r p q there h k =
      old g r p q there (was_there (is_swap_entry pair_cmp e g p) _ _ (lq.members g p) h) (was_there (is_swap_entry pair_cmp f g q) _ _ (lr.members g q) k)

  -- a group with no offer may go
  pub offers-pruned : (queues ready : PairSets) (pruned offering : BTreeSet OfferKey) (n : ℕ) (z : GroupRecord) (gone : Bool)
      → ListsOffers s queues ready offering → group_of s n ≡ Some z
      → (gone ≡ true → HasNoEntry queues ready n) → Removed offer_cmp offering pruned (offer_key z) gone
      → ListsOffers s queues ready pruned
  offers-pruned queues ready pruned offering n z gone old found none removal g r p q there h l =
      removal (offer_key r) ∙ by (gone && is_eq (offer_cmp (offer_key z) (offer_key r))) refl
    where
      by : (b : Bool) → (gone && is_eq (offer_cmp (offer_key z) (offer_key r))) ≡ b → (not b && contains offer_cmp offering (offer_key r)) ≡ true
      by true e =
          let parts = and_parts gone (is_eq (offer_cmp (offer_key z) (offer_key r))) e in
          let same : n ≡ g = sym (group_key s n z found) ∙ key_number (offer_key z) (offer_key r) parts.1 ∙ group_key s g r there in
          let no = none parts.0 p q (ap (λ x. lists queues x p) same ∙ h) in
          let yes : lists ready n q ≡ true = ap (λ x. lists ready x q) same ∙ l in
          absurd (cc (no, yes))
      by false e = old g r p q there h l

  -- of a group that was removed, or has an offer
  pub offers-just : (queues ready : PairSets) (pruned offering : BTreeSet OfferKey) (n : ℕ) (z r : GroupRecord) (may : Bool) → group_of s n ≡ Some z
      → group_of s n ≡ Some r → (may ≡ true → HasOffer queues ready n)
      → Removed offer_cmp offering pruned (offer_key z) (not may) → contains offer_cmp pruned (offer_key r) ≡ true → HasOffer queues ready n
  offers-just queues ready pruned offering n z r true found there some removal k = some refl
  offers-just queues ready pruned offering n z r false found there some removal k =
      let same : z ≡ r = some_is z r (sym found ∙ there) in
      let same_key : is_eq (offer_cmp (offer_key z) (offer_key r)) ≡ true =
      ap (λ (x : GroupRecord). is_eq (offer_cmp (offer_key x) (offer_key r))) same ∙ key_itself (offer_key r) in
      let gone : contains offer_cmp pruned (offer_key r) ≡ false =
      removal (offer_key r) ∙ ap (λ (b : Bool). not b && contains offer_cmp offering (offer_key r)) same_key in
      absurd (true≢false (sym k ∙ gone))

  pub offers-fewer : (pruned offering : BTreeSet OfferKey) (key : OfferKey) (gone : Bool) → Removed offer_cmp offering pruned key gone
      → ListsNoMore offering pruned
  offers-fewer pruned offering key gone removal k there = was_there (gone && is_eq (offer_cmp key k)) _ _ (removal k) there

  -- one more group
  pub just_more : (queues ready : PairSets) (once offering : BTreeSet OfferKey) (gs : List ℕ) (x : ℕ) → GroupsJust s queues ready offering gs
      → ListsNoMore offering once
      → ((r : GroupRecord) → group_of s x ≡ Some r → contains offer_cmp once (offer_key r) ≡ true → HasOffer queues ready x)
      → GroupsJust s queues ready once (gs ++ x ∷ [])
  just_more queues ready once offering gs x old fewer one g r of there listed = by (is_one_of gs g) refl
    where
      last : (is_one_of gs g || (x == g)) ≡ true
      last = sym (any_last (λ (y : ℕ). y == g) gs x) ∙ of

      by : (b : Bool) → is_one_of gs g ≡ b → HasOffer queues ready g
      by true e = old g r e there (fewer (offer_key r) listed)
      by false e =
          let same : x ≡ g = eqb-true x g (ap (λ (b : Bool). b || (x == g)) (sym e) ∙ last) in
          subst (λ (n : ℕ). HasOffer queues ready n) same (one r (subst (λ (n : ℕ). group_of s n ≡ Some r) (sym same) there) listed)

  -- fewer are indexed
  pub just_left : {E : Type 0} (queues ready : PairSets) (once offering : BTreeSet OfferKey) (entry : Option (List ℕ × E))
      → EntryJust s queues ready offering entry → ListsNoMore offering once → EntryJust s queues ready once entry
  just_left queues ready once offering None old fewer = tt
  just_left queues ready once offering (Some k) old fewer = λ g r of there listed. old g r of there (fewer (offer_key r) listed)

  -- an entry of one group
  pub just_alone : {E : Type 0} (queues ready : PairSets) (offering : BTreeSet OfferKey) (entry : Option (List ℕ × E)) (gs : List ℕ) (k : E) (x : ℕ)
      → entry ≡ Some (gs, k) → gs ≡ x ∷ []
      → ((r : GroupRecord) → group_of s x ≡ Some r → contains offer_cmp offering (offer_key r) ≡ true → HasOffer queues ready x)
      → EntryJust s queues ready offering entry
  just_alone queues ready offering entry gs k x is one just =
      subst (λ (o : Option (List ℕ × _)). EntryJust s queues ready offering o) (sym is)
      (subst (λ (l : List ℕ). GroupsJust s queues ready offering l) (sym one)
      (just_more queues ready offering offering [] x (λ g r of there listed. absurd (true≢false (sym of))) (λ y h. h) just))

  -- the same members give the same offers
  pub offers-same : (queues queues' ready ready' : PairSets) (offering : BTreeSet OfferKey) → ((g : ℕ) (p : ℕ × ℕ) → lists queues' g p ≡ lists queues g p)
      → ((g : ℕ) (p : ℕ × ℕ) → lists ready' g p ≡ lists ready g p)
      → ListsOffers s queues ready offering → ListsOffers s queues' ready' offering
  offers-same queues queues' ready ready' offering eq er old g r p q there h k = old g r p q there (sym (eq g p) ∙ h) (sym (er g q) ∙ k)

-- other rows with the same groups
pub offers-of : (s t : Rows) (queues ready : PairSets) (offering : BTreeSet OfferKey) → ((g : ℕ) → group_of t g ≡ group_of s g)
    → ListsOffers s queues ready offering → ListsOffers t queues ready offering
offers-of s t queues ready offering same old g r p q there h k = old g r p q (sym (same g) ∙ there) h k

-- what was added and removed again
pub undone : (old new back : PairSets) (undo : Option (List ℕ × (ℕ × ℕ))) → Undoes pair_cmp old new undo → Leaves pair_cmp new back undo → (g : ℕ) (p : ℕ × ℕ)
    → lists back g p ≡ lists old g p
undone old new back undo un out g p = out.members g p ∙ sym (un g p)
