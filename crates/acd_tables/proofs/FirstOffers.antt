-- The groups that are indexed give the offer that is to be made.
use Rattle.std.proofs.Common.{◌≡◌, ℕ, Bool, true, false, cond, ◌&&◌, Option, Some, None, refl, ap, ap₂, sym, ◌∙◌, subst, arith}
use Rattle.std.specs.Prelude.{◌==◌, is_some, option_and_then, filter}
use Rattle.std.specs.List.Sorted.{IsStrictlySortedBy}
use Rattle.std.specs.declared.cmp.Ordering.{Ordering}
use Rattle.std.specs.declared.cmp.Ordering.TheVariants.{Less, Equal, Greater}
use Rattle.std.specs.Ordering.{nat_cmp, ordering_then}
use Rattle.std.specs.Cmp.{IsTotalOrder}
use Rattle.std.specs.BTreeSet.{contains}
use Rattle.std.proofs.lemmas.Cmp.{nat_cmp_total, on_total, then_total, back_total}
use Rattle.std.proofs.lemmas.Map.Lookups.{CmpEqualImpliesEq, exact_unsigned}
use Rattle.std.proofs.lemmas.Bool.{eqb-true, eq-eqb}
use Rattle.std.proofs.lemmas.Bool.Decides.{nat_tests}
use Rattle.acd_terms.specs.Lists.{Among, IsAscending}
use Rattle.acd_terms.specs.declared.rows.Rows.{Rows}
use Rattle.acd_terms.specs.declared.record.GroupRecord.{GroupRecord}
use Rattle.acd_model.specs.Rules.Plan.{group_order}
use Rattle.acd_model.specs.Scans.{group_of}
use Rattle.acd_model.specs.Choice.{first_waiting, first_eligible, precedes, foremost, has_both, offer_by, offer_in, offer_of}
use Rattle.acd_model.specs.declared.moves.Offer.{Offer}
use Rattle.acd_lemmas.proofs.Least.{least_is, none_foremost, foremost_is}
use Rattle.acd_lemmas.proofs.Lists.{none_from, filter_among, among-filter, eq_is}
use Rattle.acd_lemmas.proofs.State.{group_among, group_key, group_found}
use Rattle.acd_tables.specs.IndexedRows.{IsIndexed, OfferKey, offer_cmp, offer_key}
use Rattle.acd_tables.specs.FirstOffer.{if_ranked, offer_by_key, first_given}
use Rattle.acd_tables.specs.declared.indexes.Indexes.{Indexes}
use Rattle.acd_tables.proofs.Firsts.{waiting-among, eligible-among}
use Rattle.acd_tables.proofs.FirstOfKeys.{IsFirst, one_first, first_sorted}
use Rattle.acd_tables.proofs.ScansByIndex.{contained}
use Rattle.acd_lemmas.proofs.Numbers.{then_equal}

-- the order of keys

key_total : IsTotalOrder offer_cmp
key_total = then_total (on_total (λ (k : OfferKey). k.0.0) (back_total nat_cmp_total)) (on_total (λ (k : OfferKey). k.1) nat_cmp_total)

the_key : (j : OfferKey) (priority device : ℕ) → priority ≡ j.0.0 → device ≡ j.1 → ◌≡◌ {A = OfferKey} (record { 0 = priority }, device) j
the_key j priority device e f =
    ap (λ (p : ℕ). let k : OfferKey = (record { 0 = p }, device) in k) e ∙ ap (λ (d : ℕ). let k : OfferKey = (record { 0 = j.0.0 }, d) in k) f

key_exact : CmpEqualImpliesEq offer_cmp
key_exact x y e =
    let b = then_equal (nat_cmp y.0.0 x.0.0) (nat_cmp x.1 y.1) e in
    the_key y x.0.0 x.1 (sym (exact_unsigned y.0.0 x.0.0 b.0)) (exact_unsigned x.1 y.1 b.1)

-- a group precedes another where its key is less
before_is : (g h : GroupRecord) → precedes g h ≡ false → offer_cmp (offer_key g) (offer_key h) ≡ Less → ⊥
before_is g h e f = absurd (cc (e, by (nat_cmp h.priority g.priority) refl f))
  where
    by : (o : Ordering) → nat_cmp h.priority g.priority ≡ o → ordering_then o (nat_cmp g.device h.device) ≡ Less → precedes g h ≡ true
    by Less q l = grind (arith, nat_tests)
    by Equal q l = grind (arith, nat_tests)
    by Greater q l = absurd (cc (l))

both_there : (d : ℕ) (w r : Option (ℕ × ℕ)) (o : Offer) → offer_by d w r ≡ Some o → (is_some w && is_some r) ≡ true
both_there d None r o e = absurd (cc (e))
both_there d (Some w) None o e = absurd (cc (e))
both_there d (Some w) (Some r) o e = refl

parts : (d : ℕ) (w r : Option (ℕ × ℕ)) → (is_some w && is_some r) ≡ true → (v : ℕ × ℕ) × ((u : ℕ × ℕ) × ((w ≡ Some v) × (r ≡ Some u)))
parts d None r e = absurd (cc (e))
parts d (Some v) None e = absurd (cc (e))
parts d (Some v) (Some u) e = (v, (u, (refl, refl)))

module _ (s : Rows) (ascending : IsAscending group_order s.groups) where
  -- the value at a key: the offer of a planned group there that has both
  at_key : (j : OfferKey) (o : Offer) → offer_by_key s j ≡ Some o
      → (g : GroupRecord) × (Among g s.groups × ((has_both s g ≡ true) × ◌≡◌ {A = OfferKey} (offer_key g) j))
  at_key j o e = by (group_of s j.1) refl e
    where
      ranked : (g : GroupRecord) → group_of s j.1 ≡ Some g → (b : Bool) → (g.priority == j.0.0) ≡ b → cond b (offer_in s g) None ≡ Some o
          → (h : GroupRecord) × (Among h s.groups × ((has_both s h ≡ true) × ◌≡◌ {A = OfferKey} (offer_key h) j))
      ranked g q true p e = (
        g,
        (
          group_among s j.1 g q,
          (
            both_there g.device (first_waiting s g.device) (first_eligible s g.device) o e,
            the_key j g.priority g.device (eqb-true g.priority j.0.0 p) (group_key s j.1 g q),
          ),
        ),
      )
      ranked g q false p e = absurd (cc (e))

      by : (f : Option GroupRecord) → group_of s j.1 ≡ f → option_and_then (if_ranked s j.0.0) f ≡ Some o
          → (h : GroupRecord) × (Among h s.groups × ((has_both s h ≡ true) × ◌≡◌ {A = OfferKey} (offer_key h) j))
      by None q e = absurd (cc (e))
      by (Some g) q e = ranked g q (g.priority == j.0.0) refl e

  -- and at the key of a group the offer of that group
  offer_at_key : (g : GroupRecord) → Among g s.groups → offer_by_key s (offer_key g) ≡ offer_in s g
  offer_at_key g a = ap (option_and_then (if_ranked s g.priority)) (group_found s ascending g a) ∙ rw (eq-eqb g.priority g.priority refl) refl

  has_offer : (g : GroupRecord) → has_both s g ≡ true → (o : Offer) × (offer_in s g ≡ Some o)
  has_offer g e =
      let p = parts g.device (first_waiting s g.device) (first_eligible s g.device) e in
      (record { group = g.device; call = p.0.1; agent = p.1.0.1 }, ap₂ (offer_by g.device) p.1.1.0 p.1.1.1)

  first_of : IsFirst offer_cmp key_total key_exact (offer_by_key s) (offer_of s)
  unfolding offer_of
  first_of = by (foremost None (filter (has_both s) s.groups)) refl
    where
      by : (f : Option GroupRecord) → foremost None (filter (has_both s) s.groups) ≡ f
          → IsFirst offer_cmp key_total key_exact (offer_by_key s) (option_and_then (offer_in s) f)
      by None e = λ j. none_from (offer_by_key s j) (λ o k.
          let q = at_key j o k in
          subst (λ l. Among q.0 l) (none_foremost (filter (has_both s) s.groups) e) (among-filter (has_both s) s.groups q.0 q.1.0 q.1.1.0))
      by (Some g) e =
          let f = foremost_is (filter (has_both s) s.groups) g e in
          let there = filter_among (has_both s) s.groups g f.there in
          let o = has_offer g there.1 in
          subst (IsFirst offer_cmp key_total key_exact (offer_by_key s)) (sym o.1) (
            offer_key g,
            offer_at_key g there.0 ∙ o.1,
            λ j l. none_from (offer_by_key s j) (λ x k.
                let q = at_key j x k in
                before_is q.0 g (f.first q.0 (among-filter (has_both s) s.groups q.0 q.1.0 q.1.1.0)) (ap (λ z. offer_cmp z (offer_key g)) q.1.1.1 ∙ l)),
          )

module _ (s : Rows) (x : Indexes) (h : IsIndexed s x) where
  -- a group that has both is indexed
  listed : (g : GroupRecord) → Among g s.groups → has_both s g ≡ true → contains offer_cmp x.offering (offer_key g) ≡ true
  unfolding first_waiting first_eligible
  listed g a e =
      let p = parts g.device (first_waiting s g.device) (first_eligible s g.device) e in
      h.offers g.device g p.0 p.1.0 (group_found s h.groups g a)
      (h.waiting g.device p.0 ∙ (waiting-among s g.device p.0 h.connections).1 (least_is _ p.0 p.1.1.0).there)
      (h.able g.device p.1.0 ∙ (eligible-among s g.device p.1.0 h.agents).1 (least_is _ p.1.0 p.1.1.1).there)

  pub first-offer : IsStrictlySortedBy offer_cmp x.offering.keys → first_given (offer_by_key s) x.offering.keys ≡ offer_of s
  first-offer sorted = one_first offer_cmp key_total key_exact (offer_by_key s) _ _
      (first_sorted offer_cmp key_total key_exact (offer_by_key s) x.offering.keys sorted (λ j o e.
      let q = at_key s h.groups j o e in
      subst (λ z. Among z x.offering.keys) q.1.1.1
      (contained offer_cmp (λ j k e. key_exact j k (eq_is (offer_cmp j k) e)) x.offering (offer_key q.0) (listed q.0 q.1.0 q.1.1.0))))
      (first_of s h.groups)
