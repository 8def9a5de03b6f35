-- The offer that is found: the one that is to be made.
use Rattle.std.proofs.Common.{◌≡◌, ℕ, inl, inr, true, false, ◌&&◌, List, [], ◌∷◌, Some, None, refl, sym, ◌∙◌, ap, ap₂, subst, arith, ◌<◌, Option, zero, suc}
use Rattle.std.specs.Prelude.{is_some, option_and_then, filter}
use Rattle.std.proofs.lemmas.Bool.Decides.{nat_tests}
use Rattle.acd_model.specs.Choice.{waiting_pair, ready_pair, first_waiting, first_eligible, offer_by, offer_in, offer_of, precedes, foremost, has_both}
use Rattle.acd_model.specs.Offers.{HasNoOffer, IsOffer, FindsTheOffer, GroupsAscend}
use Rattle.std.proofs.lemmas.Bool.{false_from_ne_true}
use Rattle.acd_lemmas.proofs.Lists.{some_is, filter_among, among-filter, filter_none}
use Rattle.std.specs.Ordering.{nat_cmp}
use Rattle.std.specs.declared.cmp.Ordering.TheVariants.{Less}
use Rattle.acd_lemmas.proofs.Words.{Rows, GroupRecord, Offer, Among, AllAfter, IsAscending}
use Rattle.acd_model.specs.Distribution.{offers}
use Rattle.acd_lemmas.proofs.Least.{none_of, least_is, least_found, none_mapped, IsForemost, none_foremost, foremost_is}
use Rattle.acd_lemmas.proofs.Numbers.{less_is}

-- a group has both, or no offer

second_none : (w : Option (ℕ × ℕ)) → (is_some w && false) ≡ false
second_none None = refl
second_none (Some w) = refl

not_both : (s : Rows) (g : GroupRecord) → HasNoOffer s g.device → has_both s g ≡ false
unfolding first_waiting first_eligible
not_both s g (inl e) = rw e refl
not_both s g (inr e) = rw e (second_none _)

no_offer_there : (s : Rows) (g : GroupRecord) → has_both s g ≡ false → HasNoOffer s g.device
unfolding first_waiting first_eligible
no_offer_there s g e = by (first_waiting s g.device) (first_eligible s g.device) refl refl e
  where
    by : (w r : Option (ℕ × ℕ)) → first_waiting s g.device ≡ w → first_eligible s g.device ≡ r → (is_some w && is_some r) ≡ false → HasNoOffer s g.device
    by None r q p e = inl (none_mapped waiting_pair _ (none_of _ q))
    by (Some w) None q p e = inr (none_mapped ready_pair _ (none_of _ p))
    by (Some w) (Some r) q p e = absurd (cc (e))

-- none of these groups has both
none_has_both : (s : Rows) (gs : List GroupRecord) → ((g : GroupRecord) → Among g gs → HasNoOffer s g.device) → filter (has_both s) gs ≡ []
none_has_both s gs h = filter_none (has_both s) gs (λ g there. not_both s g (h g there))

-- the offer that is found

found_is : (s : Rows) (o : Offer) → offer_of s ≡ Some o → IsOffer s o
unfolding offer_of first_waiting first_eligible
found_is s o e = by (foremost None (filter (has_both s) s.groups)) refl e
  where
    in_group : (g : GroupRecord) → IsForemost g (filter (has_both s) s.groups) → (w r : Option (ℕ × ℕ)) → first_waiting s g.device ≡ w
        → first_eligible s g.device ≡ r → offer_by g.device w r ≡ Some o → IsOffer s o
    in_group g f None r q p h = absurd (cc (h))
    in_group g f (Some w) None q p h = absurd (cc (h))
    in_group g f (Some w) (Some r) q p h = subst (IsOffer s) (some_is _ o h) (record {
      group = g;
      planned = (filter_among (has_both s) s.groups g f.there).0;
      named = refl;
      place = w.0;
      call = least_is _ w q;
      stamp = r.0;
      agent = least_is _ r p;
      first =
          λ k a before. no_offer_there s k
          (false_from_ne_true (has_both s k) (λ both. let n = f.first k (among-filter (has_both s) s.groups k a both) in cc (n, before)));
    })

    by : (f : Option GroupRecord) → foremost None (filter (has_both s) s.groups) ≡ f → option_and_then (offer_in s) f ≡ Some o → IsOffer s o
    by None q h = absurd (cc (h))
    by (Some g) q h = in_group g (foremost_is (filter (has_both s) s.groups) g q) (first_waiting s g.device) (first_eligible s g.device) refl refl h

abbrev Ascends : List GroupRecord → Type 0
Ascends gs = IsAscending (λ (g h : GroupRecord). nat_cmp g.device h.device) gs

later_device : (g h : GroupRecord) (gs : List GroupRecord) → AllAfter (λ (g h : GroupRecord). nat_cmp g.device h.device) g gs → Among h gs → g.device < h.device
later_device g h [] a b = absurd b
later_device g h (k ∷ gs) a (inl e) = less_is g.device h.device (subst (λ (z : GroupRecord). nat_cmp g.device z.device ≡ Less) (sym e) a.0)
later_device g h (k ∷ gs) a (inr b) = later_device g h gs a.1 b

-- of groups in ascending number two of one number are one
same_group : (g h : GroupRecord) (gs : List GroupRecord) → Ascends gs → Among g gs → Among h gs → g.device ≡ h.device → g ≡ h
same_group g h [] asc a b e = absurd a
same_group g h (k ∷ gs) asc (inl a) (inl b) e = a ∙ sym b
same_group g h (k ∷ gs) asc (inl a) (inr b) e =
    let late = later_device k h gs asc.0 b in let same : g.device ≡ k.device = ap (λ (z : GroupRecord). z.device) a in absurd (omega (arith, late, same, e))
same_group g h (k ∷ gs) asc (inr a) (inl b) e =
    let late = later_device k g gs asc.0 a in let same : h.device ≡ k.device = ap (λ (z : GroupRecord). z.device) b in absurd (omega (arith, late, same, e))
same_group g h (k ∷ gs) asc (inr a) (inr b) e = same_group g h gs asc.1 a b e

-- two groups of which neither precedes the other have one number
same_device : (g h : GroupRecord) → precedes g h ≡ false → precedes h g ≡ false → g.device ≡ h.device
same_device g h e f = grind (arith, nat_tests)

is_found : (s : Rows) (o : Offer) → GroupsAscend s → IsOffer s o → offer_of s ≡ Some o
unfolding offer_of first_waiting first_eligible
is_found s o asc h = by (foremost None (filter (has_both s) s.groups)) refl
  where
    waiting : first_waiting s h.group.device ≡ Some (h.place, o.call)
    waiting = subst (λ d. first_waiting s d ≡ Some (h.place, o.call)) (sym h.named) (least_found _ (h.place, o.call) h.call)

    eligible : first_eligible s h.group.device ≡ Some (h.stamp, o.agent)
    eligible = subst (λ d. first_eligible s d ≡ Some (h.stamp, o.agent)) (sym h.named) (least_found _ (h.stamp, o.agent) h.agent)

    offered : offer_in s h.group ≡ Some o
    offered =
        ap₂ (offer_by h.group.device) waiting eligible ∙ ap (λ (d : ℕ). let p : Offer = record { group = d; call = o.call; agent = o.agent } in Some p) h.named

    listed : Among h.group (filter (has_both s) s.groups)
    listed = among-filter (has_both s) s.groups h.group h.planned (ap₂ (λ (w r : Option (ℕ × ℕ)). is_some w && is_some r) waiting eligible)

    by : (f : Option GroupRecord) → foremost None (filter (has_both s) s.groups) ≡ f → option_and_then (offer_in s) f ≡ Some o
    by None e = absurd (subst (λ l. Among h.group l) (none_foremost (filter (has_both s) s.groups) e) listed)
    by (Some g) e =
        let f = foremost_is (filter (has_both s) s.groups) g e in
        let there = filter_among (has_both s) s.groups g f.there in
        let not_before : precedes g h.group ≡ false =
        false_from_ne_true _ (λ before. let n = not_both s g (h.first g there.0 before) in let y = there.1 in cc (n, y)) in
        let same : g ≡ h.group = same_group g h.group s.groups asc there.0 h.planned (same_device g h.group not_before (f.first h.group listed)) in
        ap (offer_in s) same ∙ offered

pub finds_the_offer : FindsTheOffer
finds_the_offer s o asc = (found_is s o, is_found s o asc)

-- where no offer is found, no group has one
pub nothing_found : (s : Rows) (g : GroupRecord) → offer_of s ≡ None → Among g s.groups → HasNoOffer s g.device
unfolding offer_of
nothing_found s g e a =
    no_offer_there s g
    (false_from_ne_true (has_both s g) (λ both. by (foremost None (filter (has_both s) s.groups)) refl (among-filter (has_both s) s.groups g a both) e))
  where
    has_offer : (k : GroupRecord) (w r : Option (ℕ × ℕ)) → (is_some w && is_some r) ≡ true → offer_by k.device w r ≡ None → ⊥
    has_offer k None r b e = absurd (cc (b))
    has_offer k (Some w) None b e = absurd (cc (b))
    has_offer k (Some w) (Some r) b e = absurd (cc (e))

    by : (f : Option GroupRecord) → foremost None (filter (has_both s) s.groups) ≡ f → Among g (filter (has_both s) s.groups)
        → option_and_then (offer_in s) f ≡ None → ⊥
    by None q listed e = subst (λ l. Among g l) (none_foremost (filter (has_both s) s.groups) q) listed
    by (Some k) q listed e =
        let f = foremost_is (filter (has_both s) s.groups) k q in
        has_offer k (first_waiting s k.device) (first_eligible s k.device) (filter_among (has_both s) s.groups k f.there).1 e

-- and where none has one, none is found, and none made
pub no_offer : (s : Rows) → ((g : GroupRecord) → Among g s.groups → HasNoOffer s g.device) → offer_of s ≡ None
unfolding offer_of
no_offer s h = rw (none_has_both s s.groups h) refl

pub no_offers : (n : ℕ) (s : Rows) (m : ℕ) → offer_of s ≡ None → offers n s m ≡ []
no_offers zero s m e = refl
no_offers (suc n) s m e = rw e refl
