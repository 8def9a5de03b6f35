-- A member in the sets of one group more.
use Rattle.std.proofs.Common.{◌≡◌, ℕ, ◌+◌, ◌≤◌, Bool, true, false, cond, not, ◌&&◌, ◌||◌, List, [], ◌∷◌, ◌++◌, Some, None, length, length-append, drop, suc, append_assoc, add-one, refl, ap, sym, ◌∙◌, arith}
use Rattle.std.specs.Prelude.{◌==◌, filter}
use Rattle.std.specs.List.{list_any}
use Rattle.std.specs.Ordering.{is_eq, nat_cmp}
use Rattle.std.specs.declared.cmp.Ordering.{Ordering}
use Rattle.std.specs.Cmp.{IsTotalOrder}
use Rattle.std.proofs.lemmas.Bool.{and_from, or_left, or_right, eqb-true}
use Rattle.acd_terms.specs.Groups.{is_one_of}
use Rattle.acd_tables.specs.IndexedRows.{PairSets, lists}
use Rattle.std.proofs.lemmas.Cmp.{nat_cmp_total}
use Rattle.std.specs.BTreeMap.{BTreeMap}
use Rattle.std.specs.BTreeSet.{BTreeSet}
use Rattle.acd_tables.specs.Sets.{holds, is_at_key, Sets, Stays}
use Rattle.acd_tables.specs.Swaps.{is_swap_entry, Enters, Leaves, Undoes, KeepsWaiting}
use Rattle.acd_tables.proofs.SetLemmas.{holds-same}
use Rattle.acd_lemmas.proofs.KeyedLists.{eq_key}

pub any_last : {X : Type 0} (p : X → Bool) (xs : List X) (x : X) → list_any p (xs ++ x ∷ []) ≡ (list_any p xs || p x)
any_last p [] x = by (p x)
  where
    by : (b : Bool) → (b || false) ≡ b
    by true = refl
    by false = refl
any_last p (y ∷ xs) x = ap (λ b. p y || b) (any_last p xs x) ∙ by (p y) (list_any p xs) (p x)
  where
    by : (a b c : Bool) → (a || (b || c)) ≡ ((a || b) || c)
    by true b c = refl
    by false b c = refl

left : (a b q h : Bool) → cond (b && q) false (not (a && q) && h) ≡ (not ((a || b) && q) && h)
left true true true h = refl
left true true false h = refl
left true false q h = refl
left false true true h = refl
left false true false h = refl
left false false q h = refl

entered : (a b q h : Bool) → cond (b && q) true ((a && q) || h) ≡ (((a || b) && q) || h)
entered true true true h = refl
entered true true false h = refl
entered true false q h = refl
entered false true true h = refl
entered false true false h = refl
entered false false q h = refl

module _ {E : Type 0} (cmp : E → E → Ordering) where
  entry_last : (gs : List ℕ) (x : ℕ) (k : E) (g : ℕ) (e : E)
      → is_swap_entry cmp (Some (gs ++ x ∷ [], k)) g e ≡ ((list_any (λ h. h == g) gs || (x == g)) && is_eq (cmp k e))
  entry_last gs x k g e = ap (λ b. b && is_eq (cmp k e)) (any_last (λ h. h == g) gs x)

  at_key : (x : ℕ) (k : E) (g : ℕ) (e : E) → is_at_key nat_cmp cmp x k g e ≡ ((x == g) && is_eq (cmp k e))
  at_key x k g e = ap (λ b. b && is_eq (cmp k e)) (eq_key x g)

  pub leaves_more : (old mid new : BTreeMap ℕ (BTreeSet E)) (gs : List ℕ) (x : ℕ) (k : E) → Leaves cmp old mid (Some (gs, k))
      → Sets nat_cmp cmp mid new x k false → Leaves cmp old new (Some (gs ++ x ∷ [], k))
  leaves_more old mid new gs x k l s = record {
    sets = λ g. s.sets g ∙ l.sets g;
    members = λ g e. s.members g e
        ∙ ap (λ b. cond b false (holds nat_cmp cmp mid g e)) (at_key x k g e)
        ∙ ap (λ h. cond ((x == g) && is_eq (cmp k e)) false h) (l.members g e)
        ∙ left (list_any (λ h. h == g) gs) (x == g) (is_eq (cmp k e)) (holds nat_cmp cmp old g e)
        ∙ ap (λ b. not b && holds nat_cmp cmp old g e) (sym (entry_last gs x k g e));
  }

  pub enters_more : (old mid new : BTreeMap ℕ (BTreeSet E)) (gs : List ℕ) (x : ℕ) (k : E) → Enters cmp old mid (Some (gs, k))
      → Sets nat_cmp cmp mid new x k true → Enters cmp old new (Some (gs ++ x ∷ [], k))
  enters_more old mid new gs x k l s = record {
    sets = λ g. s.sets g ∙ l.sets g;
    members = λ g e. s.members g e
        ∙ ap (λ b. cond b true (holds nat_cmp cmp mid g e)) (at_key x k g e)
        ∙ ap (λ h. cond ((x == g) && is_eq (cmp k e)) true h) (l.members g e)
        ∙ entered (list_any (λ h. h == g) gs) (x == g) (is_eq (cmp k e)) (holds nat_cmp cmp old g e)
        ∙ ap (λ b. b || holds nat_cmp cmp old g e) (sym (entry_last gs x k g e));
  }

  -- a member in the set of one group alone
  pub leaves_one : (old new : BTreeMap ℕ (BTreeSet E)) (x : ℕ) (k : E) → Sets nat_cmp cmp old new x k false → Leaves cmp old new (Some (x ∷ [], k))
  leaves_one old new x k s = leaves_more old old new [] x k (record { sets = λ g. refl; members = λ g e. refl }) s

  pub enters_one : (old new : BTreeMap ℕ (BTreeSet E)) (x : ℕ) (k : E) → Sets nat_cmp cmp old new x k true → Enters cmp old new (Some (x ∷ [], k))
  enters_one old new x k s = enters_more old old new [] x k (record { sets = λ g. refl; members = λ g e. refl }) s

  -- where it was new, it is to be removed there too
  pub undoes_more : (old mid new : BTreeMap ℕ (BTreeSet E)) (done : List ℕ) (x : ℕ) (k : E) (is_new : Bool) → IsTotalOrder cmp
      → Undoes cmp old mid (Some (done, k)) → is_new ≡ not (holds nat_cmp cmp mid x k) → Sets nat_cmp cmp mid new x k true
      → Undoes cmp old new (Some (cond is_new (done ++ x ∷ []) done, k))
  undoes_more old mid new done x k is_new total u f s g e =
      u g e ∙ by is_new f (x == g) refl (is_eq (cmp k e)) refl ∙ ap (λ h. not (is_swap_entry cmp (Some (cond is_new (done ++ x ∷ []) done, k)) g e) && h) (sym now)
    where
      a : Bool
      a = list_any (λ h. h == g) done

      now : holds nat_cmp cmp new g e ≡ cond ((x == g) && is_eq (cmp k e)) true (holds nat_cmp cmp mid g e)
      now = s.members g e ∙ ap (λ b. cond b true (holds nat_cmp cmp mid g e)) (at_key x k g e)

      there : (x == g) ≡ true → is_eq (cmp k e) ≡ true → holds nat_cmp cmp mid g e ≡ holds nat_cmp cmp mid x k
      there p q = sym (holds-same nat_cmp cmp nat_cmp_total total mid x k g e (at_key x k g e ∙ and_from (x == g) (is_eq (cmp k e)) p q))

      table_new : (a b q h : Bool) → (b ≡ true → q ≡ true → h ≡ false) → (not (a && q) && h) ≡ (not ((a || b) && q) && cond (b && q) true h)
      table_new true b true h n = refl
      table_new true true false h n = refl
      table_new true false false h n = refl
      table_new false true true h n = n refl refl
      table_new false true false h n = refl
      table_new false false q h n = refl

      table_old : (a b q h : Bool) → (b ≡ true → q ≡ true → h ≡ true) → (not (a && q) && h) ≡ (not (a && q) && cond (b && q) true h)
      table_old a true true h n = ap (λ v. not (a && true) && v) (n refl refl)
      table_old a true false h n = refl
      table_old a false q h n = refl

      by : (w : Bool) → w ≡ not (holds nat_cmp cmp mid x k) → (b : Bool) → (x == g) ≡ b → (q : Bool) → is_eq (cmp k e) ≡ q
          → (not (a && is_eq (cmp k e)) && holds nat_cmp cmp mid g e)
          ≡ (not (is_swap_entry cmp (Some (cond w (done ++ x ∷ []) done, k)) g e) && cond ((x == g) && is_eq (cmp k e)) true (holds nat_cmp cmp mid g e))
      by true w b p q r =
          table_new a (x == g) (is_eq (cmp k e)) (holds nat_cmp cmp mid g e) (λ m n. there m n ∙ flipped (holds nat_cmp cmp mid x k) w)
          ∙ ap (λ v. not v && cond ((x == g) && is_eq (cmp k e)) true (holds nat_cmp cmp mid g e)) (sym (entry_last done x k g e))
        where
          flipped : (h : Bool) → true ≡ not h → h ≡ false
          flipped true n = absurd (cc (n))
          flipped false n = refl
      by false w b p q r = table_old a (x == g) (is_eq (cmp k e)) (holds nat_cmp cmp mid g e) (λ m n. there m n ∙ flipped (holds nat_cmp cmp mid x k) w)
        where
          flipped : (h : Bool) → false ≡ not h → h ≡ true
          flipped true n = refl
          flipped false n = absurd (cc (n))

  pub undoes_one : (old new : BTreeMap ℕ (BTreeSet E)) (x : ℕ) (k : E) (is_new : Bool) → IsTotalOrder cmp → is_new ≡ not (holds nat_cmp cmp old x k)
      → Sets nat_cmp cmp old new x k true
      → Undoes cmp old new (cond is_new (Some (x ∷ [], k)) None)
  undoes_one old new x k is_new total f s = by is_new (undoes_more old old new [] x k is_new total (λ g e. refl) f s)
    where
      by : (w : Bool) → Undoes cmp old new (Some (cond w (x ∷ []) [], k)) → Undoes cmp old new (cond w (Some (x ∷ [], k)) None)
      by true u = u
      by false u = u

  -- a failure that changed nothing, and what had entered removed again
  pub all_undone : (old mid new back : BTreeMap ℕ (BTreeSet E)) (gs done : List ℕ) (k : E) → Enters cmp old mid (Some (gs, k))
      → Undoes cmp old mid (Some (done, k)) → Stays nat_cmp cmp mid new → Leaves cmp new back (Some (done, k))
      → Stays nat_cmp cmp old back
  all_undone old mid new back gs done k n u s l = record {
    sets = λ g. l.sets g ∙ s.sets g ∙ n.sets g;
    members = λ g e. l.members g e ∙ ap (λ h. not (is_swap_entry cmp (Some (done, k)) g e) && h) (s.members g e) ∙ sym (u g e);
  }

pub no_longer : (b : Bool) (x i : ℕ) (old new : List ℕ) → new ≡ cond b (old ++ x ∷ []) old → length old ≤ i → length new ≤ i + 1
no_longer true x i old new e h = let l : length new ≡ length old + 1 = ap length e ∙ length-append old (x ∷ []) in omega (arith, l, h)
no_longer false x i old new e h = let l : length new ≡ length old = ap length e in omega (arith, l, h)

-- where somebody waits is kept
pub waits_more : (queues : PairSets) (before w new : List ℕ) (x : ℕ) (flag : Bool)
    → KeepsWaiting queues (is_one_of before) (is_one_of w) → (flag ≡ false → (p : ℕ × ℕ) → lists queues x p ≡ false)
    → new ≡ cond flag (w ++ x ∷ []) w → KeepsWaiting queues (is_one_of (before ++ x ∷ [])) (is_one_of new)
waits_more queues before w new x flag h none e g p m l =
    ap (λ (gs : List ℕ). is_one_of gs g) e ∙ by flag refl (is_one_of before g) refl
  where
    last : (is_one_of before g || (x == g)) ≡ true
    last = sym (any_last (λ (y : ℕ). y == g) before x) ∙ m

    at : is_one_of before g ≡ false → (x == g) ≡ true
    at f = ap (λ b. b || (x == g)) (sym f) ∙ last

    by : (b : Bool) → flag ≡ b → (c : Bool) → is_one_of before g ≡ c → is_one_of (cond b (w ++ x ∷ []) w) g ≡ true
    by true f true k = any_last (λ (y : ℕ). y == g) w x ∙ or_left (is_one_of w g) (x == g) (h g p k l)
    by true f false k = any_last (λ (y : ℕ). y == g) w x ∙ or_right (is_one_of w g) (x == g) (at k)
    by false f true k = h g p k l
    by false f false k = absurd (let no = none f p in let yes = ap (λ v. lists queues v p) (eqb-true x g (at k)) ∙ l in cc (no, yes))

-- the rest of the groups up to one of them
pub left_more : (gs others left new : List ℕ) (i g : ℕ) (among : Bool) → among ≡ is_one_of others g → drop i gs ≡ g ∷ drop (suc i) gs
    → new ≡ cond (not among) (left ++ g ∷ []) left
    → left ++ filter (λ (x : ℕ). not (is_one_of others x)) (drop i gs) ≡ filter (λ (x : ℕ). not (is_one_of others x)) gs
    → new ++ filter (λ (x : ℕ). not (is_one_of others x)) (drop (i + 1) gs) ≡ filter (λ (x : ℕ). not (is_one_of others x)) gs
left_more gs others left new i g among a d n h =
    ap (λ (k : ℕ). new ++ filter other (drop k gs)) (add-one i)
    ∙ ap (λ (l : List ℕ). l ++ filter other (drop (suc i) gs)) n
    ∙ sym (keep (not among) (filter other (drop (suc i) gs)))
    ∙ ap (λ (b : Bool). left ++ cond (not b) (g ∷ filter other (drop (suc i) gs)) (filter other (drop (suc i) gs))) a
    ∙ ap (λ (l : List ℕ). left ++ filter other l) (sym d)
    ∙ h
  where
    other : ℕ → Bool
    other x = not (is_one_of others x)

    keep : (b : Bool) (rest : List ℕ) → left ++ cond b (g ∷ rest) rest ≡ cond b (left ++ g ∷ []) left ++ rest
    keep true rest = sym (append_assoc left (g ∷ []) rest)
    keep false rest = refl
