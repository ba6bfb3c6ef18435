-- What is true of a tick stays true under later facts, in joins, over edges and where the tick is consolidated
use Rattle.std.proofs.Common.{◌≡◌, inl, inr, ⊎_elim, ℕ, ◌≤◌, Bool, true, false, ◌&&◌, ◌||◌, List, [], ◌∷◌, refl, sym, ap, ◌∙◌, subst, Option, Some, None, le_trans}
use Rattle.std.specs.Prelude.{nat_eq, nat_le}
use Rattle.std.specs.List.{list_any}
use Rattle.std.proofs.lemmas.Bool.{and_parts, cases_Bool, false≢true, eqb-true, eq-eqb, or_cases, or_right, both_ways, leb-true}
use Rattle.gr_event.specs.declared.event.Event.{Event}
use Rattle.gr_know.specs.declared.values.K.{K}
use Rattle.gr_know.specs.declared.values.K.TheVariants.{Q, S, D, F}
use Rattle.gr_curio.specs.declared.values.Q3.{Q3}
use Rattle.gr_curio.specs.declared.values.Q3.TheVariants.{N, C, A}
use Rattle.gr_curio.specs.Values.{Wanted, wanted_at, is_A}
use Rattle.gr_know.specs.Values.{join_K, clash_K}
use Rattle.gr_event.specs.Event.{same_event}
use Rattle.gr_model.specs.Net.{Net, is_host, wanted_below, pass, keeps_horizon, not_empty, is_empty}
use Rattle.gr_model.specs.Broker.{all_A, horizon_if, is_reached, is_consolidated_by}
use Rattle.gr_model_calls.specs.Truth.{Facts, concerns, TrueS, TrueD, TrueF, IsTrueAt, AllWantTruth, IsLater}
use Rattle.gr_model.specs.Tree.{IsPlace}
use Rattle.gr_event.proofs.SameEvent.{event_itself}

-- a test over a list: an element that passes is enough
pub list_any-member : (test : ℕ → Bool) (xs : List ℕ) (s : ℕ) → list_any (λ x. nat_eq x s) xs ≡ true → test s ≡ true → list_any test xs ≡ true
list_any-member test [] s m h = absurd (false≢true m)
list_any-member test (x ∷ xs) s m h =
    elim (cases_Bool (test x)) [
      | inl e ↦ rw e refl
      | inr e ↦ rw e (⊎_elim
          (λ k. absurd (both_ways (test x) e (ap test (eqb-true x s k) ∙ h)))
          (λ k. list_any-member test xs s k h)
          (or_cases (nat_eq x s) (list_any (λ y. nat_eq y s) xs) m))
    ]

-- and one that passes is found
pub list_any-found : (test : ℕ → Bool) (xs : List ℕ) → list_any test xs ≡ true → (s : ℕ) × (list_any (λ x. nat_eq x s) xs ≡ true) × (test s ≡ true)
list_any-found test [] h = absurd (false≢true h)
list_any-found test (x ∷ xs) h =
    elim (cases_Bool (test x)) [
      | inl e ↦ (x, rw (eq-eqb x x refl) refl, e)
      | inr e ↦
          let k = list_any-found test xs (subst (λ b. (b || list_any test xs) ≡ true) e h) in
          (k.0, (elim (cases_Bool (nat_eq x k.0)) as (λ z. (nat_eq x k.0 || list_any (λ y. nat_eq y k.0) xs) ≡ true) [ inl g ↦ rw g refl | inr g ↦ rw g k.1 ]), k.2)
    ]

-- what concerns a subscriber where this event was logged
pub concerns_at : (net : Net) (f : Facts) (p s t : ℕ) (e : Event) → f.said t ≡ Some e → concerns net f p s t ≡ net.wants p s t e
concerns_at net f p s t e h = ap {A = Option Event} (λ o. elim o [ None ↦ false | Some x ↦ net.wants p s t x ]) h

-- a tick where nothing was logged concerns no subscriber
pub concerns_none : (net : Net) (f : Facts) (p s t : ℕ) → f.said t ≡ None → concerns net f p s t ≡ false
concerns_none net f p s t h = ap {A = Option Event} (λ o. elim o [ None ↦ false | Some x ↦ net.wants p s t x ]) h

concerns_later : (net : Net) (f g : Facts) (p s t : ℕ) → IsLater f g → t ≤ f.settled → concerns net g p s t ≡ concerns net f p s t
concerns_later net f g p s t l h = ap {A = Option Event} (λ o. elim o [ None ↦ false | Some x ↦ net.wants p s t x ]) (l.said t h)

-- a final tick stays truly final as more is logged and subscribers come on
pub TrueF-later : (net : Net) (f g : Facts) (p b t : ℕ) → IsLater f g → TrueF net f p b t → TrueF net g p b t
TrueF-later net f g p b t l h = record {
  settled = le_trans h.settled l.settled;
  told = λ s m c. le_trans (h.told s m (sym (concerns_later net f g p s t l h.settled) ∙ c)) (l.reached s);
}

-- what was true stays true
pub IsTrueAt-later : (net : Net) (f g : Facts) (p b t : ℕ) (k : K) → IsLater f g → IsTrueAt net f p b t k → IsTrueAt net g p b t k
IsTrueAt-later net f g p b t Q l h = tt
IsTrueAt-later net f g p b t S l h = record {
  settled = le_trans h.settled l.settled;
  none = λ s m. concerns_later net f g p s t l h.settled ∙ h.none s m;
  silent = λ q. l.said t h.settled ∙ h.silent q;
}
IsTrueAt-later net f g p b t (D e) l h = record {
  settled = le_trans h.settled l.settled;
  logged = l.said t h.settled ∙ h.logged;
  wanted = h.wanted;
}
IsTrueAt-later net f g p b t F l h = TrueF-later net f g p b t l h

-- silence and an event that is wanted below are not both true
silent_and_said : (net : Net) (f : Facts) (p b t : ℕ) (e : Event) → TrueS net f p b t → TrueD net f p b t e → ⊥
silent_and_said net f p b t e s d =
    elim (cases_Bool (is_host net p b)) [
      | inl h ↦ not_some e (sym (s.silent h) ∙ d.logged)
      | inr h ↦
          let k = list_any-found (λ x. net.wants p x t e) (net.below p b) (d.wanted h) in
          both_ways (concerns net f p k.0 t) (s.none k.0 k.1) (concerns_at net f p k.0 t e d.logged ∙ k.2)
    ]
  where
    not_some : (e : Event) → None ≡ Some e → ⊥
    not_some e h = cc

same_said : (f : Facts) (t : ℕ) (a b : Event) → f.said t ≡ Some a → f.said t ≡ Some b → a ≡ b
same_said f t a b h k = some_equal a b (sym h ∙ k)
  where
    some_equal : (a b : Event) → Some a ≡ Some b → a ≡ b
    some_equal a b e = cc

-- two true values never clash
pub no_clash : (net : Net) (f : Facts) (p b t : ℕ) (k x : K) → IsTrueAt net f p b t k → IsTrueAt net f p b t x → clash_K k x ≡ false
no_clash net f p b t Q x h i = refl
no_clash net f p b t F x h i = refl
no_clash net f p b t S Q h i = refl
no_clash net f p b t S S h i = refl
no_clash net f p b t S F h i = refl
no_clash net f p b t S (D e) h i = absurd (silent_and_said net f p b t e h i)
no_clash net f p b t (D a) Q h i = refl
no_clash net f p b t (D a) F h i = refl
no_clash net f p b t (D a) S h i = absurd (silent_and_said net f p b t a i h)
no_clash net f p b t (D a) (D c) h i = rw (ap (same_event a) (same_said f t c a i.logged h.logged) ∙ event_itself a) refl

-- the join of two true values is one of them, so it is true
pub join_true : (net : Net) (f : Facts) (p b t : ℕ) (k x : K) → IsTrueAt net f p b t k → IsTrueAt net f p b t x → IsTrueAt net f p b t (join_K k x)
join_true net f p b t Q x h i = i
join_true net f p b t F x h i = h
join_true net f p b t S Q h i = h
join_true net f p b t S S h i = h
join_true net f p b t S F h i = i
join_true net f p b t S (D e) h i = absurd (silent_and_said net f p b t e h i)
join_true net f p b t (D a) Q h i = h
join_true net f p b t (D a) F h i = i
join_true net f p b t (D a) S h i = absurd (silent_and_said net f p b t a i h)
join_true net f p b t (D a) (D c) h i = rw (ap (same_event a) (same_said f t c a i.logged h.logged) ∙ event_itself a) h

-- what the edge to a child passes of a true value is true there
pub pass_true : (net : Net) (f : Facts) (p b c t : ℕ) (k : K) → IsPlace net p b → list_any (λ x. nat_eq x c) (net.children p b) ≡ true → IsTrueAt net f p b t k → IsTrueAt net f p c t (pass net p c t k)
pass_true net f p b c t Q place child h = tt
pass_true net f p b c t S place child h = record {
  settled = h.settled;
  none = λ s m. h.none s (place.child_below c s child m);
  silent = λ q. absurd (both_ways (is_host net p c) (place.child_not_host c child) q);
}
pass_true net f p b c t F place child h = record {
  settled = h.settled;
  told = λ s m. h.told s (place.child_below c s child m);
}
pass_true net f p b c t (D e) place child h = go (wanted_below net p c t e) refl
  where
    go : (w : Bool) → wanted_below net p c t e ≡ w → IsTrueAt net f p c t (elim w [ true ↦ D e | false ↦ S ])
    go true q = record { settled = h.settled; logged = h.logged; wanted = λ n. q }
    go false q = record {
      settled = h.settled;
      none = λ s m. elim (cases_Bool (net.wants p s t e)) [
        | inl w ↦ absurd (both_ways (wanted_below net p c t e) q (list_any-member (λ x. net.wants p x t e) (net.below p c) s m w))
        | inr w ↦ concerns_at net f p s t e h.logged ∙ w
      ];
      silent = λ n. absurd (both_ways (is_host net p c) (place.child_not_host c child) n);
    }

-- where each child has an A, each of them has F
all_A-at : (net : Net) (f : Facts) (p : ℕ) (cs : List ℕ) (ws : List Wanted) (t : ℕ) → AllWantTruth net f p cs ws → all_A ws t ≡ true → (c : ℕ) → list_any (λ x. nat_eq x c) cs ≡ true → TrueF net f p c t
all_A-at net f p [] ws t a h c m = absurd (false≢true m)
all_A-at net f p (d ∷ cs) [] t a h c m = absurd a
all_A-at net f p (d ∷ cs) (w ∷ ws) t a h c m =
    let k = and_parts (is_A (wanted_at w t)) (all_A ws t) h in
    ⊎_elim
    (λ e. subst (λ x. TrueF net f p x t) (eqb-true d c e) (a.0.each t (A-at (wanted_at w t) k.0)))
    (λ e. all_A-at net f p cs ws t a.1 k.1 c e)
    (or_cases (nat_eq d c) (list_any (λ x. nat_eq x c) cs) m)
  where
    A-at : (q : Q3) → is_A q ≡ true → q ≡ A
    A-at N h = absurd (false≢true h)
    A-at C h = absurd (false≢true h)
    A-at A h = refl

-- a consolidated tick may be F
pub consolidated_true : (net : Net) (f : Facts) (p b h t : ℕ) (ws : List Wanted) → IsPlace net p b → AllWantTruth net f p (net.children p b) ws → h ≤ f.settled → ((s : ℕ) → list_any (λ x. nat_eq x s) (net.subscribers_at b) ≡ true → h ≤ f.reached s) → is_consolidated_by (keeps_horizon net p b) h ws t ≡ true → TrueF net f p b t
consolidated_true net f p b h t ws place a below here e =
    let k = and_parts (nat_le 1 t && is_reached (horizon_if (keeps_horizon net p b) h) t) (all_A ws t) e in
    let l = (and_parts (nat_le 1 t) (is_reached (horizon_if (keeps_horizon net p b) h) t) k.0).1 in
    record {
      settled = settled_by (net.children p b) ws a k.1 (λ q. le_trans (kept l (no_child q)) below);
      told = λ s m c. elim (cases_Bool (list_any (λ x. nat_eq x s) (net.subscribers_at b))) [
        | inl i ↦ le_trans (kept l (some_here (net.subscribers_at b) s i)) (here s i)
        | inr i ↦ let z = place.split s m i in (all_A-at net f p (net.children p b) ws t a k.1 z.0 z.1).told s z.2 c
      ];
    }
  where
    kept : is_reached (horizon_if (keeps_horizon net p b) h) t ≡ true → keeps_horizon net p b ≡ true → t ≤ h
    kept l q = leb-true t h (ap (λ k. is_reached (horizon_if k h) t) (sym q) ∙ l)

    some_here : (xs : List ℕ) (s : ℕ) → list_any (λ x. nat_eq x s) xs ≡ true → (not_empty xs || is_empty (net.children p b)) ≡ true
    some_here [] s i = absurd (false≢true i)
    some_here (x ∷ xs) s i = refl

    no_child : is_empty (net.children p b) ≡ true → keeps_horizon net p b ≡ true
    no_child q = or_right (not_empty (net.subscribers_at b)) (is_empty (net.children p b)) q

    settled_by : (cs : List ℕ) (ws : List Wanted) → AllWantTruth net f p cs ws → all_A ws t ≡ true → (is_empty cs ≡ true → t ≤ f.settled) → t ≤ f.settled
    settled_by [] ws a e q = q refl
    settled_by (c ∷ cs) ws a e q = (all_A-at net f p (c ∷ cs) ws t a e c (rw (eq-eqb c c refl) refl)).settled
