-- Of each event there is a candidate that no literal of the filters tells from it
use Rattle.std.proofs.Common.{◌≡◌, ℕ, ◌<◌, Bool, true, false, List, [], ◌∷◌, ◌++◌, length, map, Option, Some, None, refl, sym, ap, ◌∙◌, subst, ◌⊎◌, inl, inr, arith, cond, append_assoc, append-nil}
use Rattle.std.specs.Prelude.{bytes_eq}
use Rattle.std.specs.List.{AllByRecursion}
use Rattle.std.specs.Ordering.{nat_cmp}
use Rattle.std.specs.Cmp.Lexicographic.{slice_cmp, bytes_decides}
use Rattle.std.proofs.lemmas.Bool.{false≢true, cases_Bool, false_from_ne_true, leb-false}
use Rattle.gr_event.specs.declared.event.Event.{Event}
use Rattle.gr_event.specs.declared.value.Value.{Value}
use Rattle.gr_event.specs.Get.{value_of}
use Rattle.gr_event.specs.Limits.{IsPair, IsValue}
use Rattle.gr_cover.specs.declared.mention.Mention.{Mention}
use Rattle.gr_cover.specs.Candidates.{attribute, is_short, short_names, names_of, attributes, events_from, candidates}
use Rattle.gr_cover.proofs.Agreeing.{Agrees, Alike}
use Rattle.gr_cover.proofs.Rising.{Stands, left_stands, right_stands, each_stands, texts_exact}
use Rattle.gr_cover.proofs.Searching.{events_with}
use Rattle.gr_cover.proofs.Telling.{Told, told, flat_stands, some_is}

-- an event of the names that no literal of theirs tells from e
pub record Chosen (ms : List Mention) (e : Event) (ns : List (List ℕ)) : Type 0 where
  pub event : Event
  pub stands : (ps : Event) → Stands (ps ++ event) (events_from ps (map (attribute ms) ns))
  pub none : (n : List ℕ) → value_of n e ≡ None → value_of n event ≡ None
  pub agrees : (n : List ℕ) → Stands n ns → (m : Mention) → Stands m ms → bytes_eq m.name n ≡ true → Agrees m.literal (value_of n e) (value_of n event)

none_agrees : (l : Option Value) → Agrees l None None
none_agrees l = record { alone = refl; absent = refl; left = λ s. refl; right = λ s. refl }

-- the same of equal values
agrees_at : (l v w x y : Option Value) → v ≡ x → w ≡ y → Agrees l x y → Agrees l v w
agrees_at l v w x y p q h = subst (λ z. Agrees l z w) (sym p) (subst (λ z. Agrees l x z) (sym q) h)

both_absent : (l v w : Option Value) → v ≡ None → w ≡ None → Agrees l v w
both_absent l v w p q = agrees_at l v w None None p q (none_agrees l)

some_not_none : {X : Type 0} (x : X) → Some x ≡ None → ⊥
some_not_none x h = cc

-- a name that the event does not have stays absent
leave : (ms : List Mention) (e : Event) (n : List ℕ) (ns : List (List ℕ)) → value_of n e ≡ None → Chosen ms e ns → Chosen ms e (n ∷ ns)
leave ms e n ns q c = record {
  event = c.event;
  stands = λ ps. left_stands (ps ++ c.event) (events_from ps (map (attribute ms) ns)) (events_with ps n (map (attribute ms) ns) (attribute ms n).values) (c.stands ps);
  none = c.none;
  agrees = λ k s m sm em. elim s [
    | inl p ↦ let z : value_of k e ≡ None = ap (λ x. value_of x e) p ∙ q in both_absent m.literal (value_of k e) (value_of k c.event) z (c.none k z)
    | inr t ↦ c.agrees k t m sm em
  ];
}

-- a name that it has gets the candidate of its value
with_value : (ms : List Mention) (e : Event) (n : List ℕ) (ns : List (List ℕ)) (v : Value) → value_of n e ≡ Some v → Told ms n v → Chosen ms e ns → Chosen ms e (n ∷ ns)
with_value ms e n ns v q t c = record {
  event = (n, t.value) ∷ c.event;
  stands = λ ps. right_stands (ps ++ (n, t.value) ∷ c.event) (events_from ps (map (attribute ms) ns)) (events_with ps n (map (attribute ms) ns) (attribute ms n).values)
      (flat_stands (λ w. events_from (ps ++ (n, w) ∷ []) (map (attribute ms) ns)) t.value (ps ++ (n, t.value) ∷ c.event) (attribute ms n).values t.stands
      (subst (λ z. Stands z (events_from (ps ++ (n, t.value) ∷ []) (map (attribute ms) ns))) (append_assoc ps ((n, t.value) ∷ []) c.event) (c.stands (ps ++ (n, t.value) ∷ []))));
  none = λ k z. here k false (other k z) ∙ c.none k z;
  agrees = λ k s m sm em. elim (cases_Bool (bytes_eq n k)) [
    | inl b ↦ let p = (bytes_decides n k).0 b in
        agrees_at m.literal (value_of k e) (value_of k ((n, t.value) ∷ c.event)) (Some v) (Some t.value) (ap (λ x. value_of x e) (sym p) ∙ q) (here k true b) (t.agrees m sm (subst (λ x. bytes_eq m.name x ≡ true) (sym p) em))
    | inr b ↦ agrees_at m.literal (value_of k e) (value_of k ((n, t.value) ∷ c.event)) (value_of k e) (value_of k c.event) refl (here k false b) (c.agrees k (later k b s) m sm em)
  ];
}
  where
    here : (k : List ℕ) (b : Bool) → bytes_eq n k ≡ b → value_of k ((n, t.value) ∷ c.event) ≡ cond b (Some t.value) (value_of k c.event)
    here k b h = ap (λ (x : Bool). cond x (Some t.value) (value_of k c.event)) h

    other : (k : List ℕ) → value_of k e ≡ None → bytes_eq n k ≡ false
    other k z = false_from_ne_true (bytes_eq n k) (λ b. some_not_none v (sym q ∙ (ap (λ x. value_of x e) ((bytes_decides n k).0 b) ∙ z)))

    later : (k : List ℕ) → bytes_eq n k ≡ false → (k ≡ n) ⊎ Stands k ns → Stands k ns
    later k b (inl p) = absurd (false≢true (sym b ∙ (bytes_decides n k).1 (sym p)))
    later k b (inr s) = s

-- a value of an event is a value
value_valid : (e : Event) (n : List ℕ) (v : Value) → AllByRecursion IsPair e → value_of n e ≡ Some v → IsValue v
value_valid [] n v is h = absurd (some_not_none v (sym h))
value_valid (p ∷ ps) n v is h = go (bytes_eq p.0 n) h (value_valid ps n v is.1)
  where
    go : (b : Bool) → cond b (Some p.1) (value_of n ps) ≡ Some v → (value_of n ps ≡ Some v → IsValue v) → IsValue v
    go true g later = subst IsValue (some_is p.1 v g) is.0.1
    go false g later = later g

-- a candidate for each event
choose : (ms : List Mention) (e : Event) (ns : List (List ℕ)) → AllByRecursion IsPair e → AllByRecursion (λ n. (attribute ms n).has_spare ≡ true) ns → Chosen ms e ns
choose ms e [] is has = record { event = []; stands = λ ps. inl (append-nil ps); none = λ n q. refl; agrees = λ n s. absurd s }
choose ms e (n ∷ ns) is has = go (value_of n e) refl (choose ms e ns is has.1)
  where
    go : (o : Option Value) → value_of n e ≡ o → Chosen ms e ns → Chosen ms e (n ∷ ns)
    go None q c = leave ms e n ns q c
    go (Some v) q c = with_value ms e n ns v q (told ms n v (value_valid e n v is q) has.0) c

-- a longer name is absent
no_long : (e : Event) (n : List ℕ) → AllByRecursion IsPair e → 64 < length n → value_of n e ≡ None
no_long [] n is l = refl
no_long (p ∷ ps) n is l = go (bytes_eq p.0 n) refl (no_long ps n is.1 l)
  where
    long : p.0 ≡ n → ⊥
    long q = let s = is.0.0.1 in let k : length p.0 ≡ length n = ap length q in omega (arith, s, k, l)

    go : (b : Bool) → bytes_eq p.0 n ≡ b → value_of n ps ≡ None → cond b (Some p.1) (value_of n ps) ≡ None
    go true h k = absurd (long ((bytes_decides p.0 n).0 h))
    go false h k = k

all_from : {X : Type 0} (P : X → Type 0) (xs : List X) → ((x : X) → Stands x xs → P x) → AllByRecursion P xs
all_from P [] h = tt
all_from P (x ∷ xs) h = (h x (inl refl), all_from P xs (λ y s. h y (inr s)))

short_stands : (ms : List Mention) (m : Mention) → Stands m ms → is_short m.name ≡ true → Stands m.name (short_names ms)
short_stands [] m s h = absurd s
short_stands (k ∷ ks) m s h = go (is_short k.name) refl s (short_stands ks m)
  where
    go : (b : Bool) → is_short k.name ≡ b → (m ≡ k) ⊎ Stands m ks → (Stands m ks → is_short m.name ≡ true → Stands m.name (short_names ks)) → Stands m.name (cond b (k.name ∷ short_names ks) (short_names ks))
    go true e (inl p) later = inl (ap (λ (x : Mention). x.name) p)
    go true e (inr t) later = inr (later t h)
    go false e (inl p) later = absurd (false≢true (sym e ∙ (ap (λ (x : Mention). is_short x.name) (sym p) ∙ h)))
    go false e (inr t) later = later t h

-- no literal tells the event from its candidate
alike : (ms : List Mention) (e : Event) (c : Chosen ms e (names_of ms)) → AllByRecursion IsPair e → Alike e c.event ms
alike ms e c is = all_from (λ m. Agrees m.literal (value_of m.name e) (value_of m.name c.event)) ms (λ m s. elim (cases_Bool (is_short m.name)) [
  | inl h ↦ c.agrees m.name (each_stands (slice_cmp nat_cmp) m.name [] (short_names ms) texts_exact (short_stands ms m s h)) m s ((bytes_decides m.name m.name).1 refl)
  | inr h ↦ let z = no_long e m.name is (leb-false (length m.name) 64 h) in both_absent m.literal (value_of m.name e) (value_of m.name c.event) z (c.none m.name z)
])

-- a candidate of the filters that none of their literals tells from e
pub record Candidate (ms : List Mention) (e : Event) : Type 0 where
  pub event : Event
  pub stands : Stands event (candidates (attributes ms))
  pub alike : Alike e event ms

-- each event has one
pub candidate_of : (ms : List Mention) (e : Event) → AllByRecursion IsPair e → AllByRecursion (λ n. (attribute ms n).has_spare ≡ true) (names_of ms) → Candidate ms e
candidate_of ms e is has = let c = choose ms e (names_of ms) is has in record { event = c.event; stands = c.stands []; alike = alike ms e c is }
