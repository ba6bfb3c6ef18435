-- What is held shows what all joins do
use Rattle.std.proofs.Common.{◌≡◌, ◌⊎◌, inl, inr, ⊎_elim, ℕ, ◌≤◌, Bool, true, false, ◌&&◌, ◌||◌, [], ◌∷◌, ◌++◌, length, refl, sym, ap, ap₂, ◌∙◌, subst, arith, append-nil, append_assoc, le_refl}
use Rattle.std.specs.Prelude.{nat_eq, nat_lt, if◌then◌else◌}
use Rattle.std.proofs.lemmas.Bool.{and_parts, and_from, ltb-true, ltb-false, le-ltb}
use Rattle.std.proofs.lemmas.List.Folds.{list_any-append}
use Rattle.gr_event.specs.declared.event.Event.{Event}
use Rattle.gr_event.specs.Joins.{Joins, joined_below, longer, NoneBelow}
use Rattle.gr_event.specs.declared.join.Join.{Join}
use Rattle.gr_know.specs.declared.values.K.TheVariants.{D}
use Rattle.gr_know.specs.Values.{Known, known_at}
use Rattle.gr_model.specs.Net.{Net, wants_with, is_late, all_late}
use Rattle.gr_model_calls.specs.Truth.{Holds, HasEvent, Grows}

none_joined : (s t : ℕ) (js : Joins) → NoneBelow t js → joined_below js s t ≡ false
none_joined s t [] n = refl
none_joined s t (j ∷ js) n = ap₂ (λ b c. (nat_eq j.subscriber s && b) || c) (le-ltb j.tick t n.0) (none_joined s t js n.1) ∙ none (nat_eq j.subscriber s)
  where
    none : (b : Bool) → ((b && false) || false) ≡ false
    none true = refl
    none false = refl

-- so at such a tick they show what all do
pub shows : (now js : Joins) (Has : ℕ → Type 0) (s t : ℕ) → Holds now js Has → Has t → joined_below js s t ≡ joined_below now s t
shows now js Has s t h e =
    sym (ap (λ z. joined_below z s t) h.front ∙ (list_any-append (λ j. nat_eq j.subscriber s && nat_lt j.tick t) js h.rest ∙ (ap (λ b. joined_below js s t || b) (none_joined s t h.rest (h.above t e)) ∙ right (joined_below js s t))))
  where
    right : (b : Bool) → (b || false) ≡ b
    right true = refl
    right false = refl

NoneBelow-on : (t : ℕ) (js ks : Joins) → NoneBelow t js → NoneBelow t ks → NoneBelow t (js ++ ks)
NoneBelow-on t [] ks a b = b
NoneBelow-on t (j ∷ js) ks a b = (a.0, NoneBelow-on t js ks a.1 b)

NoneBelow-end : (t : ℕ) (js ks : Joins) → NoneBelow t (js ++ ks) → NoneBelow t ks
NoneBelow-end t [] ks a = a
NoneBelow-end t (j ∷ js) ks a = NoneBelow-end t js ks a.1

pub NoneBelow-lower : (t u : ℕ) (js : Joins) → t ≤ u → NoneBelow u js → NoneBelow t js
NoneBelow-lower t u [] l a = tt
NoneBelow-lower t u (j ∷ js) l a = (omega (arith, l, a.0), NoneBelow-lower t u js l a.1)

-- more joins past what is settled take nothing away, where each event is of a settled tick
pub later : (now js more : Joins) (Has : ℕ → Type 0) (settled : ℕ) → NoneBelow settled more → ((t : ℕ) → Has t → t ≤ settled) → Holds now js Has → Holds (now ++ more) js Has
later now js more Has settled past within h = record {
  rest = h.rest ++ more;
  front = ap (λ (z : Joins). z ++ more) h.front ∙ append_assoc js h.rest more;
  above = λ t e. NoneBelow-on t h.rest more (h.above t e) (NoneBelow-lower t settled more (within t e) past);
}

-- who holds all holds what any event needs
pub own : (now : Joins) (Has : ℕ → Type 0) → Holds now now Has
own now Has = record { rest = []; front = sym (append-nil now); above = λ t e. tt }

-- fewer events need no more
pub fewer : (now js : Joins) (Has Kept : ℕ → Type 0) → ((t : ℕ) → Kept t → Has t) → Holds now js Has → Holds now js Kept
fewer now js Has Kept k h = record { rest = h.rest; front = h.front; above = λ t e. h.above t (k t e) }

abbrev pub IsFront : Joins → Joins → Type 0
IsFront js ks = (rest : Joins) × (ks ≡ js ++ rest)

fronts : (js ks xs ys : Joins) → js ++ xs ≡ ks ++ ys → length js ≤ length ks → (more : Joins) × (ks ≡ js ++ more) × (xs ≡ more ++ ys)
fronts [] ks xs ys e l = (ks, refl, e)
fronts (j ∷ js) [] xs ys e l = absurd (omega arith)
fronts (j ∷ js) (k ∷ ks) xs ys e l =
    let head_same : k ≡ j = cc in
    let rest_same : js ++ xs ≡ ks ++ ys = cc in
    let f = fronts js ks xs ys rest_same (omega arith) in
    (f.0, ap₂ (λ (x : Join) (zs : Joins). x ∷ zs) head_same f.1, f.2)

-- the longer of two held lists holds what both need
pub both : (now js ks : Joins) (Has Came : ℕ → Type 0) → Holds now js Has → Holds now ks Came → Holds now (longer js ks) (λ t. Has t ⊎ Came t)
both now js ks Has Came a b = go (nat_lt (length js) (length ks)) refl
  where
    go : (q : Bool) → nat_lt (length js) (length ks) ≡ q → Holds now (if q then ks else js) (λ t. Has t ⊎ Came t)
    go true e =
        let f = fronts js ks a.rest b.rest (sym a.front ∙ b.front) (omega (arith, ltb-true (length js) (length ks) e)) in
        record { rest = b.rest; front = b.front; above = λ t x. ⊎_elim (λ y. NoneBelow-end t f.0 b.rest (subst (NoneBelow t) f.2 (a.above t y))) (λ y. b.above t y) x }
    go false e =
        let f = fronts ks js b.rest a.rest (sym b.front ∙ a.front) (ltb-false (length js) (length ks) e) in
        record { rest = a.rest; front = a.front; above = λ t x. ⊎_elim (λ y. a.above t y) (λ y. NoneBelow-end t f.0 a.rest (subst (NoneBelow t) f.2 (b.above t y))) x }

-- a held list that has what each of two needs has what both need
pub either : (now js : Joins) (Has Came : ℕ → Type 0) → Holds now js Has → Holds now js Came → Holds now js (λ t. Has t ⊎ Came t)
either now js Has Came a b =
    let f = fronts js js a.rest b.rest (sym a.front ∙ b.front) (le_refl (length js)) in
    record { rest = b.rest; front = b.front; above = λ t x. ⊎_elim (λ y. NoneBelow-end t f.0 b.rest (subst (NoneBelow t) f.2 (a.above t y))) (λ y. b.above t y) x }

-- nothing more was logged
pub grows_not : (js : Joins) (n : ℕ) → Grows js js n
grows_not js n = ([], sym (append-nil js), tt)

-- as more is logged, what is held is as good, where each event is of a settled tick
pub holds_later : (old new js : Joins) (n : ℕ) (Has : ℕ → Type 0) → Grows old new n → ((t : ℕ) → Has t → t ≤ n) → Holds old js Has → Holds new js Has
holds_later old new js n Has g within h = subst (λ z. Holds z js Has) (sym g.1) (later old js g.0 Has n g.2 within h)

pub grows_on : (a b c : Joins) (m n : ℕ) → m ≤ n → Grows a b m → Grows b c n → Grows a c m
grows_on a b c m n l g h = (g.0 ++ h.0, h.1 ∙ (ap (λ (z : Joins). z ++ h.0) g.1 ∙ append_assoc a g.0 h.0), NoneBelow-on m g.0 h.0 g.2 (NoneBelow-lower m n h.0 l h.2))

-- who holds all that was logged holds what any event needs
pub own_by : (now js : Joins) (Has : ℕ → Type 0) → js ≡ now → Holds now js Has
own_by now js Has e = subst (λ z. Holds now z Has) (sym e) (own now Has)

-- of what is known the same is wanted by what is held as by all
pub seen_wants : (net : Net) (now js : Joins) (p s t : ℕ) (e : Event) (know : Known) → Holds now js (HasEvent know) → known_at know t ≡ D e → wants_with net js p s t e ≡ wants_with net now p s t e
seen_wants net now js p s t e know h k = ap (λ b. elim (is_late net s) as (λ _. Bool) [ true ↦ net.wants p s t e && b | false ↦ net.wants p s t e ]) (shows now js (HasEvent know) s t h (e, k))

-- no held list is longer than all joins
pub longer_own : (now js : Joins) (Has : ℕ → Type 0) → Holds now js Has → longer now js ≡ now
longer_own now js Has h = ap (λ q. if q then js else now) (le-ltb (length now) (length js) (subst (λ z. length js ≤ length z) (sym h.front) (long js h.rest)))
  where
    long : (xs ys : Joins) → length xs ≤ length (xs ++ ys)
    long [] ys = omega arith
    long (x ∷ xs) ys = omega (arith, long xs ys)

-- no two held lists split
pub never_split : (now js ks : Joins) (Has Came : ℕ → Type 0) → Holds now js Has → Holds now ks Came → IsFront js ks ⊎ IsFront ks js
never_split now js ks Has Came a b = go (nat_lt (length js) (length ks)) refl
  where
    go : (q : Bool) → nat_lt (length js) (length ks) ≡ q → IsFront js ks ⊎ IsFront ks js
    go true e = let f = fronts js ks a.rest b.rest (sym a.front ∙ b.front) (omega (arith, ltb-true (length js) (length ks) e)) in inl (f.0, f.1)
    go false e = let f = fronts ks js b.rest a.rest (sym b.front ∙ a.front) (ltb-false (length js) (length ks) e) in inr (f.0, f.1)

-- each join of two lists is of a late subscriber; so is each of a front
pub all_late_on : (net : Net) (js ks : Joins) → all_late net js ≡ true → all_late net ks ≡ true → all_late net (js ++ ks) ≡ true
all_late_on net [] ks a b = b
all_late_on net (j ∷ js) ks a b =
    let parts = and_parts (is_late net j.subscriber) (all_late net js) a in
    and_from (is_late net j.subscriber) (all_late net (js ++ ks)) parts.0 (all_late_on net js ks parts.1 b)

all_late_front : (net : Net) (js ks : Joins) → all_late net (js ++ ks) ≡ true → all_late net js ≡ true
all_late_front net [] ks a = refl
all_late_front net (j ∷ js) ks a =
    let parts = and_parts (is_late net j.subscriber) (all_late net (js ++ ks)) a in
    and_from (is_late net j.subscriber) (all_late net js) parts.0 (all_late_front net js ks parts.1)

-- what is held is of late subscribers, where all that was logged is
pub held_late : (net : Net) (now js : Joins) (Has : ℕ → Type 0) → Holds now js Has → all_late net now ≡ true → all_late net js ≡ true
held_late net now js Has h a = all_late_front net js h.rest (ap (all_late net) (sym h.front) ∙ a)

-- the longer of two lists of late subscribers is one
pub longer_late : (net : Net) (js ks : Joins) → all_late net js ≡ true → all_late net ks ≡ true → all_late net (longer js ks) ≡ true
longer_late net js ks a b = go (nat_lt (length js) (length ks))
  where
    go : (q : Bool) → all_late net (if q then ks else js) ≡ true
    go true = b
    go false = a
