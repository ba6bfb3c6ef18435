-- No order goes further than the joint order
use Rattle.std.proofs.Common.{◌≡◌, ◌⊎◌, inl, inr, ℕ, zero, suc, ◌≤◌, ◌<◌, Bool, true, false, List, [], ◌∷◌, ◌++◌, length, get_or, set, Option, Some, None, option_map, refl, sym, ap, ap₂, ◌∙◌, subst, arith, append_assoc, append-nil}
use Rattle.std.specs.Prelude.{nat_eq, if◌then◌else◌, ◌↔◌}
use Rattle.std.proofs.lemmas.Bool.{cases_eq, cases_lt, or_cases, or_left, or_right, true≢false, eq-eqb, ne_eqb}
use Rattle.std.proofs.lemmas.List.{get_or-set_same, get_or-set_other, get_or_past}
use Rattle.std.proofs.lemmas.List.Folds.{list_any-append}
use Rattle.gr_audit.specs.Joint.{Key, same_key, Link, State, has, can_go, head_goes, first_ready, go_by, go_at, joint_end, MayGo, after, total, GoesFurthest, joint_order, AllGone, HasOrder, JointIsExact, begun, lesser_line, next_line, stays, StaysIsExact}

abbrev gives_of : List Link → List Key
gives_of [] = []
gives_of (l ∷ ls) = l.gives ++ gives_of ls

gives-append : (xs ys : List Link) → gives_of (xs ++ ys) ≡ gives_of xs ++ gives_of ys
gives-append [] ys = refl
gives-append (x ∷ xs) ys = ap (λ z. x.gives ++ z) (gives-append xs ys) ∙ sym (append_assoc x.gives (gives_of xs) (gives_of ys))

-- what is in one of two lists
in_left : (xs ys : List Key) (k : Key) → has xs k ≡ true → has (xs ++ ys) k ≡ true
in_left xs ys k h = list_any-append (same_key k) xs ys ∙ or_left (has xs k) (has ys k) h

in_right : (xs ys : List Key) (k : Key) → has ys k ≡ true → has (xs ++ ys) k ≡ true
in_right xs ys k h = list_any-append (same_key k) xs ys ∙ or_right (has xs k) (has ys k) h

in_cases : (xs ys : List Key) (k : Key) → has (xs ++ ys) k ≡ true → (has xs k ≡ true) ⊎ (has ys k ≡ true)
in_cases xs ys k h = or_cases (has xs k) (has ys k) (sym (list_any-append (same_key k) xs ys) ∙ h)

-- ahead, with all that was offered on the way
record Ahead (e s : State) : Type 0 where
  front : ℕ → List Link
  is : (i : ℕ) → get_or s.left i [] ≡ front i ++ get_or e.left i []
  given : (i : ℕ) (k : Key) → has (gives_of (front i)) k ≡ true → has e.offered k ≡ true
  offered : (k : Key) → has s.offered k ≡ true → has e.offered k ≡ true

same : (s : State) → Ahead s s
same s = record { front = λ i. []; is = λ i. refl; given = λ i k h. absurd (true≢false (sym h)); offered = λ k h. h }

trans : (e u s : State) → Ahead e u → Ahead u s → Ahead e s
trans e u s a b = record {
  front = λ i. b.front i ++ a.front i;
  is = λ i. b.is i ∙ (ap (λ z. b.front i ++ z) (a.is i) ∙ sym (append_assoc (b.front i) (a.front i) (get_or e.left i [])));
  given = λ i k h. elim (in_cases (gives_of (b.front i)) (gives_of (a.front i)) k (sym (ap (λ z. has z k) (gives-append (b.front i) (a.front i))) ∙ h)) [
    | inl x ↦ a.offered k (b.given i k x)
    | inr x ↦ a.given i k x
  ];
  offered = λ k h. a.offered k (b.offered k h);
}

-- a journal with a next group is one of them
within : (js : List (List Link)) (i : ℕ) (l : Link) (ls : List Link) → get_or js i [] ≡ l ∷ ls → i < length js
within js i l ls h = elim (cases_lt i (length js)) [
  | inl lt ↦ lt
  | inr ge ↦ absurd (none_some (sym (get_or_past js i [] ge) ∙ h))
]
  where
    none_some : [] ≡ l ∷ ls → ⊥
    none_some e = cc

-- the front of one journal exchanged
abbrev at : ℕ → List Link → (ℕ → List Link) → ℕ → List Link
at i f g q = if nat_eq q i then f else g q

-- a group that goes
went : (s : State) (i : ℕ) (j : List Link) → get_or s.left i [] ≡ j → Ahead (go_by s i j) s
went s i [] h = same s
went s i (l ∷ ls) h = record { front = fronts; is = is; given = given; offered = λ k x. in_right l.gives s.offered k x }
  where
    fronts : ℕ → List Link
    fronts q = if nat_eq q i then l ∷ [] else []

    is : (q : ℕ) → get_or s.left q [] ≡ fronts q ++ get_or (set s.left i ls) q []
    is q = elim (cases_eq q i) [
      | inl e ↦ subst (λ z. get_or s.left z [] ≡ fronts z ++ get_or (set s.left i ls) z []) (sym e)
          (h ∙ sym (ap₂ (λ x y. x ++ y) (ap (λ c. if c then l ∷ [] else []) (eq-eqb i i refl)) (get_or-set_same s.left i ls [] (within s.left i l ls h))))
      | inr n ↦ sym (ap₂ (λ x y. x ++ y) (ap (λ c. if c then l ∷ [] else []) (ne_eqb q i n)) (get_or-set_other s.left i q ls [] n))
    ]

    given : (q : ℕ) (k : Key) → has (gives_of (fronts q)) k ≡ true → has (l.gives ++ s.offered) k ≡ true
    given q k x = go (nat_eq q i) x
      where
        go : (c : Bool) → has (gives_of (if c then l ∷ [] else [])) k ≡ true → has (l.gives ++ s.offered) k ≡ true
        go true y = in_left l.gives s.offered k (sym (ap (λ z. has z k) (append-nil l.gives)) ∙ y)
        go false y = absurd (true≢false (sym y))

-- The joint order's end

abbrev next_end : ℕ → State → Option ℕ → State
next_end fuel s o = elim o [ None ↦ s | Some i ↦ joint_end fuel (go_at s i) ]

on_by : (fuel : ℕ) (s : State) (o : Option ℕ) → ((u : State) → Ahead (joint_end fuel u) u) → Ahead (next_end fuel s o) s
on_by fuel s None more = same s
on_by fuel s (Some i) more = trans (joint_end fuel (go_at s i)) (go_at s i) s (more (go_at s i)) (went s i (get_or s.left i []) refl)

-- the joint order only goes on
goes_on : (fuel : ℕ) (s : State) → Ahead (joint_end fuel s) s
unfolding joint_end
goes_on zero s = same s
goes_on (suc fuel) s = on_by fuel s (first_ready s.offered s.left) (goes_on fuel)

-- nothing can go
abbrev IsStuck : State → Type 0
IsStuck s = (i : ℕ) → head_goes s.offered (get_or s.left i []) ≡ false

none_rest : (o : Option ℕ) → option_map (λ n. suc n) o ≡ None → o ≡ None
none_rest None k = refl
none_rest (Some n) k = absurd (cc)

none_by : (offered : List Key) (j : List Link) (js : List (List Link)) (c : Bool) → head_goes offered j ≡ c → (if c then Some 0 else option_map (λ n. suc n) (first_ready offered js)) ≡ None
    → (first_ready offered js ≡ None → (i : ℕ) → head_goes offered (get_or js i []) ≡ false) → (i : ℕ) → head_goes offered (get_or (j ∷ js) i []) ≡ false
none_by offered j js true h k more i = absurd (cc)
none_by offered j js false h k more zero = h
none_by offered j js false h k more (suc n) = more (none_rest (first_ready offered js) k) n

none_ready : (offered : List Key) (js : List (List Link)) → first_ready offered js ≡ None → (i : ℕ) → head_goes offered (get_or js i []) ≡ false
none_ready offered [] e i = refl
none_ready offered (j ∷ js) e i = none_by offered j js (head_goes offered j) refl e (none_ready offered js) i

-- a journal that is ready has a next group
ready_rest : (offered : List Key) (j : List Link) (js : List (List Link)) (i : ℕ) (o : Option ℕ) → first_ready offered js ≡ o → option_map (λ n. suc n) o ≡ Some i
    → ((n : ℕ) → first_ready offered js ≡ Some n → head_goes offered (get_or js n []) ≡ true) → head_goes offered (get_or (j ∷ js) i []) ≡ true
ready_rest offered j js i None h k more = absurd (cc)
ready_rest offered j js i (Some n) h k more = let same : suc n ≡ i = cc in subst (λ z. head_goes offered (get_or (j ∷ js) z []) ≡ true) same (more n h)

ready_by : (offered : List Key) (j : List Link) (js : List (List Link)) (i : ℕ) (c : Bool) → head_goes offered j ≡ c → (if c then Some 0 else option_map (λ n. suc n) (first_ready offered js)) ≡ Some i
    → ((n : ℕ) → first_ready offered js ≡ Some n → head_goes offered (get_or js n []) ≡ true) → head_goes offered (get_or (j ∷ js) i []) ≡ true
ready_by offered j js i true h k more = let same : 0 ≡ i = cc in subst (λ z. head_goes offered (get_or (j ∷ js) z []) ≡ true) same h
ready_by offered j js i false h k more = ready_rest offered j js i (first_ready offered js) refl k more

pub ready_is : (offered : List Key) (js : List (List Link)) (i : ℕ) → first_ready offered js ≡ Some i → head_goes offered (get_or js i []) ≡ true
ready_is offered [] i e = absurd (cc)
ready_is offered (j ∷ js) i e = ready_by offered j js i (head_goes offered j) refl e (ready_is offered js)

-- each turn lessens what is left
pub lessens : (js : List (List Link)) (i : ℕ) (l : Link) (ls : List Link) → get_or js i [] ≡ l ∷ ls → suc (total (set js i ls)) ≡ total js
lessens [] i l ls h = absurd (cc)
lessens (j ∷ js) zero l ls h = let e : j ≡ l ∷ ls = h in let long : length j ≡ suc (length ls) = ap (λ (z : List Link). length z) e in omega (arith, long)
lessens (j ∷ js) (suc i) l ls h = let more = lessens js i l ls h in omega (arith, more)

none_left : (s : State) (i : ℕ) (j : List Link) → total s.left ≤ 0 → get_or s.left i [] ≡ j → head_goes s.offered j ≡ false
none_left s i [] few h = refl
none_left s i (l ∷ ls) few h = let more = lessens s.left i l ls h in absurd (omega (arith, more, few))

stuck_turn : (fuel : ℕ) (s : State) (i k : ℕ) (j : List Link) → total s.left ≤ suc fuel → get_or s.left k [] ≡ j → head_goes s.offered j ≡ true → ((u : State) → total u.left ≤ fuel → IsStuck (joint_end fuel u))
    → (let e = joint_end fuel (go_by s k j) in head_goes e.offered (get_or e.left i []) ≡ false)
stuck_turn fuel s i k [] few h x more = absurd (true≢false (sym x))
stuck_turn fuel s i k (l ∷ ls) few h x more = let less = lessens s.left k l ls h in more (go_by s k (l ∷ ls)) (omega (arith, less, few)) i

stuck_by : (fuel : ℕ) (s : State) (i : ℕ) (o : Option ℕ) → total s.left ≤ suc fuel → first_ready s.offered s.left ≡ o → ((u : State) → total u.left ≤ fuel → IsStuck (joint_end fuel u))
    → (let e = next_end fuel s o in head_goes e.offered (get_or e.left i []) ≡ false)
stuck_by fuel s i None few h more = none_ready s.offered s.left h i
stuck_by fuel s i (Some k) few h more = stuck_turn fuel s i k (get_or s.left k []) few refl (ready_is s.offered s.left k h) more

stuck_end : (fuel : ℕ) (s : State) → total s.left ≤ fuel → IsStuck (joint_end fuel s)
unfolding joint_end
stuck_end zero s few i = none_left s i (get_or s.left i []) few refl
stuck_end (suc fuel) s few i = stuck_by fuel s i (first_ready s.offered s.left) few refl (stuck_end fuel)

-- Any order

-- what can go where less was offered can go where more was
still_goes : (xs ys : List Key) (l : Link) → ((k : Key) → has xs k ≡ true → has ys k ≡ true) → can_go xs l ≡ true → can_go ys l ≡ true
still_goes xs ys l more h = go l.needs h
  where
    go : (o : Option Key) → (elim o [ None ↦ true | Some k ↦ has xs k ]) ≡ true → (elim o [ None ↦ true | Some k ↦ has ys k ]) ≡ true
    go None x = refl
    go (Some k) x = more k x

tails : (x y : Link) (xs ys : List Link) → x ∷ xs ≡ y ∷ ys → xs ≡ ys
tails x y xs ys e = cc

heads : (x y : Link) (xs ys : List Link) → x ∷ xs ≡ y ∷ ys → x ≡ y
heads x y xs ys e = cc

-- of a group that goes in the other order, which had gone in the first
turned : (e s : State) (i : ℕ) (j f : List Link) (a : Ahead e s) → IsStuck e → get_or s.left i [] ≡ j → a.front i ≡ f → head_goes s.offered j ≡ true → Ahead e (go_by s i j)
turned e s i [] f a stuck h k x = absurd (true≢false (sym x))
turned e s i (l ∷ ls) [] a stuck h k x = absurd (true≢false (sym (still_goes s.offered e.offered l a.offered x) ∙ (ap (head_goes e.offered) there ∙ stuck i)))
  where
    there : l ∷ ls ≡ get_or e.left i []
    there = sym h ∙ (a.is i ∙ ap (λ z. z ++ get_or e.left i []) k)
turned e s i (l ∷ ls) (m ∷ f) a stuck h k x = record { front = fronts; is = is; given = given; offered = offered }
  where
    whole : l ∷ ls ≡ m ∷ (f ++ get_or e.left i [])
    whole = sym h ∙ (a.is i ∙ ap (λ z. z ++ get_or e.left i []) k)

    rest : ls ≡ f ++ get_or e.left i []
    rest = tails l m ls (f ++ get_or e.left i []) whole

    first : l ≡ m
    first = heads l m ls (f ++ get_or e.left i []) whole

    fronts : ℕ → List Link
    fronts q = if nat_eq q i then f else a.front q

    is : (q : ℕ) → get_or (set s.left i ls) q [] ≡ fronts q ++ get_or e.left q []
    is q = elim (cases_eq q i) [
      | inl y ↦ subst (λ z. get_or (set s.left i ls) z [] ≡ fronts z ++ get_or e.left z []) (sym y)
          (get_or-set_same s.left i ls [] (within s.left i l ls h) ∙ (rest ∙ sym (ap (λ c. (if c then f else a.front i) ++ get_or e.left i []) (eq-eqb i i refl))))
      | inr n ↦ get_or-set_other s.left i q ls [] n ∙ (a.is q ∙ sym (ap (λ c. (if c then f else a.front q) ++ get_or e.left q []) (ne_eqb q i n)))
    ]

    given : (q : ℕ) (k : Key) → has (gives_of (fronts q)) k ≡ true → has e.offered k ≡ true
    given q n y = elim (cases_eq q i) [
      | inl z ↦ a.given i n (ap (λ w. has (gives_of w) n) k ∙ in_right m.gives (gives_of f) n (sym (ap (λ c. has (gives_of (if c then f else a.front q)) n) (ap (λ w. nat_eq w i) z ∙ eq-eqb i i refl)) ∙ y))
      | inr z ↦ a.given q n (sym (ap (λ c. has (gives_of (if c then f else a.front q)) n) (ne_eqb q i z)) ∙ y)
    ]

    offered : (n : Key) → has (l.gives ++ s.offered) n ≡ true → has e.offered n ≡ true
    offered n y = elim (in_cases l.gives s.offered n y) [
      | inl z ↦ a.given i n (ap (λ w. has (gives_of w) n) k ∙ in_left m.gives (gives_of f) n (sym (ap (λ (w : Link). has w.gives n) first) ∙ z))
      | inr z ↦ a.offered n z
    ]

ahead_of : (e s : State) (order : List ℕ) → IsStuck e → Ahead e s → MayGo s order → Ahead e (after s order)
ahead_of e s [] stuck a may = a
ahead_of e s (i ∷ order) stuck a may = ahead_of e (go_at s i) order stuck (turned e s i (get_or s.left i []) (a.front i) a stuck refl refl may.0) may.1

pub furthest : GoesFurthest
furthest fuel s order few may =
    let a = ahead_of (joint_end fuel s) s order (stuck_end fuel s few) (goes_on fuel s) may in
    record { front = a.front; is = a.is }

-- The joint order is one of them

abbrev next_order : ℕ → State → Option ℕ → List ℕ
next_order fuel s o = elim o [ None ↦ [] | Some i ↦ i ∷ joint_order fuel (go_at s i) ]

record Goes (fuel : ℕ) (s : State) (order : List ℕ) (e : State) : Type 0 where
  may : MayGo s order
  ends : after s order ≡ e

goes_by : (fuel : ℕ) (s : State) (o : Option ℕ) → first_ready s.offered s.left ≡ o → ((u : State) → Goes fuel u (joint_order fuel u) (joint_end fuel u)) → Goes fuel s (next_order fuel s o) (next_end fuel s o)
goes_by fuel s None h more = record { may = tt; ends = refl }
goes_by fuel s (Some i) h more = let m = more (go_at s i) in record { may = (ready_is s.offered s.left i h, m.may); ends = m.ends }

goes : (fuel : ℕ) (s : State) → Goes fuel s (joint_order fuel s) (joint_end fuel s)
unfolding joint_order joint_end
goes zero s = record { may = tt; ends = refl }
goes (suc fuel) s = let g = goes_by fuel s (first_ready s.offered s.left) refl (goes fuel) in record { may = g.may; ends = g.ends }

none_behind : (xs ys : List Link) → [] ≡ xs ++ ys → ys ≡ []
none_behind [] ys h = sym h
none_behind (x ∷ xs) ys h = absurd (cc)

pub exact : JointIsExact
exact fuel s few = (g.may, g.ends, (there, back))
  where
    g : Goes fuel s (joint_order fuel s) (joint_end fuel s)
    g = goes fuel s

    there : AllGone (joint_end fuel s) → HasOrder s
    there all = record { order = joint_order fuel s; may = g.may; gone = λ i. ap (λ (u : State). get_or u.left i []) g.ends ∙ all i }

    back : HasOrder s → AllGone (joint_end fuel s)
    back o = λ i. let a = furthest fuel s o.order few o.may in none_behind (a.front i) (get_or (joint_end fuel s).left i []) (sym (o.gone i) ∙ a.is i)

-- What stays

some_line : (l : ℕ) (o : Option ℕ) → lesser_line (Some l) o ≡ None → ⊥
some_line l None e = cc
some_line l (Some m) e = cc

none_stays : (js : List (List Link)) → next_line js ≡ None → (i : ℕ) → get_or js i [] ≡ []
none_stays [] e i = refl
none_stays ([] ∷ js) e zero = refl
none_stays ([] ∷ js) e (suc i) = none_stays js e i
none_stays ((l ∷ ls) ∷ js) e i = absurd (some_line l.line (next_line js) e)

all_none : (js : List (List Link)) → ((i : ℕ) → get_or js i [] ≡ []) → next_line js ≡ None
all_none [] h = refl
all_none ([] ∷ js) h = all_none js (λ i. h (suc i))
all_none ((l ∷ ls) ∷ js) h = absurd (some (h 0))
  where
    some : l ∷ ls ≡ [] → ⊥
    some e = cc

pub stays_exact : StaysIsExact
stays_exact journals = (there, back)
  where
    end : State
    end = joint_end (total journals) (begun journals)

    both : AllGone end ↔ HasOrder (begun journals)
    both = (exact (total journals) (begun journals) (omega arith)).2

    there : stays journals ≡ None → HasOrder (begun journals)
    there e = both.0 (none_stays end.left e)

    back : HasOrder (begun journals) → stays journals ≡ None
    back o = all_none end.left (both.1 o)
