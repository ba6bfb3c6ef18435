-- A datagram that is numbered changes no group before it; an arrival adds a group, and an offer belongs to the last one
use Rattle.std.proofs.Common.{◌≡◌, ℕ, zero, suc, ◌+◌, ◌≤◌, ◌<◌, ◌||◌, Bool, true, false, not, List, [], ◌∷◌, ◌++◌, length, map, Option, Some, None, refl, sym, ap, ap₂, ◌∙◌, subst, arith, cond}
use Rattle.std.specs.Prelude.{if◌then◌else◌, OnOk, OnErr, Result, Ok, Err}
use Rattle.std.specs.List.{AllByRecursion}
use Rattle.std.proofs.lemmas.List.{length_push}
use Rattle.gr_audit.specs.declared.mark.Mark.{Mark}
use Rattle.gr_audit.specs.declared.mark.Mark.TheVariants.{Arrives, Offers}
use Rattle.gr_audit.specs.Joint.{Key, same_key, has, Link}
use Rattle.gr_audit.specs.Links.{with_key, key_number, key_at, offers_of, links_in, IsBelow}
use Rattle.gr_audit.specs.Noted.{Noted, noted_in, with_journal, with_arrival, last_gives, with_offer}
use Rattle.gr_audit.proofs.Numbered.{same_is}

-- Datagrams

-- what is known stays, and there may be more
record IsGrown (keys more : List Key) : Type 0 where
  most : length keys ≤ length more
  same : (n : ℕ) → n < length keys → key_at more n ≡ key_at keys n

grown_end : (keys : List Key) (k : Key) (n : ℕ) → n < length keys → key_at (keys ++ k ∷ []) n ≡ key_at keys n
grown_end [] k n lt = absurd (omega (arith, lt))
grown_end (x ∷ keys) k zero lt = refl
grown_end (x ∷ keys) k (suc n) lt = grown_end keys k n (omega (arith, lt))

grown_by : (b : Bool) (keys : List Key) (k : Key) → IsGrown keys (if b then keys else keys ++ k ∷ [])
grown_by true keys k = record { most = omega arith; same = λ n lt. refl }
grown_by false keys k = record { most = let more = length_push keys k in omega (arith, more); same = grown_end keys k }

grown : (keys : List Key) (k : Key) → IsGrown keys (with_key keys k)
grown keys k = grown_by (has keys k) keys k

record IsNumbered (keys : List Key) (k : Key) : Type 0 where
  within : key_number keys k < length (with_key keys k)
  is : key_at (with_key keys k) (key_number keys k) ≡ k

numbered_by : (x k : Key) (keys : List Key) (b : Bool) → same_key k x ≡ b → IsNumbered keys k
    → (cond (not b) (1 + key_number keys k) 0 < length (if (b || has keys k) then x ∷ keys else (x ∷ keys) ++ k ∷ []))
    × (key_at (if (b || has keys k) then x ∷ keys else (x ∷ keys) ++ k ∷ []) (cond (not b) (1 + key_number keys k) 0) ≡ k)
numbered_by x k keys true h more = (omega arith, sym (same_is k x h))
numbered_by x k keys false h more = go (has keys k) more.within more.is
  where
    one : 1 + key_number keys k ≡ suc (key_number keys k)
    one = omega arith

    go : (c : Bool) → key_number keys k < length (if c then keys else keys ++ k ∷ []) → key_at (if c then keys else keys ++ k ∷ []) (key_number keys k) ≡ k
        → (1 + key_number keys k < length (if c then x ∷ keys else (x ∷ keys) ++ k ∷ [])) × (key_at (if c then x ∷ keys else (x ∷ keys) ++ k ∷ []) (1 + key_number keys k) ≡ k)
    go true lt e = (omega (arith, lt), ap (key_at (x ∷ keys)) one ∙ e)
    go false lt e = (omega (arith, lt), ap (key_at ((x ∷ keys) ++ k ∷ [])) one ∙ e)

numbered : (keys : List Key) (k : Key) → IsNumbered keys k
numbered [] k = record { within = omega arith; is = refl }
numbered (x ∷ keys) k = let n = numbered_by x k keys (same_key k x) refl (numbered keys k) in record { within = n.0; is = n.1 }

-- Groups by more datagrams

below_one : (n m : ℕ) → n ≤ m → (mark : Mark) → IsBelow n mark → IsBelow m mark
below_one n m le (Arrives line None) h = h
below_one n m le (Arrives line (Some key)) h = omega (arith, le, h)
below_one n m le (Offers key) h = omega (arith, le, h)

below_all : (n m : ℕ) → n ≤ m → (marks : List Mark) → AllByRecursion (IsBelow n) marks → AllByRecursion (IsBelow m) marks
below_all n m le [] h = tt
below_all n m le (mark ∷ marks) h = (below_one n m le mark h.0, below_all n m le marks h.1)

below_each : (n m : ℕ) → n ≤ m → (js : List (List Mark)) → AllByRecursion (AllByRecursion (IsBelow n)) js → AllByRecursion (AllByRecursion (IsBelow m)) js
below_each n m le [] h = tt
below_each n m le (marks ∷ js) h = (below_all n m le marks h.0, below_each n m le js h.1)

offers_same : (keys more : List Key) → IsGrown keys more → (marks : List Mark) → AllByRecursion (IsBelow (length keys)) marks → offers_of more marks ≡ offers_of keys marks
offers_same keys more g [] h = refl
offers_same keys more g (Arrives line needs ∷ marks) h = refl
offers_same keys more g (Offers key ∷ marks) h = ap₂ (λ x y. x ∷ y) (g.same key h.0) (offers_same keys more g marks h.1)

abbrev link_with : ℕ → Option Key → List Key → Link
link_with line needs gives = record { line = line; needs = needs; gives = gives }

links_same : (keys more : List Key) → IsGrown keys more → (marks : List Mark) → AllByRecursion (IsBelow (length keys)) marks → links_in more marks ≡ links_in keys marks
links_same keys more g [] h = refl
links_same keys more g (Arrives line None ∷ marks) h =
    ap₂ (λ gives ls. link_with line None gives ∷ ls) (offers_same keys more g marks h.1) (links_same keys more g marks h.1)
links_same keys more g (Arrives line (Some key) ∷ marks) h =
    ap (λ k. link_with line (Some k) (offers_of more marks) ∷ links_in more marks) (g.same key h.0)
    ∙ ap₂ (λ gives ls. link_with line (Some (key_at keys key)) gives ∷ ls) (offers_same keys more g marks h.1) (links_same keys more g marks h.1)
links_same keys more g (Offers key ∷ marks) h = links_same keys more g marks h.1

each_same : (keys more : List Key) → IsGrown keys more → (js : List (List Mark)) → AllByRecursion (AllByRecursion (IsBelow (length keys))) js → map (links_in more) js ≡ map (links_in keys) js
each_same keys more g [] h = refl
each_same keys more g (marks ∷ js) h = ap₂ (λ x y. x ∷ y) (links_same keys more g marks h.0) (each_same keys more g js h.1)

-- One mark more

below_end : (n : ℕ) (marks : List Mark) (mark : Mark) → AllByRecursion (IsBelow n) marks → IsBelow n mark → AllByRecursion (IsBelow n) (marks ++ mark ∷ [])
below_end n [] mark h k = (k, tt)
below_end n (m ∷ marks) mark h k = (h.0, below_end n marks mark h.1 k)

abbrev fresh : ℕ → Option Key → Link
fresh line needs = link_with line needs []

abbrev needed : List Key → Option ℕ → Option Key
needed keys None = None
needed keys (Some key) = Some (key_at keys key)

offers_stay : (keys : List Key) (marks : List Mark) (line : ℕ) (needs : Option ℕ) → offers_of keys (marks ++ Arrives line needs ∷ []) ≡ offers_of keys marks
offers_stay keys [] line needs = refl
offers_stay keys (Arrives l n ∷ marks) line needs = refl
offers_stay keys (Offers key ∷ marks) line needs = ap (λ z. key_at keys key ∷ z) (offers_stay keys marks line needs)

abbrev link_of : List Key → ℕ → Option ℕ → List Key → Link
link_of keys line needs gives = link_with line (needed keys needs) gives

link_is : (keys : List Key) (line : ℕ) (needs : Option ℕ) (marks : List Mark) → links_in keys (Arrives line needs ∷ marks) ≡ link_of keys line needs (offers_of keys marks) ∷ links_in keys marks
link_is keys line None marks = refl
link_is keys line (Some key) marks = refl

arrival_end : (keys : List Key) (marks : List Mark) (line : ℕ) (needs : Option ℕ) → links_in keys (marks ++ Arrives line needs ∷ []) ≡ links_in keys marks ++ fresh line (needed keys needs) ∷ []
arrival_end keys [] line needs = link_is keys line needs []
arrival_end keys (Arrives l n ∷ marks) line needs =
    link_is keys l n (marks ++ Arrives line needs ∷ [])
    ∙ (ap₂ (λ gives ls. link_of keys l n gives ∷ ls) (offers_stay keys marks line needs) (arrival_end keys marks line needs)
    ∙ ap (λ ls. ls ++ fresh line (needed keys needs) ∷ []) (sym (link_is keys l n marks)))
arrival_end keys (Offers key ∷ marks) line needs = arrival_end keys marks line needs

-- an offer is one of the front where no group follows, and else changes nothing there
offer_front : (keys : List Key) (marks : List Mark) (key : ℕ) (ls : List Link) → links_in keys marks ≡ ls → ls ≡ [] → offers_of keys (marks ++ Offers key ∷ []) ≡ offers_of keys marks ++ key_at keys key ∷ []
offer_front keys [] key ls e none = refl
offer_front keys (Arrives l n ∷ marks) key ls e none = absurd (some (sym (link_is keys l n marks) ∙ (e ∙ none)))
  where
    some : link_of keys l n (offers_of keys marks) ∷ links_in keys marks ≡ [] → ⊥
    some h = cc
offer_front keys (Offers k ∷ marks) key ls e none = ap (λ z. key_at keys k ∷ z) (offer_front keys marks key ls e none)

offer_stays : (keys : List Key) (marks : List Mark) (key : ℕ) (l : Link) (ls : List Link) → links_in keys marks ≡ l ∷ ls → offers_of keys (marks ++ Offers key ∷ []) ≡ offers_of keys marks
offer_stays keys [] key l ls e = absurd (cc)
offer_stays keys (Arrives line needs ∷ marks) key l ls e = refl
offer_stays keys (Offers k ∷ marks) key l ls e = ap (λ z. key_at keys k ∷ z) (offer_stays keys marks key l ls e)

offer_end : (keys : List Key) (marks : List Mark) (key : ℕ) → links_in keys (marks ++ Offers key ∷ []) ≡ last_gives (links_in keys marks) (key_at keys key)
offer_end keys [] key = refl
offer_end keys (Offers k ∷ marks) key = offer_end keys marks key
offer_end keys (Arrives line needs ∷ marks) key =
    link_is keys line needs (marks ++ Offers key ∷ [])
    ∙ (go (links_in keys marks) refl (offer_end keys marks key) ∙ ap (λ ls. last_gives ls (key_at keys key)) (sym (link_is keys line needs marks)))
  where
    go : (ls : List Link) → links_in keys marks ≡ ls → links_in keys (marks ++ Offers key ∷ []) ≡ last_gives (links_in keys marks) (key_at keys key)
        → link_of keys line needs (offers_of keys (marks ++ Offers key ∷ [])) ∷ links_in keys (marks ++ Offers key ∷ [])
        ≡ last_gives (link_of keys line needs (offers_of keys marks) ∷ links_in keys marks) (key_at keys key)
    go [] e more =
        ap₂ (λ gives xs. link_of keys line needs gives ∷ xs) (offer_front keys marks key [] e refl) (more ∙ ap (λ xs. last_gives xs (key_at keys key)) e)
        ∙ ap (λ xs. last_gives (link_of keys line needs (offers_of keys marks) ∷ xs) (key_at keys key)) (sym e)
    go (l ∷ ls) e more =
        ap₂ (λ gives xs. link_of keys line needs gives ∷ xs) (offer_stays keys marks key l ls e) (more ∙ ap (λ xs. last_gives xs (key_at keys key)) e)
        ∙ ap (λ xs. last_gives (link_of keys line needs (offers_of keys marks) ∷ xs) (key_at keys key)) (sym e)

-- The calls

abbrev pub AreBelow : ℕ → List (List Mark) → List Mark → Type 0
AreBelow n before now = AllByRecursion (AllByRecursion (IsBelow n)) before × AllByRecursion (IsBelow n) now

abbrev noted : List (List Link) → List Link → Noted
noted before now = record { before = before; now = now }

-- with one datagram more
pub known_below : (keys more : List Key) (before : List (List Mark)) (now : List Mark) (k : Key) → AreBelow (length keys) before now → more ≡ with_key keys k → AreBelow (length more) before now
known_below keys more before now k h e =
    let g = grown keys k in
    let le : length keys ≤ length more = subst (λ z. length keys ≤ length z) (sym e) g.most in
    (below_each (length keys) (length more) le before h.0, below_all (length keys) (length more) le now h.1)

pub arrival_below : (n : ℕ) (before : List (List Mark)) (now marks : List Mark) (line : ℕ) → AreBelow n before now → marks ≡ now ++ Arrives line None ∷ [] → AreBelow n before marks
arrival_below n before now marks line h e = (h.0, subst (λ z. AllByRecursion (IsBelow n) z) (sym e) (below_end n now (Arrives line None) h.1 tt))

pub known_arrival_below : (keys more : List Key) (before : List (List Mark)) (now marks : List Mark) (k : Key) (line n : ℕ) → AreBelow (length keys) before now → more ≡ with_key keys k → n ≡ key_number keys k
    → marks ≡ now ++ Arrives line (Some n) ∷ [] → AreBelow (length more) before marks
known_arrival_below keys more before now marks k line n h e is m =
    let b = known_below keys more before now k h e in
    (b.0, subst (λ z. AllByRecursion (IsBelow (length more)) z) (sym m) (below_end (length more) now (Arrives line (Some n)) b.1 (subst (λ z. n < length z) (sym e) (subst (λ z. z < length (with_key keys k)) (sym is) (numbered keys k).within))))

pub known_offer_below : (keys more : List Key) (before : List (List Mark)) (now marks : List Mark) (k : Key) (n : ℕ) → AreBelow (length keys) before now → more ≡ with_key keys k → n ≡ key_number keys k
    → marks ≡ now ++ Offers n ∷ [] → AreBelow (length more) before marks
known_offer_below keys more before now marks k n h e is m =
    let b = known_below keys more before now k h e in
    (b.0, subst (λ z. AllByRecursion (IsBelow (length more)) z) (sym m) (below_end (length more) now (Offers n) b.1 (subst (λ z. n < length z) (sym e) (subst (λ z. z < length (with_key keys k)) (sym is) (numbered keys k).within))))

pub arrived : (keys : List Key) (before : List (List Mark)) (now marks : List Mark) (line : ℕ) → marks ≡ now ++ Arrives line None ∷ [] → noted_in keys before marks ≡ with_arrival line None (noted_in keys before now)
arrived keys before now marks line m = ap (noted (map (links_in keys) before)) (ap (links_in keys) m ∙ arrival_end keys now line None)

key_is : (keys more : List Key) (k : Key) (n : ℕ) → more ≡ with_key keys k → n ≡ key_number keys k → key_at more n ≡ k
key_is keys more k n e is = ap₂ key_at e is ∙ (numbered keys k).is

same_before : (keys more : List Key) (before : List (List Mark)) (now : List Mark) (k : Key) → AreBelow (length keys) before now → more ≡ with_key keys k → noted_in more before now ≡ noted_in keys before now
same_before keys more before now k h e =
    ap (λ z. noted_in z before now) e ∙ ap₂ noted (each_same keys (with_key keys k) (grown keys k) before h.0) (links_same keys (with_key keys k) (grown keys k) now h.1)

pub arrived_known : (keys more : List Key) (before : List (List Mark)) (now marks : List Mark) (k : Key) (line n : ℕ) → AreBelow (length keys) before now → more ≡ with_key keys k → n ≡ key_number keys k
    → marks ≡ now ++ Arrives line (Some n) ∷ [] → noted_in more before marks ≡ with_arrival line (Some k) (noted_in keys before now)
arrived_known keys more before now marks k line n h e is m =
    ap (noted (map (links_in more) before)) (ap (links_in more) m ∙ (arrival_end more now line (Some n) ∙ ap (λ z. links_in more now ++ fresh line (Some z) ∷ []) (key_is keys more k n e is)))
    ∙ ap (with_arrival line (Some k)) (same_before keys more before now k h e)

pub offered_known : (keys more : List Key) (before : List (List Mark)) (now marks : List Mark) (k : Key) (n : ℕ) → AreBelow (length keys) before now → more ≡ with_key keys k → n ≡ key_number keys k
    → marks ≡ now ++ Offers n ∷ [] → noted_in more before marks ≡ with_offer k (noted_in keys before now)
offered_known keys more before now marks k n h e is m =
    ap (noted (map (links_in more) before)) (ap (links_in more) m ∙ (offer_end more now n ∙ ap (last_gives (links_in more now)) (key_is keys more k n e is)))
    ∙ ap (with_offer k) (same_before keys more before now k h e)

-- a journal that has ended
before_end : (keys : List Key) (before : List (List Mark)) (now : List Mark) → map (links_in keys) (before ++ now ∷ []) ≡ map (links_in keys) before ++ links_in keys now ∷ []
before_end keys [] now = refl
before_end keys (marks ∷ before) now = ap (λ z. links_in keys marks ∷ z) (before_end keys before now)

below_before : (n : ℕ) (before : List (List Mark)) (now : List Mark) → AreBelow n before now → AllByRecursion (AllByRecursion (IsBelow n)) (before ++ now ∷ [])
below_before n [] now h = (h.1, tt)
below_before n (marks ∷ before) now h = (h.0.0, below_before n before now (h.0.1, h.1))

pub ended_below : (n : ℕ) (before more : List (List Mark)) (now next : List Mark) → AreBelow n before now → more ≡ before ++ now ∷ [] → next ≡ [] → AreBelow n more next
ended_below n before more now next h e none =
    (subst (λ z. AllByRecursion (AllByRecursion (IsBelow n)) z) (sym e) (below_before n before now h), subst (λ z. AllByRecursion (IsBelow n) z) (sym none) tt)

pub ended : (keys : List Key) (before more : List (List Mark)) (now next : List Mark) → more ≡ before ++ now ∷ [] → next ≡ [] → noted_in keys more next ≡ with_journal (noted_in keys before now)
ended keys before more now next e none = ap₂ noted (ap (map (links_in keys)) e ∙ before_end keys before now) (ap (links_in keys) none)

-- whether memory was refused or not
pub by_result : {T E A B C : Type 0} (r : Result T E) → OnOk r A → OnErr r B → (A → C) → (B → C) → C
by_result (Ok x) a b f g = f a
by_result (Err e) a b f g = g b
