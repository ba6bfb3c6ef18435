-- What is left of journals behind a place in each: a turn moves one place, past what its group offers
use Rattle.std.proofs.Common.{◌≡◌, ℕ, zero, suc, ◌+◌, ◌≤◌, ◌<◌, Bool, true, false, List, [], ◌∷◌, ◌++◌, length, get_or, set, map, drop, take, Option, Some, refl, sym, ap, ap₂, ◌∙◌, subst, arith}
use Rattle.std.specs.Prelude.{if◌then◌else◌}
use Rattle.std.proofs.lemmas.Bool.{true≢false}
use Rattle.std.proofs.lemmas.List.{take_more}
use Rattle.gr_audit.specs.declared.mark.Mark.{Mark}
use Rattle.gr_audit.specs.declared.mark.Mark.TheVariants.{Arrives, Offers}
use Rattle.gr_audit.specs.Links.{ready_at, ready_from, behind_offers, rests_of}

-- Lists

drop_step : {X : Type 0} (xs : List X) (i : ℕ) → drop 1 (drop i xs) ≡ drop (suc i) xs
drop_step [] zero = refl
drop_step [] (suc i) = refl
drop_step (x ∷ xs) zero = refl
drop_step (x ∷ xs) (suc i) = drop_step xs i

pub drop_one : {X : Type 0} (xs : List X) (i : ℕ) → drop 1 (drop i xs) ≡ drop (i + 1) xs
drop_one xs i = let k : suc i ≡ i + 1 = omega arith in drop_step xs i ∙ ap (λ n. drop n xs) k

-- what stands at a place does not hang on the default
same_at : {X : Type 0} (xs : List X) (i : ℕ) (d e : X) → i < length xs → get_or xs i d ≡ get_or xs i e
same_at [] i d e lt = absurd (omega (arith, lt))
same_at (x ∷ xs) zero d e lt = refl
same_at (x ∷ xs) (suc i) d e lt = same_at xs i d e (omega (arith, lt))

front_length : {X : Type 0} (xs : List X) (i : ℕ) → i ≤ length xs → length (take i xs) ≡ i
front_length [] zero h = refl
front_length [] (suc i) h = absurd (omega (arith, h))
front_length (x ∷ xs) zero h = refl
front_length (x ∷ xs) (suc i) h = ap suc (front_length xs i (omega (arith, h)))

map_more : {X Y : Type 0} (f : X → Y) (xs : List X) (x : X) → map f (xs ++ x ∷ []) ≡ map f xs ++ f x ∷ []
map_more f [] x = refl
map_more f (y ∷ xs) x = ap (λ z. f y ∷ z) (map_more f xs x)

-- Rests

rests_at : (js : List (List Mark)) (ps : List ℕ) (k : ℕ) → length ps ≡ length js → k < length js → get_or (rests_of js ps) k [] ≡ drop (get_or ps k 0) (get_or js k [])
rests_at [] ps k e lt = absurd (omega (arith, lt))
rests_at (j ∷ js) [] k e lt = absurd (omega (arith, e))
rests_at (j ∷ js) (p ∷ ps) zero e lt = refl
rests_at (j ∷ js) (p ∷ ps) (suc k) e lt = rests_at js ps k (omega (arith, e)) (omega (arith, lt))

rests_set : (js : List (List Mark)) (ps : List ℕ) (k p : ℕ) → length ps ≡ length js → k < length js → rests_of js (set ps k p) ≡ set (rests_of js ps) k (drop p (get_or js k []))
rests_set [] ps k p e lt = absurd (omega (arith, lt))
rests_set (j ∷ js) [] k p e lt = absurd (omega (arith, e))
rests_set (j ∷ js) (q ∷ ps) zero p e lt = refl
rests_set (j ∷ js) (q ∷ ps) (suc k) p e lt = ap (λ z. drop q j ∷ z) (rests_set js ps k p (omega (arith, e)) (omega (arith, lt)))

rests_more : (js : List (List Mark)) (ps : List ℕ) (j : List Mark) (p : ℕ) → length ps ≡ length js → rests_of (js ++ j ∷ []) (ps ++ p ∷ []) ≡ rests_of js ps ++ drop p j ∷ []
rests_more [] [] j p e = refl
rests_more [] (q ∷ ps) j p e = absurd (omega (arith, e))
rests_more (i ∷ js) [] j p e = absurd (omega (arith, e))
rests_more (i ∷ js) (q ∷ ps) j p e = ap (λ z. drop q i ∷ z) (rests_more js ps j p (omega (arith, e)))

-- where the first groups begin, one journal more
pub first_more : (js : List (List Mark)) (ps more : List ℕ) (i p : ℕ) (j marks : List Mark) → rests_of (take i js) ps ≡ map behind_offers (take i js) → length ps ≡ i → i < length js
    → j ≡ get_or js i j → marks ≡ j → drop p marks ≡ behind_offers marks → more ≡ ps ++ p ∷ [] → rests_of (take (i + 1) js) more ≡ map behind_offers (take (i + 1) js)
first_more js ps more i p j marks inv count lt is same rest e =
    ap₂ rests_of t e
    ∙ (rests_more (take i js) ps j p (omega (arith, count, front_length js i (omega (arith, lt))))
    ∙ (ap₂ (λ xs x. xs ++ x ∷ []) inv (ap (drop p) (sym same) ∙ (rest ∙ ap behind_offers same))
    ∙ (sym (map_more behind_offers (take i js) j) ∙ ap (map behind_offers) (sym t))))
  where
    t : take (i + 1) js ≡ take i js ++ j ∷ []
    t = take_more js i j lt ∙ ap (λ z. take i js ++ z ∷ []) (sym is)

-- what the next group of a journal leaves
pub behind_at : (js : List (List Mark)) (ps : List ℕ) (k p : ℕ) (j marks : List Mark) → length ps ≡ length js → k < length js → p ≡ get_or ps k p → j ≡ get_or js k j → marks ≡ j
    → drop (p + 1) marks ≡ drop 1 (get_or (rests_of js ps) k [])
behind_at js ps k p j marks count lt place is same =
    sym (drop_one marks p)
    ∙ ap (drop 1) (ap₂ drop (place ∙ same_at ps k p 0 (omega (arith, count, lt))) (same ∙ (is ∙ same_at js k j [] lt)) ∙ sym (rests_at js ps k count lt))

pub went : (js : List (List Mark)) (ps : List ℕ) (k p r : ℕ) (j marks : List Mark) → length ps ≡ length js → k < length js → p ≡ get_or ps k p → j ≡ get_or js k j → marks ≡ j
    → drop r marks ≡ behind_offers (drop (p + 1) marks) → rests_of js (set ps k r) ≡ set (rests_of js ps) k (behind_offers (drop 1 (get_or (rests_of js ps) k [])))
went js ps k p r j marks count lt place is same rest =
    rests_set js ps k r count lt
    ∙ ap (set (rests_of js ps) k) (ap (drop r) (sym (same ∙ (is ∙ same_at js k j [] lt))) ∙ (rest ∙ ap behind_offers (behind_at js ps k p j marks count lt place is same)))

-- Who is ready

record Found (k : ℕ) (flags : List Bool) (rests : List (List Mark)) (i : ℕ) : Type 0 where
  place : ℕ
  is : i ≡ k + place
  ready : ready_at flags (get_or rests place []) ≡ true

found_by : (k : ℕ) (flags : List Bool) (rest : List Mark) (rests : List (List Mark)) (i : ℕ) (b : Bool) → ready_at flags rest ≡ b → (if b then Some k else ready_from (k + 1) flags rests) ≡ Some i
    → (ready_from (k + 1) flags rests ≡ Some i → Found (k + 1) flags rests i) → Found k flags (rest ∷ rests) i
found_by k flags rest rests i true h e more = let same : k ≡ i = cc in record { place = 0; is = omega (arith, same); ready = h }
found_by k flags rest rests i false h e more = let f = more e in record { place = suc f.place; is = let g = f.is in omega (arith, g); ready = f.ready }

found : (k : ℕ) (flags : List Bool) (rests : List (List Mark)) (i : ℕ) → ready_from k flags rests ≡ Some i → Found k flags rests i
found k flags [] i e = absurd (cc)
found k flags (rest ∷ rests) i e = found_by k flags rest rests i (ready_at flags rest) refl e (found (k + 1) flags rests i)

pub is_ready : (flags : List Bool) (rests : List (List Mark)) (i : ℕ) → ready_from 0 flags rests ≡ Some i → ready_at flags (get_or rests i []) ≡ true
is_ready flags rests i e =
    let f = found 0 flags rests i e in
    let same : i ≡ f.place = let g = f.is in omega (arith, g) in
    ap (λ z. ready_at flags (get_or rests z [])) same ∙ f.ready

-- a group that is ready is there
pub is_there : (flags : List Bool) (marks : List Mark) (p : ℕ) → ready_at flags (drop p marks) ≡ true → p < length marks
is_there flags marks p h = go marks p h
  where
    go : (ms : List Mark) (q : ℕ) → ready_at flags (drop q ms) ≡ true → q < length ms
    go [] zero e = absurd (true≢false (sym e))
    go [] (suc q) e = absurd (true≢false (sym e))
    go (m ∷ ms) zero e = omega arith
    go (m ∷ ms) (suc q) e = let more = go ms q e in omega (arith, more)

-- with slices of the places and of the flags
pub first_is : (js : List (List Mark)) (ps seen : List ℕ) (flags shown : List Bool) (o : Option ℕ) → seen ≡ ps → shown ≡ flags → o ≡ ready_from 0 shown (rests_of js seen) → ready_from 0 flags (rests_of js ps) ≡ o
first_is js ps seen flags shown o e f h = ap₂ (λ x y. ready_from 0 x (rests_of js y)) (sym f) (sym e) ∙ sym h

pub next_is_there : (js : List (List Mark)) (ps : List ℕ) (flags : List Bool) (i : ℕ) → length ps ≡ length js → i < length js → ready_from 0 flags (rests_of js ps) ≡ Some i → get_or ps i 0 < length (get_or js i [])
next_is_there js ps flags i count lt first =
    is_there flags (get_or js i []) (get_or ps i 0) (ap (ready_at flags) (sym (rests_at js ps i count lt)) ∙ is_ready flags (rests_of js ps) i first)

-- Each turn lessens what is left

unfoldable pub room : List (List Mark) → ℕ
room [] = 0
room (rest ∷ rests) = length rest + room rests

behind_shorter : (marks : List Mark) → length (behind_offers marks) ≤ length marks
behind_shorter [] = omega arith
behind_shorter (Arrives line needs ∷ marks) = omega arith
behind_shorter (Offers key ∷ marks) = let more = behind_shorter marks in omega (arith, more)

goes_shorter : (flags : List Bool) (rest : List Mark) → ready_at flags rest ≡ true → length (behind_offers (drop 1 rest)) < length rest
goes_shorter flags [] h = absurd (true≢false (sym h))
goes_shorter flags (m ∷ marks) h = let more = behind_shorter marks in omega (arith, more)

room_set : (rests : List (List Mark)) (i : ℕ) (rest : List Mark) → length rest < length (get_or rests i []) → room (set rests i rest) < room rests
unfolding room
room_set [] i rest lt = absurd (omega (arith, lt))
room_set (r ∷ rests) zero rest lt = omega (arith, lt)
room_set (r ∷ rests) (suc i) rest lt = let more = room_set rests i rest lt in omega (arith, more)

pub room_falls : (flags : List Bool) (rests more : List (List Mark)) (i : ℕ) → ready_at flags (get_or rests i []) ≡ true → more ≡ set rests i (behind_offers (drop 1 (get_or rests i []))) → room more < room rests
room_falls flags rests more i h e =
    subst (λ z. room z < room rests) (sym e) (room_set rests i (behind_offers (drop 1 (get_or rests i []))) (goes_shorter flags (get_or rests i []) h))
