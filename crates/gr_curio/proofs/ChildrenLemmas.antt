-- What the children's streams say, as lists of runs; what is asked and acknowledged out of range is nothing.
use Rattle.std.proofs.Common.{◌≡◌, ◌≢◌, ℕ, zero, suc, ◌+◌, ◌^◌, ◌<◌, ◌≤◌, ◌⊎◌, inl, inr, Bool, true, false, ◌&&◌, ◌||◌, nat_le, min, cond, List, [], ◌∷◌, ◌++◌, length, map, set, take, drop, replicate, get_or, Option, Some, None, IsTrue, refl, sym, ap, ap₂, ◌∙◌, subst, arith}
use Rattle.std.proofs.lemmas.Bool.{cases_lt, le-leb, lt-leb, leb-true, and_left, and_right, and_parts, and_from, cond-true, cond-false, false≢true}
use Rattle.std.proofs.Math.Bool.{and_assoc}
use Rattle.std.proofs.lemmas.List.{get_or-map, map-set, map-append, length-map, get_or-set_same, get_or-set_other, set-get_or, take_more, take_all, drop_all, replicate_more}
use Rattle.std.proofs.lemmas.List.Folds.{list_all-append, list_any-append}
use Rattle.std.specs.List.{list_all, list_any}
use Rattle.std.specs.Option.{unwrap_or}
use Rattle.gr_tick.specs.declared.run.Run.{Run}
use Rattle.gr_tick.specs.Kept.{Kept}
use Rattle.gr_tick.specs.Runs.{AreRuns}
use Rattle.gr_tick.specs.Stored.{within, EndBefore, RunsGive}
use Rattle.gr_tick.proofs.RunLaws.{value_at-start}
use Rattle.gr_tick.proofs.RunsLemmas.{value_at_past}
use Rattle.gr_curio.specs.Values.{wanted_at, is_A, is_C}
use Rattle.gr_curio.specs.Wants.{runs_of, wants_of, spare_of, all_A, all_A_but, any_C, is_reached, is_consolidated, HasChange}
use Rattle.gr_curio.specs.declared.values.Q3.{Q3}
use Rattle.gr_curio.specs.declared.values.Q3.TheVariants.{N, C, A}

-- the runs of a child that is read
pub read_child : (children : List (Kept Q3)) (i : ℕ) (child : Kept Q3) → i < length children → child ≡ get_or children i child → child.runs ≡ wants_of (runs_of children) i
read_child children i child lt e =
    ap (λ c. c.runs) e ∙ sym (get_or-map (λ c. c.runs) children i child [] lt)

-- what a call finds and leaves where it puts one child in the place of another
pub record IsPut (old new : List (Kept Q3)) (i : ℕ) (before after : Kept Q3) : Type 0 where
  pub read : before.runs ≡ wants_of (runs_of old) i
  pub room : before.spare ≡ spare_of old i
  pub runs : after.runs ≡ wants_of (runs_of new) i
  pub spare : after.spare ≡ spare_of new i
  pub others : runs_of new ≡ set (runs_of old) i (wants_of (runs_of new) i)
  pub other_spares : (k : ℕ) → k ≢ i → spare_of new k ≡ spare_of old k

-- so it is where one item of the list is set
pub is_put : (items old : List (Kept Q3)) (i : ℕ) (before after : Kept Q3) → items ≡ old → i < length old → before ≡ get_or items i before → IsPut old (set items i after) i before after
is_put items old i before after same lt is = record {
  read = read_child items i before inside is ∙ ap (λ ws. wants_of (runs_of ws) i) same;
  room = ap (λ c. c.spare) is ∙ sym (get_or-map (λ c. c.spare) items i before 0 inside) ∙ ap (λ ws. spare_of ws i) same;
  runs = sym put_runs;
  spare = sym (ap (λ ss. get_or ss i 0) (map-set (λ c. c.spare) items i after) ∙ get_or-set_same (map (λ c. c.spare) items) i after.spare 0 (subst (λ n. i < n) (sym (length-map items (λ c. c.spare))) inside));
  others = map-set (λ c. c.runs) items i after ∙ ap (set (runs_of items) i) (sym put_runs) ∙ ap (λ ws. set (runs_of ws) i (wants_of (runs_of (set items i after)) i)) same;
  other_spares = λ k differs.
      ap (λ ss. get_or ss k 0) (map-set (λ c. c.spare) items i after)
      ∙ get_or-set_other (map (λ c. c.spare) items) i k after.spare 0 differs ∙ ap (λ ws. spare_of ws k) same;
}
  where
    inside : i < length items
    inside = subst (λ n. i < n) (sym (ap length same)) lt

    put_runs : wants_of (runs_of (set items i after)) i ≡ after.runs
    put_runs =
        ap (λ ws. get_or ws i []) (map-set (λ c. c.runs) items i after)
        ∙ get_or-set_same (runs_of items) i after.runs [] (subst (λ n. i < n) (sym (length-map items (λ c. c.runs))) inside)

-- all runs are as they were where the child's are
pub put_same : (old new : List (Kept Q3)) (i : ℕ) (before after : Kept Q3) → IsPut old new i before after → after.runs ≡ before.runs → runs_of new ≡ runs_of old
put_same old new i before after put e =
    put.others ∙ ap (set (runs_of old) i) (sym put.runs ∙ e ∙ put.read) ∙ set-get_or (runs_of old) i []

-- only acknowledged is acknowledged
pub is_A-only : (x : Q3) → is_A x ≡ true → x ≡ A
is_A-only N h = cc
is_A-only C h = cc
is_A-only A h = refl

-- a tick outside a stream's runs
pub wanted_outside : (rs : List (Run Q3)) (last t : ℕ) → AreRuns N rs → EndBefore rs (last + 1) → within 1 last t ≡ false → wanted_at rs t ≡ N
wanted_outside rs last t a b out = by_place (cases_lt t 1) (cases_lt last t)
  where
    by_place : (t < 1) ⊎ (1 ≤ t) → (last < t) ⊎ (t ≤ last) → wanted_at rs t ≡ N
    by_place (inl lt) p = value_at-start N 1 rs t a lt
    by_place (inr ge) (inl gt) = value_at_past N rs (last + 1) t b (omega arith)
    by_place (inr ge) (inr le) = absurd (false≢true (sym out ∙ and_from (nat_le 1 t) (nat_le t last) (le-leb 1 t ge) (le-leb t last le)))

-- runs with the values of a function, seen as a child's
pub give_child : (rs ws : List (Run Q3)) (g h : ℕ → Q3) → RunsGive N rs g → rs ≡ ws → ((t : ℕ) → g t ≡ h t) → RunsGive N ws h
give_child rs ws g h k e same = record {
  canonical = subst (λ z. AreRuns N z) e k.canonical;
  in_range = subst (λ z. EndBefore z (2 ^ 62 + 1)) e k.in_range;
  values = λ t. sym (ap (λ z. wanted_at z t) e) ∙ k.values t ∙ same t;
}

-- a change among the children so far, or of the next one
pub change_more : (before t : ℕ) (cs : List (Kept Q3)) (i : ℕ) (c : Kept Q3) → i < length cs → c ≡ get_or cs i c → HasChange before t (take i cs) ⊎ (wanted_at c.runs t ≢ wanted_at c.runs before) → HasChange before t (take (i + 1) cs)
change_more before t cs i c lt e h = subst (HasChange before t) (sym (take_more cs i c lt ∙ ap (λ z. take i cs ++ z ∷ []) (sym e))) (with_last (take i cs) h)
  where
    with_last : (xs : List (Kept Q3)) → HasChange before t xs ⊎ (wanted_at c.runs t ≢ wanted_at c.runs before) → HasChange before t (xs ++ c ∷ [])
    with_last [] (inl x) = absurd x
    with_last [] (inr x) = inl x
    with_last (y ∷ ys) (inl (inl x)) = inl x
    with_last (y ∷ ys) (inl (inr x)) = inr (with_last ys (inl x))
    with_last (y ∷ ys) (inr x) = inr (with_last ys (inr x))

-- a change of a child is one among them all
pub change_here : (before t : ℕ) (cs : List (Kept Q3)) (i : ℕ) (c : Kept Q3) → i < length cs → c ≡ get_or cs i c → wanted_at c.runs t ≢ wanted_at c.runs before → HasChange before t cs
change_here before t [] i c lt e d = absurd (omega (arith, lt))
change_here before t (x ∷ xs) zero c lt e d = inl (subst (λ k. wanted_at k.runs t ≢ wanted_at k.runs before) e d)
change_here before t (x ∷ xs) (suc i) c lt e d = inr (change_here before t xs i c (omega (arith, lt)) e d)

-- where a test fails of a child it fails of all, and where it holds of one it holds of some
pub all_fails : (p : Kept Q3 → Bool) (cs : List (Kept Q3)) (i : ℕ) (c : Kept Q3) → i < length cs → c ≡ get_or cs i c → p c ≡ false → list_all p cs ≡ false
all_fails p [] i c lt e n = absurd (omega (arith, lt))
all_fails p (x ∷ xs) zero c lt e n = and_left (p x) (list_all p xs) (sym (ap p e) ∙ n)
all_fails p (x ∷ xs) (suc i) c lt e n = and_right (p x) (list_all p xs) (all_fails p xs i c (omega (arith, lt)) e n)

pub any_holds : (p : Kept Q3 → Bool) (cs : List (Kept Q3)) (i : ℕ) (c : Kept Q3) → i < length cs → c ≡ get_or cs i c → p c ≡ true → list_any p cs ≡ true
any_holds p [] i c lt e y = absurd (omega (arith, lt))
any_holds p (x ∷ xs) zero c lt e y = ap (λ b. b || list_any p xs) (sym (ap p e) ∙ y)
any_holds p (x ∷ xs) (suc i) c lt e y = ap (λ b. p x || b) (any_holds p xs i c (omega (arith, lt)) e y) ∙ or_true (p x)
  where
    or_true : (b : Bool) → (b || true) ≡ true
    or_true true = refl
    or_true false = refl

-- one child more
pub all_hold_more : (p : Kept Q3 → Bool) (cs : List (Kept Q3)) (i : ℕ) (c : Kept Q3) → i < length cs → c ≡ get_or cs i c → list_all p (take i cs) ≡ true → p c ≡ true → list_all p (take (i + 1) cs) ≡ true
all_hold_more p cs i c lt e so_far here =
    ap (list_all p) (take_more cs i c lt ∙ ap (λ z. take i cs ++ z ∷ []) (sym e)) ∙ list_all-append p (take i cs) (c ∷ [])
    ∙ ap₂ (λ a b. a && b) so_far (ap (λ b. b && true) here)

pub none_more : (p : Kept Q3 → Bool) (cs : List (Kept Q3)) (i : ℕ) (c : Kept Q3) → i < length cs → c ≡ get_or cs i c → list_any p (take i cs) ≡ false → p c ≡ false → list_any p (take (i + 1) cs) ≡ false
none_more p cs i c lt e so_far here =
    ap (list_any p) (take_more cs i c lt ∙ ap (λ z. take i cs ++ z ∷ []) (sym e)) ∙ list_any-append p (take i cs) (c ∷ [])
    ∙ ap₂ (λ a b. a || b) so_far (ap (λ b. b || false) here)

pub within_less : (l m t : ℕ) → l ≤ m → within 1 m t ≡ false → within 1 l t ≡ false
within_less l m t le out = by_place (cases_lt t 1) (cases_lt m t)
  where
    by_place : (t < 1) ⊎ (1 ≤ t) → (m < t) ⊎ (t ≤ m) → within 1 l t ≡ false
    by_place (inl lt) p = and_left (nat_le 1 t) (nat_le t l) (lt-leb 1 t lt)
    by_place (inr ge) (inl gt) = let past : l < t = omega arith in and_right (nat_le 1 t) (nat_le t l) (lt-leb t l past)
    by_place (inr ge) (inr k) = absurd (false≢true (sym out ∙ and_from (nat_le 1 t) (nat_le t m) (le-leb 1 t ge) (le-leb t m k)))

-- the first run tells whether a child covers the ticks up to one
pub covered : (rs : List (Run Q3)) (upto end : ℕ) → EndBefore rs (2 ^ 62 + 1) → is_A (wanted_at rs 1) ≡ true → end ≤ 2 ^ 62 → ((t : ℕ) → 1 ≤ t → t ≤ end → wanted_at rs t ≡ wanted_at rs 1) → (end < 2 ^ 62 → wanted_at rs (end + 1) ≢ wanted_at rs 1) → (IsTrue (nat_le upto end) → (t : ℕ) → 1 ≤ t → t ≤ upto → is_A (wanted_at rs t) ≡ true) × (((t : ℕ) → 1 ≤ t → t ≤ upto → is_A (wanted_at rs t) ≡ true) → IsTrue (nat_le upto end))
covered rs upto end b first inside steady changes =
    (λ y t lo hi. let reach : t ≤ end = omega (arith, leb-true upto end y, hi) in ap is_A (steady t lo reach) ∙ first, λ all. by_place (cases_lt end upto) all)
  where
    by_end : end < upto → (end < 2 ^ 62) ⊎ (2 ^ 62 ≤ end) → is_A (wanted_at rs (end + 1)) ≡ true → IsTrue (nat_le upto end)
    by_end lt (inl below) h = absurd (changes below (is_A-only (wanted_at rs (end + 1)) h ∙ sym (is_A-only (wanted_at rs 1) first)))
    by_end lt (inr last) h = absurd (false≢true (sym (ap is_A (value_at_past N rs (2 ^ 62 + 1) (end + 1) b (omega arith))) ∙ h))

    by_place : (end < upto) ⊎ (upto ≤ end) → ((t : ℕ) → 1 ≤ t → t ≤ upto → is_A (wanted_at rs t) ≡ true) → IsTrue (nat_le upto end)
    by_place (inl lt) all = by_end lt (cases_lt end (2 ^ 62)) (all (end + 1) (omega arith) (omega arith))
    by_place (inr le) all = le-leb upto end le

-- what the first child has not acknowledged is not consolidated
pub unacknowledged : (horizon : Option ℕ) (cs : List (Kept Q3)) (c : Kept Q3) (last t : ℕ) → 0 < length cs → c ≡ get_or cs 0 c → EndBefore c.runs (last + 1) → last < t → is_consolidated horizon (runs_of cs) t ≡ false
unacknowledged horizon [] c last t lt e b past = absurd (omega (arith, lt))
unacknowledged horizon (d ∷ cs) c last t lt e b past =
    let none : wanted_at d.runs t ≡ N = ap (λ z. wanted_at z.runs t) (sym e) ∙ value_at_past N c.runs (last + 1) t b (omega arith) in
    and_right (nat_le 1 t && is_reached horizon t) (all_A (runs_of (d ∷ cs)) t) (and_left (is_A (wanted_at d.runs t)) (all_A (runs_of cs) t) (ap is_A none))

-- nor what the horizon has not come to
pub unreached : (reached : ℕ) (ws : List (List (Run Q3))) (t : ℕ) → reached < t → is_consolidated (Some reached) ws t ≡ false
unreached reached ws t lt =
    and_left (nat_le 1 t && nat_le t reached) (all_A ws t) (and_right (nat_le 1 t) (nat_le t reached) (lt-leb t reached lt))

all_runs : (t : ℕ) (cs : List (Kept Q3)) → all_A (runs_of cs) t ≡ list_all (λ c. is_A (wanted_at c.runs t)) cs
all_runs t [] = refl
all_runs t (c ∷ cs) = ap (λ b. is_A (wanted_at c.runs t) && b) (all_runs t cs)

any_runs : (t : ℕ) (cs : List (Kept Q3)) → any_C (runs_of cs) t ≡ list_any (λ c. is_C (wanted_at c.runs t)) cs
any_runs t [] = refl
any_runs t (c ∷ cs) = ap (λ b. is_C (wanted_at c.runs t) || b) (any_runs t cs)

pub consolidated_yes : (horizon : Option ℕ) (cs : List (Kept Q3)) (t : ℕ) (b : Bool) → 1 ≤ t → is_reached horizon t ≡ true → list_all (λ c. is_A (wanted_at c.runs t)) cs ≡ b → b ≡ true → A ≡ cond (is_consolidated horizon (runs_of cs) t) A N
consolidated_yes horizon cs t b lo reached steady holds =
    let all : all_A (runs_of cs) t ≡ true = all_runs t cs ∙ steady ∙ holds in
    sym (cond-true (is_consolidated horizon (runs_of cs) t) A N (and_from (nat_le 1 t && is_reached horizon t) (all_A (runs_of cs) t) (and_from (nat_le 1 t) (is_reached horizon t) (le-leb 1 t lo) reached) all))

pub consolidated_no : (horizon : Option ℕ) (cs : List (Kept Q3)) (t : ℕ) (b : Bool) → list_all (λ c. is_A (wanted_at c.runs t)) cs ≡ b → b ≡ false → N ≡ cond (is_consolidated horizon (runs_of cs) t) A N
consolidated_no horizon cs t b steady fails =
    let not_all : all_A (runs_of cs) t ≡ false = all_runs t cs ∙ steady ∙ fails in
    sym (cond-false (is_consolidated horizon (runs_of cs) t) A N (and_right (nat_le 1 t && is_reached horizon t) (all_A (runs_of cs) t) not_all))

pub consolidated_outside : (horizon : Option ℕ) (ws : List (List (Run Q3))) (last t : ℕ) → ((u : ℕ) → last < u → is_consolidated horizon ws u ≡ false) → within 1 last t ≡ false → cond (is_consolidated horizon ws t) A N ≡ N
consolidated_outside horizon ws last t past out = cond-false (is_consolidated horizon ws t) A N (by_place (cases_lt t 1) (cases_lt last t))
  where
    by_place : (t < 1) ⊎ (1 ≤ t) → (last < t) ⊎ (t ≤ last) → is_consolidated horizon ws t ≡ false
    by_place (inl lt) p = and_left (nat_le 1 t && is_reached horizon t) (all_A ws t) (and_left (nat_le 1 t) (is_reached horizon t) (lt-leb 1 t lt))
    by_place (inr ge) (inl gt) = past t gt
    by_place (inr ge) (inr k) = absurd (false≢true (sym out ∙ and_from (nat_le 1 t) (nat_le t last) (le-leb 1 t ge) (le-leb t last k)))

-- how far the horizon has come, of the ticks up to a limit
reached_upto : (horizon : Option ℕ) (limit last t : ℕ) → last ≡ min (unwrap_or horizon limit) limit → t ≤ last → is_reached horizon t ≡ true
reached_upto None limit last t e le = refl
reached_upto (Some h) limit last t e le = let reach : t ≤ h = omega (arith, e, le) in le-leb t h reach

-- and where it has not
reached_past : (horizon : Option ℕ) (limit last t : ℕ) → last ≡ min (unwrap_or horizon limit) limit → last < t → t ≤ limit → is_reached horizon t ≡ false
reached_past None limit last t e lt le = absurd (omega (arith, e, lt, le))
reached_past (Some h) limit last t e lt le = let past : h < t = omega (arith, e, lt, le) in lt-leb t h past

-- where one of the children changes that all have acknowledged a tick, not all have acknowledged the other one
all_change : (n t : ℕ) (cs : List (Kept Q3)) → HasChange n t cs → list_all (λ c. is_A (wanted_at c.runs n)) cs ≡ true → list_all (λ c. is_A (wanted_at c.runs t)) cs ≡ false
all_change n t [] h all = absurd h
all_change n t (c ∷ cs) (inl differs) all =
    and_left (is_A (wanted_at c.runs t)) (list_all (λ d. is_A (wanted_at d.runs t)) cs)
    (not_A (wanted_at c.runs t) (wanted_at c.runs n) differs (and_parts (is_A (wanted_at c.runs n)) (list_all (λ d. is_A (wanted_at d.runs n)) cs) all).0)
  where
    not_A : (x y : Q3) → x ≢ y → is_A y ≡ true → is_A x ≡ false
    not_A N y d h = refl
    not_A C y d h = refl
    not_A A y d h = absurd (d (sym (is_A-only y h)))
all_change n t (c ∷ cs) (inr later) all =
    and_right (is_A (wanted_at c.runs t)) (list_all (λ d. is_A (wanted_at d.runs t)) cs)
    (all_change n t cs later (and_parts (is_A (wanted_at c.runs n)) (list_all (λ d. is_A (wanted_at d.runs n)) cs) all).1)

-- a tick that some child has not acknowledged
pub not_consolidated : (horizon : Option ℕ) (cs : List (Kept Q3)) (t : ℕ) → list_all (λ c. is_A (wanted_at c.runs t)) cs ≡ false → is_consolidated horizon (runs_of cs) t ≡ false
not_consolidated horizon cs t h = and_right (nat_le 1 t && is_reached horizon t) (all_A (runs_of cs) t) (all_runs t cs ∙ h)

-- from tick 1 on all is consolidated, as long as no child changes and the horizon has come there
pub front_consolidated : (horizon : Option ℕ) (cs : List (Kept Q3)) (limit last t : ℕ) → last ≡ min (unwrap_or horizon limit) limit → 1 ≤ t → t ≤ last → list_all (λ c. is_A (wanted_at c.runs t)) cs ≡ true → is_consolidated horizon (runs_of cs) t ≡ true
front_consolidated horizon cs limit last t e lo hi all =
    and_from (nat_le 1 t && is_reached horizon t) (all_A (runs_of cs) t)
    (and_from (nat_le 1 t) (is_reached horizon t) (le-leb 1 t lo) (reached_upto horizon limit last t e hi)) (all_runs t cs ∙ all)

-- and the tick after them is not
pub front_ends : (horizon : Option ℕ) (cs : List (Kept Q3)) (limit last end : ℕ) → last ≡ min (unwrap_or horizon limit) limit → end ≤ last → (end < last → HasChange 1 (end + 1) cs) → list_all (λ c. is_A (wanted_at c.runs 1)) cs ≡ true → end < limit → is_consolidated horizon (runs_of cs) (end + 1) ≡ false
front_ends horizon cs limit last end e le changes all lt = by_place (cases_lt end last)
  where
    by_place : (end < last) ⊎ (last ≤ end) → is_consolidated horizon (runs_of cs) (end + 1) ≡ false
    by_place (inl before) = not_consolidated horizon cs (end + 1) (all_change 1 (end + 1) cs (changes before) all)
    by_place (inr past) =
        and_left (nat_le 1 (end + 1) && is_reached horizon (end + 1)) (all_A (runs_of cs) (end + 1))
        (and_right (nat_le 1 (end + 1)) (is_reached horizon (end + 1)) (reached_past horizon limit last (end + 1) e (omega (arith, past)) (omega (arith, lt))))

-- the children before a place and those after it
but_split : (cs : List (Kept Q3)) (i t : ℕ) → all_A_but (Some i) (runs_of cs) t ≡ (all_A (runs_of (take i cs)) t && all_A (runs_of (drop (suc i) cs)) t)
but_split [] zero t = refl
but_split [] (suc i) t = refl
but_split (c ∷ cs) zero t = refl
but_split (c ∷ cs) (suc i) t =
    ap (λ b. is_A (wanted_at c.runs t) && b) (but_split cs i t)
    ∙ sym (and_assoc (is_A (wanted_at c.runs t)) (all_A (runs_of (take i cs)) t) (all_A (runs_of (drop (suc i) cs)) t))

-- all children but one: those before it and those after it
pub all_but_one : (but : Option ℕ) (cs : List (Kept Q3)) (out next t : ℕ) → out ≡ min (unwrap_or but (length cs)) (length cs) → next ≡ min (out + 1) (length cs) → all_A_but but (runs_of cs) t ≡ (all_A (runs_of (take out cs)) t && all_A (runs_of (drop next cs)) t)
all_but_one None cs out next t eo en =
    and_true (all_A (runs_of cs) t)
    ∙ ap₂ (λ xs ys. all_A (runs_of xs) t && all_A (runs_of ys) t) (sym (take_all out cs (omega (arith, eo)))) (sym (drop_all next cs (omega (arith, eo, en))))
  where
    and_true : (b : Bool) → b ≡ (b && true)
    and_true true = refl
    and_true false = refl
all_but_one (Some i) cs out next t eo en = but_split cs i t ∙ by_place (cases_lt i (length cs))
  where
    by_place : (i < length cs) ⊎ (length cs ≤ i) → (all_A (runs_of (take i cs)) t && all_A (runs_of (drop (suc i) cs)) t) ≡ (all_A (runs_of (take out cs)) t && all_A (runs_of (drop next cs)) t)
    by_place (inl lt) =
        let here : i ≡ out = omega (arith, eo, lt) in
        let after : suc i ≡ next = omega (arith, here, en, lt) in
        ap₂ (λ a b. all_A (runs_of (take a cs)) t && all_A (runs_of (drop b cs)) t) here after
    by_place (inr le) =
        ap₂ (λ xs ys. all_A (runs_of xs) t && all_A (runs_of ys) t) (take_all i cs le ∙ sym (take_all out cs (omega (arith, eo, le))))
        (drop_all (suc i) cs (omega (arith, le)) ∙ sym (drop_all next cs (omega (arith, eo, en, le))))

-- what is completed of a tick that is acknowledged, up to the end, by the test of the other children
pub completed_test : (upto t : ℕ) (a b : Bool) (xs ys : List (Kept Q3)) → a ≡ true → t ≤ upto → (list_all (λ c. is_A (wanted_at c.runs t)) xs && list_all (λ c. is_A (wanted_at c.runs t)) ys) ≡ b → cond b A N ≡ cond (a && nat_le t upto && (all_A (runs_of xs) t && all_A (runs_of ys) t)) A N
completed_test upto t a b xs ys y le e =
    ap (λ x. cond x A N) (sym e ∙ sym (ap₂ (λ x z. x && z) (all_runs t xs) (all_runs t ys)))
    ∙ ap (λ x. cond (x && (all_A (runs_of xs) t && all_A (runs_of ys) t)) A N) (sym (and_from a (nat_le t upto) y (le-leb t upto le)))

-- nothing is completed of what is not acknowledged, or past the end
pub completed_unheard : (upto t : ℕ) (a b : Bool) → a ≡ false → cond (a && nat_le t upto && b) A N ≡ N
completed_unheard upto t a b n = cond-false (a && nat_le t upto && b) A N (and_left (a && nat_le t upto) b (and_left a (nat_le t upto) n))

pub completed_past : (upto t : ℕ) (a b : Bool) → upto < t → cond (a && nat_le t upto && b) A N ≡ N
completed_past upto t a b lt = cond-false (a && nat_le t upto && b) A N (and_left (a && nat_le t upto) b (and_right a (nat_le t upto) (lt-leb t upto lt)))

pub curious_yes : (cs : List (Kept Q3)) (t : ℕ) (b : Bool) → list_any (λ c. is_C (wanted_at c.runs t)) cs ≡ b → b ≡ true → C ≡ cond (any_C (runs_of cs) t) C N
curious_yes cs t b steady holds = sym (cond-true (any_C (runs_of cs) t) C N (any_runs t cs ∙ steady ∙ holds))

pub curious_no : (cs : List (Kept Q3)) (t : ℕ) (b : Bool) → list_any (λ c. is_C (wanted_at c.runs t)) cs ≡ b → b ≡ false → N ≡ cond (any_C (runs_of cs) t) C N
curious_no cs t b steady fails = sym (cond-false (any_C (runs_of cs) t) C N (any_runs t cs ∙ steady ∙ fails))

pub curious_outside : (cs : List (Kept Q3)) (t : ℕ) → list_any (λ c. is_C (wanted_at c.runs t)) cs ≡ false → cond (any_C (runs_of cs) t) C N ≡ N
curious_outside cs t none = cond-false (any_C (runs_of cs) t) C N (any_runs t cs ∙ none)

-- one child more is made, or copied
pub quiet_more : (cs new : List (Kept Q3)) (c : Kept Q3) (n : ℕ) → new ≡ cs ++ c ∷ [] → c.runs ≡ [] → runs_of cs ≡ replicate n [] → runs_of new ≡ replicate (n + 1) []
quiet_more cs new c n en none so_far =
    ap runs_of en ∙ map-append (λ k. k.runs) cs (c ∷ []) ∙ ap₂ (λ a b. a ++ b ∷ []) so_far none ∙ replicate_more n []

pub copied_more : (cs new children : List (Kept Q3)) (c d : Kept Q3) (i : ℕ) → i < length children → d ≡ get_or children i d → c.runs ≡ d.runs → new ≡ cs ++ c ∷ [] → runs_of cs ≡ take i (runs_of children) → runs_of new ≡ take (i + 1) (runs_of children)
copied_more cs new children c d i lt e same en so_far =
    ap runs_of en ∙ map-append (λ k. k.runs) cs (c ∷ []) ∙ ap₂ (λ a b. a ++ b ∷ []) so_far (same ∙ read_child children i d lt e)
    ∙ sym (take_more (runs_of children) i [] (subst (λ n. i < n) (sym (length-map children (λ k. k.runs))) lt))

pub copied_all : (cs children : List (Kept Q3)) (i : ℕ) → length children ≤ i → runs_of cs ≡ take i (runs_of children) → runs_of cs ≡ runs_of children
copied_all cs children i le so_far = so_far ∙ take_all i (runs_of children) (subst (λ n. n ≤ i) (sym (length-map children (λ k. k.runs))) le)
