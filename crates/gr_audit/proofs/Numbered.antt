-- Groups by the numbers of datagrams go as the groups go: no two numbers stand for one datagram, so a flag for each
-- number says what was offered.
use Rattle.std.proofs.Common.{◌≡◌, inl, inr, ℕ, zero, suc, ◌+◌, ◌<◌, Bool, true, false, ◌||◌, ◌&&◌, List, [], ◌∷◌, length, get_or, set, map, drop, Option, Some, None, option_map, refl, sym, ap, ap₂, ◌∙◌, subst, arith}
use Rattle.std.specs.Prelude.{nat_eq, if◌then◌else◌, bytes_eq}
use Rattle.std.specs.List.{AllByRecursion, IsDistinct}
use Rattle.std.proofs.lemmas.Bool.{cases_eq, cases_lt, true≢false, eq-eqb, ne_eqb, eqb-true, and_parts, false_from_ne_true}
use Rattle.std.proofs.lemmas.List.{get_or-set_same, get_or-set_other, map-set, length-set}
use Rattle.std.proofs.lemmas.List.Folds.{list_any-append}
use Rattle.std.proofs.lemmas.Slice.Eq.{bytes_eq-Decides}
use Rattle.gr_audit.specs.declared.mark.Mark.{Mark}
use Rattle.gr_audit.specs.declared.mark.Mark.TheVariants.{Arrives, Offers}
use Rattle.gr_audit.specs.Joint.{Key, same_key, Link, State, has, head_goes, first_ready, go_by, go_at, joint_end, total, begun, stays, lesser_line, head_line, next_line}
use Rattle.gr_audit.specs.Links.{key_at, offers_of, links_in, IsBelow, ready_at, ready_from, with_offers, behind_offers, first_line, next_line_of}
use Rattle.gr_audit.proofs.Ahead.{lessens, ready_is}

-- One datagram, one number

pub same_is : (a b : Key) → same_key a b ≡ true → a ≡ b
same_is a b h =
    let parts = and_parts (nat_eq a.0 b.0) (bytes_eq a.1 b.1) h in
    ap₂ (λ x y. (x, y)) (eqb-true a.0 b.0 parts.0) ((bytes_eq-Decides a.1 b.1).0 parts.1)

is_same : (a : Key) → same_key a a ≡ true
is_same a = ap₂ (λ x y. x && y) (eq-eqb a.0 a.0 refl) ((bytes_eq-Decides a.1 a.1).1 refl)

all_at : {X : Type 0} (P : X → Type 0) (xs : List X) (i : ℕ) (d : X) → AllByRecursion P xs → i < length xs → P (get_or xs i d)
all_at P [] i d h lt = absurd (omega (arith, lt))
all_at P (x ∷ xs) zero d h lt = h.0
all_at P (x ∷ xs) (suc i) d h lt = all_at P xs i d h.1 (omega (arith, lt))

before : (keys : List Key) (n k : ℕ) → IsDistinct same_key keys → n < k → k < length keys → same_key (key_at keys n) (key_at keys k) ≡ false
unfolding IsDistinct
before [] n k h lt within = absurd (omega (arith, within))
before (x ∷ xs) n zero h lt within = absurd (omega (arith, lt))
before (x ∷ xs) zero (suc k) h lt within = all_at (λ y. same_key x y ≡ false) xs k (0, []) h.0 (omega (arith, within))
before (x ∷ xs) (suc n) (suc k) h lt within = before xs n k h.1 (omega (arith, lt)) (omega (arith, within))

behind : (keys : List Key) (n k : ℕ) → IsDistinct same_key keys → k < n → n < length keys → same_key (key_at keys n) (key_at keys k) ≡ false
behind keys n k h lt within = false_from_ne_true (same_key (key_at keys n) (key_at keys k)) (λ e.
    let same = same_is (key_at keys n) (key_at keys k) e in
    true≢false (sym (ap (λ z. same_key (key_at keys k) z) same ∙ is_same (key_at keys k)) ∙ before keys k n h lt within))

pub one_number : (keys : List Key) (n k : ℕ) → IsDistinct same_key keys → n < length keys → k < length keys → same_key (key_at keys n) (key_at keys k) ≡ nat_eq n k
one_number keys n k h ln lk = elim (cases_eq n k) [
  | inl e ↦ subst (λ z. same_key (key_at keys n) (key_at keys z) ≡ nat_eq n z) e (is_same (key_at keys n) ∙ sym (eq-eqb n n refl))
  | inr ne ↦ elim (cases_lt n k) [
    | inl lt ↦ before keys n k h lt lk ∙ sym (ne_eqb n k ne)
    | inr ge ↦ behind keys n k h (omega (arith, ge, ne)) ln ∙ sym (ne_eqb n k ne)
  ]
]

-- What is seen

-- the next group of a journal begins here, where there is one
abbrev pub BeginsGroup : List Mark → Type 0
BeginsGroup [] = Unit {0}
BeginsGroup (Arrives line needs ∷ marks) = Unit {0}
BeginsGroup (Offers key ∷ marks) = ⊥

-- flags and what is left of the marks stand for what was offered and the groups that are left
pub record IsSeen (keys : List Key) (flags : List Bool) (rests : List (List Mark)) (s : State) : Type 0 where
  pub left : s.left ≡ map (links_in keys) rests
  pub begins : AllByRecursion BeginsGroup rests
  pub below : AllByRecursion (AllByRecursion (IsBelow (length keys))) rests
  pub count : length flags ≡ length keys
  pub flag : (n : ℕ) → n < length keys → get_or flags n false ≡ has s.offered (key_at keys n)

-- whether a group can go
ready_one : (keys offered : List Key) (flags : List Bool) (rest : List Mark) → BeginsGroup rest → AllByRecursion (IsBelow (length keys)) rest
    → ((n : ℕ) → n < length keys → get_or flags n false ≡ has offered (key_at keys n)) → ready_at flags rest ≡ head_goes offered (links_in keys rest)
ready_one keys offered flags [] b below h = refl
ready_one keys offered flags (Arrives line None ∷ marks) b below h = refl
ready_one keys offered flags (Arrives line (Some key) ∷ marks) b below h = h key below.0
ready_one keys offered flags (Offers key ∷ marks) b below h = absurd b

-- counted on from k
abbrev counted : ℕ → Option ℕ → Option ℕ
counted k None = None
counted k (Some n) = Some (k + n)

counted_on : (k : ℕ) (o : Option ℕ) → counted (k + 1) o ≡ counted k (option_map (λ n. suc n) o)
counted_on k None = refl
counted_on k (Some n) = ap Some (omega arith)

counted_none : (o : Option ℕ) → counted 0 o ≡ o
counted_none None = refl
counted_none (Some n) = ap Some (omega arith)

ready_both : (k : ℕ) (a b : Bool) (r o : Option ℕ) → a ≡ b → r ≡ counted (k + 1) o → (if a then Some k else r) ≡ counted k (if b then Some 0 else option_map (λ n. suc n) o)
ready_both k true true r o e h = ap Some (omega arith)
ready_both k false false r o e h = h ∙ counted_on k o
ready_both k true false r o e h = absurd (true≢false e)
ready_both k false true r o e h = absurd (true≢false (sym e))

ready_all : (k : ℕ) (keys offered : List Key) (flags : List Bool) (rests : List (List Mark)) → AllByRecursion BeginsGroup rests
    → AllByRecursion (AllByRecursion (IsBelow (length keys))) rests → ((n : ℕ) → n < length keys → get_or flags n false ≡ has offered (key_at keys n))
    → ready_from k flags rests ≡ counted k (first_ready offered (map (links_in keys) rests))
ready_all k keys offered flags [] b below h = refl
ready_all k keys offered flags (rest ∷ rests) b below h =
    ready_both k (ready_at flags rest) (head_goes offered (links_in keys rest)) (ready_from (k + 1) flags rests) (first_ready offered (map (links_in keys) rests))
    (ready_one keys offered flags rest b.0 below.0 h) (ready_all (k + 1) keys offered flags rests b.1 below.1 h)

-- the first journal that is ready by numbers is the first that is
pub ready_seen : (keys : List Key) (flags : List Bool) (rests : List (List Mark)) (s : State) → IsSeen keys flags rests s → ready_from 0 flags rests ≡ first_ready s.offered s.left
ready_seen keys flags rests s seen =
    ready_all 0 keys s.offered flags rests seen.begins seen.below seen.flag
    ∙ (counted_none (first_ready s.offered (map (links_in keys) rests)) ∙ ap (first_ready s.offered) (sym seen.left))

-- A group goes

or_moved : (h e f : Bool) → (h || (e || f)) ≡ ((e || h) || f)
or_moved true true f = refl
or_moved true false f = refl
or_moved false true f = refl
or_moved false false f = refl

flag_set : (flags : List Bool) (n k : ℕ) → k < length flags → get_or (set flags k true) n false ≡ (nat_eq n k || get_or flags n false)
flag_set flags n k lt = elim (cases_eq n k) [
  | inl e ↦ subst (λ z. get_or (set flags z true) n false ≡ (nat_eq n z || get_or flags n false)) e
      (get_or-set_same flags n true false (subst (λ z. z < length flags) (sym e) lt) ∙ sym (ap (λ b. b || get_or flags n false) (eq-eqb n n refl)))
  | inr ne ↦ get_or-set_other flags k n true false ne ∙ sym (ap (λ b. b || get_or flags n false) (ne_eqb n k ne))
]

-- the flags say what was offered, with what is offered before the next arrival
flags_more : (keys : List Key) (marks : List Mark) (flags : List Bool) (n : ℕ) → IsDistinct same_key keys → AllByRecursion (IsBelow (length keys)) marks → length flags ≡ length keys → n < length keys
    → get_or (with_offers flags marks) n false ≡ (has (offers_of keys marks) (key_at keys n) || get_or flags n false)
flags_more keys [] flags n d below count lt = refl
flags_more keys (Arrives line needs ∷ marks) flags n d below count lt = refl
flags_more keys (Offers key ∷ marks) flags n d below count lt =
    flags_more keys marks (set flags key true) n d below.1 (length-set flags key true ∙ count) lt
    ∙ (ap (λ b. has (offers_of keys marks) (key_at keys n) || b) (flag_set flags n key (subst (λ z. key < z) (sym count) below.0))
    ∙ (or_moved (has (offers_of keys marks) (key_at keys n)) (nat_eq n key) (get_or flags n false)
    ∙ sym (ap (λ b. (b || has (offers_of keys marks) (key_at keys n)) || get_or flags n false) (one_number keys n key d lt below.0))))

offers_count : (flags : List Bool) (marks : List Mark) → length (with_offers flags marks) ≡ length flags
offers_count flags [] = refl
offers_count flags (Arrives line needs ∷ marks) = refl
offers_count flags (Offers key ∷ marks) = offers_count (set flags key true) marks ∙ length-set flags key true

-- what is offered is no group of its own
behind_links : (keys : List Key) (marks : List Mark) → links_in keys (behind_offers marks) ≡ links_in keys marks
behind_links keys [] = refl
behind_links keys (Arrives line needs ∷ marks) = refl
behind_links keys (Offers key ∷ marks) = behind_links keys marks

behind_begins : (marks : List Mark) → BeginsGroup (behind_offers marks)
behind_begins [] = tt
behind_begins (Arrives line needs ∷ marks) = tt
behind_begins (Offers key ∷ marks) = behind_begins marks

behind_below : (n : ℕ) (marks : List Mark) → AllByRecursion (IsBelow n) marks → AllByRecursion (IsBelow n) (behind_offers marks)
behind_below n [] h = tt
behind_below n (Arrives line needs ∷ marks) h = h
behind_below n (Offers key ∷ marks) h = behind_below n marks h.1

all_set : {X : Type 0} (P : X → Type 0) (xs : List X) (i : ℕ) (x : X) → AllByRecursion P xs → P x → AllByRecursion P (set xs i x)
all_set P [] i x h p = tt
all_set P (y ∷ ys) zero x h p = (p, h.1)
all_set P (y ∷ ys) (suc i) x h p = (h.0, all_set P ys i x h.1 p)

links_at : (keys : List Key) (rests : List (List Mark)) (i : ℕ) → get_or (map (links_in keys) rests) i [] ≡ links_in keys (get_or rests i [])
links_at keys [] i = refl
links_at keys (rest ∷ rests) zero = refl
links_at keys (rest ∷ rests) (suc i) = links_at keys rests i

all_get : {X : Type 0} (P : X → Type 0) (xs : List X) (i : ℕ) (d : X) → AllByRecursion P xs → P d → P (get_or xs i d)
all_get P [] i d h p = p
all_get P (x ∷ xs) zero d h p = h.0
all_get P (x ∷ xs) (suc i) d h p = all_get P xs i d h.1 p

-- what is seen once the group that begins `rest` has gone
goes_by : (keys : List Key) (flags : List Bool) (rests : List (List Mark)) (s : State) (i : ℕ) (rest : List Mark) → IsDistinct same_key keys → IsSeen keys flags rests s
    → AllByRecursion (IsBelow (length keys)) rest → ready_at flags rest ≡ true
    → IsSeen keys (with_offers flags (drop 1 rest)) (set rests i (behind_offers (drop 1 rest))) (go_by s i (links_in keys rest))
goes_by keys flags rests s i [] d seen below h = absurd (true≢false (sym h))
goes_by keys flags rests s i (Offers key ∷ marks) d seen below h = absurd (true≢false (sym h))
goes_by keys flags rests s i (Arrives line needs ∷ marks) d seen below h = record {
  left = ap (λ z. set z i (links_in keys marks)) seen.left
      ∙ (ap (λ z. set (map (links_in keys) rests) i z) (sym (behind_links keys marks)) ∙ sym (map-set (links_in keys) rests i (behind_offers marks)));
  begins = all_set BeginsGroup rests i (behind_offers marks) seen.begins (behind_begins marks);
  below = all_set (AllByRecursion (IsBelow (length keys))) rests i (behind_offers marks) seen.below (behind_below (length keys) marks below.1);
  count = offers_count flags marks ∙ seen.count;
  flag = λ n lt. flags_more keys marks flags n d below.1 seen.count lt
      ∙ (ap (λ b. has (offers_of keys marks) (key_at keys n) || b) (seen.flag n lt)
      ∙ sym (list_any-append (same_key (key_at keys n)) (offers_of keys marks) s.offered));
}

pub goes_seen : (keys : List Key) (flags : List Bool) (rests : List (List Mark)) (s : State) (i : ℕ) → IsDistinct same_key keys → IsSeen keys flags rests s → ready_at flags (get_or rests i []) ≡ true
    → IsSeen keys (with_offers flags (drop 1 (get_or rests i []))) (set rests i (behind_offers (drop 1 (get_or rests i [])))) (go_at s i)
goes_seen keys flags rests s i d seen h =
    subst (λ z. IsSeen keys (with_offers flags (drop 1 (get_or rests i []))) (set rests i (behind_offers (drop 1 (get_or rests i [])))) (go_by s i z))
    (sym (ap (λ z. get_or z i []) seen.left ∙ links_at keys rests i))
    (goes_by keys flags rests s i (get_or rests i []) d seen (all_get (AllByRecursion (IsBelow (length keys))) rests i [] seen.below tt) h)

-- The joint order, turn by turn

-- where no group can go, it has ended
ends_by : (turns : ℕ) (s : State) (o : Option ℕ) → o ≡ None → (elim o [ None ↦ s | Some i ↦ joint_end turns (go_at s i) ]) ≡ s
ends_by turns s None e = refl
ends_by turns s (Some i) e = absurd (cc)

ended : (turns : ℕ) (s : State) → first_ready s.offered s.left ≡ None → joint_end turns s ≡ s
unfolding joint_end
ended zero s e = refl
ended (suc turns) s e = ends_by turns s (first_ready s.offered s.left) e

turn_by : (turns : ℕ) (s : State) (i : ℕ) (o : Option ℕ) → o ≡ Some i → (elim o [ None ↦ s | Some k ↦ joint_end turns (go_at s k) ]) ≡ joint_end turns (go_at s i)
turn_by turns s i None e = absurd (cc)
turn_by turns s i (Some k) e = let same : k ≡ i = cc in ap (λ z. joint_end turns (go_at s z)) same

turned : (turns : ℕ) (s : State) (i : ℕ) → first_ready s.offered s.left ≡ Some i → joint_end (suc turns) s ≡ joint_end turns (go_at s i)
unfolding joint_end
turned turns s i e = turn_by turns s i (first_ready s.offered s.left) e

fewer : (s : State) (i : ℕ) (j : List Link) → get_or s.left i [] ≡ j → head_goes s.offered j ≡ true → suc (total (go_by s i j).left) ≡ total s.left
fewer s i [] e h = absurd (true≢false (sym h))
fewer s i (l ∷ ls) e h = lessens s.left i l ls e

pub turn_on : (s : State) (i : ℕ) → first_ready s.offered s.left ≡ Some i → joint_end (total s.left) s ≡ joint_end (total (go_at s i).left) (go_at s i)
turn_on s i e =
    let less : suc (total (go_at s i).left) ≡ total s.left = fewer s i (get_or s.left i []) refl (ready_is s.offered s.left i e) in
    ap (λ n. joint_end n s) (sym less) ∙ turned (total (go_at s i).left) s i e

-- what stays

head_seen : (keys : List Key) (rest : List Mark) → BeginsGroup rest → first_line rest ≡ head_line (links_in keys rest)
head_seen keys [] b = refl
head_seen keys (Arrives line needs ∷ marks) b = refl
head_seen keys (Offers key ∷ marks) b = absurd b

next_seen : (keys : List Key) (rests : List (List Mark)) → AllByRecursion BeginsGroup rests → next_line_of rests ≡ next_line (map (links_in keys) rests)
next_seen keys [] b = refl
next_seen keys (rest ∷ rests) b = ap₂ lesser_line (head_seen keys rest b.0) (next_seen keys rests b.1)

-- The loop

-- with flags and rests that stand for a state that the joint order comes to
pub record Reaches (keys : List Key) (journals : List (List Mark)) (flags : List Bool) (rests : List (List Mark)) : Type 0 where
  pub state : State
  pub seen : IsSeen keys flags rests state
  pub ends : joint_end (total (map (links_in keys) journals)) (begun (map (links_in keys) journals)) ≡ joint_end (total state.left) state

begin_links : (keys : List Key) (journals : List (List Mark)) → map (links_in keys) (map behind_offers journals) ≡ map (links_in keys) journals
begin_links keys [] = refl
begin_links keys (marks ∷ journals) = ap₂ (λ x y. x ∷ y) (behind_links keys marks) (begin_links keys journals)

begin_all : (journals : List (List Mark)) → AllByRecursion BeginsGroup (map behind_offers journals)
begin_all [] = tt
begin_all (marks ∷ journals) = (behind_begins marks, begin_all journals)

begin_below : (n : ℕ) (journals : List (List Mark)) → AllByRecursion (AllByRecursion (IsBelow n)) journals → AllByRecursion (AllByRecursion (IsBelow n)) (map behind_offers journals)
begin_below n [] h = tt
begin_below n (marks ∷ journals) h = (behind_below n marks h.0, begin_below n journals h.1)

pub begins : (keys : List Key) (journals rests : List (List Mark)) (flags : List Bool) → AllByRecursion (AllByRecursion (IsBelow (length keys))) journals → rests ≡ map behind_offers journals
    → length flags ≡ length keys → ((n : ℕ) → n < length keys → get_or flags n false ≡ false) → Reaches keys journals flags rests
begins keys journals rests flags below e count none = subst (λ z. Reaches keys journals flags z) (sym e) (record {
  state = begun (map (links_in keys) journals);
  seen = record {
    left = sym (begin_links keys journals);
    begins = begin_all journals;
    below = begin_below (length keys) journals below;
    count = count;
    flag = none;
  };
  ends = refl;
})

pub goes_on : (keys : List Key) (journals rests more : List (List Mark)) (flags new : List Bool) (i : ℕ) → IsDistinct same_key keys → Reaches keys journals flags rests → ready_from 0 flags rests ≡ Some i
    → ready_at flags (get_or rests i []) ≡ true → more ≡ set rests i (behind_offers (drop 1 (get_or rests i []))) → new ≡ with_offers flags (drop 1 (get_or rests i [])) → Reaches keys journals new more
goes_on keys journals rests more flags new i d r first ready e f =
    subst (λ z. Reaches keys journals new z) (sym e) (subst (λ z. Reaches keys journals z (set rests i (behind_offers (drop 1 (get_or rests i []))))) (sym f) (record {
      state = go_at r.state i;
      seen = goes_seen keys flags rests r.state i d r.seen ready;
      ends = r.ends ∙ turn_on r.state i (sym (ready_seen keys flags rests r.state r.seen) ∙ first);
    }))

pub ends_with : (keys : List Key) (journals rests : List (List Mark)) (flags : List Bool) → Reaches keys journals flags rests → ready_from 0 flags rests ≡ None → next_line_of rests ≡ stays (map (links_in keys) journals)
ends_with keys journals rests flags r none =
    next_seen keys rests r.seen.begins
    ∙ (ap next_line (sym r.seen.left)
    ∙ ap (λ (z : State). next_line z.left) (sym (r.ends ∙ ended (total r.state.left) r.state (sym (ready_seen keys flags rests r.state r.seen) ∙ none))))
