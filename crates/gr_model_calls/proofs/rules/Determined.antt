-- The rules determine what a call does
use Rattle.std.proofs.Common.{◌≡◌, inl, inr, ℕ, suc, ◌+◌, ◌-◌, ◌≤◌, ◌<◌, min, max, Bool, true, false, not, ◌&&◌, List, [], ◌∷◌, ◌++◌, length, get_or, refl, sym, ap, ap₂, ◌∙◌, subst, arith, le_refl}
use Rattle.std.specs.Prelude.{zero, nat_eq, nat_le, nat_lt, if◌then◌else◌, flat_map}
use Rattle.std.specs.List.{list_any}
use Rattle.std.proofs.lemmas.Bool.{and_right, cases_Bool, cases_lt, cases_eq, false≢true, or_left, or_right, eq-eqb, le-leb, lt-leb}
use Rattle.gr_event.specs.declared.event.Event.{Event}
use Rattle.gr_know.specs.declared.values.K.{K}
use Rattle.gr_know.specs.declared.values.K.TheVariants.{Q, F}
use Rattle.gr_curio.specs.declared.values.Q3.{Q3}
use Rattle.gr_curio.specs.declared.values.Q3.TheVariants.{N, A}
use Rattle.gr_curio.specs.declared.asks.Moment.{Moment}
use Rattle.gr_curio.specs.declared.asks.Moment.TheVariants.{Never, At}
use Rattle.gr_frame.specs.declared.Frame.{Frame}
use Rattle.gr_event.specs.Joins.{has_joined}
use Rattle.gr_model.specs.declared.report.Report.{Report}
use Rattle.gr_model.specs.declared.report.Report.TheVariants as line
use Rattle.gr_tick.specs.declared.run.Run.{Run}
use Rattle.gr_tick.specs.Runs.{AreRunsFrom}
use Rattle.gr_know.specs.Values.{Known, known_at, is_Q, is_D, join_K}
use Rattle.gr_curio.specs.Values.{Wanted, Asked, wanted_at, asked_at, is_C}
use Rattle.gr_model.specs.Net.{Net, keeps_horizon, is_host}
use Rattle.gr_model.specs.Broker.{with_join, view_joined, View, Log, Outcome, max_tick, is_F, know_frames, expect_frame, up_frames, is_consolidated_by, data_count, place_of, delivery_lines, with_event, with_mark, cut_log_at}
use Rattle.gr_model.specs.Tree.{IsNet, IsDistinct}
use Rattle.gr_model_calls.specs.Rules.{TakesJoin, HasKnown, HasWanted, HasAsked, IsChild, wants_from, Moves, Forgets, Knows, DeliversOn, NewTicks, ChildAsks, Asks, wanted_by_age, wanted_upto, SendsExpect, Expects, IsConsolidatedUpto, reclaimed_lines, HostWakes, Wakes, Publishes, RulesDetermine}
use Rattle.gr_tick.proofs.RunLaws.{runs_equal, value_at-in, value_at-below, value_at-above, value_at-start}
use Rattle.gr_model_calls.proofs.calls.Told.{said_equal}
use Rattle.gr_model_calls.proofs.rules.CallRules.{flat_map_same}
use Rattle.gr_model_calls.proofs.rules.Views.{apart}

-- Pieces

known_same : (f g : ℕ → K) (x y : Known) → HasKnown f x → HasKnown g y → ((t : ℕ) → f t ≡ g t) → x ≡ y
known_same f g x y a b h = runs_equal Q 1 1 x y a.runs b.runs (λ t. a.each t ∙ (h t ∙ sym (b.each t)))

wanted_same : (f g : ℕ → Q3) (x y : Wanted) → HasWanted f x → HasWanted g y → ((t : ℕ) → f t ≡ g t) → x ≡ y
wanted_same f g x y a b h = runs_equal N 1 1 x y a.runs b.runs (λ t. a.each t ∙ (h t ∙ sym (b.each t)))

asked_same : (f g : ℕ → Moment) (x y : Asked) → HasAsked f x → HasAsked g y → ((t : ℕ) → f t ≡ g t) → x ≡ y
asked_same f g x y a b h = runs_equal Never 1 1 x y a.runs b.runs (λ t. a.each t ∙ (h t ∙ sym (b.each t)))

-- what is kept of the moment of an ask
abbrev kept_moment : Net → ℕ → ℕ → K → Moment → Moment
kept_moment net p b k moment = if is_F k && not (is_host net p b) then Never else moment

-- what is stored of each child is all that is stored
stored_same : (cs : List ℕ) (xs ys : List Wanted) → IsDistinct cs → length xs ≡ length cs → length ys ≡ length cs → ((c : ℕ) → list_any (λ x. nat_eq x c) cs ≡ true → get_or xs (place_of c cs) [] ≡ get_or ys (place_of c cs) []) → xs ≡ ys
stored_same [] [] [] d a b h = refl
stored_same [] [] (y ∷ ys) d a b h = absurd (omega (arith, b))
stored_same [] (x ∷ xs) ys d a b h = absurd (omega (arith, a))
stored_same (c ∷ cs) [] ys d a b h = absurd (omega (arith, a))
stored_same (c ∷ cs) (x ∷ xs) [] d a b h = absurd (omega (arith, b))
stored_same (c ∷ cs) (x ∷ xs) (y ∷ ys) d a b h =
    let same : nat_eq c c ≡ true = eq-eqb c c refl in
    let here : get_or (x ∷ xs) (if nat_eq c c then 0 else suc (place_of c cs)) [] ≡ get_or (y ∷ ys) (if nat_eq c c then 0 else suc (place_of c cs)) [] = h c (or_left (nat_eq c c) (list_any (λ z. nat_eq z c) cs) same) in
    ap₂ (λ z zs. z ∷ zs) (subst (λ q. get_or (x ∷ xs) (if q then 0 else suc (place_of c cs)) [] ≡ get_or (y ∷ ys) (if q then 0 else suc (place_of c cs)) []) same here)
    (stored_same cs xs ys d.1 (omega (arith, a)) (omega (arith, b)) (λ e m.
    subst (λ q. get_or (x ∷ xs) (if q then 0 else suc (place_of e cs)) [] ≡ get_or (y ∷ ys) (if q then 0 else suc (place_of e cs)) []) (apart c e cs d.0 m) (h e (or_right (nat_eq c e) (list_any (λ z. nat_eq z e) cs) m))))

-- The horizon

moves_below : (keeps : Bool) (h k j : ℕ) (at : ℕ → K) → Moves keeps h k at → Moves keeps h j at → k < j → keeps ≡ true → ⊥
moves_below keeps h k j at a b l e = b.known (suc k) (omega (arith, a.on)) l (a.stops e)

moves_same : (keeps : Bool) (h k j : ℕ) (at : ℕ → K) → Moves keeps h k at → Moves keeps h j at → k ≡ j
moves_same keeps h k j at a b =
    elim (cases_Bool keeps) [
      | inl e ↦ elim (cases_lt k j) [
        | inl l ↦ absurd (moves_below keeps h k j at a b l e)
        | inr l ↦ elim (cases_lt j k) [
          | inl m ↦ absurd (moves_below keeps h j k at b a m e)
          | inr m ↦ omega (arith, l, m)
        ]
      ]
      | inr e ↦ a.stays e ∙ sym (b.stays e)
    ]

tells_same : (net : Net) (p b h k : ℕ) (at : ℕ → K) (xs ys : List Report) → DeliversOn net p b h k at xs → DeliversOn net p b h k at ys → xs ≡ ys
tells_same net p b h k at xs ys a c = a.lines ∙ (ap (λ z. flat_map (delivery_lines net p h k z) (net.subscribers_at b)) (said_equal 0 0 a.passed c.passed a.rise c.rise (λ t. a.each t ∙ sym (c.each t))) ∙ sym c.lines)

-- How many events there are, tick by tick

abbrev events_upto : (ℕ → K) → ℕ → ℕ
events_upto g zero = 0
events_upto g (suc m) = (if is_D (g (suc m)) then 1 else 0) + events_upto g m

swap : (x y z : ℕ) → x + (y + z) ≡ y + (x + z)
swap x y z = omega arith

-- a run adds its ticks
count_run : (r : Run K) (rs : Known) → 1 ≤ r.first → r.first ≤ r.last → ((t : ℕ) → t ≤ r.last → known_at rs t ≡ Q) → (m : ℕ) → events_upto (known_at (r ∷ rs)) m ≡ (if is_D r.value then suc (min m r.last) - r.first else 0) + events_upto (known_at rs) m
count_run r rs one l above zero = go (is_D r.value)
  where
    go : (q : Bool) → 0 ≡ (if q then suc (min 0 r.last) - r.first else 0) + 0
    go true = omega (arith, one)
    go false = refl
count_run r rs one l above (suc m) =
    let i = count_run r rs one l above m in
    elim (cases_lt (suc m) r.first) [
      | inl h ↦ outside (value_at-below Q r rs (suc m) h) (omega (arith, h)) i
      | inr h ↦ elim (cases_lt r.last (suc m)) [
        | inl g ↦ outside (value_at-above Q r rs (suc m) g) (omega (arith, g)) i
        | inr g ↦ inside (value_at-in Q r rs (suc m) h g) (above (suc m) g) (omega (arith, h, g)) i
      ]
    ]
  where
    old : ℕ
    old = suc (min m r.last) - r.first

    new : ℕ
    new = suc (min (suc m) r.last) - r.first

    rest : ℕ
    rest = events_upto (known_at rs) m

    outside : known_at (r ∷ rs) (suc m) ≡ known_at rs (suc m) → new ≡ old → events_upto (known_at (r ∷ rs)) m ≡ (if is_D r.value then old else 0) + rest →
        (if is_D (known_at (r ∷ rs) (suc m)) then 1 else 0) + events_upto (known_at (r ∷ rs)) m ≡ (if is_D r.value then new else 0) + ((if is_D (known_at rs (suc m)) then 1 else 0) + rest)
    outside e s i = ap₂ (λ k n. (if is_D k then 1 else 0) + n) e i ∙ (swap (if is_D (known_at rs (suc m)) then 1 else 0) (if is_D r.value then old else 0) rest ∙ ap (λ n. (if is_D r.value then n else 0) + ((if is_D (known_at rs (suc m)) then 1 else 0) + rest)) (sym s))

    go : new ≡ suc old → (q : Bool) → (if q then 1 else 0) + ((if q then old else 0) + rest) ≡ (if q then new else 0) + (0 + rest)
    go s true = omega (arith, s)
    go s false = refl

    inside : known_at (r ∷ rs) (suc m) ≡ r.value → known_at rs (suc m) ≡ Q → new ≡ suc old → events_upto (known_at (r ∷ rs)) m ≡ (if is_D r.value then old else 0) + rest →
        (if is_D (known_at (r ∷ rs) (suc m)) then 1 else 0) + events_upto (known_at (r ∷ rs)) m ≡ (if is_D r.value then new else 0) + ((if is_D (known_at rs (suc m)) then 1 else 0) + rest)
    inside e z s i = ap₂ (λ k n. (if is_D k then 1 else 0) + n) e i ∙ (go s (is_D r.value) ∙ ap (λ k. (if is_D r.value then new else 0) + ((if is_D k then 1 else 0) + rest)) (sym z))

-- a tick that no run passes
abbrev bound : Known → ℕ
bound [] = 0
bound (r ∷ rs) = r.last + bound rs

no_events : (m : ℕ) → events_upto (known_at []) m ≡ 0
no_events zero = refl
no_events (suc m) = omega (arith, no_events m)

count_is : (from : ℕ) → 1 ≤ from → (know : Known) → AreRunsFrom Q from know → (m : ℕ) → bound know ≤ m → events_upto (known_at know) m ≡ data_count know
count_is from one [] a m h = no_events m
count_is from one (r ∷ rs) a m h =
    count_run r rs (omega (arith, one, a.0)) a.1 (λ t k. value_at-start Q (suc r.last) rs t a.4 (omega (arith, k))) m
    ∙ ap₂ (λ x y. (if is_D r.value then x else 0) + y) (omega (arith, h)) (count_is (suc r.last) (omega arith) rs a.4 m (omega (arith, h)))

one_le : (x y : Bool) → (x ≡ true → y ≡ true) → (if x then 1 else 0) ≤ (if y then 1 else 0)
one_le true y h = rw (h refl) (le_refl 1)
one_le false y h = omega arith

more_events : (f g : ℕ → K) → ((t : ℕ) → is_D (g t) ≡ true → is_D (f t) ≡ true) → (m : ℕ) → events_upto g m ≤ events_upto f m
more_events f g h zero = le_refl 0
more_events f g h (suc m) = omega (arith, one_le (is_D (g (suc m))) (is_D (f (suc m))) (h (suc m)), more_events f g h m)

fewer_events : (f g : ℕ → K) → ((t : ℕ) → is_D (g t) ≡ true → is_D (f t) ≡ true) → (m t : ℕ) → 1 ≤ t → t ≤ m → is_D (f t) ≡ true → is_D (g t) ≡ false → events_upto g m < events_upto f m
fewer_events f g h zero t a c d n = absurd (omega (arith, a, c))
fewer_events f g h (suc m) t a c d n =
    elim (cases_eq t (suc m)) [
      | inl e ↦
          let x : ◌≡◌ {A = ℕ} (if is_D (g (suc m)) then 1 else 0) 0 = ap (λ q. if q then 1 else 0) (subst (λ z. is_D (g z) ≡ false) e n) in
          let y : ◌≡◌ {A = ℕ} (if is_D (f (suc m)) then 1 else 0) 1 = ap (λ q. if q then 1 else 0) (subst (λ z. is_D (f z) ≡ true) e d) in
          omega (arith, x, y, more_events f g h m)
      | inr e ↦ omega (arith, one_le (is_D (g (suc m))) (is_D (f (suc m))) (h (suc m)), fewer_events f g h m t a (omega (arith, c, e)) d n)
    ]

-- Forgetting

gone : (net : Net) (p b h : ℕ) (full kept : Known) (a : Forgets net p b h full kept) (t : ℕ) → is_D (known_at full t) ≡ true → t ≤ a.last → known_at kept t ≡ Q
gone net p b h full kept a t d l = a.kept_is.each t ∙ ap₂ (λ x y. if x && y then Q else known_at full t) d (le-leb t a.last l)

left_past : (net : Net) (p b h : ℕ) (full kept : Known) (a : Forgets net p b h full kept) (t : ℕ) → a.last < t → known_at kept t ≡ known_at full t
left_past net p b h full kept a t l = a.kept_is.each t ∙ ap (λ x. if x then Q else known_at full t) (ap (λ y. is_D (known_at full t) && y) (lt-leb t a.last l) ∙ and_right (is_D (known_at full t)) false refl)

left_other : (net : Net) (p b h : ℕ) (full kept : Known) (a : Forgets net p b h full kept) (t : ℕ) → is_D (known_at full t) ≡ false → known_at kept t ≡ known_at full t
left_other net p b h full kept a t n = a.kept_is.each t ∙ ap (λ x. if x && nat_le t a.last then Q else known_at full t) n

-- the one that forgets further forgets nothing more
forgets_less : (net : Net) (p b h : ℕ) (full k j : Known) (a : Forgets net p b h full k) (c : Forgets net p b h full j) → is_host net p b ≡ false → a.last ≤ c.last → k ≡ j
forgets_less net p b h full k j a c host le = runs_equal Q 1 1 k j a.kept_is.runs c.kept_is.runs at
  where
    D_of_j : (t : ℕ) → is_D (known_at j t) ≡ true → is_D (known_at k t) ≡ true
    D_of_j t e =
        elim (cases_Bool (is_D (known_at full t))) [
          | inl d ↦ elim (cases_lt c.last t) [
            | inl l ↦ ap is_D (left_past net p b h full k a t (omega (arith, l, le))) ∙ d
            | inr l ↦ absurd (false≢true (sym (ap is_D (gone net p b h full j c t d l)) ∙ e))
          ]
          | inr d ↦ absurd (false≢true (sym (ap is_D (left_other net p b h full j c t d) ∙ d) ∙ e))
        ]

    fewer : (t : ℕ) → is_D (known_at k t) ≡ true → known_at j t ≡ Q → data_count j < data_count k
    fewer t d e =
        elim (cases_lt 0 t) [
          | inl l ↦
              let m = bound k + (bound j + t) in
              let x : events_upto (known_at k) m ≡ data_count k = count_is 1 (le_refl 1) k a.kept_is.runs m (omega arith) in
              let y : events_upto (known_at j) m ≡ data_count j = count_is 1 (le_refl 1) j c.kept_is.runs m (omega arith) in
              let z : events_upto (known_at j) m < events_upto (known_at k) m = fewer_events (known_at k) (known_at j) D_of_j m t l (omega arith) d (ap is_D e) in
              subst (λ u. u < data_count k) y (subst (λ u. events_upto (known_at j) m < u) x z)
          | inr l ↦ absurd (false≢true (sym (ap is_D (value_at-start Q 1 k t a.kept_is.runs (omega (arith, l)))) ∙ d))
        ]

    never : (t : ℕ) → is_D (known_at full t) ≡ true → a.last < t → t ≤ c.last → ⊥
    never t d l m =
        let e : known_at j t ≡ Q = gone net p b h full j c t d m in
        let g : is_D (known_at k t) ≡ true = ap is_D (left_past net p b h full k a t l) ∙ d in
        elim (cases_lt (data_count j) net.cache) [
          | inl x ↦ false≢true (sym (ap is_D (sym (ap (λ z. known_at z t) (c.needed x)) ∙ e)) ∙ d)
          | inr x ↦ false≢true (sym (a.enough host (omega (arith, x, fewer t g e)) t (omega (arith, m, c.within))) ∙ g)
        ]

    at : (t : ℕ) → known_at k t ≡ known_at j t
    at t =
        elim (cases_Bool (is_D (known_at full t))) [
          | inl d ↦ elim (cases_lt c.last t) [
            | inl l ↦ left_past net p b h full k a t (omega (arith, l, le)) ∙ sym (left_past net p b h full j c t l)
            | inr l ↦ elim (cases_lt a.last t) [
              | inl m ↦ absurd (never t d m l)
              | inr m ↦ gone net p b h full k a t d m ∙ sym (gone net p b h full j c t d l)
            ]
          ]
          | inr d ↦ left_other net p b h full k a t d ∙ sym (left_other net p b h full j c t d)
        ]

forgets_same : (net : Net) (p b h : ℕ) (full k j : Known) → Forgets net p b h full k → Forgets net p b h full j → k ≡ j
forgets_same net p b h full k j a c =
    elim (cases_Bool (is_host net p b)) [
      | inl e ↦ known_same (λ t. if is_D (known_at full t) && nat_le t a.last then Q else known_at full t) (λ t. if is_D (known_at full t) && nat_le t c.last then Q else known_at full t) k j a.kept_is c.kept_is (λ t. ap (λ n. if is_D (known_at full t) && nat_le t n then Q else known_at full t) (a.at_host e ∙ sym (c.at_host e)))
      | inr e ↦ elim (cases_lt a.last c.last) [
        | inl l ↦ forgets_less net p b h full k j a c e (omega (arith, l))
        | inr l ↦ sym (forgets_less net p b h full j k c a e l)
      ]
    ]

knows_same : (net : Net) (p b : ℕ) (at : ℕ → K) (v u : View) → Knows net p b at v → Knows net p b at u → v.horizon ≡ u.horizon → v.wants ≡ u.wants → v.know ≡ u.know
knows_same net p b at v u a c eh ew =
    let e : a.full ≡ c.full = known_same (λ t. if is_consolidated_by (keeps_horizon net p b) v.horizon v.wants t then F else at t) (λ t. if is_consolidated_by (keeps_horizon net p b) u.horizon u.wants t then F else at t) a.full c.full a.full_is c.full_is
    (λ t. ap₂ (λ x y. if is_consolidated_by (keeps_horizon net p b) x y t then F else at t) eh ew) in
    forgets_same net p b v.horizon a.full v.know u.know a.forgets (subst (λ x. Forgets net p b v.horizon x u.know) (sym e) (subst (λ x. Forgets net p b x c.full u.know) (sym eh) c.forgets))

-- Views and outcomes

view_same : (v u : View) → v.know ≡ u.know → v.wants ≡ u.wants → v.asks ≡ u.asks → v.horizon ≡ u.horizon → v.joins ≡ u.joins → v ≡ u
view_same v u a b c d e = λ i. record { know = a i; wants = b i; asks = c i; horizon = d i; joins = e i }

outcome_same : (o u : Outcome) → o.view ≡ u.view → o.log ≡ u.log → o.lines ≡ u.lines → o.frames ≡ u.frames → o ≡ u
outcome_same o u a b c d = λ i. record { view = a i; log = b i; lines = c i; frames = d i }

new_ticks_same : (net : Net) (p b : ℕ) (piece : Known) (v : View) (log : Log) (o u : Outcome) → IsDistinct (net.children p b) → NewTicks net p b piece v log o → NewTicks net p b piece v log u → o ≡ u
new_ticks_same net p b piece v log o u distinct a c =
    outcome_same o u (view_same o.view u.view know ws (asked_same _ _ o.view.asks u.view.asks a.asks c.asks (λ t. ap (λ k. kept_moment net p b (known_at k t) (asked_at v.asks t)) know)) hz (a.joins_same ∙ sym c.joins_same)) (a.log_same ∙ sym c.log_same)
    (tells_same net p b v.horizon o.view.horizon joined o.lines u.lines a.lines (subst (λ x. DeliversOn net p b v.horizon x joined u.lines) (sym hz) c.lines))
    (a.frames ∙ (flat_map_same (λ d. know_frames v.joins b d p (a.sent d)) (λ d. know_frames v.joins b d p (c.sent d)) (net.children p b) (λ d m. ap (know_frames v.joins b d p) (sents d m)) ∙ sym c.frames))
  where
    joined : ℕ → K
    joined t = join_K (known_at v.know t) (known_at piece t)

    sents : (d : ℕ) → IsChild net p b d → a.sent d ≡ c.sent d
    sents d m = known_same _ _ (a.sent d) (c.sent d) (a.sent_is d m) (c.sent_is d m) (λ t. refl)

    hz : o.view.horizon ≡ u.view.horizon
    hz = moves_same (keeps_horizon net p b) v.horizon o.view.horizon u.view.horizon joined a.horizon c.horizon

    ws : o.view.wants ≡ u.view.wants
    ws = stored_same (net.children p b) o.view.wants u.view.wants distinct a.all_wants c.all_wants (λ d m. wanted_same _ _ (wants_from net p b o.view d) (wants_from net p b u.view d) (a.wants d m) (c.wants d m)
        (λ t. ap (λ z. if is_C (wanted_at (wants_from net p b v d) t) && not (is_Q (known_at z t)) then N else wanted_at (wants_from net p b v d) t) (sents d m)))

    know : o.view.know ≡ u.view.know
    know = knows_same net p b joined o.view u.view a.know c.know hz ws

child_asks_same : (net : Net) (p b now e : ℕ) (piece : Wanted) (v : View) (log : Log) (o u : Outcome) → IsDistinct (net.children p b) → ChildAsks net p b now e piece v log o → ChildAsks net p b now e piece v log u → o ≡ u
child_asks_same net p b now e piece v log o u distinct a c =
    outcome_same o u (view_same o.view u.view know ws asks hz (a.joins_same ∙ sym c.joins_same)) (a.log_same ∙ sym c.log_same) (a.lines ∙ sym c.lines)
    (a.frames ∙ (ap₂ (λ x y. know_frames v.joins b e p x ++ up_frames net p b y) replies asked ∙ sym c.frames))
  where
    replies : a.reply ≡ c.reply
    replies = known_same _ _ a.reply c.reply a.reply_is c.reply_is (λ t. refl)

    asked : a.asked ≡ c.asked
    asked = wanted_same _ _ a.asked c.asked a.asked_is c.asked_is (λ t. refl)

    hz : o.view.horizon ≡ u.view.horizon
    hz = a.horizon ∙ sym c.horizon

    of_child : (d : ℕ) → IsChild net p b d → wants_from net p b o.view d ≡ wants_from net p b u.view d
    of_child d m =
        elim (cases_eq d e) [
          | inl g ↦ subst (λ z. wants_from net p b o.view z ≡ wants_from net p b u.view z) (sym g) (wanted_same _ _ (wants_from net p b o.view e) (wants_from net p b u.view e) a.wants c.wants (λ t. refl))
          | inr g ↦ a.other_wants d m g ∙ sym (c.other_wants d m g)
        ]

    ws : o.view.wants ≡ u.view.wants
    ws = stored_same (net.children p b) o.view.wants u.view.wants distinct a.all_wants c.all_wants of_child

    know : o.view.know ≡ u.view.know
    know = knows_same net p b _ o.view u.view a.know c.know hz ws

    asks : o.view.asks ≡ u.view.asks
    asks = asked_same _ _ o.view.asks u.view.asks a.asks c.asks (λ t. ap₂ (λ k z. kept_moment net p b (known_at k t) (if is_C (wanted_at z t) then At now else asked_at v.asks t)) know asked)

asks_same : (net : Net) (p b now : ℕ) (wanted : ℕ → Bool) (xs ys : List Frame) (v : View) (log : Log) (o u : Outcome) → Asks net p b now wanted xs v log o → Asks net p b now wanted ys v log u → xs ≡ ys → o ≡ u
asks_same net p b now wanted xs ys v log o u a c more =
    outcome_same o u (view_same o.view u.view know (a.wants ∙ sym c.wants) asks (a.horizon ∙ sym c.horizon) (a.joins_same ∙ sym c.joins_same)) (a.log_same ∙ sym c.log_same) (a.lines ∙ sym c.lines)
    (a.frames ∙ (ap₂ (λ x y. up_frames net p b x ++ y) sents more ∙ sym c.frames))
  where
    asked : a.asked ≡ c.asked
    asked = wanted_same _ _ a.asked c.asked a.asked_is c.asked_is (λ t. refl)

    know : o.view.know ≡ u.view.know
    know = forgets_same net p b v.horizon v.know o.view.know u.view.know a.know c.know

    asks : o.view.asks ≡ u.view.asks
    asks = asked_same _ _ o.view.asks u.view.asks a.asks c.asks (λ t. ap₂ (λ k z. kept_moment net p b (known_at k t) (if is_C (wanted_at z t) then At now else asked_at v.asks t)) know asked)

    sents : a.sent ≡ c.sent
    sents = wanted_same _ _ a.sent c.sent a.sent_is c.sent_is (λ t. ap (λ z. if is_consolidated_by (keeps_horizon net p b) v.horizon v.wants t then A else wanted_at z t) asked)

to_expect_same : (net : Net) (p b tick : ℕ) (v : View) (xs ys : List Frame) → SendsExpect net p b tick v xs → SendsExpect net p b tick v ys → xs ≡ ys
to_expect_same net p b tick v xs ys a c =
    a.frames_are ∙ (flat_map_same (λ d. if a.done d then [] else expect_frame b d p tick ∷ []) (λ d. if c.done d then [] else expect_frame b d p tick ∷ []) (net.children p b) (λ d m. ap (λ q. if q then [] else expect_frame b d p tick ∷ []) (same d m)) ∙ sym c.frames_are)
  where
    same : (d : ℕ) → IsChild net p b d → a.done d ≡ c.done d
    same d m =
        elim (cases_Bool (a.done d)) [
          | inl x ↦ elim (cases_Bool (c.done d)) [
            | inl y ↦ x ∙ sym y
            | inr y ↦ let z = c.not_done d m y in absurd (z.3 (a.is_done d m x z.0 z.1 z.2))
          ]
          | inr x ↦ elim (cases_Bool (c.done d)) [
            | inl y ↦ let z = a.not_done d m x in absurd (z.3 (c.is_done d m y z.0 z.1 z.2))
            | inr y ↦ x ∙ sym y
          ]
        ]

expects_same : (net : Net) (p b now tick : ℕ) (v : View) (log : Log) (o u : Outcome) → Expects net p b now tick v log o → Expects net p b now tick v log u → o ≡ u
expects_same net p b now tick v log o u a c = asks_same net p b now (wanted_upto net p b tick v) a.on c.on v log o u a.asks c.asks (to_expect_same net p b tick v a.on c.on a.on_is c.on_is)

-- The host

upto_below : (net : Net) (p b settled x y : ℕ) (v : View) → IsConsolidatedUpto net p b settled x v → IsConsolidatedUpto net p b settled y v → x < y → ⊥
upto_below net p b settled x y v a c l = false≢true (sym (a.stops (omega (arith, l, c.within))) ∙ c.each (suc x) (omega arith) l)

upto_same : (net : Net) (p b settled x y : ℕ) (v : View) → IsConsolidatedUpto net p b settled x v → IsConsolidatedUpto net p b settled y v → x ≡ y
upto_same net p b settled x y v a c =
    elim (cases_lt x y) [
      | inl l ↦ absurd (upto_below net p b settled x y v a c l)
      | inr l ↦ elim (cases_lt y x) [
        | inl m ↦ absurd (upto_below net p b settled y x v c a m)
        | inr m ↦ omega (arith, l, m)
      ]
    ]

host_wakes_same : (net : Net) (p b now : ℕ) (v : View) (log : Log) (o u : Outcome) → IsDistinct (net.children p b) → HostWakes net p b now v log o → HostWakes net p b now v log u → o ≡ u
host_wakes_same net p b now v log o u distinct a c =
    outcome_same o u (a.view_same ∙ (ap (λ x. x.view) marked ∙ sym c.view_same)) logs
    (a.lines ∙ (ap₂ (λ x (y : Outcome). (if nat_le (log.settled + net.quiet) now then line.Mark p now ∷ [] else []) ++ (if nat_lt log.cut x then line.Cut p x ∷ reclaimed_lines net p y.log else []) ++ y.lines) upto marked ∙ sym c.lines))
    (a.frames ∙ (ap₂ (λ x y. x ++ y) (ap (λ x. x.frames) marked) expected ∙ sym c.frames))
  where
    silent : a.silent ≡ c.silent
    silent = known_same _ _ a.silent c.silent a.silent_is c.silent_is (λ t. refl)

    marked : a.marked ≡ c.marked
    marked =
        elim (cases_lt now (log.settled + net.quiet)) [
          | inl l ↦ a.stays l ∙ sym (c.stays l)
          | inr l ↦ new_ticks_same net p b a.silent v (with_mark log now) a.marked c.marked distinct (a.marks l) (subst (λ x. NewTicks net p b x v (with_mark log now) c.marked) (sym silent) (c.marks l))
        ]

    upto : a.upto ≡ c.upto
    upto = upto_same net p b a.marked.log.settled a.upto c.upto a.marked.view a.upto_is (subst (λ (x : Outcome). IsConsolidatedUpto net p b x.log.settled c.upto x.view) (sym marked) c.upto_is)

    logs : o.log ≡ u.log
    logs =
        elim (cases_lt log.cut a.upto) [
          | inl l ↦ a.cut l ∙ (ap₂ (λ (x : Outcome) y. cut_log_at net.reclaim x.log y) marked upto ∙ sym (c.cut (subst (λ x. log.cut < x) upto l)))
          | inr l ↦ a.no_cut l ∙ (ap (λ x. x.log) marked ∙ sym (c.no_cut (subst (λ x. x ≤ log.cut) upto l)))
        ]

    settled : u.log.settled ≡ o.log.settled
    settled = ap (λ x. x.settled) (sym logs)

    expected : a.expected ≡ c.expected
    expected =
        elim (cases_lt 0 o.log.settled) [
          | inl l ↦ to_expect_same net p b o.log.settled a.marked.view a.expected c.expected (a.expected_is l)
              (subst (λ (x : Outcome). SendsExpect net p b o.log.settled x.view c.expected) (sym marked) (subst (λ x. SendsExpect net p b x c.marked.view c.expected) settled (c.expected_is (omega (arith, l, settled)))))
          | inr l ↦ a.none_expected (omega (arith, l)) ∙ sym (c.none_expected (omega (arith, l, settled)))
        ]

wakes_same : (net : Net) (p b now : ℕ) (v : View) (log : Log) (o u : Outcome) → IsDistinct (net.children p b) → Wakes net p b now v log o → Wakes net p b now v log u → o ≡ u
wakes_same net p b now v log o u distinct a c =
    elim (cases_Bool (is_host net p b)) [
      | inl e ↦ host_wakes_same net p b now v log o u distinct (a.host e) (c.host e)
      | inr e ↦ asks_same net p b now (wanted_by_age net p b now v) [] [] v log o u (a.below e) (c.below e) refl
    ]

publishes_same : (net : Net) (p b now number : ℕ) (e : Event) (v : View) (log : Log) (o u : Outcome) → IsDistinct (net.children p b) → Publishes net p b now number e v log o → Publishes net p b now number e v log u → o ≡ u
publishes_same net p b now number e v log o u distinct a c =
    elim (cases_lt log.last number) [
      | inr l ↦ a.already l ∙ sym (c.already l)
      | inl l ↦ elim (cases_lt (suc log.last) number) [
        | inl m ↦ a.gap m ∙ sym (c.gap m)
        | inr m ↦ last_case (omega (arith, l, m))
      ]
    ]
  where
    tick : ℕ
    tick = max (suc log.settled) now

    piece : a.piece ≡ c.piece
    piece = known_same _ _ a.piece c.piece a.piece_is c.piece_is (λ t. refl)

    last_case : number ≡ suc log.last → o ≡ u
    last_case x =
        elim (cases_lt max_tick tick) [
          | inl l ↦ a.exhausted x l ∙ sym (c.exhausted x l)
          | inr l ↦
              let same : a.learned ≡ c.learned = new_ticks_same net p b a.piece v (with_event log tick e) a.learned c.learned distinct (a.learns x l) (subst (λ z. NewTicks net p b z v (with_event log tick e) c.learned) (sym piece) (c.learns x l)) in
              a.logged x l ∙ (ap (λ (z : Outcome). let w : Outcome = record { view = z.view; log = z.log; lines = line.Logged p number tick ∷ z.lines; frames = z.frames } in w) same ∙ sym (c.logged x l))
        ]

joins_same : (net : Net) (p b now s : ℕ) (v : View) (log : Log) (o u : Outcome) → IsDistinct (net.children p b) → TakesJoin net p b now s v log o → TakesJoin net p b now s v log u → o ≡ u
joins_same net p b now s v log o u distinct a c =
    elim (cases_Bool (has_joined log.joins s)) [
      | inl e ↦ a.already e ∙ sym (c.already e)
      | inr e ↦ elim (cases_lt max_tick tick) [
        | inl l ↦ a.exhausted e l ∙ sym (c.exhausted e l)
        | inr l ↦
            let same : a.learned ≡ c.learned = new_ticks_same net p b a.silent (view_joined log s now v) (with_join log tick s) a.learned c.learned distinct (a.learns e l) (subst (λ z. NewTicks net p b z (view_joined log s now v) (with_join log tick s) c.learned) (sym silent) (c.learns e l)) in
            a.logged e l ∙ (ap (λ (z : Outcome). let w : Outcome = record { view = z.view; log = z.log; lines = line.Joined s p tick ∷ z.lines; frames = z.frames } in w) same ∙ sym (c.logged e l))
      ]
    ]
  where
    tick : ℕ
    tick = max (suc log.settled) now

    silent : a.silent ≡ c.silent
    silent = known_same _ _ a.silent c.silent a.silent_is c.silent_is (λ t. refl)

-- nothing is left open, in every tree
pub determined : (net : Net) (p b : ℕ) → IsNet net → p < net.publishers → b < net.brokers → RulesDetermine net p b
determined net p b n i j = let d = n.children_once p b i j in record {
  new_ticks = λ piece v log o u a c. new_ticks_same net p b piece v log o u d a c;
  child_asks = λ now e piece v log o u a c. child_asks_same net p b now e piece v log o u d a c;
  expects = λ now tick v log o u a c. expects_same net p b now tick v log o u a c;
  wakes = λ now v log o u a c. wakes_same net p b now v log o u d a c;
  publishes = λ now number e v log o u a c. publishes_same net p b now number e v log o u d a c;
  joins = λ now s v log o u a c. joins_same net p b now s v log o u d a c;
}
