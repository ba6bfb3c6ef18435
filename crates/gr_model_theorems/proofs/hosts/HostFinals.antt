-- What a host knows as final: each tick that was cut is, and one that is final was cut or is consolidated. What is cut is consolidated, and
-- final before; no call takes an F back, nor an acknowledgement or a horizon; and nothing final comes to a host
use Rattle.std.proofs.Common.{◌≡◌, ◌≢◌, ◌⊎◌, inl, inr, ℕ, suc, ◌+◌, ◌≤◌, ◌<◌, max, Bool, true, false, not, ◌&&◌, ◌||◌, List, [], ◌∷◌, length, get_or, refl, sym, ap, ap₂, ◌∙◌, subst, arith}
use Rattle.std.specs.Prelude.{nat_eq, nat_le, nat_lt, if◌then◌else◌}
use Rattle.std.specs.List.{list_any}
use Rattle.std.proofs.lemmas.Bool.{cases_eq, cases_lt, cases_Bool, eq-eqb, eqb-true, false≢true, le-leb, le-ltb, leb-true, or_left, or_right, and_parts, and_from}
use Rattle.gr_event.specs.declared.event.Event.{Event}
use Rattle.gr_event.specs.Joins.{Joins, has_joined, longer}
use Rattle.gr_know.specs.declared.values.K.{K}
use Rattle.gr_know.specs.declared.values.K.TheVariants.{Q, S, D, F}
use Rattle.gr_know.specs.Values.{Known, known_at, is_Q, is_D, join_K}
use Rattle.gr_curio.specs.declared.values.Q3.{Q3}
use Rattle.gr_curio.specs.declared.values.Q3.TheVariants.{N, C, A}
use Rattle.gr_curio.specs.Values.{Wanted, wanted_at, is_C, is_A}
use Rattle.gr_frame.specs.declared.Body.{Body}
use Rattle.gr_frame.specs.declared.Body.TheVariants as body
use Rattle.gr_frame.specs.declared.Frame.{Frame}
use Rattle.gr_model.specs.Net.{Net, is_host, keeps_horizon}
use Rattle.gr_model.specs.Broker.{View, Log, Outcome, max_tick, is_consolidated_by, horizon_if, is_reached, all_A, place_of, with_joins, view_joined, with_event, with_mark, with_join, filled_log, with_cut, cut_log_at, reclaims, started, log_at, log_know, event_at}
use Rattle.gr_model.specs.Tree.{IsDistinct}
use Rattle.gr_model_calls.specs.Rules.{HasKnown, IsChild, want_at, HasAllWants, Forgets, Knows, NewTicks, ChildAsks, Asks, silence_upto, event_upto, HostWakes, Publishes, TakesJoin, Comes}
use Rattle.gr_model_calls.proofs.rules.Views.{apart}
use Rattle.gr_model_calls.proofs.runs.Schedules.{log_know-is}
use Rattle.gr_model_theorems.proofs.hosts.FinalTicks.{FinalTicks, forgets_final, knows_final}

-- What a host knows as final, where its log was cut at a tick
pub record Finals (net : Net) (p b cut : ℕ) (v : View) : Type 0 where
  pub cut_final : (t : ℕ) → 1 ≤ t → t ≤ cut → known_at v.know t ≡ F
  pub only : (t : ℕ) → known_at v.know t ≡ F
      → (t ≤ cut) ⊎ (is_consolidated_by (keeps_horizon net p b) v.horizon v.wants t ≡ true)

-- Values

Q_not_F : Q ≡ F → ⊥
Q_not_F e = cc

F_in : (q : Bool) (k : K) → k ≡ F → (if q then F else k) ≡ F
F_in true k e = refl
F_in false k e = e

join_F : (k j : K) → k ≡ F → join_K k j ≡ F
join_F k j e = subst (λ x. join_K x j ≡ F) (sym e) refl

join_Q : (k : K) → join_K k Q ≡ k
join_Q Q = refl
join_Q S = refl
join_Q (D e) = refl
join_Q F = refl

-- what is final now was so before, where what came is of other ticks and is not final
only_old : (k j : K) → (k ≡ Q) ⊎ (j ≡ Q) → j ≢ F → join_K k j ≡ F → k ≡ F
only_old k j (inl e) n h = absurd (n (subst (λ x. join_K x j ≡ F) e h))
only_old k j (inr e) n h = sym (join_Q k) ∙ subst (λ x. join_K k x ≡ F) e h

A_kept : (w : Q3) (q : Bool) → is_A w ≡ true → is_A (if is_C w && q then N else w) ≡ true
A_kept N q e = absurd (false≢true e)
A_kept C q e = absurd (false≢true e)
A_kept A q e = refl

A_noted : (a b : Bool) (x : Q3) → b ≡ true → is_A (if a || b then A else x) ≡ true
A_noted true b x e = refl
A_noted false b x e = subst (λ q. is_A (if false || q then A else x) ≡ true) (sym e) refl

-- What is consolidated stays so

abbrev StaysDone : Net → ℕ → ℕ → View → View → Type 0
StaysDone net p b v u = (t : ℕ) → is_consolidated_by (keeps_horizon net p b) v.horizon v.wants t ≡ true → is_consolidated_by (keeps_horizon net p b) u.horizon u.wants t ≡ true

all_A_stays : (cs : List ℕ) (ws us : List Wanted) (t : ℕ) → IsDistinct cs → length ws ≡ length cs → length us ≡ length cs
    → ((c : ℕ) → list_any (λ x. nat_eq x c) cs ≡ true → is_A (wanted_at (get_or ws (place_of c cs) []) t) ≡ true → is_A (wanted_at (get_or us (place_of c cs) []) t) ≡ true) → all_A ws t ≡ true → all_A us t ≡ true
all_A_stays [] [] [] t d a b h all = refl
all_A_stays [] [] (y ∷ ys) t d a b h all = absurd (omega (arith, b))
all_A_stays [] (x ∷ xs) ys t d a b h all = absurd (omega (arith, a))
all_A_stays (c ∷ cs) [] ys t d a b h all = absurd (omega (arith, a))
all_A_stays (c ∷ cs) (x ∷ xs) [] t d a b h all = absurd (omega (arith, b))
all_A_stays (c ∷ cs) (x ∷ xs) (y ∷ ys) t d a b h all =
    let same : nat_eq c c ≡ true = eq-eqb c c refl in
    let parts = and_parts (is_A (wanted_at x t)) (all_A xs t) all in
    let here : is_A (wanted_at x t) ≡ true → is_A (wanted_at y t) ≡ true =
    subst (λ q. is_A (wanted_at (get_or (x ∷ xs) (if q then 0 else suc (place_of c cs)) []) t) ≡ true → is_A (wanted_at (get_or (y ∷ ys) (if q then 0 else suc (place_of c cs)) []) t) ≡ true) same
    (h c (or_left (nat_eq c c) (list_any (λ z. nat_eq z c) cs) same)) in
    and_from (is_A (wanted_at y t)) (all_A ys t) (here parts.0)
    (all_A_stays cs xs ys t d.1 (omega (arith, a)) (omega (arith, b))
    (λ e m. subst (λ q. is_A (wanted_at (get_or (x ∷ xs) (if q then 0 else suc (place_of e cs)) []) t) ≡ true → is_A (wanted_at (get_or (y ∷ ys) (if q then 0 else suc (place_of e cs)) []) t) ≡ true) (apart c e cs d.0 m)
    (h e (or_right (nat_eq c e) (list_any (λ z. nat_eq z e) cs) m))) parts.1)

reached_on : (keeps : Bool) (h k t : ℕ) → h ≤ k → is_reached (horizon_if keeps h) t ≡ true → is_reached (horizon_if keeps k) t ≡ true
reached_on true h k t l e = let below = leb-true t h e in le-leb t k (omega (arith, l, below))
reached_on false h k t l e = refl

stays_done : (net : Net) (p b : ℕ) (v u : View) → IsDistinct (net.children p b) → HasAllWants net p b v → HasAllWants net p b u → v.horizon ≤ u.horizon
    → ((c t : ℕ) → IsChild net p b c → is_A (want_at net p b v c t) ≡ true → is_A (want_at net p b u c t) ≡ true) → StaysDone net p b v u
stays_done net p b v u d x y l a t c =
    let keeps : Bool = keeps_horizon net p b in
    let one = and_parts (nat_le 1 t && is_reached (horizon_if keeps v.horizon) t) (all_A v.wants t) c in
    let two = and_parts (nat_le 1 t) (is_reached (horizon_if keeps v.horizon) t) one.0 in
    and_from (nat_le 1 t && is_reached (horizon_if keeps u.horizon) t) (all_A u.wants t)
    (and_from (nat_le 1 t) (is_reached (horizon_if keeps u.horizon) t) two.0 (reached_on keeps v.horizon u.horizon t l two.1))
    (all_A_stays (net.children p b) v.wants u.wants t d x y (λ e m. a e t m) one.1)

-- Calls

-- what is final once some was forgotten was so before
forgets_back : (net : Net) (p b h t : ℕ) (full kept : Known) → Forgets net p b h full kept → known_at kept t ≡ F → known_at full t ≡ F
forgets_back net p b h t full kept f e = go (is_D (known_at full t) && nat_le t f.last) (sym (f.kept_is.each t) ∙ e)
  where
    go : (q : Bool) → (if q then Q else known_at full t) ≡ F → known_at full t ≡ F
    go true x = absurd (Q_not_F x)
    go false x = x

knows_finals : (net : Net) (p b cut : ℕ) (at : ℕ → K) (v u : View) → Knows net p b at u → ((t : ℕ) → known_at v.know t ≡ F → at t ≡ F) → ((t : ℕ) → at t ≡ F → known_at v.know t ≡ F)
    → StaysDone net p b v u → Finals net p b cut v → Finals net p b cut u
knows_finals net p b cut at v u k on back stays f = record {
  cut_final = λ t a c. forgets_final net p b u.horizon t k.full u.know k.forgets (k.full_is.each t ∙ F_in (is_consolidated_by (keeps_horizon net p b) u.horizon u.wants t) (at t) (on t (f.cut_final t a c)));
  only = λ t e. go t (is_consolidated_by (keeps_horizon net p b) u.horizon u.wants t) refl (sym (k.full_is.each t) ∙ forgets_back net p b u.horizon t k.full u.know k.forgets e);
}
  where
    go : (t : ℕ) (q : Bool) → is_consolidated_by (keeps_horizon net p b) u.horizon u.wants t ≡ q → (if q then F else at t) ≡ F → (t ≤ cut) ⊎ (is_consolidated_by (keeps_horizon net p b) u.horizon u.wants t ≡ true)
    go t true is x = inr is
    go t false is x = elim (f.only t (back t x)) [
      | inl l ↦ inl l
      | inr d ↦ inr (stays t d)
    ]

-- what comes to a host: of no tick of which it knows, and nothing final
pub record IsFresh (v : View) (piece : Known) : Type 0 where
  pub new : (t : ℕ) → (known_at v.know t ≡ Q) ⊎ (known_at piece t ≡ Q)
  pub not_final : (t : ℕ) → known_at piece t ≢ F

new_finals : (net : Net) (p b cut : ℕ) (piece : Known) (v : View) (log : Log) (o : Outcome) → IsDistinct (net.children p b) → HasAllWants net p b v → IsFresh v piece → NewTicks net p b piece v log o
    → Finals net p b cut v → Finals net p b cut o.view
new_finals net p b cut piece v log o d x fresh r f =
    knows_finals net p b cut (λ t. join_K (known_at v.know t) (known_at piece t)) v o.view r.know
    (λ t e. join_F (known_at v.know t) (known_at piece t) e)
    (λ t e. only_old (known_at v.know t) (known_at piece t) (fresh.new t) (fresh.not_final t) e)
    (stays_done net p b v o.view d x r.all_wants r.horizon.on kept) f
  where
    kept : (c t : ℕ) → IsChild net p b c → is_A (want_at net p b v c t) ≡ true → is_A (want_at net p b o.view c t) ≡ true
    kept c t m e = ap is_A ((r.wants c m).each t) ∙ A_kept (want_at net p b v c t) (not (is_Q (known_at (r.sent c) t))) e

child_finals : (net : Net) (p b now c cut : ℕ) (piece : Wanted) (v : View) (log : Log) (o : Outcome) → IsDistinct (net.children p b) → HasAllWants net p b v → ChildAsks net p b now c piece v log o
    → Finals net p b cut v → Finals net p b cut o.view
child_finals net p b now c cut piece v log o d x r f =
    let same = r.horizon in
    knows_finals net p b cut (λ t. known_at v.know t) v o.view r.know (λ t e. e) (λ t e. e)
    (stays_done net p b v o.view d x r.all_wants (omega (arith, same)) kept) f
  where
    other : ℕ → Q3
    other t = if is_C (wanted_at piece t) then (if is_Q (known_at v.know t) then C else N) else want_at net p b v c t

    kept : (e t : ℕ) → IsChild net p b e → is_A (want_at net p b v e t) ≡ true → is_A (want_at net p b o.view e t) ≡ true
    kept e t m h = elim (cases_eq e c) [
      | inl same ↦ subst (λ z. is_A (want_at net p b o.view z t) ≡ true) (sym same)
          (ap is_A (r.wants.each t) ∙ A_noted (is_A (wanted_at piece t)) (is_A (want_at net p b v c t)) (other t) (subst (λ z. is_A (want_at net p b v z t) ≡ true) same h))
      | inr n ↦ ap (λ z. is_A (wanted_at z t)) (r.other_wants e m n) ∙ h
    ]

asks_finals : (net : Net) (p b now cut : ℕ) (wanted : ℕ → Bool) (more : List Frame) (v : View) (log : Log) (o : Outcome) → Asks net p b now wanted more v log o → Finals net p b cut v → Finals net p b cut o.view
asks_finals net p b now cut wanted more v log o a f = record {
  cut_final = λ t x c. forgets_final net p b v.horizon t v.know o.view.know a.know (f.cut_final t x c);
  only = λ t e. elim (f.only t (forgets_back net p b v.horizon t v.know o.view.know a.know e)) [
    | inl l ↦ inl l
    | inr d ↦ inr (ap₂ (λ h ws. is_consolidated_by (keeps_horizon net p b) h ws t) a.horizon a.wants ∙ d)
  ];
}

-- The host's own calls

-- nothing is known past what is settled
abbrev pub NonePast : View → ℕ → Type 0
NonePast v settled = (t : ℕ) → settled < t → known_at v.know t ≡ Q

silence_fresh : (settled now : ℕ) (v : View) (piece : Known) → NonePast v settled → HasKnown (silence_upto settled now) piece → IsFresh v piece
silence_fresh settled now v piece past k = record {
  new = λ t. elim (cases_lt settled t) [
    | inl l ↦ inl (past t l)
    | inr l ↦ inr (k.each t ∙ ap (λ q. if q && nat_le t now then S else Q) (le-ltb settled t l))
  ];
  not_final = λ t e. go (nat_lt settled t && nat_le t now) (sym (k.each t) ∙ e);
}
  where
    go : (q : Bool) → (if q then S else Q) ≡ F → ⊥
    go true x = let bad : S ≡ F = x in cc
    go false x = Q_not_F x

event_fresh : (settled tick : ℕ) (e : Event) (v : View) (piece : Known) → settled < tick → NonePast v settled → HasKnown (event_upto settled tick e) piece → IsFresh v piece
event_fresh settled tick e v piece above past k = record {
  new = λ t. elim (cases_lt settled t) [
    | inl l ↦ inl (past t l)
    | inr l ↦ inr (k.each t ∙ (ap (λ q. if q then D e else (if nat_lt settled t && nat_lt t tick then S else Q)) (other t l)
        ∙ ap (λ q. if q && nat_lt t tick then S else Q) (le-ltb settled t l)))
  ];
  not_final = λ t x. go (nat_eq t tick) (nat_lt settled t && nat_lt t tick) (sym (k.each t) ∙ x);
}
  where
    other : (t : ℕ) → t ≤ settled → nat_eq t tick ≡ false
    other t l = elim (cases_Bool (nat_eq t tick)) [
      | inl y ↦ let same = eqb-true t tick y in absurd (omega (arith, same, l, above))
      | inr y ↦ y
    ]

    go : (q r : Bool) → (if q then D e else (if r then S else Q)) ≡ F → ⊥
    go true r x = let bad : D e ≡ F = x in cc
    go false true x = let bad : S ≡ F = x in cc
    go false false x = Q_not_F x

cut_is : (reclaim : ℕ) (l : Log) (tick : ℕ) → (cut_log_at reclaim l tick).cut ≡ tick
cut_is reclaim l tick = go (reclaims reclaim l.size l.generation)
  where
    go : (q : Bool) → (let m : Log = if q then filled_log (with_cut l tick) else with_cut l tick in m.cut) ≡ tick
    go true = refl
    go false = refl

pub host_finals : (net : Net) (p b now : ℕ) (v : View) (log : Log) (o : Outcome) → IsDistinct (net.children p b) → HasAllWants net p b v → NonePast v log.settled → HostWakes net p b now v log o
    → FinalTicks net p b v → Finals net p b log.cut v → Finals net p b o.log.cut o.view
host_finals net p b now v log o d x past w final f =
    subst (Finals net p b o.log.cut) (sym w.view_same) (elim (cases_lt log.cut w.upto) [
      | inl l ↦ subst (λ k. Finals net p b k w.marked.view) (sym (ap (λ (m : Log). m.cut) (w.cut l) ∙ cut_is net.reclaim w.marked.log w.upto)) (record {
        cut_final = λ t a c. marked_final t (w.upto_is.each t a c);
        only = λ t e. elim (marked.only t e) [
          | inl k ↦ inl (omega (arith, k, l))
          | inr y ↦ inr y
        ];
      })
      | inr l ↦ subst (λ k. Finals net p b k w.marked.view) (sym (ap (λ (m : Log). m.cut) (w.no_cut l) ∙ marked_cut)) marked
    ])
  where
    marked : Finals net p b log.cut w.marked.view
    marked = elim (cases_lt now (log.settled + net.quiet)) [
      | inl l ↦ subst (λ (u : Outcome). Finals net p b log.cut u.view) (sym (w.stays l)) f
      | inr l ↦ new_finals net p b log.cut w.silent v (with_mark log now) w.marked d x (silence_fresh log.settled now v w.silent past w.silent_is) (w.marks l) f
    ]

    marked_final : FinalTicks net p b w.marked.view
    marked_final = elim (cases_lt now (log.settled + net.quiet)) [
      | inl l ↦ subst (λ (u : Outcome). FinalTicks net p b u.view) (sym (w.stays l)) final
      | inr l ↦ knows_final net p b _ w.marked.view (w.marks l).know
    ]

    marked_cut : w.marked.log.cut ≡ log.cut
    marked_cut = elim (cases_lt now (log.settled + net.quiet)) [
      | inl l ↦ ap (λ (u : Outcome). u.log.cut) (w.stays l)
      | inr l ↦ ap (λ (m : Log). m.cut) (w.marks l).log_same
    ]

-- what a host's call leaves, of the log afterwards
abbrev FinalsOf : Net → ℕ → ℕ → Outcome → Type 0
FinalsOf net p b u = Finals net p b u.log.cut u.view

pub publish_finals : (net : Net) (p b now number : ℕ) (e : Event) (v : View) (log : Log) (o : Outcome) → IsDistinct (net.children p b) → HasAllWants net p b v → NonePast v log.settled
    → Publishes net p b now number e v log o → Finals net p b log.cut v → Finals net p b o.log.cut o.view
publish_finals net p b now number e v log o d x past r f =
    elim (cases_lt log.last number) [
      | inr l ↦ subst (FinalsOf net p b) (sym (r.already l)) f
      | inl l ↦ elim (cases_eq number (suc log.last)) [
        | inr n ↦ subst (FinalsOf net p b) (sym (r.gap (omega (arith, above number (suc log.last) l n)))) f
        | inl y ↦ elim (cases_lt max_tick (max (suc log.settled) now)) [
          | inl m ↦ subst (FinalsOf net p b) (sym (r.exhausted y m)) f
          | inr m ↦ subst (FinalsOf net p b) (sym (r.logged y m)) (subst (λ (k : Log). Finals net p b k.cut r.learned.view) (sym (r.learns y m).log_same)
              (new_finals net p b log.cut r.piece v (with_event log (max (suc log.settled) now) e) r.learned d x
              (event_fresh log.settled (max (suc log.settled) now) e v r.piece (omega arith) past r.piece_is) (r.learns y m) f))
        ]
      ]
    ]
  where
    above : (a c : ℕ) → c ≤ a → a ≢ c → c < a
    above a c l n = elim (cases_lt c a) [
      | inl z ↦ z
      | inr z ↦ absurd (n (omega (arith, l, z)))
    ]

pub join_finals : (net : Net) (p b now s : ℕ) (v : View) (log : Log) (o : Outcome) → IsDistinct (net.children p b) → HasAllWants net p b v → NonePast v log.settled → TakesJoin net p b now s v log o
    → Finals net p b log.cut v → Finals net p b o.log.cut o.view
join_finals net p b now s v log o d x past r f =
    elim (cases_Bool (has_joined log.joins s)) [
      | inl e ↦ subst (FinalsOf net p b) (sym (r.already e)) f
      | inr e ↦ elim (cases_lt max_tick (max (suc log.settled) now)) [
        | inl m ↦ subst (FinalsOf net p b) (sym (r.exhausted e m)) f
        | inr m ↦ subst (FinalsOf net p b) (sym (r.logged e m)) (subst (λ (k : Log). Finals net p b k.cut r.learned.view) (sym (r.learns e m).log_same)
            (new_finals net p b log.cut r.silent (view_joined log s now v) (with_join log (max (suc log.settled) now) s) r.learned d x
            (silence_fresh log.settled (max (suc log.settled) now) (view_joined log s now v) r.silent past r.silent_is) (r.learns e m)
            (record { cut_final = f.cut_final; only = f.only })))
      ]
    ]

-- A frame that comes to the host brings no knowledge
pub comes_finals : (net : Net) (p from to now : ℕ) (y : Body) (v : View) (log : Log) (o : Outcome) → IsDistinct (net.children p to) → HasAllWants net p to v → ((runs : Known) (js : Joins) → y ≡ body.Knowledge runs js → (t : ℕ) → known_at runs t ≡ Q)
    → Comes net p from to now y v log o → Finals net p to log.cut v → Finals net p to o.log.cut o.view
comes_finals net p from to now (body.Knowledge runs js) v log o d x none c f =
    subst (λ (k : Log). Finals net p to k.cut o.view) (sym c.log_same)
    (new_finals net p to log.cut runs (with_joins v (longer v.joins js)) log o d x (record { new = λ t. inr (none runs js refl t); not_final = λ t e. Q_not_F (sym (none runs js refl t) ∙ e) }) c
    (record { cut_final = f.cut_final; only = f.only }))
comes_finals net p from to now (body.Curiosity runs) v log o d x none c f = subst (λ (k : Log). Finals net p to k.cut o.view) (sym c.log_same) (child_finals net p to now from log.cut runs v log o d x c f)
comes_finals net p from to now (body.Expect tick) v log o d x none c f = subst (λ (k : Log). Finals net p to k.cut o.view) (sym c.asks.log_same) (asks_finals net p to now log.cut _ _ v log o c.asks f)

-- A start: the host knows what the log says

event_not_F : (events : List (ℕ × Event)) (t : ℕ) → event_at events t ≢ F
event_not_F [] t e = let bad : S ≡ F = e in cc
event_not_F (x ∷ xs) t e = go (nat_eq x.0 t) e (event_not_F xs t)
  where
    go : (q : Bool) → (if q then D x.1 else event_at xs t) ≡ F → event_at xs t ≢ F → ⊥
    go true y n = let bad : D x.1 ≡ F = y in cc
    go false y n = n y

pub started_finals : (net : Net) (p b : ℕ) (log : Log) → is_host net p b ≡ true → log.cut ≤ log.settled → Finals net p b log.cut (started net p b log)
unfolding started
started_finals net p b log host within = record {
  cut_final = λ t a c. said t ∙ (ap (λ q. if q && nat_le t log.settled then (if nat_le t log.cut then F else event_at log.events t) else Q) (le-leb 1 t a)
      ∙ (ap (λ q. if q then (if nat_le t log.cut then F else event_at log.events t) else Q) (le-leb t log.settled (omega (arith, c, within)))
      ∙ ap (λ q. if q then F else event_at log.events t) (le-leb t log.cut c)));
  only = λ t e. inl (go t (nat_le 1 t && nat_le t log.settled) (cases_Bool (nat_le t log.cut)) (sym (said t) ∙ e));
}
  where
    said : (t : ℕ) → known_at (if is_host net p b then log_know log else []) t ≡ log_at log t
    said t = ap (λ q. known_at (if q then log_know log else []) t) host ∙ (log_know-is log).same_at t

    go : (t : ℕ) (q : Bool) → (nat_le t log.cut ≡ true) ⊎ (nat_le t log.cut ≡ false) → (if q then (if nat_le t log.cut then F else event_at log.events t) else Q) ≡ F → t ≤ log.cut
    go t q (inl c) e = leb-true t log.cut c
    go t false (inr c) e = absurd (Q_not_F e)
    go t true (inr c) e = absurd (event_not_F log.events t (sym (ap (λ r. if r then F else event_at log.events t) c) ∙ e))
