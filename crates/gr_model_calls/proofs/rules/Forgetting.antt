-- Forgetting lowers the least event ticks, as many as are too many
use Rattle.std.proofs.Common.{◌≡◌, ◌⊎◌, inl, inr, ⊎_elim, ℕ, suc, ◌+◌, ◌-◌, ◌≤◌, ◌<◌, min, max, Bool, true, false, ◌&&◌, [], ◌∷◌, refl, sym, ap, ◌∙◌, arith, add-zero}
use Rattle.std.specs.Prelude.{nat_le, nat_lt, if◌then◌else◌}
use Rattle.std.proofs.lemmas.Bool.{and_parts, and_right, cases_Bool, cases_lt, both_ways, leb-true, ltb-true, ltb-false, le-leb, lt-leb, le-ltb}
use Rattle.gr_know.specs.declared.values.K.{K}
use Rattle.gr_know.specs.declared.values.K.TheVariants.{Q}
use Rattle.gr_tick.specs.declared.run.Run.{Run}
use Rattle.gr_tick.specs.Runs.{AreRuns, AreRunsFrom}
use Rattle.gr_know.specs.Values.{Known, known_at, is_D}
use Rattle.gr_model.specs.Net.{Net, is_host}
use Rattle.gr_model.specs.Broker.{View, lower_data, without_front, forgotten, kept_view_below, kept_view, data_count}
use Rattle.gr_model_calls.specs.Rules.{Forgets, forgets_upto}
use Rattle.gr_tick.proofs.RunLaws.{value_at-in, value_at-below, value_at-above, value_at-start}
use Rattle.gr_model_calls.proofs.calls.Pieces.{forgotten-is}

-- A run without its front

-- nothing is known up to the end of a run
abbrev Above : ℕ → Known → Type 0
Above n rs = (t : ℕ) → t ≤ n → known_at rs t ≡ Q

-- the front is gone, and all else is there
front_gone : (k : ℕ) (r : Run K) (rs : Known) (t : ℕ) → Above r.last rs → r.first + k ≤ suc r.last → r.first ≤ t → t < r.first + k → known_at (without_front k r rs) t ≡ Q
front_gone k r rs t a b h l =
    elim (cases_Bool (nat_lt r.last (r.first + k))) [
      | inl e ↦ rw e (elim (cases_lt r.last t) [
        | inl y ↦ absurd (omega (arith, y, l, b))
        | inr y ↦ a t y
      ])
      | inr e ↦ rw e (value_at-below Q (record { first = r.first + k; last = r.last; value = r.value }) rs t l ∙ a t (omega (arith, ltb-false r.last (r.first + k) e)))
    ]

front_stays : (k : ℕ) (r : Run K) (rs : Known) (t : ℕ) → Above r.last rs → (t < r.first) ⊎ (r.first + k ≤ t) → known_at (without_front k r rs) t ≡ known_at (r ∷ rs) t
front_stays k r rs t a h =
    elim (cases_Bool (nat_lt r.last (r.first + k))) [
      | inl e ↦ rw e (⊎_elim (λ x. sym (value_at-below Q r rs t x)) (λ x. sym (value_at-above Q r rs t (omega (arith, x, ltb-true r.last (r.first + k) e)))) h)
      | inr e ↦ rw e (⊎_elim (λ x. value_at-below Q left rs t (omega (arith, x)) ∙ sym (value_at-below Q r rs t x))
          (λ x. elim (cases_lt r.last t) [
            | inl y ↦ value_at-above Q left rs t y ∙ sym (value_at-above Q r rs t y)
            | inr y ↦ value_at-in Q left rs t x y ∙ sym (value_at-in Q r rs t (omega (arith, x)) y)
          ]) h)
    ]
  where
    left : Run K
    left = record { first = r.first + k; last = r.last; value = r.value }

-- its events are fewer by so many
front_count : (k : ℕ) (r : Run K) (rs : Known) → is_D r.value ≡ true → r.first ≤ r.last → r.first + k ≤ suc r.last → data_count (without_front k r rs) + k ≡ data_count (r ∷ rs)
front_count k r rs d l h =
    elim (cases_Bool (nat_lt r.last (r.first + k))) [
      | inl e ↦ rw e (rw d (omega (arith, ltb-true r.last (r.first + k) e)))
      | inr e ↦ rw e (rw d (omega (arith, ltb-false r.last (r.first + k) e)))
    ]

front_none : (r : Run K) (rs : Known) → r.first ≤ r.last → without_front 0 r rs ≡ r ∷ rs
front_none r rs l = ap (λ n. if nat_lt r.last n then rs else record { first = n; last = r.last; value = r.value } ∷ rs) (add-zero r.first) ∙ rw (le-ltb r.last r.first l) refl

-- Lowering

record Lowers (n upto : ℕ) (know new : Known) : Type 0 where
  last : ℕ
  within : last ≤ upto
  each : (t : ℕ) → known_at new t ≡ (if is_D (known_at know t) && nat_le t last then Q else known_at know t)
  count : data_count know ≤ data_count new + n
  enough : data_count know < data_count new + n → (t : ℕ) → t ≤ upto → is_D (known_at new t) ≡ false
  none : n ≡ 0 → new ≡ know

abbrev goes : ℕ → Run K → Bool
goes upto r = is_D r.value && nat_le r.first upto

abbrev going : ℕ → ℕ → Run K → ℕ
going n upto r = min n (suc (min r.last upto) - r.first)

-- what is lowered stays unknown where nothing was known
lowered_above : (n upto m : ℕ) (know new : Known) → Lowers n upto know new → Above m know → Above m new
lowered_above n upto m know new l a t h = l.each t ∙ ap (λ k. if is_D k && nat_le t l.last then Q else k) (a t h)

-- at a tick with this value
lower_at : (k : K) (t last : ℕ) → (is_D k && nat_le t last) ≡ false → (if is_D k && nat_le t last then Q else k) ≡ k
lower_at k t last e = rw e refl

gone_at : (k : K) (t last : ℕ) → is_D k ≡ true → t ≤ last → Q ≡ (if is_D k && nat_le t last then Q else k)
gone_at k t last d h = rw (d, le-leb t last h) refl

past_at : (k : K) (t last : ℕ) → last < t → k ≡ (if is_D k && nat_le t last then Q else k)
past_at k t last h = sym (lower_at k t last (ap (λ q. is_D k && q) (lt-leb t last h) ∙ and_right (is_D k) false refl))

lowers : (n upto from : ℕ) → 1 ≤ from → (know : Known) → AreRunsFrom Q from know → Lowers n upto know (lower_data n upto know)
unfolding lower_data
lowers n upto from one [] a = record { last = 0; within = omega arith; each = λ t. refl; count = omega arith; enough = λ l t h. refl; none = λ e. refl }
lowers n upto from one (q ∷ qs) a = go (goes upto q) refl (lowers (n - going n upto q) upto (suc q.last) (omega arith) qs a.4) (lowers n upto (suc q.last) (omega arith) qs a.4)
  where
    above : Above q.last qs
    above t h = value_at-start Q (suc q.last) qs t a.4 (omega (arith, h))

    k : ℕ
    k = going n upto q

    whole_below : (t : ℕ) → t < q.first → known_at (q ∷ qs) t ≡ Q
    whole_below t h = value_at-below Q q qs t h ∙ above t (omega (arith, h, a.1))

    and_true : (x : Bool) → (x && true) ≡ x
    and_true true = refl
    and_true false = refl

    not_D : goes upto q ≡ false → q.first ≤ upto → is_D q.value ≡ false
    not_D e h = sym (ap (λ x. is_D q.value && x) (le-leb q.first upto h) ∙ and_true (is_D q.value)) ∙ e

    in_run : goes upto q ≡ false → (j : Lowers n upto qs (lower_data n upto qs)) → (t : ℕ) → q.first ≤ t → q.value ≡ (if is_D q.value && nat_le t j.last then Q else q.value)
    in_run e j t h =
        elim (cases_lt upto t) [
          | inl y ↦ past_at q.value t j.last (omega (arith, y, j.within))
          | inr y ↦ sym (lower_at q.value t j.last (ap (λ x. x && nat_le t j.last) (not_D e (omega (arith, h, y)))))
        ]

    stays : goes upto q ≡ false → Lowers n upto qs (lower_data n upto qs) → Lowers n upto (q ∷ qs) (q ∷ lower_data n upto qs)
    stays e j = record {
      last = j.last;
      within = j.within;
      each = λ t. elim (cases_lt t q.first) [
        | inl h ↦ value_at-below Q q (lower_data n upto qs) t h ∙ (lowered_above n upto q.last qs (lower_data n upto qs) j above t (omega (arith, h, a.1)) ∙ ap (λ x. if is_D x && nat_le t j.last then Q else x) (sym (whole_below t h)))
        | inr h ↦ elim (cases_lt q.last t) [
          | inl y ↦ value_at-above Q q (lower_data n upto qs) t y ∙ (j.each t ∙ ap (λ x. if is_D x && nat_le t j.last then Q else x) (sym (value_at-above Q q qs t y)))
          | inr y ↦ value_at-in Q q (lower_data n upto qs) t h y ∙ (in_run e j t h ∙ ap (λ x. if is_D x && nat_le t j.last then Q else x) (sym (value_at-in Q q qs t h y)))
        ]
      ];
      count = omega (arith, j.count);
      enough = λ l t h. elim (cases_lt t q.first) [
        | inl g ↦ ap is_D (value_at-below Q q (lower_data n upto qs) t g ∙ lowered_above n upto q.last qs (lower_data n upto qs) j above t (omega (arith, g, a.1)))
        | inr g ↦ elim (cases_lt q.last t) [
          | inl y ↦ ap is_D (value_at-above Q q (lower_data n upto qs) t y) ∙ j.enough (omega (arith, l)) t h
          | inr y ↦ ap is_D (value_at-in Q q (lower_data n upto qs) t g y) ∙ not_D e (omega (arith, g, h))
        ]
      ];
      none = λ z. ap (λ x. q ∷ x) (j.none z);
    }

    each_of : (last : ℕ) (rest : Known) → is_D q.value ≡ true → Above q.last rest → q.first + k ≤ suc q.last → ((t : ℕ) → t < q.first + k → t ≤ last) → ((t : ℕ) → q.first + k ≤ t → t ≤ q.last → last < t) →
        ((t : ℕ) → q.last < t → known_at rest t ≡ (if is_D (known_at qs t) && nat_le t last then Q else known_at qs t)) → (t : ℕ) → known_at (without_front k q rest) t ≡ (if is_D (known_at (q ∷ qs) t) && nat_le t last then Q else known_at (q ∷ qs) t)
    each_of last rest d ab b inside beyond past t =
        elim (cases_lt t q.first) [
          | inl h ↦ front_stays k q rest t ab (inl h) ∙ (value_at-below Q q rest t h ∙ (ab t (omega (arith, h, a.1)) ∙ ap (λ x. if is_D x && nat_le t last then Q else x) (sym (whole_below t h))))
          | inr h ↦ elim (cases_lt t (q.first + k)) [
            | inl g ↦ front_gone k q rest t ab b h g ∙ (gone_at q.value t last d (inside t g) ∙ ap (λ x. if is_D x && nat_le t last then Q else x) (sym (value_at-in Q q qs t h (omega (arith, g, b)))))
            | inr g ↦ front_stays k q rest t ab (inr g) ∙ (elim (cases_lt q.last t) [
              | inl y ↦ value_at-above Q q rest t y ∙ (past t y ∙ ap (λ x. if is_D x && nat_le t last then Q else x) (sym (value_at-above Q q qs t y)))
              | inr y ↦ value_at-in Q q rest t h y ∙ (past_at q.value t last (beyond t g y) ∙ ap (λ x. if is_D x && nat_le t last then Q else x) (sym (value_at-in Q q qs t h y)))
            ])
          ]
        ]

    -- a part of the run is enough
    partly : is_D q.value ≡ true → q.first ≤ upto → n ≤ suc (min q.last upto) - q.first → Lowers (n - k) upto qs (lower_data (n - k) upto qs) → Lowers n upto (q ∷ qs) (without_front k q (lower_data (n - k) upto qs))
    partly d f l i =
        let rest = lower_data (n - k) upto qs in
        let same : rest ≡ qs = i.none (omega (arith, l)) in
        let whole : data_count (without_front k q rest) + k ≡ data_count (q ∷ rest) = front_count k q rest d a.1 (omega (arith, l, a.1)) in
        let counts : data_count (q ∷ rest) ≡ data_count (q ∷ qs) = ap (λ x. data_count (q ∷ x)) same in
        record {
          last = q.first + n - 1;
          within = omega (arith, l, f, a.1);
          each = each_of (q.first + n - 1) rest d (lowered_above (n - k) upto q.last qs rest i above) (omega (arith, l, a.1)) (λ t h. omega (arith, h, l)) (λ t h y. omega (arith, h, l, one, a.0))
              (λ t y. ap (λ x. known_at x t) same ∙ past_at (known_at qs t) t (q.first + n - 1) (omega (arith, y, l, one, a.0)));
          count = omega (arith, whole, counts, l);
          enough = λ m t h. absurd (omega (arith, m, whole, counts, l));
          none = λ z. ap (λ x. without_front x q rest) (let y : k ≡ 0 = omega (arith, z) in y) ∙ (front_none q rest a.1 ∙ ap (λ x. q ∷ x) same);
        }

    max_le : (t m x : ℕ) → m < t → nat_le t x ≡ nat_le t (max m x)
    max_le t m x h =
        elim (cases_lt x t) [
          | inl l ↦ lt-leb t x l ∙ sym (lt-leb t (max m x) (omega (arith, l, h)))
          | inr l ↦ le-leb t x l ∙ sym (le-leb t (max m x) (omega (arith, l, h)))
        ]

    -- the whole of the run that may go goes
    wholly : is_D q.value ≡ true → q.first ≤ upto → suc (min q.last upto) - q.first < n → Lowers (n - k) upto qs (lower_data (n - k) upto qs) → Lowers n upto (q ∷ qs) (without_front k q (lower_data (n - k) upto qs))
    wholly d f l i =
        let rest = lower_data (n - k) upto qs in
        let m = min q.last upto in
        let ab = lowered_above (n - k) upto q.last qs rest i above in
        let whole : data_count (without_front k q rest) + k ≡ data_count (q ∷ rest) = front_count k q rest d a.1 (omega (arith, l, a.1)) in
        record {
          last = max m i.last;
          within = omega (arith, i.within);
          each = each_of (max m i.last) rest d ab (omega (arith, l, a.1)) (λ t h. omega (arith, h, l, a.1, f)) (λ t h y. omega (arith, h, l, y, f, a.1, i.within))
              (λ t y. i.each t ∙ ap (λ x. if is_D (known_at qs t) && x then Q else known_at qs t) (max_le t m i.last (omega (arith, y))));
          count = omega (arith, whole, i.count, l);
          enough = λ z t h. elim (cases_lt q.last t) [
            | inl y ↦ ap is_D (front_stays k q rest t ab (inr (omega (arith, y, l, a.1))) ∙ value_at-above Q q rest t y) ∙ i.enough (omega (arith, whole, z, l)) t h
            | inr y ↦ elim (cases_lt t q.first) [
              | inl g ↦ ap is_D (front_stays k q rest t ab (inl g) ∙ (value_at-below Q q rest t g ∙ ab t y))
              | inr g ↦ ap is_D (front_gone k q rest t ab (omega (arith, l, a.1)) g (omega (arith, y, h, l, a.1, f)))
            ]
          ];
          none = λ z. absurd (omega (arith, z, l));
        }

    go : (x : Bool) → goes upto q ≡ x → Lowers (n - k) upto qs (lower_data (n - k) upto qs) → Lowers n upto qs (lower_data n upto qs) → Lowers n upto (q ∷ qs) (elim x [ true ↦ without_front k q (lower_data (n - k) upto qs) | false ↦ q ∷ lower_data n upto qs ])
    go false e i j = stays e j
    go true e i j =
        let x = and_parts (is_D q.value) (nat_le q.first upto) e in
        elim (cases_lt (suc (min q.last upto) - q.first) n) [
          | inl l ↦ wholly x.0 (leb-true q.first upto x.1) l i
          | inr l ↦ partly x.0 (leb-true q.first upto x.1) l i
        ]

-- By the rule

-- what a broker keeps by the rule of forgetting
pub forgets_by : (net : Net) (p b : ℕ) (v : View) → AreRuns Q v.know → Forgets net p b v.horizon v.know (kept_view net p b v).know
unfolding kept_view forgotten
forgets_by net p b v a = go (is_host net p b) refl
  where
    less : View
    less = kept_view_below net p b v

    n : ℕ
    n = data_count v.know - net.cache

    at_zero : (t : ℕ) → known_at v.know t ≡ (if is_D (known_at v.know t) && nat_le t 0 then Q else known_at v.know t)
    at_zero t =
        elim (cases_lt 0 t) [
          | inl h ↦ past_at (known_at v.know t) t 0 h
          | inr h ↦ let e : known_at v.know t ≡ Q = value_at-start Q 1 v.know t a (omega (arith, h)) in e ∙ ap (λ x. if is_D x && nat_le t 0 then Q else x) (sym e)
        ]

    lowered : Lowers n (forgets_upto net p b v.horizon) v.know less.know
    lowered = lowers n (forgets_upto net p b v.horizon) 1 (omega arith) v.know a

    more : net.cache < data_count less.know → data_count v.know < data_count less.know + n
    more l =
        elim (cases_lt (data_count v.know) net.cache) [
          | inl y ↦ let e : data_count less.know ≡ data_count v.know = ap data_count (lowered.none (omega (arith, y))) in absurd (omega (arith, l, y, e))
          | inr y ↦ omega (arith, l, y)
        ]

    go : (q : Bool) → is_host net p b ≡ q → Forgets net p b v.horizon v.know (let u : View = elim q [ true ↦ v | false ↦ less ] in u.know)
    go true e = record { last = 0; at_host = λ x. refl; within = omega arith; kept_is = record { runs = a; each = at_zero }; needed = λ l. refl; enough = λ x l t h. absurd (both_ways (is_host net p b) x e) }
    go false e = record {
      last = lowered.last;
      at_host = λ x. absurd (both_ways (is_host net p b) e x);
      within = lowered.within;
      kept_is = record { runs = (forgotten-is net.cache (forgets_upto net p b v.horizon) v.know a).runs; each = lowered.each };
      needed = λ l. lowered.none (omega (arith, l, lowered.count));
      enough = λ x l t h. lowered.enough (more l) t h;
    }
