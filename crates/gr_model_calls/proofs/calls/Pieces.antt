-- A frame that a piece is cut into has at each tick what the piece has, or nothing, and
-- forgetting leaves a tick or makes it unknown, since both only take runs apart or away
use Rattle.std.proofs.Common.{◌≡◌, ◌≢◌, ◌⊎◌, inl, inr, ⊎_elim, ℕ, suc, zero, ◌+◌, ◌-◌, ◌≤◌, ◌<◌, min, Bool, true, false, ◌&&◌, ◌||◌, List, [], ◌∷◌, ◌++◌, refl, sym, ap, ap₂, ◌∙◌, subst, arith, append_assoc}
use Rattle.std.specs.Prelude.{nat_le, nat_lt, if◌then◌else◌}
use Rattle.std.proofs.lemmas.Bool.{and_parts, cases_Bool, cases_lt, false≢true, leb-true, ltb-true, ltb-false, le-leb, lt-leb, and_right}
use Rattle.gr_know.specs.declared.values.K.{K}
use Rattle.gr_know.specs.declared.values.K.TheVariants.{Q}
use Rattle.gr_curio.specs.declared.values.Q3.TheVariants.{N, A}
use Rattle.gr_tick.specs.declared.run.Run.{Run}
use Rattle.gr_tick.specs.Runs.{AreRuns, AreRunsFrom, StartsApart, value_at, points, IsNone, IsPast}
use Rattle.gr_know.specs.Values.{Known, is_D}
use Rattle.gr_curio.specs.Values.{Wanted, is_A, same_Q3}
use Rattle.gr_model.specs.Net.{not_empty}
use Rattle.gr_frame.specs.Bytes.{cut_from, cut_frames}
use Rattle.gr_model.specs.Broker.{all_A, all_points, horizon_if, is_reached, is_consolidated_by, consolidated, lower_data, without_front, forgotten, data_count}
use Rattle.gr_tick.proofs.RunLaws.{value_at-in, value_at-below, value_at-above, value_at-start, AreRunsFrom-lower, AreRunsOf, tabulate-is, value_at-step, value_at-past, IsNone-append, IsPast-append}
use Rattle.gr_curio.proofs.ValueLaws.{Q3_decides}

-- Parts of a list of runs

-- a part has the value of the whole, or none
abbrev pub IsPart : {V : Type 0} → V → List (Run V) → List (Run V) → Type 0
IsPart {V} bottom part whole = AreRuns bottom part × ((t : ℕ) → (value_at bottom part t ≡ value_at bottom whole t) ⊎ (value_at bottom part t ≡ bottom))

StartsApart-front : {V : Type 0} (r : Run V) (xs ys : List (Run V)) → StartsApart r (xs ++ ys) → StartsApart r xs
StartsApart-front r [] ys s = tt
StartsApart-front r (a ∷ xs) ys s = s

AreRunsFrom-front : {V : Type 0} (bottom : V) (from : ℕ) (xs ys : List (Run V)) → AreRunsFrom bottom from (xs ++ ys) → AreRunsFrom bottom from xs
AreRunsFrom-front bottom from [] ys a = tt
AreRunsFrom-front bottom from (r ∷ xs) ys a = (a.0, a.1, a.2, StartsApart-front r xs ys a.3, AreRunsFrom-front bottom (suc r.last) xs ys a.4)

AreRunsFrom-back : {V : Type 0} (bottom : V) (from : ℕ) (xs ys : List (Run V)) → AreRunsFrom bottom from (xs ++ ys) → AreRunsFrom bottom from ys
AreRunsFrom-back bottom from [] ys a = a
AreRunsFrom-back bottom from (r ∷ xs) ys a = AreRunsFrom-lower bottom from (suc r.last) ys (omega (arith, a.0, a.1)) (AreRunsFrom-back bottom (suc r.last) xs ys a.4)

value_at-front : {V : Type 0} (bottom : V) (from : ℕ) (xs ys : List (Run V)) (t : ℕ) → AreRunsFrom bottom from (xs ++ ys) → (value_at bottom xs t ≡ value_at bottom (xs ++ ys) t) ⊎ (value_at bottom xs t ≡ bottom)
value_at-front bottom from [] ys t a = inr refl
value_at-front bottom from (r ∷ xs) ys t a =
    elim (cases_lt t r.first) [
      | inl h ↦ inr (value_at-below bottom r xs t h ∙ value_at-start bottom (suc r.last) xs t (AreRunsFrom-front bottom (suc r.last) xs ys a.4) (omega (arith, a.1)))
      | inr h ↦ elim (cases_lt r.last t) [
        | inl k ↦ ⊎_elim (λ e. inl (value_at-above bottom r xs t k ∙ (e ∙ sym (value_at-above bottom r (xs ++ ys) t k)))) (λ e. inr (value_at-above bottom r xs t k ∙ e)) (value_at-front bottom (suc r.last) xs ys t a.4)
        | inr k ↦ inl (value_at-in bottom r xs t h k ∙ sym (value_at-in bottom r (xs ++ ys) t h k))
      ]
    ]

value_at-back : {V : Type 0} (bottom : V) (from : ℕ) (xs ys : List (Run V)) (t : ℕ) → AreRunsFrom bottom from (xs ++ ys) → (value_at bottom ys t ≡ value_at bottom (xs ++ ys) t) ⊎ (value_at bottom ys t ≡ bottom)
value_at-back bottom from [] ys t a = inl refl
value_at-back bottom from (r ∷ xs) ys t a =
    elim (cases_lt r.last t) [
      | inl k ↦ ⊎_elim (λ e. inl (e ∙ sym (value_at-above bottom r (xs ++ ys) t k))) (λ e. inr e) (value_at-back bottom (suc r.last) xs ys t a.4)
      | inr k ↦ inr (value_at-start bottom (suc r.last) ys t (AreRunsFrom-back bottom (suc r.last) xs ys a.4) (omega arith))
    ]

IsPart-trans : {V : Type 0} (bottom : V) (a b c : List (Run V)) → IsPart bottom a b → ((t : ℕ) → (value_at bottom b t ≡ value_at bottom c t) ⊎ (value_at bottom b t ≡ bottom)) → IsPart bottom a c
IsPart-trans bottom a b c p q = (p.0, λ t. ⊎_elim (λ e. ⊎_elim (λ g. inl (e ∙ g)) (λ g. inr (e ∙ g)) (q t)) (λ e. inr e) (p.1 t))

-- each of the parts
abbrev pub AllParts : {V : Type 0} → V → List (List (Run V)) → List (Run V) → Type 0
AllParts bottom [] whole = Unit {0}
AllParts bottom (p ∷ ps) whole = IsPart bottom p whole × AllParts bottom ps whole

AllParts-trans : {V : Type 0} (bottom : V) (ps : List (List (Run V))) (b c : List (Run V)) → AllParts bottom ps b → ((t : ℕ) → (value_at bottom b t ≡ value_at bottom c t) ⊎ (value_at bottom b t ≡ bottom)) → AllParts bottom ps c
AllParts-trans bottom [] b c p q = tt
AllParts-trans bottom (a ∷ ps) b c p q = (IsPart-trans bottom a b c p.0 q, AllParts-trans bottom ps b c p.1 q)

cut_from-parts : {V : Type 0} (bottom : V) (room : ℕ) (size : Run V → ℕ) (used : ℕ) (begun rs : List (Run V)) → AreRuns bottom (begun ++ rs) → AllParts bottom (cut_from room size used begun rs) (begun ++ rs)
unfolding cut_from
cut_from-parts bottom room size used begun [] a = ((AreRunsFrom-front bottom 1 begun [] a, λ t. value_at-front bottom 1 begun [] t a), tt)
cut_from-parts bottom room size used begun (r ∷ rs) a =
    elim (nat_le (used + size r) 16384) as (λ b. AllParts bottom (elim b [ true ↦ cut_from room size (used + size r) (begun ++ r ∷ []) rs | false ↦ begun ∷ cut_from room size (room + size r) (r ∷ []) rs ]) (begun ++ r ∷ rs)) [
      | true ↦ subst (λ x. AllParts bottom (cut_from room size (used + size r) (begun ++ r ∷ []) rs) x) (append_assoc begun (r ∷ []) rs) (cut_from-parts bottom room size (used + size r) (begun ++ r ∷ []) rs (subst (λ x. AreRuns bottom x) (sym (append_assoc begun (r ∷ []) rs)) a))
      | false ↦ ((AreRunsFrom-front bottom 1 begun (r ∷ rs) a, λ t. value_at-front bottom 1 begun (r ∷ rs) t a), AllParts-trans bottom (cut_from room size (room + size r) (r ∷ []) rs) (r ∷ rs) (begun ++ r ∷ rs) (cut_from-parts bottom room size (room + size r) (r ∷ []) rs (AreRunsFrom-back bottom 1 begun (r ∷ rs) a)) (λ t. value_at-back bottom 1 begun (r ∷ rs) t a))
    ]

-- each frame of a cut piece has the value of the piece at a tick, or none
pub cut_frames-parts : {V : Type 0} (bottom : V) (room : ℕ) (size : Run V → ℕ) (rs : List (Run V)) → AreRuns bottom rs → AllParts bottom (cut_frames room size rs) rs
unfolding cut_frames
cut_frames-parts bottom room size [] a = tt
cut_frames-parts bottom room size (r ∷ rs) a = cut_from-parts bottom room size (room + size r) (r ∷ []) rs a

-- Consolidated ticks

all_A-step : (ws : List Wanted) (t : ℕ) → IsNone (suc t) (all_points ws) → all_A ws (suc t) ≡ all_A ws t
all_A-step [] t n = refl
all_A-step (w ∷ ws) t n =
    let k = IsNone-append (suc t) (points w) (all_points ws) n in
    ap₂ (λ x y. x && y) (ap is_A (value_at-step N w t k.0)) (all_A-step ws t k.1)

all_A-past : (w : Wanted) (ws : List Wanted) (t : ℕ) → IsPast t (all_points (w ∷ ws)) → all_A (w ∷ ws) t ≡ false
all_A-past w ws t n = rw (value_at-past N w t (IsPast-append t (points w) (all_points ws) n).0) refl

-- whether a tick is up to h changes only behind h
pub le_step : (t h : ℕ) → suc t ≢ suc h → nat_le (suc t) h ≡ nat_le t h
le_step t h n =
    elim (cases_lt t h) [
      | inl k ↦ le-leb (suc t) h k ∙ sym (le-leb t h (omega arith))
      | inr k ↦ let m : t ≡ h → ⊥ = λ e. n (ap suc e) in lt-leb (suc t) h (omega arith) ∙ sym (lt-leb t h (omega (arith, m)))
    ]

-- whether a tick is at least 1 changes only at 1
pub one_step : (t : ℕ) → suc t ≢ 1 → nat_le 1 (suc t) ≡ nat_le 1 t
one_step zero n = absurd (n refl)
one_step (suc t) n = le-leb 1 (suc (suc t)) (omega arith) ∙ sym (le-leb 1 (suc t) (omega arith))

reached_step : (keeps : Bool) (h t : ℕ) → suc t ≢ suc h → is_reached (horizon_if keeps h) (suc t) ≡ is_reached (horizon_if keeps h) t
reached_step true h t n = le_step t h n
reached_step false h t n = refl

settled_past : (keeps : Bool) (h : ℕ) (ws : List Wanted) (t : ℕ) → (keeps || not_empty ws) ≡ true → suc h ≤ t → IsPast t (all_points ws) → is_consolidated_by keeps h ws t ≡ false
settled_past true h ws t k l n = rw (lt-leb t h l, and_right (nat_le 1 t) false refl) refl
settled_past false h [] t k l n = absurd (false≢true k)
settled_past false h (w ∷ ws) t k l n = and_right (nat_le 1 t && true) (all_A (w ∷ ws) t) (all_A-past w ws t n)

-- A on the consolidated ticks, and canonical
pub consolidated-is : (keeps : Bool) (h : ℕ) (ws : List Wanted) → (keeps || not_empty ws) ≡ true → AreRunsOf N (λ t. if is_consolidated_by keeps h ws t then A else N) (consolidated keeps h ws)
unfolding consolidated
consolidated-is keeps h ws k =
    tabulate-is N same_Q3 Q3_decides (λ t. if is_consolidated_by keeps h ws t then A else N) (1 ∷ (suc h ∷ all_points ws)) (record {
      start = refl;
      step = λ t n. ap (λ b. if b then A else N) (ap₂ (λ x y. x && y) (ap₂ (λ x y. x && y) (one_step t n.0) (reached_step keeps h t n.1.0)) (all_A-step ws t n.1.1));
      past = λ t n. ap (λ b. if b then A else N) (settled_past keeps h ws t k n.1.0 n.1.1);
    })

-- Lowered data

-- lowering leaves each tick, or makes it Q at a data tick up to a bound
pub record IsLowered (from upto : ℕ) (old new : Known) : Type 0 where
  pub runs : AreRunsFrom Q from new
  pub each : (t : ℕ) → (value_at Q new t ≡ value_at Q old t) ⊎ ((value_at Q new t ≡ Q) × (t ≤ upto))

StartsApart-far : {V : Type 0} (bottom : V) (r : Run V) (rs : List (Run V)) (from : ℕ) → suc r.last < from → AreRunsFrom bottom from rs → StartsApart r rs
StartsApart-far bottom r [] from h a = tt
StartsApart-far bottom r (q ∷ qs) from h a = λ e. absurd (omega (arith, a.0, e))

without_front-is : (k upto from : ℕ) (r : Run K) (rs old : Known) → from ≤ r.first → r.first ≤ r.last → r.value ≢ Q → r.first ≤ upto → r.first + k ≤ suc (min r.last upto) → StartsApart r rs → AreRunsFrom Q (suc r.last) old → IsLowered (suc r.last) upto old rs → IsLowered from upto (r ∷ old) (without_front k r rs)
without_front-is k upto from r rs old a b c e d s o l =
    elim (cases_Bool (nat_lt r.last (r.first + k))) [
      | inl x ↦ rw x (record {
        runs = AreRunsFrom-lower Q from (suc r.last) rs (omega (arith, a, b)) l.runs;
        each = λ t. elim (cases_lt r.last t) [
          | inl h ↦ ⊎_elim (λ y. inl (y ∙ sym (value_at-above Q r old t h))) (λ y. inr y) (l.each t)
          | inr h ↦ inr (value_at-start Q (suc r.last) rs t l.runs (omega arith), omega (arith, ltb-true r.last (r.first + k) x))
        ];
      })
      | inr x ↦
          let left : Run K = record { first = r.first + k; last = r.last; value = r.value } in
          rw x (record {
            runs = (omega (arith, a), ltb-false r.last (r.first + k) x, c, starts r rs s k, l.runs);
            each = λ t. elim (cases_lt t r.first) [
              | inl h ↦ inl (value_at-below Q left rs t (omega arith) ∙ (value_at-start Q (suc r.last) rs t l.runs (omega arith) ∙ sym (value_at-below Q r old t h ∙ value_at-start Q (suc r.last) old t o (omega arith))))
              | inr h ↦ elim (cases_lt t (r.first + k)) [
                | inl g ↦ inr (value_at-below Q left rs t g ∙ value_at-start Q (suc r.last) rs t l.runs (omega (arith, d)), omega (arith, d))
                | inr g ↦ elim (cases_lt r.last t) [
                  | inl y ↦ ⊎_elim (λ z. inl (value_at-above Q left rs t y ∙ (z ∙ sym (value_at-above Q r old t y)))) (λ z. inr (value_at-above Q left rs t y ∙ z.0, z.1)) (l.each t)
                  | inr y ↦ inl (value_at-in Q left rs t g y ∙ sym (value_at-in Q r old t h y))
                ]
              ]
            ];
          })
    ]
  where
    starts : (r : Run K) (rs : Known) → StartsApart r rs → (k : ℕ) → StartsApart (record { first = r.first + k; last = r.last; value = r.value }) rs
    starts r [] s k = tt
    starts r (q ∷ qs) s k = s

-- the test of lowering, and how much of a run goes
abbrev goes : ℕ → Run K → Bool
goes upto r = is_D r.value && nat_le r.first upto

abbrev going : ℕ → ℕ → Run K → ℕ
going n upto r = min n (suc (min r.last upto) - r.first)

without_front-apart : (k : ℕ) (r q : Run K) (rs : Known) → (q.first ≡ suc r.last → q.value ≢ r.value) → suc r.last ≤ q.first → q.first ≤ q.last → AreRunsFrom Q (suc q.last) rs → StartsApart r (without_front k q rs)
without_front-apart k r q rs s a b o =
    elim (cases_Bool (nat_lt q.last (q.first + k))) [
      | inl x ↦ rw x (StartsApart-far Q r rs (suc q.last) (omega arith) o)
      | inr x ↦ rw x (λ e. s (omega (arith, e)))
    ]

-- both at once: what is lowered, and that it stays apart from a run before it
record Lowering (from upto : ℕ) (know new : Known) : Type 0 where
  lowered : IsLowered from upto know new
  apart : (r : Run K) → StartsApart r know → AreRunsFrom Q (suc r.last) know → StartsApart r new

lowering : (n upto from : ℕ) (know : Known) → AreRunsFrom Q from know → Lowering from upto know (lower_data n upto know)
unfolding lower_data
lowering n upto from [] a = record { lowered = record { runs = tt; each = λ t. inl refl }; apart = λ r s o. tt }
lowering n upto from (q ∷ qs) a =
    let k = going n upto q in
    let i = lowering (n - k) upto (suc q.last) qs a.4 in
    let j = lowering n upto (suc q.last) qs a.4 in
    go (goes upto q) refl i j
  where
    go : (b : Bool) → goes upto q ≡ b → Lowering (suc q.last) upto qs (lower_data (n - going n upto q) upto qs) → Lowering (suc q.last) upto qs (lower_data n upto qs) →
        Lowering from upto (q ∷ qs) (elim b [ true ↦ without_front (going n upto q) q (lower_data (n - going n upto q) upto qs) | false ↦ q ∷ lower_data n upto qs ])
    go true e i j =
        let f : q.first ≤ upto = leb-true q.first upto (and_parts (is_D q.value) (nat_le q.first upto) e).1 in
        record {
          lowered = without_front-is (going n upto q) upto from q (lower_data (n - going n upto q) upto qs) qs a.0 a.1 a.2 f (omega (arith, a.1)) (i.apart q a.3 a.4) a.4 i.lowered;
          apart = λ r s o. without_front-apart (going n upto q) r q (lower_data (n - going n upto q) upto qs) s o.0 o.1 i.lowered.runs;
        }
    go false e i j = record {
      lowered = record {
        runs = (a.0, a.1, a.2, j.apart q a.3 a.4, j.lowered.runs);
        each = λ t. elim (cases_lt t q.first) [
          | inl h ↦ inl (value_at-below Q q (lower_data n upto qs) t h ∙ (value_at-start Q (suc q.last) (lower_data n upto qs) t j.lowered.runs (omega (arith, a.1)) ∙ sym (value_at-below Q q qs t h ∙ value_at-start Q (suc q.last) qs t a.4 (omega (arith, a.1)))))
          | inr h ↦ elim (cases_lt q.last t) [
            | inl y ↦ ⊎_elim (λ z. inl (value_at-above Q q (lower_data n upto qs) t y ∙ (z ∙ sym (value_at-above Q q qs t y)))) (λ z. inr (value_at-above Q q (lower_data n upto qs) t y ∙ z.0, z.1)) (j.lowered.each t)
            | inr y ↦ inl (value_at-in Q q (lower_data n upto qs) t h y ∙ sym (value_at-in Q q qs t h y))
          ]
        ];
      };
      apart = λ r s o. s;
    }

-- forgetting leaves each tick as it was, or unknown where it was data up to the bound
pub forgotten-is : (limit upto : ℕ) (know : Known) → AreRuns Q know → IsLowered 1 upto know (forgotten limit upto know)
unfolding forgotten
forgotten-is limit upto know a = (lowering (data_count know - limit) upto 1 know a).lowered
