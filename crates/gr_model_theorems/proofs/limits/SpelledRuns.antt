-- Runs up to the last tick: what is made of them ends by it too, and so does each part that goes into a frame
use Rattle.std.proofs.Common.{◌≡◌, ◌≢◌, ℕ, suc, ◌+◌, ◌-◌, ◌≤◌, ◌^◌, min, max, Bool, true, false, ◌&&◌, List, [], ◌∷◌, ◌++◌, map, length, set, get_or, refl, zero, arith, length-append}
use Rattle.std.specs.Prelude.{nat_eq, nat_le, nat_lt, if◌then◌else◌}
use Rattle.std.specs.List.{AllByRecursion}
use Rattle.std.specs.Int.{to_be_bytes, w64}
use Rattle.std.proofs.lemmas.Bool.{leb-true, ltb-false}
use Rattle.gr_tick.specs.declared.run.Run.{Run}
use Rattle.gr_tick.specs.Runs.{AreRunsFrom, value_at, put_on, put, add_point, sorted, tabulate_from, tabulate_sorted, tabulate, points, zip_runs, first_bottom_from, top_of}
use Rattle.gr_tick.specs.Stored.{EndBefore}
use Rattle.gr_know.specs.declared.values.K.{K}
use Rattle.gr_know.specs.Values.{is_D}
use Rattle.gr_curio.specs.declared.values.Q3.{Q3}
use Rattle.gr_curio.specs.Values.{Wanted}
use Rattle.gr_frame.specs.Bytes.{runs_bytes, cut_from, cut_frames}
use Rattle.gr_frame.specs.Form.{Form}
use Rattle.gr_frame.specs.Decode.{run_size}
use Rattle.gr_model.specs.Broker.{max_tick, all_points, lower_data, without_front, forgotten, data_count}
use Rattle.gr_model_theorems.specs.Spelled.{IsRunIn, RunsIn}

-- Lists

-- what holds of all of two lists holds of all of the joined list
pub all_on : {X : Type 0} (P : X → Type 0) (xs ys : List X) → AllByRecursion P xs → AllByRecursion P ys → AllByRecursion P (xs ++ ys)
all_on P [] ys a b = b
all_on P (x ∷ xs) ys a b = (a.0, all_on P xs ys a.1 b)

-- what holds of all of a list, and of one that is put into it, holds of all of the new list
pub all_set : {X : Type 0} (P : X → Type 0) (xs : List X) (i : ℕ) (x : X) → AllByRecursion P xs → P x → AllByRecursion P (set xs i x)
all_set P [] i x a h = tt
all_set P (y ∷ ys) zero x a h = (h, a.1)
all_set P (y ∷ ys) (suc i) x a h = (a.0, all_set P ys i x a.1 h)

-- what holds of all of a list, and of the default, holds of what is found at a place
pub all_get : {X : Type 0} (P : X → Type 0) (xs : List X) (i : ℕ) (d : X) → AllByRecursion P xs → P d → P (get_or xs i d)
all_get P [] i d a h = h
all_get P (y ∷ ys) zero d a h = a.0
all_get P (y ∷ ys) (suc i) d a h = all_get P ys i d a.1 h

-- what holds of all that a function makes holds of all that it makes of a list
pub all_tabulated : {X Y : Type 0} (P : Y → Type 0) (g : X → Y) (xs : List X) → ((x : X) → P (g x)) → AllByRecursion P (map g xs)
all_tabulated P g [] h = tt
all_tabulated P g (x ∷ xs) h = (h x, all_tabulated P g xs h)

-- Points

-- each is at most the tick behind the last one
abbrev pub AreUpto : List ℕ → Type 0
AreUpto ps = AllByRecursion (λ p. p ≤ suc max_tick) ps

add_upto : (p : ℕ) (qs : List ℕ) → p ≤ suc max_tick → AreUpto qs → AreUpto (add_point p qs)
add_upto p [] h a = (h, tt)
add_upto p (q ∷ qs) h a = go (nat_lt p q) (nat_eq p q) (add_upto p qs h a.1)
  where
    go : (x y : Bool) → AreUpto (add_point p qs) → AreUpto (if x then p ∷ (q ∷ qs) else (if y then q ∷ qs else q ∷ add_point p qs))
    go true y k = (h, a)
    go false true k = a
    go false false k = (a.0, k)

sorted_upto : (ps : List ℕ) → AreUpto ps → AreUpto (sorted ps)
sorted_upto [] a = tt
sorted_upto (p ∷ ps) a = add_upto p (sorted ps) a.0 (sorted_upto ps a.1)

-- the points of runs that are within the limits are at most behind the last tick
pub points_upto : {V : Type 0} (Fits : V → Type 0) (rs : List (Run V)) → RunsIn Fits rs → AreUpto (points rs)
points_upto Fits [] a = tt
points_upto Fits (r ∷ rs) a = (a.0.first, (omega (arith, a.0.last), points_upto Fits rs a.1))

-- the points of several lists of runs within the limits are at most behind the last tick
pub all_points_upto : (Fits : Q3 → Type 0) (ws : List Wanted) → AllByRecursion (RunsIn Fits) ws → AreUpto (all_points ws)
all_points_upto Fits [] a = tt
all_points_upto Fits (w ∷ ws) a = all_on (λ p. p ≤ suc max_tick) (points w) (all_points ws) (points_upto Fits w a.0) (all_points_upto Fits ws a.1)

-- Made runs

-- the value at each tick of runs within the limits is within them
pub value_fits : {V : Type 0} (Fits : V → Type 0) (bottom : V) (rs : List (Run V)) (t : ℕ) → Fits bottom → RunsIn Fits rs → Fits (value_at bottom rs t)
value_fits Fits bottom [] t b a = b
value_fits {V} Fits bottom (r ∷ rs) t b a = go (nat_le r.first t && nat_le t r.last) (value_fits Fits bottom rs t b a.1)
  where
    go : (q : Bool) → Fits (value_at bottom rs t) → Fits (if q then r.value else value_at bottom rs t)
    go true x = a.0.value
    go false x = x

put_on_in : {V : Type 0} (Fits : V → Type 0) (same : V → V → Bool) (first last : ℕ) (v : V) (rs : List (Run V)) → first ≤ suc max_tick → last ≤ max_tick → Fits v → RunsIn Fits rs → RunsIn Fits (put_on same first last v rs)
put_on_in Fits same first last v [] h k x a = (record { first = h; last = k; value = x }, tt)
put_on_in {V} Fits same first last v (r ∷ rs) h k x a = go (nat_eq r.first (suc last) && same r.value v)
  where
    go : (q : Bool) → RunsIn Fits (if q then record { first = first; last = r.last; value = v } ∷ rs else record { first = first; last = last; value = v } ∷ (r ∷ rs))
    go true = (record { first = h; last = a.0.last; value = x }, a.1)
    go false = (record { first = h; last = k; value = x }, a)

put_in : {V : Type 0} (Fits : V → Type 0) (bottom : V) (same : V → V → Bool) (first last : ℕ) (v : V) (rs : List (Run V)) → first ≤ suc max_tick → last ≤ max_tick → Fits v → RunsIn Fits rs → RunsIn Fits (put bottom same first last v rs)
put_in {V} Fits bottom same first last v rs h k x a = go (same v bottom)
  where
    go : (q : Bool) → RunsIn Fits (if q then rs else put_on same first last v rs)
    go true = a
    go false = put_on_in Fits same first last v rs h k x a

tabulate_from_in : {V : Type 0} (Fits : V → Type 0) (bottom : V) (same : V → V → Bool) (g : ℕ → V) (p : ℕ) (qs : List ℕ) → p ≤ suc max_tick → AreUpto qs → ((t : ℕ) → Fits (g t)) → RunsIn Fits (tabulate_from bottom same g p qs)
tabulate_from_in Fits bottom same g p [] h a f = tt
tabulate_from_in Fits bottom same g p (q ∷ qs) h a f = put_in Fits bottom same p (q - 1) (g p) (tabulate_from bottom same g q qs) h (omega (arith, a.0)) (f p) (tabulate_from_in Fits bottom same g q qs a.0 a.1 f)

-- runs made of a function within the limits, over points up to behind the last tick, are within them
pub tabulate_in : {V : Type 0} (Fits : V → Type 0) (bottom : V) (same : V → V → Bool) (g : ℕ → V) (ps : List ℕ) → AreUpto ps → ((t : ℕ) → Fits (g t)) → RunsIn Fits (tabulate bottom same g ps)
tabulate_in {V} Fits bottom same g ps a f = go (sorted ps) (sorted_upto ps a)
  where
    go : (qs : List ℕ) → AreUpto qs → RunsIn Fits (tabulate_sorted bottom same g qs)
    go [] b = tt
    go (q ∷ qs) b = tabulate_from_in Fits bottom same g q qs b.0 b.1 f

-- points of two lists of runs
pub both_upto : {A B : Type 0} (FA : A → Type 0) (FB : B → Type 0) (xs : List (Run A)) (ys : List (Run B)) → RunsIn FA xs → RunsIn FB ys → AreUpto (points xs ++ points ys)
both_upto FA FB xs ys h k = all_on (λ p. p ≤ suc max_tick) (points xs) (points ys) (points_upto FA xs h) (points_upto FB ys k)

-- two lists of runs within the limits, put together tick by tick, are within the limits of what is made
pub zip_in : {A B V : Type 0} (FA : A → Type 0) (FB : B → Type 0) (Fits : V → Type 0) (a : A) (b : B) (bottom : V) (same : V → V → Bool) (f : A → B → V) (xs : List (Run A)) (ys : List (Run B)) → RunsIn FA xs → RunsIn FB ys → FA a → FB b
    → ((x : A) (y : B) → FA x → FB y → Fits (f x y)) → RunsIn Fits (zip_runs a b bottom same f xs ys)
zip_in FA FB Fits a b bottom same f xs ys h k x y fits =
    tabulate_in Fits bottom same (λ t. f (value_at a xs t) (value_at b ys t)) (points xs ++ points ys) (both_upto FA FB xs ys h k) (λ t. fits (value_at a xs t) (value_at b ys t) (value_fits FA a xs t x h) (value_fits FB b ys t y k))

-- the first empty tick from a tick on is at most behind the last tick
pub first_bottom_upto : {V : Type 0} (Fits : V → Type 0) (rs : List (Run V)) (t : ℕ) → t ≤ suc max_tick → RunsIn Fits rs → first_bottom_from rs t ≤ suc max_tick
first_bottom_upto Fits [] t h a = h
first_bottom_upto {V} Fits (r ∷ rs) t h a = go (nat_lt t r.first) (first_bottom_upto Fits rs (max t (suc r.last)) (omega (arith, a.0.last)) a.1)
  where
    go : (q : Bool) → first_bottom_from rs (max t (suc r.last)) ≤ suc max_tick → (if q then t else first_bottom_from rs (max t (suc r.last))) ≤ suc max_tick
    go true k = h
    go false k = k

-- the last tick of runs within the limits is at most the last tick of all
pub top_upto : {V : Type 0} (Fits : V → Type 0) (rs : List (Run V)) → RunsIn Fits rs → top_of rs ≤ max_tick
top_upto Fits [] a = omega arith
top_upto Fits (r ∷ []) a = a.0.last
top_upto Fits (r ∷ (s ∷ ss)) a = top_upto Fits (s ∷ ss) a.1

-- Forgetting

front_in : (Fits : K → Type 0) (n : ℕ) (r : Run K) (rs : List (Run K)) → IsRunIn Fits r → RunsIn Fits rs → RunsIn Fits (without_front n r rs)
front_in Fits n r rs h a = go (nat_lt r.last (r.first + n)) refl
  where
    go : (q : Bool) → nat_lt r.last (r.first + n) ≡ q → RunsIn Fits (if q then rs else record { first = r.first + n; last = r.last; value = r.value } ∷ rs)
    go true e = a
    go false e = let k = ltb-false r.last (r.first + n) e in (record { first = omega (arith, k, h.last); last = h.last; value = h.value }, a)

lower_in : (Fits : K → Type 0) (n upto : ℕ) (rs : List (Run K)) → RunsIn Fits rs → RunsIn Fits (lower_data n upto rs)
unfolding lower_data
lower_in Fits n upto [] a = tt
lower_in Fits n upto (r ∷ rs) a = go (is_D r.value && nat_le r.first upto) (lower_in Fits (n - min n (suc (min r.last upto) - r.first)) upto rs a.1) (lower_in Fits n upto rs a.1)
  where
    k : ℕ
    k = min n (suc (min r.last upto) - r.first)

    go : (q : Bool) → RunsIn Fits (lower_data (n - k) upto rs) → RunsIn Fits (lower_data n upto rs) → RunsIn Fits (elim q [ true ↦ without_front k r (lower_data (n - k) upto rs) | false ↦ r ∷ lower_data n upto rs ])
    go true x y = front_in Fits k r (lower_data (n - k) upto rs) a.0 x
    go false x y = (a.0, y)

-- what is left after forgetting is within the limits
pub forgotten_in : (Fits : K → Type 0) (limit upto : ℕ) (rs : List (Run K)) → RunsIn Fits rs → RunsIn Fits (forgotten limit upto rs)
unfolding forgotten
forgotten_in Fits limit upto rs a = lower_in Fits (data_count rs - limit) upto rs a

-- Parts

-- how many bytes the runs take
abbrev pub total : {V : Type 0} → (Run V → ℕ) → List (Run V) → ℕ
total size [] = 0
total size (r ∷ rs) = size r + total size rs

total-append : {V : Type 0} (size : Run V → ℕ) (xs ys : List (Run V)) → total size (xs ++ ys) ≡ total size xs + total size ys
total-append size [] ys = omega arith
total-append size (x ∷ xs) ys = omega (arith, total-append size xs ys)

-- some runs that fit into a frame behind what stands before them
pub record IsPartIn {V : Type 0} (room : ℕ) (size : Run V → ℕ) (Fits : V → Type 0) (part : List (Run V)) : Type 0 where
  pub some : part ≢ []
  pub short : room + total size part ≤ 16384
  pub runs : RunsIn Fits part

more_some : {V : Type 0} (xs : List (Run V)) (r : Run V) → (xs ++ r ∷ []) ≢ []
more_some [] r = λ e. cc
more_some (x ∷ xs) r = λ e. cc

from_parts : {V : Type 0} (room : ℕ) (size : Run V → ℕ) (Fits : V → Type 0) (used : ℕ) (begun rs : List (Run V)) → room ≤ 8173 → ((r : Run V) → Fits r.value → size r ≤ 8211) → begun ≢ [] → used ≡ room + total size begun → used ≤ 16384 → RunsIn Fits begun → RunsIn Fits rs
    → AllByRecursion (IsPartIn room size Fits) (cut_from room size used begun rs)
unfolding cut_from
from_parts room size Fits used begun [] low small some is fits a b = (record { some = some; short = omega (arith, is, fits); runs = a }, tt)
from_parts {V} room size Fits used begun (r ∷ rs) low small some is fits a b =
    go (nat_le (used + size r) 16384) refl
    (λ k. from_parts room size Fits (used + size r) (begun ++ r ∷ []) rs low small (more_some begun r) (omega (arith, is, total-append size begun (r ∷ []))) k (all_on (IsRunIn Fits) begun (r ∷ []) a (b.0, tt)) b.1)
    (from_parts room size Fits (room + size r) (r ∷ []) rs low small (λ e. cc) (omega arith) (omega (arith, low, small r b.0.value)) (b.0, tt) b.1)
  where
    go : (q : Bool) → nat_le (used + size r) 16384 ≡ q → (used + size r ≤ 16384 → AllByRecursion (IsPartIn room size Fits) (cut_from room size (used + size r) (begun ++ r ∷ []) rs)) → AllByRecursion (IsPartIn room size Fits) (cut_from room size (room + size r) (r ∷ []) rs)
        → AllByRecursion (IsPartIn room size Fits) (elim q [ true ↦ cut_from room size (used + size r) (begun ++ r ∷ []) rs | false ↦ begun ∷ cut_from room size (room + size r) (r ∷ []) rs ])
    go true e x y = x (leb-true (used + size r) 16384 e)
    go false e x y = (record { some = some; short = omega (arith, is, fits); runs = a }, y)

-- each part of a piece that is cut into frames fits into one frame, and is within the limits
pub parts_in : {V : Type 0} (room : ℕ) (size : Run V → ℕ) (Fits : V → Type 0) (rs : List (Run V)) → room ≤ 8173 → ((r : Run V) → Fits r.value → size r ≤ 8211) → RunsIn Fits rs → AllByRecursion (IsPartIn room size Fits) (cut_frames room size rs)
unfolding cut_frames
parts_in room size Fits [] low small a = tt
parts_in room size Fits (r ∷ rs) low small a = from_parts room size Fits (room + size r) (r ∷ []) rs low small (λ e. cc) (omega arith) (omega (arith, low, small r a.0.value)) (a.0, tt) a.1

-- Runs of a frame

-- runs within the limits end before the bound of the frame format
pub ends_in : {V : Type 0} (Fits : V → Type 0) (rs : List (Run V)) → RunsIn Fits rs → EndBefore rs (2 ^ 62 + 1)
ends_in Fits [] a = tt
ends_in Fits (r ∷ rs) a = (omega (arith, a.0.last), ends_in Fits rs a.1)

-- each run within the limits has a value within them
pub values_in : {V : Type 0} (Fits : V → Type 0) (rs : List (Run V)) → RunsIn Fits rs → AllByRecursion (λ r. Fits r.value) rs
values_in Fits [] a = tt
values_in Fits (r ∷ rs) a = (a.0.value, values_in Fits rs a.1)

-- and back
pub runs_in : {V : Type 0} (least : V) (Fits : V → Type 0) (from : ℕ) (rs : List (Run V)) → AreRunsFrom least from rs → EndBefore rs (2 ^ 62 + 1) → AllByRecursion (λ r. Fits r.value) rs → RunsIn Fits rs
runs_in least Fits from [] a e v = tt
runs_in least Fits from (r ∷ rs) a e v = (record { first = omega (arith, a.1, e.0); last = omega (arith, e.0); value = v.0 }, runs_in least Fits (suc r.last) rs a.4 e.1 v.1)

-- the bytes of runs are as many as their sizes say
pub total_is : {V : Type 0} (least : V) (form : Form V) (from : ℕ) (rs : List (Run V)) → ((r : Run V) → r.value ≢ least → form.size r ≡ run_size form r) → AreRunsFrom least from rs → length (runs_bytes form.bytes rs) ≡ total form.size rs
total_is least form from [] is a = refl
total_is least form from (r ∷ rs) is a =
    let x = to_be_bytes w64 r.first in
    let y = to_be_bytes w64 r.last in
    let z = form.bytes r.value in
    omega (
      arith,
      is r a.2,
      total_is least form (suc r.last) rs is a.4,
      length-append ((x ++ y) ++ z) (runs_bytes form.bytes rs),
      length-append (x ++ y) z,
      length-append x y,
    )
