-- Lists of joins in the bytes of a frame: their size, and that what was read stands there, and what stands there is read
use Rattle.std.proofs.Common.{◌≡◌, ◌<◌, ◌≤◌, ◌+◌, ◌*◌, ◌^◌, ◌==◌, ◌||◌, ℕ, suc, zero, List, [], ◌∷◌, ◌++◌, length, drop, true, false, Bool, nat_lt, nat_le, if◌then◌else◌, Result, Ok, Err, ap, refl, sym, subst, ◌∙◌, arith, rules, append_assoc, append-nil, length-append}
use Rattle.std.specs.Prelude.{nat_eq}
use Rattle.std.specs.Int.{to_be_bytes, w16, w64}
use Rattle.std.proofs.lemmas.List.{length_push}
use Rattle.std.proofs.lemmas.Bool.{or_parts, or_from, eqb-false, ne_eqb}
use Rattle.gr_event.specs.declared.join.Join.{Join}
use Rattle.gr_event.specs.Joins.{Joins, has_joined, JoinsRise, JoinOnce, AreJoins, last_tick_from, last_join_tick, may_join}
use Rattle.gr_event.proofs.Joining.{joins_with}
use Rattle.gr_frame.specs.declared.Head.{Head}
use Rattle.gr_frame.specs.declared.fault.FrameKind.TheVariants.{BadJoins}
use Rattle.gr_frame.specs.declared.fault.FrameFault.{FrameFault}
use Rattle.gr_frame.specs.Bytes.{head_bytes, joins_bytes, list_bytes, version_of, piece_head, head_size}
use Rattle.gr_frame.specs.Gives.{fault, Fails, ◌>>=◌}
use Rattle.gr_frame.specs.Decode.{u16_at, u64_at, join_of, join_at, joins_at, list_at}
use Rattle.gr_frame.proofs.Fields.{AreBytes, bind_told, else_told, u16_told, u64_told, u16_here, u64_here, is_below, is_within}
use Rattle.gr_frame.proofs.Loop.{fails_on}

-- Sizes

length-joins : (js : Joins) → length (joins_bytes js) ≡ 10 * length js
length-joins [] = refl
length-joins (j ∷ js) =
    let a = to_be_bytes w16 j.subscriber in
    let b = to_be_bytes w64 j.tick in
    omega (arith, length-joins js, length-append (a ++ b) (joins_bytes js), length-append a b)

-- what stands before the runs of a piece has that size
pub head_sized : (kind n : ℕ) (h : Head) (js : Joins) → length (piece_head kind h n js) ≡ head_size js
head_sized kind n h [] = refl
head_sized kind n h (j ∷ js) =
    let all : Joins = j ∷ js in
    let number = to_be_bytes w16 (length all) in
    omega (arith, length-append (head_bytes 2 kind h n) (number ++ joins_bytes all), length-append number (joins_bytes all), length-joins all)

-- and so what stands behind the head
pub list_sized : (js : Joins) → head_size js ≡ 12 + length (list_bytes js)
list_sized [] = refl
list_sized (j ∷ js) =
    let all : Joins = j ∷ js in
    omega (arith, length-append (to_be_bytes w16 (length all)) (joins_bytes all), length-joins all)

pub head_small : (js : Joins) → AreJoins js → head_size js ≤ 654
head_small [] are = omega arith
head_small (j ∷ js) are = omega (arith, are.few)

pub none_are : AreJoins []
none_are = record { few = omega arith; rise = tt; once = tt }

-- the size by the number of joins
pub head_of_none : (js : Joins) (n : ℕ) → n ≡ length js → n ≡ 0 → 12 ≡ head_size js
head_of_none [] n e z = refl
head_of_none (j ∷ js) n e z = absurd (omega (arith, e, z))

pub head_of_some : (js : Joins) (n : ℕ) → n ≡ length js → (n ≡ 0 → ⊥) → 12 + 2 + 10 * n ≡ head_size js
head_of_some [] n e some = absurd (some e)
head_of_some (j ∷ js) n e some = omega (arith, e)

-- and so the version and the list
pub version_of_none : (js : Joins) (n : ℕ) → n ≡ length js → n ≡ 0 → 1 ≡ version_of js
version_of_none [] n e z = refl
version_of_none (j ∷ js) n e z = absurd (omega (arith, e, z))

pub version_of_some : (js : Joins) (n : ℕ) → n ≡ length js → (n ≡ 0 → ⊥) → 2 ≡ version_of js
version_of_some [] n e some = absurd (some e)
version_of_some (j ∷ js) n e some = refl

pub none_listed : (js : Joins) (n : ℕ) → n ≡ length js → n ≡ 0 → list_bytes js ≡ []
none_listed [] n e z = refl
none_listed (j ∷ js) n e z = absurd (omega (arith, e, z))

pub some_listed : (js : Joins) (n : ℕ) → n ≡ length js → (n ≡ 0 → ⊥) → to_be_bytes w16 n ++ joins_bytes js ≡ list_bytes js
some_listed [] n e some = absurd (some e)
some_listed (j ∷ js) n e some = ap (λ k. to_be_bytes w16 k ++ joins_bytes (j ∷ js)) e

-- What was read

join_range : (t last : ℕ) → (nat_le t last || nat_lt (2 ^ 62) t) ≡ false → (last < t) × (t ≤ 2 ^ 62)
join_range t last h = (grind (arith, rules), grind (arith, rules))

-- a join that was read
pub record JoinTold (bytes : List ℕ) (at : ℕ) (before : Joins) (j : Join) : Type 0 where
  pub spelled : drop at bytes ≡ (to_be_bytes w16 j.subscriber ++ to_be_bytes w64 j.tick) ++ drop (at + 10) bytes
  pub small : j.subscriber < 2 ^ 16
  pub first : has_joined before j.subscriber ≡ false
  pub past : last_join_tick before < j.tick
  pub most : j.tick ≤ 2 ^ 62

pub join_told : (bytes : List ℕ) (at : ℕ) (before : Joins) (j : Join) → AreBytes bytes → join_at bytes at before ≡ Ok j → JoinTold bytes at before j
unfolding join_at join_of
join_told bytes at before j fits h =
    let one = bind_told (u16_at bytes at) _ j h in
    let s = one.0 in
    let two = else_told (has_joined before s) (fault BadJoins at) (join_of bytes at before s) j one.2 in
    let three = bind_told (u64_at bytes (at + 2)) _ j two.1 in
    let t = three.0 in
    let made : Join = record { subscriber = s; tick = t } in
    let four = else_told (nat_le t (last_join_tick before) || nat_lt (2 ^ 62) t) (fault BadJoins (at + 2)) (Ok made) j three.2 in
    let is : made ≡ j = let e = four.1 in cc in
    let number = u16_told bytes at s fits one.1 in
    let tick = u64_told bytes (at + 2) t fits three.1 in
    let range = join_range t (last_join_tick before) four.0 in
    let place : at + 2 + 8 ≡ at + 10 = omega arith in
    let a = to_be_bytes w16 s in
    let b = to_be_bytes w64 t in
    subst (JoinTold bytes at before) is (record {
      spelled = number.0 ∙ ap (λ l. a ++ l) (tick ∙ ap (λ k. b ++ drop k bytes) place) ∙ sym (append_assoc a b (drop (at + 10) bytes));
      small = number.1;
      first = two.0;
      past = range.0;
      most = range.1;
    })

may_stand : (js : Joins) (j : Join) → length js < 64 → has_joined js j.subscriber ≡ false → last_join_tick js < j.tick → j.tick ≤ 2 ^ 62 → may_join js j ≡ true
may_stand js j room first past most =
    rw (is_below (length js) 64 room, first, is_below (last_join_tick js) j.tick past, is_within j.tick (2 ^ 62) most) refl

-- a join that was read makes a list again
pub more_are : (bytes : List ℕ) (at : ℕ) (before : Joins) (j : Join) → JoinTold bytes at before j → AreJoins before → length before < 64 → AreJoins (before ++ j ∷ [])
more_are bytes at before j t are room = joins_with before j are (may_stand before j room t.first t.past t.most) t.small

-- joins that were read behind others
pub record JoinsTold (bytes : List ℕ) (at n : ℕ) (before js : Joins) : Type 0 where
  pub more : Joins
  pub whole : js ≡ before ++ more
  pub many : length more ≡ n
  pub spelled : drop at bytes ≡ joins_bytes more ++ drop (at + 10 * n) bytes
  pub are : AreJoins js

joins_told : (bytes : List ℕ) (n at : ℕ) (before js : Joins) → AreBytes bytes → AreJoins before → length before + n ≤ 64 → joins_at bytes n at before ≡ Ok js → JoinsTold bytes at n before js
unfolding joins_at
joins_told bytes zero at before js fits are few h =
    let is : before ≡ js = cc in
    let place : at ≡ at + 10 * 0 = omega arith in
    subst (JoinsTold bytes at zero before) is (record {
      more = [];
      whole = sym (append-nil before);
      many = refl;
      spelled = ap (λ k. drop k bytes) place;
      are = are;
    })
joins_told bytes (suc n) at before js fits are few h =
    let one = bind_told (join_at bytes at before) _ js h in
    let j = one.0 in
    let t = join_told bytes at before j fits one.1 in
    let next = more_are bytes at before j t are (omega (arith, few)) in
    let rest = joins_told bytes n (at + 10) (before ++ j ∷ []) js fits next (omega (arith, few, length_push before j)) one.2 in
    let a = to_be_bytes w16 j.subscriber ++ to_be_bytes w64 j.tick in
    let place : at + 10 + 10 * n ≡ at + 10 * suc n = omega arith in
    record {
      more = j ∷ rest.more;
      whole = rest.whole ∙ append_assoc before (j ∷ []) rest.more;
      many = ap suc rest.many;
      spelled = t.spelled ∙ ap (λ l. a ++ l) (rest.spelled ∙ ap (λ k. joins_bytes rest.more ++ drop k bytes) place)
          ∙ sym (append_assoc a (joins_bytes rest.more) (drop (at + 10 * suc n) bytes));
      are = rest.are;
    }

number_range : (n : ℕ) → (n == 0 || nat_lt 64 n) ≡ false → (1 ≤ n) × (n ≤ 64)
number_range n h = (grind (arith, rules), grind (arith, rules))

list_spelled : (bytes : List ℕ) (js : Joins) (n : ℕ) → length js ≡ n → 1 ≤ n → drop 12 bytes ≡ to_be_bytes w16 n ++ drop 14 bytes → drop 14 bytes ≡ joins_bytes js ++ drop (14 + 10 * n) bytes
    → (drop 12 bytes ≡ list_bytes js ++ drop (head_size js) bytes) × (version_of js ≡ 2)
list_spelled bytes [] n e some a b = absurd (omega (arith, e, some))
list_spelled bytes (j ∷ js) n e some a b =
    let all : Joins = j ∷ js in
    let number = to_be_bytes w16 (length all) in
    let place : 14 + 10 * n ≡ head_size all = omega (arith, e) in (
      a ∙ ap (λ k. to_be_bytes w16 k ++ drop 14 bytes) (sym e) ∙ ap (λ l. number ++ l) (b ∙ ap (λ k. joins_bytes all ++ drop k bytes) place)
          ∙ sym (append_assoc number (joins_bytes all) (drop (head_size all) bytes)),
      refl,
    )

-- the list of a frame of version 2
pub list_told : (bytes : List ℕ) (js : Joins) → AreBytes bytes → list_at bytes ≡ Ok js
    → (drop 12 bytes ≡ list_bytes js ++ drop (head_size js) bytes) × (version_of js ≡ 2) × AreJoins js
unfolding list_at
list_told bytes js fits h =
    let one = bind_told (u16_at bytes 12) _ js h in
    let n = one.0 in
    let two = else_told (n == 0 || nat_lt 64 n) (fault BadJoins 12) (joins_at bytes n 14 []) js one.2 in
    let range = number_range n two.0 in
    let t = joins_told bytes n 14 [] js fits none_are (omega (arith, range.1)) two.1 in
    let many : length js ≡ n = ap length t.whole ∙ t.many in
    let spelled : drop 14 bytes ≡ joins_bytes js ++ drop (14 + 10 * n) bytes = t.spelled ∙ ap (λ l. joins_bytes l ++ drop (14 + 10 * n) bytes) (sym t.whole) in
    let list = list_spelled bytes js n many range.0 (u16_told bytes 12 n fits one.1).0 spelled in
    (list.0, list.1, t.are)

-- What stands there

turned : (a b : ℕ) → nat_eq a b ≡ false → nat_eq b a ≡ false
turned a b h = ne_eqb b a (λ e. eqb-false a b h (sym e))

-- a join of a list stands past those before it
front_rise : (from : ℕ) (before : Joins) (j : Join) (js : Joins) → JoinsRise from (before ++ j ∷ js) → (last_tick_from from before < j.tick) × (j.tick ≤ 2 ^ 62) × (j.subscriber < 2 ^ 16)
front_rise from [] j js h = (h.0, h.1, h.2)
front_rise from (k ∷ before) j js h = front_rise k.tick before j js h.3

not_its : (before : Joins) (j : Join) (js : Joins) (s : ℕ) → has_joined (before ++ j ∷ js) s ≡ false → nat_eq j.subscriber s ≡ false
not_its [] j js s h = (or_parts (nat_eq j.subscriber s) (has_joined js s) h).0
not_its (k ∷ before) j js s h = not_its before j js s (or_parts (nat_eq k.subscriber s) (has_joined (before ++ j ∷ js) s) h).1

-- and none of them is its subscriber's
front_once : (before : Joins) (j : Join) (js : Joins) → JoinOnce (before ++ j ∷ js) → has_joined before j.subscriber ≡ false
front_once [] j js h = refl
front_once (k ∷ before) j js h =
    or_from (nat_eq k.subscriber j.subscriber) (has_joined before j.subscriber) (turned j.subscriber k.subscriber (not_its before j js k.subscriber h.0)) (front_once before j js h.1)

join_ranges : (t last : ℕ) → last < t → t ≤ 2 ^ 62 → (nat_le t last || nat_lt (2 ^ 62) t) ≡ false
join_ranges t last a b = grind (arith, rules)

join_here : (before js : Joins) (front rest bytes : List ℕ) (j : Join) (at : ℕ) → bytes ≡ front ++ ((to_be_bytes w16 j.subscriber ++ to_be_bytes w64 j.tick) ++ rest) → at ≡ length front
    → AreJoins (before ++ j ∷ js) → join_at bytes at before ≡ Ok j
unfolding join_at join_of
join_here before js front rest bytes j at e d are =
    let a = to_be_bytes w16 j.subscriber in
    let b = to_be_bytes w64 j.tick in
    let rise = front_rise 0 before j js are.rise in
    let apart : bytes ≡ front ++ (a ++ (b ++ rest)) = e ∙ ap (λ l. front ++ l) (append_assoc a b rest) in
    let next : at + 2 ≡ length (front ++ a) = omega (arith, d, length-append front a) in
    let number : u16_at bytes at ≡ Ok j.subscriber = u16_here front (b ++ rest) bytes j.subscriber at apart d rise.2 in
    let tick : u64_at bytes (at + 2) ≡ Ok j.tick = u64_here (front ++ a) rest bytes j.tick (at + 2) (apart ∙ sym (append_assoc front a (b ++ rest))) next (omega (arith, rise.1)) in
    rw (number, front_once before j js are.once, tick, join_ranges j.tick (last_join_tick before) rise.0 rise.1) refl

joins_here : (before js : Joins) (front rest bytes : List ℕ) (at : ℕ) → bytes ≡ front ++ (joins_bytes js ++ rest) → at ≡ length front → AreJoins (before ++ js)
    → joins_at bytes (length js) at before ≡ Ok (before ++ js)
unfolding joins_at
joins_here before [] front rest bytes at e d are = ap (λ l. Ok l) (sym (append-nil before))
joins_here before (j ∷ js) front rest bytes at e d are =
    let a = to_be_bytes w16 j.subscriber in
    let b = to_be_bytes w64 j.tick in
    let more = joins_bytes js in
    let here : bytes ≡ front ++ ((a ++ b) ++ (more ++ rest)) = e ∙ ap (λ l. front ++ l) (append_assoc (a ++ b) more rest) in
    let one : join_at bytes at before ≡ Ok j = join_here before js front (more ++ rest) bytes j at here d are in
    let next : bytes ≡ (front ++ (a ++ b)) ++ (more ++ rest) = here ∙ sym (append_assoc front (a ++ b) (more ++ rest)) in
    let place : at + 10 ≡ length (front ++ (a ++ b)) = omega (arith, d, length-append front (a ++ b), length-append a b) in
    let regrouped : (before ++ j ∷ []) ++ js ≡ before ++ j ∷ js = append_assoc before (j ∷ []) js in
    let others = joins_here (before ++ j ∷ []) js (front ++ (a ++ b)) rest bytes (at + 10) next place (subst AreJoins (sym regrouped) are) in
    ap (λ q. q >>= λ x. joins_at bytes (length js) (at + 10) (before ++ x ∷ [])) one ∙ others ∙ ap (λ l. Ok l) regrouped

numbers : (n : ℕ) → 1 ≤ n → n ≤ 64 → (n == 0 || nat_lt 64 n) ≡ false
numbers n a b = grind (arith, rules)

-- the list of a frame of version 2
pub list_here : (j : Join) (js : Joins) (front rest bytes : List ℕ) → bytes ≡ front ++ (list_bytes (j ∷ js) ++ rest) → length front ≡ 12 → AreJoins (j ∷ js) → list_at bytes ≡ Ok (j ∷ js)
unfolding list_at
list_here j js front rest bytes e d are =
    let all : Joins = j ∷ js in
    let n = length all in
    let a = to_be_bytes w16 n in
    let text = joins_bytes all in
    let first : bytes ≡ front ++ (a ++ (text ++ rest)) = e ∙ ap (λ l. front ++ l) (append_assoc a text rest) in
    let number : u16_at bytes 12 ≡ Ok n = u16_here front (text ++ rest) bytes n 12 first (sym d) (omega (arith, are.few)) in
    let next : bytes ≡ (front ++ a) ++ (text ++ rest) = first ∙ sym (append_assoc front a (text ++ rest)) in
    let place : 14 ≡ length (front ++ a) = omega (arith, d, length-append front a) in
    let read : joins_at bytes n 14 [] ≡ Ok all = joins_here [] all (front ++ a) rest bytes 14 next place are in
    ap (λ r. r >>= λ k. if k == 0 || nat_lt 64 k then Err (fault BadJoins 12) else joins_at bytes k 14 []) number
    ∙ ap (λ (b : Bool). if b then Err (fault BadJoins 12) else joins_at bytes n 14 []) (numbers n (omega arith) (omega (arith, are.few)))
    ∙ read

-- Reading join by join

refused : (bytes : List ℕ) (m n at : ℕ) (found : Joins) (e : FrameFault) → m ≡ suc n → join_at bytes at found ≡ Err e → joins_at bytes m at found ≡ Err e
unfolding joins_at
refused bytes m n at found e d a = rw (d, a) refl

-- a join that was refused refuses all
pub join_refused : (bytes : List ℕ) (m n at : ℕ) (found : Joins) (f : FrameFault) (all : Result Joins FrameFault) → m ≡ suc n → Fails f (join_at bytes at found)
    → joins_at bytes m at found ≡ all → Fails f all
join_refused bytes m n at found f all d h so_far = fails_on f.kind f.at (join_at bytes at found) all (λ e a. sym so_far ∙ refused bytes m n at found e d a) h

-- one that was read goes behind the others
pub join_read : (bytes : List ℕ) (m n at : ℕ) (found : Joins) (j : Join) (all : Result Joins FrameFault) → m ≡ suc n → join_at bytes at found ≡ Ok j
    → joins_at bytes m at found ≡ all → joins_at bytes n (at + 10) (found ++ j ∷ []) ≡ all
unfolding joins_at
join_read bytes m n at found j all d a so_far = rw (d, a) at so_far

-- none is left
pub joins_end : (bytes : List ℕ) (m at : ℕ) (found : Joins) (all : Result Joins FrameFault) → m ≡ 0 → joins_at bytes m at found ≡ all → all ≡ Ok found
unfolding joins_at
joins_end bytes m at found all z so_far = sym so_far ∙ ap (λ k. joins_at bytes k at found) z
