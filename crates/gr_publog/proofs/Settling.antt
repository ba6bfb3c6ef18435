-- What an opening does to two lanes once both are synced
use Rattle.std.proofs.Common.{◌≡◌, ◌⊎◌, inl, inr, ⊎_elim, ℕ, ◌+◌, ◌-◌, ◌<◌, ◌≤◌, Bool, true, false, ◌==◌, ◌&&◌, nat_le, nat_lt, if◌then◌else◌, List, [], ◌∷◌, ◌++◌, length, drop, take, get_or, Result, Ok, Err, refl, ap, ap₂, sym, ◌∙◌, subst, arith, length-append, eqb-true}
use Rattle.std.proofs.lemmas.Bool.{ltb-true, ltb-false, leb-true, leb-false, eqb-false, ne_eqb, lt-leb, cases_lt}
use Rattle.std.specs.Int.{from_be_bytes, w64}
use Rattle.gr_out.specs.Lane.{Lane, content, LeavesOnly}
use Rattle.gr_publog.specs.declared.record.Base.{Base}
use Rattle.gr_publog.specs.declared.record.Record.{Record}
use Rattle.gr_publog.specs.declared.record.LogFault.{LogFault}
use Rattle.gr_publog.specs.declared.record.LogFault.TheVariants as fault
use Rattle.gr_publog.specs.declared.steps.Aside.{Aside}
use Rattle.gr_publog.specs.declared.steps.Aside.TheVariants.{Short, Opened, Closed}
use Rattle.gr_publog.specs.declared.head.Standing.{Standing}
use Rattle.gr_publog.specs.declared.head.Standing.TheVariants.{Shut, Old, New}
use Rattle.gr_publog.specs.declared.head.Present.{Present}
use Rattle.gr_publog.specs.declared.head.Present.TheVariants.{Neither, First, Second}
use Rattle.gr_publog.specs.State.{LogState, empty_state, state_from, after_record, Follow, IsState, max_tick}
use Rattle.gr_publog.specs.Text.{◌>>=◌, AreBytes, WasRead, blocks, front_of, begun, IsText, is_open, is_generation, generation_in, standing_of, text_in, placed, placed_in, old_stamp}
use Rattle.gr_publog.specs.Lanes.{Found, present_of, found_by, found_as, found_none, lanes_text, state_in, state_text, read_by, pair_in, chosen}
use Rattle.gr_publog.specs.Rewrite.{IsShut, Outcome, filled, Reclaiming, ShutIs, TwoAre}
use Rattle.gr_publog.specs.Filled.{base_of, records_of, body_of, filled_size}
use Rattle.gr_publog.specs.Gives.{Tells}
use Rattle.gr_publog.specs.Steps.{Refills}
use Rattle.gr_publog.specs.Views.{LogView, Lanes, LeftPair, present, other, IsAside, Stands}
use Rattle.gr_publog.specs.Opens.{aside_of, aside_by, view_of, OpensAs, Settles, first_calls, second_calls}
use Rattle.gr_publog.proofs.Onward.{goes_on_same}
use Rattle.gr_publog.proofs.Kept.{begins, begun_is, kept}
use Rattle.gr_event.specs.declared.limits.TheConstants.{MAX_JOINS}
use Rattle.gr_publog.proofs.Reading.{base_least}
use Rattle.gr_publog.proofs.Told.{head_told, spells_told}
use Rattle.gr_publog.proofs.Filled.{filled_text, stands_for}
use Rattle.gr_publog.proofs.Surveying.{tells_on}
use Rattle.gr_publog.proofs.Calling.{same_left}
use Rattle.gr_publog.proofs.Refilling.{rest_of, body_begins, filled_reads, text_size, stands_at}

-- How a lane stands beside the present one

closed_is : (bytes : List ℕ) → is_open (length bytes) bytes ≡ false → IsShut bytes
closed_is bytes e = go (nat_lt 6 (length bytes)) (get_or bytes 5 0 == 1) refl refl e
  where
    go : (x y : Bool) → nat_lt 6 (length bytes) ≡ x → (get_or bytes 5 0 == 1) ≡ y → (x && y) ≡ false → IsShut bytes
    go false y l g h = inl (ltb-false 6 (length bytes) l)
    go true false l g h = inr (eqb-false (get_or bytes 5 0) 1 g)
    go true true l g h = absurd (cc h)

no_shut_generation : (total : ℕ) (bytes : List ℕ) → generation_in total bytes ≡ Ok Shut → ⊥
no_shut_generation total bytes h = go (nat_le 14 total) (is_generation (from_be_bytes w64 (take 8 (drop 6 bytes)))) h
  where
    go : (x y : Bool) → (if x then (if y then Ok (New (from_be_bytes w64 (take 8 (drop 6 bytes)))) else Err 6) else Err total) ≡ Ok Shut → ⊥
    go true true h = cc h
    go true false h = cc h
    go false y h = cc h

-- a lane that stands shut is
pub shut_told : (first : Bool) (bytes : List ℕ) → standing_of first bytes ≡ Ok Shut → IsShut bytes
shut_told first bytes e = elim (head_told first (length bytes) bytes Shut e) [
  | inl k ↦ closed_is bytes k.0
  | inr d ↦ elim d.version [ inl k ↦ absurd (no_shut_generation (length bytes) bytes k.1) | inr k ↦ absurd (old_not_shut k.2) ]
]
  where
    old_not_shut : Old ≡ Shut → ⊥
    old_not_shut h = cc h

-- and one that stands open is open
pub open_told : (first : Bool) (bytes : List ℕ) (x : Standing) → (Shut ≡ x → ⊥) → standing_of first bytes ≡ Ok x → (6 < length bytes) × (get_or bytes 5 0 ≡ 1)
open_told first bytes x some e = elim (head_told first (length bytes) bytes x e) [ inl k ↦ absurd (some k.1) | inr d ↦ (d.long, d.gate) ]

-- a shut lane beside any other
pub aside_shut : (first : Bool) (g : ℕ) (bytes : List ℕ) → IsShut bytes → IsAside (aside_of bytes) first g bytes
aside_shut first g bytes shut = by_length (nat_le (length bytes) 6) refl
  where
    by_gate : (b : Bool) → (get_or bytes 5 0 == 1) ≡ b → 6 < length bytes → IsShut bytes → IsAside (if b then Opened else Closed) first g bytes
    by_gate true e long (inl short) = absurd (omega (arith, short, long))
    by_gate true e long (inr ne) = absurd (ne (eqb-true (get_or bytes 5 0) 1 e))
    by_gate false e long s = (long, eqb-false (get_or bytes 5 0) 1 e)

    by_length : (b : Bool) → nat_le (length bytes) 6 ≡ b → IsAside (if b then Short else (if get_or bytes 5 0 == 1 then Opened else Closed)) first g bytes
    by_length true e = leb-true (length bytes) 6 e
    by_length false e = by_gate (get_or bytes 5 0 == 1) refl (omega (arith, leb-false (length bytes) 6 e)) shut

-- an open one
open_aside : (bytes : List ℕ) → 6 < length bytes → get_or bytes 5 0 ≡ 1 → aside_of bytes ≡ Opened
open_aside bytes long gate = rw (lt-leb (length bytes) 6 long, gate) refl

pub aside_open : (first : Bool) (g : ℕ) (bytes : List ℕ) → (6 < length bytes) × (get_or bytes 5 0 ≡ 1) → ((standing_of first bytes ≡ Ok Old) ⊎ ((h : ℕ) × (h < g) × (standing_of first bytes ≡ Ok (New h))))
    → IsAside (aside_of bytes) first g bytes
aside_open first g bytes o stands = subst (λ (x : Aside). IsAside x first g bytes) (sym (open_aside bytes o.0 o.1)) (o.0, o.1, stands)

-- by its size and how it stands
pub aside_same : (first : Bool) (bytes : List ℕ) (x : Standing) → standing_of first bytes ≡ Ok x → aside_by (length bytes) x ≡ aside_of bytes
aside_same first bytes Shut e = go (shut_told first bytes e) (nat_le (length bytes) 6) refl
  where
    go : IsShut bytes → (b : Bool) → nat_le (length bytes) 6 ≡ b → (if b then Short else Closed) ≡ (if b then Short else (if get_or bytes 5 0 == 1 then Opened else Closed))
    go s true l = refl
    go (inl short) false l = absurd (omega (arith, short, leb-false (length bytes) 6 l))
    go (inr ne) false l = rw (ne_eqb (get_or bytes 5 0) 1 ne) refl
aside_same first bytes Old e =
    let o = open_told first bytes Old (λ h. cc h) e in
    rw (lt-leb (length bytes) 6 o.0, o.1) refl
aside_same first bytes (New g) e =
    let o = open_told first bytes (New g) (λ h. cc h) e in
    rw (lt-leb (length bytes) 6 o.0, o.1) refl

-- What two lanes stand for

pub found_at : (late a b : List ℕ) (p : Present) → present_of a b ≡ Ok p → lanes_text late a b ≡ found_by late a b p
unfolding lanes_text
found_at late a b p e = ap (λ (r : Result Present ℕ). r >>= found_by late a b) e

pub state_at : (late a b : List ℕ) (p : Present) → present_of a b ≡ Ok p → state_in late a b ≡ read_by (empty_state late) (state_text late) a b p
unfolding pair_in
state_at late a b p e = ap (λ (r : Result Present ℕ). r >>= read_by (empty_state late) (state_text late) a b) e

pub found_fault : (late a b : List ℕ) (e : LogFault) → Tells e (present_of a b) → Tells e (lanes_text late a b)
unfolding lanes_text
found_fault late a b e h = tells_on e (present_of a b) (found_by late a b) h

pub opens_fault : (late : List ℕ) (lane : ℕ) (a b : List ℕ) (e : LogFault) → Tells e (lanes_text late a b) → OpensAs late lane a b (Err e)
opens_fault late lane a b fault.Memory h = tt
opens_fault late lane a b fault.Disk h = tt
opens_fault late lane a b (fault.Damaged at) h = h
opens_fault late lane a b fault.Reopen h = absurd h

same_found : (x y : Found) → ◌≡◌ {A = Result Found ℕ} (Ok x) (Ok y) → x ≡ y
same_found x y e = cc

-- Where nothing was called

module _ (late : List ℕ) (lane : ℕ) (before after : Lanes) (one : LeavesOnly before.first (content before.first)) (two : LeavesOnly before.second (content before.second)) (same : after ≡ before) where
  still : (x y : List ℕ) → LeftPair before after x y → state_in late x y ≡ state_in late (content before.first) (content before.second)
  still x y left =
      ap₂ (λ (u v : List ℕ). state_in late u v) (one x (same_left before.first after.first x (ap (λ (l : Lanes). l.first) same) left.0))
      (two y (same_left before.second after.second y (ap (λ (l : Lanes). l.second) same) left.1))

  pub settles_fault : (e : LogFault) → OpensAs late lane (content before.first) (content before.second) (Err e) → Settles late lane before after (Err e)
  settles_fault e gives = record {
    gives = gives;
    stands = tt;
    on_first = goes_on_same before.first after.first (ap (λ (l : Lanes). l.first) same);
    on_second = goes_on_same before.second after.second (ap (λ (l : Lanes). l.second) same);
    any_moment = still;
    calls = λ f h. tt;
    reserved_first = λ h. ap (λ (l : Lanes). l.first.reserved) same ∙ h;
    reserved_second = λ h. ap (λ (l : Lanes). l.second.reserved) same ∙ h;
    unset_first = λ h. ap (λ (l : Lanes). l.first.stop) same ∙ h;
    unset_second = λ h. ap (λ (l : Lanes). l.second.stop) same ∙ h;
  }

  pub settles_found : (l : LogView) (f : Found) → lanes_text late (content before.first) (content before.second) ≡ Ok f → f.version ≡ 2 → l ≡ view_of lane (content before.first) (content before.second) f → Stands before l
      → Settles late lane before after (Ok l)
  settles_found l f found version is stands = record {
    gives = (f, found, is);
    stands = subst (λ (x : Lanes). Stands x l) (sym same) stands;
    on_first = goes_on_same before.first after.first (ap (λ (l : Lanes). l.first) same);
    on_second = goes_on_same before.second after.second (ap (λ (l : Lanes). l.second) same);
    any_moment = still;
    calls = λ k h. let e : k ≡ f = same_found k f (sym h ∙ found) in
        let v : k.version ≡ 2 = ap (λ (y : Found). y.version) e ∙ version in
        (ap (λ (x : Lanes). x.first.calls) same ∙ sym (rw v refl), ap (λ (x : Lanes). x.second.calls) same ∙ sym (rw v refl));
    reserved_first = λ h. ap (λ (l : Lanes). l.first.reserved) same ∙ h;
    reserved_second = λ h. ap (λ (l : Lanes). l.second.reserved) same ∙ h;
    unset_first = λ h. ap (λ (l : Lanes). l.first.stop) same ∙ h;
    unset_second = λ h. ap (λ (l : Lanes). l.second.stop) same ∙ h;
  }

-- The first opening: the first lane is filled with the empty state

module _ (late : List ℕ) (few : length late ≤ MAX_JOINS) (shut_is : ShutIs) (two : TwoAre) (r : Reclaiming (empty_state late) (state_text late)) (lane : ℕ) (before after : Lanes) (sa : IsShut (content before.first)) (sb : IsShut (content before.second))
    (sole : LeavesOnly before.second (content before.second)) (same : after.second ≡ before.second) where
  abbrev a : List ℕ
  a = content before.first

  abbrev b : List ℕ
  b = content before.second

  none : present_of a b ≡ Ok Neither
  none = two a b Shut Shut (shut_is true a sa) (shut_is false b sb)

  begin_moments : {T : Type 0} (result : Result T LogFault) → Refills (aside_of a) (body_of (empty_state late) 1) before.first after.first result → (x y : List ℕ) → LeftPair before after x y → state_in late x y ≡ state_in late a b
  begin_moments result refills x y left =
      let at : y ≡ b = sole y (same_left before.second after.second y same left.1) in
      let out : Outcome 1 (rest_of (empty_state late) 1) a x = elim (refills.any_moment x left.0) [
        | inl e ↦ inl e
        | inr (inl h) ↦ inr (inl h)
        | inr (inr e) ↦ inr (inr (e ∙ ap (λ (c : List ℕ). filled c a) (body_begins (empty_state late) 1)))
      ] in
      ap (λ (z : List ℕ). state_in late x z) at
      ∙ (⊎_elim (λ e. e) (λ e. e ∙ (ap (λ (c : List ℕ). state_text late (New 1) (filled c a)) (sym (body_begins (empty_state late) 1)) ∙ filled_reads (empty_state late) 1 a (begins late few) (omega arith) (omega arith)))
      (r.beginning a b (rest_of (empty_state late) 1) x sa sb out) ∙ sym (state_at late a b Neither none))

  pub settles_begin_err : (e : LogFault) → OpensAs late lane a b (Err e) → Refills {T = ℕ} (aside_of a) (body_of (empty_state late) 1) before.first after.first (Err e) → Settles late lane before after (Err e)
  settles_begin_err e gives refills = record {
    gives = gives;
    stands = tt;
    on_first = refills.on;
    on_second = goes_on_same before.second after.second same;
    any_moment = begin_moments {T = ℕ} (Err e) refills;
    calls = λ f h. tt;
    reserved_first = refills.reserved;
    reserved_second = λ h. ap (λ (l : Lane). l.reserved) same ∙ h;
    unset_first = refills.unset;
    unset_second = λ h. ap (λ (l : Lane). l.stop) same ∙ h;
  }

  abbrev begun_view : LogView
  begun_view = record { lane = lane; state = empty_state late; broken = false; second = false; generation = 1; size = filled_size (empty_state late); aside = aside_of b }

  pub settles_begin_ok : (n : ℕ) (l : LogView) → l ≡ begun_view → Refills {T = ℕ} (aside_of a) (body_of (empty_state late) 1) before.first after.first (Ok n) → Settles late lane before after (Ok l)
  settles_begin_ok n l is refills =
      let found : lanes_text late a b ≡ Ok (found_none late) = found_at late a b Neither none in
      let stands : Stands after begun_view = record {
        base = base_of (empty_state late) 1;
        records = records_of (empty_state late);
        text = subst (λ (c : List ℕ). IsText late c (base_of (empty_state late) 1) (records_of (empty_state late))) (sym refills.written) (filled_text (empty_state late) 1 a (begins late few) (omega arith) (omega arith));
        state = stands_for (empty_state late) 1 (begins late few);
        generation = refl;
        size = text_size (empty_state late) 1;
        aside = subst (λ (x : Lane). IsAside (aside_of b) false 1 (content x)) (sym same) (aside_shut false 1 b sb);
        only = refills.only;
        only_aside = subst (λ (x : Lane). LeavesOnly x (content x)) (sym same) sole;
      } in
      record {
        gives = (found_none late, found, is);
        stands = subst (Stands after) (sym is) stands;
        on_first = refills.on;
        on_second = goes_on_same before.second after.second same;
        any_moment = begin_moments {T = ℕ} (Ok n) refills;
        calls = λ f h. subst (λ (k : Found). (after.first.calls ≡ first_calls a k before.first.calls) × (after.second.calls ≡ second_calls b k before.second.calls)) (same_found (found_none late) f (sym found ∙ h))
            (refills.calls, ap (λ (x : Lane). x.calls) same);
        reserved_first = refills.reserved;
        reserved_second = λ h. ap (λ (l : Lane). l.reserved) same ∙ h;
        unset_first = refills.unset;
        unset_second = λ h. ap (λ (l : Lane). l.stop) same ∙ h;
      }

-- A log of the first version: what it holds is written into the second lane

module _ (late : List ℕ) (shut_is : ShutIs) (two : TwoAre) (r : Reclaiming (empty_state late) (state_text late)) (lane : ℕ) (before after : Lanes) (oa : standing_of true (content before.first) ≡ Ok Old) (sb : IsShut (content before.second))
    (sole : LeavesOnly before.first (content before.first)) (same : after.first ≡ before.first) (s : LogState) (gate : ℕ) (i : IsState s) (placed_is : placed_in late Old (content before.first) ≡ Ok (s, gate))
    (text_is : state_text late Old (content before.first) ≡ Ok s) (late_is : s.late ≡ late) where
  abbrev oldest : List ℕ
  oldest = content before.first

  abbrev beside : List ℕ
  beside = content before.second

  first_old : present_of oldest beside ≡ Ok (First Old)
  first_old = two oldest beside Old Shut oa (shut_is false beside sb)

  abbrev found_old : Found
  found_old = found_as Old false (s, gate)

  old_is_found : lanes_text late oldest beside ≡ Ok found_old
  old_is_found = found_at late oldest beside (First Old) first_old ∙ ap (λ (k : Result (LogState × ℕ) ℕ). k >>= λ x. Ok (found_as Old false x)) placed_is

  migrate_moments : {T : Type 0} (result : Result T LogFault) → Refills (aside_of beside) (body_of s 1) before.second after.second result → (x y : List ℕ) → LeftPair before after x y → state_in late x y ≡ state_in late oldest beside
  migrate_moments result refills x y left =
      let at : x ≡ oldest = sole x (same_left before.first after.first x same left.0) in
      let out : Outcome 1 (rest_of s 1) beside y = elim (refills.any_moment y left.1) [
        | inl e ↦ inl e
        | inr (inl h) ↦ inr (inl h)
        | inr (inr e) ↦ inr (inr (e ∙ ap (λ (c : List ℕ). filled c beside) (body_begins s 1)))
      ] in
      ap (λ (z : List ℕ). state_in late z y) at
      ∙ (⊎_elim (λ e. e ∙ text_is) (λ e. e ∙ (ap (λ (c : List ℕ). state_text late (New 1) (filled c beside)) (sym (body_begins s 1)) ∙ (ap (λ (l : List ℕ). state_text l (New 1) (filled (body_of s 1) beside)) (sym late_is) ∙ filled_reads s 1 beside i (omega arith) (omega arith))))
      (r.migrating oldest beside (rest_of s 1) y oa sb out) ∙ sym (state_at late oldest beside (First Old) first_old ∙ text_is))

  pub settles_migrate_err : (e : LogFault) → OpensAs late lane oldest beside (Err e) → Refills {T = ℕ} (aside_of beside) (body_of s 1) before.second after.second (Err e) → Settles late lane before after (Err e)
  settles_migrate_err e gives refills = record {
    gives = gives;
    stands = tt;
    on_first = goes_on_same before.first after.first same;
    on_second = refills.on;
    any_moment = migrate_moments {T = ℕ} (Err e) refills;
    calls = λ f h. tt;
    reserved_first = λ h. ap (λ (l : Lane). l.reserved) same ∙ h;
    reserved_second = refills.reserved;
    unset_first = λ h. ap (λ (l : Lane). l.stop) same ∙ h;
    unset_second = refills.unset;
  }

  abbrev migrated_view : LogView
  migrated_view = record { lane = lane; state = s; broken = false; second = true; generation = 1; size = filled_size s; aside = Opened }

  pub settles_migrate_ok : (n : ℕ) (l : LogView) → l ≡ migrated_view → Refills {T = ℕ} (aside_of beside) (body_of s 1) before.second after.second (Ok n) → Settles late lane before after (Ok l)
  settles_migrate_ok n l is refills =
      let opened = open_told true oldest Old (λ h. cc h) oa in
      let stands : Stands after migrated_view = record {
        base = base_of s 1;
        records = records_of s;
        text = subst (λ (c : List ℕ). IsText s.late c (base_of s 1) (records_of s)) (sym refills.written) (filled_text s 1 beside i (omega arith) (omega arith));
        state = stands_for s 1 i;
        generation = refl;
        size = text_size s 1;
        aside = subst (λ (x : Lane). IsAside Opened true 1 (content x)) (sym same) (opened.0, opened.1, inl oa);
        only = refills.only;
        only_aside = subst (λ (x : Lane). LeavesOnly x (content x)) (sym same) sole;
      } in
      record {
        gives = (found_old, old_is_found, is);
        stands = subst (Stands after) (sym is) stands;
        on_first = goes_on_same before.first after.first same;
        on_second = refills.on;
        any_moment = migrate_moments {T = ℕ} (Ok n) refills;
        calls = λ f h. subst (λ (k : Found). (after.first.calls ≡ first_calls oldest k before.first.calls) × (after.second.calls ≡ second_calls beside k before.second.calls)) (same_found found_old f (sym old_is_found ∙ h))
            (ap (λ (x : Lane). x.calls) same, refills.calls);
        reserved_first = λ h. ap (λ (l : Lane). l.reserved) same ∙ h;
        reserved_second = refills.reserved;
        unset_first = λ h. ap (λ (l : Lane). l.stop) same ∙ h;
        unset_second = refills.unset;
      }

-- What is read of a present lane

state_kept : (s : LogState) (rs : List Record) → IsState s → Follow s rs → IsState (state_from s rs)
state_kept s [] i f = i
state_kept s (r ∷ rs) i f = state_kept (after_record s r) rs (kept s r i f.0 f.1) f.2

was_state : (front bytes left : List ℕ) (start s : LogState) → IsState start → WasRead front start bytes s left → IsState s
was_state front bytes left start s i w = subst IsState w.state (state_kept start w.records i w.spells.follow)

-- a text and the place of its closed gate
record IsPlaced (late : List ℕ) (x : Standing) (bytes : List ℕ) (s : LogState) (gate : ℕ) : Type 0 where
  left : List ℕ
  text : text_in late x bytes ≡ Ok (s, left)
  place : gate ≡ length bytes - length left

placed_told : (late : List ℕ) (x : Standing) (bytes : List ℕ) (s : LogState) (gate : ℕ) → placed_in late x bytes ≡ Ok (s, gate) → IsPlaced late x bytes s gate
placed_told late x bytes s gate e = go (text_in late x bytes) refl e
  where
    go : (r : Result (LogState × List ℕ) ℕ) → text_in late x bytes ≡ r → placed (length bytes) r ≡ Ok (s, gate) → IsPlaced late x bytes s gate
    go (Ok y) is h =
        let both : (y.0, length bytes - length y.1) ≡ (s, gate) = cc in
        let first : y.0 ≡ s = ap (λ (z : LogState × ℕ). z.0) both in
        record { left = y.1; text = is ∙ ap (λ (t : LogState). Ok (t, y.1)) first; place = sym (ap (λ (z : LogState × ℕ). z.1) both) }
    go (Err at) is h = absurd (cc h)

late_on : (s : LogState) (rs : List Record) → (state_from s rs).late ≡ s.late
late_on s [] = refl
late_on s (r ∷ rs) = late_on (after_record s r) rs

pub old_state : (late bytes : List ℕ) (s : LogState) (gate : ℕ) → length late ≤ MAX_JOINS → AreBytes bytes → standing_of true bytes ≡ Ok Old → placed_in late Old bytes ≡ Ok (s, gate)
    → IsState s × (state_text late Old bytes ≡ Ok s) × (s.late ≡ late)
old_state late bytes s gate few fits stands e =
    let p = placed_told late Old bytes s gate e in
    let w = spells_told.old late bytes s p.left fits stands p.text in (
      was_state old_stamp bytes p.left (empty_state late) s (begins late few) w,
      ap (λ (r : Result (LogState × List ℕ) ℕ). r >>= λ x. Ok x.0) p.text,
      ap (λ (x : LogState). x.late) (sym w.state) ∙ late_on (empty_state late) w.records,
    )

pub new_state : (late : List ℕ) (first : Bool) (g : ℕ) (bytes : List ℕ) (s : LogState) (gate : ℕ) → length late ≤ MAX_JOINS → AreBytes bytes → standing_of first bytes ≡ Ok (New g) → placed_in late (New g) bytes ≡ Ok (s, gate)
    → IsState s × (1 ≤ g) × (g ≤ max_tick) × (32 ≤ gate)
new_state late first g bytes s gate few fits stands e =
    let p = placed_told late (New g) bytes s gate e in
    let w = spells_told.new late bytes g first s p.left few fits stands p.text in
    let t = w.3 in
    (was_state (front_of w.0) bytes p.left (begun late w.0) s (begun_is late w.0 w.2) t, omega (arith, w.1, w.2.low), omega (arith, w.1, w.2.high), long w.0 p.left p.place t)
  where
    long : (b : Base) (left : List ℕ) → gate ≡ length bytes - length left → WasRead (front_of b) (begun late b) bytes s left → 32 ≤ gate
    long b left place t =
        omega (arith, place, ap length t.spells.text.whole, ap length t.left_is, length-append (front_of b ++ blocks t.records) (t.spells.text.gate ∷ t.spells.text.tail), length-append (front_of b) (blocks t.records), base_least b)

pub found_stands : (ls : Lanes) (l : LogView) (p o : Lane) (first : Bool) (gate : ℕ) → length l.state.late ≤ MAX_JOINS → p ≡ present l ls → o ≡ other l ls → AreBytes (content p) → standing_of first (content p) ≡ Ok (New l.generation)
    → placed_in l.state.late (New l.generation) (content p) ≡ Ok (l.state, gate) → l.size ≡ gate + 1 → IsAside l.aside l.second l.generation (content o) → LeavesOnly p (content p) → LeavesOnly o (content o) → Stands ls l
found_stands ls l p o first gate few ep eo fits stands e size aside only only_aside =
    let q = placed_told l.state.late (New l.generation) (content p) l.state gate e in
    let w = spells_told.new l.state.late (content p) l.generation first l.state q.left few fits stands q.text in
    let t = w.3 in
    let c = t.spells.text in
    let whole : length (front_of w.0 ++ blocks t.records) + 1 ≡ l.size =
    omega (arith, size, q.place, ap length c.whole, ap length t.left_is, length-append (front_of w.0 ++ blocks t.records) (c.gate ∷ c.tail)) in
    stands_at ls l p o w.0 t.records ep eo (record { spells = t.spells; base = w.2 }) t.state w.1 whole aside only only_aside

-- Which lane is present, the other way round

abbrev picked : Bool → Bool → ℕ → ℕ → Result Present ℕ
picked u v g h = if u then Err 6 else (if v then Ok (First (New g)) else Ok (Second (New h)))

abbrev pub Below : ℕ → Standing → Type 0
Below g y = (y ≡ Shut) ⊎ ((y ≡ Old) ⊎ ((h : ℕ) × (h < g) × (y ≡ New h)))

pub chosen_neither : (x y : Standing) → chosen x y ≡ Ok Neither → (x ≡ Shut) × (y ≡ Shut)
chosen_neither Shut Shut e = (refl, refl)
chosen_neither Shut Old e = absurd (cc e)
chosen_neither Shut (New h) e = absurd (cc e)
chosen_neither Old Shut e = absurd (cc e)
chosen_neither Old Old e = absurd (cc e)
chosen_neither Old (New h) e = absurd (cc e)
chosen_neither (New g) Shut e = absurd (cc e)
chosen_neither (New g) Old e = absurd (cc e)
chosen_neither (New g) (New h) e = go (g == h) (nat_lt h g) e
  where
    go : (u v : Bool) → picked u v g h ≡ Ok Neither → (New g ≡ Shut) × (New h ≡ Shut)
    go true v k = absurd (cc k)
    go false true k = absurd (cc k)
    go false false k = absurd (cc k)

pub chosen_first : (x y z : Standing) → chosen x y ≡ Ok (First z) → ((z ≡ Old) × (x ≡ Old) × (y ≡ Shut)) ⊎ ((g : ℕ) × (z ≡ New g) × (x ≡ New g) × Below g y)
chosen_first Shut Shut z e = absurd (cc e)
chosen_first Shut Old z e = absurd (cc e)
chosen_first Shut (New h) z e = absurd (cc e)
chosen_first Old Shut z e = inl (let k : Old ≡ z = cc in sym k, refl, refl)
chosen_first Old Old z e = absurd (cc e)
chosen_first Old (New h) z e = absurd (cc e)
chosen_first (New g) Shut z e = inr (g, let k : New g ≡ z = cc in sym k, refl, inl refl)
chosen_first (New g) Old z e = inr (g, let k : New g ≡ z = cc in sym k, refl, inr (inl refl))
chosen_first (New g) (New h) z e = go (g == h) (nat_lt h g) refl e
  where
    go : (u v : Bool) → nat_lt h g ≡ v → picked u v g h ≡ Ok (First z)
        → ((z ≡ Old) × (New g ≡ Old) × (New h ≡ Shut)) ⊎ ((k : ℕ) × (z ≡ New k) × (New g ≡ New k) × Below k (New h))
    go true v l k = absurd (cc k)
    go false true l k = inr (g, let m : New g ≡ z = cc in sym m, refl, inr (inr (h, ltb-true h g l, refl)))
    go false false l k = absurd (cc k)

pub chosen_second : (x y z : Standing) → chosen x y ≡ Ok (Second z) → (y ≡ z) × (((z ≡ Old) ⊎ ((g : ℕ) × (z ≡ New g) × Below g x)))
chosen_second Shut Shut z e = absurd (cc e)
chosen_second Shut Old z e = let k : Old ≡ z = cc in (k, inl (sym k))
chosen_second Shut (New h) z e = let k : New h ≡ z = cc in (k, inr (h, sym k, inl refl))
chosen_second Old Shut z e = absurd (cc e)
chosen_second Old Old z e = let k : Old ≡ z = cc in (k, inl (sym k))
chosen_second Old (New h) z e = let k : New h ≡ z = cc in (k, inr (h, sym k, inr (inl refl)))
chosen_second (New g) Shut z e = absurd (cc e)
chosen_second (New g) Old z e = absurd (cc e)
chosen_second (New g) (New h) z e = go (g == h) (nat_lt h g) refl refl e
  where
    go : (u v : Bool) → (g == h) ≡ u → nat_lt h g ≡ v → picked u v g h ≡ Ok (Second z)
        → (New h ≡ z) × (((z ≡ Old) ⊎ ((k : ℕ) × (z ≡ New k) × Below k (New g))))
    go true v q l k = absurd (cc k)
    go false true q l k = absurd (cc k)
    go false false q l k =
        let m : New h ≡ z = cc in
        let below : g < h = elim (cases_lt g h) [ inl p ↦ p | inr p ↦ absurd (eqb-false g h q (omega (arith, p, ltb-false h g l))) ] in
        (m, inr (h, sym m, inr (inr (g, below, refl))))
