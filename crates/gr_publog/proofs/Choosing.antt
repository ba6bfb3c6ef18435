-- What the choice of a present lane says of the heads
use Rattle.std.proofs.Common.{◌≡◌, ◌⊎◌, inl, inr, ℕ, Bool, true, false, nat_le, if◌then◌else◌, List, length, drop, take, Result, Ok, Err, refl, ap, sym, ◌∙◌, subst}
use Rattle.std.specs.Prelude.{IsErrOf, ◌||◌}
use Rattle.std.specs.Int.{from_be_bytes, w64}
use Rattle.gr_out.specs.Faults.{Rose}
use Rattle.gr_out.specs.Lane.{content, has_stopped}
use Rattle.gr_publog.specs.declared.record.LogFault.{LogFault}
use Rattle.gr_publog.specs.declared.record.LogFault.TheVariants as fault
use Rattle.gr_publog.specs.Crash.{GaveUp}
use Rattle.gr_publog.specs.Calls.{Causes}
use Rattle.gr_publog.specs.declared.opening.Heads.{Heads}
use Rattle.gr_publog.specs.declared.head.Standing.{Standing}
use Rattle.gr_publog.specs.declared.head.Standing.TheVariants.{Shut, Old, New}
use Rattle.gr_publog.specs.declared.head.Present.TheVariants.{First, Second}
use Rattle.gr_publog.specs.Text.{IsStanding, is_generation, generation_in, standing_of}
use Rattle.gr_publog.specs.Lanes.{present_of, chosen}
use Rattle.gr_publog.specs.Rewrite.{TwoAre}
use Rattle.gr_publog.specs.Views.{LogView, Lanes, IsAside}
use Rattle.gr_publog.specs.Opens.{aside_of, aside_by, AreHeads, EitherStopped, OpensAs, Surveys, Settles, Opens}
use Rattle.gr_publog.proofs.Told.{head_told}
use Rattle.gr_publog.proofs.Settling.{Below, shut_told, open_told, aside_shut, aside_open, aside_same, chosen_first, chosen_second}
use Rattle.gr_publog.proofs.Starting.{heads_choose, gave_up_opens}

-- the second lane is never read as of the first version
no_old_generation : (total : ℕ) (bytes : List ℕ) → generation_in total bytes ≡ Ok Old → ⊥
no_old_generation total bytes h = go (nat_le 14 total) (is_generation (from_be_bytes w64 (take 8 (drop 6 bytes)))) h
  where
    go : (x y : Bool) → (if x then (if y then Ok (New (from_be_bytes w64 (take 8 (drop 6 bytes)))) else Err 6) else Err total) ≡ Ok Old → ⊥
    go true true h = cc h
    go true false h = cc h
    go false y h = cc h

pub never_old : (bytes : List ℕ) → standing_of false bytes ≡ Ok Old → ⊥
never_old bytes e = elim (head_told false (length bytes) bytes Old e) [
  | inl k ↦ shut_not_old k.1
  | inr d ↦ elim d.version [ inl k ↦ no_old_generation (length bytes) bytes k.1 | inr k ↦ false_not_true k.1 ]
]
  where
    shut_not_old : Shut ≡ Old → ⊥
    shut_not_old h = cc h

    false_not_true : false ≡ true → ⊥
    false_not_true h = cc h

-- how the lane stands that is not present
beside : (first : Bool) (g size : ℕ) (y : Standing) (bytes : List ℕ) → size ≡ length bytes → standing_of first bytes ≡ Ok y → Below g y → (aside_by size y ≡ aside_of bytes) × IsAside (aside_by size y) first g bytes
beside first g size y bytes sized stands below =
    let same : aside_by size y ≡ aside_of bytes = ap (λ (n : ℕ). aside_by n y) sized ∙ aside_same first bytes y stands in
    (same, subst (λ a. IsAside a first g bytes) (sym same) (go y stands below))
  where
    go : (y : Standing) → standing_of first bytes ≡ Ok y → Below g y → IsAside (aside_of bytes) first g bytes
    go y s (inl e) = aside_shut first g bytes (shut_told first bytes (s ∙ ap (λ (x : Standing). Ok x) e))
    go y s (inr (inl e)) =
        let o : standing_of first bytes ≡ Ok Old = s ∙ ap (λ (x : Standing). Ok x) e in
        aside_open first g bytes (open_told first bytes Old (λ h. cc h) o) (inl o)
    go y s (inr (inr e)) =
        let o : standing_of first bytes ≡ Ok (New e.0) = s ∙ ap (λ (x : Standing). Ok x) e.2 in
        aside_open first g bytes (open_told first bytes (New e.0) (λ h. cc h) o) (inr (e.0, e.1, o))

same_new : (g k : ℕ) → New g ≡ New k → k ≡ g
same_new g k e = let h : g ≡ k = cc in sym h

-- The first lane is present

pub first_is_new : (x y : Standing) (g : ℕ) → chosen x y ≡ Ok (First (New g)) → (x ≡ New g) × Below g y
first_is_new x y g e = elim (chosen_first x y (New g) e) [
  | inl k ↦ new_not_old k.0
  | inr k ↦ let s : k.0 ≡ g = same_new g k.0 k.1 in (k.2 ∙ ap New s, subst (λ (n : ℕ). Below n y) s k.3)
]
  where
    new_not_old : {P : Type 0} → New g ≡ Old → P
    new_not_old h = absurd (cc h)

pub first_is_old : (x y : Standing) → chosen x y ≡ Ok (First Old) → (x ≡ Old) × (y ≡ Shut)
first_is_old x y e = elim (chosen_first x y Old e) [ inl k ↦ (k.1, k.2) | inr k ↦ old_not_new k.0 k.1 ]
  where
    old_not_new : {P : Type 0} (g : ℕ) → Old ≡ New g → P
    old_not_new g h = absurd (cc h)

pub first_not_shut : (x y : Standing) → chosen x y ≡ Ok (First Shut) → ⊥
first_not_shut x y e = elim (chosen_first x y Shut e) [ inl k ↦ shut_not_old k.0 | inr k ↦ shut_not_new k.0 k.1 ]
  where
    shut_not_old : Shut ≡ Old → ⊥
    shut_not_old h = cc h

    shut_not_new : (g : ℕ) → Shut ≡ New g → ⊥
    shut_not_new g h = cc h

-- The second one is

pub second_is_new : (x y : Standing) (g : ℕ) → chosen x y ≡ Ok (Second (New g)) → (y ≡ New g) × Below g x
second_is_new x y g e =
    let c = chosen_second x y (New g) e in
    elim c.1 [
      | inl k ↦ new_not_old k
      | inr k ↦ let s : k.0 ≡ g = same_new g k.0 k.1 in (c.0, subst (λ (n : ℕ). Below n x) s k.2)
    ]
  where
    new_not_old : {P : Type 0} → New g ≡ Old → P
    new_not_old h = absurd (cc h)

pub second_not_shut : (x y : Standing) → chosen x y ≡ Ok (Second Shut) → ⊥
second_not_shut x y e = elim (chosen_second x y Shut e).1 [ inl k ↦ shut_not_old k | inr k ↦ shut_not_new k.0 k.1 ]
  where
    shut_not_old : Shut ≡ Old → ⊥
    shut_not_old h = cc h

    shut_not_new : (g : ℕ) → Shut ≡ New g → ⊥
    shut_not_new g h = cc h

-- With the lanes

-- What a present lane of the second version says.
pub record IsFirstNew (h : Heads) (g : ℕ) (a b : List ℕ) : Type 0 where
  pub present : present_of a b ≡ Ok (First (New g))
  pub standing : standing_of true a ≡ Ok (New g)
  pub aside : aside_by h.second_size h.second ≡ aside_of b
  pub beside_it : IsAside (aside_by h.second_size h.second) false g b

pub first_new : TwoAre → (h : Heads) (g : ℕ) (a b : List ℕ) → AreHeads h a b → chosen h.first h.second ≡ Ok (First (New g)) → IsFirstNew h g a b
first_new two h g a b r e =
    let c = first_is_new h.first h.second g e in
    let s = beside false g h.second_size h.second b r.second_size r.second c.1 in
    record { present = heads_choose two h a b r ∙ e; standing = r.first ∙ ap (λ (x : Standing). Ok x) c.0; aside = s.0; beside_it = s.1 }

pub record IsSecondNew (h : Heads) (g : ℕ) (a b : List ℕ) : Type 0 where
  pub present : present_of a b ≡ Ok (Second (New g))
  pub standing : standing_of false b ≡ Ok (New g)
  pub aside : aside_by h.first_size h.first ≡ aside_of a
  pub beside_it : IsAside (aside_by h.first_size h.first) true g a

pub second_new : TwoAre → (h : Heads) (g : ℕ) (a b : List ℕ) → AreHeads h a b → chosen h.first h.second ≡ Ok (Second (New g)) → IsSecondNew h g a b
second_new two h g a b r e =
    let c = second_is_new h.first h.second g e in
    let s = beside true g h.first_size h.first a r.first_size r.first c.1 in
    record { present = heads_choose two h a b r ∙ e; standing = r.second ∙ ap (λ (x : Standing). Ok x) c.0; aside = s.0; beside_it = s.1 }

pub second_not_old : (h : Heads) (a b : List ℕ) → AreHeads h a b → chosen h.first h.second ≡ Ok (Second Old) → ⊥
second_not_old h a b r e = never_old b (r.second ∙ ap (λ (x : Standing). Ok x) (chosen_second h.first h.second Old e).0)

pub standing_as : (total : ℕ) (x y : Standing) → x ≡ y → IsStanding total x → IsStanding total y
standing_as total x y e s = subst (IsStanding total) e s

-- An opening

fault_is : {T : Type 0} (x y : LogFault) → ◌≡◌ {A = Result T LogFault} (Err x) (Err y) → x ≡ y
fault_is x y h = cc

pub opens_failed : (late : List ℕ) (lane : ℕ) (before after : Lanes) (e : LogFault) → Surveys {T = Unit {0}} before after (Err e) → GaveUp {X = Unit {0}} (Err e) → Opens late lane before after (Err e)
opens_failed late lane before after e s gave = record {
  gives = gave_up_opens (Unit {0}) late lane (content before.first) (content before.second) e gave;
  stands = tt;
  synced = after;
  answer = Err e;
  syncs = s;
  stops = λ x h. (refl, ap (λ (y : LogFault). Err y) (fault_is e x h));
  settles = tt;
}

pub opens_of : (late : List ℕ) (lane : ℕ) (before synced after : Lanes) (u : Unit {0}) (result : Result LogView LogFault) → Surveys before synced (Ok u) → Settles late lane synced after result → Opens late lane before after result
opens_of late lane before synced after u result s r = record {
  gives = subst (λ (b : List ℕ). OpensAs late lane (content before.first) b result) s.second (subst (λ (a : List ℕ). OpensAs late lane a (content synced.second) result) s.first r.gives);
  stands = r.stands;
  synced = synced;
  answer = Ok u;
  syncs = s;
  stops = λ x h. absurd (cc h);
  settles = r;
}

-- one of two lanes was stopped
or_of : (x y : Bool) → (x ≡ true) ⊎ (y ≡ true) → (x || y) ≡ true
or_of true y h = refl
or_of false y (inl h) = absurd (cc h)
or_of false y (inr h) = h

pub causes_of : {T : Type 0} (faultless : Type 0) (ls : Lanes) (faults faults' : ℕ) (result : Result T LogFault) → (IsErrOf result fault.Disk → EitherStopped ls ⊎ Rose faults faults') → (faultless → IsErrOf result fault.Disk → EitherStopped ls)
    → Causes faultless (has_stopped ls.first.stop || has_stopped ls.second.stop) faults faults' result
causes_of faultless ls faults faults' result why by = record {
  why = λ h. elim (why h) [ inl s ↦ inl (or_of (has_stopped ls.first.stop) (has_stopped ls.second.stop) s) | inr r ↦ inr r ];
  by_stop = λ f h. or_of (has_stopped ls.first.stop) (has_stopped ls.second.stop) (by f h);
}
