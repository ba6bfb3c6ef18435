-- What each way out of an opening does, by the numbers of the lanes
use Rattle.std.proofs.Common.{◌≡◌, ◌≢◌, ℕ, suc, ◌+◌, ◌<◌, ◌≤◌, ◌==◌, nat_le, get_or, Bool, true, false, not, if◌then◌else◌, List, [], ◌∷◌, length, take, Result, Ok, Err, refl, ap, ap₂, sym, ◌∙◌, subst, arith}
use Rattle.std.specs.Prelude.{OnOk, MatchResult}
use Rattle.std.proofs.lemmas.Bool.{leb-true, leb-false, eqb-true, eqb-false}
use Rattle.gr_out.specs.Lane.{Lane, content}
use Rattle.gr_event.specs.declared.limits.TheConstants.{MAX_JOINS}
use Rattle.gr_publog.specs.declared.record.LogFault.{LogFault}
use Rattle.gr_publog.specs.declared.record.LogFault.TheVariants as fault
use Rattle.gr_publog.specs.declared.opening.Heads.{Heads}
use Rattle.gr_publog.specs.declared.steps.Aside.{Aside}
use Rattle.gr_publog.specs.declared.steps.Aside.TheVariants.{Short, Opened, Closed}
use Rattle.gr_publog.specs.declared.head.Standing.{Standing}
use Rattle.gr_publog.specs.declared.head.Standing.TheVariants.{Shut, Old, New}
use Rattle.gr_publog.specs.declared.head.Present.{Present}
use Rattle.gr_publog.specs.declared.head.Present.TheVariants.{First, Second}
use Rattle.gr_publog.specs.State.{LogState, empty_state, IsState}
use Rattle.gr_publog.specs.Text.{◌>>=◌, AreBytes, standing_of, placed_in}
use Rattle.gr_publog.specs.Lanes.{Found, found_as, present_of, chosen, lanes_text, state_text}
use Rattle.gr_publog.specs.Rewrite.{IsShut, Reclaiming, ShutIs, TwoAre}
use Rattle.gr_publog.specs.Filled.{body_of, filled_size}
use Rattle.gr_publog.specs.Gives.{Fails, Tells}
use Rattle.gr_publog.specs.Crash.{GaveUp}
use Rattle.gr_publog.specs.Steps.{Refills, StandsAs}
use Rattle.gr_publog.specs.Views.{LogView, Lanes, lanes_at, number_of, IsAside, Stands}
use Rattle.gr_publog.specs.Opens.{aside_of, aside_by, AreHeads, AreSole, OpensAs, Settles}
use Rattle.gr_publog.proofs.Surveying.{tells_on, fails_tells}
use Rattle.gr_publog.proofs.Settling.{shut_told, aside_same, found_at, found_fault, opens_fault, settles_fault, settles_found, settles_begin_err, settles_begin_ok, settles_migrate_err, settles_migrate_ok, old_state, found_stands}

next_apart : (lane k : ℕ) → k ≡ suc lane → lane ≢ k
next_apart lane k is e = omega (arith, is, e)

first_apart : (lane : ℕ) → suc lane ≢ lane
first_apart lane e = omega (arith, e)

pub gave_up_opens : (X : Type 0) (late : List ℕ) (lane : ℕ) (a b : List ℕ) (e : LogFault) → GaveUp {X = X} (Err e) → OpensAs late lane a b (Err e)
gave_up_opens X late lane a b fault.Memory h = tt
gave_up_opens X late lane a b fault.Disk h = tt
gave_up_opens X late lane a b (fault.Damaged at) h = absurd h
gave_up_opens X late lane a b fault.Reopen h = absurd h

pub lanes_same : (f f' : ℕ → Lane) (lane : ℕ) → ((n : ℕ) → f' n ≡ f n) → lanes_at f' lane ≡ lanes_at f lane
lanes_same f f' lane same = ap₂ (λ (x y : Lane). let ls : Lanes = record { first = x; second = y } in ls) (same lane) (same (suc lane))

-- Where a head was refused, or no lane is present

pub settles_heads : (late : List ℕ) (lane : ℕ) (f f' : ℕ → Lane) (e : LogFault) → ((n : ℕ) → f' n ≡ f n) → AreSole (lanes_at f lane) → Tells e (present_of (content (f lane)) (content (f (suc lane))))
    → Settles late lane (lanes_at f lane) (lanes_at f' lane) (Err e)
settles_heads late lane f f' e same sole tells =
    let a : List ℕ = content (f lane) in
    let b : List ℕ = content (f (suc lane)) in
    settles_fault late lane (lanes_at f lane) (lanes_at f' lane) sole.0 sole.1 (lanes_same f f' lane same) e (opens_fault late lane a b e (found_fault late a b e tells))

-- which lane is present is told by the heads
pub heads_choose : TwoAre → (h : Heads) (a b : List ℕ) → AreHeads h a b → present_of a b ≡ chosen h.first h.second
heads_choose two h a b r = two a b h.first h.second r.first r.second

pub fails_present : TwoAre → (h : Heads) (a b : List ℕ) (e : LogFault) → AreHeads h a b → Fails e (chosen h.first h.second) → Tells e (present_of a b)
fails_present two h a b fault.Memory r k = tt
fails_present two h a b fault.Disk r k = absurd k
fails_present two h a b (fault.Damaged at) r k = heads_choose two h a b r ∙ k
fails_present two h a b fault.Reopen r k = absurd k

-- Neither is open

module _ (late : List ℕ) (few : length late ≤ MAX_JOINS) (shut_is : ShutIs) (two : TwoAre) (r : Reclaiming (empty_state late) (state_text late)) (lane : ℕ) (f f' : ℕ → Lane) (h : Heads) (heads : AreHeads h (content (f lane)) (content (f (suc lane)))) (one : h.first ≡ Shut) (other : h.second ≡ Shut)
    (sole : AreSole (lanes_at f lane)) (others : (n : ℕ) → n ≢ lane → f' n ≡ f n) where
  first_shut : standing_of true (content (f lane)) ≡ Ok Shut
  first_shut = heads.first ∙ ap (λ (x : Standing). Ok x) one

  second_shut : standing_of false (content (f (suc lane))) ≡ Ok Shut
  second_shut = heads.second ∙ ap (λ (x : Standing). Ok x) other

  filled_aside : aside_by h.first_size h.first ≡ aside_of (content (f lane))
  filled_aside = ap (λ (n : ℕ). aside_by n h.first) heads.first_size ∙ aside_same true (content (f lane)) h.first heads.first

  pub begin_err : (e : LogFault) (aside : Aside) → aside ≡ aside_by h.first_size h.first → GaveUp {X = ℕ} (Err e) → Refills {T = ℕ} aside (body_of (empty_state late) 1) (f lane) (f' lane) (Err e)
      → Settles late lane (lanes_at f lane) (lanes_at f' lane) (Err e)
  begin_err e aside is gave refills =
      settles_begin_err late few shut_is two r lane (lanes_at f lane) (lanes_at f' lane) (shut_told true (content (f lane)) first_shut) (shut_told false (content (f (suc lane))) second_shut) sole.1 (others (suc lane) (first_apart lane)) e
      (gave_up_opens ℕ late lane (content (f lane)) (content (f (suc lane))) e gave) (subst (λ (x : Aside). Refills {T = ℕ} x (body_of (empty_state late) 1) (f lane) (f' lane) (Err e)) (is ∙ filled_aside) refills)

  pub begin_ok : (n : ℕ) (aside beside : Aside) (l : LogView) → aside ≡ aside_by h.first_size h.first → beside ≡ aside_by h.second_size h.second → n ≡ filled_size (empty_state late)
      → l ≡ record { lane = lane; state = empty_state late; broken = false; second = false; generation = 1; size = n; aside = beside } → Refills {T = ℕ} aside (body_of (empty_state late) 1) (f lane) (f' lane) (Ok n)
      → Settles late lane (lanes_at f lane) (lanes_at f' lane) (Ok l)
  begin_ok n aside beside l is by size view refills =
      let b : List ℕ = content (f (suc lane)) in
      let kept : beside ≡ aside_of b = by ∙ (ap (λ (n : ℕ). aside_by n h.second) heads.second_size ∙ aside_same false b h.second heads.second) in
      settles_begin_ok late few shut_is two r lane (lanes_at f lane) (lanes_at f' lane) (shut_told true (content (f lane)) first_shut) (shut_told false b second_shut) sole.1 (others (suc lane) (first_apart lane)) n l
      (view ∙ ap₂ (λ (k : ℕ) (x : Aside). let v : LogView = record { lane = lane; state = empty_state late; broken = false; second = false; generation = 1; size = k; aside = x } in v) size kept)
      (subst (λ (x : Aside). Refills {T = ℕ} x (body_of (empty_state late) 1) (f lane) (f' lane) (Ok n)) (is ∙ filled_aside) refills)

-- The first version

module _ (late : List ℕ) (few : length late ≤ MAX_JOINS) (shut_is : ShutIs) (two : TwoAre) (r : Reclaiming (empty_state late) (state_text late)) (lane k : ℕ) (next : k ≡ suc lane) (f f' : ℕ → Lane) (h : Heads) (heads : AreHeads h (content (f lane)) (content (f (suc lane)))) (one : h.first ≡ Old)
    (other : h.second ≡ Shut) (sole : AreSole (lanes_at f lane)) (others : (n : ℕ) → n ≢ k → f' n ≡ f n) (s : LogState) (gate : ℕ) (fits : AreBytes (content (f lane))) (placed_is : placed_in late Old (content (f lane)) ≡ Ok (s, gate)) where
  abbrev a : List ℕ
  a = content (f lane)

  abbrev b : List ℕ
  b = content (f (suc lane))

  old_first : standing_of true a ≡ Ok Old
  old_first = heads.first ∙ ap (λ (x : Standing). Ok x) one

  shut_second : IsShut b
  shut_second = shut_told false b (heads.second ∙ ap (λ (x : Standing). Ok x) other)

  held : IsState s × (state_text late Old a ≡ Ok s) × (s.late ≡ late)
  held = old_state late a s gate few fits old_first placed_is

  next_aside : aside_by h.second_size h.second ≡ aside_of b
  next_aside = ap (λ (n : ℕ). aside_by n h.second) heads.second_size ∙ aside_same false b h.second heads.second

  at_next : {T : Type 0} (aside : Aside) (result : Result T LogFault) → aside ≡ aside_by h.second_size h.second → Refills aside (body_of s 1) (f k) (f' k) result → Refills (aside_of b) (body_of s 1) (f (suc lane)) (f' (suc lane)) result
  at_next {T} aside result is refills =
      subst (λ (n : ℕ). Refills (aside_of b) (body_of s 1) (f n) (f' n) result) next (subst (λ (x : Aside). Refills x (body_of s 1) (f k) (f' k) result) (is ∙ next_aside) refills)

  pub migrate_err : (e : LogFault) (aside : Aside) → aside ≡ aside_by h.second_size h.second → GaveUp {X = ℕ} (Err e) → Refills {T = ℕ} aside (body_of s 1) (f k) (f' k) (Err e)
      → Settles late lane (lanes_at f lane) (lanes_at f' lane) (Err e)
  migrate_err e aside is gave refills =
      settles_migrate_err late shut_is two r lane (lanes_at f lane) (lanes_at f' lane) old_first shut_second sole.0 (others lane (next_apart lane k next)) s gate held.0 placed_is held.1 held.2 e (gave_up_opens ℕ late lane a b e gave)
      (at_next aside (Err e) is refills)

  pub migrate_ok : (n : ℕ) (aside : Aside) (l : LogView) → aside ≡ aside_by h.second_size h.second → n ≡ filled_size s
      → l ≡ record { lane = lane; state = s; broken = false; second = true; generation = 1; size = n; aside = Opened } → Refills {T = ℕ} aside (body_of s 1) (f k) (f' k) (Ok n) → Settles late lane (lanes_at f lane) (lanes_at f' lane) (Ok l)
  migrate_ok n aside l is size view refills =
      settles_migrate_ok late shut_is two r lane (lanes_at f lane) (lanes_at f' lane) old_first shut_second sole.0 (others lane (next_apart lane k next)) s gate held.0 placed_is held.1 held.2 n l
      (view ∙ ap (λ (k : ℕ). let v : LogView = record { lane = lane; state = s; broken = false; second = true; generation = 1; size = k; aside = Opened } in v) size) (at_next aside (Ok n) is refills)

-- where the text of a present lane was refused
pub settles_text : (late : List ℕ) (lane : ℕ) (f f' : ℕ → Lane) (p : Present) (x : Standing) (second : Bool) (e : LogFault) → ((n : ℕ) → f' n ≡ f n) → AreSole (lanes_at f lane)
    → present_of (content (f lane)) (content (f (suc lane))) ≡ Ok (if second then Second x else First x) → Tells e (placed_in late x (content (f (number_of lane second)))) → Settles late lane (lanes_at f lane) (lanes_at f' lane) (Err e)
settles_text late lane f f' p x true e same sole present tells =
    let a : List ℕ = content (f lane) in
    let b : List ℕ = content (f (suc lane)) in
    settles_fault late lane (lanes_at f lane) (lanes_at f' lane) sole.0 sole.1 (lanes_same f f' lane same) e
    (opens_fault late lane a b e (subst (λ (k : Result Found ℕ). Tells e k) (sym (found_at late a b (Second x) present)) (tells_on e (placed_in late x b) (λ r. Ok (found_as x true r)) tells)))
settles_text late lane f f' p x false e same sole present tells =
    let a : List ℕ = content (f lane) in
    let b : List ℕ = content (f (suc lane)) in
    settles_fault late lane (lanes_at f lane) (lanes_at f' lane) sole.0 sole.1 (lanes_same f f' lane same) e
    (opens_fault late lane a b e (subst (λ (k : Result Found ℕ). Tells e k) (sym (found_at late a b (First x) present)) (tells_on e (placed_in late x a) (λ r. Ok (found_as x false r)) tells)))

-- The second version

few_of : (late : List ℕ) (s : LogState) → length late ≤ MAX_JOINS → s.late ≡ late → length s.late ≤ MAX_JOINS
few_of late s few is = subst (λ (l : List ℕ). length l ≤ MAX_JOINS) (sym is) few

placed_as : (late : List ℕ) (s : LogState) (gate : ℕ) (x : Standing) (bytes : List ℕ) → s.late ≡ late → placed_in late x bytes ≡ Ok (s, gate) → placed_in s.late x bytes ≡ Ok (s, gate)
placed_as late s gate x bytes is e = ap (λ (l : List ℕ). placed_in l x bytes) is ∙ e

pub found_ok : (late : List ℕ) (lane : ℕ) (f f' : ℕ → Lane) (second : Bool) (g gate : ℕ) (s : LogState) (aside : Aside) (l : LogView) → length late ≤ MAX_JOINS → s.late ≡ late → ((n : ℕ) → f' n ≡ f n) → AreSole (lanes_at f lane)
    → present_of (content (f lane)) (content (f (suc lane))) ≡ Ok (if second then Second (New g) else First (New g)) → standing_of (not second) (content (f (number_of lane second))) ≡ Ok (New g)
    → AreBytes (content (f (number_of lane second))) → placed_in late (New g) (content (f (number_of lane second))) ≡ Ok (s, gate)
    → aside ≡ aside_of (content (f (number_of lane (not second)))) → IsAside aside second g (content (f (number_of lane (not second))))
    → l ≡ record { lane = lane; state = s; broken = false; second = second; generation = g; size = gate + 1; aside = aside } → Settles late lane (lanes_at f lane) (lanes_at f' lane) (Ok l)
found_ok late lane f f' true g gate s aside l few late_is same sole present stands fits placed_is is beside view =
    let a : List ℕ = content (f lane) in
    let b : List ℕ = content (f (suc lane)) in
    let v : LogView = record { lane = lane; state = s; broken = false; second = true; generation = g; size = gate + 1; aside = aside } in
    let k : Found = found_as (New g) true (s, gate) in
    let found : lanes_text late a b ≡ Ok k = found_at late a b (Second (New g)) present ∙ ap (λ (r : Result (LogState × ℕ) ℕ). r >>= λ x. Ok (found_as (New g) true x)) placed_is in
    settles_found late lane (lanes_at f lane) (lanes_at f' lane) sole.0 sole.1 (lanes_same f f' lane same) l k found refl
    (view ∙ ap (λ (x : Aside). let w : LogView = record { lane = lane; state = s; broken = false; second = true; generation = g; size = gate + 1; aside = x } in w) is)
    (subst (Stands (lanes_at f lane)) (sym view) (found_stands (lanes_at f lane) v (f (suc lane)) (f lane) false gate (few_of late s few late_is) refl refl fits stands (placed_as late s gate (New g) b late_is placed_is) refl beside sole.1 sole.0))
found_ok late lane f f' false g gate s aside l few late_is same sole present stands fits placed_is is beside view =
    let a : List ℕ = content (f lane) in
    let b : List ℕ = content (f (suc lane)) in
    let v : LogView = record { lane = lane; state = s; broken = false; second = false; generation = g; size = gate + 1; aside = aside } in
    let k : Found = found_as (New g) false (s, gate) in
    let found : lanes_text late a b ≡ Ok k = found_at late a b (First (New g)) present ∙ ap (λ (r : Result (LogState × ℕ) ℕ). r >>= λ x. Ok (found_as (New g) false x)) placed_is in
    settles_found late lane (lanes_at f lane) (lanes_at f' lane) sole.0 sole.1 (lanes_same f f' lane same) l k found refl
    (view ∙ ap (λ (x : Aside). let w : LogView = record { lane = lane; state = s; broken = false; second = false; generation = g; size = gate + 1; aside = x } in w) is)
    (subst (Stands (lanes_at f lane)) (sym view) (found_stands (lanes_at f lane) v (f lane) (f (suc lane)) true gate (few_of late s few late_is) refl refl fits stands (placed_as late s gate (New g) a late_is placed_is) refl beside sole.0 sole.1))

-- Readers of whole lanes

pub whole_is : (n : ℕ) (l : List ℕ) → n ≡ length l → take n l ≡ l
whole_is n l e = ap (λ (k : ℕ). take k l) e ∙ all l
  where
    all : (l : List ℕ) → take (length l) l ≡ l
    all [] = refl
    all (x ∷ l) = ap (λ (t : List ℕ). x ∷ t) (all l)

pub tells_by : {X Y : Type 0} (v : X → Y) (r : Result X LogFault) (read read' : Result Y ℕ) → read ≡ read' → MatchResult r (λ x. read ≡ Ok (v x)) (λ f. Fails f read) → MatchResult r (λ x. read' ≡ Ok (v x)) (λ f. Tells f read')
tells_by v (Ok x) read read' e h = sym e ∙ h
tells_by v (Err f) read read' e h = fails_tells f read read' e h

pub on_any : {T P : Type 0} (r : Result T LogFault) → P → OnOk r P
on_any (Ok x) p = p
on_any (Err e) p = tt

-- the first version is present
pub old_present : TwoAre → (h : Heads) (a b : List ℕ) → AreHeads h a b → h.first ≡ Old → h.second ≡ Shut → present_of a b ≡ Ok (First Old)
old_present two h a b r one other = heads_choose two h a b r ∙ ap₂ chosen one other

-- in other words for the lanes before
pub settles_from : (late : List ℕ) (lane : ℕ) (f f1 f' : ℕ → Lane) (result : Result LogView LogFault) → ((n : ℕ) → f1 n ≡ f n) → Settles late lane (lanes_at f1 lane) (lanes_at f' lane) result → Settles late lane (lanes_at f lane) (lanes_at f' lane) result
settles_from late lane f f1 f' result same s = subst (λ (ls : Lanes). Settles late lane ls (lanes_at f' lane) result) (lanes_same f f1 lane same) s

pub heads_from : (lane : ℕ) (f f1 : ℕ → Lane) (h : Heads) → ((n : ℕ) → f1 n ≡ f n) → AreHeads h (content (f lane)) (content (f (suc lane))) → AreHeads h (content (f1 lane)) (content (f1 (suc lane)))
heads_from lane f f1 h same r = subst (λ (ls : Lanes). AreHeads h (content ls.first) (content ls.second)) (sym (lanes_same f f1 lane same)) r

pub sole_from : (lane : ℕ) (f f1 : ℕ → Lane) → ((n : ℕ) → f1 n ≡ f n) → AreSole (lanes_at f lane) → AreSole (lanes_at f1 lane)
sole_from lane f f1 same r = subst AreSole (sym (lanes_same f f1 lane same)) r

-- how a lane stands that is to be filled
of_stands : (bytes : List ℕ) → StandsAs (aside_of bytes) bytes
of_stands bytes = by_length (nat_le (length bytes) 6) refl
  where
    by_gate : (b : Bool) → (get_or bytes 5 0 == 1) ≡ b → 6 < length bytes → StandsAs (if b then Opened else Closed) bytes
    by_gate true e long = (long, eqb-true (get_or bytes 5 0) 1 e)
    by_gate false e long = (long, eqb-false (get_or bytes 5 0) 1 e)

    by_length : (b : Bool) → nat_le (length bytes) 6 ≡ b → StandsAs (if b then Short else (if get_or bytes 5 0 == 1 then Opened else Closed)) bytes
    by_length true e = leb-true (length bytes) 6 e
    by_length false e = by_gate (get_or bytes 5 0 == 1) refl (omega (arith, leb-false (length bytes) 6 e))

pub aside_stands : (text text' : ℕ → List ℕ) (n k : ℕ) → n ≡ k → text' k ≡ text k → (first : Bool) (size : ℕ) (x : Standing) (aside : Aside) → aside ≡ aside_by size x → size ≡ length (text n) → standing_of first (text n) ≡ Ok x
    → StandsAs aside (text' k)
aside_stands text text' n k is same first size x aside by sized stands =
    let is_of : aside ≡ aside_of (text n) = by ∙ (ap (λ (m : ℕ). aside_by m x) sized ∙ aside_same first (text n) x stands) in
    let there : text n ≡ text' k = ap text is ∙ sym same in
    subst (λ (l : List ℕ). StandsAs aside l) there (subst (λ (a : Aside). StandsAs a (text n)) (sym is_of) (of_stands (text n)))
