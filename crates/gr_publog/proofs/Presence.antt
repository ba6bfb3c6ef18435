-- Two lanes that hold a log: which of them is present, and what each pair of images holds
use Rattle.std.proofs.Common.{◌≡◌, inl, inr, ℕ, ◌+◌, ◌-◌, Bool, true, false, if◌then◌else◌, List, ◌∷◌, ◌++◌, length, Result, Ok, ap, sym, ◌∙◌, subst, arith, length-append}
use Rattle.gr_out.specs.Lane.{Lane, content, MayLeave}
use Rattle.gr_publog.specs.declared.record.Record.{Record}
use Rattle.gr_publog.specs.declared.record.Base.{Base}
use Rattle.gr_publog.specs.declared.steps.Aside.{Aside}
use Rattle.gr_publog.specs.declared.steps.Aside.TheVariants.{Short, Opened, Closed}
use Rattle.gr_publog.specs.declared.head.Standing.TheVariants.{Shut, Old, New}
use Rattle.gr_publog.specs.declared.head.Present.{Present}
use Rattle.gr_publog.specs.declared.head.Present.TheVariants.{First, Second}
use Rattle.gr_publog.specs.State.{LogState, empty_state, state_from}
use Rattle.gr_publog.specs.Text.{◌>>=◌, blocks, front_of, begun, Closes, IsText, standing_of, placed, placed_in}
use Rattle.gr_publog.specs.Lanes.{Found, present_of, read_by, pair_in, state_text, state_in, found_as, found_by, lanes_text}
use Rattle.gr_publog.specs.Rewrite.{IsBeside, ShutIs, TwoAre, LowerIs}
use Rattle.gr_publog.specs.Steps.{StandsAs}
use Rattle.gr_publog.specs.Views.{LogView, Lanes, present, other, MayLeavePair, ReadsAs, found_of, FoundAs, IsAside, Stands}
use Rattle.gr_publog.proofs.Reading.{new_stands, new_reads}

-- a pair by which of its images is of the present lane
abbrev pub in_turn : List ℕ → Bool → List ℕ → List ℕ → Result LogState ℕ
in_turn late second image beside = state_in late (if second then beside else image) (if second then image else beside)

-- a text stands for its state
pub text_is : (late bytes : List ℕ) (b : Base) (rs : List Record) (g : ℕ) → IsText late bytes b rs → state_text late (New g) bytes ≡ Ok (state_from (begun late b) rs)
text_is late bytes b rs g t = ap (λ (r : Result (LogState × List ℕ) ℕ). r >>= λ x. Ok x.0) (new_reads late bytes b rs t g)

-- and ends with it
pub text_placed : (late bytes : List ℕ) (b : Base) (rs : List Record) → IsText late bytes b rs
    → placed_in late (New b.generation) bytes ≡ Ok (state_from (begun late b) rs, length (front_of b ++ blocks rs))
text_placed late bytes b rs t =
    let c : Closes bytes (front_of b ++ blocks rs) = t.spells.text in
    let s : LogState = state_from (begun late b) rs in
    let long : length bytes - length (c.gate ∷ c.tail) ≡ length (front_of b ++ blocks rs) = omega (arith, ap length c.whole, length-append (front_of b ++ blocks rs) (c.gate ∷ c.tail)) in
    ap (placed (length bytes)) (new_reads late bytes b rs t b.generation) ∙ ap (λ (n : ℕ). let r : Result (LogState × ℕ) ℕ = Ok (s, n) in r) long

-- how the other lane stands
pub beside_is : (aside : Aside) (first : Bool) (g : ℕ) (bytes : List ℕ) → IsAside aside first g bytes → IsBeside first g bytes
beside_is Short first g bytes h = inl (inl h)
beside_is Opened first g bytes h = inr h.2
beside_is Closed first g bytes h = inl (inr h.1)

pub stands_as : (aside : Aside) (first : Bool) (g : ℕ) (bytes : List ℕ) → IsAside aside first g bytes → StandsAs aside bytes
stands_as Short first g bytes h = h
stands_as Opened first g bytes h = (h.0, h.1)
stands_as Closed first g bytes h = h

-- what a pair stands for, by which of its images is of the present lane
abbrev pub found_in_turn : List ℕ → Bool → List ℕ → List ℕ → Result Found ℕ
found_in_turn late second image beside = lanes_text late (if second then beside else image) (if second then image else beside)

-- by a text
abbrev pub found_text : List ℕ → Bool → Base → List Record → Found
found_text late second b rs = record {
  version = 2;
  second = second;
  generation = b.generation;
  size = length (front_of b ++ blocks rs) + 1;
  state = state_from (begun late b) rs;
}

-- by its parts
pub found_same : (second : Bool) (g g' n n' : ℕ) (s s' : LogState) → g ≡ g' → n ≡ n' → s ≡ s'
    → ◌≡◌ {A = Found} (record { version = 2; second = second; generation = g; size = n; state = s }) (record { version = 2; second = second; generation = g'; size = n'; state = s' })
found_same second g g' n n' s s' e f h =
    ap (λ (k : ℕ). let x : Found = record { version = 2; second = second; generation = k; size = n; state = s } in x) e
    ∙ (ap (λ (k : ℕ). let x : Found = record { version = 2; second = second; generation = g'; size = k; state = s } in x) f
    ∙ ap (λ (k : LogState). let x : Found = record { version = 2; second = second; generation = g'; size = n'; state = k } in x) h)

module _ (shut_is : ShutIs) (two : TwoAre) (lower : LowerIs) where
  at : (late a b : List ℕ) (p : Present) → present_of a b ≡ Ok p → state_in late a b ≡ read_by (empty_state late) (state_text late) a b p
  unfolding pair_in
  at late a b p e = ap (λ (r : Result Present ℕ). r >>= read_by (empty_state late) (state_text late) a b) e

  pub beside_first : (g : ℕ) (a b : List ℕ) → standing_of true a ≡ Ok (New g) → IsBeside false g b → present_of a b ≡ Ok (First (New g))
  beside_first g a b s (inl h) = two a b (New g) Shut s (shut_is false b h)
  beside_first g a b s (inr (inl h)) = two a b (New g) Old s h
  beside_first g a b s (inr (inr h)) = two a b (New g) (New h.0) s h.2 ∙ (lower g h.0 h.1).0

  pub beside_second : (g : ℕ) (a b : List ℕ) → standing_of false b ≡ Ok (New g) → IsBeside true g a → present_of a b ≡ Ok (Second (New g))
  beside_second g a b s (inl h) = two a b Shut (New g) (shut_is true a h) s
  beside_second g a b s (inr (inl h)) = two a b Old (New g) h s
  beside_second g a b s (inr (inr h)) = two a b (New h.0) (New g) h.2 s ∙ (lower g h.0 h.1).1

  -- a text beside a lane that is shut, old or of a lower generation is what the two hold
  pub reads_beside : (late : List ℕ) (second : Bool) (image beside : List ℕ) (b : Base) (rs : List Record) → IsText late image b rs → IsBeside second b.generation beside → in_turn late second image beside ≡ Ok (state_from (begun late b) rs)
  reads_beside late false image beside b rs t h = at late image beside (First (New b.generation)) (beside_first b.generation image beside (new_stands late image b rs t true) h) ∙ text_is late image b rs b.generation t
  reads_beside late true image beside b rs t h = at late beside image (Second (New b.generation)) (beside_second b.generation beside image (new_stands late image b rs t false) h) ∙ text_is late image b rs b.generation t

  found_by_present : (late a b : List ℕ) (p : Present) → present_of a b ≡ Ok p → lanes_text late a b ≡ found_by late a b p
  unfolding lanes_text
  found_by_present late a b p e = ap (λ (r : Result Present ℕ). r >>= found_by late a b) e

  -- and it stands for that text
  pub found_beside : (late : List ℕ) (second : Bool) (image beside : List ℕ) (b : Base) (rs : List Record) → IsText late image b rs → IsBeside second b.generation beside
      → found_in_turn late second image beside ≡ Ok (found_text late second b rs)
  found_beside late false image beside b rs t h =
      found_by_present late image beside (First (New b.generation)) (beside_first b.generation image beside (new_stands late image b rs t true) h)
      ∙ ap (λ (r : Result (LogState × ℕ) ℕ). r >>= λ k. Ok (found_as (New b.generation) false k)) (text_placed late image b rs t)
  found_beside late true image beside b rs t h =
      found_by_present late beside image (Second (New b.generation)) (beside_second b.generation beside image (new_stands late image b rs t false) h)
      ∙ ap (λ (r : Result (LogState × ℕ) ℕ). r >>= λ k. Ok (found_as (New b.generation) true k)) (text_placed late image b rs t)

  -- what stands is found so
  pub found_stands : (ls : Lanes) (l : LogView) → Stands ls l → found_in_turn l.state.late l.second (content (present l ls)) (content (other l ls)) ≡ Ok (found_of l)
  found_stands ls l s =
      found_beside l.state.late l.second (content (present l ls)) (content (other l ls)) s.base s.records s.text
      (subst (λ (g : ℕ). IsBeside l.second g (content (other l ls))) (sym s.generation) (beside_is l.aside l.second l.generation (content (other l ls)) s.aside))
      ∙ ap (λ (x : Found). Ok x) (found_same l.second s.base.generation l.generation (length (front_of s.base ++ blocks s.records) + 1) l.size (state_from (begun l.state.late s.base) s.records) l.state s.generation s.size s.state)

  pair_found : (ls : Lanes) (l : LogView) (image beside : List ℕ) → Stands ls l → MayLeave (present l ls) image → MayLeave (other l ls) beside → found_in_turn l.state.late l.second image beside ≡ Ok (found_of l)
  pair_found ls l image beside s p o =
      ap (λ (x : List ℕ). found_in_turn l.state.late l.second x beside) (s.only image p) ∙ (ap (λ (x : List ℕ). found_in_turn l.state.late l.second (content (present l ls)) x) (s.only_aside beside o) ∙ found_stands ls l s)

  -- what stands reads as what is held
  pub stands_in_turn : (ls : Lanes) (l : LogView) → Stands ls l → in_turn l.state.late l.second (content (present l ls)) (content (other l ls)) ≡ Ok l.state
  stands_in_turn ls l s =
      reads_beside l.state.late l.second (content (present l ls)) (content (other l ls)) s.base s.records s.text
      (subst (λ (g : ℕ). IsBeside l.second g (content (other l ls))) (sym s.generation) (beside_is l.aside l.second l.generation (content (other l ls)) s.aside))
      ∙ ap (λ (x : LogState). Ok x) s.state

  -- and so does each pair that a crash may leave
  pub pair_reads : (ls : Lanes) (l : LogView) (image beside : List ℕ) → Stands ls l → MayLeave (present l ls) image → MayLeave (other l ls) beside → in_turn l.state.late l.second image beside ≡ Ok l.state
  pair_reads ls l image beside s p o =
      ap (λ (x : List ℕ). in_turn l.state.late l.second x beside) (s.only image p) ∙ (ap (λ (x : List ℕ). in_turn l.state.late l.second (content (present l ls)) x) (s.only_aside beside o) ∙ stands_in_turn ls l s)

  by_second : (second : Bool) (s : LogState) (x y : Lane) (a b : List ℕ) → ((image beside : List ℕ) → MayLeave (if second then y else x) image → MayLeave (if second then x else y) beside → in_turn s.late second image beside ≡ Ok s)
      → MayLeave x a → MayLeave y b → state_in s.late a b ≡ Ok s
  by_second false s x y a b h p o = h a b p o
  by_second true s x y a b h p o = h b a o p

  pub stands_read : (ls : Lanes) (l : LogView) (a b : List ℕ) → Stands ls l → MayLeavePair ls a b → ReadsAs l.state a b
  stands_read ls l a b s m = by_second l.second l.state ls.first ls.second a b (λ image beside p o. pair_reads ls l image beside s p o) m.0 m.1

  found_second : (second : Bool) (late : List ℕ) (f : Found) (x y : Lane) (a b : List ℕ) → ((image beside : List ℕ) → MayLeave (if second then y else x) image → MayLeave (if second then x else y) beside → found_in_turn late second image beside ≡ Ok f)
      → MayLeave x a → MayLeave y b → lanes_text late a b ≡ Ok f
  found_second false late f x y a b h p o = h a b p o
  found_second true late f x y a b h p o = h b a o p

  pub stands_found : (ls : Lanes) (l : LogView) (a b : List ℕ) → Stands ls l → MayLeavePair ls a b → FoundAs l a b
  stands_found ls l a b s m = found_second l.second l.state.late (found_of l) ls.first ls.second a b (λ image beside p o. pair_found ls l image beside s p o) m.0 m.1
