-- Of the places where a pattern fits up to its first '%', the first one serves
use Rattle.std.proofs.Common.{◌≡◌, ℕ, ◌<◌, ◌≤◌, Bool, true, false, not, ◌&&◌, ◌||◌, ◌==◌, ◌⊎◌, inl, inr, if◌then◌else◌, List, [], ◌∷◌, length, refl, sym, ap, subst, ◌∙◌, arith, ne_eqb}
use Rattle.std.proofs.lemmas.Bool.{or_cases, or_left, or_right}
use Rattle.gr_filter.specs.Like.{continues, after_character, one_character, any_front, same_byte, is_nothing, fits}
use Rattle.gr_filter.specs.Reach.{Reach, differs, whole, up_to, reach_character, reach_byte, reach, any_later}

-- Fitting is reaching, and what comes behind

abbrev pub after : Reach → Bool
after differs = false
after (whole text) = is_nothing text
after (up_to pattern text) = any_front (fits pattern) text

both_after : (b : Bool) (x y : Bool) (u v : Reach) → x ≡ after u → y ≡ after v → (if b then x else y) ≡ after (if b then u else v)
both_after true x y u v e f = e
both_after false x y u v e f = f

unless_after : (b : Bool) (x : Bool) (u : Reach) → x ≡ after u → (not b && x) ≡ after (if b then differs else u)
unless_after true x u e = refl
unless_after false x u e = e

if_after : (b : Bool) (x : Bool) (u : Reach) → x ≡ after u → (b && x) ≡ after (if b then u else differs)
if_after true x u e = e
if_after false x u e = refl

character_after : (f : List ℕ → Bool) (g : List ℕ → Reach) → ((t : List ℕ) → f t ≡ after (g t)) → (t : List ℕ) → one_character f t ≡ after (reach_character g t)
character_after f g e [] = refl
character_after f g e (c ∷ cs) = unless_after (continues c) (f (after_character cs)) (g (after_character cs)) (e (after_character cs))

byte_after : (p : ℕ) (f : List ℕ → Bool) (g : List ℕ → Reach) → ((t : List ℕ) → f t ≡ after (g t)) → (t : List ℕ) → same_byte p f t ≡ after (reach_byte p g t)
byte_after p f g e [] = refl
byte_after p f g e (c ∷ cs) = if_after (p == c) (f cs) (g cs) (e cs)

pub fits_after : (pattern text : List ℕ) → fits pattern text ≡ after (reach pattern text)
fits_after [] text = refl
fits_after (p ∷ ps) text =
    both_after (p == 37) (any_front (fits ps) text) (if p == 95 then one_character (fits ps) text else same_byte p (fits ps) text) (up_to ps text) (if p == 95 then reach_character (reach ps) text else reach_byte p (reach ps) text) refl
    (both_after (p == 95) (one_character (fits ps) text) (same_byte p (fits ps) text) (reach_character (reach ps) text) (reach_byte p (reach ps) text)
    (character_after (fits ps) (reach ps) (λ t. fits_after ps t) text) (byte_after p (fits ps) (reach ps) (λ t. fits_after ps t) text))

-- Ends of a text

-- s is an end of the text
abbrev Ends : List ℕ → List ℕ → Type 0
Ends s [] = s ≡ []
Ends s (c ∷ cs) = (s ≡ c ∷ cs) ⊎ Ends s cs

ends_self : (t : List ℕ) → Ends t t
ends_self [] = refl
ends_self (c ∷ cs) = inl refl

ends_same : (s t : List ℕ) → s ≡ t → Ends s t
ends_same s t e = subst (Ends s) e (ends_self s)

ends_tail : (d : ℕ) (s t : List ℕ) → Ends (d ∷ s) t → Ends s t
ends_tail d s [] e = cc
ends_tail d s (c ∷ cs) e = elim e [ inl h ↦ inr (ends_same s cs cc) | inr h ↦ inr (ends_tail d s cs h) ]

ends_behind : (d c : ℕ) (s t : List ℕ) → Ends (d ∷ s) (c ∷ t) → Ends s t
ends_behind d c s t e = elim e [ inl h ↦ ends_same s t cc | inr h ↦ ends_tail d s t h ]

-- an end of both, and of which both are ends, is so of the choice
either_ends : (b : Bool) (u v t : List ℕ) → Ends u t → Ends v t → Ends (if b then u else v) t
either_ends true u v t e f = e
either_ends false u v t e f = f

of_either : (b : Bool) (s u v : List ℕ) → Ends s u → Ends s v → Ends s (if b then u else v)
of_either true s u v e f = e
of_either false s u v e f = f

ends_within : (s t : List ℕ) → Ends s t → Ends (after_character s) t
ends_within [] t e = e
ends_within (d ∷ s) t e = either_ends (continues d) (after_character s) (d ∷ s) t (ends_within s t (ends_tail d s t e)) e

nothing_behind : (s : List ℕ) → s ≡ [] → after_character s ≡ []
nothing_behind s e = ap after_character e

ends_character : (s t : List ℕ) → Ends s t → Ends (after_character s) (after_character t)
ends_character s [] e = nothing_behind s e
ends_character s (c ∷ t) e = elim e [
  | inl h ↦ ends_same (after_character s) (after_character (c ∷ t)) (ap after_character h)
  | inr h ↦ of_either (continues c) (after_character s) (after_character t) (c ∷ t) (ends_character s t h) (inr (ends_within s t h))
]

-- What fits at an end fits from some place on

ends_fit : (f : List ℕ → Bool) (s t : List ℕ) → Ends s t → f s ≡ true → any_front f t ≡ true
ends_fit f s [] e h = ap f (sym e) ∙ h
ends_fit f s (c ∷ t) e h = elim e [
  | inl i ↦ or_left (f (c ∷ t)) (any_front f t) (ap f (sym i) ∙ h)
  | inr i ↦ or_right (f (c ∷ t)) (any_front f t) (ends_fit f s t i h)
]

record Fit (f : List ℕ → Bool) (t : List ℕ) : Type 0 where
  end : List ℕ
  ends : Ends end t
  fits : f end ≡ true

any_fit : (f : List ℕ → Bool) (t : List ℕ) → any_front f t ≡ true → Fit f t
any_fit f [] h = record { end = []; ends = refl; fits = h }
any_fit f (c ∷ t) h = elim (or_cases (f (c ∷ t)) (any_front f t) h) [
  | inl i ↦ record { end = c ∷ t; ends = inl refl; fits = i }
  | inr i ↦ let r = any_fit f t i in record { end = r.end; ends = inr r.ends; fits = r.fits }
]

-- an end of an end is an end
ends_ends : (r s t : List ℕ) → Ends r s → Ends s t → Ends r t
ends_ends r s [] e f = subst (Ends r) f e
ends_ends r s (c ∷ t) e f = elim f [ inl h ↦ subst (Ends r) h e | inr h ↦ inr (ends_ends r s t e h) ]

ends_any : (f : List ℕ → Bool) (s t : List ℕ) → Ends s t → any_front f s ≡ true → any_front f t ≡ true
ends_any f s t e h = let r = any_fit f s h in ends_fit f r.end t (ends_ends r.end s t r.ends e) r.fits

-- What is reached from an end

-- from an end of the text nothing is reached, or the same '%', with an end of what is left of the text
abbrev Later : Reach → List ℕ → List ℕ → Type 0
Later differs pattern rest = Unit {0}
Later (whole text) pattern rest = ⊥
Later (up_to behind text) pattern rest = (behind ≡ pattern) × Ends text rest

later_both : (b : Bool) (u v x y : Reach) (q r : List ℕ) → (u ≡ up_to q r → Later x q r) → (v ≡ up_to q r → Later y q r) → (if b then u else v) ≡ up_to q r → Later (if b then x else y) q r
later_both true u v x y q r f g h = f h
later_both false u v x y q r f g h = g h

later_if : (b : Bool) (x : Reach) (q r : List ℕ) → Later x q r → Later (if b then x else differs) q r
later_if true x q r h = h
later_if false x q r h = tt

later_unless : (b : Bool) (x : Reach) (q r : List ℕ) → Later x q r → Later (if b then differs else x) q r
later_unless true x q r h = tt
later_unless false x q r h = h

kept_if : (b : Bool) (u : Reach) (q r : List ℕ) → (if b then u else differs) ≡ up_to q r → u ≡ up_to q r
kept_if true u q r h = h
kept_if false u q r h = cc

kept_unless : (b : Bool) (u : Reach) (q r : List ℕ) → (if b then differs else u) ≡ up_to q r → u ≡ up_to q r
kept_unless true u q r h = cc
kept_unless false u q r h = h

abbrev FromEnds : (List ℕ → Reach) → Type 0
FromEnds g = (s t q r : List ℕ) → Ends s t → g t ≡ up_to q r → Later (g s) q r

later_byte : (p : ℕ) (g : List ℕ → Reach) → FromEnds g → FromEnds (reach_byte p g)
later_byte p g ih [] t q r e h = tt
later_byte p g ih (d ∷ s) [] q r e h = cc
later_byte p g ih (d ∷ s) (c ∷ t) q r e h = later_if (p == d) (g s) q r (ih s t q r (ends_behind d c s t e) (kept_if (p == c) (g t) q r h))

later_character : (g : List ℕ → Reach) → FromEnds g → FromEnds (reach_character g)
later_character g ih [] t q r e h = tt
later_character g ih (d ∷ s) [] q r e h = cc
later_character g ih (d ∷ s) (c ∷ t) q r e h =
    later_unless (continues d) (g (after_character s)) q r
    (ih (after_character s) (after_character t) q r (ends_character s t (ends_behind d c s t e)) (kept_unless (continues c) (g (after_character t)) q r h))

later_up_to : (ps : List ℕ) → FromEnds (up_to ps)
later_up_to ps s t q r e h =
    let same : t ≡ r = cc in
    let behind : ps ≡ q = cc in
    (behind, subst (Ends s) same e)

later_whole : FromEnds whole
later_whole s t q r e h = cc

later : (pattern : List ℕ) → FromEnds (reach pattern)
later [] = later_whole
later (p ∷ ps) = λ s t q r e h.
    later_both (p == 37) (up_to ps t) (if p == 95 then reach_character (reach ps) t else reach_byte p (reach ps) t) (up_to ps s) (if p == 95 then reach_character (reach ps) s else reach_byte p (reach ps) s) q r
    (later_up_to ps s t q r e)
    (later_both (p == 95) (reach_character (reach ps) t) (reach_byte p (reach ps) t) (reach_character (reach ps) s) (reach_byte p (reach ps) s) q r
    (later_character (reach ps) (later ps) s t q r e) (later_byte p (reach ps) (later ps) s t q r e)) h

-- The first place

later_fits : (u : Reach) (q r : List ℕ) → Later u q r → after u ≡ true → any_front (fits q) r ≡ true
later_fits differs q r l h = cc
later_fits (whole t) q r l h = absurd l
later_fits (up_to p t) q r l h = ends_any (fits q) t r l.1 (subst (λ z. any_front (fits z) t ≡ true) l.0 h)

first_or : (a b x : Bool) → a ≡ x → (b ≡ true → x ≡ true) → (a || b) ≡ x
first_or true b x e f = e
first_or false true x e f = sym (f refl)
first_or false false x e f = e

-- where the pattern fits up to a '%', it fits from some place on exactly where what is behind the '%' does
pub up_to_serves : (pattern text q r : List ℕ) → reach pattern text ≡ up_to q r → any_front (fits pattern) text ≡ any_front (fits q) r
up_to_serves pattern [] q r h = fits_after pattern [] ∙ ap after h
up_to_serves pattern (c ∷ cs) q r h =
    first_or (fits pattern (c ∷ cs)) (any_front (fits pattern) cs) (any_front (fits q) r) (fits_after pattern (c ∷ cs) ∙ ap after h)
    (λ b.
    let f = any_fit (fits pattern) cs b in
    later_fits (reach pattern f.end) q r (later pattern f.end (c ∷ cs) q r (inr f.ends) h) (sym (fits_after pattern f.end) ∙ f.fits))

or_nothing : (b : Bool) → b ≡ (b || false)
or_nothing true = refl
or_nothing false = refl

-- it fits here, or from a later place on
pub here_or_later : (pattern text : List ℕ) (u : Reach) → reach pattern text ≡ u → any_front (fits pattern) text ≡ (after u || any_later (fits pattern) text)
here_or_later pattern [] u h = fits_after pattern [] ∙ ap after h ∙ or_nothing (after u)
here_or_later pattern (c ∷ cs) u h = ap (λ b. b || any_front (fits pattern) cs) (fits_after pattern (c ∷ cs) ∙ ap after h)

-- What is left is shorter

pub record IsShorter (p t q r : List ℕ) : Type 0 where
  pub pattern : length q < length p
  pub text : length r ≤ length t

either_gives : {P : Type 0} (b : Bool) (u v : Reach) (q r : List ℕ) → (u ≡ up_to q r → P) → (v ≡ up_to q r → P) → (if b then u else v) ≡ up_to q r → P
either_gives true u v q r f g h = f h
either_gives false u v q r f g h = g h

length-either : (b : Bool) (s t : List ℕ) (n : ℕ) → length s ≤ n → length t ≤ n → length (if b then s else t) ≤ n
length-either true s t n f g = f
length-either false s t n f g = g

length-after_character : (t : List ℕ) → length (after_character t) ≤ length t
length-after_character [] = omega arith
length-after_character (c ∷ cs) = length-either (continues c) (after_character cs) (c ∷ cs) (length (c ∷ cs)) (omega (arith, length-after_character cs)) (omega arith)

abbrev pub Shortens : List ℕ → (List ℕ → Reach) → Type 0
Shortens p g = (t q r : List ℕ) → g t ≡ up_to q r → IsShorter p t q r

shorter_byte : (p : ℕ) (ps : List ℕ) → Shortens ps (reach ps) → Shortens (p ∷ ps) (reach_byte p (reach ps))
shorter_byte p ps ih [] q r h = cc
shorter_byte p ps ih (c ∷ cs) q r h =
    let s = ih cs q r (kept_if (p == c) (reach ps cs) q r h) in
    record { pattern = omega (arith, s.pattern); text = omega (arith, s.text) }

shorter_character : (p : ℕ) (ps : List ℕ) → Shortens ps (reach ps) → Shortens (p ∷ ps) (reach_character (reach ps))
shorter_character p ps ih [] q r h = cc
shorter_character p ps ih (c ∷ cs) q r h =
    let s = ih (after_character cs) q r (kept_unless (continues c) (reach ps (after_character cs)) q r h) in
    record { pattern = omega (arith, s.pattern); text = omega (arith, s.text, length-after_character cs) }

shorter_up_to : (p : ℕ) (ps : List ℕ) → Shortens (p ∷ ps) (up_to ps)
shorter_up_to p ps t q r h =
    let behind : ps ≡ q = cc in
    let rest : t ≡ r = cc in
    record { pattern = omega (arith, ap length behind); text = omega (arith, ap length rest) }

pub shorter : (pattern : List ℕ) → Shortens pattern (reach pattern)
shorter [] = λ t q r h. cc
shorter (p ∷ ps) = λ t q r h.
    either_gives (p == 37) (up_to ps t) (if p == 95 then reach_character (reach ps) t else reach_byte p (reach ps) t) q r (shorter_up_to p ps t q r)
    (either_gives (p == 95) (reach_character (reach ps) t) (reach_byte p (reach ps) t) q r (shorter_character p ps (shorter ps) t q r) (shorter_byte p ps (shorter ps) t q r)) h

-- a test for nothing
pub is_nothing-length : (t : List ℕ) → is_nothing t ≡ (length t == 0)
is_nothing-length [] = refl
is_nothing-length (c ∷ cs) = sym (ne_eqb (length (c ∷ cs)) 0 (λ e. omega arith))
