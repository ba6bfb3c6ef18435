-- One part more of a list of parts, and its end
use Rattle.std.proofs.Common.{◌≡◌, ℕ, zero, suc, ◌+◌, ◌-◌, true, false, List, [], ◌∷◌, ◌++◌, length, take, drop, Result, Ok, Err, refl, sym, ◌∙◌}
use Rattle.gr_filter.specs.declared.fault.FilterFault.{FilterFault}
use Rattle.gr_filter.specs.declared.fault.FilterFault.TheVariants as fault
use Rattle.gr_filter.specs.declared.node.Operand.{Operand}
use Rattle.gr_filter.specs.Tree.{Tree, both, either}
use Rattle.gr_filter.specs.declared.token.Token.{Token}
use Rattle.gr_filter.specs.declared.token.Token.TheVariants as token
use Rattle.gr_filter.specs.declared.token.Lexeme.{Lexeme}
use Rattle.gr_filter.specs.Token.{is_space, front, token_of, lexeme}
use Rattle.std.proofs.lemmas.List.{take_rest}
use Rattle.gr_filter.specs.Gives.{Fails}
use Rattle.gr_filter.specs.Grammar.{◌>>=◌, Read, is_and, is_or, is_comma, close_at, literal_at, literals_at, and_more, and_at, or_more, or_at, nested, not_nested, not_at, test_at}

-- a fault that is known is a failure with it
fails_with : {X : Type 0} (f : FilterFault) (all : Result X FilterFault) → all ≡ Err f → Fails f all
fails_with fault.Memory all h = tt
fails_with f all h = h

not_and : (t : Token) → (t ≡ token.And → ⊥) → is_and t ≡ false
not_and token.And h = absurd (h refl)
not_and _ h = refl

not_or : (t : Token) → (t ≡ token.Or → ⊥) → is_or t ≡ false
not_or token.Or h = absurd (h refl)
not_or _ h = refl

not_comma : (t : Token) → (t ≡ token.Comma → ⊥) → is_comma t ≡ false
not_comma token.Comma h = absurd (h refl)
not_comma _ h = refl

-- the first token from a place on, of what is left behind the spaces
pub lexeme_is : (bytes : List ℕ) (at n : ℕ) (read : Token × ℕ) → n ≡ front is_space (take (length bytes - at) (drop at bytes))
    → read ≡ token_of (take (length bytes - (at + n)) (drop (at + n) bytes))
    → record { token = read.0; from = at + n; to = at + n + read.1 } ≡ lexeme bytes at
unfolding lexeme
lexeme_is bytes at n read e d = rw (d, e, take_rest bytes at, take_rest bytes (at + front is_space (drop at bytes))) refl

-- AND

pub and_begins : (bytes : List ℕ) (part : ℕ → Read Tree) (at : ℕ) (r : Tree × ℕ) → part at ≡ Ok r → and_more bytes part (length bytes) r.0 r.1 ≡ and_at bytes part at
unfolding and_at
and_begins bytes part at r h = rw h refl

pub and_goes : (bytes : List ℕ) (part : ℕ → Read Tree) (m n : ℕ) (found : Tree) (at : ℕ) (r : Tree × ℕ) (l : Lexeme) (all : Read Tree) → m ≡ suc n → lexeme bytes at ≡ l
    → is_and l.token ≡ true → part l.to ≡ Ok r → and_more bytes part m found at ≡ all → and_more bytes part n (both found r.0) r.1 ≡ all
unfolding and_more
and_goes bytes part m n found at r l all e d is h so_far = rw (e, d, is, h) at so_far

pub and_fails : (bytes : List ℕ) (part : ℕ → Read Tree) (m n : ℕ) (found : Tree) (at : ℕ) (f : FilterFault) (l : Lexeme) (all : Read Tree) → m ≡ suc n → lexeme bytes at ≡ l
    → is_and l.token ≡ true → Fails f (part l.to) → and_more bytes part m found at ≡ all → Fails f all
unfolding and_more
and_fails bytes part m n found at fault.Memory l all e d is h so_far = tt
and_fails bytes part m n found at f l all e d is h so_far = sym so_far ∙ rw (e, d, is, h) refl

pub and_stops : (bytes : List ℕ) (part : ℕ → Read Tree) (n : ℕ) (found : Tree) (at : ℕ) (l : Lexeme) (all : Read Tree) → lexeme bytes at ≡ l
    → (l.token ≡ token.And → ⊥) → and_more bytes part n found at ≡ all → all ≡ Ok (found, at)
unfolding and_more
and_stops bytes part zero found at l all d is so_far = sym so_far
and_stops bytes part (suc n) found at l all d is so_far = sym so_far ∙ rw (d, not_and l.token is) refl

pub and_ends : (bytes : List ℕ) (part : ℕ → Read Tree) (n : ℕ) (found : Tree) (at : ℕ) (all : Read Tree) → n ≡ zero → and_more bytes part n found at ≡ all → all ≡ Ok (found, at)
unfolding and_more
and_ends bytes part n found at all e so_far = sym so_far ∙ rw e refl

-- OR

pub or_begins : (bytes : List ℕ) (part : ℕ → Read Tree) (at : ℕ) (r : Tree × ℕ) → and_at bytes part at ≡ Ok r → or_more bytes part (length bytes) r.0 r.1 ≡ or_at bytes part at
unfolding or_at
or_begins bytes part at r h = rw h refl

pub or_goes : (bytes : List ℕ) (part : ℕ → Read Tree) (m n : ℕ) (found : Tree) (at : ℕ) (r : Tree × ℕ) (l : Lexeme) (all : Read Tree) → m ≡ suc n → lexeme bytes at ≡ l
    → is_or l.token ≡ true → and_at bytes part l.to ≡ Ok r → or_more bytes part m found at ≡ all → or_more bytes part n (either found r.0) r.1 ≡ all
unfolding or_more
or_goes bytes part m n found at r l all e d is h so_far = rw (e, d, is, h) at so_far

pub or_fails : (bytes : List ℕ) (part : ℕ → Read Tree) (m n : ℕ) (found : Tree) (at : ℕ) (f : FilterFault) (l : Lexeme) (all : Read Tree) → m ≡ suc n → lexeme bytes at ≡ l
    → is_or l.token ≡ true → Fails f (and_at bytes part l.to) → or_more bytes part m found at ≡ all → Fails f all
unfolding or_more
or_fails bytes part m n found at fault.Memory l all e d is h so_far = tt
or_fails bytes part m n found at f l all e d is h so_far = sym so_far ∙ rw (e, d, is, h) refl

pub or_stops : (bytes : List ℕ) (part : ℕ → Read Tree) (n : ℕ) (found : Tree) (at : ℕ) (l : Lexeme) (all : Read Tree) → lexeme bytes at ≡ l
    → (l.token ≡ token.Or → ⊥) → or_more bytes part n found at ≡ all → all ≡ Ok (found, at)
unfolding or_more
or_stops bytes part zero found at l all d is so_far = sym so_far
or_stops bytes part (suc n) found at l all d is so_far = sym so_far ∙ rw (d, not_or l.token is) refl

pub or_ends : (bytes : List ℕ) (part : ℕ → Read Tree) (n : ℕ) (found : Tree) (at : ℕ) (all : Read Tree) → n ≡ zero → or_more bytes part n found at ≡ all → all ≡ Ok (found, at)
unfolding or_more
or_ends bytes part n found at all e so_far = sym so_far ∙ rw e refl

-- Literals

pub literals_go : (bytes : List ℕ) (m n : ℕ) (found : List Operand) (at : ℕ) (r : Operand × ℕ) (l : Lexeme) (all : Read (List Operand)) → m ≡ suc n → lexeme bytes at ≡ l
    → is_comma l.token ≡ true → literal_at bytes l.to ≡ Ok r → literals_at bytes m found at ≡ all → literals_at bytes n (found ++ r.0 ∷ []) r.1 ≡ all
unfolding literals_at
literals_go bytes m n found at r l all e d is h so_far = rw (e, d, is, h) at so_far

pub literals_fail : (bytes : List ℕ) (m n : ℕ) (found : List Operand) (at : ℕ) (f : FilterFault) (l : Lexeme) (all : Read (List Operand)) → m ≡ suc n → lexeme bytes at ≡ l
    → is_comma l.token ≡ true → Fails f (literal_at bytes l.to) → literals_at bytes m found at ≡ all → Fails f all
unfolding literals_at
literals_fail bytes m n found at fault.Memory l all e d is h so_far = tt
literals_fail bytes m n found at f l all e d is h so_far = sym so_far ∙ rw (e, d, is, h) refl

closing : (bytes : List ℕ) (n : ℕ) (found : List Operand) (at : ℕ) (l : Lexeme) → lexeme bytes at ≡ l → (l.token ≡ token.Comma → ⊥)
    → literals_at bytes n found at ≡ (close_at bytes at >>= λ behind. Ok (found, behind))
unfolding literals_at
closing bytes zero found at l d is = refl
closing bytes (suc n) found at l d is = rw (d, not_comma l.token is) refl

closing_end : (bytes : List ℕ) (n : ℕ) (found : List Operand) (at : ℕ) → n ≡ zero → literals_at bytes n found at ≡ (close_at bytes at >>= λ behind. Ok (found, behind))
unfolding literals_at
closing_end bytes n found at e = rw e refl

-- the literals end with a parenthesis
pub literals_closed : (bytes : List ℕ) (n : ℕ) (found : List Operand) (at behind : ℕ) (l : Lexeme) (all : Read (List Operand)) → lexeme bytes at ≡ l → (l.token ≡ token.Comma → ⊥)
    → close_at bytes at ≡ Ok behind → literals_at bytes n found at ≡ all → all ≡ Ok (found, behind)
literals_closed bytes n found at behind l all d is h so_far = sym so_far ∙ closing bytes n found at l d is ∙ rw h refl

pub literals_open : (bytes : List ℕ) (n : ℕ) (found : List Operand) (at : ℕ) (f : FilterFault) (l : Lexeme) (all : Read (List Operand)) → lexeme bytes at ≡ l → (l.token ≡ token.Comma → ⊥)
    → close_at bytes at ≡ Err f → literals_at bytes n found at ≡ all → Fails f all
literals_open bytes n found at f l all d is h so_far = fails_with f all (sym so_far ∙ closing bytes n found at l d is ∙ rw h refl)

pub literals_closed_end : (bytes : List ℕ) (n : ℕ) (found : List Operand) (at behind : ℕ) (all : Read (List Operand)) → n ≡ zero
    → close_at bytes at ≡ Ok behind → literals_at bytes n found at ≡ all → all ≡ Ok (found, behind)
literals_closed_end bytes n found at behind all e h so_far = sym so_far ∙ closing_end bytes n found at e ∙ rw h refl

pub literals_open_end : (bytes : List ℕ) (n : ℕ) (found : List Operand) (at : ℕ) (f : FilterFault) (all : Read (List Operand)) → n ≡ zero
    → close_at bytes at ≡ Err f → literals_at bytes n found at ≡ all → Fails f all
literals_open_end bytes n found at f all e h so_far = fails_with f all (sym so_far ∙ closing_end bytes n found at e ∙ rw h refl)

-- Parentheses, and tests without

pub open_fails : (bytes : List ℕ) (levels m at : ℕ) (l : Lexeme) (f : FilterFault) → levels ≡ suc m → lexeme bytes at ≡ l → l.token ≡ token.Open
    → Fails f (or_at bytes (not_at bytes m) l.to) → Fails f (not_at bytes levels at)
unfolding not_at
open_fails bytes levels m at l fault.Memory e d is h = tt
open_fails bytes levels m at l f e d is h = rw (e, d, is, h) refl

pub close_fails : (bytes : List ℕ) (levels m at : ℕ) (l : Lexeme) (r : Tree × ℕ) (f : FilterFault) → levels ≡ suc m → lexeme bytes at ≡ l → l.token ≡ token.Open
    → or_at bytes (not_at bytes m) l.to ≡ Ok r → close_at bytes r.1 ≡ Err f → Fails f (not_at bytes levels at)
unfolding not_at
close_fails bytes levels m at l r f e d is h k = fails_with f (not_at bytes levels at) (rw (e, d, is, h, k) refl)

plain_nested : (bytes : List ℕ) (inner : ℕ → Read Tree) (l : Lexeme) (t : Token) (test : Read Tree) → (t ≡ token.Not → ⊥) → (t ≡ token.Open → ⊥) → nested bytes inner l t test ≡ test
plain_nested bytes inner l token.Not test n o = absurd (n refl)
plain_nested bytes inner l token.Open test n o = absurd (o refl)
plain_nested bytes inner l _ test n o = refl

plain_not_nested : (l : Lexeme) (t : Token) (test : Read Tree) → (t ≡ token.Not → ⊥) → (t ≡ token.Open → ⊥) → not_nested l t test ≡ test
plain_not_nested l token.Not test n o = absurd (n refl)
plain_not_nested l token.Open test n o = absurd (o refl)
plain_not_nested l _ test n o = refl

pub not_plain : (bytes : List ℕ) (levels at : ℕ) (l : Lexeme) → lexeme bytes at ≡ l → (l.token ≡ token.Not → ⊥) → (l.token ≡ token.Open → ⊥) → not_at bytes levels at ≡ test_at bytes at
unfolding not_at
not_plain bytes zero at l d n o = rw d (plain_not_nested l l.token (test_at bytes at) n o)
not_plain bytes (suc levels) at l d n o = rw d (plain_nested bytes (not_at bytes levels) l l.token (test_at bytes at) n o)
