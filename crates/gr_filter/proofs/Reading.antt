-- What the productions derive, the reader reads: behind a filter stands a word that ends it, so each reader goes on where its production does
use Rattle.std.proofs.Common.{◌≡◌, ℕ, ℤ, zero, suc, ◌+◌, ◌-◌, ◌≤◌, Bool, true, false, if◌then◌else◌, List, [], ◌∷◌, ◌++◌, length, Result, Ok, Err, Some, None, refl, sym, ap, ◌∙◌, subst, arith}
use Rattle.gr_filter.specs.declared.fault.FilterFault.{FilterFault}
use Rattle.gr_filter.specs.declared.node.Operand.{Operand}
use Rattle.gr_filter.specs.declared.node.Operand.TheVariants as operand
use Rattle.gr_filter.specs.declared.node.Sign.{Sign}
use Rattle.gr_filter.specs.declared.token.Token.{Token}
use Rattle.gr_filter.specs.declared.token.Token.TheVariants as token
use Rattle.gr_filter.specs.declared.token.Lexeme.{Lexeme}
use Rattle.gr_filter.specs.Token.{lexeme}
use Rattle.gr_filter.specs.Grammar.{◌>>=◌, Read, name_of, text_of, literal_of, operand_of, literal_at, operand_at, wanted, is_open, is_close, is_and, is_or, is_comma, is_not, is_null_word, is_text, open_at, close_at, and_word_at, null_at, pattern_at, between_at, literals_at, one_of_at, like_at, null_test_at, for_name, alone_at, negated_of, negated_at, tail_of, tail_at, test_at, and_more, and_at, or_more, or_at, nested, not_nested, not_at}
use Rattle.gr_filter.specs.Tree.{Tree, alone, compare, between, one_of, like, is_null, negation, both, either}
use Rattle.gr_filter.specs.Productions.{Word, name_word, integer_word, text_word, truth_word, and_word, or_word, not_word, between_word, in_word, like_word, is_word, null_word, sign_word, opening, closing, comma, operand_word, IsLiteral, StandsAlone, AreAllLiterals, AreLiterals, not_words, more_words, literal_words, test_words, IsTest, Production, filter, conjunction, factor, Derives, one_test, one_not, one_group, one_factor, joined_by_and, one_conjunction, joined_by_or, word_of, word_at, AreWords}
use Rattle.gr_filter.proofs.Parsing.{not_plain}
use Rattle.gr_filter.proofs.Sizes.{words_sized}

-- ---- words, one list after another

words_split : (bytes : List ℕ) (at to : ℕ) (xs ys : List Word) → AreWords bytes at (xs ++ ys) to → (m : ℕ) × AreWords bytes at xs m × AreWords bytes m ys to
words_split bytes at to [] ys h = (at, refl, h)
words_split bytes at to (x ∷ xs) ys h =
    let r : (m : ℕ) × AreWords bytes (lexeme bytes at).to xs m × AreWords bytes m ys to = words_split bytes (lexeme bytes at).to to xs ys h.1 in
    (r.0, (h.0, r.1), r.2)

-- ---- the token of a word

open_token : (bytes : List ℕ) (l : Lexeme) (t : Token) → word_of bytes l t ≡ Some opening → t ≡ token.Open
open_token bytes l token.Open h = refl
open_token bytes l _ h = cc

close_token : (bytes : List ℕ) (l : Lexeme) (t : Token) → word_of bytes l t ≡ Some closing → t ≡ token.Close
close_token bytes l token.Close h = refl
close_token bytes l _ h = cc

comma_token : (bytes : List ℕ) (l : Lexeme) (t : Token) → word_of bytes l t ≡ Some comma → t ≡ token.Comma
comma_token bytes l token.Comma h = refl
comma_token bytes l _ h = cc

and_token : (bytes : List ℕ) (l : Lexeme) (t : Token) → word_of bytes l t ≡ Some and_word → t ≡ token.And
and_token bytes l token.And h = refl
and_token bytes l _ h = cc

or_token : (bytes : List ℕ) (l : Lexeme) (t : Token) → word_of bytes l t ≡ Some or_word → t ≡ token.Or
or_token bytes l token.Or h = refl
or_token bytes l _ h = cc

not_token : (bytes : List ℕ) (l : Lexeme) (t : Token) → word_of bytes l t ≡ Some not_word → t ≡ token.Not
not_token bytes l token.Not h = refl
not_token bytes l _ h = cc

between_token : (bytes : List ℕ) (l : Lexeme) (t : Token) → word_of bytes l t ≡ Some between_word → t ≡ token.Between
between_token bytes l token.Between h = refl
between_token bytes l _ h = cc

in_token : (bytes : List ℕ) (l : Lexeme) (t : Token) → word_of bytes l t ≡ Some in_word → t ≡ token.In
in_token bytes l token.In h = refl
in_token bytes l _ h = cc

like_token : (bytes : List ℕ) (l : Lexeme) (t : Token) → word_of bytes l t ≡ Some like_word → t ≡ token.Like
like_token bytes l token.Like h = refl
like_token bytes l _ h = cc

is_token : (bytes : List ℕ) (l : Lexeme) (t : Token) → word_of bytes l t ≡ Some is_word → t ≡ token.Is
is_token bytes l token.Is h = refl
is_token bytes l _ h = cc

null_token : (bytes : List ℕ) (l : Lexeme) (t : Token) → word_of bytes l t ≡ Some null_word → t ≡ token.Null
null_token bytes l token.Null h = refl
null_token bytes l _ h = cc

sign_same : (a b : Sign) → Some (sign_word a) ≡ Some (sign_word b) → a ≡ b
sign_same a b h = cc

sign_is_token : (bytes : List ℕ) (l : Lexeme) (t : Token) (s : Sign) → word_of bytes l t ≡ Some (sign_word s) → t ≡ token.Sign s
sign_is_token bytes l (token.Sign r) s h = ap (λ x. token.Sign x) (sign_same r s h)
sign_is_token bytes l _ s h = cc

text_same : (a b : List ℕ) → Some (text_word a) ≡ Some (text_word b) → a ≡ b
text_same a b h = cc

text_is_token : (bytes : List ℕ) (l : Lexeme) (t : Token) (s : List ℕ) → word_of bytes l t ≡ Some (text_word s) → (t ≡ token.Text) × (text_of bytes l ≡ s)
text_is_token bytes l token.Text s h = (refl, text_same (text_of bytes l) s h)
text_is_token bytes l _ s h = cc

-- ---- operands

name_same : (a b : List ℕ) → Some (name_word a) ≡ Some (name_word b) → a ≡ b
name_same a b h = cc

integer_same : (a b : ℤ) → Some (integer_word a) ≡ Some (integer_word b) → a ≡ b
integer_same a b h = cc

literal_back : (bytes : List ℕ) (l : Lexeme) (t : Token) (x : Operand) → IsLiteral x → word_of bytes l t ≡ Some (operand_word x) → literal_of bytes l t ≡ Ok x
literal_back bytes l t (operand.Name n) i h = absurd i
literal_back bytes l (token.Integer z) (operand.Int y) i h = ap (λ z. Ok (operand.Int z)) (integer_same z y h)
literal_back bytes l token.Text (operand.Text t) i h = ap (λ z. Ok (operand.Text z)) (text_same (text_of bytes l) t h)
literal_back bytes l token.True (operand.Bool true) i h = refl
literal_back bytes l token.False (operand.Bool false) i h = refl
literal_back bytes l t x i h = cc

name_back : (bytes : List ℕ) (l : Lexeme) (t : Token) (n : List ℕ) → word_of bytes l t ≡ Some (name_word n) → operand_of bytes l t ≡ Ok (operand.Name n)
name_back bytes l token.Name n h = ap (λ z. Ok (operand.Name z)) (name_same (name_of bytes l) n h)
name_back bytes l _ n h = cc

-- what is read as a literal is read as an operand
operand_literal : (bytes : List ℕ) (l : Lexeme) (t : Token) (x : Operand) → literal_of bytes l t ≡ Ok x → operand_of bytes l t ≡ Ok x
operand_literal bytes l token.Name x h = cc
operand_literal bytes l _ x h = h

operand_back : (bytes : List ℕ) (l : Lexeme) (t : Token) (x : Operand) → word_of bytes l t ≡ Some (operand_word x) → operand_of bytes l t ≡ Ok x
operand_back bytes l t (operand.Name n) h = name_back bytes l t n h
operand_back bytes l t (operand.Int z) h = operand_literal bytes l t (operand.Int z) (literal_back bytes l t (operand.Int z) tt h)
operand_back bytes l t (operand.Text u) h = operand_literal bytes l t (operand.Text u) (literal_back bytes l t (operand.Text u) tt h)
operand_back bytes l t (operand.Bool b) h = operand_literal bytes l t (operand.Bool b) (literal_back bytes l t (operand.Bool b) tt h)

-- a step that went well, and the next one
pub then_ok : {A B : Type 0} (m : Result A FilterFault) (f : A → Result B FilterFault) (x : A) (r : Result B FilterFault) → m ≡ Ok x → f x ≡ r → (m >>= f) ≡ r
then_ok m f x r h k = ap (λ z. z >>= f) h ∙ k

with_place : {A : Type 0} (x : A) (m n : ℕ) → m ≡ n → ◌≡◌ {A = Result (A × ℕ) FilterFault} (Ok (x, m)) (Ok (x, n))
with_place x m n h = ap (λ k. Ok (x, k)) h

operand_whole : (bytes : List ℕ) (at to : ℕ) (x : Operand) → AreWords bytes at (operand_word x ∷ []) to → operand_at bytes at ≡ Ok (x, to)
unfolding operand_at
operand_whole bytes at to x h = then_ok (operand_of bytes (lexeme bytes at) (lexeme bytes at).token) _ x _ (operand_back bytes (lexeme bytes at) (lexeme bytes at).token x h.0) (with_place x (lexeme bytes at).to to h.1)

literal_whole : (bytes : List ℕ) (at to : ℕ) (x : Operand) → IsLiteral x → AreWords bytes at (operand_word x ∷ []) to → literal_at bytes at ≡ Ok (x, to)
unfolding literal_at
literal_whole bytes at to x i h = then_ok (literal_of bytes (lexeme bytes at) (lexeme bytes at).token) _ x _ (literal_back bytes (lexeme bytes at) (lexeme bytes at).token x i h.0) (with_place x (lexeme bytes at).to to h.1)

-- ---- words that have to stand at a place

wanted_whole : (fits : Bool) (l : Lexeme) (to : ℕ) → fits ≡ true → l.to ≡ to → wanted fits l ≡ Ok to
wanted_whole true l to h k = ap (λ n. Ok n) k
wanted_whole false l to h k = cc

open_whole : (bytes : List ℕ) (at to : ℕ) → AreWords bytes at (opening ∷ []) to → open_at bytes at ≡ Ok to
unfolding open_at
open_whole bytes at to h = wanted_whole (is_open (lexeme bytes at).token) (lexeme bytes at) to (ap is_open (open_token bytes (lexeme bytes at) (lexeme bytes at).token h.0)) h.1

close_whole : (bytes : List ℕ) (at to : ℕ) → AreWords bytes at (closing ∷ []) to → close_at bytes at ≡ Ok to
unfolding close_at
close_whole bytes at to h = wanted_whole (is_close (lexeme bytes at).token) (lexeme bytes at) to (ap is_close (close_token bytes (lexeme bytes at) (lexeme bytes at).token h.0)) h.1

and_word_whole : (bytes : List ℕ) (at to : ℕ) → AreWords bytes at (and_word ∷ []) to → and_word_at bytes at ≡ Ok to
unfolding and_word_at
and_word_whole bytes at to h = wanted_whole (is_and (lexeme bytes at).token) (lexeme bytes at) to (ap is_and (and_token bytes (lexeme bytes at) (lexeme bytes at).token h.0)) h.1

null_whole : (bytes : List ℕ) (at to : ℕ) → AreWords bytes at (null_word ∷ []) to → null_at bytes at ≡ Ok to
unfolding null_at
null_whole bytes at to h = wanted_whole (is_null_word (lexeme bytes at).token) (lexeme bytes at) to (ap is_null_word (null_token bytes (lexeme bytes at) (lexeme bytes at).token h.0)) h.1

pub taken : {A : Type 0} (b : Bool) (x y r : A) → b ≡ true → x ≡ r → (if b then x else y) ≡ r
taken true x y r h k = k
taken false x y r h k = cc

pub left : {A : Type 0} (b : Bool) (x y r : A) → b ≡ false → y ≡ r → (if b then x else y) ≡ r
left true x y r h k = cc
left false x y r h k = k

pattern_whole : (bytes : List ℕ) (at to : ℕ) (s : List ℕ) → AreWords bytes at (text_word s ∷ []) to → pattern_at bytes at ≡ Ok (s, to)
unfolding pattern_at
pattern_whole bytes at to s h =
    let t = text_is_token bytes (lexeme bytes at) (lexeme bytes at).token s h.0 in
    taken (is_text (lexeme bytes at).token) _ _ _ (ap is_text t.0) (ap (λ z. Ok (z, (lexeme bytes at).to)) t.1 ∙ with_place s (lexeme bytes at).to to h.1)

-- ---- tests

-- the words from one place on, one at a time
first_word : (bytes : List ℕ) (at to : ℕ) (w : Word) (ws : List Word) → AreWords bytes at (w ∷ ws) to → AreWords bytes at (w ∷ []) (lexeme bytes at).to
first_word bytes at to w ws h = (h.0, refl)

between_whole : (bytes : List ℕ) (negated : Bool) (x low high : Operand) (at to : ℕ) → AreWords bytes at (operand_word low ∷ (and_word ∷ (operand_word high ∷ []))) to → between_at bytes negated x at ≡ Ok (between negated x low high, to)
unfolding between_at
between_whole bytes negated x low high at to h =
    let m : ℕ = (lexeme bytes at).to in
    let n : ℕ = (lexeme bytes m).to in
    then_ok (operand_at bytes at) _ (low, m) _ (operand_whole bytes at m low (h.0, refl))
    (then_ok (and_word_at bytes m) _ n _ (and_word_whole bytes m n (h.1.0, refl))
    (then_ok (operand_at bytes n) _ (high, to) _ (operand_whole bytes n to high h.1.1) refl))

not_comma : (t : Token) → t ≡ token.Close → is_comma t ≡ false
not_comma t h = ap is_comma h

closed_whole : (bytes : List ℕ) (at to : ℕ) (found : List Operand) → AreWords bytes at (closing ∷ []) to → (◌>>=◌ {B = List Operand × ℕ} (close_at bytes at) (λ m. Ok (found, m))) ≡ Ok (found, to)
closed_whole bytes at to found h = then_ok (close_at bytes at) _ to _ (close_whole bytes at to h) refl

nil_end : (xs : List Operand) → xs ++ [] ≡ xs
nil_end [] = refl
nil_end (x ∷ xs) = ap (λ ys. x ∷ ys) (nil_end xs)

one_more : (found : List Operand) (x : Operand) (ys : List Operand) → (found ++ x ∷ []) ++ ys ≡ found ++ x ∷ ys
one_more [] x ys = refl
one_more (y ∷ found) x ys = ap (λ zs. y ∷ zs) (one_more found x ys)

literals_whole : (bytes : List ℕ) (n : ℕ) (found ys : List Operand) (at to : ℕ) → length ys ≤ n → AreAllLiterals ys → AreWords bytes at (more_words ys ++ closing ∷ []) to → literals_at bytes n found at ≡ Ok (found ++ ys, to)
unfolding literals_at
literals_whole bytes zero found [] at to l i h = closed_whole bytes at to found h ∙ ap (λ xs. Ok (xs, to)) (sym (nil_end found))
literals_whole bytes zero found (y ∷ ys) at to l i h = absurd (omega (arith, l))
literals_whole bytes (suc n) found [] at to l i h =
    left (is_comma (lexeme bytes at).token) _ _ _ (not_comma (lexeme bytes at).token (close_token bytes (lexeme bytes at) (lexeme bytes at).token h.0))
    (closed_whole bytes at to found h ∙ ap (λ xs. Ok (xs, to)) (sym (nil_end found)))
literals_whole bytes (suc n) found (y ∷ ys) at to l i h =
    let m : ℕ = (lexeme bytes at).to in
    taken (is_comma (lexeme bytes at).token) _ _ _ (ap is_comma (comma_token bytes (lexeme bytes at) (lexeme bytes at).token h.0))
    (then_ok (literal_at bytes m) _ (y, (lexeme bytes m).to) _ (literal_whole bytes m (lexeme bytes m).to y i.0 (h.1.0, refl))
    (literals_whole bytes n (found ++ y ∷ []) ys (lexeme bytes m).to to (omega (arith, l)) i.1 h.1.1 ∙ ap (λ xs. Ok (xs, to)) (one_more found y ys)))

more_long : (ys : List Operand) (ws : List Word) → length ys ≤ length (more_words ys ++ ws)
more_long [] ws = omega arith
more_long (y ∷ ys) ws = omega (arith, more_long ys ws)

one_of_whole : (bytes : List ℕ) (negated : Bool) (name : List ℕ) (x : Operand) (ys : List Operand) (at to : ℕ) → at ≤ length bytes → IsLiteral x → AreAllLiterals ys
    → AreWords bytes at (opening ∷ (operand_word x ∷ (more_words ys ++ closing ∷ []))) to → one_of_at bytes negated name at ≡ Ok (one_of negated name (x ∷ ys), to)
unfolding one_of_at
one_of_whole bytes negated name x ys at to l i is h =
    let m : ℕ = (lexeme bytes at).to in
    let n : ℕ = (lexeme bytes m).to in
    let all = words_sized bytes at to (opening ∷ (operand_word x ∷ (more_words ys ++ closing ∷ []))) l h in
    let few : length ys ≤ length bytes = omega (arith, all.0, all.1, more_long ys (closing ∷ [])) in
    then_ok (open_at bytes at) _ m _ (open_whole bytes at m (h.0, refl))
    (then_ok (literal_at bytes m) _ (x, n) _ (literal_whole bytes m n x i (h.1.0, refl))
    (then_ok (literals_at bytes (length bytes) (x ∷ []) n) _ (x ∷ ys, to) _ (literals_whole bytes (length bytes) (x ∷ []) ys n to few is h.1.1) refl))

like_whole : (bytes : List ℕ) (negated : Bool) (name s : List ℕ) (at to : ℕ) → AreWords bytes at (text_word s ∷ []) to → like_at bytes negated name at ≡ Ok (like negated name s, to)
unfolding like_at
like_whole bytes negated name s at to h = then_ok (pattern_at bytes at) _ (s, to) _ (pattern_whole bytes at to s h) refl

not_not : (t : Token) → t ≡ token.Null → is_not t ≡ false
not_not t h = ap is_not h

null_test_whole : (bytes : List ℕ) (negated : Bool) (name : List ℕ) (at to : ℕ) → AreWords bytes at (not_words negated ++ null_word ∷ []) to → null_test_at bytes name at ≡ Ok (is_null negated name, to)
unfolding null_test_at
null_test_whole bytes true name at to h =
    taken (is_not (lexeme bytes at).token) _ _ _ (ap is_not (not_token bytes (lexeme bytes at) (lexeme bytes at).token h.0))
    (then_ok (null_at bytes (lexeme bytes at).to) _ to _ (null_whole bytes (lexeme bytes at).to to h.1) refl)
null_test_whole bytes false name at to h =
    left (is_not (lexeme bytes at).token) _ _ _ (not_not (lexeme bytes at).token (null_token bytes (lexeme bytes at) (lexeme bytes at).token h.0))
    (then_ok (null_at bytes at) _ to _ (null_whole bytes at to h) refl)

-- the words that may stand behind a test
abbrev pub stops : Token → Bool
stops token.And = true
stops token.Or = true
stops token.Close = true
stops token.End = true
stops _ = false

alone_told : (x : Operand) (at : ℕ) (l : Lexeme) → StandsAlone x → alone_at x at l ≡ Ok (alone x, at)
alone_told (operand.Name n) at l h = refl
alone_told (operand.Bool b) at l h = refl
alone_told (operand.Int z) at l h = absurd h
alone_told (operand.Text t) at l h = absurd h

alone_whole : (bytes : List ℕ) (x : Operand) (at : ℕ) (l : Lexeme) (t : Token) → stops t ≡ true → StandsAlone x → tail_of bytes x at l t ≡ Ok (alone x, at)
alone_whole bytes x at l token.And s h = alone_told x at l h
alone_whole bytes x at l token.Or s h = alone_told x at l h
alone_whole bytes x at l token.Close s h = alone_told x at l h
alone_whole bytes x at l token.End s h = alone_told x at l h
alone_whole bytes x at l _ s h = cc

-- the tail of a token that is known
tail_with : (bytes : List ℕ) (x : Operand) (at : ℕ) (t : Token) (r : Read Tree) → (lexeme bytes at).token ≡ t → tail_of bytes x at (lexeme bytes at) t ≡ r → tail_at bytes x at ≡ r
unfolding tail_at
tail_with bytes x at t r h k = ap (tail_of bytes x at (lexeme bytes at)) h ∙ k

negated_with : (bytes : List ℕ) (x : Operand) (at : ℕ) (t : Token) (r : Read Tree) → (lexeme bytes at).token ≡ token.Not → (lexeme bytes (lexeme bytes at).to).token ≡ t
    → negated_of bytes x (lexeme bytes at).from (lexeme bytes (lexeme bytes at).to) t ≡ r → tail_at bytes x at ≡ r
unfolding negated_at
negated_with bytes x at t r n h k = tail_with bytes x at token.Not r n (ap (negated_of bytes x (lexeme bytes at).from (lexeme bytes (lexeme bytes at).to)) h ∙ k)

-- the first word of a test is its operand
abbrev first_operand : Tree → Operand
first_operand (alone x) = x
first_operand (compare x sign y) = x
first_operand (between negated x low high) = x
first_operand (one_of negated name xs) = operand.Name name
first_operand (like negated name pattern) = operand.Name name
first_operand (is_null negated name) = operand.Name name
first_operand _ = operand.Bool true

tail_whole : (bytes : List ℕ) (at to : ℕ) (t : Tree) → IsTest t → at ≤ length bytes → stops (lexeme bytes to).token ≡ true → AreWords bytes at (test_words t) to → tail_at bytes (first_operand t) (lexeme bytes at).to ≡ Ok (t, to)
unfolding tail_at
tail_whole bytes at to (alone x) i l s h =
    subst (λ n. tail_at bytes x n ≡ Ok (alone x, to)) (sym h.1) (alone_whole bytes x to (lexeme bytes to) (lexeme bytes to).token s i)
tail_whole bytes at to (compare x sign y) i l s h =
    let m : ℕ = (lexeme bytes at).to in
    tail_with bytes x m (token.Sign sign) _ (sign_is_token bytes (lexeme bytes m) (lexeme bytes m).token sign h.1.0)
    (then_ok (operand_at bytes (lexeme bytes m).to) _ (y, to) _ (operand_whole bytes (lexeme bytes m).to to y h.1.1) refl)
tail_whole bytes at to (between false x low high) i l s h =
    let m : ℕ = (lexeme bytes at).to in
    tail_with bytes x m token.Between _ (between_token bytes (lexeme bytes m) (lexeme bytes m).token h.1.0) (between_whole bytes false x low high (lexeme bytes m).to to h.1.1)
tail_whole bytes at to (between true x low high) i l s h =
    let m : ℕ = (lexeme bytes at).to in
    let n : ℕ = (lexeme bytes m).to in
    negated_with bytes x m token.Between _ (not_token bytes (lexeme bytes m) (lexeme bytes m).token h.1.0) (between_token bytes (lexeme bytes n) (lexeme bytes n).token h.1.1.0) (between_whole bytes true x low high (lexeme bytes n).to to h.1.1.1)
tail_whole bytes at to (one_of negated name []) i l s h = absurd i
tail_whole bytes at to (one_of false name (x ∷ ys)) i l s h =
    let m : ℕ = (lexeme bytes at).to in
    tail_with bytes (operand.Name name) m token.In _ (in_token bytes (lexeme bytes m) (lexeme bytes m).token h.1.0)
    (one_of_whole bytes false name x ys (lexeme bytes m).to to (words_sized bytes at (lexeme bytes m).to (name_word name ∷ (in_word ∷ [])) l (h.0, (h.1.0, refl))).1 i.0 i.1 h.1.1)
tail_whole bytes at to (one_of true name (x ∷ ys)) i l s h =
    let m : ℕ = (lexeme bytes at).to in
    let n : ℕ = (lexeme bytes m).to in
    negated_with bytes (operand.Name name) m token.In _ (not_token bytes (lexeme bytes m) (lexeme bytes m).token h.1.0) (in_token bytes (lexeme bytes n) (lexeme bytes n).token h.1.1.0)
    (one_of_whole bytes true name x ys (lexeme bytes n).to to (words_sized bytes at (lexeme bytes n).to (name_word name ∷ (not_word ∷ (in_word ∷ []))) l (h.0, (h.1.0, (h.1.1.0, refl)))).1 i.0 i.1 h.1.1.1)
tail_whole bytes at to (like false name p) i l s h =
    let m : ℕ = (lexeme bytes at).to in
    tail_with bytes (operand.Name name) m token.Like _ (like_token bytes (lexeme bytes m) (lexeme bytes m).token h.1.0) (like_whole bytes false name p (lexeme bytes m).to to h.1.1)
tail_whole bytes at to (like true name p) i l s h =
    let m : ℕ = (lexeme bytes at).to in
    let n : ℕ = (lexeme bytes m).to in
    negated_with bytes (operand.Name name) m token.Like _ (not_token bytes (lexeme bytes m) (lexeme bytes m).token h.1.0) (like_token bytes (lexeme bytes n) (lexeme bytes n).token h.1.1.0) (like_whole bytes true name p (lexeme bytes n).to to h.1.1.1)
tail_whole bytes at to (is_null negated name) i l s h =
    let m : ℕ = (lexeme bytes at).to in
    tail_with bytes (operand.Name name) m token.Is _ (is_token bytes (lexeme bytes m) (lexeme bytes m).token h.1.0) (null_test_whole bytes negated name (lexeme bytes m).to to h.1.1)
tail_whole bytes at to (negation t) i l s h = absurd i
tail_whole bytes at to (both a b) i l s h = absurd i
tail_whole bytes at to (either a b) i l s h = absurd i

first_is : (bytes : List ℕ) (at to : ℕ) (t : Tree) → IsTest t → AreWords bytes at (test_words t) to → word_at bytes at ≡ Some (operand_word (first_operand t))
first_is bytes at to (alone x) i h = h.0
first_is bytes at to (compare x sign y) i h = h.0
first_is bytes at to (between negated x low high) i h = h.0
first_is bytes at to (one_of negated name xs) i h = h.0
first_is bytes at to (like negated name p) i h = h.0
first_is bytes at to (is_null negated name) i h = h.0
first_is bytes at to (negation t) i h = absurd i
first_is bytes at to (both a b) i h = absurd i
first_is bytes at to (either a b) i h = absurd i

test_whole : (bytes : List ℕ) (at to : ℕ) (t : Tree) → IsTest t → at ≤ length bytes → stops (lexeme bytes to).token ≡ true → AreWords bytes at (test_words t) to → test_at bytes at ≡ Ok (t, to)
unfolding test_at
test_whole bytes at to t i l s h =
    then_ok (operand_at bytes at) _ (first_operand t, (lexeme bytes at).to) _ (operand_whole bytes at (lexeme bytes at).to (first_operand t) (first_is bytes at to t i h, refl)) (tail_whole bytes at to t i l s h)

-- ---- AND, OR, NOT and parentheses

not_operand : (bytes : List ℕ) (l : Lexeme) (t : Token) (x : Operand) → word_of bytes l t ≡ Some (operand_word x) → t ≡ token.Not → ⊥
not_operand bytes l t x h e = go x (sym h ∙ ap (word_of bytes l) e)
  where
    go : (x : Operand) → Some (operand_word x) ≡ Some not_word → ⊥
    go (operand.Name n) h = cc
    go (operand.Int z) h = cc
    go (operand.Text t) h = cc
    go (operand.Bool b) h = cc

open_operand : (bytes : List ℕ) (l : Lexeme) (t : Token) (x : Operand) → word_of bytes l t ≡ Some (operand_word x) → t ≡ token.Open → ⊥
open_operand bytes l t x h e = go x (sym h ∙ ap (word_of bytes l) e)
  where
    go : (x : Operand) → Some (operand_word x) ≡ Some opening → ⊥
    go (operand.Name n) h = cc
    go (operand.Int z) h = cc
    go (operand.Text t) h = cc
    go (operand.Bool b) h = cc

-- behind a conjunction stands no AND, and behind a filter no OR either
abbrev pub ends : Token → Bool
ends token.Close = true
ends token.End = true
ends _ = false

no_and : (t : Token) → is_or t ≡ true → is_and t ≡ false
no_and token.Or h = refl
no_and _ h = cc

end_no_and : (t : Token) → ends t ≡ true → is_and t ≡ false
end_no_and token.Close h = refl
end_no_and token.End h = refl
end_no_and _ h = cc

end_no_or : (t : Token) → ends t ≡ true → is_or t ≡ false
end_no_or token.Close h = refl
end_no_or token.End h = refl
end_no_or _ h = cc

end_stops : (t : Token) → ends t ≡ true → stops t ≡ true
end_stops token.Close h = refl
end_stops token.End h = refl
end_stops _ h = cc

and_stops : (bytes : List ℕ) (part : ℕ → Read Tree) (n : ℕ) (t : Tree) (at : ℕ) → is_and (lexeme bytes at).token ≡ false → and_more bytes part n t at ≡ Ok (t, at)
unfolding and_more
and_stops bytes part zero t at h = refl
and_stops bytes part (suc n) t at h = left (is_and (lexeme bytes at).token) _ _ _ h refl

or_stops : (bytes : List ℕ) (part : ℕ → Read Tree) (n : ℕ) (t : Tree) (at : ℕ) → is_or (lexeme bytes at).token ≡ false → or_more bytes part n t at ≡ Ok (t, at)
unfolding or_more
or_stops bytes part zero t at h = refl
or_stops bytes part (suc n) t at h = left (is_or (lexeme bytes at).token) _ _ _ h refl

-- What each production's reader does with its words. A factor is read whole. After a conjunction or a filter, its loop goes on with
-- what is left of its turns, of which no more than there are words were taken.
abbrev Whole : List ℕ → Production → ℕ → List Word → Tree → Type 0
Whole bytes factor levels ws t = (at to : ℕ) → at ≤ length bytes → stops (lexeme bytes to).token ≡ true → AreWords bytes at ws to → not_at bytes levels at ≡ Ok (t, to)
Whole bytes conjunction levels ws t =
    (at to n : ℕ) → at ≤ length bytes → stops (lexeme bytes to).token ≡ true → AreWords bytes at ws to → length ws ≤ n
    → (k : ℕ) × (n ≤ k + length ws) × ((not_at bytes levels at >>= λ r. and_more bytes (not_at bytes levels) n r.0 r.1) ≡ and_more bytes (not_at bytes levels) k t to)
Whole bytes filter levels ws t =
    (at to n : ℕ) → at ≤ length bytes → stops (lexeme bytes to).token ≡ true → is_and (lexeme bytes to).token ≡ false → AreWords bytes at ws to → length ws ≤ n
    → (k : ℕ) × (n ≤ k + length ws) × ((and_at bytes (not_at bytes levels) at >>= λ r. or_more bytes (not_at bytes levels) n r.0 r.1) ≡ or_more bytes (not_at bytes levels) k t to)

-- a whole conjunction, where no AND follows
conjunction_ends : (bytes : List ℕ) (levels : ℕ) (ws : List Word) (t : Tree) → Whole bytes conjunction levels ws t
    → (at to : ℕ) → at ≤ length bytes → stops (lexeme bytes to).token ≡ true → is_and (lexeme bytes to).token ≡ false → AreWords bytes at ws to → and_at bytes (not_at bytes levels) at ≡ Ok (t, to)
unfolding and_at
conjunction_ends bytes levels ws t w at to l s e h =
    let sized = words_sized bytes at to ws l h in
    let r = w at to (length bytes) l s h (omega (arith, sized.0, sized.1)) in
    r.2 ∙ and_stops bytes (not_at bytes levels) r.0 t to e

filter_ends : (bytes : List ℕ) (levels : ℕ) (ws : List Word) (t : Tree) → Whole bytes filter levels ws t
    → (at to : ℕ) → at ≤ length bytes → ends (lexeme bytes to).token ≡ true → AreWords bytes at ws to → or_at bytes (not_at bytes levels) at ≡ Ok (t, to)
unfolding or_at
filter_ends bytes levels ws t w at to l e h =
    let sized = words_sized bytes at to ws l h in
    let r = w at to (length bytes) l (end_stops (lexeme bytes to).token e) (end_no_and (lexeme bytes to).token e) h (omega (arith, sized.0, sized.1)) in
    r.2 ∙ or_stops bytes (not_at bytes levels) r.0 t to (end_no_or (lexeme bytes to).token e)

-- ---- one production each

test_factor : (bytes : List ℕ) (levels : ℕ) (t : Tree) → IsTest t → Whole bytes factor levels (test_words t) t
test_factor bytes levels t i = λ at to l s h.
    not_plain bytes levels at (lexeme bytes at) refl
    (not_operand bytes (lexeme bytes at) (lexeme bytes at).token (first_operand t) (first_is bytes at to t i h))
    (open_operand bytes (lexeme bytes at) (lexeme bytes at).token (first_operand t) (first_is bytes at to t i h))
    ∙ test_whole bytes at to t i l s h

not_factor : (bytes : List ℕ) (levels : ℕ) (ws : List Word) (t : Tree) → Whole bytes factor levels ws t → Whole bytes factor (suc levels) (not_word ∷ ws) (negation t)
unfolding not_at
not_factor bytes levels ws t w = λ at to l s h.
    let inside = words_sized bytes at (lexeme bytes at).to (not_word ∷ []) l (h.0, refl) in
    ap (λ k. nested bytes (not_at bytes levels) (lexeme bytes at) k (test_at bytes at)) (not_token bytes (lexeme bytes at) (lexeme bytes at).token h.0)
    ∙ then_ok (not_at bytes levels (lexeme bytes at).to) _ (t, to) _ (w (lexeme bytes at).to to inside.1 s h.1) refl

group_factor : (bytes : List ℕ) (levels : ℕ) (ws : List Word) (t : Tree) → Whole bytes filter levels ws t → Whole bytes factor (suc levels) (opening ∷ (ws ++ closing ∷ [])) t
unfolding not_at
group_factor bytes levels ws t w = λ at to l s h.
    let m : ℕ = (lexeme bytes at).to in
    let inside = words_sized bytes at m (opening ∷ []) l (h.0, refl) in
    let p : (n : ℕ) × AreWords bytes m ws n × AreWords bytes n (closing ∷ []) to = words_split bytes m to ws (closing ∷ []) h.1 in
    let closes : ends (lexeme bytes p.0).token ≡ true = ap ends (close_token bytes (lexeme bytes p.0) (lexeme bytes p.0).token p.2.0) in
    ap (λ k. nested bytes (not_at bytes levels) (lexeme bytes at) k (test_at bytes at)) (open_token bytes (lexeme bytes at) (lexeme bytes at).token h.0)
    ∙ then_ok (or_at bytes (not_at bytes levels) m) _ (t, p.0) _ (filter_ends bytes levels ws t w m p.0 inside.1 closes p.1)
    (then_ok (close_at bytes p.0) _ to _ (close_whole bytes p.0 to p.2) refl)

factor_alone : (bytes : List ℕ) (levels : ℕ) (ws : List Word) (t : Tree) → Whole bytes factor levels ws t → Whole bytes conjunction levels ws t
factor_alone bytes levels ws t w = λ at to n l s h few.
    (n, omega arith, then_ok (not_at bytes levels at) _ (t, to) _ (w at to l s h) refl)

with_and : (bytes : List ℕ) (levels : ℕ) (xs ys : List Word) (a b : Tree) → Whole bytes conjunction levels xs a → Whole bytes factor levels ys b → Whole bytes conjunction levels (xs ++ and_word ∷ ys) (both a b)
unfolding and_more
with_and bytes levels xs ys a b v w = λ at to n l s h few.
    let p : (m : ℕ) × AreWords bytes at xs m × AreWords bytes m (and_word ∷ ys) to = words_split bytes at to xs (and_word ∷ ys) h in
    let m : ℕ = p.0 in
    let is : (lexeme bytes m).token ≡ token.And = and_token bytes (lexeme bytes m) (lexeme bytes m).token p.2.0 in
    let long : length (xs ++ and_word ∷ ys) ≡ length xs + suc (length ys) = long_append xs (and_word ∷ ys) in
    let r = v at m n l (ap stops is) p.1 (omega (arith, few, long)) in
    let first = words_sized bytes at m xs l p.1 in
    let inside = words_sized bytes m (lexeme bytes m).to (and_word ∷ []) first.1 (p.2.0, refl) in
    goes at to r.0 n (omega (arith, r.1)) few long m is (w (lexeme bytes m).to to inside.1 s p.2.1) r.2
  where
    long_append : (xs ys : List Word) → length (xs ++ ys) ≡ length xs + length ys
    long_append [] ys = omega arith
    long_append (x ∷ xs) ys = omega (arith, long_append xs ys)

    goes : (at to j n : ℕ) → n ≤ j + length xs → length (xs ++ and_word ∷ ys) ≤ n → length (xs ++ and_word ∷ ys) ≡ length xs + suc (length ys) → (m : ℕ) → (lexeme bytes m).token ≡ token.And → not_at bytes levels (lexeme bytes m).to ≡ Ok (b, to)
        → (not_at bytes levels at >>= λ r. and_more bytes (not_at bytes levels) n r.0 r.1) ≡ and_more bytes (not_at bytes levels) j a m
        → (k : ℕ) × (n ≤ k + length (xs ++ and_word ∷ ys)) × ((not_at bytes levels at >>= λ r. and_more bytes (not_at bytes levels) n r.0 r.1) ≡ and_more bytes (not_at bytes levels) k (both a b) to)
    goes at to zero n j few long m is k e = absurd (omega (arith, j, few, long))
    goes at to (suc i) n j few long m is k e =
        (i, omega (arith, j, long), e ∙ taken (is_and (lexeme bytes m).token) _ _ _ (ap is_and is) (then_ok (not_at bytes levels (lexeme bytes m).to) _ (b, to) _ k refl))

conjunction_alone : (bytes : List ℕ) (levels : ℕ) (ws : List Word) (t : Tree) → Whole bytes conjunction levels ws t → Whole bytes filter levels ws t
conjunction_alone bytes levels ws t w = λ at to n l s e h few.
    (n, omega arith, then_ok (and_at bytes (not_at bytes levels) at) _ (t, to) _ (conjunction_ends bytes levels ws t w at to l s e h) refl)

with_or : (bytes : List ℕ) (levels : ℕ) (xs ys : List Word) (a b : Tree) → Whole bytes filter levels xs a → Whole bytes conjunction levels ys b → Whole bytes filter levels (xs ++ or_word ∷ ys) (either a b)
unfolding or_more
with_or bytes levels xs ys a b v w = λ at to n l s e h few.
    let p : (m : ℕ) × AreWords bytes at xs m × AreWords bytes m (or_word ∷ ys) to = words_split bytes at to xs (or_word ∷ ys) h in
    let m : ℕ = p.0 in
    let is : (lexeme bytes m).token ≡ token.Or = or_token bytes (lexeme bytes m) (lexeme bytes m).token p.2.0 in
    let long : length (xs ++ or_word ∷ ys) ≡ length xs + suc (length ys) = long_append xs (or_word ∷ ys) in
    let r = v at m n l (ap stops is) (ap is_and is) p.1 (omega (arith, few, long)) in
    let first = words_sized bytes at m xs l p.1 in
    let inside = words_sized bytes m (lexeme bytes m).to (or_word ∷ []) first.1 (p.2.0, refl) in
    goes at to r.0 n (omega (arith, r.1)) few long m is (conjunction_ends bytes levels ys b w (lexeme bytes m).to to inside.1 s e p.2.1) r.2
  where
    long_append : (xs ys : List Word) → length (xs ++ ys) ≡ length xs + length ys
    long_append [] ys = omega arith
    long_append (x ∷ xs) ys = omega (arith, long_append xs ys)

    goes : (at to j n : ℕ) → n ≤ j + length xs → length (xs ++ or_word ∷ ys) ≤ n → length (xs ++ or_word ∷ ys) ≡ length xs + suc (length ys) → (m : ℕ) → (lexeme bytes m).token ≡ token.Or → and_at bytes (not_at bytes levels) (lexeme bytes m).to ≡ Ok (b, to)
        → (and_at bytes (not_at bytes levels) at >>= λ r. or_more bytes (not_at bytes levels) n r.0 r.1) ≡ or_more bytes (not_at bytes levels) j a m
        → (k : ℕ) × (n ≤ k + length (xs ++ or_word ∷ ys)) × ((and_at bytes (not_at bytes levels) at >>= λ r. or_more bytes (not_at bytes levels) n r.0 r.1) ≡ or_more bytes (not_at bytes levels) k (either a b) to)
    goes at to zero n j few long m is k e = absurd (omega (arith, j, few, long))
    goes at to (suc i) n j few long m is k e =
        (i, omega (arith, j, long), e ∙ taken (is_or (lexeme bytes m).token) _ _ _ (ap is_or is) (then_ok (and_at bytes (not_at bytes levels) (lexeme bytes m).to) _ (b, to) _ k refl))

-- what words derive, their reader reads
whole : (bytes : List ℕ) (p : Production) (levels : ℕ) (ws : List Word) (t : Tree) → Derives p levels ws t → Whole bytes p levels ws t
whole bytes p levels ws t (one_test v u i) = test_factor bytes v u i
whole bytes p levels ws t (one_not v us u d) = not_factor bytes v us u (whole bytes factor v us u d)
whole bytes p levels ws t (one_group v us u d) = group_factor bytes v us u (whole bytes filter v us u d)
whole bytes p levels ws t (one_factor v us u d) = factor_alone bytes v us u (whole bytes factor v us u d)
whole bytes p levels ws t (joined_by_and v xs ys a b d e) = with_and bytes v xs ys a b (whole bytes conjunction v xs a d) (whole bytes factor v ys b e)
whole bytes p levels ws t (one_conjunction v us u d) = conjunction_alone bytes v us u (whole bytes conjunction v us u d)
whole bytes p levels ws t (joined_by_or v xs ys a b d e) = with_or bytes v xs ys a b (whole bytes filter v xs a d) (whole bytes conjunction v ys b e)

-- the words of a text that derive a filter are read as it
pub filter_whole : (bytes : List ℕ) (levels : ℕ) (ws : List Word) (t : Tree) (at to : ℕ) → Derives filter levels ws t → at ≤ length bytes → ends (lexeme bytes to).token ≡ true → AreWords bytes at ws to → or_at bytes (not_at bytes levels) at ≡ Ok (t, to)
filter_whole bytes levels ws t at to d l e h = filter_ends bytes levels ws t (whole bytes filter levels ws t d) at to l e h
