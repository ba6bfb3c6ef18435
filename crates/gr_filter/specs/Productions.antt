-- The grammar of filters, as one reads it: productions over words
use Rattle.std.specs.Prelude.{◌≡◌, ℕ, suc, ℤ, Bool, true, false, ◌≤◌, List, [], ◌∷◌, ◌++◌, length, flat_map, Option}
use Rattle.std.specs.Prelude.{Some, None}
use Rattle.gr_filter.specs.declared.node.Operand.{Operand}
use Rattle.gr_filter.specs.declared.parser.TheConstants.{LEVELS, MAX_FILTER_BYTES}
use Rattle.gr_filter.specs.declared.node.Operand.TheVariants as operand
use Rattle.gr_filter.specs.declared.node.Sign.{Sign}
use Rattle.gr_filter.specs.declared.token.Token.{Token}
use Rattle.gr_filter.specs.declared.token.Token.TheVariants as token
use Rattle.gr_filter.specs.declared.token.Lexeme.{Lexeme}
use Rattle.gr_filter.specs.Token.{lexeme}
use Rattle.gr_filter.specs.Grammar.{name_of, text_of}
use Rattle.gr_filter.specs.Tree.{Tree, alone, compare, between, one_of, like, is_null, negation, both, either}

-- A word of a filter: a token with what it stands for.
pub data Word : Type 0 where
  name_word : List ℕ → Word
  integer_word : ℤ → Word
  text_word : List ℕ → Word
  truth_word : Bool → Word
  and_word : Word
  or_word : Word
  not_word : Word
  between_word : Word
  in_word : Word
  like_word : Word
  is_word : Word
  null_word : Word
  sign_word : Sign → Word
  opening : Word
  closing : Word
  comma : Word

-- Tests: their words are read off the tree

-- operand = name | literal
abbrev pub operand_word : Operand → Word
operand_word (operand.Name n) = name_word n
operand_word (operand.Int z) = integer_word z
operand_word (operand.Text t) = text_word t
operand_word (operand.Bool b) = truth_word b

-- literal = integer | text | TRUE | FALSE
abbrev pub IsLiteral : Operand → Type 0
IsLiteral (operand.Name n) = ⊥
IsLiteral _ = Unit {0}

-- a name, TRUE or FALSE stands without a tail
abbrev pub StandsAlone : Operand → Type 0
StandsAlone (operand.Name n) = Unit {0}
StandsAlone (operand.Bool b) = Unit {0}
StandsAlone _ = ⊥

abbrev pub AreAllLiterals : List Operand → Type 0
AreAllLiterals [] = Unit {0}
AreAllLiterals (x ∷ xs) = IsLiteral x × AreAllLiterals xs

-- at least one literal
abbrev pub AreLiterals : List Operand → Type 0
AreLiterals [] = ⊥
AreLiterals (x ∷ xs) = IsLiteral x × AreAllLiterals xs

-- [ NOT ]
abbrev pub not_words : Bool → List Word
not_words true = not_word ∷ []
not_words false = []

-- { "," literal }
abbrev pub more_words : List Operand → List Word
more_words [] = []
more_words (x ∷ xs) = comma ∷ (operand_word x ∷ more_words xs)

-- literal { "," literal }
abbrev pub literal_words : List Operand → List Word
literal_words [] = []
literal_words (x ∷ xs) = operand_word x ∷ more_words xs

-- operand, or operand sign operand, or operand [ NOT ] BETWEEN operand AND operand, or name [ NOT ] IN "(" literal {
-- "," literal } ")", or name [ NOT ] LIKE text, or name IS [ NOT ] NULL
abbrev pub test_words : Tree → List Word
test_words (alone x) = operand_word x ∷ []
test_words (compare x sign y) = operand_word x ∷ (sign_word sign ∷ (operand_word y ∷ []))
test_words (between negated x low high) = operand_word x ∷ (not_words negated
    ++ between_word ∷ (operand_word low ∷ (and_word ∷ (operand_word high ∷ []))))
test_words (one_of negated name xs) = name_word name ∷ (not_words negated
    ++ in_word ∷ (opening ∷ (literal_words xs ++ closing ∷ [])))
test_words (like negated name pattern) = name_word name ∷ (not_words negated ++ like_word ∷ (text_word pattern ∷ []))
test_words (is_null negated name) = name_word name ∷ (is_word ∷ (not_words negated ++ null_word ∷ []))
test_words _ = []

abbrev pub IsTest : Tree → Type 0
IsTest (alone x) = StandsAlone x
IsTest (compare x sign y) = Unit {0}
IsTest (between negated x low high) = Unit {0}
IsTest (one_of negated name xs) = AreLiterals xs
IsTest (like negated name pattern) = Unit {0}
IsTest (is_null negated name) = Unit {0}
IsTest _ = ⊥

-- The productions

-- or: conjunctions joined by OR; and: factors joined by AND; factor: NOT factor, "(" filter ")", or a test
pub data Production : Type 0 where
  filter : Production
  conjunction : Production
  factor : Production

-- These words derive the tree, where so many levels of NOT and parentheses may stand in one another. AND binds closer
-- than OR, and both group from the left.
pub data Derives : Production → ℕ → List Word → Tree → Type 0 where
  one_test : (levels : ℕ) (t : Tree) → IsTest t → Derives factor levels (test_words t) t
  one_not : (levels : ℕ) (ws : List Word) (t : Tree) → Derives factor levels ws t
      → Derives factor (suc levels) (not_word ∷ ws) (negation t)
  one_group : (levels : ℕ) (ws : List Word) (t : Tree) → Derives filter levels ws t
      → Derives factor (suc levels) (opening ∷ (ws ++ closing ∷ [])) t
  one_factor : (levels : ℕ) (ws : List Word) (t : Tree) → Derives factor levels ws t → Derives conjunction levels ws t
  joined_by_and : (levels : ℕ) (xs ys : List Word) (a b : Tree) → Derives conjunction levels xs a
      → Derives factor levels ys b → Derives conjunction levels (xs ++ and_word ∷ ys) (both a b)
  one_conjunction : (levels : ℕ) (ws : List Word) (t : Tree) → Derives conjunction levels ws t
      → Derives filter levels ws t
  joined_by_or : (levels : ℕ) (xs ys : List Word) (a b : Tree) → Derives filter levels xs a
      → Derives conjunction levels ys b → Derives filter levels (xs ++ or_word ∷ ys) (either a b)

-- The words of a text

-- what a token stands for; the end, what begins no token and an integer of more than 64 bits stand for nothing
abbrev pub word_of : List ℕ → Lexeme → Token → Option Word
word_of bytes l token.Name = Some (name_word (name_of bytes l))
word_of bytes l (token.Integer z) = Some (integer_word z)
word_of bytes l token.Text = Some (text_word (text_of bytes l))
word_of bytes l token.True = Some (truth_word true)
word_of bytes l token.False = Some (truth_word false)
word_of bytes l token.And = Some and_word
word_of bytes l token.Or = Some or_word
word_of bytes l token.Not = Some not_word
word_of bytes l token.Between = Some between_word
word_of bytes l token.In = Some in_word
word_of bytes l token.Like = Some like_word
word_of bytes l token.Is = Some is_word
word_of bytes l token.Null = Some null_word
word_of bytes l (token.Sign sign) = Some (sign_word sign)
word_of bytes l token.Open = Some opening
word_of bytes l token.Close = Some closing
word_of bytes l token.Comma = Some comma
word_of bytes l token.End = None
word_of bytes l token.Bad = None
word_of bytes l token.Wide = None

-- the word at a place
abbrev pub word_at : List ℕ → ℕ → Option Word
word_at bytes at = word_of bytes (lexeme bytes at) (lexeme bytes at).token

-- the words of a text from one place up to another
abbrev pub AreWords : List ℕ → ℕ → List Word → ℕ → Type 0
AreWords bytes at [] to = at ≡ to
AreWords bytes at (w ∷ ws) to = (word_at bytes at ≡ Some w) × AreWords bytes (lexeme bytes at).to ws to

-- The text has these words, and they derive the tree, with no more levels than there may be.
pub record IsFilterText (bytes : List ℕ) (t : Tree) : Type 0 where
  pub short : length bytes ≤ MAX_FILTER_BYTES
  pub words : List Word
  pub upto : ℕ
  pub are_words : AreWords bytes 0 words upto
  pub whole : (lexeme bytes upto).token ≡ token.End
  pub derives : Derives filter LEVELS words t
