-- A text is read as a filter exactly where its words derive it: what is read derives, and what derives is read
use Rattle.std.proofs.Common.{◌≡◌, ◌↔◌, ℕ, ◌≤◌, Bool, true, false, nat_lt, if◌then◌else◌, List, length, Result, Ok, Err, refl, ap, arith}
use Rattle.std.proofs.lemmas.Bool.{le-ltb, ltb-false}
use Rattle.gr_filter.specs.declared.fault.FilterFault.{FilterFault}
use Rattle.gr_filter.specs.declared.token.Token.{Token}
use Rattle.gr_filter.specs.declared.token.Token.TheVariants as token
use Rattle.gr_filter.specs.Token.{lexeme}
use Rattle.gr_filter.specs.Grammar.{◌>>=◌, is_end, or_at, not_at, ended, filter_text}
use Rattle.gr_filter.specs.Tree.{Tree}
use Rattle.gr_filter.specs.Productions.{Production, filter, IsFilterText}
use Rattle.gr_filter.proofs.Deriving.{Gives, gives_ok, gives_err, next, either_way, Derived, filter_read}
use Rattle.gr_filter.proofs.Reading.{then_ok, taken, left, ends, filter_whole}

end_is : (t : Token) → is_end t ≡ true → t ≡ token.End
end_is token.End h = refl
end_is _ h = cc

ended_gives : (bytes : List ℕ) (r : Tree × ℕ) → length bytes ≤ 4096 → Derived bytes filter 64 0 r → Gives (IsFilterText bytes) (ended bytes r)
ended_gives bytes r short d =
    either_way (IsFilterText bytes) (is_end (lexeme bytes r.1).token) _ _
    (λ h. gives_ok (IsFilterText bytes) r.0 (record { short = short; words = d.0; upto = r.1; are_words = d.1; whole = end_is _ h; derives = d.2 }))
    (λ h. gives_err _ _)

filter_gives : (bytes : List ℕ) → Gives (IsFilterText bytes) (filter_text bytes)
unfolding filter_text
filter_gives bytes =
    either_way (IsFilterText bytes) (nat_lt 4096 (length bytes)) _ _
    (λ h. gives_err _ _)
    (λ h. next (Derived bytes filter 64 0) (IsFilterText bytes) (or_at bytes (not_at bytes 64) 0) _ (filter_read bytes 64 0) (λ r d. ended_gives bytes r (ltb-false 4096 (length bytes) h) d))

filter_given : (bytes : List ℕ) (t : Tree) → IsFilterText bytes t → filter_text bytes ≡ Ok t
unfolding filter_text
filter_given bytes t f =
    left (nat_lt 4096 (length bytes)) _ _ _ (le-ltb 4096 (length bytes) f.short)
    (then_ok (or_at bytes (not_at bytes 64) 0) _ (t, f.upto) _ (filter_whole bytes 64 f.words t 0 f.upto f.derives (omega arith) (ap ends f.whole) f.are_words)
    (taken (is_end (lexeme bytes f.upto).token) _ _ _ (ap is_end f.whole) refl))

pub exact : (bytes : List ℕ) (t : Tree) → (filter_text bytes ≡ Ok t) ↔ IsFilterText bytes t
exact bytes t = ((filter_gives bytes).it t, filter_given bytes t)
