-- What each of two required arguments gives after a parse.
use Rattle.std.proofs.Common.{◌++◌, ◌||◌, ◌≡◌, ◌∙◌, ◌<◌, ◌≤◌, ap, ℕ, zero, suc, Bool, true, false, List, [], ◌∷◌, length, Some, refl, sym, subst, inl, inr, arith}
use Rattle.std.specs.List.{All, slice_index_or}
use Rattle.std.specs.Str.{bytes_eq}
use Rattle.std.specs.Prelude.{None}
use Rattle.std.proofs.lemmas.List.Elements.{All-nil}
use Rattle.clap.specs.Words.{args_of, groups_of, IsPlain, IsPlainArg, IsParsedFrom, AddsArg, one_text, found_of, read_as, reading_of, Accepts}
use Rattle.clap.specs.declared.builder.command.Command.TheViews.{out-Command}
use Rattle.clap.specs.Facts.{least_values}
use Rattle.clap.specs.Built.{IsAuto}
use Rattle.clap.proofs.CallerLemmas.{added_plain}
use Rattle.clap.proofs.CallerReads.{required_reads}
use Rattle.clap.specs.declared.builder.ArgAction.TheVariants.{Set}
use Rattle.clap.specs.declared.builder.arg.Arg.{Arg}
use Rattle.clap.specs.declared.builder.command.Command.{Command}
use Rattle.clap.specs.declared.builder.value_parser.ValueParser.{ValueParser}
use Rattle.clap.specs.declared.parser.matches.ArgMatches.{ArgMatches}

-- of two arguments with different ids the first alone has its id, and the second has
two_only : (xs : List Arg) (x y a : Arg) → xs ≡ x ∷ y ∷ [] → (bytes_eq y.id.now x.id.now ≡ true → ⊥) → (j : ℕ) (e : Arg) → j < length xs
    → bytes_eq (slice_index_or xs j e).id.now (slice_index_or xs 0 a).id.now ≡ true → j ≡ 0
two_only xs x y a list apart zero e lt same = refl
two_only xs x y a list apart (suc zero) e lt same = absurd (apart (subst (λ (l : List Arg). bytes_eq (slice_index_or l 1 e).id.now (slice_index_or l 0 a).id.now ≡ true) list same))
two_only xs x y a list apart (suc (suc j)) e lt same =
    let low : suc (suc j) < 2 = subst (λ (l : List Arg). suc (suc j) < length l) list lt in absurd (omega arith)

second_only : (xs : List Arg) (x y a : Arg) → xs ≡ x ∷ y ∷ [] → (bytes_eq x.id.now y.id.now ≡ true → ⊥) → (j : ℕ) (e : Arg) → j < length xs
    → bytes_eq (slice_index_or xs j e).id.now (slice_index_or xs 1 a).id.now ≡ true → j ≡ 1
second_only xs x y a list apart zero e lt same = absurd (apart (subst (λ (l : List Arg). bytes_eq (slice_index_or l 0 e).id.now (slice_index_or l 1 a).id.now ≡ true) list same))
second_only xs x y a list apart (suc zero) e lt same = refl
second_only xs x y a list apart (suc (suc j)) e lt same =
    let low : suc (suc j) < 2 = subst (λ (l : List Arg). suc (suc j) < length l) list lt in absurd (omega arith)

-- the first has a text that its reader takes
pub first_required_read : (start mid cmd : Command) (a b : Arg) (m : ArgMatches) → AddsArg start a mid → AddsArg mid b cmd
    → args_of start ≡ [] → groups_of start ≡ [] → (out-Command start).has_globals ≡ false → (out-Command start).subcommand_negates_reqs ≡ false
    → IsPlainArg a → IsPlainArg b → a.global ≡ false → b.global ≡ false → a.required ≡ true → a.action ≡ Some Set → a.val_delim ≡ None → 1 ≤ least_values a
    → (a.id.now ≡ [] → ⊥) → (IsAuto a → ⊥) → (bytes_eq b.id.now a.id.now ≡ true → ⊥) → (q : ValueParser) → a.value_parser ≡ Some q → IsParsedFrom cmd m
    → (t : List ℕ) × (one_text (found_of m) a.id.now ≡ Some (read_as (reading_of q) t)) × Accepts a.ignore_case q t
first_required_read start mid cmd a b m x y args groups globals negates plain_a plain_b global_a global_b required set delim least named own apart q parser p =
    let list : args_of cmd ≡ x.arg ∷ y.arg ∷ [] = y.args ∙ ap (λ l. l ++ y.arg ∷ []) (x.args ∙ ap (λ l. l ++ x.arg ∷ []) args) in
    let start-plain : IsPlain start = (subst (All IsPlainArg) (sym args) (All-nil IsPlainArg), groups) in
    let plain2 : IsPlain cmd = added_plain mid cmd b y (added_plain start mid a x start-plain plain_a) plain_b in
    let elem : slice_index_or (args_of cmd) 0 a ≡ x.arg = ap (λ l. slice_index_or l 0 a) list in
    let lt : 0 < length (args_of cmd) = subst (λ l. 0 < length l) (sym list) (omega arith) in
    let wanted : (slice_index_or (args_of cmd) 0 a).required ≡ true = ap (λ z. z.required) elem ∙ (x.rules.required ∙ required) in
    let mid-globals : (out-Command mid).has_globals ≡ false = x.globals ∙ (ap (λ c. c || a.global) globals ∙ ap (λ c. false || c) global_a) in
    let no-globals : (out-Command cmd).has_globals ≡ false = y.globals ∙ (ap (λ c. c || b.global) mid-globals ∙ ap (λ c. false || c) global_b) in
    let same-id : (slice_index_or (args_of cmd) 0 a).id ≡ a.id = ap (λ z. z.id) elem ∙ x.rules.id in
    let same-now : (slice_index_or (args_of cmd) 0 a).id.now ≡ a.id.now = ap (λ z. z.now) same-id in
    let is-set : (slice_index_or (args_of cmd) 0 a).action ≡ Some Set = ap (λ z. z.action) elem ∙ x.rules.action Set set in
    let no-delim : (slice_index_or (args_of cmd) 0 a).val_delim ≡ None = ap (λ z. z.val_delim) elem ∙ (x.rules.val_delim ∙ delim) in
    let some-value : 1 ≤ least_values (slice_index_or (args_of cmd) 0 a) = subst (λ z. 1 ≤ least_values z) (sym elem) (x.rules.least set least) in
    let same-parser : (slice_index_or (args_of cmd) 0 a).value_parser ≡ Some q = ap (λ z. z.value_parser) elem ∙ x.rules.parser q parser in
    let same-case : (slice_index_or (args_of cmd) 0 a).ignore_case ≡ a.ignore_case = ap (λ z. z.ignore_case) elem ∙ x.rules.ignore_case in
    let ids-apart : bytes_eq y.arg.id.now x.arg.id.now ≡ true → ⊥ = λ h. apart (rw (ap (λ z. z.now) y.rules.id, ap (λ z. z.now) x.rules.id) at h) in
    let got = required_reads cmd m p plain2 no-globals (y.negates ∙ (x.negates ∙ negates)) 0 a lt wanted is-set no-delim some-value
    (two_only (args_of cmd) x.arg y.arg a list ids-apart)
    (λ empty. named (sym same-now ∙ empty))
    (λ auto. own (elim auto [ inl h ↦ inl (sym same-now ∙ h) | inr h ↦ inr (sym same-now ∙ h) ]))
    q same-parser in (
      got.0,
      subst (λ (w : List ℕ). one_text (found_of m) w ≡ Some (read_as (reading_of q) got.0)) same-now got.1,
      subst (λ (c : Bool). Accepts c q got.0) same-case got.2,
    )

-- and so has the second
pub second_required_read : (start mid cmd : Command) (a b : Arg) (m : ArgMatches) → AddsArg start a mid → AddsArg mid b cmd
    → args_of start ≡ [] → groups_of start ≡ [] → (out-Command start).has_globals ≡ false → (out-Command start).subcommand_negates_reqs ≡ false
    → IsPlainArg a → IsPlainArg b → a.global ≡ false → b.global ≡ false → b.required ≡ true → b.action ≡ Some Set → b.val_delim ≡ None → 1 ≤ least_values b
    → (b.id.now ≡ [] → ⊥) → (IsAuto b → ⊥) → (bytes_eq a.id.now b.id.now ≡ true → ⊥) → (q : ValueParser) → b.value_parser ≡ Some q → IsParsedFrom cmd m
    → (t : List ℕ) × (one_text (found_of m) b.id.now ≡ Some (read_as (reading_of q) t)) × Accepts b.ignore_case q t
second_required_read start mid cmd a b m x y args groups globals negates plain_a plain_b global_a global_b required set delim least named own apart q parser p =
    let list : args_of cmd ≡ x.arg ∷ y.arg ∷ [] = y.args ∙ ap (λ l. l ++ y.arg ∷ []) (x.args ∙ ap (λ l. l ++ x.arg ∷ []) args) in
    let start-plain : IsPlain start = (subst (All IsPlainArg) (sym args) (All-nil IsPlainArg), groups) in
    let plain2 : IsPlain cmd = added_plain mid cmd b y (added_plain start mid a x start-plain plain_a) plain_b in
    let elem : slice_index_or (args_of cmd) 1 b ≡ y.arg = ap (λ l. slice_index_or l 1 b) list in
    let lt : 1 < length (args_of cmd) = subst (λ l. 1 < length l) (sym list) (omega arith) in
    let wanted : (slice_index_or (args_of cmd) 1 b).required ≡ true = ap (λ z. z.required) elem ∙ (y.rules.required ∙ required) in
    let mid-globals : (out-Command mid).has_globals ≡ false = x.globals ∙ (ap (λ c. c || a.global) globals ∙ ap (λ c. false || c) global_a) in
    let no-globals : (out-Command cmd).has_globals ≡ false = y.globals ∙ (ap (λ c. c || b.global) mid-globals ∙ ap (λ c. false || c) global_b) in
    let same-id : (slice_index_or (args_of cmd) 1 b).id ≡ b.id = ap (λ z. z.id) elem ∙ y.rules.id in
    let same-now : (slice_index_or (args_of cmd) 1 b).id.now ≡ b.id.now = ap (λ z. z.now) same-id in
    let is-set : (slice_index_or (args_of cmd) 1 b).action ≡ Some Set = ap (λ z. z.action) elem ∙ y.rules.action Set set in
    let no-delim : (slice_index_or (args_of cmd) 1 b).val_delim ≡ None = ap (λ z. z.val_delim) elem ∙ (y.rules.val_delim ∙ delim) in
    let some-value : 1 ≤ least_values (slice_index_or (args_of cmd) 1 b) = subst (λ z. 1 ≤ least_values z) (sym elem) (y.rules.least set least) in
    let same-parser : (slice_index_or (args_of cmd) 1 b).value_parser ≡ Some q = ap (λ z. z.value_parser) elem ∙ y.rules.parser q parser in
    let same-case : (slice_index_or (args_of cmd) 1 b).ignore_case ≡ b.ignore_case = ap (λ z. z.ignore_case) elem ∙ y.rules.ignore_case in
    let ids-apart : bytes_eq x.arg.id.now y.arg.id.now ≡ true → ⊥ = λ h. apart (rw (ap (λ z. z.now) x.rules.id, ap (λ z. z.now) y.rules.id) at h) in
    let got = required_reads cmd m p plain2 no-globals (y.negates ∙ (x.negates ∙ negates)) 1 b lt wanted is-set no-delim some-value
    (second_only (args_of cmd) x.arg y.arg b list ids-apart)
    (λ empty. named (sym same-now ∙ empty))
    (λ auto. own (elim auto [ inl h ↦ inl (sym same-now ∙ h) | inr h ↦ inr (sym same-now ∙ h) ]))
    q same-parser in (
      got.0,
      subst (λ (w : List ℕ). one_text (found_of m) w ≡ Some (read_as (reading_of q) got.0)) same-now got.1,
      subst (λ (c : Bool). Accepts c q got.0) same-case got.2,
    )
