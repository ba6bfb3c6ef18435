-- Which filters cover which others, and how that is printed
use Rattle.std.specs.Prelude.{ℕ, zero, suc, nat_eq, if◌then◌else◌, List, [], ◌++◌, length, codes, Option, Some, None}
use Rattle.std.specs.Fmt.{decimal}
use Rattle.std.specs.List.{slice_get}
use Rattle.gr_event.specs.Json.{json_text}
use Rattle.gr_cover.specs.declared.cover.Cover.{Cover}
use Rattle.gr_cover.specs.declared.cover.Cover.TheVariants.{Yes, No, Unknown}
use Rattle.gr_cover.specs.Answer.{answer}
use Rattle.gr_match_text.specs.Matching.{NamedFilter}

-- whether one covers the other: an event that tells them apart, or how many candidates there are
abbrev pub verdict_text : Cover → List ℕ
verdict_text Yes = codes "yes"
verdict_text (No e) = codes "no " ++ json_text e
verdict_text (Unknown parts) = codes "unknown " ++ decimal parts

-- the line of two filters
abbrev pub cover_line : NamedFilter → NamedFilter → List ℕ
cover_line wide narrow =
    wide.0
    ++ (codes " covers " ++ (narrow.0 ++ (codes " " ++ (verdict_text (answer wide.1 narrow.1) ++ codes "\n"))))

abbrev pub line_of_both : Option NamedFilter → Option NamedFilter → List ℕ
line_of_both (Some wide) (Some narrow) = cover_line wide narrow
line_of_both _ _ = []

-- the line of the filters at two places: none where these are the same
unfoldable pub pair_line : List NamedFilter → ℕ → ℕ → List ℕ
pair_line filters i j = if nat_eq i j then [] else line_of_both (slice_get filters i) (slice_get filters j)

-- what each number below n gives, in order
abbrev pub text_below : (ℕ → List ℕ) → ℕ → List ℕ
text_below text zero = []
text_below text (suc n) = text_below text n ++ text n

-- the lines of the filter at a place over all others, by their places
abbrev pub lines_of : List NamedFilter → ℕ → List ℕ
lines_of filters i = text_below (pair_line filters i) (length filters)

-- a line for each two different filters, by the place of the first and then of the second
abbrev pub covered_text : List NamedFilter → List ℕ
covered_text filters = text_below (lines_of filters) (length filters)
