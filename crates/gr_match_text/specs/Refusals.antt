-- The lines that say why bytes are no match text
use Rattle.std.specs.Prelude.{ℕ, List, [], ◌++◌, codes}
use Rattle.std.specs.Fmt.{decimal}
use Rattle.gr_event.specs.Fault.{fault_word as event_word}
use Rattle.gr_filter.specs.Fault.{fault_word as filter_word, fault_place as filter_place}
use Rattle.gr_match_text.specs.declared.fault.MatchFault.{MatchFault}
use Rattle.gr_match_text.specs.declared.fault.MatchFault.TheVariants as fault

-- the line of a fault. The place is one in the filter's own text
abbrev pub match_line : MatchFault → List ℕ
match_line fault.Memory = []
match_line (fault.BadFilter line why) =
    codes "match 1 bad-filter line "
    ++ (decimal line ++ (codes " " ++ (filter_word why ++ (codes " " ++ decimal (filter_place why)))))
match_line (fault.BadEvent line why) =
    codes "match 2 bad-event line " ++ (decimal line ++ (codes " " ++ event_word why))
match_line (fault.TooMany line) = codes "match 3 too-many line " ++ decimal line
match_line (fault.BadName line) = codes "match 4 bad-name line " ++ decimal line
match_line (fault.Twice line) = codes "match 5 twice line " ++ decimal line
