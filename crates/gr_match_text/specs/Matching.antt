-- Which filters match each event, and how that is printed
use Rattle.std.specs.Prelude.{ℕ, List, [], ◌∷◌, ◌++◌, map, get_or, codes}
use Rattle.std.specs.List.{filter, flat_map}
use Rattle.gr_event.specs.declared.event.Event.{Event}
use Rattle.gr_filter.specs.Tree.{Tree}
use Rattle.gr_filter.specs.Truth.{matches}
use Rattle.gr_out.specs.declared.fault.RunFault.{RunFault}
use Rattle.gr_out.specs.declared.fault.RunFault.TheVariants as run

-- a filter with its name
abbrev pub NamedFilter : Type 0
NamedFilter = List ℕ × Tree

abbrev pub filter_names : List NamedFilter → List (List ℕ)
filter_names filters = map (λ f. f.0) filters

abbrev pub filter_trees : List NamedFilter → List Tree
filter_trees filters = map (λ f. f.1) filters

-- the names of the filters at these places
abbrev pub names_at : List NamedFilter → List ℕ → List (List ℕ)
names_at filters places = map (λ p. get_or (filter_names filters) p []) places

-- the names of exactly the filters that match an event, in their order
abbrev pub matching_names : List NamedFilter → Event → List (List ℕ)
matching_names filters e = filter_names (filter (λ f. matches f.1 e) filters)

abbrev pub behind_space : List ℕ → List ℕ
behind_space name = codes " " ++ name

-- names with one space between two, or `-` where there is none
abbrev pub names_text : List (List ℕ) → List ℕ
names_text [] = codes "-"
names_text (name ∷ names) = name ++ flat_map behind_space names

-- the line of an event
unfoldable pub matched_line : List NamedFilter → Event → List ℕ
matched_line filters e = names_text (matching_names filters e) ++ codes "\n"

-- the lines of events, one for each
abbrev pub matched_text : List NamedFilter → List Event → List ℕ
matched_text filters events = flat_map (matched_line filters) events

-- why lines could not be put: want of memory, or a sink that failed
abbrev pub IsPutFault : RunFault → Type 0
IsPutFault run.Memory = Unit {0}
IsPutFault run.Write = Unit {0}
IsPutFault _ = ⊥
