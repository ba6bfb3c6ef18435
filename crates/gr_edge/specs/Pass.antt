-- What an edge passes, for the list of what the subscribers behind it want
use Rattle.std.specs.Prelude.{ℕ, Bool, true, false, ◌&&◌, List, Option, Some, None}
use Rattle.std.specs.List.{list_any}
use Rattle.std.specs.Coded.{Coded, code_by, coded_list, coded_option, coded×, coded_ℕ}
use Rattle.std.proofs.Common.{refl}
use Rattle.gr_event.specs.declared.event.Event.{Event}
use Rattle.gr_event.specs.Joins.{Joins, joined_below}
use Rattle.gr_filter.specs.Tree.{Tree}
use Rattle.gr_filter.specs.Truth.{matches}
use Rattle.gr_match.specs.Code.{tree_code}
use Rattle.gr_know.specs.declared.values.K.{K}
use Rattle.gr_know.specs.declared.values.K.TheVariants.{Q, S, D, F}

-- what one subscriber behind an edge wants: its filter, and its number where it is late
pub record Wanting : Type 0 where
  pub filter : Option Tree
  pub late : Option ℕ

-- a subscriber without a filter wants every event
abbrev pub wants : Option Tree → Event → Bool
wants None e = true
wants (Some f) e = matches f e

-- a late subscriber is in time past its join
abbrev pub is_in_time : Option ℕ → Joins → ℕ → Bool
is_in_time None js t = true
is_in_time (Some s) js t = joined_below js s t

-- some subscriber wants the event of a tick, where these are the joins
abbrev pub wanted : List Wanting → Joins → ℕ → Event → Bool
wanted ws js t e = list_any (λ w. wants w.filter e && is_in_time w.late js t) ws

-- what passes of a tick's value: an event that nobody wants becomes silence
abbrev pub pass : List Wanting → Joins → ℕ → K → K
pass ws js t Q = Q
pass ws js t S = S
pass ws js t F = F
pass ws js t (D e) = elim (wanted ws js t e) [ true ↦ D e | false ↦ S ]

-- how such lists are told apart, as the values of a type with a model have to be
abbrev pub wantings_code : Coded (List Wanting)
wantings_code = coded_list (code_by (Option Tree × Option ℕ) (coded× (coded_option tree_code) (coded_option coded_ℕ))
    (λ w. (w.filter, w.late)) (λ x. record { filter = x.0; late = x.1 }) (λ w. refl))
