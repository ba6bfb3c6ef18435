-- What a client offers is in the range of notes
use Rattle.std.proofs.Common.{◌≡◌, ◌≤◌, ◌-◌, ◌^◌, ℕ, length, Option, Some, None, subst, arith}
use Rattle.std.specs.Prelude.{option_map, slice_get}
use Rattle.gr_event.specs.declared.event.Event.{Event}
use Rattle.gr_note.specs.declared.note.Note.{Note}
use Rattle.gr_note.specs.declared.note.Note.TheVariants as note
use Rattle.gr_note.specs.Limits.{IsInRange}
use Rattle.gr_client.specs.declared.client.Progress.{Progress}
use Rattle.gr_client.specs.declared.client.Progress.TheVariants.{Running, Done, Spent, Ahead}
use Rattle.gr_client.specs.Client.{ClientView, IsAmong, offered}

submit_in_range : (p next m : ℕ) (o : Option Event) (n : Note) → m ≤ 2 ^ 62 → IsAmong m (Running next) → option_map (note.Submit p next) o ≡ Some n → IsInRange n
submit_in_range p next m None n few among h = cc
submit_in_range p next m (Some e) n few among h =
    let same : note.Submit p next e ≡ n = cc in subst IsInRange same (among.0, omega (arith, among.1, few))

offered_at : (c : ClientView) (at : Progress) (n : Note) → length c.events ≤ 2 ^ 62 → IsAmong (length c.events) at
    → (elim at [ Running next ↦ option_map (note.Submit c.publisher next) (slice_get c.events (next - 1)) | _ ↦ None ]) ≡ Some n → IsInRange n
offered_at c (Running next) n few among h = submit_in_range c.publisher next (length c.events) (slice_get c.events (next - 1)) n few among h
offered_at c Done n few among h = cc
offered_at c Spent n few among h = cc
offered_at c (Ahead next) n few among h = cc

pub offer_in_range : (c : ClientView) (n : Note) → length c.events ≤ 2 ^ 62 → IsAmong (length c.events) c.progress → offered c ≡ Some n → IsInRange n
unfolding offered
offer_in_range c n few among h = offered_at c c.progress n few among h
