-- Reading an event never ends at want of memory
use Rattle.std.proofs.Common.{ℕ, List, Bool, true, false, cond, length}
use Rattle.std.specs.Prelude.{ℤ, Result, Ok, Err, Option, Some, None, nat_lt, ◌||◌, ◌==◌}
use Rattle.serde_json.specs.Data.{Data, null, boolean, number, string, array, object, Members, no_members, member}
use Rattle.serde_json.specs.Find.{as_i64}
use Rattle.serde_json.specs.Events.{members_len}
use Rattle.gr_event.specs.declared.event.EventFault.{EventFault}
use Rattle.gr_event.specs.declared.event.EventFault.TheVariants as fault
use Rattle.gr_event.specs.declared.limits.TheConstants.{MAX_PAIRS, MAX_NAME, MAX_TEXT, MAX_EVENT_BYTES}
use Rattle.gr_event.specs.Event.{event_size}
use Rattle.gr_event.specs.Gives.{◌>>=◌}
use Rattle.gr_event.specs.Json.{integer_from, value_from, name_from, pair_from, pairs_from, short_event, event_from, event_of_read, json_read, event_text}

abbrev pub NotMemory : {A : Type 0} → Result A EventFault → Type 0
NotMemory (Err fault.Memory) = ⊥
NotMemory _ = Unit {0}

both : {A B : Type 0} (r : Result A EventFault) (f : A → Result B EventFault) → NotMemory r → ((x : A) → NotMemory (f x)) → NotMemory (r >>= f)
both (Ok x) f h k = k x
both (Err fault.Memory) f h k = h
both (Err fault.NotObject) f h k = tt
both (Err fault.BadName) f h k = tt
both (Err fault.BadValue) f h k = tt
both (Err fault.TooMany) f h k = tt
both (Err fault.TooLong) f h k = tt
both (Err (fault.Short at)) f h k = tt
both (Err (fault.BadKind at)) f h k = tt
both (Err (fault.NotSorted at)) f h k = tt
both (Err (fault.Trailing at)) f h k = tt
both (Err fault.NotJson) f h k = tt
both (Err (fault.BadText at)) f h k = tt
both (Err (fault.BadLength at)) f h k = tt

either : {A : Type 0} (b : Bool) (r s : Result A EventFault) → NotMemory r → NotMemory s → NotMemory (cond b r s)
either true r s h k = h
either false r s h k = k

integers : (n : Option ℤ) → NotMemory (integer_from n)
integers None = tt
integers (Some z) = tt

values : (d : Data) → NotMemory (value_from d)
values null = tt
values (boolean b) = tt
values (number n) = integers (as_i64 n)
values (string s) = either (nat_lt MAX_TEXT (length s)) _ _ tt tt
values (array ds) = tt
values (object ms) = tt

names : (k : List ℕ) → NotMemory (name_from k)
names k = either (length k == 0 || nat_lt MAX_NAME (length k)) _ _ tt tt

pairs : (ms : Members) → NotMemory (pairs_from ms)
unfolding pairs_from
pairs no_members = tt
pairs (member k d ms) =
    both (pair_from k d) _ (both (name_from k) _ (names k) (λ name. both (value_from d) _ (values d) (λ value. tt))) (λ pair. both (pairs_from ms) _ (pairs ms) (λ rest. tt))

events : (d : Data) → NotMemory (event_from d)
unfolding event_from
events null = tt
events (boolean b) = tt
events (number n) = tt
events (string s) = tt
events (array ds) = tt
events (object ms) = either (nat_lt MAX_PAIRS (members_len ms)) _ _ tt (both (pairs_from ms) short_event (pairs ms) (λ e. either (nat_lt MAX_EVENT_BYTES (event_size e)) _ _ tt tt))

read_events : (d : Option Data) → NotMemory (event_of_read d)
read_events None = tt
read_events (Some d) = events d

pub texts : (bytes : List ℕ) → NotMemory (event_text bytes)
unfolding event_text
texts bytes = read_events (json_read bytes)
