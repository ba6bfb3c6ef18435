-- A post in memory: what its script gives, and what it is after each call
use Rattle.std.specs.Prelude.{◌≡◌, ◌≤◌, ◌-◌, ◌++◌, ℕ, Bool, true, false, nat_eq, if◌then◌else◌, List, [], ◌∷◌, length}
use Rattle.std.specs.Prelude.{take, drop, map, Option, Some, None, slice_get}
use Rattle.gr_out.specs.declared.mem_post.Cue.{Cue}
use Rattle.gr_out.specs.declared.mem_post.Cue.TheVariants as cue
use Rattle.gr_out.specs.declared.mem_post.Offer.{Offer}
use Rattle.gr_out.specs.Entry.{Entry, bound, offered, datagram, quiet, failed, closed}
use Rattle.gr_out.specs.Journal.{hosted, offers, is_among}
use Rattle.gr_out.specs.Streams.{counted, is_listed}

-- What the script holds, in order.
pub data Scripted : Type 0 where
  pass : ℕ → ℕ → Scripted  -- the bytes of an offer by its number, to the broker that it went to, at a moment
  raw : ℕ → List ℕ → ℕ → Scripted  -- to a broker, these bytes, at a moment
  pause : ℕ → Scripted  -- nothing up to a moment
  fail : Scripted

-- A post in memory.
pub record PostView : Type 0 where
  -- what is to come
  pub script : List Scripted
  -- what came and went
  pub journal : List Entry
  -- the numbers of the offers and of the bindings that fail, each counted from 1
  pub failing_offers : List ℕ
  pub failing_bindings : List ℕ
  -- how many bindings there were
  pub bindings : ℕ
  -- how many bindings and arrivals failed, and how many offers
  pub faults : ℕ
  pub lost : ℕ

-- a post that was never called, with nothing in its script
abbrev pub post_of : List ℕ → List ℕ → PostView
post_of offers bindings = record {
  script = [];
  journal = [];
  failing_offers = offers;
  failing_bindings = bindings;
  bindings = 0;
  faults = 0;
  lost = 0;
}

-- with one more in its script
abbrev pub with_scripted : Scripted → PostView → PostView
with_scripted s p = record {
  script = p.script ++ s ∷ [];
  journal = p.journal;
  failing_offers = p.failing_offers;
  failing_bindings = p.failing_bindings;
  bindings = p.bindings;
  faults = p.faults;
  lost = p.lost;
}

-- What comes next

-- an offer by its number, counted from 1
abbrev pub nth_offer : List (ℕ × List ℕ) → ℕ → Option (ℕ × List ℕ)
nth_offer made n = if nat_eq n 0 then None else slice_get made (n - 1)

-- what comes of bytes to a broker: nothing where there are none, or where the broker is not hosted
abbrev pub came : ℕ → List ℕ → ℕ → Option (ℕ × List ℕ) → Entry
came size brokers moment None = quiet moment
came size brokers moment (Some sent) =
    if is_among brokers sent.0 then datagram sent.0 (take size sent.1) moment else quiet moment

abbrev pub scripted_entry : ℕ → List ℕ → List (ℕ × List ℕ) → Scripted → Entry
scripted_entry size brokers made (pass n moment) = came size brokers moment (nth_offer made n)
scripted_entry size brokers made (raw broker bytes moment) = came size brokers moment (Some (broker, bytes))
scripted_entry size brokers made (pause moment) = quiet moment
scripted_entry size brokers made fail = failed

-- the entry that the next arrival makes, into a piece of this size; after the script it is the end
abbrev pub next_entry : ℕ → List ℕ → List (ℕ × List ℕ) → List Scripted → Entry
next_entry size brokers made [] = closed
next_entry size brokers made (s ∷ _) = scripted_entry size brokers made s

-- the same of a post
abbrev pub next_of : ℕ → PostView → Entry
next_of size p = next_entry size (hosted p.journal) (offers p.journal) p.script

abbrev pub is_failed : Entry → Bool
is_failed failed = true
is_failed _ = false

-- the next binding, and the next offer, is to fail
abbrev pub binding_fails : PostView → Bool
binding_fails p = is_listed p.failing_bindings p.bindings

abbrev pub offer_fails : PostView → Bool
offer_fails p = is_listed p.failing_offers (length (offers p.journal))

-- A post after each call

abbrev pub after_next : ℕ → PostView → PostView
after_next size p = record {
  script = drop 1 p.script;
  journal = p.journal ++ next_of size p ∷ [];
  failing_offers = p.failing_offers;
  failing_bindings = p.failing_bindings;
  bindings = p.bindings;
  faults = if is_failed (next_of size p) then counted p.faults else p.faults;
  lost = p.lost;
}

abbrev pub after_bind : ℕ → List ℕ → Bool → PostView → PostView
after_bind broker address here p = record {
  script = p.script;
  journal = p.journal ++ (if binding_fails p then failed else bound broker address here) ∷ [];
  failing_offers = p.failing_offers;
  failing_bindings = p.failing_bindings;
  bindings = counted p.bindings;
  faults = if binding_fails p then counted p.faults else p.faults;
  lost = p.lost;
}

abbrev pub after_offer : ℕ → ℕ → List ℕ → PostView → PostView
after_offer from to bytes p = record {
  script = p.script;
  journal = p.journal ++ offered from to bytes ∷ [];
  failing_offers = p.failing_offers;
  failing_bindings = p.failing_bindings;
  bindings = p.bindings;
  faults = p.faults;
  lost = if offer_fails p then counted p.lost else p.lost;
}

-- What the code keeps

abbrev pub scripted_of : Cue → Scripted
scripted_of (cue.Pass n moment) = pass n moment
scripted_of (cue.Raw broker bytes moment) = raw broker bytes.items moment
scripted_of (cue.Quiet moment) = pause moment
scripted_of cue.Fail = fail

abbrev pub offer_of : Offer → ℕ × List ℕ
offer_of o = (o.to, o.bytes.items)

-- the hosted brokers and the offers are those of the journal, and the script's place is within it
pub record IsPost (brokers : List ℕ) (made : List Offer) (at count : ℕ) (journal : List Entry) : Type 0 where
  pub brokers_are : brokers ≡ hosted journal
  pub offers_are : map offer_of made ≡ offers journal
  pub within : at ≤ count
