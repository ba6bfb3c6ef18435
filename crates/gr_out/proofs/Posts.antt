-- What a post in memory is after its next arrival: its script is one shorter, and the entry that the script gave stands last.
use Rattle.std.proofs.Common.{◌≡◌, ⊎_elim, ℕ, ◌+◌, min, Bool, true, false, if◌then◌else◌, is_err, List, [], ◌∷◌, ◌++◌, length, drop, map, Result, Ok, Err, refl, ap, sym, ◌∙◌, arith}
use Rattle.std.proofs.lemmas.Bool.{cases_lt}
use Rattle.std.proofs.lemmas.List.{drop_all, drop-drop, append-nil}
use Rattle.std.proofs.lemmas.Grind.{flat_map-append}
use Rattle.gr_out.specs.declared.mem_post.Cue.{Cue}
use Rattle.gr_out.specs.declared.post.Arrival.{Arrival}
use Rattle.gr_out.specs.declared.post.Arrival.TheVariants as arrival
use Rattle.gr_out.specs.declared.post.PostFault.{PostFault}
use Rattle.gr_out.specs.declared.post.PostFault.TheVariants as fault
use Rattle.gr_out.specs.Entry.{Entry}
use Rattle.gr_out.specs.Journal.{next_entries, bind_entries, offer_entries, hosted, hosted_in, offers, offer_in}
use Rattle.gr_out.specs.Streams.{counted}
use Rattle.gr_out.specs.declared.mem_post.Offer.{Offer}
use Rattle.gr_out.specs.Script.{Scripted, PostView, is_failed, next_of, after_next, scripted_of, offer_of, IsPost}

drop_min : {A : Type 0} (n : ℕ) (xs : List A) → drop (min n (length xs)) xs ≡ drop n xs
drop_min n xs =
    ⊎_elim
    (λ beyond. drop_all (min n (length xs)) xs (omega (arith, beyond)) ∙ sym (drop_all n xs (omega (arith, beyond))))
    (λ within. ap (λ (k : ℕ). drop k xs) (omega (arith, within)))
    (cases_lt (length xs) n)

rest_mapped : (cs : List Cue) → map scripted_of (drop 1 cs) ≡ drop 1 (map scripted_of cs)
rest_mapped [] = refl
rest_mapped (c ∷ cs) = refl

-- the script one place on
pub one_on : (cs : List Cue) (at next : ℕ) → next ≡ min (at + 1) (length cs) → map scripted_of (drop next cs) ≡ drop 1 (map scripted_of (drop at cs))
one_on cs at next e =
    ap (λ (k : ℕ). map scripted_of (drop k cs)) e ∙ ap (map scripted_of) (drop_min (at + 1) cs ∙ sym (drop-drop 1 at cs)) ∙ rest_mapped (drop at cs)

abbrev first_failed : List Entry → Bool
first_failed [] = false
first_failed (e ∷ es) = is_failed e

-- a call fails exactly where its entry is a failure
pub fails_as_entry : (piece : List ℕ) (r : Result Arrival PostFault) (e : Entry) → next_entries piece r ≡ e ∷ [] → is_err r ≡ is_failed e
fails_as_entry piece (Ok (arrival.Datagram at len moment)) e h = ap first_failed h
fails_as_entry piece (Ok (arrival.Quiet moment)) e h = ap first_failed h
fails_as_entry piece (Ok arrival.Closed) e h = ap first_failed h
fails_as_entry piece (Err fault.Failed) e h = ap first_failed h
fails_as_entry piece (Err fault.Memory) e h = absurd (cc h)

abbrev with_parts : PostView → List Scripted → List Entry → ℕ → PostView
with_parts p script journal faults = record { script = script; journal = journal; failing_offers = p.failing_offers; failing_bindings = p.failing_bindings; bindings = p.bindings; faults = faults; lost = p.lost }

-- a post with its parts as they are after the next arrival
pub arrived : (size : ℕ) (p : PostView) (script : List Scripted) (journal : List Entry) (faults : ℕ) → script ≡ drop 1 p.script
    → journal ≡ p.journal ++ next_of size p ∷ [] → faults ≡ (if is_failed (next_of size p) then counted p.faults else p.faults)
    → ◌≡◌ {A = PostView} (record { script = script; journal = journal; failing_offers = p.failing_offers; failing_bindings = p.failing_bindings; bindings = p.bindings; faults = faults; lost = p.lost }) (after_next size p)
arrived size p script journal faults es ej ef =
    ap (λ (s : List Scripted). with_parts p s journal faults) es
    ∙ ap (λ (j : List Entry). with_parts p (drop 1 p.script) j faults) ej
    ∙ ap (λ (n : ℕ). with_parts p (drop 1 p.script) (p.journal ++ next_of size p ∷ []) n) ef

-- What one more binding, and one more offer, adds to what a journal tells

abbrev bound_answer : Bool → Result (Unit {0}) PostFault
bound_answer fails = if fails then Err fault.Failed else Ok tt

host_one : (broker : ℕ) (address : List ℕ) (here fails : Bool) → hosted (bind_entries broker address here (bound_answer fails)) ≡ (if fails then [] else (if here then broker ∷ [] else []))
host_one broker address true true = refl
host_one broker address true false = refl
host_one broker address false true = refl
host_one broker address false false = refl

offers_none : (broker : ℕ) (address : List ℕ) (here fails : Bool) → offers (bind_entries broker address here (bound_answer fails)) ≡ []
offers_none broker address true true = refl
offers_none broker address true false = refl
offers_none broker address false true = refl
offers_none broker address false false = refl

host_none : (from to : ℕ) (bytes : List ℕ) (fails : Bool) → hosted (offer_entries from to bytes (bound_answer fails)) ≡ []
host_none from to bytes true = refl
host_none from to bytes false = refl

offer_one : (from to : ℕ) (bytes : List ℕ) (fails : Bool) → offers (offer_entries from to bytes (bound_answer fails)) ≡ (to, bytes) ∷ []
offer_one from to bytes true = refl
offer_one from to bytes false = refl

-- what is kept of a post after one more binding
pub post_bound : (brokers brokers' : List ℕ) (made : List Offer) (at count : ℕ) (j j' : List Entry) (broker : ℕ) (address : List ℕ) (here fails : Bool) (answer : Result (Unit {0}) PostFault)
    → IsPost brokers made at count j → brokers' ≡ brokers ++ (if fails then [] else (if here then broker ∷ [] else [])) → answer ≡ bound_answer fails
    → j' ≡ j ++ bind_entries broker address here answer → IsPost brokers' made at count j'
post_bound brokers brokers' made at count j j' broker address here fails answer h eb ea ej =
    let es : j' ≡ j ++ bind_entries broker address here (bound_answer fails) = ej ∙ ap (λ (a : Result (Unit {0}) PostFault). j ++ bind_entries broker address here a) ea in
    record {
      brokers_are = eb ∙ ap (λ (bs : List ℕ). bs ++ (if fails then [] else (if here then broker ∷ [] else []))) h.brokers_are ∙ ap (λ (bs : List ℕ). hosted j ++ bs) (sym (host_one broker address here fails))
          ∙ sym (ap hosted es ∙ flat_map-append hosted_in j (bind_entries broker address here (bound_answer fails)));
      offers_are = h.offers_are ∙ sym (append-nil (offers j)) ∙ ap (λ (os : List (ℕ × List ℕ)). offers j ++ os) (sym (offers_none broker address here fails))
          ∙ sym (ap offers es ∙ flat_map-append offer_in j (bind_entries broker address here (bound_answer fails)));
      within = h.within;
    }

-- what is kept of a post after one more offer
pub post_offered : (brokers : List ℕ) (made made' : List Offer) (at count : ℕ) (j j' : List Entry) (from to : ℕ) (bytes : List ℕ) (fails : Bool) (answer : Result (Unit {0}) PostFault)
    → IsPost brokers made at count j → map offer_of made' ≡ map offer_of made ++ (to, bytes) ∷ [] → answer ≡ bound_answer fails
    → j' ≡ j ++ offer_entries from to bytes answer → IsPost brokers made' at count j'
post_offered brokers made made' at count j j' from to bytes fails answer h em ea ej =
    let es : j' ≡ j ++ offer_entries from to bytes (bound_answer fails) = ej ∙ ap (λ (a : Result (Unit {0}) PostFault). j ++ offer_entries from to bytes a) ea in
    record {
      brokers_are = h.brokers_are ∙ sym (append-nil (hosted j)) ∙ ap (λ (bs : List ℕ). hosted j ++ bs) (sym (host_none from to bytes fails))
          ∙ sym (ap hosted es ∙ flat_map-append hosted_in j (offer_entries from to bytes (bound_answer fails)));
      offers_are = em ∙ ap (λ (os : List (ℕ × List ℕ)). os ++ (to, bytes) ∷ []) h.offers_are ∙ ap (λ (os : List (ℕ × List ℕ)). offers j ++ os) (sym (offer_one from to bytes fails))
          ∙ sym (ap offers es ∙ flat_map-append offer_in j (offer_entries from to bytes (bound_answer fails)));
      within = h.within;
    }
