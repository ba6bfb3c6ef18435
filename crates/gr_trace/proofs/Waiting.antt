-- Offers that wait, and are made one after another
use Rattle.std.proofs.Common.{◌≡◌, ℕ, ◌+◌, ◌<◌, List, [], ◌∷◌, ◌++◌, take, drop, get_or, length, sym, ap, ap₂, ◌∙◌, append_assoc}
use Rattle.std.proofs.lemmas.List.{map-append, take_more, take-append-drop}
use Rattle.gr_out.specs.Entry.{Entry, offered}
use Rattle.gr_node.specs.Went.{Begins}
use Rattle.gr_trace.specs.declared.offers.Offer.{Offer}
use Rattle.gr_trace.specs.Offered.{entry_of, entries_of}

-- one more
more_entries : (offers : List Offer) (i : ℕ) (o : Offer) → i < length offers → o ≡ get_or offers i o → entries_of (take (i + 1) offers) ≡ entries_of (take i offers) ++ entry_of o ∷ []
more_entries offers i o h e =
    ap entries_of (take_more offers i o h)
    ∙ (map-append entry_of (take i offers) (get_or offers i o ∷ [])
    ∙ ap (λ (x : Offer). entries_of (take i offers) ++ entry_of x ∷ []) (sym e))

pub made_more : (offers : List Offer) (i : ℕ) (o : Offer) (bytes : List ℕ) (old mid new : List Entry) → i < length offers → o ≡ get_or offers i o → bytes ≡ o.bytes
    → mid ≡ old ++ entries_of (take i offers) → new ≡ mid ++ offered o.from o.to bytes ∷ [] → new ≡ old ++ entries_of (take (i + 1) offers)
made_more offers i o bytes old mid new h e same before after =
    after
    ∙ (ap₂ (λ (xs : List Entry) (bs : List ℕ). xs ++ offered o.from o.to bs ∷ []) before same
    ∙ (append_assoc old (entries_of (take i offers)) (entry_of o ∷ []) ∙ ap (λ (xs : List Entry). old ++ xs) (sym (more_entries offers i o h e))))

-- those so far are the first of all
pub made_some : (offers : List Offer) (i : ℕ) (old mid new : List Entry) → mid ≡ old ++ entries_of (take i offers) → new ≡ mid → Begins old new (entries_of offers)
made_some offers i old mid new before same = record {
  part = entries_of (take i offers);
  rest = entries_of (drop i offers);
  whole = ap entries_of (sym (take-append-drop i offers)) ∙ map-append entry_of (take i offers) (drop i offers);
  are = same ∙ before;
}
