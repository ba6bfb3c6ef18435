-- The events behind a cut, learned one after another, and the silence up to what is settled are what the log says
use Rattle.std.proofs.Common.{◌≡◌, ◌⊎◌, inl, inr, ℕ, suc, ◌+◌, ◌-◌, ◌^◌, ◌≤◌, ◌<◌, Bool, true, false, ◌&&◌, List, [], ◌∷◌, ◌++◌, length, take, drop, get_or, refl, sym, ap, ap₂, ◌∙◌, subst, le_refl, arith}
use Rattle.std.specs.Prelude.{nat_le, if◌then◌else◌}
use Rattle.std.proofs.lemmas.Bool.{and_parts, cases_lt, le-leb, leb-true, ne_eqb}
use Rattle.std.proofs.lemmas.List.{take_more}
use Rattle.gr_tick.proofs.EditLemmas.{drop_read}
use Rattle.gr_event.specs.Event.{same_event}
use Rattle.gr_tick.specs.Stored.{within, RunsGive, EndBefore}
use Rattle.gr_know.specs.declared.values.K.TheVariants.{Q, S, D, F}
use Rattle.gr_know.specs.declared.values.K.{K}
use Rattle.gr_know.specs.Values.{Known, known_at, join_K}
use Rattle.gr_publog.specs.declared.record.Entry.{Entry}
use Rattle.gr_publog.specs.State.{EventsUpto, IsState}
use Rattle.gr_publog.specs.Views.{LogView}
use Rattle.gr_publog.proofs.Kept.{rise_from}
use Rattle.gr_pubend.specs.Log.{Log, with_event, with_mark, pairs, said, event_at, log_at, silence, Stays}
use Rattle.gr_pubend.specs.Opening.{last_tick, EntriesRise, seen}
use Rattle.gr_pubend.proofs.Knowing.{event_at-more, log_at-past, log_at-zero, log_at-in, within_in, within_below, within_above, up_to_event, join_Q, event_piece, at_event, at_mark}

pub pairs_more : (es : List Entry) (e : Entry) → pairs (es ++ e ∷ []) ≡ pairs es ++ (e.tick, e.event) ∷ []
pairs_more [] e = refl
pairs_more (x ∷ es) e = ap (λ ps. (x.tick, x.event) ∷ ps) (pairs_more es e)

pub last_more : (from : ℕ) (es : List Entry) (e : Entry) → last_tick from (es ++ e ∷ []) ≡ e.tick
last_more from [] e = refl
last_more from (x ∷ es) e = last_more x.tick es e

-- the entries up to a tick are behind the cut
pub record IsSeen (cut last : ℕ) (es : List Entry) : Type 0 where
  pub stays : Stays (seen cut es)
  pub at_last : last ≡ last_tick cut es

pub seen_none : (cut : ℕ) → cut ≤ 2 ^ 62 → IsSeen cut cut []
seen_none cut le = record { stays = record { within = le_refl cut; upto = le; none_past = λ t h. refl }; at_last = refl }

pub seen_more : (cut last : ℕ) (es : List Entry) (e : Entry) → IsSeen cut last es → last < e.tick → e.tick ≤ 2 ^ 62 → IsSeen cut e.tick (es ++ e ∷ [])
seen_more cut last es e h past le = record {
  stays = record {
    within = omega (arith, last_more cut es e, h.stays.within, h.at_last, past);
    upto = omega (arith, last_more cut es e, le);
    none_past = λ t p.
        ap (λ ps. event_at ps t) (pairs_more es e)
        ∙ event_at-more (pairs es) e.tick t e.event (λ q. omega (arith, p, q, last_more cut es e))
        ∙ h.stays.none_past t (omega (arith, p, last_more cut es e, h.at_last, past));
  };
  at_last = sym (last_more cut es e);
}

seen_says : (cut t : ℕ) (es : List Entry) (e : Entry) → log_at (with_event (seen cut es) e.tick e.event) t ≡ log_at (seen cut (es ++ e ∷ [])) t
seen_says cut t es e =
    ap₂ (λ s ps. if nat_le 1 t && nat_le t s then (if nat_le t cut then F else event_at ps t) else Q) (sym (last_more cut es e)) (sym (pairs_more es e))

-- Where nothing was known and gathered of a tick, what comes stands for itself.
gathered : (a b v : K) → join_K a b ≡ Q → join_K a v ≡ join_K (join_K a b) v
gathered Q b v h = ap (λ x. join_K x v) (sym h)
gathered S Q v h = cc
gathered S S v h = cc
gathered S (D e) v h = cc
gathered S F v h = cc
gathered (D a) Q v h = cc
gathered (D a) S v h = cc
gathered (D a) (D b) v h = by_test (same_event a b) h
  where
    by_test : (c : Bool) → (if c then D a else F) ≡ Q → join_K (D a) v ≡ join_K (if c then D a else F) v
    by_test true q = cc
    by_test false q = cc
gathered (D a) F v h = cc
gathered F b v h = cc

-- what is known with what is gathered, once an entry is put there too
pub seen_gathered : (cut last : ℕ) (es : List Entry) (e : Entry) (know piece more : Known) → IsSeen cut last es
    → ((t : ℕ) → join_K (known_at know t) (known_at piece t) ≡ log_at (seen cut es) t) → last < e.tick
    → ((t : ℕ) → known_at more t ≡ (if within (last + 1) (e.tick - 1) t then S else if within e.tick e.tick t then D e.event else known_at piece t))
    → (t : ℕ) → join_K (known_at know t) (known_at more t) ≡ log_at (seen cut (es ++ e ∷ [])) t
seen_gathered cut last es e know piece more h o past g t =
    ap (join_K (known_at know t)) (g t)
    ∙ by_place (within (last + 1) (e.tick - 1) t) (within e.tick e.tick t) refl refl
    ∙ ap (join_K (join_K (known_at know t) (known_at piece t))) (sym (event_piece (last + 1) e.tick t e.event))
    ∙ ap (λ k. join_K k (known_at (up_to_event (last + 1) e.tick e.event) t)) (o t)
    ∙ ap (λ n. join_K (log_at (seen cut es) t) (known_at (up_to_event n e.tick e.event) t)) begins
    ∙ at_event (seen cut es) h.stays e.tick t e.event later
    ∙ seen_says cut t es e
  where
    begins : last + 1 ≡ suc (seen cut es).settled
    begins = omega (arith, h.at_last)

    later : (seen cut es).settled < e.tick
    later = omega (arith, h.at_last, past)

    unknown : last < t → join_K (known_at know t) (known_at piece t) ≡ Q
    unknown after = o t ∙ log_at-past (seen cut es) t (omega (arith, h.at_last, after))

    by_place : (b c : Bool) → within (last + 1) (e.tick - 1) t ≡ b → within e.tick e.tick t ≡ c
        → join_K (known_at know t) (if b then S else if c then D e.event else known_at piece t)
        ≡ join_K (join_K (known_at know t) (known_at piece t)) (if b then S else if c then D e.event else Q)
    by_place true c p q =
        let from : last + 1 ≤ t = leb-true (last + 1) t (and_parts (nat_le (last + 1) t) (nat_le t (e.tick - 1)) p).0 in
        gathered (known_at know t) (known_at piece t) S (unknown (omega (arith, from)))
    by_place false true p q =
        let from : e.tick ≤ t = leb-true e.tick t (and_parts (nat_le e.tick t) (nat_le t e.tick) q).0 in
        gathered (known_at know t) (known_at piece t) (D e.event) (unknown (omega (arith, from, past)))
    by_place false false p q = sym (join_Q (join_K (known_at know t) (known_at piece t)))

-- what was gathered is learned, and nothing is gathered then
pub seen_learned : (know piece new : Known) (log : Log) → RunsGive Q new (λ t. join_K (known_at know t) (known_at piece t))
    → ((t : ℕ) → join_K (known_at know t) (known_at piece t) ≡ log_at log t) → RunsGive Q new (log_at log)
seen_learned know piece new log g says = record {
  canonical = g.canonical;
  in_range = g.in_range;
  values = λ t. g.values t ∙ says t;
}

pub nothing_gathered : (know none : Known) (log : Log) → none ≡ [] → RunsGive Q know (log_at log) → (t : ℕ) → join_K (known_at know t) (known_at none t) ≡ log_at log t
nothing_gathered know none log e g t = ap (λ p. join_K (known_at know t) (known_at p t)) e ∙ join_Q (known_at know t) ∙ g.values t

pub none_ends : (none : Known) (t : ℕ) → none ≡ [] → EndBefore none t
none_ends none t e = subst (λ (p : Known). EndBefore p t) (sym e) tt

pub last_up : (from : ℕ) (es : List Entry) → EntriesRise from es → from ≤ last_tick from es
last_up from [] r = le_refl from
last_up from (e ∷ es) r = omega (arith, r.0, last_up e.tick es r.1)

none_past_last : (from t : ℕ) (es : List Entry) → EntriesRise from es → last_tick from es < t → event_at (pairs es) t ≡ S
none_past_last from t [] r h = refl
none_past_last from t (e ∷ es) r h =
    ap (λ b. if b then D e.event else event_at (pairs es) t) (ne_eqb e.tick t (λ z. omega (arith, z, h, last_up e.tick es r.1))) ∙ none_past_last e.tick t es r.1 h

pub seen_all : (cut : ℕ) (es : List Entry) → EntriesRise cut es → last_tick cut es ≤ 2 ^ 62 → Stays (seen cut es)
seen_all cut es r le = record { within = last_up cut es r; upto = le; none_past = λ t h. none_past_last cut t es r h }

-- the next entry
pub record IsNext (last cut i : ℕ) (es : List Entry) (e : Entry) : Type 0 where
  pub past : last < e.tick
  pub rise : EntriesRise e.tick (drop (i + 1) es)
  pub whole : last_tick e.tick (drop (i + 1) es) ≡ last_tick cut es
  pub within : e.tick ≤ last_tick cut es
  pub taken : take (i + 1) es ≡ take i es ++ e ∷ []

pub next_entry : (last cut i : ℕ) (es : List Entry) (e : Entry) → i < length es → e ≡ get_or es i e → EntriesRise last (drop i es) → last_tick last (drop i es) ≡ last_tick cut es → IsNext last cut i es e
next_entry last cut i es e lt is r w =
    let d : drop i es ≡ e ∷ drop (i + 1) es = drop_read es i e lt is in
    let k : EntriesRise last (e ∷ drop (i + 1) es) = subst (EntriesRise last) d r in
    let v : last_tick e.tick (drop (i + 1) es) ≡ last_tick cut es = sym (ap (last_tick last) d) ∙ w in
    record {
      past = k.0;
      rise = k.1;
      whole = v;
      within = omega (arith, v, last_up e.tick (drop (i + 1) es) k.1);
      taken = take_more es i e lt ∙ ap (λ x. take i es ++ x ∷ []) (sym is);
    }

-- The cut

-- all up to the cut is final, and nothing else is known
pub cut_seen : (cut : ℕ) (none new : Known) → none ≡ [] → RunsGive Q new (λ t. if within 1 cut t then F else known_at none t) → RunsGive Q new (log_at (seen cut []))
cut_seen cut none new e g = record { canonical = g.canonical; in_range = g.in_range; values = λ t. g.values t ∙ ap (λ k. if within 1 cut t then F else known_at k t) e ∙ by_place t (cases_lt t 1) (cases_lt cut t) }
  where
    by_place : (t : ℕ) → (t < 1) ⊎ (1 ≤ t) → (cut < t) ⊎ (t ≤ cut) → (if within 1 cut t then F else Q) ≡ log_at (seen cut []) t
    by_place t (inl a) b = ap (λ x. if x then F else Q) (within_below 1 cut t a) ∙ sym (log_at-zero (seen cut []) t a)
    by_place t (inr a) (inl b) = ap (λ x. if x then F else Q) (within_above 1 cut t b) ∙ sym (log_at-past (seen cut []) t b)
    by_place t (inr a) (inr b) =
        ap (λ x. if x then F else Q) (within_in 1 cut t a b) ∙ sym (log_at-in (seen cut []) t a b ∙ ap (λ x. if x then F else S) (le-leb t cut b))

-- The whole log

-- none of the events is past what is settled
last_within : (from top : ℕ) (es : List Entry) → from ≤ top → EventsUpto top es → last_tick from es ≤ top
last_within from top [] le u = le
last_within from top (e ∷ es) le u = last_within e.tick top es u.0 u.1

-- What is needed of a log that is read.
pub record IsOpened (l : LogView) : Type 0 where
  pub rise : EntriesRise l.state.cut l.state.events
  pub last_within : last_tick l.state.cut l.state.events ≤ l.state.settled
  pub settled_upto : l.state.settled ≤ 2 ^ 62
  pub cut_upto : l.state.cut ≤ 2 ^ 62

pub opened : (l : LogView) → IsState l.state → IsOpened l
opened l i = record {
  rise = rise_from l.state.cut (l.state.last - length l.state.events) l.state.events i.rise;
  last_within = last_within l.state.cut l.state.settled l.state.events i.cut i.upto;
  settled_upto = i.settled;
  cut_upto = omega (arith, i.cut, i.settled);
}

-- its events behind its cut, and the silence up to what is settled, are what is said of it
pub whole_known : (l : LogView) (cut last settled : ℕ) (es : List Entry) (old new : Known) → IsOpened l → cut ≡ l.state.cut → settled ≡ l.state.settled → es ≡ l.state.events → last ≡ last_tick cut es
    → RunsGive Q old (log_at (seen cut es)) → RunsGive Q new (λ t. join_K (known_at old t) (known_at (silence (last + 1) settled []) t)) → RunsGive Q new (log_at (said l))
whole_known l cut last settled es old new w ec es_is ee el o g =
    let at : last_tick cut es ≡ last_tick l.state.cut l.state.events = ap₂ last_tick ec ee in
    let h : Stays (seen cut es) = seen_all cut es (subst (λ n. EntriesRise n es) (sym ec) (subst (EntriesRise l.state.cut) (sym ee) w.rise)) (omega (arith, at, w.last_within, w.settled_upto)) in
    let begins : last + 1 ≡ suc (seen cut es).settled = omega (arith, el) in
    let upto : (seen cut es).settled ≤ settled = omega (arith, at, es_is, w.last_within) in
    record {
      canonical = g.canonical;
      in_range = g.in_range;
      values = λ t.
          g.values t
          ∙ ap (λ k. join_K k (known_at (silence (last + 1) settled []) t)) (o.values t)
          ∙ ap (λ n. join_K (log_at (seen cut es) t) (known_at (silence n settled []) t)) begins
          ∙ at_mark (seen cut es) h settled t upto
          ∙ ap₂ (λ c xs. log_at (with_mark (seen c xs) settled) t) ec ee
          ∙ ap (λ n. log_at (with_mark (seen l.state.cut l.state.events) n) t) es_is;
    }

-- the same of the numbers and entries that were read
pub record AreRead (cut settled : ℕ) (es : List Entry) : Type 0 where
  pub rise : EntriesRise cut es
  pub last_upto : last_tick cut es ≤ 2 ^ 62
  pub settled_upto : settled ≤ 2 ^ 62

pub are_read : (l : LogView) (cut settled : ℕ) (es : List Entry) → IsState l.state → cut ≡ l.state.cut → settled ≡ l.state.settled → es ≡ l.state.events → AreRead cut settled es
are_read l cut settled es i ec es_is ee =
    let w = opened l i in
    let at : last_tick cut es ≡ last_tick l.state.cut l.state.events = ap₂ last_tick ec ee in
    record {
      rise = subst (λ n. EntriesRise n es) (sym ec) (subst (EntriesRise l.state.cut) (sym ee) w.rise);
      last_upto = omega (arith, at, w.last_within, w.settled_upto);
      settled_upto = omega (arith, es_is, w.settled_upto);
    }
