-- Hearing keeps whose events a client has, and which they are; and a number is told where a note says it
use Rattle.std.proofs.Common.{◌≡◌, ℕ, ◌+◌, ◌==◌, nat_le, Bool, true, false, if◌then◌else◌, List, [], ◌∷◌, ◌++◌, length, Option, Some, None, Result, Ok, Err, OnOk, refl, sym, ap, ap₂, ◌∙◌, subst, eq-eqb, eqb-true}
use Rattle.gr_event.specs.declared.event.Event.{Event}
use Rattle.gr_out.specs.declared.fault.RunFault.{RunFault}
use Rattle.gr_out.specs.Entry.{Entry}
use Rattle.gr_note.specs.Decode.{note_decoded}
use Rattle.gr_note.specs.declared.note.Note.{Note}
use Rattle.gr_note.specs.declared.note.Note.TheVariants as note
use Rattle.gr_note.specs.declared.fault.NoteFault.{NoteFault}
use Rattle.gr_out.specs.Bytes.{with_more}
use Rattle.gr_out.specs.Page.{TakesFront}
use Rattle.gr_topo.specs.Topology.{TopologyView, is_this}
use Rattle.gr_client.specs.Came.{Arrival, datagram, quiet}
use Rattle.gr_client.specs.declared.client.Progress.{Progress}
use Rattle.gr_client.specs.declared.client.Progress.TheVariants.{Running, Done, Spent, Ahead}
use Rattle.gr_client.specs.Client.{ClientView, told_next, after_next, after_spent, heard_by}
use Rattle.gr_client.specs.Run.{heard_of, after_one, after_all, next_in, told_from, told_by, told_in, told_line, told_offers, offers_by}
use Rattle.gr_client.specs.Laws.{NoteCame}

pub heard_events : (c : ClientView) (r : Result Note NoteFault) → (heard_of c r).events ≡ c.events
unfolding heard_by
heard_events c (Ok n) = refl
heard_events c (Err e) = refl

pub heard_publisher : (c : ClientView) (r : Result Note NoteFault) → (heard_of c r).publisher ≡ c.publisher
unfolding heard_by
heard_publisher c (Ok n) = refl
heard_publisher c (Err e) = refl

one_events : (c : ClientView) (a : Arrival) → (after_one c a).events ≡ c.events
one_events c (datagram at bytes moment) = heard_events c (note_decoded bytes)
one_events c (quiet moment) = refl

pub one_publisher : (c : ClientView) (a : Arrival) → (after_one c a).publisher ≡ c.publisher
one_publisher c (datagram at bytes moment) = heard_publisher c (note_decoded bytes)
one_publisher c (quiet moment) = refl

-- all that comes keeps them too
pub after_events : (c : ClientView) (came : List Arrival) → (after_all c came).events ≡ c.events
unfolding after_all
after_events c [] = refl
after_events c (a ∷ came) = after_events (after_one c a) came ∙ one_events c a

pub after_publisher : (c : ClientView) (came : List Arrival) → (after_all c came).publisher ≡ c.publisher
unfolding after_all
after_publisher c [] = refl
after_publisher c (a ∷ came) = after_publisher (after_one c a) came ∙ one_publisher c a

-- What is told

-- a number that is computed of the client before and after it heard
pub told_is : (c after : ClientView) (r : Result Note NoteFault) (before next told : Option ℕ) → after ≡ heard_of c r → before ≡ next_in (length c.events) c.progress → next ≡ next_in (length after.events) after.progress
    → told ≡ told_from before next → told ≡ told_by c (heard_of c r)
told_is c after r before next told e first later h =
    let old : Option ℕ = next_in (length c.events) c.progress in
    h
    ∙ ap₂ told_from first later
    ∙ ap (λ (x : ClientView). told_from old (next_in (length x.events) x.progress)) e
    ∙ ap (λ (events : List Event). told_from old (next_in (length events) (heard_of c r).progress)) (heard_events c r)

-- what is printed of it

pub taken_as : (t : TopologyView) (p : ℕ) (taken taken' : Option (List ℕ)) (told told' : Option ℕ) → told ≡ told' → taken' ≡ with_more taken (told_line t p told) → taken' ≡ with_more taken (told_line t p told')
taken_as t p taken taken' told told' e h = h ∙ ap (λ (o : Option ℕ). with_more taken (told_line t p o)) e

pub front_as : (t : TopologyView) (p : ℕ) (taken taken' : Option (List ℕ)) (told told' : Option ℕ) → told ≡ told' → TakesFront taken taken' (told_line t p told) → TakesFront taken taken' (told_line t p told')
front_as t p taken taken' told told' e h = subst (λ (o : Option ℕ). TakesFront taken taken' (told_line t p o)) e h

-- the same number is not told again
pub told_same : (o : Option ℕ) → told_from o o ≡ None
told_same None = refl
told_same (Some n) = ap (λ (b : Bool). if b then None else Some n) (eq-eqb n n refl)

-- a quiet moment tells nothing
pub quiet_tells_none : (c : ClientView) (moment : ℕ) → told_in c (quiet moment) ≡ None
quiet_tells_none c moment = told_same (next_in (length c.events) c.progress)

-- What is offered then

-- the same to the same host, of the same client
pub sent_told : {T : Type 0} (host host' : ℕ) (c after after' : ClientView) (told : Option ℕ) (journal journal' : List Entry) (r : Result T RunFault) → host' ≡ host → after' ≡ after → told ≡ told_by c after
    → OnOk r (journal' ≡ journal ++ told_offers host' after' told) → OnOk r (journal' ≡ journal ++ offers_by host c after)
sent_told host host' c after after' told journal journal' (Ok x) e same h sent =
    sent ∙ ap (λ (b : ℕ). journal ++ told_offers b after' told) e ∙ ap (λ (d : ClientView). journal ++ told_offers host d told) same
    ∙ ap (λ (o : Option ℕ). journal ++ told_offers host after o) h
sent_told host host' c after after' told journal journal' (Err f) e same h sent = tt

-- Where something is told, a note said it

some_same : (a b : ℕ) → Some a ≡ Some b → a ≡ b
some_same a b e = cc

none_some : (a : ℕ) → None ≡ Some a → ⊥
none_some a e = cc

told_choice : (b : Bool) (x n : ℕ) → (if b then None else Some x) ≡ Some n → x ≡ n
told_choice true x n h = absurd (none_some n h)
told_choice false x n h = some_same x n h

-- what is told is the number that comes next now
told_some : (o : Option ℕ) (x n : ℕ) → told_from o (Some x) ≡ Some n → x ≡ n
told_some o x n h = told_choice (is_this o x) x n h

told_never : (o : Option ℕ) (n : ℕ) → told_from o o ≡ Some n → ⊥
told_never o n h = none_some n (sym (told_same o) ∙ h)

-- by a Next to a running client it is the number of the note
told_past : (m k next n : ℕ) (last : Bool) → (next == m + 1) ≡ last
    → told_from (Some k) (next_in m (if last then Done else Ahead next)) ≡ Some n → next ≡ n
told_past m k next n true e h = eqb-true next (m + 1) e ∙ told_some (Some k) (m + 1) n h
told_past m k next n false e h = absurd (none_some n h)

told_within : (m k next n : ℕ) (within : Bool)
    → told_from (Some k) (next_in m (if within then Running next else (if next == m + 1 then Done else Ahead next))) ≡ Some n → next ≡ n
told_within m k next n true h = told_some (Some k) next n h
told_within m k next n false h = told_past m k next n (next == m + 1) refl h

told_running : (m k next n : ℕ) (old : Bool)
    → told_from (Some k) (next_in m (if old then Running k else told_next m next)) ≡ Some n → next ≡ n
told_running m k next n true h = absurd (told_never (Some k) n h)
told_running m k next n false h = told_within m k next n (nat_le next m) h

told_next_is : (m : ℕ) (p : Progress) (next n : ℕ) → told_from (next_in m p) (next_in m (after_next m p next)) ≡ Some n → next ≡ n
told_next_is m (Running k) next n h = told_running m k next n (nat_le next k) h
told_next_is m Done next n h = absurd (told_never (next_in m Done) n h)
told_next_is m Spent next n h = absurd (told_never (next_in m Spent) n h)
told_next_is m (Ahead k) next n h = absurd (told_never (next_in m (Ahead k)) n h)

-- by a Spent nothing is told
spent_never : (m : ℕ) (p : Progress) (n : ℕ) → told_from (next_in m p) (next_in m (after_spent p)) ≡ Some n → ⊥
spent_never m (Running k) n h = none_some n h
spent_never m Done n h = told_never (next_in m Done) n h
spent_never m Spent n h = told_never (next_in m Spent) n h
spent_never m (Ahead k) n h = told_never (next_in m (Ahead k)) n h

-- a Next of another publisher tells nothing
told_next_of : (m : ℕ) (p : Progress) (other publisher next n : ℕ) (ours : Bool) → (other == publisher) ≡ ours
    → told_from (next_in m p) (next_in m (if ours then after_next m p next else p)) ≡ Some n → note.Next other next ≡ note.Next publisher n
told_next_of m p other publisher next n true e h =
    ap (λ (q : ℕ). note.Next q next) (eqb-true other publisher e) ∙ ap (λ (k : ℕ). note.Next publisher k) (told_next_is m p next n h)
told_next_of m p other publisher next n false e h = absurd (told_never (next_in m p) n h)

told_spent_of : (m : ℕ) (p : Progress) (n : ℕ) (ours : Bool) → told_from (next_in m p) (next_in m (if ours then after_spent p else p)) ≡ Some n → ⊥
told_spent_of m p n true h = spent_never m p n h
told_spent_of m p n false h = told_never (next_in m p) n h

told_by_note : (c : ClientView) (said : Note) (n : ℕ) → told_by c (heard_by c said) ≡ Some n → said ≡ note.Next c.publisher n
unfolding heard_by
told_by_note c (note.Submit other number event) n h = absurd (told_never (next_in (length c.events) c.progress) n h)
told_by_note c (note.Next other next) n h = told_next_of (length c.events) c.progress other c.publisher next n (other == c.publisher) refl h
told_by_note c (note.Spent other) n h = absurd (told_spent_of (length c.events) c.progress n (other == c.publisher) h)

told_by_read : (c : ClientView) (r : Result Note NoteFault) (n : ℕ) → told_by c (heard_of c r) ≡ Some n → r ≡ Ok (note.Next c.publisher n)
told_by_read c (Ok said) n h = ap (λ (x : Note). Ok x) (told_by_note c said n h)
told_by_read c (Err f) n h = absurd (told_never (next_in (length c.events) c.progress) n h)

pub told_where_it_came : (c : ClientView) (a : Arrival) (n : ℕ) → told_in c a ≡ Some n → NoteCame c.publisher n a
told_where_it_came c (datagram at bytes moment) n h = told_by_read c (note_decoded bytes) n h
told_where_it_came c (quiet moment) n h = none_some n (sym (quiet_tells_none c moment) ∙ h)
