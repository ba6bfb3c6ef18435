-- Each part of the grammar gives numbers in their ranges and names that are known, so each step does
use Rattle.std.proofs.Common.{◌≡◌, ℕ, suc, ◌<◌, ◌≤◌, List, [], ◌∷◌, Bool, true, false, cond, length, refl, arith, ◌∙◌, subst, ap, inl, inr}
use Rattle.std.specs.Prelude.{Result, Ok, Err, Option, Some, None, nat_le, ◌&&◌, codes, bytes_eq, IfSome, IfOk, IfErr}
use Rattle.std.specs.List.{All, AllByRecursion, slice_get}
use Rattle.std.specs.Option.{option_map}
use Rattle.std.proofs.lemmas.Option.{slice_get_cases}
use Rattle.std.proofs.lemmas.List.Elements.{All-nil, All-cons}
use Rattle.std.proofs.lemmas.Bool.Decides.{nat_tests}
use Rattle.gr_event.specs.declared.event.Event.{Event}
use Rattle.gr_event.specs.declared.event.EventFault.{EventFault}
use Rattle.gr_event.specs.declared.event.EventFault.TheVariants as event
use Rattle.gr_event.specs.Json.{event_text}
use Rattle.gr_sched.specs.declared.fault.StepFault.{StepFault}
use Rattle.gr_sched.specs.declared.fault.StepFault.TheVariants as fault
use Rattle.gr_sched.specs.declared.step.TheConstants.{MAX_NUMBER, MAX_STEPS}
use Rattle.gr_sched.specs.declared.step.Step.{Step}
use Rattle.gr_sched.specs.declared.step.Step.TheVariants.{Clock, Publish, Wake, Deliver, Crash, Sweep, Show, Bytes, Join}
use Rattle.gr_sched.specs.declared.step.Line.{Line}
use Rattle.gr_sched.specs.declared.verb.Verb.{Verb}
use Rattle.gr_sched.specs.declared.verb.Verb.TheVariants as verb
use Rattle.gr_sched.specs.Naming.{Naming}
use Rattle.gr_sched.specs.Words.{◌>>=◌, Gives, trimmed, first_word, after_word, next_word, ended, known, is_number, value_after, number_in, next_number}
use Rattle.gr_sched.specs.Grammar.{verb_of, next_name, after_pick, stop_of, next_stop, event_or_fault, event_of, publish_of, step_by, step_of, lines_of, limited}
use Rattle.gr_sched.specs.Ranges.{IsNamed, IsStop, IsStep, IsInLimits, IsFault, Holds}
use Rattle.gr_sched.proofs.EventFaults.{NotMemory, texts}

-- what the grammar alone gives of a step: all but the limits of an event
abbrev IsNumbered : Naming → Step → Type 0
IsNumbered names (Publish publisher number stop e) = IsNamed names.publisher publisher × (1 ≤ number) × (number ≤ MAX_NUMBER) × IfSome stop IsStop
IsNumbered names s = IsStep names s

whole_step : (names : Naming) (s : Step) → IsNumbered names s → IsInLimits s → IsStep names s
whole_step names (Clock now) h k = h
whole_step names (Publish publisher number stop e) h k = (h.0, h.1, h.2, h.3, k)
whole_step names (Wake broker) h k = h
whole_step names (Deliver frame) h k = h
whole_step names (Crash broker) h k = h
whole_step names Sweep h k = h
whole_step names Show h k = h
whole_step names (Bytes frame) h k = h
whole_step names (Join subscriber publisher) h k = h

whole_steps : (names : Naming) (lines : List Line) → All (λ line. IsNumbered names line.step) lines → AllByRecursion (λ line. IsInLimits line.step) lines
    → All (λ line. IsStep names line.step) lines
whole_steps names [] h k = All-nil _
whole_steps names (l ∷ ls) h k =
    All-cons (λ line. IsStep names line.step) l ls (whole_step names l.step (h 0 l (omega arith)) k.0)
    (whole_steps names ls (λ i d lt. h (suc i) d (omega arith)) k.1)

-- one part after another
both : {A B : Type 0} (P : A → Type 0) (Q : B → Type 0) (r : Result A StepFault) (f : A → Result B StepFault) → Holds P r → ((x : A) → P x → Holds Q (f x)) → Holds Q (r >>= f)
both P Q (Ok x) f h k = k x h
both P Q (Err e) f h k = h

either : {A : Type 0} (P : A → Type 0) (b : Bool) (r s : Result A StepFault) → Holds P r → Holds P s → Holds P (cond b r s)
either P true r s h k = h
either P false r s h k = k

words : (n : ℕ) (text : List ℕ) → Holds (λ _. Unit {0}) (next_word n text)
words n [] = tt
words n (b ∷ bs) = tt

ends : {A : Type 0} (P : A → Type 0) (n : ℕ) (text : List ℕ) (x : A) → P x → Holds P (ended n text x)
ends P n [] x h = h
ends P n (b ∷ bs) x h = tt

knows : {A : Type 0} (n : ℕ) (o : Option A) → Holds (λ x. o ≡ Some x) (known n o)
knows n None = tt
knows n (Some x) = refl

abbrev IsBetween : ℕ → ℕ → ℕ → Type 0
IsBetween low high value = (low ≤ value) × (value ≤ high)

fits : (n low high value : ℕ) (b : Bool) → Holds (IsBetween low high) (cond (b && nat_le low value && nat_le value high) (Ok value) (Err (fault.BadNumber n)))
fits n low high value b = step (b && nat_le low value && nat_le value high) refl
  where
    step : (v : Bool) → v ≡ (b && nat_le low value && nat_le value high) → Holds (IsBetween low high) (cond v (Ok value) (Err (fault.BadNumber n)))
    step true e = (grind (arith, nat_tests), grind (arith, nat_tests))
    step false e = tt

numbers : (n low high : ℕ) (text : List ℕ) → Holds (λ x. IsBetween low high x.0) (next_number n low high text)
numbers n low high text = both _ _ (next_word n text) _ (words n text) (λ word _. both _ _ (number_in n low high word.0) _ (fits n low high (value_after 0 word.0) (is_number word.0)) (λ value h. h))

named : (number_of : List ℕ → Option ℕ) (n : ℕ) (text : List ℕ) → Holds (λ x. IsNamed number_of x.0) (next_name number_of n text)
named number_of n text = both _ _ (next_word n text) _ (words n text) (λ word _. both _ _ (known n (number_of word.0)) _ (knows n (number_of word.0)) (λ number e. (word.0, e)))

picks : (n : ℕ) (text : List ℕ) → Holds (λ _. Unit {0}) (after_pick n text)
picks n text = both _ _ (next_word n text) _ (words n text) (λ word _. either _ (bytes_eq word.0 (codes "pick")) _ _ tt tt)

stops : (n : ℕ) (text : List ℕ) → Holds (λ x. IsStop x.0) (stop_of n text)
stops n text = both _ _ (next_number n 1 4 text) _ (numbers n 1 4 text) (λ call a. both _ _ (after_pick n call.1) _ (picks n call.1) (λ rest _. both _ _ (next_number n 0 255 rest) _ (numbers n 0 255 rest) (λ pick b. (a.0, a.1, b.1))))

next_stops : (n : ℕ) (text : List ℕ) → Holds (λ x. IfSome x.0 IsStop) (next_stop n text)
next_stops n text = either _ (bytes_eq (first_word text) (codes "stop")) _ _ (both _ _ (stop_of n (after_word text)) _ (stops n (after_word text)) (λ stop h. h)) tt

event_faults : (n : ℕ) (r : Result Event EventFault) → NotMemory r → Holds (λ _. Unit {0}) (event_or_fault n r)
event_faults n (Ok e) h = tt
event_faults n (Err event.Memory) h = h
event_faults n (Err event.NotObject) h = tt
event_faults n (Err event.BadName) h = tt
event_faults n (Err event.BadValue) h = tt
event_faults n (Err event.TooMany) h = tt
event_faults n (Err event.TooLong) h = tt
event_faults n (Err (event.Short at)) h = tt
event_faults n (Err (event.BadKind at)) h = tt
event_faults n (Err (event.NotSorted at)) h = tt
event_faults n (Err (event.Trailing at)) h = tt
event_faults n (Err event.NotJson) h = tt
event_faults n (Err (event.BadText at)) h = tt
event_faults n (Err (event.BadLength at)) h = tt

events : (n : ℕ) (text : List ℕ) → Holds (λ _. Unit {0}) (event_of n text)
events n [] = tt
events n (b ∷ bs) = event_faults n (event_text (b ∷ bs)) (texts (b ∷ bs))

publishes : (names : Naming) (n : ℕ) (text : List ℕ) → Holds (IsNumbered names) (publish_of names n text)
publishes names n text =
    both _ _ (next_name names.publisher n text) _ (named names.publisher n text) (λ publisher a.
    both _ _ (next_number n 1 MAX_NUMBER publisher.1) _ (numbers n 1 MAX_NUMBER publisher.1) (λ number b.
    both _ _ (next_stop n number.1) _ (next_stops n number.1) (λ stop c.
    both _ _ (event_of n stop.1) _ (events n stop.1) (λ e _. (a, b.0, b.1, c)))))

steps : (names : Naming) (n : ℕ) (v : Verb) (text : List ℕ) → Holds (IsNumbered names) (step_by names n v text)
steps names n verb.Clock text = both _ _ (next_number n 0 MAX_NUMBER text) _ (numbers n 0 MAX_NUMBER text) (λ now h. ends _ n now.1 (Clock now.0) h.1)
steps names n verb.Publish text = publishes names n text
steps names n verb.Wake text = both _ _ (next_name names.broker n text) _ (named names.broker n text) (λ broker h. ends _ n broker.1 (Wake broker.0) h)
steps names n verb.Deliver text = both _ _ (next_number n 0 MAX_NUMBER text) _ (numbers n 0 MAX_NUMBER text) (λ frame h. ends _ n frame.1 (Deliver frame.0) h.1)
steps names n verb.Crash text = both _ _ (next_name names.broker n text) _ (named names.broker n text) (λ broker h. ends _ n broker.1 (Crash broker.0) h)
steps names n verb.Sweep text = ends _ n text Sweep tt
steps names n verb.Show text = ends _ n text Show tt
steps names n verb.Bytes text = both _ _ (next_number n 0 MAX_NUMBER text) _ (numbers n 0 MAX_NUMBER text) (λ frame h. ends _ n frame.1 (Bytes frame.0) h.1)
steps names n verb.Join text =
    both _ _ (next_name names.joiner n text) _ (named names.joiner n text) (λ subscriber a.
    both _ _ (next_name names.publisher n subscriber.1) _ (named names.publisher n subscriber.1) (λ publisher b. ends _ n publisher.1 (Join subscriber.0 publisher.0) (a, b)))

line_steps : (names : Naming) (n : ℕ) (line : List ℕ) → Holds (IsNumbered names) (step_of names n line)
line_steps names n line =
    both _ _ (next_word n (trimmed line)) _ (words n (trimmed line)) (λ word _.
    both _ _ (known n (verb_of word.0)) _ (knows n (verb_of word.0)) (λ v _. steps names n v word.1))

-- as many lines as counted lines, each with such a step
abbrev AreSteps : Naming → ℕ → List Line → Type 0
AreSteps names n lines = All (λ line. IsNumbered names line.step) lines × (length lines ≡ n)

all_steps : (names : Naming) (counted : List (ℕ × List ℕ)) → Holds (AreSteps names (length counted)) (lines_of names counted)
all_steps names [] = (All-nil _, refl)
all_steps names (c ∷ more) =
    both _ _ (step_of names c.0 c.1) _ (line_steps names c.0 c.1) (λ step a.
    both _ _ (lines_of names more) _ (all_steps names more) (λ lines b. (All-cons (λ line. IsNumbered names line.step) (record { number = c.0; step = step }) lines a b.0, omega (arith, b.1))))

-- ---- what a reader answered

gives_holds : (P : List Line → Type 0) (r read : Result (List Line) StepFault) → Gives (λ s. s) r read → Holds P read → Holds P r
gives_holds P (Ok x) read e h = subst (Holds P) e h
gives_holds P (Err fault.Memory) read e h = tt
gives_holds P (Err (fault.BadWord line)) read e h = tt
gives_holds P (Err (fault.BadNumber line)) read e h = tt
gives_holds P (Err (fault.BadEvent line f)) read e h = subst (Holds P) e h
gives_holds P (Err (fault.TooMany line)) read e h = subst (Holds P) e h

-- where there is no line past the limit, there are no more lines than the limit
pub few_counted : (counted : List (ℕ × List ℕ)) (n : ℕ) → None ≡ option_map (λ c. c.0) (slice_get counted n) → length counted ≤ n
few_counted counted n e = elim (slice_get_cases counted n).1 [ inl h ↦ absurd (let k : None ≡ Some h.0.0 = e ∙ ap (option_map (λ c. c.0)) h.2 in cc) | inr h ↦ h.0 ]

-- in a list that is read each step is in range, and there are no more than counted lines
pub read_range : (names : Naming) (counted : List (ℕ × List ℕ)) (r : Result (List Line) StepFault) → Gives (λ s. s) r (lines_of names counted)
    → IfOk r (λ s. AllByRecursion (λ line. IsInLimits line.step) s) → IfOk r (λ s. All (λ line. IsStep names line.step) s)
read_range names counted r e limits = part r (gives_holds _ r _ e (all_steps names counted)) limits
  where
    part : (r : Result (List Line) StepFault) → Holds (AreSteps names (length counted)) r → IfOk r (λ s. AllByRecursion (λ line. IsInLimits line.step) s)
        → IfOk r (λ s. All (λ line. IsStep names line.step) s)
    part (Ok x) h k = whole_steps names x h.0 k
    part (Err f) h k = tt

pub read_all : (names : Naming) (counted : List (ℕ × List ℕ)) (r : Result (List Line) StepFault) → Gives (λ s. s) r (lines_of names counted) → IfOk r (λ s. length s ≡ length counted)
read_all names counted r e = part r (gives_holds _ r _ e (all_steps names counted))
  where
    part : (r : Result (List Line) StepFault) → Holds (AreSteps names (length counted)) r → IfOk r (λ s. length s ≡ length counted)
    part (Ok x) h = h.1
    part (Err f) h = tt

pub read_few : (names : Naming) (counted : List (ℕ × List ℕ)) (n : ℕ) (r : Result (List Line) StepFault) → Gives (λ s. s) r (lines_of names counted) → None ≡ option_map (λ c. c.0) (slice_get counted n) → IfOk r (λ s. length s ≤ n)
read_few names counted n r e none = part r (gives_holds _ r _ e (all_steps names counted))
  where
    part : (r : Result (List Line) StepFault) → Holds (AreSteps names (length counted)) r → IfOk r (λ s. length s ≤ n)
    part (Ok x) h = omega (arith, h.1, few_counted counted n none)
    part (Err f) h = tt

-- a fault of a line is such a fault however many lines are counted
any_count : (n : ℕ) (f : StepFault) → IsFault 0 f → IsFault n f
any_count n fault.Memory h = tt
any_count n (fault.BadWord line) h = tt
any_count n (fault.BadNumber line) h = tt
any_count n (fault.BadEvent line event.Memory) h = h
any_count n (fault.BadEvent line event.NotObject) h = tt
any_count n (fault.BadEvent line event.BadName) h = tt
any_count n (fault.BadEvent line event.BadValue) h = tt
any_count n (fault.BadEvent line event.TooMany) h = tt
any_count n (fault.BadEvent line event.TooLong) h = tt
any_count n (fault.BadEvent line (event.Short at)) h = tt
any_count n (fault.BadEvent line (event.BadKind at)) h = tt
any_count n (fault.BadEvent line (event.NotSorted at)) h = tt
any_count n (fault.BadEvent line (event.Trailing at)) h = tt
any_count n (fault.BadEvent line event.NotJson) h = tt
any_count n (fault.BadEvent line (event.BadText at)) h = tt
any_count n (fault.BadEvent line (event.BadLength at)) h = tt
any_count n (fault.TooMany line) h = absurd (omega (arith, h))

pub read_cause : (names : Naming) (counted : List (ℕ × List ℕ)) (n : ℕ) (r : Result (List Line) StepFault) → Gives (λ s. s) r (lines_of names counted) → IfErr r (IsFault n)
read_cause names counted n r e = part r (gives_holds _ r _ e (all_steps names counted))
  where
    part : (r : Result (List Line) StepFault) → Holds (AreSteps names (length counted)) r → IfErr r (IsFault n)
    part (Ok x) h = tt
    part (Err f) h = any_count n f h

-- a line past the limit is one of more lines than the limit
pub many_counted : (counted : List (ℕ × List ℕ)) (n line : ℕ) → Some line ≡ option_map (λ c. c.0) (slice_get counted n) → n < length counted
many_counted counted n line e = elim (slice_get_cases counted n).1 [ inl h ↦ h.1 | inr h ↦ absurd (let k : Some line ≡ None = e ∙ ap (option_map (λ c. c.0)) h.1 in cc) ]

-- with no more lines than the limit all depends on what reading gives
pub within_limit : (counted : List (ℕ × List ℕ)) (n : ℕ) (read : Result (List Line) StepFault) → length counted ≤ n → limited (slice_get counted n) read ≡ read
within_limit counted n read few = elim (slice_get_cases counted n).1 [ inl h ↦ absurd (omega (arith, h.1, few)) | inr h ↦ ap (λ o. limited o read) h.1 ]

-- with no more lines than the limit there are not too many
pub not_many : (n : ℕ) (r : Result (List Line) StepFault) → IfErr r (IsFault n) → n ≤ MAX_STEPS → (line : ℕ) → r ≡ Err (fault.TooMany line) → ⊥
not_many n r cause few line e = let more : MAX_STEPS < n = subst (λ x. IfErr x (IsFault n)) e cause in omega (arith, more, few)
