-- What the definitions of the commands find, and what the reader of a number gives
use Rattle.std.proofs.Common.{rules, arith, ◌<◌, ◌≤◌, nat_cmp, ◌≡◌, ◌≢◌, ℕ, ℤ, pos, List, [], ◌∷◌, Option, Some, None, Result, Ok, Err, IfOk, ap, ◌∙◌, refl, inl, inr}
use Rattle.std.specs.Option.{IsSomeAnd}
use Rattle.std.specs.Ordering.{ord_min}
use Rattle.std.specs.Str.Parse.{ParsesUnsigned, digits_value, without_leading_plus}
use Rattle.clap.specs.Words.{ReadsOne, IsUnsignedIn, NarrowsTo, Kinds, HasKind, kind_of}
use Rattle.clap.specs.declared.error.Error.{Error}
use Rattle.clap.specs.declared.error.kind.ErrorKind.TheVariants.{OutOfMemory}
use Rattle.clap.specs.declared.builder.range.ValueRange.{ValueRange}
use Rattle.clap.specs.declared.builder.value_parser.ValueParser.{ValueParser}
use Rattle.clap.specs.declared.builder.value_parser.ValueParser.TheVariants.{Unsigned}
use Rattle.gr_top.specs.declared.words.Task.{Task}
use Rattle.gr_top.specs.declared.words.Task.TheVariants.{Usage}
use Rattle.gr_top.specs.Words.{taken, IsInRange}

-- where no fault is found, the task stands
pub kept : (kinds : Kinds) (task : Task) → kinds ≡ [] → task ≡ taken kinds task
kept [] task e = refl
kept (k ∷ ks) task e = absurd (let bad : (k ∷ ks) ≡ [] = e in cc)

-- a refusal that is no want of memory has a cause, so nothing is asked for
pub given_up : {E : Type 0} (kinds : Kinds) (e : Error) (task : Task) (r : Result Task E) → HasKind kinds e → IfOk r (λ t. t ≡ Usage) → IfOk r (λ t. kind_of e ≢ OutOfMemory) → IfOk r (λ t. t ≡ taken kinds task)
given_up kinds e task (Err x) h usage other = tt
given_up (k ∷ ks) e task (Ok t) h usage other = usage
given_up [] e task (Ok t) (inl memory) usage other = absurd (other memory)
given_up [] e task (Ok t) (inr among) usage other = absurd among

-- a task in its range stays one where it is given up
pub kept_in_range : {E : Type 0} (kinds : Kinds) (task : Task) (r : Result Task E) → IsInRange task → IfOk r (λ t. t ≡ taken kinds task) → IfOk r IsInRange
kept_in_range kinds task (Err x) h e = tt
kept_in_range [] task (Ok t) h e = rw e h
kept_in_range (k ∷ ks) task (Ok t) h e = rw e tt

-- a reader of `u64` with both ends given
pub narrowed : (n : ℕ) (r : ValueParser) (low high : Option ℤ) → low ≡ Some (pos 1) → high ≡ Some (pos n) → n < 18446744073709551615
    → NarrowsTo (Unsigned 0 18446744073709551615) low high r → r ≡ Unsigned 1 n
narrowed n r low high a b small h =
    let made : r ≡ Unsigned 1 (ord_min nat_cmp 18446744073709551615 n) = rw (a, b) at h in
    made ∙ ap (λ k. Unsigned 1 k) (grind (arith, rules))

-- a range of values that is given
pub given_range : (o : Option ValueRange) (P : ValueRange → Type 0) (v : ValueRange) → IsSomeAnd o P → ((w : ValueRange) → P w → w ≡ v) → o ≡ Some v
given_range None P v h only = absurd h
given_range (Some w) P v h only = ap (λ x. Some x) (only w h)

-- a text that passed a range of `u64` reads as a number in it
pub unsigned_reads : (E : Type 0) (G : List ℕ → Result ℕ E → Type 0) (low high : ℕ) (t : List ℕ) (r : Option ℕ)
    → ReadsOne G t r → ((u : List ℕ) (x : Result ℕ E) → G u x → ParsesUnsigned 64 10 u x) → IsUnsignedIn low high t
    → (n : ℕ) × (r ≡ Some n) × (n ≡ digits_value 10 (without_leading_plus t)) × (low ≤ n) × (n ≤ high)
unsigned_reads E G low high t (Some v) read only p =
    let parsed = only t (Ok v) read in
    (v, refl, parsed.1, rw parsed.1 p.2, rw parsed.1 p.3)
unsigned_reads E G low high t None read only p = absurd (only t (Err read.0) read.1 (p.0, p.1))
