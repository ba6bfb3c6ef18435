-- Lines that read as steps, one text after another
use Rattle.std.proofs.Common.{◌≡◌, ℕ, zero, suc, ◌+◌, ◌*◌, ◌<◌, ◌≤◌, Bool, true, false, ◌&&◌, List, [], ◌∷◌, ◌++◌, length, refl, sym, ap, ◌∙◌, arith, append_assoc}
use Rattle.std.specs.Prelude.{nat_lt, nat_le, if◌then◌else◌, flat_map, Result, Ok, Err}
use Rattle.std.specs.List.{list_all}
use Rattle.std.specs.Fmt.{decimal}
use Rattle.std.proofs.lemmas.List.{append-nil, length-append}
use Rattle.std.proofs.lemmas.Fmt.{length-decimal-le}
use Rattle.std.proofs.lemmas.Bool.{and_from, lt-ltb, le-leb}
use Rattle.gr_model.specs.Net.{numbers_from}
use Rattle.gr_sched.specs.declared.fault.StepFault.{StepFault}
use Rattle.gr_sched.specs.declared.step.TheConstants.{MAX_NUMBER}
use Rattle.gr_sched.specs.declared.step.Step.{Step}
use Rattle.gr_sched.specs.declared.step.Line.{Line}
use Rattle.gr_sched.specs.Naming.{Naming}
use Rattle.gr_sched.specs.Text.{pieces_of, counted_after, counted_lines}
use Rattle.gr_sched.specs.Words.{is_digit}
use Rattle.gr_sched.specs.Grammar.{step_of, lines_of}
use Rattle.gr_sched.specs.Plain.{IsNumberBefore, behind, Adds}
use Rattle.gr_sched.proofs.ReadsBack.{decimal_digits}
use Rattle.gr_sched.proofs.PlainLines.{counted_adds}
use Rattle.gr_soak.specs.Steps.{on_lines}

-- wherever a text stands, its lines read as these steps, at most so many, and it has at most so many bytes
pub record Reads (names : Naming) (text : List ℕ) (steps : List Step) (most size : ℕ) : Type 0 where
  pub same : (before : ℕ) (rest : List ℕ) (old : List Line) → behind old (lines_of names (counted_after before (pieces_of (text ++ rest))))
      ≡ behind (old ++ on_lines before steps) (lines_of names (counted_after (before + length steps) (pieces_of rest)))
  pub all : (before : ℕ) (rest : List ℕ) → length (counted_after before (pieces_of (text ++ rest))) ≡ length steps + length (counted_after (before + length steps) (pieces_of rest))
  pub few : length steps ≤ most
  pub short : length text ≤ size

-- ---- one after another

lines_both : (before : ℕ) (s t : List Step) → on_lines before (s ++ t) ≡ on_lines before s ++ on_lines (before + length s) t
lines_both before [] t = ap (λ n. on_lines n t) (let e : before ≡ before + 0 = omega arith in e)
lines_both before (x ∷ s) t =
    let e : before + 1 + length s ≡ before + suc (length s) = omega arith in
    ap (λ ls. record { number = before + 1; step = x } ∷ ls) (lines_both (before + 1) s t ∙ ap (λ n. on_lines (before + 1) s ++ on_lines n t) e)

pub nothing_reads : (names : Naming) → Reads names [] [] 0 0
nothing_reads names = record {
  same = λ before rest old. ap (λ ls. behind ls (lines_of names (counted_after before (pieces_of rest)))) (sym (append-nil old)) ∙ ap (λ n. behind (old ++ []) (lines_of names (counted_after n (pieces_of rest)))) (let e : before ≡ before + 0 = omega arith in e);
  all = λ before rest. (let e : length (counted_after before (pieces_of rest)) ≡ 0 + length (counted_after before (pieces_of rest)) = omega arith in e) ∙ ap (λ n. 0 + length (counted_after n (pieces_of rest))) (let e : before ≡ before + 0 = omega arith in e);
  few = omega arith;
  short = omega arith;
}

pub both_read : (names : Naming) (a b : List ℕ) (s t : List Step) (m n k l : ℕ) → Reads names a s m k → Reads names b t n l → Reads names (a ++ b) (s ++ t) (m + n) (k + l)
both_read names a b s t m n k l h g =
    let long : length (s ++ t) ≡ length s + length t = length-append s t in
    record {
      same = λ before rest old.
          let e : before + length s + length t ≡ before + length (s ++ t) = omega (arith, long) in
          ap (λ x. behind old (lines_of names (counted_after before (pieces_of x)))) (append_assoc a b rest)
          ∙ h.same before (b ++ rest) old
          ∙ g.same (before + length s) rest (old ++ on_lines before s)
          ∙ ap (λ ls. behind ls (lines_of names (counted_after (before + length s + length t) (pieces_of rest)))) (append_assoc old (on_lines before s) (on_lines (before + length s) t) ∙ ap (λ ls. old ++ ls) (sym (lines_both before s t)))
          ∙ ap (λ c. behind (old ++ on_lines before (s ++ t)) (lines_of names (counted_after c (pieces_of rest)))) e;
      all = λ before rest.
          let e : before + length s + length t ≡ before + length (s ++ t) = omega (arith, long) in
          let first = ap (λ x. length (counted_after before (pieces_of x))) (append_assoc a b rest) ∙ h.all before (b ++ rest) in
          let second = g.all (before + length s) rest ∙ ap (λ c. length t + length (counted_after c (pieces_of rest))) e in
          omega (arith, long, first, second);
      few = omega (arith, long, h.few, g.few);
      short = omega (arith, length-append a b, h.short, g.short);
    }

-- with more room
pub roomy : (names : Naming) (a : List ℕ) (s : List Step) (m n k l : ℕ) → m ≤ n → k ≤ l → Reads names a s m k → Reads names a s n l
roomy names a s m n k l most size h = record { same = h.same; all = h.all; few = omega (arith, most, h.few); short = omega (arith, size, h.short) }

-- texts of numbers in a row
pub each_read : (names : Naming) (f : ℕ → List ℕ) (g : ℕ → List Step) (m k from n : ℕ) → ((i : ℕ) → from ≤ i → i < from + n → Reads names (f i) (g i) m k)
    → Reads names (flat_map f (numbers_from from n)) (flat_map g (numbers_from from n)) (n * m) (n * k)
each_read names f g m k from zero h = roomy names [] [] 0 (0 * m) 0 (0 * k) (omega arith) (omega arith) (nothing_reads names)
each_read names f g m k from (suc n) h =
    roomy names (f from ++ flat_map f (numbers_from (suc from) n)) (g from ++ flat_map g (numbers_from (suc from) n)) (m + n * m) (suc n * m) (k + n * k) (suc n * k) (omega arith) (omega arith)
    (both_read names (f from) (flat_map f (numbers_from (suc from) n)) (g from) (flat_map g (numbers_from (suc from) n)) m (n * m) k (n * k) (h from (omega arith) (omega arith))
    (each_read names f g m k (suc from) n (λ i low high. h i (omega (arith, low)) (omega (arith, high)))))

-- a text that stands only where a test passes
pub if_reads : (names : Naming) (test : Bool) (a : List ℕ) (s : List Step) (m k : ℕ) → Reads names a s m k → Reads names (if test then a else []) (if test then s else []) m k
if_reads names true a s m k h = h
if_reads names false a s m k h = roomy names [] [] 0 m 0 k (omega arith) (omega arith) (nothing_reads names)

-- ---- one line

-- what one line adds
pub added_reads : (names : Naming) (text : List ℕ) (s : Step) (size : ℕ) → length text ≤ size
    → ((before : ℕ) (rest : List ℕ) (old : List Line) → Adds names before (text ++ rest) old 1 rest (old ++ (record { number = before + 1; step = s }) ∷ []))
    → Reads names text (s ∷ []) 1 size
added_reads names text s size short h = record {
  same = λ before rest old. (h before rest old).same;
  all = λ before rest. let all = (h before rest []).all in omega (arith, all);
  few = omega arith;
  short = short;
}

-- a line that is written out
pub line_reads : (names : Naming) (text line : List ℕ) (s : Step) (size : ℕ) → length text ≤ size
    → ((before : ℕ) (rest : List ℕ) → counted_after before (pieces_of (text ++ rest)) ≡ (before + 1, line) ∷ counted_after (before + 1) (pieces_of rest))
    → ((n : ℕ) → step_of names n line ≡ Ok s) → Reads names text (s ∷ []) 1 size
line_reads names text line s size short cut reads = record {
  same = λ before rest old. ap (λ cs. behind old (lines_of names cs)) (cut before rest) ∙ counted_adds names old (before + 1) line s (counted_after (before + 1) (pieces_of rest)) (reads (before + 1));
  all = λ before rest. let one = ap length (cut before rest) in omega (arith, one);
  few = omega arith;
  short = short;
}

-- the digits of a number before a byte
pub number_before : (stop m : ℕ) (rest : List ℕ) → m ≤ MAX_NUMBER → IsNumberBefore stop (decimal m ++ stop ∷ rest) m rest
number_before stop m rest h =
    let d = decimal_digits m (omega arith) in
    let few = length-decimal-le 19 m (omega arith) (omega arith) (omega arith) in
    record {
      digits = decimal m;
      whole = refl;
      reads = and_from (nat_lt 0 (length (decimal m)) && nat_le (length (decimal m)) 19) (list_all is_digit (decimal m))
          (and_from (nat_lt 0 (length (decimal m))) (nat_le (length (decimal m)) 19) (lt-ltb 0 (length (decimal m)) d.some) (le-leb (length (decimal m)) 19 few)) d.digits;
      value = d.value;
      most = h;
    }

pub few_digits : (m : ℕ) → m ≤ MAX_NUMBER → length (decimal m) ≤ 19
few_digits m h = length-decimal-le 19 m (omega arith) (omega arith) (omega arith)

-- ---- a whole schedule

behind_none : (r : Result (List Line) StepFault) → behind [] r ≡ r
behind_none (Ok lines) = refl
behind_none (Err f) = refl

pub whole_reads : (names : Naming) (text : List ℕ) (steps : List Step) (most size : ℕ) → Reads names text steps most size → lines_of names (counted_lines text) ≡ Ok (on_lines 0 steps)
whole_reads names text steps most size h =
    sym (behind_none (lines_of names (counted_lines text)))
    ∙ ap (λ t. behind [] (lines_of names (counted_after 0 (pieces_of t)))) (sym (append-nil text))
    ∙ h.same 0 [] []
    ∙ ap Ok (append-nil (on_lines 0 steps))

pub whole_counted : (names : Naming) (text : List ℕ) (steps : List Step) (most size : ℕ) → Reads names text steps most size → length (counted_lines text) ≤ most
whole_counted names text steps most size h =
    let all = ap (λ t. length (counted_after 0 (pieces_of t))) (sym (append-nil text)) ∙ h.all 0 [] in
    omega (arith, all, h.few)
