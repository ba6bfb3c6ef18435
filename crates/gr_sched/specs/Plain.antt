-- Lines as they mostly stand, and what reading lines from the front of a text adds to those that were read before
use Rattle.std.specs.Prelude.{◌≡◌, ℕ, ◌+◌, ◌==◌, ◌<◌, ◌≤◌, nat_lt, true, not, List, [], ◌∷◌, ◌++◌, length}
use Rattle.std.specs.Prelude.{Result, Ok, Err}
use Rattle.std.specs.List.{list_all, AllByRecursion}
use Rattle.gr_sched.specs.declared.fault.StepFault.{StepFault}
use Rattle.gr_sched.specs.declared.step.TheConstants.{MAX_NUMBER}
use Rattle.gr_sched.specs.declared.step.Line.{Line}
use Rattle.gr_sched.specs.Text.{pieces_of, counted_after}
use Rattle.gr_sched.specs.Words.{is_number, value_after}
use Rattle.gr_sched.specs.Naming.{Naming}
use Rattle.gr_sched.specs.Ranges.{IsInLimits}
use Rattle.gr_sched.specs.Grammar.{lines_of}

-- the digits of a number stand before a byte, and the rest behind it
pub record IsNumberBefore (stop : ℕ) (text : List ℕ) (number : ℕ) (rest : List ℕ) : Type 0 where
  pub digits : List ℕ
  pub whole : text ≡ digits ++ stop ∷ rest
  pub reads : is_number digits ≡ true
  pub value : value_after 0 digits ≡ number
  pub most : number ≤ MAX_NUMBER

-- a name of bytes that are past a space stands before a space, and the rest behind it
pub record IsNameBefore (text name rest : List ℕ) : Type 0 where
  pub whole : text ≡ name ++ 32 ∷ rest
  pub some : 0 < length name
  pub visible : list_all (λ b. nat_lt 32 b) name ≡ true

-- what stands from a brace to a brace is the rest of a line, and the rest of the text stands behind its LF
pub record IsObjectBefore (text object rest : List ℕ) : Type 0 where
  pub whole : text ≡ object ++ 10 ∷ rest
  pub one_line : list_all (λ b. not (b == 10)) object ≡ true
  pub inside : List ℕ
  pub braces : object ≡ 123 ∷ (inside ++ 125 ∷ [])

-- these lines before those that were read
abbrev pub behind : List Line → Result (List Line) StepFault → Result (List Line) StepFault
behind front (Ok lines) = Ok (front ++ lines)
behind front (Err f) = Err f

-- with the lines at the front of a text read, old became new, and the rest is what is left behind n lines more
pub record Adds (names : Naming) (before : ℕ) (text : List ℕ) (old : List Line) (n : ℕ)
    (rest : List ℕ) (new : List Line) : Type 0 where
  pub same : behind old (lines_of names (counted_after before (pieces_of text)))
      ≡ behind new (lines_of names (counted_after (before + n) (pieces_of rest)))
  pub all : length old + length (counted_after before (pieces_of text))
      ≡ length new + length (counted_after (before + n) (pieces_of rest))
  pub few : length new ≤ length old + n
  pub limits : AllByRecursion (λ line. IsInLimits line.step) old → AllByRecursion (λ line. IsInLimits line.step) new
  pub shorter : n + length rest ≤ length text
