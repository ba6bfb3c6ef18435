-- What the words of a command line ask for
use Rattle.std.specs.Prelude.{◌≡◌, ℕ, ◌≤◌, Bool, true, false, ◌||◌, List, [], ◌∷◌, Option, Some, map, codes}
use Rattle.std.specs.Prelude.{unwrap_or, if◌then◌else◌}
use Rattle.std.specs.Borrow.{Bor}
use Rattle.std.specs.Option.{option_map}
use Rattle.std.specs.Str.{bytes_eq}
use Rattle.std.specs.Str.Parse.{digits_value, without_leading_plus}
use Rattle.clap.specs.Lexer.{usize_max}
use Rattle.clap.specs.declared.builder.ArgAction.TheVariants.{Set}
use Rattle.clap.specs.declared.builder.value_parser.ValueParser.TheVariants.{Unsigned}
use Rattle.clap.specs.declared.parser.matches.ArgMatches.{ArgMatches}
use Rattle.clap.specs.Words.{App, Rule, Text, Kinds, IsUnsignedIn, new_app, new_rule, with_rule, fault_of, found_of}
use Rattle.clap.specs.Words.{matches_of, all_of, first_of, one_of, one_text}
use Rattle.gr_top.specs.declared.words.Task.{Task}
use Rattle.gr_top.specs.declared.words.Task.TheVariants.{Usage, Replay, Serve, Publish, Audit, Match, Cover, Soak}
use Rattle.gr_top.specs.declared.voice.Voice.{Voice}
use Rattle.gr_top.specs.declared.voice.Voice.TheVariants.{Report, Journal}

-- the texts of words
abbrev pub texts_of : List (Bor Text) → List Text
texts_of words = map (λ word. word.now) words

-- The commands, each by its definition, which reads all words: the command's own in the place of a program's name

abbrev pub replay_app : App
replay_app = new_app (codes "replay")

-- one number, from 1 to 1,000,000
abbrev pub turns_rule : Rule
turns_rule = record (new_rule (codes "turns")) {
  required = true;
  action = Some Set;
  parser = Some (Unsigned 1 1000000);
}

-- one text or more
abbrev pub brokers_rule : Rule
brokers_rule = record (new_rule (codes "brokers")) {
  required = true;
  range = Some (record { start_inclusive = 1; end_inclusive = usize_max });
}

-- that of `serve`, and that of `trace`
abbrev pub serve_app : Text → App
serve_app name = with_rule (with_rule (new_app name) turns_rule) brokers_rule

-- one text
abbrev pub publisher_rule : Rule
publisher_rule = record (new_rule (codes "publisher")) { required = true }

abbrev pub publish_app : App
publish_app = with_rule (with_rule (new_app (codes "publish")) publisher_rule) turns_rule

abbrev pub audit_app : App
audit_app = new_app (codes "audit")

abbrev pub match_app : App
match_app = new_app (codes "match")

abbrev pub cover_app : App
cover_app = new_app (codes "cover")

-- one number, from 1 to 2,000
abbrev pub count_rule : Rule
count_rule = record (new_rule (codes "count")) {
  required = true;
  action = Some Set;
  parser = Some (Unsigned 1 2000);
}

abbrev pub soak_app : App
soak_app = with_rule (new_app (codes "soak")) count_rule

-- the number that a text says
abbrev pub number_said : Text → ℕ
number_said t = digits_value 10 (without_leading_plus t)

-- the number of turns that words give by the definition of a command
abbrev pub turns_count : App → List Text → Option ℕ
turns_count app words = option_map number_said (one_of (codes "turns") (matches_of app words))

-- the names of brokers that words give by such a definition, and the name of a publisher that those of `publish` do
abbrev pub broker_words : App → List Text → Option (List Text)
broker_words app words = all_of (codes "brokers") (matches_of app words)

abbrev pub publisher_word : List Text → Option Text
publisher_word words = first_of (codes "publisher") (matches_of publish_app words)

-- after a parse there is a text for the turns, of a number in its range
abbrev pub HasTurns : ArgMatches → Type 0
HasTurns m = (t : List ℕ) × (one_text (found_of m) (codes "turns") ≡ Some t) × IsUnsignedIn 1 1000000 t

-- the number that the words of `soak` give
abbrev pub soak_count : List Text → Option ℕ
soak_count words = option_map number_said (one_of (codes "count") (matches_of soak_app words))

-- after a parse there is a text for it, of a number in its range
abbrev pub HasCount : ArgMatches → Type 0
HasCount m = (t : List ℕ) × (one_text (found_of m) (codes "count") ≡ Some t) × IsUnsignedIn 1 2000 t

-- the first word is the name of a command
abbrev pub is_known : List Text → Bool
is_known [] = false
is_known (name ∷ words) =
    bytes_eq name (codes "replay")
    || (bytes_eq name (codes "serve")
    || (bytes_eq name (codes "trace")
    || (bytes_eq name (codes "publish")
    || (bytes_eq name (codes "audit")
    || (bytes_eq name (codes "match") || (bytes_eq name (codes "cover") || bytes_eq name (codes "soak")))))))

-- What is asked for

-- the task, where the definition finds no fault with the words
abbrev pub taken : Kinds → Task → Task
taken [] task = task
taken (k ∷ ks) task = Usage

-- the task of `serve` and of `trace`, and that of `publish`, by all words
abbrev pub serve_by : Voice → Text → List Text → Task
serve_by voice name words =
    Serve voice (unwrap_or (turns_count (serve_app name) words) 0) (unwrap_or (broker_words (serve_app name) words) [])

abbrev pub publish_by : List Text → Task
publish_by words = Publish (unwrap_or (publisher_word words) []) (unwrap_or (turns_count publish_app words) 0)

-- what is asked of the command with a name by all words
abbrev pub task_named : Text → List Text → Task
task_named name words =
    if bytes_eq name (codes "replay") then taken (fault_of replay_app words) Replay
    else if bytes_eq name (codes "serve")
    then taken (fault_of (serve_app (codes "serve")) words) (serve_by Report (codes "serve") words)
    else if bytes_eq name (codes "trace")
    then taken (fault_of (serve_app (codes "trace")) words) (serve_by Journal (codes "trace") words)
    else if bytes_eq name (codes "publish") then taken (fault_of publish_app words) (publish_by words)
    else if bytes_eq name (codes "audit") then taken (fault_of audit_app words) Audit
    else if bytes_eq name (codes "match") then taken (fault_of match_app words) Match
    else if bytes_eq name (codes "cover") then taken (fault_of cover_app words) Cover
    else if bytes_eq name (codes "soak") then taken (fault_of soak_app words) (Soak (unwrap_or (soak_count words) 0))
    else Usage

-- what is asked for. The first word names the command
abbrev pub task_by : List Text → Task
task_by [] = Usage
task_by (name ∷ words) = task_named name (name ∷ words)

-- What is known of it

-- the number of turns of a server or of a client, and that of a soak, is in its range
abbrev pub IsInRange : Task → Type 0
IsInRange Usage = Unit {0}
IsInRange Replay = Unit {0}
IsInRange (Serve voice turns brokers) = (1 ≤ turns) × (turns ≤ 1000000)
IsInRange (Publish publisher turns) = (1 ≤ turns) × (turns ≤ 1000000)
IsInRange Audit = Unit {0}
IsInRange Match = Unit {0}
IsInRange Cover = Unit {0}
IsInRange (Soak count) = (1 ≤ count) × (count ≤ 2000)

-- the task is on the bytes of the source
abbrev pub IsReading : Task → Type 0
IsReading Usage = ⊥
IsReading Replay = Unit {0}
IsReading (Serve voice turns brokers) = Unit {0}
IsReading (Publish publisher turns) = Unit {0}
IsReading Audit = Unit {0}
IsReading Match = Unit {0}
IsReading Cover = Unit {0}
IsReading (Soak count) = ⊥

-- brokers are to serve: they have a disk
abbrev pub IsServing : Task → Type 0
IsServing Usage = ⊥
IsServing Replay = ⊥
IsServing (Serve voice turns brokers) = Unit {0}
IsServing (Publish publisher turns) = ⊥
IsServing Audit = ⊥
IsServing Match = ⊥
IsServing Cover = ⊥
IsServing (Soak count) = ⊥

-- brokers are to serve, or a client is to submit: they have a post
abbrev pub IsPosting : Task → Type 0
IsPosting Usage = ⊥
IsPosting Replay = ⊥
IsPosting (Serve voice turns brokers) = Unit {0}
IsPosting (Publish publisher turns) = Unit {0}
IsPosting Audit = ⊥
IsPosting Match = ⊥
IsPosting Cover = ⊥
IsPosting (Soak count) = ⊥
