use Rattle.std.proofs.Common.{ap, ap₂, sym, subst, ◌≡◌, ◌∙◌, [], Some, codes, option_map, unwrap_or}
use Rattle.std.specs.Str.Parse.{ParsesUnsigned, ExplainsUnsignedError, HasUnsignedDigitsIfOk}
use Rattle.clap.specs.Words.{App, HasKind, all_of, fault_of, is_simple, is_simple_and_free, one_of, matches_of, found_of}
use Rattle.clap.proofs.WalkLemmas.{one_text-rows}
use Rattle.gr_top.specs.declared.words.Task.TheVariants.{Serve}
use Rattle.gr_top.specs.Words.{texts_of, serve_app, serve_by, turns_count, broker_words, number_said}
use Rattle.gr_top.proofs.WordLemmas.{kept, given_up, unsigned_reads}
use Rattle.gr_top.proofs.words.serve_task.Goals as goal

pub returns-in_ok-brokers-in-Some-clause-task : goal.returns-in_ok-brokers-in-Some-clause-task
returns-in_ok-brokers-in-Some-clause-task c =
    let words = texts_of c.args.words.now in
    let name = c.args.name.now in
    let app = c.in_ok-command.ensures.app in
    let free = ap (λ (a : App). fault_of a words) (sym app) ∙ c.in-Ok.ensures.kinds (ap is_simple_and_free app) in
    let has = c.in_ok-command.ensures.reads c.in-Ok.matches c.in-Ok.ensures.parsed in
    let rows = (c.in-Ok.ensures.matches (ap is_simple app)).0 ∙ ap (λ (a : App). matches_of a words) app in
    let text = ap (one_of (codes "turns")) (sym rows) ∙ sym (one_text-rows (found_of c.in-Ok.matches) (codes "turns")) ∙ has.1 in
    let read = unsigned_reads _ (λ bs r. ParsesUnsigned 64 10 bs r × ExplainsUnsignedError 10 bs r × HasUnsignedDigitsIfOk bs r) 1 1000000 has.0 c.get_one.result (c.get_one.ensures.value has.0 has.1) (λ u x g. g.0) has.2 in
    let turns : turns_count (serve_app name) words ≡ Some c.in-Some.turns = ap (option_map number_said) text ∙ ap (λ n. Some n) (sym read.2) ∙ sym read.1 ∙ c.in-Some.is in
    let brokers : c.in_ok-brokers-in-Some.brokers ≡ unwrap_or (broker_words (serve_app name) words) [] = c.in_ok-brokers-in-Some.ensures ∙ ap (λ rs. unwrap_or (all_of (codes "brokers") rs) []) rows in
    ap₂ (Serve c.args.voice) (ap (λ n. unwrap_or n 0) (sym turns)) brokers ∙ kept (fault_of (serve_app name) words) (serve_by c.args.voice name words) free

pub returns-in-Err-clause-task : goal.returns-in-Err-clause-task
returns-in-Err-clause-task c =
    let words = texts_of c.args.words.now in
    let app = c.in_ok-command.ensures.app in
    let has = subst (λ (a : App). HasKind (fault_of a words) c.in-Err.error) app (c.in-Err.ensures.kinds (ap is_simple_and_free app)) in
    given_up _ c.in-Err.error (serve_by c.args.voice c.args.name.now words) c.refused.result has c.refused.ensures.usage c.refused.ensures.kind
