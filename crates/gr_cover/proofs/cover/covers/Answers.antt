-- What is answered says whether one filter covers the other, by the laws of the answer
use Rattle.std.proofs.Common.{◌≡◌, ◌↔◌, false, sym, subst}
use Rattle.std.proofs.lemmas.Result.{IfOk-weaker}
use Rattle.gr_filter.specs.Tree.{tree_of}
use Rattle.gr_cover.specs.declared.cover.Cover.{Cover}
use Rattle.gr_cover.specs.declared.cover.Cover.TheVariants.{Yes, Unknown}
use Rattle.gr_cover.specs.Covering.{covered}
use Rattle.gr_cover.specs.Answer.{answer, is_plain_pair, IsDecided, TellsApart}
use Rattle.gr_cover.proofs.Verdicts.{yes_says, no_says, other_says}
use Rattle.gr_cover.proofs.cover.covers.Goals as goal

pub returns-clause-yes : goal.returns-clause-yes
returns-clause-yes c =
    let wide = tree_of c.args.wide.now in
    let narrow = tree_of c.args.narrow.now in
    let P = λ (d : Cover). (d ≡ Yes) ↔ (IsDecided wide narrow × covered wide narrow) in
    IfOk-weaker c.decide.result (λ d. d ≡ answer wide narrow) P (λ d e. subst P (sym e) (yes_says wide narrow c.decide.ensures.written.0 c.decide.ensures.written.1)) c.decide.ensures.answer

pub returns-clause-no : goal.returns-clause-no
returns-clause-no c =
    let wide = tree_of c.args.wide.now in
    let narrow = tree_of c.args.narrow.now in
    IfOk-weaker c.decide.result (λ d. d ≡ answer wide narrow) (λ d. TellsApart wide narrow d)
    (λ d e. subst (λ x. TellsApart wide narrow x) (sym e) (no_says wide narrow c.decide.ensures.written.0 c.decide.ensures.written.1)) c.decide.ensures.answer

pub returns-clause-other : goal.returns-clause-other
returns-clause-other c =
    let wide = tree_of c.args.wide.now in
    let narrow = tree_of c.args.narrow.now in
    let P = λ (d : Cover). (d ≡ Unknown 0) ↔ (is_plain_pair wide narrow ≡ false) in
    IfOk-weaker c.decide.result (λ d. d ≡ answer wide narrow) P (λ d e. subst P (sym e) (other_says wide narrow)) c.decide.ensures.answer
