-- Fitting is reaching, and what comes behind
use Rattle.std.proofs.Common.{◌≡◌, sym, ap, ◌∙◌, rules}
use Rattle.gr_filter.specs.Like.{is_nothing}
use Rattle.gr_filter.specs.Reach.{reach_of}
use Rattle.gr_filter.proofs.FirstFit.{after, fits_after, is_nothing-length}
use Rattle.gr_filter.proofs.like.fits.Goals as goal

pub returns-in-Differs : goal.returns-in-Differs
returns-in-Differs c = ap after (ap reach_of (sym c.in-Differs.is) ∙ c.front_of.ensures) ∙ sym (fits_after c.args.pattern.now c.args.text.now)

pub returns-in-Whole : goal.returns-in-Whole
returns-in-Whole c =
    let empty : c.is_empty.result ≡ is_nothing c.in-Whole.rest.now = search (rules, is_nothing-length) in
    empty ∙ ap after (ap reach_of (sym c.in-Whole.is) ∙ c.front_of.ensures) ∙ sym (fits_after c.args.pattern.now c.args.text.now)

pub returns-in-UpTo : goal.returns-in-UpTo
returns-in-UpTo c = c.fits_from.ensures ∙ ap after (ap reach_of (sym c.in-UpTo.is) ∙ c.front_of.ensures) ∙ sym (fits_after c.args.pattern.now c.args.text.now)
