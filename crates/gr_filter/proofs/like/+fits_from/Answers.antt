-- The first place where the pattern fits up to its next '%' serves
use Rattle.std.proofs.Common.{◌≡◌, ◌||◌, sym, ap, ◌∙◌, arith, rules}
use Rattle.gr_filter.specs.Like.{is_nothing, fits}
use Rattle.gr_filter.specs.Reach.{whole, differs, reach_of, any_later}
use Rattle.gr_filter.proofs.FirstFit.{up_to_serves, here_or_later, shorter, is_nothing-length}
use Rattle.gr_filter.proofs.like.+fits_from.Goals as goal

pub fits_from-fits_from-requires : goal.fits_from-fits_from-requires
fits_from-fits_from-requires t c =
    let s = shorter c.args.pattern.now c.args.text.now c.in-UpTo.behind.now c.in-UpTo.rest.now (sym c.front_of.ensures ∙ ap reach_of c.in-UpTo.is) in
    (omega (arith, s.pattern, s.text, c.decreases), tt)

pub fits_from-returns-in-UpTo : goal.fits_from-returns-in-UpTo
fits_from-returns-in-UpTo t c =
    c.fits_from.ensures ∙ sym (up_to_serves c.args.pattern.now c.args.text.now c.in-UpTo.behind.now c.in-UpTo.rest.now (sym c.front_of.ensures ∙ ap reach_of c.in-UpTo.is))

pub fits_from-returns-then-is_empty : goal.fits_from-returns-then-is_empty
fits_from-returns-then-is_empty t c =
    let empty : c.is_empty.result ≡ is_nothing c.in-Whole.rest.now = search (rules, is_nothing-length) in
    let here = here_or_later c.args.pattern.now c.args.text.now (whole c.in-Whole.rest.now) (sym c.front_of.ensures ∙ ap reach_of c.in-Whole.is) in
    c.if-is_empty.true ∙ sym (here ∙ ap (λ b. b || any_later (fits c.args.pattern.now) c.args.text.now) (sym empty ∙ c.if-is_empty.true))

pub fits_from-returns-else-is_empty : goal.fits_from-returns-else-is_empty
fits_from-returns-else-is_empty t c =
    let empty : c.is_empty.result ≡ is_nothing c.in-Whole.rest.now = search (rules, is_nothing-length) in
    let here = here_or_later c.args.pattern.now c.args.text.now (whole c.in-Whole.rest.now) (sym c.front_of.ensures ∙ ap reach_of c.in-Whole.is) in
    c.fits_later.ensures ∙ sym (here ∙ ap (λ b. b || any_later (fits c.args.pattern.now) c.args.text.now) (sym empty ∙ c.if-is_empty.false))

pub fits_from-returns-in-Differs : goal.fits_from-returns-in-Differs
fits_from-returns-in-Differs t c =
    c.fits_later-in-Differs.ensures ∙ sym (here_or_later c.args.pattern.now c.args.text.now differs (sym c.front_of.ensures ∙ ap reach_of c.in-Differs.is))
