use Rattle.std.proofs.Common.{true, ◌++◌, ap, ◌∙◌}
use Rattle.gr_out.specs.Page.{PageView}
use Rattle.gr_journal.specs.Groups.{said_text}
use Rattle.gr_trace.specs.declared.gathering.Gathered.{Gathered}
use Rattle.gr_trace.proofs.Putting.{told_put, all_put}
use Rattle.gr_trace.proofs.running.put_gathered.Goals as goal

pub returns-then-not-whole-clause-put : goal.returns-then-not-whole-clause-put
returns-then-not-whole-clause-put c =
    told_put c.args.topo.now c.args.gathered.now c.args.whole c.args.page.now.held c.push_said.new.text c.as_slice.result.now c.if-not-whole.true (c.as_slice.ensures ∙ ap (λ (v : Gathered). v.lines.held) c.gathered.view_is)
    (c.in-Ok.ensures ∙ ap (λ (p : PageView). p.held ++ said_text true c.as_slice.result.now) c.page.view_is)

pub returns-clause-put : goal.returns-clause-put
returns-clause-put c =
    all_put c.args.topo.now c.args.gathered.now c.args.whole c.args.page.now.held c.push_said.new.text c.push_outs.new.text c.as_slice.result.now c.as_slice-2.result.now c.if-not-whole.false
    (c.as_slice.ensures ∙ ap (λ (v : Gathered). v.lines.held) c.gathered.view_is) (c.as_slice-2.ensures ∙ ap (λ (v : Gathered). v.offers) c.gathered.view_is) (c.in-Ok.ensures ∙ ap (λ (p : PageView). p.held ++ said_text true c.as_slice.result.now) c.page.view_is) c.in-Ok-push_outs.ensures
