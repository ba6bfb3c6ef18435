-- The list with one join more has room for it, and is that of the log once it is logged; where memory is refused no call was made
use Rattle.std.proofs.Common.{◌≡◌, true, [], ◌∷◌, ◌++◌, refl, sym, ap, ◌∙◌, subst}
use Rattle.gr_event.specs.declared.join.Join.{Join}
use Rattle.gr_event.specs.Joins.{Joins, may_join}
use Rattle.gr_publog.proofs.Passing.{appends_unmade}
use Rattle.gr_pubend.specs.Log.{Log, said, with_join}
use Rattle.gr_model.specs.declared.report.Report.TheVariants as line
use Rattle.gr_model.specs.Net.{all_late}
use Rattle.gr_model.specs.NetOf.{net_of}
use Rattle.gr_model.specs.Broker.{View, Outcome, learn, seen, with_joins}
use Rattle.gr_broker_relay.specs.Held.{held_view}
use Rattle.gr_broker_relay.specs.Told.{Adds}
use Rattle.gr_broker.proofs.Hosted.{line_first}
use Rattle.gr_broker.proofs.Joined.{kept_with, may_be_held, more_late}
use Rattle.gr_broker.proofs.joining.log_join.Goals as goal

pub returns-in-Err-clause-lane : goal.returns-in-Err-clause-lane
returns-in-Err-clause-lane g c = λ t. appends_unmade c.stands_read.ensures c.args.log.now _ _ (c.requires.stands t) refl _

pub with-requires : goal.with-requires
with-requires g c =
    let j : Join = record { subscriber = c.args.s; tick = c.args.tick } in
    ap (λ (js : Joins). may_join js j) c.joins.ensures
    ∙ may_be_held c.args.log.now.state c.args.tick c.args.s c.is_broken.ensures.state c.requires.planned.0

pub returns-in-Err-with-clause-lane : goal.returns-in-Err-with-clause-lane
returns-in-Err-with-clause-lane g c = λ t. appends_unmade c.stands_read.ensures c.args.log.now _ _ (c.requires.stands t) refl _

-- the list that is held then
held_then : (j : Join) (dest more joins held : Joins) → dest ≡ more → more ≡ joins ++ j ∷ [] → joins ≡ held → dest ≡ held ++ j ∷ []
held_then j dest more joins held e m h = e ∙ m ∙ ap (λ (js : Joins). js ++ j ∷ []) h

pub log_and_learn-requires-clause-at : goal.log_and_learn-requires-clause-at
log_and_learn-requires-clause-at g c =
    let s = c.args.site.now in
    let l = c.args.log.now in
    let more = held_then _ _ _ _ _ c.replace-before.ensures.after c.in-Ok-with.ensures c.joins.ensures in
    record {
      site = c.requires.at.site;
      host = c.requires.at.host;
      kept = kept_with (net_of s.topo.now) s.publisher s.broker (held_view c.args.held.now) c.replace-before.new.dest c.requires.at.kept
          (subst (λ (js : Joins). all_late (net_of s.topo.now) js ≡ true) (sym more) (more_late s.topo.now l.state c.args.tick c.args.s c.requires.late c.is_broken.ensures.state c.requires.planned.0));
    }

pub returns-in-Ok-log_and_learn-clause-told : goal.returns-in-Ok-log_and_learn-clause-told
returns-in-Ok-log_and_learn-clause-told g c =
    let s = c.args.site.now in
    let is = held_then _ _ _ _ _ c.replace-before.ensures.after c.in-Ok-with.ensures c.joins.ensures in
    let next : Log = with_join (said c.args.log.now) c.args.tick c.args.s in
    let u : View = with_joins (held_view c.args.held.now) next.joins in
    line_first c.tell.new.into c.log_and_learn.new.into (learn (seen (net_of s.topo.now) u) s.publisher s.broker c.args.fresh.now u next) (line.Joined c.args.s s.publisher c.args.tick) c.in-Ok.ensures.lines c.in-Ok.ensures.frames
    (subst (λ (js : Joins). let x : View = with_joins (held_view c.args.held.now) js in let o : Outcome = learn (seen (net_of s.topo.now) x) s.publisher s.broker c.args.fresh.now x next in Adds o.lines o.frames c.tell.new.into c.log_and_learn.new.into)
    is (c.in-Ok-log_and_learn.ensures.adds next))

pub returns-in-Ok-log_and_learn-clause-view : goal.returns-in-Ok-log_and_learn-clause-view
returns-in-Ok-log_and_learn-clause-view g c =
    let s = c.args.site.now in
    let is = held_then _ _ _ _ _ c.replace-before.ensures.after c.in-Ok-with.ensures c.joins.ensures in
    let next : Log = with_join (said c.args.log.now) c.args.tick c.args.s in
    subst (λ (js : Joins). let x : View = with_joins (held_view c.args.held.now) js in let o : Outcome = learn (seen (net_of s.topo.now) x) s.publisher s.broker c.args.fresh.now x next in held_view c.log_and_learn.new.held ≡ o.view)
    is (c.in-Ok-log_and_learn.ensures.view next)
