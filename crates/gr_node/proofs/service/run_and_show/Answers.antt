use Rattle.gr_model.specs.NetOf.{net_of}
use Rattle.gr_node.specs.Seen.{seen}
use Rattle.gr_node.specs.Plan.{run_acts}
use Rattle.gr_node.specs.Went.{outside}
use Rattle.gr_node.proofs.Ended.{ran_shown, ran_failed, end_is_post, still_ended}
use Rattle.gr_node.proofs.service.run_and_show.Goals as goal

pub returns-in-Ok-clause-ran : goal.returns-in-Ok-clause-ran
returns-in-Ok-clause-ran g c =
    let t = c.args.site.now.topo.now in
    let hosted = c.args.site.now.hosted.now in
    let went = c.in-Ok.ensures.ran in
    record {
      came = went.0;
      closed = went.1.0;
      within = went.1.1.0;
      bytes = went.1.1.1.0;
      ended = still_ended c.put_shown.result went.1.1.1.1.0;
      ran = ran_shown _ t hosted g.P.Post.tells (run_acts (net_of t) hosted c.args.steps.now went.0 went.1.0) (seen c.args.node.now) (seen c.run.new.node)
          (outside (g.K.Sink.taken c.args.sink.now) c.args.page.now.held (g.P.Post.journal c.args.post.now))
          (outside (g.K.Sink.taken c.run.new.sink) c.run.new.page.held (g.P.Post.journal c.run.new.post))
          _ went.1.1.1.1.1.0 (g.K.Sink.taken c.put_shown.new.sink) c.put_shown.new.page.held c.put_shown.result
          c.put_shown.ensures.told c.put_shown.ensures.front c.put_shown.ensures.puts.cause;
      kept = went.1.1.1.1.1.1.0;
      stood = went.1.1.1.1.1.1.1;
    }

pub returns-in-Ok-clause-serving : goal.returns-in-Ok-clause-serving
returns-in-Ok-clause-serving g c = λ end. c.in-Ok.ensures.serving

pub returns-in-Err-clause-ran : goal.returns-in-Err-clause-ran
returns-in-Err-clause-ran g c =
    let t = c.args.site.now.topo.now in
    let hosted = c.args.site.now.hosted.now in
    let went = c.in-Err.ensures.ran in
    record {
      came = went.0;
      closed = went.1.0;
      within = went.1.1.0;
      bytes = went.1.1.1.0;
      ended = tt;
      ran = ran_failed t hosted g.P.Post.tells (run_acts (net_of t) hosted c.args.steps.now went.0 went.1.0) (seen c.args.node.now) (seen c.run.new.node)
          (outside (g.K.Sink.taken c.args.sink.now) c.args.page.now.held (g.P.Post.journal c.args.post.now))
          (outside (g.K.Sink.taken c.run.new.sink) c.run.new.page.held (g.P.Post.journal c.run.new.post))
          c.in-Err.fault c.in-Err.ensures.keeps.never_damaged went.1.1.1.1.1.0;
      kept = went.1.1.1.1.1.1.0;
      stood = went.1.1.1.1.1.1.1;
    }

pub returns-in-Err-clause-serving : goal.returns-in-Err-clause-serving
returns-in-Err-clause-serving g c = λ end. c.in-Err.ensures.serving_at_post (end_is_post _ c.in-Err.fault end)
