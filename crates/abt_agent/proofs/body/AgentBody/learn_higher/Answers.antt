use Rattle.std.proofs.Common.{◌≡◌, ◌<◌, true, ◌∙◌, rules}
use Rattle.abt_defs.specs.Steps as steps
use Rattle.abt_parts.specs.Views.{view_of, stamped_of}
use Rattle.abt_agent.specs.Bodies.{agent_of}
use Rattle.abt_agent.proofs.Fits.{fits_learnt}
use Rattle.abt_agent.proofs.body.AgentBody.learn_higher.Goals as goal

pub returns-clause-fits : goal.returns-clause-fits
returns-clause-fits c =
    let low : c.args.var < c.args.self.now.known.me = search rules in
    let newer : steps.is_newer (view_of c.args.self.now.known.view c.args.var) c.args.told.stamp ≡ true = search rules in
    c.in_ok-is_news.ensures.news ∙ newer
    ∙ fits_learnt c.args.self.now.known.me c.args.var (stamped_of c.args.told) (agent_of c.args.self.now) (agent_of c.learn.new.self) low c.in_ok-is_news.ensures.agent newer
