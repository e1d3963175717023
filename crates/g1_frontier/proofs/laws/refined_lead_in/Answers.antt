use Rattle.g1_frontier.proofs.Leading.{refined_lead_in, refined_leads_in}
use Rattle.g1_frontier.proofs.laws.refined_lead_in.Goals as goal

pub returns-clause-window : goal.returns-clause-window
returns-clause-window c = refined_lead_in

pub returns-clause-region : goal.returns-clause-region
returns-clause-region c = refined_leads_in
