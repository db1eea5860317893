use Rattle.law_agent.proofs.Sounds.{sounds}
use Rattle.law_subjects.proofs.reached_hold_values_of_domains.Goals as goal

pub returns : goal.returns
returns c = λ p csp choices.
    let sound = (sounds p csp choices).sound in
    record {
      values = λ i. (sound i).in_domain;
      views = λ i. (sound i).in_view;
      nogoods = λ i x h. ((sound i).proper x h).in_domains;
    }
