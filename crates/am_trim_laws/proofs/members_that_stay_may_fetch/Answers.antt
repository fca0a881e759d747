use Rattle.am_trim_laws.proofs.Staying.{coordinators_past_join_fetch, staying_members_lag, staying_members_may_gather}
use Rattle.am_trim_laws.proofs.members_that_stay_may_fetch.Goals as goal

pub returns-clause-lag : goal.returns-clause-lag
returns-clause-lag c = staying_members_lag

pub returns-clause-gather : goal.returns-clause-gather
returns-clause-gather c = staying_members_may_gather

pub returns-clause-fetch : goal.returns-clause-fetch
returns-clause-fetch c = coordinators_past_join_fetch
