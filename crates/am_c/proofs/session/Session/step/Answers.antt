use Rattle.am_c.proofs.session.Session.step.Goals as goal

pub returns-clause-told : goal.returns-clause-told
returns-clause-told c done rules name before waiting behind =
    c.tell.ensures.told done rules name before _ (c.in_default.ensures.waits rules name before waiting behind)
