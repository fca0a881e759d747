use Rattle.am_calls.proofs.job.let_do.Given as goal

abbrev pub ghosts-does_over : goal.ghosts-does_over
ghosts-does_over g a = record { wire = a.outset.wire.id; plan = a.outset.plan.now }
