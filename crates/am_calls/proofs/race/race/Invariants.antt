use Rattle.am_calls.proofs.race.race.Given as goal

abbrev pub ghosts-race_over : goal.ghosts-race_over
ghosts-race_over g a = record { wire = a.outset.wire.id; plan = a.outset.plan.now }
