use Rattle.am_generator.proofs.Words.{◌≡◌, first_drive, drive, IsDriven}
use Rattle.am_generator.proofs.generate.generate_events.Given as goal

abbrev pub invariant-loop-done : goal.invariant-loop-done
invariant-loop-done l = record {
  driven : IsDriven (drive l._done (first_drive l.seed)) l.generator;
  made : l.events ≡ (drive l._done (first_drive l.seed)).play.events;
}
