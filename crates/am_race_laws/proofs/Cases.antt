-- The cases, computed.
use Rattle.am_race_laws.proofs.Words.{refl, answer_of, own_answer, are_calls, is_receive, are_finished, ReceivesUseTheirTurns}

pub receives_use_their_turns : ReceivesUseTheirTurns
unfolding answer_of own_answer are_calls is_receive are_finished
receives_use_their_turns = record {
  used = record { callers_ = refl; finished_ = refl; stopped_ = refl };
  early = record { callers_ = refl; finished_ = refl; stopped_ = refl };
  later = record { callers_ = refl; finished_ = refl; stopped_ = refl };
  unended = record { callers_ = refl; finished_ = refl; stopped_ = refl };
}
