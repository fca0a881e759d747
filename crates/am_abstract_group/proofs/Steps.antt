-- What every run keeps in which no ballot is decided.
use Rattle.am_abstract_group.proofs.Words.{◌≡◌, refl, ◌∙◌, Group, Move, numbers, stores, accepts, learns, begins, raises, shows, serves, fetches, decides, gives_over}
use Rattle.am_abstract_group.proofs.Words.{welcomes, asks, departs, closes, stops, IsNoDecision, quiet, quietly, GroupKeeps, QuietRunsKeep}
use Rattle.am_abstract_group.proofs.Quiet.{numbered_entry_keeps_group, stored_entry_keeps_group, acceptance_keeps_group, learned_fronts_keep_group, begun_ballot_keeps_group, raised_promise_keeps_group, fetched_entry_keeps_group, ended_ballot_keeps_group}
use Rattle.am_abstract_group.proofs.Quiet.{welcome_keeps_group, leave_request_keeps_group, departure_keeps_group, last_leave_keeps_group, stop_keeps_group}
use Rattle.am_abstract_group.proofs.{Start.start_group_is_kept, Ballots.show_keeps_group, Ballots.serve_keeps_group}

-- each move but a decision, whoever stopped
pub quiet_move_keeps_group : {s t : Group} (move : Move s t) → IsNoDecision move → GroupKeeps s → GroupKeeps t
quiet_move_keeps_group (numbers {s = s} i e a b c) q k = numbered_entry_keeps_group s k i e a b c
quiet_move_keeps_group (stores {s = s} i e a b c d f) q k = stored_entry_keeps_group s k i e a b c d f
quiet_move_keeps_group (accepts {s = s} i n a b) q k = acceptance_keeps_group s k i n a b
quiet_move_keeps_group (learns {s = s} i told acc a b c d e f g) q k = learned_fronts_keep_group s k i told acc a c d f g
quiet_move_keeps_group (begins {s = s} i a b c d) q k = begun_ballot_keeps_group s k i a b c d
quiet_move_keeps_group (raises {s = s} i stamp a b) q k = raised_promise_keeps_group s k i stamp a b
quiet_move_keeps_group (shows {s = s} i a b c d e) q k = show_keeps_group s k i a b c d e
quiet_move_keeps_group (serves {s = s} i list a b c) q k = serve_keeps_group s k i list a b c
quiet_move_keeps_group (fetches {s = s} i h list e a b c d f) q k = fetched_entry_keeps_group s k i h list e a b c d f
quiet_move_keeps_group (decides {s = s} i v a) q k = absurd q
quiet_move_keeps_group (gives_over {s = s} i) q k = ended_ballot_keeps_group s k i
quiet_move_keeps_group (welcomes {s = s} j stamp base join a) q k = welcome_keeps_group s k j stamp base join a
quiet_move_keeps_group (asks {s = s} i a b) q k = leave_request_keeps_group s k i a b
quiet_move_keeps_group (departs {s = s} i before a) q k = departure_keeps_group s k i before a
quiet_move_keeps_group (closes {s = s} i n a b c d) q k = last_leave_keeps_group s k i n a b c d
quiet_move_keeps_group (stops {s = s} i) q k = stop_keeps_group s k i

quiet_current : {s t : Group} (move : Move s t) → IsNoDecision move → t.views.current ≡ s.views.current
quiet_current (decides i v a) q = absurd q
quiet_current _ q = refl

pub quiet_group_runs_keep : QuietRunsKeep
quiet_group_runs_keep founders first resilience s (quiet may) = record { kept = start_group_is_kept founders first resilience may; current = refl }
quiet_group_runs_keep founders first resilience s (quietly {s = r} run move q) =
    let o = quiet_group_runs_keep founders first resilience r run in
    record { kept = quiet_move_keeps_group move q o.kept; current = quiet_current move q ∙ o.current }
