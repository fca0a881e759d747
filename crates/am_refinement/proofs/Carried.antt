-- Each change of a node as moves of the group.
use Rattle.am_refinement.proofs.Words.{or_false_second_is_false, hearing_member_is_member, ◌≡◌, ℕ, ◌==◌, ◌&&◌, true, refl, sym, ap, subst, nat_lt, Stamp, View, stamps_are_equal, Group, Node, view}
use Rattle.am_refinement.proofs.Words.{acts_in_its_view, is_member, node_unsettled_count, has_log_by_status, has_departed, Ballot, is_unfinished_ballot, refresh, member_hears_other, hears_packet_of_its_view}
use Rattle.am_refinement.proofs.Words.{hears_packet_of_sequencer, World, both_of_and, refreshes, settles, begins_list, promises, opens, looks, stores_view, asks_to_join}
use Rattle.am_refinement.proofs.Words.{asks_to_leave, refresh_rests_with_list, settle_changes_only_sends, StandsBut, within, BallotVerdict, Cause, BallotIsLookedAt, LooksAtBallot, finds_itself_out, waits}
use Rattle.am_refinement.proofs.Words.{fetches_from_best, finds_too_few, finds_no_room, decides, MayMove, NeedsLook, after_look, ChangesStand}
use Rattle.am_step_laws.specs.Changes.{numbers, stores, departs, fetches, closes}
use Rattle.am_refinement.specs.Steps.{of_line}
use Rattle.am_refinement.proofs.Changes.{same_node_stands_without_move, promise_stands_as_move, open_ballot_stands_as_move, undecided_look_stands_as_move, looked_at_ballot_is_unfinished, leave_request_stands_as_move, departure_stands_as_move}
use Rattle.am_refinement.proofs.{Names.MovesOntoStandingGroup, Decisions.decision_stands_as_move, Entries.stored_piece_stands_as_move, Entries.numbered_entry_stands_as_move, Entries.welcome_stands_as_move}

pub hearing_in_view_is_member : (x : Node) (from : ℕ) (v : Stamp) → hears_packet_of_sequencer x from v ≡ true → is_member x.status ≡ true
hearing_in_view_is_member x from v h = hearing_member_is_member x from
    (both_of_and (member_hears_other x from) (acts_in_its_view x && stamps_are_equal v (view x)) (both_of_and (hears_packet_of_its_view x from v) (v.by == from) h).0).0

-- ---- each change

same_to_it : (w : World) (name : ℕ) (x y : Node) (s : Group) → y.core.log ≡ x.core.log → y.status ≡ x.status → y.leaving ≡ x.leaving
    → y.core.promise ≡ x.core.promise → y.ballot ≡ x.ballot → y.core.start ≡ x.core.start → StandsBut name (within w name x) s
    → MovesOntoStandingGroup name (within w name y) s
same_to_it w name x y s log stays leaving promise ballot start_ h = same_node_stands_without_move w name x y s
    (assumption (ap has_log_by_status stays, ap has_departed stays, ap is_unfinished_ballot ballot)) h

looked : (w : World) (name : ℕ) (c : Cause) (x : Node) (b : Ballot) (v : BallotVerdict) (s : Group) → MayMove w name c x s → BallotIsLookedAt c x b
    → (look : LooksAtBallot x b v) → NeedsLook s name look → StandsBut name (within w name x) s → MovesOntoStandingGroup name (within (after_look look w) name v.node) s
looked w name c x b v s may why (finds_itself_out y) is h = undecided_look_stands_as_move w name c x b v s may (looked_at_ballot_is_unfinished c x b why) (finds_itself_out y) (λ z. z) h
looked w name c x b v s may why (waits y z) is h = undecided_look_stands_as_move w name c x b v s may (looked_at_ballot_is_unfinished c x b why) (waits y z) (λ u. u) h
looked w name c x b v s may why (fetches_from_best y z u) is h = undecided_look_stands_as_move w name c x b v s may (looked_at_ballot_is_unfinished c x b why) (fetches_from_best y z u) (λ t. t) h
looked w name c x b v s may why (finds_too_few y z) is h = undecided_look_stands_as_move w name c x b v s may (looked_at_ballot_is_unfinished c x b why) (finds_too_few y z) (λ u. u) h
looked w name c x b v s may why (finds_no_room y) is h = undecided_look_stands_as_move w name c x b v s may (looked_at_ballot_is_unfinished c x b why) (finds_no_room y) (λ z. z) h
looked w name c x b v s may why (decides y) is h = decision_stands_as_move w name c x b s may why is h

pub changes_stand_as_moves : ChangesStand
changes_stand_as_moves w name c o x y s refreshes may is h = let r = refresh_rests_with_list x in
    same_to_it w name x (refresh x) s r.log r.rests.status r.rests.leaving r.rests.promise r.rests.ballot r.begins h
changes_stand_as_moves w name c o x y s settles may is h = subst (λ n. MovesOntoStandingGroup name (within w name n) s) (sym (settle_changes_only_sends x))
    (same_to_it w name x _ s refl refl refl refl refl refl h)
changes_stand_as_moves w name c o x y s (numbers e leads room why) may is h = numbered_entry_stands_as_move w name c x e s may leads why is h
changes_stand_as_moves w name c o x y s (stores from v base acc number e by heard plain may_) may is h = stored_piece_stands_as_move w name x y e s may.few may.runs
    (hearing_in_view_is_member x from v heard) (record { log = refl; stays = refl; leaving = refl; promise = refl; ballot = refl; start = refl }) (of_line is) h
changes_stand_as_moves w name c o x y s (begins_list from v base join image was says may_) may is h = welcome_stands_as_move w name c x v base join image s may is h
changes_stand_as_moves w name c o x y s (departs from v number was by leaves) may is h = departure_stands_as_move w name from number v c x s may was by leaves h
changes_stand_as_moves w name c o x y s (promises v low why) may is h = promise_stands_as_move w name c x v s may low why h
changes_stand_as_moves w name c o x y s (opens least resilience by may_) may is h =
    open_ballot_stands_as_move w name c x y s may may_.member may_.listed may_.stays refl refl refl refl refl refl h
changes_stand_as_moves w name c o x y s (looks b verdict over_ why look was) may is h = looked w name c x b verdict s may why look is h
changes_stand_as_moves w name c o x y s (fetches from v base number e was by promise below why may_) may is h = stored_piece_stands_as_move w name x y e s may.few may.runs
    (hearing_member_is_member x from by) (record { log = refl; stays = refl; leaving = refl; promise = refl; ballot = refl; start = refl }) is h
changes_stand_as_moves w name c o x y s (stores_view from base number v was by own other promise below may_) may is h = stored_piece_stands_as_move w name x y
    (View v) s may.few may.runs (hearing_member_is_member x from by)
    (record { log = refl; stays = refl; leaving = refl; promise = refl; ballot = refl; start = refl }) (of_line is) h
changes_stand_as_moves w name c o x y s (asks_to_join was asked) may is h = same_node_stands_without_move w name x y s
    (assumption (sym (ap has_log_by_status asked), sym (ap has_departed asked))) h
changes_stand_as_moves w name c o x y s (asks_to_leave was member stays done) may is h = leave_request_stands_as_move w name c x s may member
    (or_false_second_is_false (nat_lt 0 (node_unsettled_count x)) (is_unfinished_ballot x.ballot) done) h
changes_stand_as_moves w name c o x y s (closes leads leaves alone room) may is h = absurd is
changes_stand_as_moves w name c o x y s _ may is h = same_to_it w name x y s refl refl refl refl refl refl h
