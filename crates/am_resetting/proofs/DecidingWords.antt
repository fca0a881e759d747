-- The words of this crate's proofs, of the crates and definitions that they come from.
pub use Rattle.std.{proofs.lemmas.Bool.cases_lt, proofs.lemmas.Bool.Decides.nat_tests, proofs.lemmas.List.get_or_past, proofs.lemmas.List.length-map}
pub use Rattle.std.{specs.Option.IfSome}
pub use Rattle.std.proofs.Common.{◌≡◌, ℕ, ◌<◌, ◌≤◌, List, Bool, true, false, not, nat_lt, ◌==◌, sym, ◌∙◌, ap, arith, ◌⊎◌, ⊎_elim, inl, inr, ◌+◌, [], ◌∷◌, ◌&&◌}
pub use Rattle.std.proofs.Common.{Some, refl, subst, length-append, ◌||◌, Option, None, option_map, slice_index, ◌-◌, max, if◌then◌else◌, unwrap_or, length}
pub use Rattle.std.proofs.Common.{nat_le}
pub use Rattle.am_base.specs.{declared.image.Vote.Vote, Votes.NamedVote, Votes.best_vote, Votes.better_vote_of, Votes.all_names, Votes.vote_is_less}
pub use Rattle.am_base.specs.{declared.image.Image.Image, declared.name.Stamp.Stamp, declared.entry.Entry.Entry, declared.entry.GroupView.GroupView}
pub use Rattle.am_base.specs.{Stamps.stamp_is_less, Stamps.stamps_are_equal, declared.outcome.Outcome.TheVariants.Overtaken, declared.outcome.Outcome.Outcome}
pub use Rattle.am_base.specs.{declared.image.Row.Row, declared.image.Report.Report, Founding.Rules}
pub use Rattle.am_base.specs.Names.{has, size, rank_of_name, name_of_place_and_life, names_are_within, list_by_place, names_of, place_of_name, life_of_name}
pub use Rattle.am_base.specs.declared.entry.Entry.TheVariants.{Data, Join, Leave, View}
pub use Rattle.am_base.specs.Lists.{Log, top_of_log, log_with_entry, members_of_image, blank_row, is_blank_image, row_at_place, member_life_of_row, row_after_view}
unfoldable pub use Rattle.am_base.specs.{Votes.best_vote_from, Lists.after, Lists.fits}
pub use Rattle.am_base.proofs.{Places.slice_index-by_place, Places.get_or-by_place, Places.length-by_place, Greatest.both_of_and}
pub use Rattle.am_node_defs.specs.{Cores.CoreState, Cores.CoreChangesAlike, Cores.trim_core_to, Cores.CoreKeepsEndOf, Kept.IsKept}
pub use Rattle.am_node_defs.proofs.{Ends.top_of_end_is_top, Ends.end_has_image_of_whole_log, Ends.told_by_pushed_entry, CoreLaws.untrimmed_core_keeps_own_log, Folds.split_on_bool_of_log, Lives.row_at_place_of_image, Lives.members_of_at_row_place}
pub use Rattle.am_node_storage.proofs.Rows.{set_within_by_each_place, set_not_within_by_place}
pub use Rattle.am_node_defs.specs.Reports.{least_of_names, reports_beginning_at}
pub use Rattle.am_node_defs.specs.Sends.{next_request}
pub use Rattle.am_model.specs.Node.{Node, Ballot, has_log_by_status, top, image_of_node, view, members, acts_in_its_view, is_member, is_sequencer, push_entry, life_where_name_passes, trim_node_up_to}
pub use Rattle.am_model.specs.Ballots.{own_vote, is_waited_for, need_set_without_given_up, overtake_lower_ballot, node_with_promise, BallotVerdict, taken_number_of_voter, ballot_with_answer, ballot_with_end, verdict_going_on, verdict_ending}
pub use Rattle.am_model.specs.Ballots.{decided_view, decide_view, trim_to_least_taken_by}
pub use Rattle.am_model.specs.Ends.{IsEndOf, node_with_log}
unfoldable pub use Rattle.am_model.specs.{Node.names_that_pass, Ballots.best_vote_for_ballot, Ballots.decide}
pub use Rattle.am_model.proofs.Sets.{passing_name_is_in_those, set_with_name_has_size}
pub use Rattle.am_ballots.specs.Kept.{KeptBallot, ballot_of}
pub use Rattle.am_node_parts.specs.{Keeps.NodeKeeps, Keeps.IsSteady, Keeps.IsOwnBallot, Verdicts.VerdictComesTo, Parts.node_of}
pub use Rattle.am_node_parts.proofs.{Keeping.due_request_after_push, Keeping.steady_node_keeps_order, Keeping.ended_ballot_counts_as_own, Keeping.own_ballot_of_same_promise, Keeping.own_ballot_of_steady_node, Ends.told_by_standing_log}
pub use Rattle.am_node_parts.proofs.{Ends.top_of_standing_log, Shown.own_vote_on_whole_log}
pub use Rattle.am_resetting.specs.Deciding.{BallotIsAnswered, IsTakenOut, HasNoViewAbove, CatcherMayStore, MayBeView, put_back}
