-- The words of this crate's proofs, of the crates and definitions that they come from.
pub use Rattle.std.proofs.Common.{◌≡◌, ℕ, zero, suc, ◌+◌, ◌-◌, ◌<◌, ◌≤◌, Bool, true, false, ◌&&◌, nat_le, refl, sym, ap, ◌∙◌, inl, inr, arith, ◌*◌, ◌/◌, ◌%◌}
pub use Rattle.std.proofs.Common.{◌⊎◌, ◌||◌, ◌==◌, nat_lt, Option, Some, None, subst, map, List, length, take, Ok, Err, not, if◌then◌else◌, max, min, ◌≢◌, []}
pub use Rattle.std.proofs.Common.{◌∷◌, get_or}
pub use Rattle.std.proofs.lemmas.Bool.{cases_lt, lt-ltb, eq-eqb, ltb-true, eqb-true, eqb-false}
pub use Rattle.std.{proofs.lemmas.Bool.Decides.nat_tests, specs.List.range_with_len, specs.List.list_all, proofs.lemmas.List.take_all}
pub use Rattle.std.{proofs.lemmas.List.get_or_past, proofs.lemmas.List.get_or-set_other, specs.Prelude.slice_index, specs.Prelude.slice_index_or}
pub use Rattle.std.{proofs.lemmas.List.Folds.list_all_at, proofs.Math.ListN.get_or-map, proofs.lemmas.Grind.get_or-set_at}
pub use Rattle.am_base.specs.Lists.{Log, top_of_log, image_of_log, row_of_name, log_with_entry, blank_row, is_blank_row, is_blank_image, row_at_place, member_life_of_row, members_of_image, image_with_row}
pub use Rattle.am_base.specs.Lists.{row_after_view}
pub use Rattle.am_base.specs.Fronts.{is_held, is_satisfied, is_acceptable_front, accept_front}
pub use Rattle.am_base.specs.Names.{rank_of_name, name_is_less, place_of_name, life_of_name, has}
pub use Rattle.am_base.specs.Votes.{NamedVote, vote_is_less, better_vote_of, best_vote}
pub use Rattle.am_base.specs.declared.entry.Entry.TheVariants.{Data, Join, Leave, View}
pub use Rattle.am_base.specs.{declared.image.Report.Report, declared.image.Vote.Vote, declared.entry.Entry.Entry, declared.event.NodeEvent.TheVariants.Hear}
pub use Rattle.am_base.specs.{declared.name.Stamp.Stamp, declared.outcome.Outcome.Outcome, declared.entry.GroupView.GroupView, declared.image.Row.Row}
pub use Rattle.am_base.specs.{declared.image.Image.Image, Stamps.stamps_are_equal, Stamps.no_stamp}
pub use Rattle.am_model_laws.specs.Laws.{AllSatisfied, IsGreatestFront, AcceptFrontIsGreatest, climb_over, walk, AcceptFrontByWalking, IsBestVote}
pub use Rattle.am_model_laws.specs.Laws.{BestVoteIsGreatest, SpellingIsHeard, CutIsHeard, send_packet, IsNextSend, OutcomeIsHeld, HeldExactly, IsTurnedDown, elsewhere}
pub use Rattle.am_model_laws.specs.Laws.{stranger, unfit, again, early, IsAnswered, numbered, held, turned_down, SendsAnswered, RefreshOnce, RowStep, RowsGoOn}
pub use Rattle.am_model_laws.specs.Laws.{DataGoesOn, IsSameMembership, RowGoesOn, MembershipsGoOn}
unfoldable pub use Rattle.am_model_laws.specs.{Laws.climb}
pub use Rattle.am_base.proofs.Greatest.{split_on_bool, each_of_range_passes, range_passes_by_each, IsGreatestPassing, greatest_is_greatest_passing, both_of_and}
pub use Rattle.am_base.proofs.{Places.get_or-by_place}
unfoldable pub use Rattle.am_base.specs.Lists.{after, fits, image_after_entries, AllEntriesFit}
unfoldable pub use Rattle.am_base.specs.{Votes.best_vote_from}
pub use Rattle.am_packet.specs.{declared.packet.Packet.Packet, declared.refusal.PacketRefusal.TheVariants.Short}
pub use Rattle.am_packet.specs.{declared.refusal.PacketRefusal.TheVariants.BadLength, Limits.IsPacket, Spelling.spelling, Reading.Read, Reading.reading}
unfoldable pub use Rattle.am_packet.specs.{Limits.HasParts, Spelling.fields_of, Spelling.entry_bytes}
pub use Rattle.am_packet.proofs.{Lengths.length-rows_bytes, Again.length-spelling, Again.reading_of_spelling, Whole.part_of_spelling_is_refused}
pub use Rattle.am_model.specs.Node.{Node, top, report_fits, has_room, is_sequencer, set_of_one_name, waiting_send_of, push_entry, node_with_report, own_report_of, map_with_value}
pub use Rattle.am_model.specs.Emit.{Plan, plan_without_letters, plan_with_poll, with_one_more_letter, hold_packet_of}
pub use Rattle.am_model.specs.Refresh.{advance_node, accepted_number_of_send, settle_send_at, settle_send_where_accepted, concerned_names}
pub use Rattle.am_model.specs.Sequencing.{row_of_name_in_list, has_no_join, take_report, number_send_of_member, answer_request}
pub use Rattle.am_model.specs.{Step.row_of_read_bytes, Lengths.entry_length, Lengths.packet_length, Hearing.hears_packet_of_its_view, Hearing.sequencer_hears_packet}
unfoldable pub use Rattle.am_model.specs.Step.{row, step, hear_packet, hear_refused_bytes}
unfoldable pub use Rattle.am_model.specs.Refresh.{refresh, refresh_as_sequencer, settle_waiting_send, refresh_at_end}
unfoldable pub use Rattle.am_model.specs.{Emit.finish, Sequencing.request_row, Hearing.hear_row}
pub use Rattle.am_node_defs.specs.{Cores.CoreState, declared.sender.OwnSend.OwnSend, Reports.raise_report, Reports.least_taken_of_names, Refresh.base_after_trim}
unfoldable pub use Rattle.am_node_defs.specs.Refresh.{raise_own_report, tell_accept_front, advance_with_reports, trim_to_least_taken}
unfoldable pub use Rattle.am_node_defs.specs.{Cores.raise_accepted_to_told, Cores.pass_over_below_join}
