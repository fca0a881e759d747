-- The words of this crate's proofs, of the crates and definitions that they come from.
pub use Rattle.am_step_laws.proofs.EffectWords.{◌≡◌, ◌≢◌, ℕ, zero, suc, ◌-◌, ◌≤◌, ◌==◌, true, false, List, [], ◌∷◌, ◌++◌, length, drop, None, refl, sym, ap, ◌∙◌}
pub use Rattle.am_step_laws.proofs.EffectWords.{subst, arith, ◌+◌, ◌<◌, max, min, ◌&&◌, nat_lt, not, if◌then◌else◌, Option, Some, slice_get, length-append, ◌||◌}
pub use Rattle.am_step_laws.proofs.EffectWords.{slice_set, ◌⊎◌, inl, inr, slice_index, Bool, nat_le, find, is_some, nat_tests, All-head, All-tail, All-nil}
pub use Rattle.am_step_laws.proofs.EffectWords.{All-append, All-cons, slice_get_within, list_any, All, Stamp, Entry, View, Leave, Data, Join, Outcome, Rules, Log}
pub use Rattle.am_step_laws.proofs.EffectWords.{row_at_place, row_of_name, top_of_log, log_entry_at, image_of_log, split_on_bool, both_of_and, Image, stamp_is_less, stamps_are_equal, life_of_name, has, place_of_name}
pub use Rattle.am_step_laws.proofs.EffectWords.{Report, Row, NodeEvent, Letter, Packet, kind_of, slice_get-drop, OwnSend, Act, Event, item_at, letter_at, is_for}
pub use Rattle.am_step_laws.proofs.EffectWords.{Departed, Node, view, has_log_by_status, Ballot, acts_in_its_view, is_member, is_sequencer, push_entry, waiting_send_of, top, is_asking_status}
pub use Rattle.am_step_laws.proofs.EffectWords.{trim_node_up_to, founder, stranger_node, set_of_one_name, StepResult, Status, advance_node, accepted_number_of_send, settle_send_at, settle_send_where_accepted, BallotVerdict}
pub use Rattle.am_step_laws.proofs.EffectWords.{node_of_welcomed, is_view, body_of_spread_send, member_hears_other, hears_packet_of_its_view, hears_packet_of_sequencer, members_of_view_entry, World, run, start, happens}
pub use Rattle.am_step_laws.proofs.EffectWords.{packet_heard_by_act, Cause, calls, hears, refuses, CauseHasFronts, with_entry, with_number, alone, Change, refreshes, settles}
pub use Rattle.am_step_laws.proofs.EffectWords.{numbers, stores, begins_list, opens, looks, fetches, stores_view, closes, MayBeWelcomed, departs, promises, queues}
pub use Rattle.am_step_laws.proofs.EffectWords.{collects, takes, asks_to_join, Changes, unchanged, changed, asked_send, own_send, asked_join, asked_leave, notes}
pub use Rattle.am_step_laws.proofs.EffectWords.{CarriesEntry, whole_entry, by_number, invited, overtaken, told_result, takes_report, admits, keeps_body, asks_to_leave}
pub use Rattle.am_step_laws.proofs.EffectWords.{LetterSays, EntryStands, just_joined, asks_again, has_begun, goes_on, leads, decided, Says, bcast, order, welcome}
pub use Rattle.am_step_laws.proofs.EffectWords.{invite, vote, piece, result, OutcomeTells, Effect, acting_name, IsCause, EventHappens, idles, stops, returns, steps, IsCall}
pub use Rattle.am_step_laws.proofs.EffectWords.{WasSentTo, LooksAtBallot, finds_itself_out}
pub use Rattle.am_step_laws.proofs.Items.{all_gives_item_at, slice_get_of_take, slice_get_of_pushed, item_of_index_has_property, slice_get_of_front, slice_get_after_push}
pub use Rattle.am_step_laws.proofs.Rests.{refresh_rests_with_list, own_leave_rests, settle_changes_only_sends, base_le_base_after}
pub use Rattle.am_step_laws.proofs.{Statuses.member_status_has_log, Statuses.asking_status_has_no_log, Receiving.welcomed_node_is_asking, Resets.stamp_eq_of_itself, Events.events_have_effects, EffectRuns.EventsKeep}
pub use Rattle.am_step_laws.proofs.{EffectRuns.runs_keep_what_events_keep, Ballots.entry_at_number_of_log, BoundedRuns.node_bounds_hold_in_runs}
unfoldable pub use Rattle.am_step_laws.proofs.EffectWords.{image_after_entries, after, fits, pass_over_below_join, raise_own_report, tell_accept_front, advance_with_reports, refresh_as_sequencer, refresh, settle_waiting_send, refresh_at_end, world_with_step}
unfoldable pub use Rattle.am_step_laws.proofs.EffectWords.{world_with_record}
pub use Rattle.std.proofs.Common.{⊎_elim, take, append_assoc, append-nil, get_or, map, slice_index_or, filter, is_none}
pub use Rattle.std.proofs.lemmas.List.{take-append-le, length-take-le, length-take, get_or-replicate, take-append-drop, get_or-set_same, get_or-set_other}
pub use Rattle.std.proofs.lemmas.List.Elements.{All-weaker, All-push, All-filter, All-map}
pub use Rattle.std.{proofs.lemmas.Grind.flat_map-append, proofs.lemmas.List.Quantifiers.position-Some, proofs.lemmas.Option.slice_get-get_or}
pub use Rattle.std.{proofs.lemmas.Option.get_or_from_slice_get, specs.List.range_with_len, specs.List.flat_map}
pub use Rattle.am_base.specs.Lists.{blank, requests_of_sender, request_of_sender_in_entry, blank_row, image_with_row, log_image_at}
pub use Rattle.am_base.specs.Whole.{IsGoodList, image_of_list, ViewNameIsByte, IsBeginningOf}
pub use Rattle.am_base.specs.{Founding.MayFound, Names.empty_set_of_names}
unfoldable pub use Rattle.am_base.specs.{Lists.AllEntriesFit, Whole.is_member_at_end, Whole.AllViewNamesAreBytes}
pub use Rattle.am_packet.specs.declared.packet.Packet.TheVariants.{Bcast, Order, Accept, Welcome, Invite, Vote, Piece, Result}
pub use Rattle.am_packet.specs.{Kinds.goes_to_any}
pub use Rattle.am_node_defs.specs.{Cores.CoreState}
unfoldable pub use Rattle.am_node_defs.specs.{Cores.raise_accepted_to_told, Refresh.trim_to_least_taken}
pub use Rattle.am_node_defs.proofs.{Ends.entry_at_is_slice_get}
pub use Rattle.am_group.specs.Deliveries.{acting_name_of_record, entry_taken_by_outcome, entries_given_to, deliveries}
pub use Rattle.am_group.specs.{declared.event.Record.Record, Groups.entry_above_front, Groups.numbered_entry, Groups.fronts_with_admitted}
pub use Rattle.am_group.proofs.{Places.slice_get_of_append_back, Places.slice_get_of_append_front}
pub use Rattle.am_model.specs.Node.{map_with_value, entries_above, founders_entry, founding_stamp}
pub use Rattle.am_model.specs.{Refresh.is_data_of, Ballots.overtake_lower_ballot}
pub use Rattle.am_model.proofs.{Sends.data_of_own_request, Founders.lowest_founder_founds}
pub use Rattle.am_group_defs.specs.Claims.{welcome_numbers_of, BeginsAt, RunsWithoutBallotHold, NoBallot, MovesOn, UnballotedMoves, is_welcome, welcome_number_of_outcome, IsSend}
pub use Rattle.am_group_defs.specs.AbstractGroup.{FrontsGroup, FrontsMove, append, FrontsGrow, none, more, next_entry_of, admit, GivesOut, node_front, group_of}
pub use Rattle.am_group_defs.specs.{World.record_of, World.list_after_step, Group.accepted_sends, Group.AcceptedSend, Group.accepted_send_of_outcome}
pub use Rattle.am_base.proofs.Prefixes.{taken_front_begins_list, begins_push_next_entry, length_of_taken_list, begins_not_longer_is_same, length_of_pushed_list}
pub use Rattle.am_base.proofs.Rows.{place_and_life_give_name, row_of_place, row_of_with_row, row_after_pushed_view}
pub use Rattle.am_base.proofs.Members.{pushed_list_is_good, member_has_member_row, member_row_gives_member, member_stays_by_push, beginning_of_good_is_good, image_after_pushed_entry, image_has_sixteen_rows, name_in_view_is_member}
pub use Rattle.am_step_laws.specs.Effects.{WasQueued, AnswersAsk, HasTakenEntry, WasSettled, ListHasBegun}
pub use Rattle.am_step_laws.specs.{Changes.IsNumberedBy, Changes.MayPromise, Letters.MayWelcome, Events.IsIdle}
pub use Rattle.am_abstract_group.proofs.Turns.{standing_request_is_within_count, next_request_after_whole_list, sends_of_sender_in_order, each_send_stands_once}
pub use Rattle.am_run_laws.proofs.SentChanges.{CauseCarriesSentBodies, change_keeps_sent_bodies, FoundBodyWasSent, found_body_was_sent}
pub use Rattle.am_run_laws.proofs.SentRuns.{WorldBodiesWereSent, all_sent_in_longer_records, records_after_step, cause_of_step_was_sent, bodies_were_sent_in_runs, start_has_all_bodies_sent}
pub use Rattle.am_run_laws.proofs.{SentKept.NodeBodiesWereSent, SentKept.WasSentByRecord, SentKept.EntryWasSent}
