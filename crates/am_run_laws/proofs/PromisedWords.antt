-- The words of this crate's proofs, of the crates and definitions that they come from.
pub use Rattle.am_step_laws.proofs.EffectWords.{◌≡◌, ℕ, ◌==◌, ◌&&◌, ◌||◌, not, true, false, List, [], ◌∷◌, ◌++◌, Option, Some, None, refl, sym, ap, ◌∙◌, subst}
pub use Rattle.am_step_laws.proofs.EffectWords.{arith, ◌⊎◌, inl, inr, ◌+◌, nat_lt, Bool, nat_tests, All-nil, All-append, list_any, All, Stamp, Outcome, NodeEvent}
pub use Rattle.am_step_laws.proofs.EffectWords.{stamp_is_less, Rules, has, split_on_bool, both_of_and, Packet, Letter, Act, Node, Ballot, is_member, has_log_by_status, BallotVerdict, World, start}
pub use Rattle.am_step_laws.proofs.EffectWords.{current, is_stopped, run, packet_heard_by_act, Cause, calls, hears, refuses, LooksAtBallot, waits, fetches_from_best, HasOpenBallot}
pub use Rattle.am_step_laws.proofs.EffectWords.{BallotIsLookedAt, with_more, without_one, as_it_is, finds_itself_out, Change, refreshes, settles, begins_list, departs}
pub use Rattle.am_step_laws.proofs.EffectWords.{promises, opens, looks, asks_to_join, closes, invited, overtaken, told_result, acting_name, IsCall, IsCause, idles, stops}
pub use Rattle.am_step_laws.proofs.EffectWords.{returns, steps, Says, request, LetterSays}
pub use Rattle.am_step_laws.proofs.Items.{item_of_index_has_property, all_gives_item_at, slice_get_of_front, all_gives_found_item, slice_get_of_pushed}
pub use Rattle.am_step_laws.proofs.{Statuses.member_status_has_log, Statuses.asking_status_has_no_log, Receiving.welcomed_node_is_asking, Rests.refresh_rests_with_list, Rests.own_leave_rests, Rests.settle_changes_only_sends}
pub use Rattle.am_step_laws.proofs.{EffectRuns.changes_keep_property, EffectRuns.EventsKeep, EffectRuns.runs_keep_what_events_keep}
unfoldable pub use Rattle.am_step_laws.proofs.{EffectWords.world_with_record, EffectWords.world_with_step}
pub use Rattle.std.proofs.Common.{⊎_elim, nat_le, drop, length, slice_get, find, option_map, ◌-◌, ◌<◌, take}
pub use Rattle.std.proofs.lemmas.List.Elements.{All-weaker, All-push, All-drop, All-filter, All-map, All-cons, All-take}
pub use Rattle.std.{proofs.lemmas.List.Folds.list_any-append, proofs.lemmas.Option.slice_get_within, proofs.lemmas.List.length-take}
pub use Rattle.std.{proofs.lemmas.List.nil_from_length}
pub use Rattle.am_base.specs.{Stamps.no_stamp, Founding.MayFound, Names.rank_of_name, declared.entry.Entry.Entry, declared.entry.Entry.TheVariants.Data}
pub use Rattle.am_base.specs.{declared.entry.Entry.TheVariants.Leave, declared.entry.Entry.TheVariants.View, declared.image.Report.Report}
pub use Rattle.am_packet.specs.declared.packet.Packet.TheVariants.{Request, Spread, Bcast, Piece}
pub use Rattle.am_packet.specs.{Spelling.sender_of, Spelling.stamp_of}
pub use Rattle.am_model.specs.Node.{map_with_value, founding_stamp, is_sequencer, push_entry, waiting_send_of, trim_node_up_to, view, founder, stranger_node, founders_entry}
pub use Rattle.am_model.specs.Receiving.{body_of_waiting_send, first_body_that_is_there, body_of_spread_send, bodies_after_stored_entry}
pub use Rattle.am_model.specs.{Ballots.overtake_lower_ballot, Refresh.accepted_number_of_send, Refresh.settle_send_at, Refresh.settle_send_where_accepted, Calls.node_with_queued_send, Emit.StepResult}
pub use Rattle.am_model.proofs.{Founders.lowest_founder_founds}
pub use Rattle.am_step_laws.specs.Changes.{MayPromise, IsNumberedBy, asked_send, own_send, CarriesEntry, whole_entry, by_number, numbers, keeps_body, stores, fetches}
pub use Rattle.am_step_laws.specs.Changes.{stores_view, queues, collects}
pub use Rattle.am_step_laws.specs.Letters.{HasOwnSend, EntryStands, spread, bcast, piece}
pub use Rattle.am_step_laws.specs.{Causes.CauseHasSend, Causes.by_request, Causes.by_spread, Looks.decides, Effects.Effect}
pub use Rattle.am_run_laws.specs.PromisedClaim.{StampIsAtMost, StampIsBegun, LetterStampIsSound, PromisesAreBegun}
pub use Rattle.am_run_laws.specs.Ballots.{IsOfBallot, BallotIsOwn, LastBallotIsSound, BallotsAreOwn}
pub use Rattle.am_run_laws.specs.{SentClaim.EachDataWasSent, Lists.GroupListFits, Lists.UnballotedListsFit}
unfoldable pub use Rattle.am_node_defs.specs.Refresh.{raise_own_report, tell_accept_front, advance_with_reports, trim_to_least_taken}
unfoldable pub use Rattle.am_node_defs.specs.{Cores.raise_accepted_to_told, Cores.pass_over_below_join}
pub use Rattle.am_group.specs.{declared.event.Record.Record, declared.event.Event.Event}
pub use Rattle.am_node_defs.specs.Bodies.{is_body_of_send, bodies_with_newest, keep_body, find_body}
pub use Rattle.am_node_defs.specs.{declared.sender.OwnSend.OwnSend, declared.bodies.KeptBody.KeptBody}
unfoldable pub use Rattle.am_model.specs.Refresh.{refresh_as_sequencer, refresh, settle_waiting_send, refresh_at_end}
pub use Rattle.am_group_defs.specs.{Claims.IsSend, Claims.Once, World.record_of, World.list_after_step}
pub use Rattle.am_group_defs.proofs.{Runs.one_record_each, Beginnings.run_begins_longer_run}
