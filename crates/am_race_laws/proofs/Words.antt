-- The words of this crate's proofs, of the crates and definitions that they come from.
pub use Rattle.std.proofs.Common.{◌≡◌, ℕ, ◌<◌, ◌≤◌, List, [], ◌∷◌, ◌++◌, length, map, Bool, true, false, true≢false, Option, Some, None, sym, refl, ap, ◌∙◌}
pub use Rattle.std.proofs.Common.{subst, arith, cond, append-nil, filter, ◌≢◌, zero, suc, drop, get_or, max, length-append, eq-eqb, ◌+◌, ◌*◌, slice_get}
pub use Rattle.std.proofs.Common.{sum_by, inl, inr, append_assoc, count_by, ⊎_elim, nat_le, Result, Ok, Err, IfOk, IfErr, OnOk, ◌-◌, take, unwrap_or, min}
pub use Rattle.std.proofs.Common.{◌%◌, find, is_some}
pub use Rattle.std.proofs.lemmas.Bool.{ne_eqb, and_parts, lt-ltb, le-leb, eqb-true, ltb-true, or_right}
pub use Rattle.std.proofs.lemmas.List.{length-map, get_or-map, drop_all, take-append-drop, map-append}
pub use Rattle.std.proofs.lemmas.List.Elements.{filter-append, All-append, All-map, All-weaker, All-push, All-filter}
pub use Rattle.std.proofs.lemmas.List.FromFn.{get_or-map-range_with_len, length-map-range_with_len, map-range_with_len_more, get_or-range_with_len}
pub use Rattle.std.proofs.lemmas.List.FromFn.{length-range_with_len}
pub use Rattle.std.proofs.{Math.Nat.add-mul, Math.Nat.mul-le-mul_left, Math.Nat.mod-lt, Math.Seq.drop-append_seam, Math.Seq.take-append_seam}
pub use Rattle.std.proofs.{Math.Seq.drop-cons, Math.Seq.take-suc, lemmas.Bool.Decides.nat_tests, lemmas.Grind.fold-append, lemmas.List.Concat.flat_map-append}
pub use Rattle.std.proofs.{lemmas.List.Folds.list_any-append, lemmas.List.Folds.list_all-append, lemmas.List.Sums.sum_by-cons, lemmas.List.Sums.sum_by-append}
pub use Rattle.std.proofs.{lemmas.Nat.mul-le, lemmas.Option.none-some, lemmas.Option.slice_get_cases, lemmas.Option.slice_get-get_or, lemmas.Option.same_Some}
pub use Rattle.std.specs.Prelude.{if◌then◌else◌, not, ◌==◌, ◌&&◌, ◌||◌, All, nat_lt, is_none, ◌⊎◌, fold, slice_index, slice_set, replicate, IfSome, IfNone}
pub use Rattle.std.specs.{List.list_any, List.range_with_len, List.list_all, List.prefix_len, Option.option_or}
pub use Rattle.am_shared_journal_defs.proofs.Sights.{log_is_start_and_rest, times_of_cons, records_go_on_through_both, append_starts_with_front, starts_with_through_both, times_of_append, records_go_on_to_themselves}
pub use Rattle.am_shared_journal_defs.specs.{Keys.is_of, Keys.of_key, Keys.times, Keys.same_key, Passes.Known, Passes.IsReady, Passes.Committed, Passes.Sees, Passes.fresh}
pub use Rattle.am_shared_journal_defs.specs.{Passes.Joined, Passes.HasEachKey, Sights.EachComesNext, Sights.GoesOn, Sights.StartsWith, Stops.has_stopped, Stops.is_stop, Stops.has_life}
pub use Rattle.am_shared_journal_defs.specs.{Stops.with_stop, Stops.stopped_names, declared.terms.SharerKey.SharerKey, declared.terms.SharerKey.TheVariants.Place}
pub use Rattle.am_shared_journal_defs.specs.{declared.terms.SharerKey.TheVariants.Caller, declared.terms.Terms.Terms, declared.terms.WireRefusal.WireRefusal}
pub use Rattle.atomic_table.specs.Seated.{TableId}
pub use mathlib.Core.Logic.{dite}
pub use native.Mathlib.Decide.{ℕ_discrete}
pub use Rattle.am_base.proofs.Greatest.{split_on_bool, both_of_and}
pub use Rattle.am_base.specs.Names.{place_of_name, name_of_place_and_life, name_is_less, names_of, life_of_name, has, empty_set_of_names, with_name, rank_of_name, names_from}
pub use Rattle.am_base.specs.{Founding.Rules, Lists.log_entry_at, Most.most_events_of_run, declared.entry.Entry.Entry, declared.entry.Entry.TheVariants.Leave}
pub use Rattle.am_base.specs.{declared.event.NodeEvent.NodeEvent, declared.outcome.Outcome.Outcome}
pub use Rattle.am_packet.specs.{Boxes.Letter, Limits.IsPacket, Spelling.spelling, declared.packet.Packet.Packet}
pub use Rattle.am_node_defs.proofs.{Ends.entry_at_end_is_entry, Folds.slice_get-drop}
pub use Rattle.am_node_defs.specs.{Cores.CoreFrontsAreInOrder, Sends.Sends, Sends.outcome_of_collecting, Sends.outcome_of_done, Sends.collect_outcome, Sends.has_settled_send}
pub use Rattle.am_node_defs.specs.{declared.sender.OwnSend.OwnSend}
pub use Rattle.am_group.specs.{Addressed.is_for, Addressed.first_for, Deliveries.acting_name_of_record, Journals.letters_of_records, Journals.letter_at, Journals.item_at}
pub use Rattle.am_group.specs.{declared.event.Act.Act, declared.event.By.By, declared.event.Event.Event, declared.event.Part.Part}
pub use Rattle.am_group.specs.{declared.event.Part.TheVariants.Turn, declared.event.Part.TheVariants.Call, declared.event.Part.TheVariants.Check}
pub use Rattle.am_group.specs.{declared.event.Record.Record, declared.plan.RacePlan.RacePlan, declared.plan.ThreadPlan.ThreadPlan}
pub use Rattle.am_model.proofs.Steps.{whole_step_comes_to_end, node_end_has_same_top, untrimmed_node_is_own_end}
pub use Rattle.am_model.specs.Node.{Node, has_departed, push_entry, waiting_send_of, founder, stranger_node, Ballot, is_member, has_log_by_status}
pub use Rattle.am_model.specs.{Ballots.BallotVerdict, Emit.StepResult, Emit.plan_without_letters, Ends.IsEndOf, Ends.DoesRow, Info.names_waited_for, Info.end_of_ballot_of_round, Info.end_of_ballot}
pub use Rattle.am_model.specs.{Nodes.HasNumbersLeft, Refresh.refresh, Refresh.accepted_number_of_send, Refresh.settle_send_at, Refresh.settle_send_where_accepted, Step.hear_packet}
pub use Rattle.am_model.specs.{declared.info.BallotEnd.TheVariants.Going, declared.status.Status.Status}
pub use Rattle.am_group_defs.proofs.Runs.{runs_go_on}
pub use Rattle.am_group_defs.specs.World.{World, is_stopped, world_after_node_event, world_after_hearing, world_after_act, record_of, current, no_caller, start, run, world_after_give_up, hear_cut}
pub use Rattle.am_group_defs.specs.World.{world_with_next_life, world_after_return, first_node}
pub use Rattle.am_group_defs.specs.{Claims.packet_heard_by_act, Group.with_tag}
pub use Rattle.am_model_laws.proofs.Bytes.{spelled_packet_is_heard}
pub use Rattle.am_step_laws.proofs.{Ballots.entry_at_number_of_log, EffectRuns.changes_keep_property, EffectRuns.EventsKeep, EffectRuns.runs_keep_what_events_keep, Events.events_have_effects, Rests.refresh_changes_only_fronts}
pub use Rattle.am_step_laws.proofs.Numbers.RunCounts.{number_bounds_hold_in_runs}
pub use Rattle.am_step_laws.specs.{Causes.Cause, Events.EventHappens, Events.idles, Events.stops, Events.returns, Events.steps, Events.acting_name}
pub use Rattle.am_shared_journal_defs.specs.Choices.{Luck, again, choice_of, act_of, words_by_seed, draw, after_draw}
pub use Rattle.am_shared_journal_defs.specs.{declared.choice.Choice.Choice}
pub use Rattle.am_race_laws.specs.Answers.{is_take, is_end_of, answer_or_else, late_after, late, is_end, ballot_answer, join_answer, leave_answer, left_answer}
pub use Rattle.am_race_laws.specs.Answers.{send_answer, take_answer, stop_answer, queued_request, sent_request, request_of_act, request_by, put_off_in, answer_in}
pub use Rattle.am_race_laws.specs.Answers.{act_of_call, first_answer}
pub use Rattle.am_race_laws.specs.Boxes.{what_of, MayAct, Steps, Boxed, BoxKeepsNode, IsBox, IsShareOf, IsTimely, Acted, BoxLooks, IsRefused, refusal_answer, node_by}
pub use Rattle.am_race_laws.specs.Boxes.{lost_in, Gave, Found, turn_event_at, turn_by, Hears, InBoth, IsLeastOf, GivesUp, heard_in}
pub use Rattle.am_race_laws.specs.Callers.{is_callers, same_act, is_one_call, at_one_place, first_call, records_behind, has_no_records, is_last, caller_goes_on, same_bytes, asks}
pub use Rattle.am_race_laws.specs.Callers.{checks, is_other}
pub use Rattle.am_race_laws.specs.Callings.{caller_luck_after, IsHand, HasMade, Calling, IsUnanswered, IsAnswerOfCall, Called, of_next}
pub use Rattle.am_race_laws.specs.Going.{Grown, CallerHasSeenMore, by_of, end_act, end_part, IsOwn, IsCame, luck_behind, is_asked, ToldBy, EndTells, OwnActIsDone, Began, TurnIsMade}
pub use Rattle.am_race_laws.specs.Going.{EndIsMade, HasSpent, HasEnded, HasLooked, WasRefused, HandIsAtOpenBox, told_at_end, request_in_call, CallHasBegun, Made}
pub use Rattle.am_race_laws.specs.Ran.{fresh_caller, fresh_callers, caller_numbers, HasPlaces, IsIn, EndsFor, calls_made, calls_by, HasPlayed, HasRun, most_records_of}
pub use Rattle.am_race_laws.specs.Ran.{refusal_in, ends_thread, IsPlanned, first_refusal}
pub use Rattle.am_race_laws.specs.Tags.{is_either, of_place, of_caller, of_call, own_of, is_turn_part, is_own, is_check}
pub use Rattle.am_race_laws.specs.Turns.{greatest_number, passed_number, cursor, last_heard, letter_lost_by_part, unless_nought, or_nought, words_drawn, choice_after, follows}
pub use Rattle.am_race_laws.specs.Turns.{is_waited, is_least, waits_in_vain, is_choice, is_turn_of, turns_at, is_due}
pub use Rattle.am_race_laws.specs.{Cases.ReceivesUseTheirTurns, Lawful.IsLawfulRecord, Lawful.threadless_plan_of_terms, Lawful.terms_of, Lawful.is_of_race, Lawful.IsSent}
pub use Rattle.am_race_laws.specs.{Laws.OthersAreApart, Laws.RecordIsApart, Laws.KnowledgeIsSame, Laws.EachIsNext, Laws.OthersStay, Legal.IsLegalWithTags, Legal.is_played}
pub use Rattle.am_race_laws.specs.{Plans.is_call, Plans.has_check, Plans.calls_in, Plans.MayRace, Plans.ArePlayed, Plans.calls_of, Ready.round_in}
pub use Rattle.am_race_laws.specs.{Ready.is_ready_after, Ready.may_take, Ready.send_is_settled, Ready.is_ended, Told.IsNext, Told.tells, declared.answer.CallAnswer.CallAnswer}
pub use Rattle.am_race_laws.specs.{declared.call.Came.Came, declared.call.Looked.Looked, declared.call.Tag.Tag}
unfoldable pub use Rattle.am_shared_journal_defs.specs.Keys.{place_keys, caller_keys}
unfoldable pub use Rattle.am_group.specs.Addressed.{next_for}
unfoldable pub use Rattle.am_model.specs.{Emit.finish, Refresh.settle_waiting_send, Refresh.refresh_at_end, Step.step, Step.row}
unfoldable pub use Rattle.am_group_defs.specs.World.{world_with_record, world_with_step, happens, world_after_events}
unfoldable pub use Rattle.am_race_laws.specs.{Answers.answer_of, Answers.own_answer, Answers.end_answer, Callers.are_calls, Callers.is_receive}
unfoldable pub use Rattle.am_race_laws.specs.{Callers.are_finished, Callers.is_followed, Ready.is_ready, Tags.up_to_last, Told.world_after, Turns.is_turn}
unfoldable pub use Rattle.am_race_laws.specs.{Turns.may_end, Turns.later}
