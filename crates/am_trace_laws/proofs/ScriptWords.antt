-- The words of this crate's proofs on scripts and races, of the crates and definitions that they come from.
pub use Rattle.std.proofs.Common.{◌≡◌, ℕ, ◌+◌, ◌/◌, List, [], ◌∷◌, length, Result, Ok, Err, Bool, true, false, is_some, ◌&&◌, nat_le, subst, Option, Some}
pub use Rattle.std.proofs.Common.{None, ◌*◌, ◌≤◌, not, true≢false, if◌then◌else◌, ◌++◌, refl, sym, ap, ◌∙◌, arith, append-nil, zero, suc, ◌-◌, ◌==◌, min}
pub use Rattle.std.proofs.Common.{max, nat_lt, take, drop, slice_index, slice_set, get_or-set_other, filter, slice_get, ap₂, ◌⊎◌, inl, inr, append_assoc}
pub use Rattle.std.proofs.Common.{⊎_elim, ◌<◌}
pub use Rattle.std.proofs.lemmas.List.Elements.{All-nil, All-cons, All-map, All-append, All-head, All-tail, All-filter, All-weaker}
pub use Rattle.std.proofs.{Math.Seq.drop-append_seam, lemmas.Bool.and_parts, lemmas.Bool.Decides.nat_tests, lemmas.List.length-append}
pub use Rattle.std.proofs.{lemmas.List.length-map, lemmas.List.Concat.flat_map-append, lemmas.Option.none-some, lemmas.Option.slice_get_within}
pub use Rattle.std.specs.{Option.ok_or, Option.option_map_or, Prelude.All}
pub use Rattle.am_shared_journal_defs.specs.{Sights.EachComesNext, Stops.has_stopped}
pub use Rattle.hex.proofs.HexLemmas.{decode_of-ok}
pub use Rattle.hex.specs.Hex.{IsBytes, decode_of}
pub use Rattle.serde_json.specs.{Events.items_len, Find.as_array, Find.as_object}
pub use Rattle.am_base.proofs.Greatest.{split_on_bool}
pub use Rattle.am_base.specs.{Founding.Rules, Founding.MayFound, Most.greatest_number, Most.most_events_of_run, Most.most_bytes_of_body, Most.most_bytes_of_packet, Names.name_of_place_and_life}
pub use Rattle.am_base.specs.{Names.place_of_name, Names.life_of_name, Names.has, Names.size, Names.list_by_place, Names.without_name}
pub use Rattle.am_base.specs.{declared.entry.Entry.TheVariants.View, declared.event.NodeEvent.NodeEvent, declared.image.Vote.Vote, declared.name.Stamp.Stamp}
pub use Rattle.am_base.specs.{declared.outcome.Outcome.Outcome}
pub use Rattle.am_packet.specs.{Boxes.Letter, Boxes.place_for, Boxes.with_letter, Boxes.letter_to, Kinds.kind_of, Limits.IsPacket, Spelling.spelling}
pub use Rattle.am_node_defs.specs.declared.sender.OwnSend.{OwnSend}
pub use Rattle.am_group.specs.{Addressed.is_for, Deliveries.acting_name_of_record, Journals.letters_of_records, Journals.letter_at, declared.event.Act.Act, declared.event.By.By}
pub use Rattle.am_group.specs.{declared.event.Event.Event, declared.event.Record.Record, declared.plan.RacePlan.RacePlan}
pub use Rattle.am_group.specs.{declared.plan.ThreadPlan.ThreadPlan}
pub use Rattle.am_model.proofs.LettersHeard.{step_sends_at_most_nine}
pub use Rattle.am_model.specs.Emit.{StepResult, Plan, plan_without_letters, invite_packet_of, accept_packet_of, sends_accept, letters_with_accept}
pub use Rattle.am_model.specs.Node.{Node, Ballot, top, image_of_node, members, other_members, life_where_name_passes, push_entry, is_member, is_sequencer, has_room, waiting_send_of}
pub use Rattle.am_model.specs.{Refresh.refresh_at_end, Step.hear_packet}
pub use Rattle.am_group_defs.specs.World.{World, current, is_stopped, world_after_node_event, world_after_give_up, world_after_hearing, world_after_stop, world_after_act, run, record_of, no_caller}
pub use Rattle.am_group_defs.specs.{Group.with_tag}
pub use Rattle.am_model_laws.proofs.Bytes.{spelled_packet_is_heard}
pub use Rattle.am_step_laws.proofs.Alone.{selection_of_nobody_is_nobody}
pub use Rattle.am_step_laws.proofs.Items.{item_of_index_has_property}
pub use Rattle.am_step_laws.proofs.Rests.{end_refresh_rests_with_list}
pub use Rattle.am_step_laws.proofs.Numbers.RunCounts.{number_bounds_hold_in_runs}
pub use Rattle.am_step_laws.proofs.Bounds.RunLimits.{letters_are_packets}
pub use Rattle.am_step_laws.specs.{Bytes.BodyIsWithinLimit, Bytes.IsRunWithinScriptLimits, Numbers.NodeNumbers}
pub use Rattle.am_race_laws.proofs.{Acting.told_world_is_events_run, Knows.journal_keeps_what_records_keep, Knows.lawful_journal_knows_its_world, Knows.current_name_has_first_life, Legality.told_record_is_its_event, Legality.legal_records_come_next}
pub use Rattle.am_race_laws.proofs.{Names.stopped_names_are_set}
pub use Rattle.am_race_laws.specs.Callers.{same_bytes, same_act, has_no_records, asks, checks, is_other, is_one_call, at_one_place, first_call}
pub use Rattle.am_race_laws.specs.Tags.{of_caller, is_own, is_turn_part, is_check, of_call, own_of, up_to_last}
pub use Rattle.am_race_laws.specs.{Answers.send_answer, Answers.ballot_answer, Answers.sent_request, Answers.is_take, Lawful.is_of_race, Lawful.IsLawfulRecord}
pub use Rattle.am_race_laws.specs.{Lawful.terms_of, Legal.IsLegalWithTags, Plans.calls_of, Plans.calls_in, Ready.invite_round, Ready.or_else_round}
pub use Rattle.am_race_laws.specs.{Ready.round_in, Ready.is_ready, Told.world_after, Turns.letter_lost_by_part, Turns.is_turn_of, Turns.is_waited, Turns.is_least}
pub use Rattle.am_script_defs.specs.{Founders.founding_in, Keys.has_only, Limits.IsCount, Limits.ActWithin, Limits.EventWithin, RaceLimits.CallWithin}
pub use Rattle.am_script_defs.specs.{RaceLimits.ThreadWithin, RaceLimits.RaceWithin, Refusals.ReadOrRefused, Refusals.◌>>=◌, Schedules.IsOfBytes, Schedules.AreOfBytes}
pub use Rattle.am_script_defs.specs.{declared.key.ScriptKey.ScriptKey, declared.kind.EventKind.EventKind, declared.refusal.ScriptRefusal.TheVariants.BadValue}
pub use Rattle.am_script_defs.specs.{declared.script.Script.Script}
pub use Rattle.am_trace_laws.specs.{Bodies.PlaysAreOfBytes, Bodies.ThreadOfBytes, Bodies.RacesAreOfBytes, RacedBodies.HasBody, RacedBodies.ThreadHasBodies}
pub use Rattle.am_trace_laws.specs.{RacedBodies.RacesHavePlannedBodies, Scripts.RacesHaveScripts}
unfoldable pub use Rattle.am_model.specs.{Emit.finish, Node.names_that_pass, Step.step, Step.row}
unfoldable pub use Rattle.am_group_defs.specs.World.{world_with_record, world_with_step, happens}
unfoldable pub use Rattle.am_race_laws.proofs.Acting.{events_of_records}
unfoldable pub use Rattle.am_race_laws.specs.{Answers.own_answer, Callers.is_followed, Callers.is_receive, Callers.are_calls, Turns.is_turn, Turns.may_end}
