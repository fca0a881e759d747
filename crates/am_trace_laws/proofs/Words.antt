-- The words of this crate's proofs on the texts of runs, of the crates and definitions that they come from.
pub use Rattle.std.proofs.Common.{◌≡◌, ℕ, suc, ◌≤◌, ◌==◌, true, false, if◌then◌else◌, List, [], ◌∷◌, length, take, unwrap_or, refl, sym, ap, ◌∙◌, arith, subst}
pub use Rattle.std.proofs.Common.{Option, None, ⊎_elim, zero, ◌+◌, ◌&&◌, Bool, ◌++◌, Some, slice_get, ◌||◌, not, cond, ◌<◌, lit<, Result, Ok, Err, nat_le, map}
pub use Rattle.std.proofs.Common.{get_or, ◌≢◌, ◌*◌, ◌/◌, ◌%◌, ◌⊎◌, inl, inr, IsErr, append_assoc, length-append, nat_lt, ap₂, zero-add}
pub use Rattle.std.proofs.{lemmas.Bool.and_parts, lemmas.Bool.and_from, lemmas.Bool.Decides.nat_tests, lemmas.Grind.flat_map-append, lemmas.List.take_all}
pub use Rattle.std.proofs.{lemmas.List.append-nil, lemmas.List.map-append, lemmas.List.Elements.All-nil, lemmas.List.Elements.All-cons}
pub use Rattle.std.proofs.{lemmas.List.Elements.All-head, lemmas.List.Elements.All-tail, lemmas.Option.slice_get-map}
pub use Rattle.std.specs.{Cmp.Lexicographic.same_text, List.range_with_len, List.list_all, List.flat_map, Option.option_map, Prelude.All, Prelude.codes}
pub use Rattle.std.specs.{Prelude.decimal, Prelude.slice_index, Prelude.drop, Prelude.slice_index_or}
pub use Rattle.am_base.proofs.Greatest.{split_on_bool}
pub use Rattle.am_base.specs.Lists.{blank, is_blank_image, is_blank_row, row_at_place, members_of_image, row_after_view, blank_row}
pub use Rattle.am_base.specs.{Founding.Rules, Founding.MayFound, Most.greatest_number, Most.most_bytes_of_body, Names.place_of_name, Names.IsSetOfNames, Names.has, Names.life_of_name}
pub use Rattle.am_base.specs.{Names.names_are_within, Names.lowest_name_of, Names.name_of_place_and_life, Stamps.stamp_is_less, Stamps.stamps_are_equal, Stamps.no_stamp, declared.entry.Entry.Entry}
pub use Rattle.am_base.specs.{declared.entry.GroupView.GroupView, declared.image.Image.Image, declared.name.Stamp.Stamp, declared.outcome.Outcome.Outcome}
pub use Rattle.am_packet.specs.{Boxes.Letter, Laws.IsBytes, declared.packet.Packet.Packet}
pub use Rattle.am_text_defs.specs.{Fields.onto_cut, Fields.cut_of, Fields.same, Fields.and_then, Fields.number_in_text, Fields.split_text}
pub use Rattle.am_text_defs.specs.{declared.fault.FieldFault.FieldFault, declared.fault.FieldFault.TheVariants.Form}
pub use Rattle.am_group.specs.{Deliveries.deliveries, Deliveries.acting_name_of_record, Deliveries.entry_taken_by_outcome, Deliveries.entries_given_to, Journals.item_at, declared.event.Act.Act}
pub use Rattle.am_group.specs.{declared.event.Event.Event, declared.event.Record.Record}
pub use Rattle.am_model.proofs.Founders.{lowest_founder_founds}
pub use Rattle.am_model.specs.Node.{Node, founders_entry, has_log_by_status, lowest_name_or_zero}
pub use Rattle.am_group_defs.proofs.{Beginnings.run_begins_longer_run, Runs.watched_is_run, Runs.one_record_each}
pub use Rattle.am_group_defs.specs.Claims.{NoBallot, Segment, Once, Sent, IsSend, BeginsAt, IsSegment, StandsOnce}
pub use Rattle.am_group_defs.specs.Lawful.{broken_at, watch_run, lawful_front, events_before_break, Watch, watch_start, greatest_complete, is_lawful, first_unlawful_event_so_far}
pub use Rattle.am_group_defs.specs.Text.{body_text, name_text, stamp_text, names_text, numbers_text, outcome_numbers, is_everybody_else, letters_text, lines_from}
pub use Rattle.am_group_defs.specs.Text.{group_from, newline, hex_byte}
pub use Rattle.am_group_defs.specs.{Group.logs, Group.AcceptedSend, Group.accepted_send_of_outcome, Group.accepted_sends, Play.play_text_of, Play.text_of_watch, World.World, World.run}
pub use Rattle.am_group_defs.specs.{World.Decided, World.happens}
pub use Rattle.am_text_laws.proofs.Words.{byte_is_plain, TextIsWord, TextIsPlain, and_true_gives_both, list_all_of_append, list_all_of_weaker_test, word_is_plain_text, appended_plain_texts_are_plain, decimal_is_word, name_text_is_word, stamp_text_is_word}
pub use Rattle.am_text_laws.proofs.Words.{names_text_is_word, body_text_is_word, cut_of_word_at_blank, cut_of_whole_word, stamp_of_stamp_text, bytes_of_body_text, hex_text_is_word}
pub use Rattle.am_text_laws.proofs.{Printed.number_up_to_decimal, Printed.name_of_name_text, Printed.names_of_names_text}
pub use Rattle.am_step_laws.proofs.Items.{all_gives_item_at}
pub use Rattle.am_step_laws.proofs.Named.{run_has_names}
pub use Rattle.am_step_laws.proofs.Numbers.RunCounts.{number_bounds_hold_in_runs}
pub use Rattle.am_step_laws.specs.Bytes.{IsRunWithinScriptLimits, BodyIsWithinLimit}
pub use Rattle.am_abstract_group.proofs.Turns.{no_send_stands_twice}
pub use Rattle.am_run_laws.proofs.Holds.{unballoted_runs_hold, unballoted_group_lists_fit}
pub use Rattle.am_run_laws.specs.Lists.{GroupListFits}
pub use Rattle.am_safety.proofs.Holds.{headline_holds, lists_of_runs_fit}
pub use Rattle.am_safety.proofs.Lives.{lives_are_told}
pub use Rattle.am_safety.proofs.RaisedRuns.{resiliences_hold}
pub use Rattle.am_safety.proofs.Sound.{records_are_sound}
pub use Rattle.am_safety.proofs.Sound.{requests_in_turn}
pub use Rattle.am_safety.proofs.RangeBytes.{short_runs_stay_in_range}
pub use Rattle.am_safety.specs.Records.{IsSayable, AsksBytes, returned_as, names_after, HasLife, IsAnswerOfAct, ReturnAnswerHasLife, IsSound, LivesTold, queued_in, queued_by}
pub use Rattle.am_safety.specs.Records.{requests_given, names_told, AreTold, first_names}
pub use Rattle.am_safety.specs.Resiliences.{IsRaised, GivesRaised, GaveRaised}
pub use Rattle.am_script_defs.specs.Schedules.{IsOfBytes, AreOfBytes, others_json}
pub use Rattle.am_audit_defs.proofs.{Beginnings.cut_of_line_at_newline, Segments.count_of_name_is_length, Texts.read_lines_takes_good_line}
pub use Rattle.am_audit_defs.specs.Lines.{Reading, Line, begins_mark, mark_cut, with_send, with_sent_answer, with_take, with_return, may_event, may_list, may_log}
pub use Rattle.am_audit_defs.specs.Lines.{with_event, read_lines, read_text, nothing_read, is_text_end, read_on, read_behind}
pub use Rattle.am_audit_defs.specs.Verdicts.{or_else, first_fault, first_astray, first_lost, first_early, first_misfit, first_skipped, first_unsent, first_unlogged}
pub use Rattle.am_audit_defs.specs.Verdicts.{first_untaken, lines_of, first_asked, body_at, is_text, unsent_at, bare_entry, is_lowest, founds, fits_at, image_after}
pub use Rattle.am_audit_defs.specs.Verdicts.{last_of, first_with, first_sent, gap_at, differs_at, twice_by, twice_at, fault_at, may_begin, early_at, once_more}
pub use Rattle.am_audit_defs.specs.Verdicts.{stands, is_at, count_of, is_line}
pub use Rattle.am_audit_defs.specs.{Agreement.HasNoNewline, Fields.resilience_in, Fields.is_send, Fields.with_rest, Fields.two_of, Fields.expect, Fields.is_body}
pub use Rattle.am_audit_defs.specs.{declared.line.AnsweredSend.AnsweredSend, declared.line.TextStage.TextStage, declared.outline.Outline.Outline, declared.verdict.Verdict.Verdict}
pub use Rattle.am_trace_laws.specs.Claims.{right_verdict, AgreesAs, RunsHaveTheirTexts, LawfulTextsAgree, ScriptsArePassedOver}
pub use Rattle.am_trace_laws.specs.Texts.{sends_of, record_answers, take_lines_of, entry_texts_of, logs_in, reading_of, send_lines_in, log_in, queued_as, sent_as, line_answers_in, took_as}
pub use Rattle.am_trace_laws.specs.Texts.{take_in}
unfoldable pub use Rattle.std.specs.Fmt.{digits}
unfoldable pub use Rattle.am_base.specs.{Lists.AllEntriesFit, Lists.after, Lists.fits, Names.list_by_place}
unfoldable pub use Rattle.am_text_defs.specs.Fields.{number_up_to}
unfoldable pub use Rattle.am_group_defs.specs.Text.{resilience_text, entry_text, outcome_word, outcome_parts, outcome_text, act_word, act_parts, event_text}
unfoldable pub use Rattle.am_group_defs.specs.Text.{kind_word, addressees_text, letter_text, record_line, group_line, log_line, empty_log_line, log_text, logs_text}
unfoldable pub use Rattle.am_group_defs.specs.Text.{mark_line, play_text, records_text, group_text}
unfoldable pub use Rattle.am_group_defs.specs.{Lawful.watch_event, Lawful.watch_events, World.world_after_events}
unfoldable pub use Rattle.am_script_defs.specs.Schedules.{life_json, resilience_json, body_json, keys_before, keys_behind, word_json, event_json, list_json}
unfoldable pub use Rattle.am_script_defs.specs.Schedules.{events_json, founders_json, numbers_json, script_text}
unfoldable pub use Rattle.am_audit_defs.specs.Fields.{data_parts, data_of, resilience_in_text, view_in_text, outline_of, data_in, told_number, send_of, answer_fields_of, take_of}
unfoldable pub use Rattle.am_audit_defs.specs.Fields.{return_of}
unfoldable pub use Rattle.am_audit_defs.specs.Lines.{counted, add_event, add_entry, logged, add_log, add_void, add_line}
unfoldable pub use Rattle.am_audit_defs.specs.{Verdicts.wrong_lists, Verdicts.wrong_events, Verdicts.verdict_of}
