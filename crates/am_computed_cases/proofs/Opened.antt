-- All that a text is computed by. Written by tools/rows.py.
use Rattle.std.proofs.Common.{ℕ}
use Rattle.am_base.specs.Names.{list_by_place}
use Rattle.am_base.specs.Lists.{after, fits, image_after_entries}
use Rattle.am_base.specs.Fronts.{greatest_passing_number}
use Rattle.am_base.specs.Votes.{best_vote_from}
use Rattle.am_model.specs.Node.{names_that_pass}
use Rattle.am_node_defs.specs.Cores.{raise_accepted_to_told, pass_over_below_join, union_of_members_at}
use Rattle.am_node_defs.specs.Reports.{least_of_names}
use Rattle.am_node_defs.specs.Refresh.{raise_own_report, tell_accept_front, advance_with_reports, trim_to_least_taken}
use Rattle.am_model.specs.Refresh.{refresh_as_sequencer, refresh, settle_waiting_send, refresh_at_end}
use Rattle.am_model.specs.Emit.{letters_of_entries, finish}
use Rattle.am_model.specs.Ballots.{best_vote_for_ballot, decide, begin_ballot, keep_vote_in_ballot, give_up_in_ballot}
use Rattle.am_model.specs.Calls.{first_lives_of_other_places, send_row, done_row, take_row, join_row, state_row, leave_row, reset_row, ask_row, give_up_row}
use Rattle.am_model.specs.Ticks.{tick_row}
use Rattle.am_model.specs.Sequencing.{request_row, ack_row, nack_row}
use Rattle.am_model.specs.Receiving.{spread_row, bcast_row, order_row, accept_row, hold_row}
use Rattle.am_model.specs.Joining.{join_ask_row, welcome_row, leave_ask_row, gone_row}
use Rattle.am_model.specs.Resets.{invite_row, vote_row, fetch_row, piece_row, result_row}
use Rattle.am_model.specs.Hearing.{hear_row}
use Rattle.am_model.specs.Step.{row, step, hear_packet, hear_refused_bytes}
use Rattle.am_group_defs.specs.World.{world_with_record, world_with_step, happens, world_after_events}
use Rattle.am_group_defs.specs.Lawful.{is_complete, is_lawful, greatest_complete, watch_event, watch_events}
use Rattle.am_group_defs.specs.Settle.{running_places, hearings_from, settle_waves, settle_rounds, settle_events}
use Rattle.am_group_defs.specs.Text.{name_text, stamp_text, names_text, body_text, resilience_text, entry_text, outcome_word, outcome_parts, outcome_text, act_word}
use Rattle.am_group_defs.specs.Text.{act_parts, event_text, kind_word, addressees_text, letter_text, record_line, records_text, group_line, group_text, log_line}
use Rattle.am_group_defs.specs.Text.{empty_log_line, log_text, logs_text, mark_line, play_text}
use Rattle.std.specs.Fmt.{digits}
use Rattle.am_computed_cases.specs.Scripts.{set_of}

-- to unfold this is to unfold all of it
unfoldable pub opened : ℕ
unfolding list_by_place after fits image_after_entries greatest_passing_number best_vote_from names_that_pass raise_accepted_to_told
    pass_over_below_join union_of_members_at least_of_names raise_own_report tell_accept_front advance_with_reports trim_to_least_taken
    refresh_as_sequencer refresh settle_waiting_send refresh_at_end letters_of_entries finish best_vote_for_ballot decide begin_ballot
    keep_vote_in_ballot give_up_in_ballot first_lives_of_other_places send_row done_row take_row join_row state_row leave_row reset_row ask_row
    give_up_row tick_row request_row ack_row nack_row spread_row bcast_row order_row accept_row hold_row join_ask_row welcome_row leave_ask_row
    gone_row invite_row vote_row fetch_row piece_row result_row hear_row row step hear_packet hear_refused_bytes world_with_record world_with_step
    happens world_after_events is_complete is_lawful greatest_complete watch_event watch_events running_places hearings_from settle_waves
    settle_rounds settle_events name_text stamp_text names_text body_text resilience_text entry_text outcome_word outcome_parts outcome_text act_word
    act_parts event_text kind_word addressees_text letter_text record_line records_text group_line group_text log_line empty_log_line log_text
    logs_text mark_line play_text digits set_of
opened = 0
