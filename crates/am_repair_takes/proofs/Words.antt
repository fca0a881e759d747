-- The words of this crate's proofs, of the crates and definitions that they come from.
pub use Rattle.am_repair.proofs.RepairWords.{◌≡◌, inl, inr, ℕ, ◌+◌, ◌-◌, ◌<◌, ◌≤◌, ◌==◌, true, false, Bool, List, [], ◌∷◌, ◌++◌, length, Option}
pub use Rattle.am_repair.proofs.RepairWords.{Some, None, zero, suc, if◌then◌else◌, refl, sym, ap, ◌∙◌, subst, arith, split_on_bool, nat_tests, slice_get}
pub use Rattle.am_repair.proofs.RepairWords.{All, eqb-true, eq-eqb, either, All-head, All-tail, Act, Outcome, Rules, place_of_name, has, Letter, Entry}
pub use Rattle.am_repair.proofs.RepairWords.{Log, top_of_log, image_of_log, log_image_at, log_entry_at, Event, Node, top, is_member, has_departed, other_members, Plan}
pub use Rattle.am_repair.proofs.RepairWords.{StepResult, plan_without_letters, settle_changes_only_sends, World, current, is_stopped, run, start, runs_go_on, events_have_effects, acting_name}
pub use Rattle.am_repair.proofs.RepairWords.{MayTellResult, leads, decided, is_unfinished_ballot, has_log_by_status, Stamp, WorldTrimsOnlyTaken, each_node_trims_only_taken, events_trim_only_taken, actor_is_below_256}
pub use Rattle.am_repair.proofs.RepairWords.{run_trims_only_taken, NodeTrimFronts, event_at, running_places, Settling, settle_then, Repair, LeadsCalmly, FollowsView, IsElsewhere}
pub use Rattle.am_repair.proofs.RepairWords.{IsCalm, Calm, size, sends_accept, accept_packet_of, letter_to, world_after_node_event, settle_waiting_send, ◌*◌, HasCaughtUp}
pub use Rattle.am_repair.proofs.RepairWords.{slice_get-get_or, Join, ◌/◌, ticks_of_places, hearings}
unfoldable pub use Rattle.am_model.specs.Calls.{take_row}
pub use Rattle.am_repair.proofs.Nodes.{NodesStandAlike, nodes_stand_alike_by_parts, refreshed_node_stands_alike, settled_node_stands_alike, views_of_alike_nodes, acts_of_alike_nodes, is_sequencer_of_alike_nodes, alike_node_is_at_rest}
pub use Rattle.am_repair.proofs.RepairLeading.{TrustsReportsTaken, alike_node_leads_repair, trusts_reports_after_refresh}
pub use Rattle.am_repair.proofs.RepairLists.{LogGrows, log_grows_to_itself}
pub use Rattle.am_repair.proofs.Ends.{stored_reports_after_end}
pub use Rattle.am_repair.proofs.Saying.{RepairWorldGrows, packet_stays_calm_later}
pub use Rattle.am_repair.proofs.Fine.{WorldKeepsLawsAndCalm}
pub use Rattle.am_repair.proofs.Fine.{laws_and_calm_stay, letters_grow_by_event}
pub use Rattle.am_repair.proofs.Steps.{letter_at_of_appended_letters}
pub use Rattle.am_repair.proofs.Ticking.{node_after_step_of_event, running_name_is_in_running}
pub use Rattle.am_repair.proofs.Nodes.{acting_member_promised_its_view}
pub use Rattle.am_repair.proofs.Nodes.{sequencer_acts_by_own_view}
pub use Rattle.am_repair.proofs.Schedules.{IsInListOfPlaces}
pub use Rattle.am_repair.proofs.ThirdWave.{MemberHasStored}
pub use Rattle.am_repair.proofs.Repaired.{AllMembersHaveStored}
pub use Rattle.am_repair.proofs.Accepting.{AllMembersAreKnown}
pub use Rattle.am_repair.proofs.Accepting.{round_makes_storage_known, round_accepts_what_is_known, sequencer_accepts_after_waves}
pub use Rattle.am_repair.proofs.Known.Beginning.{repair_of_place}
pub use Rattle.am_repair.proofs.Known.Beginning.{repairable_run_is_calm}
pub use Rattle.am_repair.proofs.Repairable.RepairedSettled.{repairable_lists_agree}
pub use Rattle.am_repair_takes.specs.Taking.{takes_of, takes, taking_round, after_rounds, IsTaking, ours, takes_one, TakingStaysCalm, HasAll}
pub use Rattle.am_repair_takes.specs.Taking.{TakingRepairs, RepairedByTaking, AnsweredByTaking}
unfoldable pub use Rattle.am_repair_takes.specs.Taking.{so_many, takes_at, taking_rounds}
pub use Rattle.am_repair.specs.Calm.{CalmNodes}
unfoldable pub use Rattle.am_repair.proofs.RepairWords.{step, row, finish, refresh, refresh_at_end, world_with_record, world_with_step, happens, world_after_events, settle_waves}
pub use Rattle.am_step_laws.proofs.Words.{entry_at_number_of_log, get_or}
pub use Rattle.am_repair.proofs.Fine.{NameRunsNow, member_of_repair_runs_now, member_of_repair_is_small}
pub use Rattle.am_repair.proofs.Rounds.{world_after_waves, round_world_is_after_waves, StaysThroughSchedule, property_stays_through_round, round_stores_eight_more}
pub use Rattle.am_group_defs.specs.{Settle.round_count}
pub use Rattle.am_repair.proofs.Answered.AnsweredRuns.{accepted_are_answered}
pub use Rattle.am_repair.specs.Answers.{AnswersUpTo}
