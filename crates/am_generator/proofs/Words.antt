-- The words of this crate's proofs, of the crates and definitions that they come from.
pub use Rattle.std.{proofs.Math.Bool.and-false, proofs.Math.Bool.and-true, proofs.lemmas.Bool.and_parts, proofs.lemmas.Bool.Decides.nat_tests}
pub use Rattle.std.{proofs.lemmas.List.FromFn.fill_by_all, proofs.lemmas.List.Sums.count_by-le-length, proofs.lemmas.List.Sums.sum_by-append}
pub use Rattle.std.{proofs.lemmas.Result.err_from_is_err_and, proofs.lemmas.Result.on_ok_weaker, proofs.lemmas.Result.IfErr-weaker, specs.List.list_all}
pub use Rattle.std.proofs.Common.{◌≡◌, ℕ, ◌+◌, ◌%◌, ◌<◌, ◌≤◌, List, length, take, get_or, ◌∙◌, arith, zero, suc, ◌==◌, [], ◌∷◌, ◌&&◌, refl, ap, true, nat_le}
pub use Rattle.std.proofs.Common.{slice_index, ◌≢◌, ◌++◌, drop, Option, Some, None, nat_lt, slice_index_or, slice_set, sym, add-zero, length-drop, ◌-◌, Bool}
pub use Rattle.std.proofs.Common.{false, cond, sum_by, slice_get, subst, rules}
pub use Rattle.std.proofs.lemmas.List.{length-take-le, get_or-take, length-append, take-append-le, drop-append-le, take-append-drop, take_all, drop_all}
pub use Rattle.std.proofs.lemmas.List.{length-set, get_or-set_same, get_or-set_other}
pub use mir.Val.{bool_byte}
pub use Rattle.am_base.specs.{Founding.Rules, Founding.MayFound, Outcomes.is_outcome_sent, Names.size, Names.first_lives_of_mask}
unfoldable pub use Rattle.am_base.specs.Names.{places_by_mask}
pub use Rattle.am_base.proofs.Greatest.{split_on_bool}
pub use Rattle.am_packet.specs.Boxes.{Letter}
pub use Rattle.am_group.specs.{declared.event.Event.Event, declared.event.Act.Act, Addressed.IsSeen, declared.event.Record.Record, Journals.letters_of_records}
unfoldable pub use Rattle.am_group.specs.Addressed.{next_for}
pub use Rattle.am_group.proofs.Places.{letters_of_pushed_record}
pub use Rattle.am_group.proofs.Seen.{letters_seen_of_append, letters_seen_up_to_number, letters_seen_without_next, next_for_le_length}
pub use Rattle.am_group_defs.specs.{World.World, World.record_of, Settle.event_at}
pub use Rattle.am_world.specs.Runs.{Play, play_after, replay}
pub use Rattle.am_shared_journal_defs.specs.{Choices.draw, Choices.after_draw, Choices.Luck, Choices.choice_of, Choices.again, Choices.progress_after}
pub use Rattle.am_shared_journal_defs.specs.{declared.choice.Choice.Choice, declared.progress.Progress.Progress}
pub use Rattle.rand_pcg.specs.Lcg.{Lcg}
pub use Rattle.am_generator.specs.{declared.generator.DrawnTurn.DrawnTurn, Counts.AreSeen, Counts.seen_after, Counts.AreSent, Counts.IsDriven}
pub use Rattle.am_generator.specs.{Counts.Turned, Counts.Drew, Generating.drawn, Generating.next_place, Generating.next_turn, Generating.next_event}
pub use Rattle.am_generator.specs.Courses.{IsCourse, IsCalmAct}
pub use Rattle.am_base.specs.Most.{most_events_of_run}
pub use Rattle.am_generator.specs.Generating.{most_drawn, counting, GeneratedRun, generated_rules, sent_by, first_drive, turn_of, act_at, do_turn, no_progress}
pub use Rattle.am_generator.specs.Generating.{progress_at}
unfoldable pub use Rattle.am_generator.specs.Generating.{after_turn, drive_once, drive, events_of_seed}
