-- The words of this crate's proofs, of the crates and definitions that they come from.
pub use Rattle.std.proofs.Common.{◌≡◌, ℕ, ◌+◌, ◌<◌, Bool, true, false, List, [], ◌∷◌, ◌++◌, length, take, drop, Result, Ok, Err, IfOk, OnOk, OnErr, sym}
pub use Rattle.std.proofs.Common.{refl, ap, ◌∙◌, subst, arith, eq-eqb, zero, suc, ◌≤◌, nat_lt, eqb, map, ne_eqb, length-append, length-drop, get_or, ◌≢◌}
pub use Rattle.std.proofs.Common.{◌⊎◌, ◌%◌, ◌^◌, cond, true≢false, set, inl, inr, append-nil, append_assoc, ap₂, None, replicate, slice_index_or, slice_set}
pub use Rattle.std.proofs.Common.{rules}
pub use Rattle.std.proofs.lemmas.List.{length-take, length-set, length-replicate, take-append-drop}
pub use Rattle.std.proofs.lemmas.List.Elements.{All-append, All-set, All-weaker, All-replicate}
pub use Rattle.std.proofs.{Math.Nat.mod-lt, Math.Seq.take-length, Math.Seq.take-append_seam, Math.Seq.drop-append_seam, lemmas.Bool.lt-ltb}
pub use Rattle.std.proofs.{lemmas.Bool.le-ltb, lemmas.Bool.ltb-true, lemmas.Bool.eqb-true}
pub use Rattle.std.proofs.{lemmas.List.FromFn.length-map-range_with_len, lemmas.List.Sums.sum_by-append, lemmas.List.Sums.sum_by-cons}
pub use Rattle.std.specs.{List.range_with_len, List.All, Prelude.if◌then◌else◌, Prelude.sum_by, Prelude.slice_index}
pub use Rattle.atomic_table.proofs.Lists.{at_set, at_snoc, at_longer, set_again, set_else}
pub use Rattle.atomic_table.specs.Table.{step, keeps, takes, gives, stepped, Allows, put_back, rest, opening, Splits, Joins, Final, Seen}
pub use Rattle.atomic_table.specs.{Seated.TableId}
pub use lib.ListN.{get_elem?}
pub use mathlib.Core.Logic.{dite}
pub use mathlib.Core.Option.{Option, none, some, some-injective, some-ne-none}
pub use native.Mathlib.Decide.{ℕ_discrete}
pub use prog.Atomic.{either}
pub use Rattle.am_base.specs.{Most.most_events_of_run, Names.place_of_name}
pub use Rattle.am_packet.specs.Boxes.{Letter}
pub use Rattle.am_group.proofs.Places.{letters_of_pushed_record}
pub use Rattle.am_group.specs.{Addressed.next_for, Addressed.IsSeen, Journals.letters_of_records, declared.event.Record.Record}
pub use Rattle.am_shared_journal_defs.proofs.Sights.{log_is_start_and_rest, append_starts_with_front, starts_with_through_both, of_key_of_append, records_go_on_to_themselves, records_go_on_through_both, times_of_append, times_of_cons, BothRecordsGoOn, both_records_go_on}
pub use Rattle.am_shared_journal_defs.specs.Keys.{same_key, times, is_key, all_keys, is_of, of_key}
pub use Rattle.am_shared_journal_defs.specs.Passes.{Known, Sees, Committed, fresh, Joined, Gathered, HasEachKey}
pub use Rattle.am_shared_journal_defs.specs.Sights.{GoesOn, EachComesNext, StartsWith, longer_list}
pub use Rattle.am_shared_journal_defs.specs.{declared.terms.SharerKey.SharerKey, declared.terms.SharerKey.TheVariants.Place, declared.terms.SharerKey.TheVariants.Caller}
pub use Rattle.am_shared_journal_defs.specs.{declared.terms.Terms.Terms, declared.terms.WireRefusal.WireRefusal}
pub use Rattle.am_shared_journal.specs.Seats.{Sat, seat_view, SeatIsIdle, HasTurn, SeatTakes, Unites, Parts, AddsRecord, ShownJournal, seats_with_key, Fits, IsFree, Page}
pub use Rattle.am_shared_journal.specs.Seats.{IsTaken, Stands, take_step, page_records, count_step, give_step, sight_of, no_terms, SeatLooks, look_step}
pub use Rattle.am_shared_journal.specs.{Looks.IsLook, Looks.AreLooks, Wires.known_by, Wires.OneSeatRests, Wires.WireLine}
pub use Rattle.am_shared_journal.specs.{declared.rule.Sight.Sight, declared.rule.SeatView.SeatView, declared.sheet.LetterLook.LetterLook}
unfoldable pub use Rattle.am_shared_journal_defs.specs.Keys.{place_keys, caller_keys}
