-- The words of this crate's proofs, of the crates and definitions that they come from.
pub use Rattle.std.{proofs.lemmas.Bool.cases_lt, proofs.lemmas.Bool.Decides.nat_tests, proofs.lemmas.List.get_or-replicate, proofs.lemmas.List.get_or_past}
pub use Rattle.std.{proofs.lemmas.List.length-replicate, specs.List.range_with_len, specs.Option.IfSome}
pub use Rattle.std.proofs.Common.{◌≡◌, ℕ, zero, suc, ◌+◌, ◌-◌, ◌*◌, ◌/◌, ◌%◌, ◌<◌, ◌≤◌, List, ◌∷◌, map, replicate, length, refl, sym, ◌∙◌, ap, subst, Bool}
pub use Rattle.std.proofs.Common.{true, false, ◌==◌, ◌&&◌, if◌then◌else◌, Option, Some, slice_index, slice_index_or, ⊎_elim, arith, drop, not, None}
pub use Rattle.am_base.specs.{declared.image.Vote.Vote, Names.IsSetOfNames, Names.place_of_name, Names.life_of_name, Names.name_of_place_and_life, Names.names_of, Names.has}
pub use Rattle.am_base.specs.{Names.names_from, Votes.NamedVote, Votes.better_vote_of, Votes.best_vote}
pub use Rattle.am_base.proofs.Places.{sixteen_items_are_by_place, slice_index-by_place, length-by_place}
unfoldable pub use Rattle.am_base.specs.Votes.{best_vote_from}
pub use Rattle.am_node_defs.specs.Reports.{least_of_names, lesser_of_options}
pub use Rattle.am_node_defs.proofs.{Leaders.least_of_names_le_each, ReportLaws.least_of_after_last_place}
pub use Rattle.am_model.specs.{Node.Ballot, Node.life_where_name_passes, Ballots.taken_number_of_voter, Ballots.new_ballot, Ballots.has_voted, Ballots.need_set_without_given_up}
unfoldable pub use Rattle.am_model.specs.Node.{names_that_pass}
pub use Rattle.am_ballots.specs.Kept.{votes_of, ballot_of, marks_of}
