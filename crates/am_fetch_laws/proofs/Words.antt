-- The words of this crate's proofs, of the crates and definitions that they come from.
pub use Rattle.am_step_laws.proofs.Words.{◌≡◌, ◌⊎◌, inl, inr, ℕ, zero, suc, ◌+◌, ◌-◌, ◌<◌, ◌≤◌, ◌==◌, ◌&&◌, ◌||◌, max, min, nat_lt, nat_le, Bool, true, false}
pub use Rattle.am_step_laws.proofs.Words.{List, [], ◌∷◌, ◌++◌, length, take, drop, slice_get, Option, Some, None, refl, sym, ap, ◌∙◌, subst, arith}
pub use Rattle.am_step_laws.proofs.Words.{length-append, length-take, length-drop, nat_tests, All, All-nil, All-head, All-tail, size, has, split_on_bool, both_of_and, Outcome, View}
pub use Rattle.am_step_laws.proofs.Words.{Entry, GroupView, Stamp, stamps_are_equal, Log, top_of_log, log_entry_at, log_image_at, image_of_log, row_of_name, Image}
pub use Rattle.am_step_laws.proofs.Words.{Packet, Letter, is_for, Node, Ballot, Status, top, image_of_node, view, push_entry, trim_node_up_to, is_member, is_sequencer, acts_in_its_view, other_members}
pub use Rattle.am_step_laws.proofs.Words.{node_with_promise, Plan, is_unfinished_ballot, tick_by_ballot, tick_by_status, tick_of_acting_member, member_hears_other}
pub use Rattle.am_step_laws.proofs.Words.{push_fetched, catch_up, piece_promised, piece_for, end_refresh_rests_with_list, stamp_eq_gives_equality, stamp_eq_of_itself, image_of_pushed_entry}
unfoldable pub use Rattle.am_step_laws.proofs.Words.{finish, step, row, hear_packet, hear_row, tick_row, fetch_row, piece_row, result_row, refresh, refresh_at_end, fits, after}
pub use Rattle.std.proofs.lemmas.Bool.{not-false}
pub use Rattle.am_packet.specs.Boxes.{letter_to, place_for, with_letter}
pub use Rattle.am_packet.specs.declared.packet.Packet.TheVariants.{Accept, Fetch, Piece, Result}
pub use Rattle.am_model.specs.Node.{set_of_one_name}
pub use Rattle.am_model.specs.Emit.{plan_with_letter, fetch_packet_of, piece_packet_of, accept_packet_of, entries_to_serve, letters_with_accept, sends_accept}
unfoldable pub use Rattle.am_model.specs.Emit.{letters_of_entries}
pub use Rattle.am_model.specs.Resets.{may_fetch, serve_pieces, is_unfetchable_view}
pub use Rattle.am_model.proofs.Sets.{occupied_place_counts_in_size}
pub use Rattle.am_step_laws.proofs.Rests.{is_sequencer_after_rest}
pub use Rattle.am_fetch_laws.specs.Fetching.{IsBehind, Fetches, MembersFetch, ServesPieces, FetchesAreServed, MayBeStored, PiecesAreStored, StoresView, HearsResult, ResultsAreStored, ResultsAreFetched}
unfoldable pub use Rattle.am_fetch_laws.specs.Fetching.{pieces}
