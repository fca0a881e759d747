-- What a member does with the sequencer's packets, and with bodies that are spread.
use Rattle.std.specs.Prelude.{ℕ, ◌+◌, max, List, take, Option, Some, None, Bool, true, false, not, ◌&&◌, ◌||◌, ◌==◌, nat_lt, nat_le, if◌then◌else◌}
use Rattle.std.specs.List.{list_any}
use Rattle.am_base.specs.declared.entry.Entry.{Entry}
use Rattle.am_base.specs.declared.entry.Entry.TheVariants.{Data, Join, Leave, View}
use Rattle.am_base.specs.declared.outcome.Outcome.{Outcome}
use Rattle.am_base.specs.declared.outcome.Outcome.TheVariants as said
use Rattle.am_base.specs.Names.{without_name, names_of}
use Rattle.am_base.specs.Lists.{fits}
use Rattle.am_node_defs.specs.declared.sender.OwnSend.{OwnSend}
use Rattle.am_node_defs.specs.declared.bodies.KeptBody.{KeptBody}
use Rattle.am_node_defs.specs.Bodies.{is_body_of_send, find_body, keep_body, drop_bodies}
use Rattle.am_model.specs.Node.{Node, top, image_of_node, members, set_of_one_name, has_own_leave, number_is_within_bound, waiting_send_of, push_entry, trim_node_up_to}
use Rattle.am_model.specs.Emit.{Plan, plan_without_letters, plan_with_letter, with_letter_where, ack_packet_of, nack_packet_of}
use Rattle.am_model.specs.Sequencing.{row_of_name_in_list, outcome_where_accepted_rose}

-- ---- bodies

-- a Spread at a member that isn't the sequencer
unfoldable pub spread_row : Node → ℕ → ℕ → List ℕ → Plan
spread_row m s req body =
    if nat_le req (row_of_name_in_list m s).last || list_any (is_body_of_send s req) m.bodies then plan_without_letters m said.Known
    else plan_without_letters (record m { bodies = keep_body s req body m.bodies }) said.Kept

-- the bodies that a stored Data leaves
abbrev pub bodies_after_stored_entry : List KeptBody → Entry → List KeptBody
bodies_after_stored_entry bodies (Data from req body) = drop_bodies from req bodies
bodies_after_stored_entry bodies (Join name) = bodies
bodies_after_stored_entry bodies (Leave name) = bodies
bodies_after_stored_entry bodies (View v) = bodies

-- the body of a send that was spread: its own waiting send's, or a kept one's
abbrev pub body_of_waiting_send : Node → ℕ → ℕ → Option OwnSend → Option (List ℕ)
body_of_waiting_send m from req None = None
body_of_waiting_send m from req (Some s) = if (from == m.core.who) && (s.req == req) then Some s.body else None

abbrev pub first_body_that_is_there : Option (List ℕ) → Option (List ℕ) → Option (List ℕ)
first_body_that_is_there None second = second
first_body_that_is_there (Some body) second = Some body

abbrev pub body_of_spread_send : Node → ℕ → ℕ → Option (List ℕ)
body_of_spread_send m from req = first_body_that_is_there (body_of_waiting_send m from req (waiting_send_of m)) (find_body from req m.bodies)

-- ---- entries

abbrev pub is_view : Entry → Bool
is_view (Data from req body) = false
is_view (Join name) = false
is_view (Leave name) = false
is_view (View v) = true

-- what the sequencer's packet tells of its fronts
abbrev pub node_with_noted_fronts : Node → ℕ → ℕ → Node
node_with_noted_fronts m base acc = trim_node_up_to (record m { core = record (m.core) { told = max m.core.told acc } }) (if nat_le base m.core.taken then base else m.core.base)

-- this node is among so many lowest members other than the sequencer
abbrev pub acknowledges : Node → ℕ → Node → Bool
acknowledges m s n = list_any (λ name. name == n.core.who) (take (image_of_node m).resilience (names_of (without_name (members m) s)))

-- the entry is stored; some members acknowledge it at once
abbrev pub store_fitting_entry : Node → ℕ → ℕ → Entry → Plan
store_fitting_entry m s number e =
    with_letter_where (acknowledges (push_entry m e) s) (plan_without_letters (record (push_entry m e) { bodies = bodies_after_stored_entry m.bodies e }) (said.Stored number)) (set_of_one_name s) ack_packet_of

-- a numbered entry, whose body may be missing
abbrev pub store_numbered_entry : Node → ℕ → ℕ → Option Entry → Outcome → Plan
store_numbered_entry m s number None missing = plan_with_letter m missing (set_of_one_name s) nack_packet_of
store_numbered_entry m s number (Some e) missing =
    if is_view e || (not (fits (image_of_node m) e) || not (number_is_within_bound m m.core.base number)) then plan_without_letters m said.Unfit
    else store_fitting_entry m s number e

-- once what it tells is noted
abbrev pub receive_entry : Node → ℕ → ℕ → ℕ → Option Entry → Outcome → Plan
receive_entry m s base number e missing =
    if nat_le number (top m) then plan_without_letters m said.Known
    else if has_own_leave m then plan_without_letters m said.Behind
    else if nat_lt (top m + 1) number then plan_with_letter m (said.Gap (top m + 1)) (set_of_one_name s) nack_packet_of
    else if nat_lt m.core.taken base then plan_without_letters m said.Behind
    else store_numbered_entry m s number e missing

unfoldable pub bcast_row : Node → ℕ → ℕ → ℕ → ℕ → Entry → Plan
bcast_row m s base acc number e = receive_entry (node_with_noted_fronts m base acc) s base number (Some e) said.Known

abbrev pub data_entry_of : ℕ → ℕ → Option (List ℕ) → Option Entry
data_entry_of from req None = None
data_entry_of from req (Some body) = Some (Data from req body)

unfoldable pub order_row : Node → ℕ → ℕ → ℕ → ℕ → ℕ → ℕ → Plan
order_row m s base acc number from req = receive_entry (node_with_noted_fronts m base acc) s base number (data_entry_of from req (body_of_spread_send m from req)) (said.NoBody from req)

-- how far the list is accepted, and with a poll a report
abbrev pub answer_accept : Node → Node → ℕ → Bool → Plan
answer_accept m old s poll = with_letter_where (λ n. poll) (record (plan_without_letters m said.Known) { outcome = outcome_where_accepted_rose old said.Known (λ n. said.Advanced n.core.acc) })
    (set_of_one_name s) ack_packet_of

unfoldable pub accept_row : Node → ℕ → ℕ → ℕ → ℕ → Bool → Plan
accept_row m s base acc high poll =
    if nat_lt (top m) high && not (has_own_leave m) then plan_with_letter (node_with_noted_fronts m base acc) (said.Gap (top m + 1)) (set_of_one_name s) nack_packet_of
    else answer_accept (node_with_noted_fronts m base acc) m s poll

-- the waiting send is put off
abbrev pub answer_hold : Node → ℕ → ℕ → ℕ → Option OwnSend → Plan
answer_hold m base high req None = plan_without_letters m said.Known
answer_hold m base high req (Some s) = if s.req == req then plan_without_letters m (said.PutOff req base high) else plan_without_letters m said.Known

unfoldable pub hold_row : Node → ℕ → ℕ → ℕ → Plan
hold_row m base high req = answer_hold m base high req (waiting_send_of m)
