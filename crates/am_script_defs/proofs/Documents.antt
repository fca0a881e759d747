-- A script that was done as a value of JSON: objects with their keys in order.
use Rattle.std.specs.Prelude.{ℕ, ◌==◌, if◌then◌else◌, List, [], ◌∷◌, codes}
use Rattle.std.specs.List.{flat_map}
use Rattle.serde_json.specs.Data.{unsigned, Data, number, string, array, object, Items, no_items, item, Members, no_members, member}
use Rattle.am_base.specs.Founding.{Rules}
use Rattle.am_base.specs.Names.{place_of_name, life_of_name, names_of}
use Rattle.am_group.specs.declared.event.Act.{Act}
use Rattle.am_group.specs.declared.event.Act.TheVariants as acts
use Rattle.am_group.specs.declared.event.Event.{Event}
use Rattle.am_group_defs.specs.Text.{hex_byte, act_word}

abbrev pub number_of_script_as_data : ℕ → Data
number_of_script_as_data n = number (unsigned n)

abbrev life_then : ℕ → Members → Members
life_then name rest = if life_of_name name == 1 then rest else member (codes "life") (number_of_script_as_data (life_of_name name)) rest

abbrev resilience_of : Rules → ℕ → Members
resilience_of rules resilience = if resilience == rules.resilience then no_members else member (codes "resilience") (number_of_script_as_data resilience) no_members

abbrev pub members_of_body_and_more : Act → Members → Members
members_of_body_and_more (acts.Send body) rest = member (codes "body") (string (flat_map hex_byte body)) rest
members_of_body_and_more act rest = rest

abbrev pub members_before_node_of_act : Act → Members → Members
members_before_node_of_act (acts.Reset least resilience) rest = member (codes "least") (number_of_script_as_data least) rest
members_before_node_of_act (acts.GiveUp name) rest = life_then name (member (codes "name") (number_of_script_as_data (place_of_name name)) rest)
members_before_node_of_act (acts.Cut packet keep) rest = member (codes "keep") (number_of_script_as_data keep) rest
members_before_node_of_act act rest = rest

abbrev pub members_after_node_of_act : Rules → Act → Members
members_after_node_of_act rules (acts.Done req) = member (codes "req") (number_of_script_as_data req) no_members
members_after_node_of_act rules (acts.Reset least resilience) = resilience_of rules resilience
members_after_node_of_act rules (acts.Ask round) = member (codes "round") (number_of_script_as_data round) no_members
members_after_node_of_act rules (acts.Hear packet) = member (codes "packet") (number_of_script_as_data packet) no_members
members_after_node_of_act rules (acts.Cut packet keep) = member (codes "packet") (number_of_script_as_data packet) no_members
members_after_node_of_act rules act = no_members

abbrev pub data_of_script_event : Rules → Event → Data
data_of_script_event rules event = object (members_of_body_and_more event.act (member (codes "do") (string (act_word event.act))
    (members_before_node_of_act event.act (member (codes "node") (number_of_script_as_data (place_of_name event.node)) (members_after_node_of_act rules event.act)))))

abbrev pub items_of_script_events : Rules → List Event → Items
items_of_script_events rules [] = no_items
items_of_script_events rules (event ∷ events) = item (data_of_script_event rules event) (items_of_script_events rules events)

abbrev pub items_of_script_places : List ℕ → Items
items_of_script_places [] = no_items
items_of_script_places (name ∷ names) = item (number_of_script_as_data (place_of_name name)) (items_of_script_places names)

abbrev pub data_of_script_play : Rules → List Event → Data
data_of_script_play rules events = object (member (codes "events") (array (items_of_script_events rules events))
    (member (codes "founders") (array (items_of_script_places (names_of rules.founders)))
    (member (codes "pb_up_to") (number_of_script_as_data rules.pb_up_to)
    (member (codes "resilience") (number_of_script_as_data rules.resilience)
    (member (codes "window") (number_of_script_as_data rules.window) no_members)))))

unfoldable pub document_of_script : Rules → List Event → Data
document_of_script rules events = object (member (codes "play") (data_of_script_play rules events) no_members)
