-- A node of the protocol. Its list is never cut: the base is only a number.
use Rattle.std.specs.Prelude.{ℕ, ◌+◌, ◌-◌, max, List, [], ◌∷◌, ◌++◌, drop, Option, None, Bool, true, false, ◌&&◌, ◌==◌, nat_lt, nat_le, if◌then◌else◌}
use Rattle.std.specs.Prelude.{unwrap_or, slice_index}
use Rattle.am_base.specs.declared.entry.GroupView.{GroupView}
use Rattle.am_base.specs.declared.image.Report.{Report}
use Rattle.am_base.specs.declared.image.Row.{Row}
use Rattle.am_base.specs.declared.image.Image.{Image}
use Rattle.am_base.specs.declared.image.Vote.{Vote}
use Rattle.am_base.specs.declared.name.Stamp.{Stamp}
use Rattle.am_base.specs.declared.entry.Entry.{Entry}
use Rattle.am_base.specs.declared.entry.Entry.TheVariants.{View}
use Rattle.am_base.specs.declared.outcome.Outcome.{Outcome}
use Rattle.am_base.specs.Names.{empty_set_of_names, list_by_place, name_of_place_and_life, has, with_name, without_name, lowest_name_of}
use Rattle.am_base.specs.Stamps.{stamps_are_equal, no_stamp}
use Rattle.am_base.specs.Founding.{Rules}
use Rattle.am_base.specs.Lists.{blank, top_of_log, image_of_log, members_of_image, row_of_name}
use Rattle.am_node_defs.specs.Cores.{CoreState}
use Rattle.am_node_defs.specs.Reports.{no_report, no_reports, reports_after_report}
use Rattle.am_node_defs.specs.declared.sender.OwnSend.{OwnSend}
use Rattle.am_node_defs.specs.Sends as own
use Rattle.am_node_defs.specs.declared.bodies.KeptBody.{KeptBody}
use Rattle.am_model.specs.declared.status.Status.{Status}
use Rattle.am_model.specs.declared.status.Status.TheVariants.{Stranger, Asking, Member, Departed}

-- the last ballot of a node: the least size and the resilience asked for, who voted what, who was given up, and what was
-- last decided on it, or how it ended
pub record Ballot : Type 0 where
  pub stamp : Stamp
  pub least : ℕ
  pub resilience : ℕ
  pub votes : ℕ → Option Vote
  pub given_up : ℕ → Bool
  pub answer : Outcome
  pub is_over : Bool

-- what each part of a node knows, its own sends, the bodies that were spread and aren't numbered yet, and what each name
-- has reported
pub record Node : Type 0 where
  pub core : CoreState
  pub status : Status
  pub leaving : Bool
  pub sends : own.Sends
  pub bodies : List KeptBody
  pub reports : ℕ → Report
  pub ballot : Option Ballot

-- ---- what a node's state tells

abbrev pub is_asking_status : Status → Bool
is_asking_status Stranger = false
is_asking_status Asking = true
is_asking_status Member = false
is_asking_status Departed = false

abbrev pub is_member : Status → Bool
is_member Stranger = false
is_member Asking = false
is_member Member = true
is_member Departed = false

abbrev pub has_departed : Status → Bool
has_departed Stranger = false
has_departed Asking = false
has_departed Member = false
has_departed Departed = true

-- it has or had a list
abbrev pub has_log_by_status : Status → Bool
has_log_by_status Stranger = false
has_log_by_status Asking = false
has_log_by_status Member = true
has_log_by_status Departed = true

-- the number of the last entry
abbrev pub top : Node → ℕ
top m = top_of_log m.core.log

-- what the whole list tells
abbrev pub image_of_node : Node → Image
image_of_node m = image_of_log m.core.log

abbrev pub members : Node → List ℕ
members m = members_of_image (image_of_node m)

abbrev pub view : Node → Stamp
view m = (image_of_node m).view

abbrev pub own_row : Node → Row
own_row m = row_of_name (image_of_node m) m.core.who

-- the members without the node itself
abbrev pub other_members : Node → List ℕ
other_members m = without_name (members m) m.core.who

abbrev pub set_of_one_name : ℕ → List ℕ
set_of_one_name name = with_name empty_set_of_names name

-- the names of a set that pass a test
abbrev pub life_where_name_passes : (ℕ → Bool) → ℕ → ℕ → ℕ
life_where_name_passes test place life = if life == 0 then 0 else if test (name_of_place_and_life place life) then life else 0

unfoldable pub names_that_pass : (ℕ → Bool) → List ℕ → List ℕ
names_that_pass test set = list_by_place (λ place. life_where_name_passes test place (slice_index set place))

-- a member that has promised nothing above its view
abbrev pub acts_in_its_view : Node → Bool
acts_in_its_view m = is_member m.status && stamps_are_equal m.core.promise (view m)

-- it acts in a view of its own
abbrev pub is_sequencer : Node → Bool
is_sequencer m = acts_in_its_view m && ((view m).by == m.core.who)

-- another entry may be numbered
abbrev pub has_room : Node → Bool
has_room m = nat_le (top m + 1 - m.core.base) m.core.rules.window

-- an entry of this number may be stored above this base
abbrev pub number_is_within_bound : Node → ℕ → ℕ → Bool
number_is_within_bound m base number = nat_le (number - base) (m.core.rules.window + 15)

-- its membership has ended in its list: its own Leave stands there, or a View that leaves it out
abbrev pub has_own_leave : Node → Bool
has_own_leave m = nat_lt 0 (own_row m).left

-- the entries above a number
abbrev pub entries_above : Node → ℕ → List Entry
entries_above m number = drop (number - m.core.log.start) m.core.log.entries

abbrev pub own_report_of : Node → Report
own_report_of m = record { stored = top m; taken = m.core.taken }

-- a report that its sender could have made of this list
abbrev pub report_fits : Node → Report → Bool
report_fits m report = nat_le report.taken report.stored && nat_le report.stored (top m)

-- ---- sends

-- the waiting send: the first that isn't settled
abbrev pub waiting_send_of : Node → Option OwnSend
waiting_send_of m = own.first_unsettled_send m.sends

-- how many aren't settled
abbrev pub node_unsettled_count : Node → ℕ
node_unsettled_count m = own.unsettled_count m.sends

-- ---- changes

-- the map with another value at one place
abbrev pub map_with_value : {A : Type 0} → (ℕ → A) → ℕ → A → ℕ → A
map_with_value f k x j = if j == k then x else f j

abbrev pub push_entry : Node → Entry → Node
push_entry m e = record m { core = record (m.core) { log = record (m.core.log) { entries = m.core.log.entries ++ e ∷ [] } } }

-- trimmed up to a number, where that is greater
abbrev pub trim_node_up_to : Node → ℕ → Node
trim_node_up_to m base = record m { core = record (m.core) { base = max m.core.base base } }

abbrev pub node_with_report : Node → ℕ → Report → Node
node_with_report m name report = record m { reports = reports_after_report m.reports name report }

-- ---- the first states

abbrev pub lowest_name_or_zero : List ℕ → ℕ
lowest_name_or_zero set = unwrap_or (lowest_name_of set) 0

-- the stamp of the founders' view
abbrev pub founding_stamp : Rules → Stamp
founding_stamp rules = record { round = 1; by = lowest_name_or_zero rules.founders }

-- the view that the founders begin
abbrev pub founding_view : Rules → GroupView
founding_view rules = record { stamp = founding_stamp rules; members = rules.founders; resilience = rules.resilience }

-- the first entry of the list
abbrev pub founders_entry : Rules → Entry
founders_entry rules = View (founding_view rules)

abbrev pub founder : Rules → ℕ → Node
founder rules who = record {
  core = record {
    who = who;
    rules = rules;
    log = record { start = 0; image = blank; entries = founders_entry rules ∷ [] };
    base = 0;
    promise = founding_stamp rules;
    told = 1;
    acc = 1;
    taken = 0;
    start = 1;
  };
  status = Member;
  leaving = false;
  sends = own.no_sends;
  bodies = [];
  reports = λ name. if has rules.founders name then record { stored = 1; taken = 0 } else no_report;
  ballot = None;
}

abbrev pub stranger_node : Rules → ℕ → Node
stranger_node rules who = record {
  core = record {
    who = who;
    rules = rules;
    log = record { start = 0; image = blank; entries = [] };
    base = 0;
    promise = no_stamp;
    told = 0;
    acc = 0;
    taken = 0;
    start = 0;
  };
  status = Stranger;
  leaving = false;
  sends = own.no_sends;
  bodies = [];
  reports = no_reports;
  ballot = None;
}
