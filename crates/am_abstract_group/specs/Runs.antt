-- Runs of a group, and which are lawful.
use Rattle.std.specs.Prelude.{◌≡◌, ◌⊎◌, ℕ, ◌+◌, ◌<◌, ◌≤◌, ◌&&◌, ◌||◌, ◌==◌, nat_lt, not, min, Bool, true, false, if◌then◌else◌, List, [], length, None}
use Rattle.am_base.specs.declared.name.Stamp.{Stamp}
use Rattle.am_base.specs.Names.{has}
use Rattle.am_base.specs.Stamps.{no_stamp}
use Rattle.am_base.specs.Whole.{IsBeginningOf, stamp_of_list, key_of_stamp}
use Rattle.am_abstract_group.specs.Group.{count_of_passing_names, ChainNode, Chosen, list_with_chosen_view, Group, IsThere}
use Rattle.am_abstract_group.specs.Moves.{Move, decides}

-- A view completes: as many of its members as an accepted entry needs have stored its View, and none of its members that is there
-- lags behind it.
pub record ViewCompletes (s : Group) (view : ℕ) : Type 0 where
  pub decided : s.views.decided view ≡ true
  pub holders : ℕ → Bool
  pub counts : (h : ℕ) → holders h ≡ true → has (s.views.chosen view).members h ≡ true
  pub stored : (h : ℕ) → holders h ≡ true → IsBeginningOf (list_with_chosen_view (s.views.chosen view)) (s.node h).list
  pub enough : min ((s.views.chosen view).resilience + 1) (count_of_passing_names (has (s.views.chosen view).members)) ≤ count_of_passing_names holders
  pub none_lags : (j : ℕ) → has (s.views.chosen view).members j ≡ true → IsThere (s.node j) → view ≤ key_of_stamp (stamp_of_list (s.node j).list)

-- A move, and then views that complete are marked, and stay marked.
pub record GroupStep (s t : Group) : Type 0 where
  pub moved : Group
  pub move : Move s moved
  pub complete : ℕ → Bool
  pub stay : (view : ℕ) → moved.views.complete view ≡ true → complete view ≡ true
  pub marks : (view : ℕ) → complete view ≡ true → (moved.views.complete view ≡ true) ⊎ ViewCompletes moved view
  pub is : t ≡ record moved { views = record moved.views { complete = complete } }

-- the names that count for a view: its members, and who joined since
abbrev pub counts_for : Group → ℕ → ℕ → Bool
counts_for s view name = has (s.views.chosen view).members name
    || ((s.node name).has_log && nat_lt (length (list_with_chosen_view (s.views.chosen view))) (s.node name).start)

-- of the names that count for the greatest complete view, no more are stopped undeparted than its resilience
abbrev pub IsLawful : Group → Type 0
IsLawful s = (view : ℕ) → s.views.complete view ≡ true → ((x : ℕ) → s.views.complete x ≡ true → x ≤ view)
    → count_of_passing_names (λ name. counts_for s view name && ((s.node name).stopped && not (s.node name).departed)) ≤ (s.views.chosen view).resilience

-- how a group begins: its founders have their View, by one of them
pub record GroupMayBegin (founders : List ℕ) (first resilience : ℕ) : Type 0 where
  pub small : first < 256
  pub among : has founders first ≡ true

abbrev pub first_stamp : ℕ → Stamp
first_stamp first = record { round = 1; by = first }

abbrev pub first_choice : List ℕ → ℕ → ℕ → Chosen
first_choice founders first resilience = record {
  before = [];
  view = record { stamp = first_stamp first; members = founders; resilience = resilience };
}

abbrev pub chain_first_node : List ℕ → ℕ → ℕ → ℕ → ChainNode
chain_first_node founders first resilience name = record {
  list = if has founders name then list_with_chosen_view (first_choice founders first resilience) else [];
  has_log = has founders name;
  stopped = false;
  departed = false;
  leaving = false;
  start = 1;
  promise = if has founders name then first_stamp first else no_stamp;
  told = 0;
  acc = 0;
  ballot = false;
}

abbrev pub group_start : List ℕ → ℕ → ℕ → Group
group_start founders first resilience = record {
  node = chain_first_node founders first resilience;
  shown = λ x name. None;
  served = λ x name. false;
  views = record {
    decided = λ x. x == key_of_stamp (first_stamp first);
    chosen = λ x. first_choice founders first resilience;
    line = λ x. list_with_chosen_view (first_choice founders first resilience);
    complete = λ x. x == key_of_stamp (first_stamp first);
    current = first_stamp first;
  };
  group = list_with_chosen_view (first_choice founders first resilience);
}

-- what a lawful run comes to
pub data Run (founders : List ℕ) (first resilience : ℕ) : Group → Type 0 where
  founded : GroupMayBegin founders first resilience → Run founders first resilience (group_start founders first resilience)
  more : {s t : Group} → Run founders first resilience s → GroupStep s t → IsLawful t → Run founders first resilience t

-- what lawful steps lead to, from some moment on
pub data Onward : Group → Group → Type 0 where
  here : {s : Group} → Onward s s
  onward : {s t u : Group} → Onward s t → GroupStep t u → IsLawful u → Onward s u

-- a move that is no decision
abbrev pub IsNoDecision : {s t : Group} → Move s t → Type 0
IsNoDecision (decides i v a) = ⊥
IsNoDecision _ = Unit {0}

-- what a run in which no ballot is decided comes to, whoever stops
pub data QuietRun (founders : List ℕ) (first resilience : ℕ) : Group → Type 0 where
  quiet : GroupMayBegin founders first resilience → QuietRun founders first resilience (group_start founders first resilience)
  quietly : {s t : Group} → QuietRun founders first resilience s → (move : Move s t) → IsNoDecision move → QuietRun founders first resilience t
