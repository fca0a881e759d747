-- How high the numbers of a node are: what a step raises by one at most, and what stays within what the group has accepted.
use Rattle.am_step_laws.proofs.Words.{right_of_and, ◌≡◌, ◌⊎◌, inl, inr, ⊎_elim, ℕ, ◌+◌, ◌-◌, ◌<◌, ◌≤◌, ◌==◌, max, min, Bool, true, false, not, ◌&&◌, nat_le, nat_lt}
use Rattle.am_step_laws.proofs.Words.{if◌then◌else◌, List, [], ◌∷◌, find, Option, Some, None, refl, sym, ap, ◌∙◌, subst, arith, length-append, nat_tests, count_by}
use Rattle.am_step_laws.proofs.Words.{sum_by-cons, Entry, Report, Vote, Stamp, stamp_is_less, accept_front, raise_accepted_to_told, pass_over_below_join, least_of_names, lesser_of_options, base_after_trim, raise_own_report}
use Rattle.am_step_laws.proofs.Words.{tell_accept_front, advance_with_reports, trim_to_least_taken, OwnSend, is_unsettled, Node, Ballot, top, view, acts_in_its_view, is_sequencer, push_entry, trim_node_up_to, waiting_send_of}
use Rattle.am_step_laws.proofs.Words.{node_unsettled_count, node_with_report, advance_node, refresh_as_sequencer, refresh, settle_waiting_send, refresh_at_end, Plan, finish, overtake_lower_ballot, node_with_promise, is_view}
use Rattle.am_step_laws.proofs.Words.{split_on_bool, accept_front_is_greatest, view_of_pushed_plain_entry, Bounds, bounds_one_higher}
use Rattle.am_step_laws.proofs.{Rests.settle_keeps_property}

-- ---- what is kept

-- the votes of a ballot tell of nothing that the group hasn't accepted
abbrev pub VotesAreWithinAccepted : ℕ → Option Ballot → Type 0
VotesAreWithinAccepted g None = Unit {0}
VotesAreWithinAccepted g (Some b) = (name : ℕ) (vote : Vote) → b.votes name ≡ Some vote → vote.taken ≤ g

-- what is accepted and told has been accepted by the group, or else by this node, in a view of its own
abbrev pub FrontsAreKnownToGroup : ℕ → ℕ → ℕ → Bool → Type 0
FrontsAreKnownToGroup g told acc leads = ((told ≤ g) × (acc ≤ g)) ⊎ ((leads ≡ true) × (told ≤ max g acc))

-- what is counted from the beginning
pub record CountsAreWithin (b : Bounds) (high round last : ℕ) : Type 0 where
  pub entries : high ≤ b.lists
  pub rounds : round ≤ b.rounds
  pub sends : last ≤ b.requests

-- how the fronts of a node stand to one another
pub record FrontsAreInOrder (first high acc taken base : ℕ) : Type 0 where
  pub given : taken ≤ acc
  pub accepted : acc ≤ high
  pub kept : first ≤ base

-- what the group has accepted
pub record FrontsAreWithinGroup (g first taken base start : ℕ) : Type 0 where
  pub listed : first ≤ g
  pub began : start ≤ g
  pub took : taken ≤ g
  pub trims : base ≤ g

-- what a node knows of others tells of nothing else
pub record ReportsAreWithinGroup (g told acc : ℕ) (reports : ℕ → Report) (ballot : Option Ballot) (leads : Bool) : Type 0 where
  pub reported : (name : ℕ) → (reports name).taken ≤ g
  pub votes : VotesAreWithinAccepted g ballot
  pub known : FrontsAreKnownToGroup g told acc leads

-- By the parts of a node, where a list has at most b entries, and the group has accepted g.
pub record NumbersOfPartsAreLow (b : Bounds) (g : ℕ) (first high round last told acc taken base start : ℕ) (leaving : Bool) (next : Option OwnSend) (reports : ℕ
    → Report) (ballot : Option Ballot) (leads : Bool) : Type 0 where
  pub counts : CountsAreWithin b high round last
  pub open counts use *
  pub order : FrontsAreInOrder first high acc taken base
  pub open order use *
  pub within : FrontsAreWithinGroup g first taken base start
  pub open within use *
  -- who leaves has nothing to send
  pub quits : leaving ≡ true → next ≡ None
  pub tells : ReportsAreWithinGroup g told acc reports ballot leads
  pub open tells use *

abbrev pub has_view_of_its_own : Node → Bool
has_view_of_its_own m = (view m).by == m.core.who

abbrev pub NumbersAreLow : Bounds → ℕ → Node → Type 0
NumbersAreLow b g m = NumbersOfPartsAreLow b g m.core.log.start (top m) m.core.promise.round m.sends.last m.core.told m.core.acc m.core.taken m.core.base m.core.start m.leaving
    (waiting_send_of m) m.reports m.ballot (has_view_of_its_own m)

-- what it has accepted the group has accepted
pub record AcceptedIsWithinGroup (g : ℕ) (m : Node) : Type 0 where
  pub told : m.core.told ≤ g
  pub acc : m.core.acc ≤ g

pub higher_bounds_keep_numbers_low : (b : Bounds) (g : ℕ) (m : Node) → NumbersAreLow b g m → NumbersAreLow (bounds_one_higher b) g m
higher_bounds_keep_numbers_low b g m h =
    record {
      counts = record { entries = omega arith; rounds = omega arith; sends = omega arith };
      order = h.order;
      within = h.within;
      quits = h.quits;
      tells = h.tells;
    }

-- ---- tests

-- ---- entries

-- an entry that is no View
pub plain_entry_keeps_numbers_low : (b : Bounds) (g : ℕ) (m : Node) (e : Entry) → is_view e ≡ false → NumbersAreLow b g m → NumbersAreLow (bounds_one_higher b) g (push_entry m e)
plain_entry_keeps_numbers_low b g m e other h =
    let s = h.sends in
    let same : (view m).by ≡ (view (push_entry m e)).by = ap (λ (s : Stamp). s.by) (sym (view_of_pushed_plain_entry m e other)) in
    record {
      counts = record { entries = simp length-append (omega arith); rounds = omega arith; sends = omega arith };
      order = record { given = h.given; accepted = simp length-append (omega arith); kept = h.kept };
      within = h.within;
      quits = h.quits;
      tells = record {
        reported = h.reported;
        votes = h.votes;
        known = subst (λ (name : ℕ). FrontsAreKnownToGroup g m.core.told m.core.acc (name == m.core.who)) same h.known;
      };
    }

-- any entry, where nothing is accepted that the group hasn't
pub entry_below_bound_is_low : (b : Bounds) (g : ℕ) (m : Node) (e : Entry) → top m + 1 ≤ b.lists → AcceptedIsWithinGroup g m → NumbersAreLow b g m → NumbersAreLow b g (push_entry m e)
entry_below_bound_is_low b g m e low k h =
    record {
      counts = record { entries = simp length-append (omega arith); rounds = h.rounds; sends = h.sends };
      order = record { given = h.given; accepted = simp length-append (omega arith); kept = h.kept };
      within = h.within;
      quits = h.quits;
      tells = record { reported = h.reported; votes = h.votes; known = inl (k.told, k.acc) };
    }

pub pushed_entry_keeps_numbers_low : (b : Bounds) (g : ℕ) (m : Node) (e : Entry) → AcceptedIsWithinGroup g m → NumbersAreLow b g m → NumbersAreLow (bounds_one_higher b) g (push_entry m e)
pushed_entry_keeps_numbers_low b g m e k h = let f = h.entries in entry_below_bound_is_low (bounds_one_higher b) g m e (omega arith) k (higher_bounds_keep_numbers_low b g m h)

-- an entry of a number that was there before
pub entry_below_top_is_low : (b : Bounds) (g : ℕ) (m : Node) (number : ℕ) (e : Entry) → nat_le number (top m) ≡ false → number ≤ b.lists → AcceptedIsWithinGroup g m → NumbersAreLow b g m
    → NumbersAreLow b g (push_entry m e)
entry_below_top_is_low b g m number e above low k h =
    let t : top m < number = grind (arith, nat_tests) in
    entry_below_bound_is_low b g m e (omega arith) k h

-- a base up to what is accepted
pub trim_keeps_numbers_low : (b : Bounds) (g : ℕ) (m : Node) (base : ℕ) → base ≤ g → NumbersAreLow b g m → NumbersAreLow b g (trim_node_up_to m base)
trim_keeps_numbers_low b g m base low h = let t = h.trims in let k = h.kept in record {
  counts = h.counts;
  order = record { given = h.given; accepted = h.accepted; kept = omega arith };
  within = record { listed = h.listed; began = h.began; took = h.took; trims = omega arith };
  quits = h.quits;
  tells = h.tells;
}

-- ---- promises

votes_overtaken : (g : ℕ) (by : Stamp) (ballot : Option Ballot) → VotesAreWithinAccepted g ballot → VotesAreWithinAccepted g (overtake_lower_ballot by ballot)
votes_overtaken g by None h = tt
votes_overtaken g by (Some b) h = split_on_bool (not b.is_over && stamp_is_less b.stamp by) (λ t. rw t h) (λ f. rw f h)

pub promise_keeps_numbers_low : (b : Bounds) (g : ℕ) (m : Node) (stamp : Stamp) → stamp.round ≤ b.rounds → NumbersAreLow b g m → NumbersAreLow b g (node_with_promise m stamp)
promise_keeps_numbers_low b g m stamp low h = record {
  counts = record { entries = h.entries; rounds = low; sends = h.sends };
  order = h.order;
  within = h.within;
  quits = h.quits;
  tells = record { reported = h.reported; votes = votes_overtaken g stamp m.ballot h.votes; known = h.known };
}

-- ---- sends

unsettled_cons : (s : OwnSend) (queue : List OwnSend) → count_by is_unsettled (s ∷ queue) ≡ (if is_unsettled s then 1 else 0) + count_by is_unsettled queue
unsettled_cons s queue = sum_by-cons (λ x. if is_unsettled x then 1 else 0) s queue

-- nothing is found where nothing is counted
none_left : (queue : List OwnSend) → count_by is_unsettled queue ≡ 0 → find is_unsettled queue ≡ None
none_left [] h = refl
none_left (s ∷ queue) h = split_on_bool (is_unsettled s)
    (λ t.
    let e : count_by is_unsettled (s ∷ queue) ≡ 1 + count_by is_unsettled queue = unsettled_cons s queue
    ∙ ap (λ (b : Bool). (if b then 1 else 0) + count_by is_unsettled queue) t in
    absurd (omega arith))
    (λ f.
    let e : count_by is_unsettled (s ∷ queue) ≡ 0 + count_by is_unsettled queue = unsettled_cons s queue
    ∙ ap (λ (b : Bool). (if b then 1 else 0) + count_by is_unsettled queue) f in
    rw f (none_left queue (omega arith)))

pub no_unsettled_send_none_waits : (m : Node) → node_unsettled_count m ≡ 0 → waiting_send_of m ≡ None
no_unsettled_send_none_waits m h = none_left m.sends.queue h

-- ---- reports

-- one name's report more
reported_more : (g : ℕ) (reports : ℕ → Report) (who : ℕ) (report : Report) → report.taken ≤ g → ((name : ℕ) → (reports name).taken ≤ g) → (name : ℕ)
    → (if name == who then record { stored = max (reports who).stored report.stored; taken = max (reports who).taken report.taken } else reports name).taken ≤ g
reported_more g reports who report low h name = split_on_bool (name == who)
    (λ t. rw t (let old = h who in omega arith))
    (λ f. rw f (h name))

pub report_keeps_numbers_low : (b : Bounds) (g : ℕ) (m : Node) (s : ℕ) (report : Report) → report.taken ≤ g → NumbersAreLow b g m → NumbersAreLow b g (node_with_report m s report)
report_keeps_numbers_low b g m s report low h = record {
  counts = h.counts;
  order = h.order;
  within = h.within;
  quits = h.quits;
  tells = record { reported = reported_more g m.reports s report low h.reported; votes = h.votes; known = h.known };
}

-- the least of numbers that are all so low
lesser_low : (g x : ℕ) (least : Option ℕ) → x ≤ g → ((y : ℕ) → least ≡ Some y → y ≤ g) → (y : ℕ) → lesser_of_options (Some x) least ≡ Some y → y ≤ g
lesser_low g x None low h y is = let same : x ≡ y = cc in omega arith
lesser_low g x (Some z) low h y is = let same : min x z ≡ y = cc in omega arith

pub least_of_names_is_within : (g : ℕ) (f : ℕ → ℕ) (names : List ℕ) → ((name : ℕ) → f name ≤ g) → (y : ℕ) → least_of_names f names ≡ Some y → y ≤ g
unfolding least_of_names
least_of_names_is_within g f [] h y is = absurd (cc)
least_of_names_is_within g f (name ∷ names) h y is = lesser_low g (f name) (least_of_names f names) (h name) (least_of_names_is_within g f names h) y is

pub base_after_keeps_lower_bound : (first base : ℕ) (least : Option ℕ) → first ≤ base → first ≤ base_after_trim least base
base_after_keeps_lower_bound first base None h = h
base_after_keeps_lower_bound first base (Some to) h = omega arith

pub base_after_is_within : (g base : ℕ) (least : Option ℕ) → base ≤ g → ((y : ℕ) → least ≡ Some y → y ≤ g) → base_after_trim least base ≤ g
base_after_is_within g base None low h = low
base_after_is_within g base (Some to) low h = let t = h to refl in omega arith

-- ---- the refresh

-- who joined passes over no more than is accepted, and than its Join
pub skipped_taken_le_accepted : (taken acc start : ℕ) → taken ≤ acc → (if nat_lt taken (start - 1) then max taken (min acc (start - 1)) else taken) ≤ acc
skipped_taken_le_accepted taken acc start h = split_on_bool (nat_lt taken (start - 1)) (λ t. rw t (omega arith)) (λ f. rw f h)

over_low : (g taken acc start : ℕ) → taken ≤ g → start ≤ g → (if nat_lt taken (start - 1) then max taken (min acc (start - 1)) else taken) ≤ g
over_low g taken acc start h k = split_on_bool (nat_lt taken (start - 1)) (λ t. rw t (omega arith)) (λ f. rw f h)

abbrev passed : ℕ → ℕ → ℕ → ℕ
passed taken acc start = if nat_lt taken (start - 1) then max taken (min acc (start - 1)) else taken

low_lead : (b : Bounds) (g : ℕ) (m : Node) → has_view_of_its_own m ≡ true → NumbersAreLow b g m → NumbersAreLow b g (refresh_as_sequencer m)
unfolding refresh_as_sequencer raise_own_report tell_accept_front advance_with_reports trim_to_least_taken raise_accepted_to_told pass_over_below_join
low_lead b g m own h =
    let given = h.given in let accepted = h.accepted in
    let first = reported_more g m.reports m.core.who (record { stored = top m; taken = m.core.taken }) h.took h.reported in
    let reports : ℕ → Report = (raise_own_report (record { core = m.core; reports = m.reports })).reports in
    let front = accept_front reports m.core.log m.core.acc in
    let most = (accept_front_is_greatest reports m.core.log m.core.acc).most in
    let acc = max m.core.acc (min front (top m)) in
    let taken = passed m.core.taken acc m.core.start in
    let taken_low : taken ≤ g = over_low g m.core.taken acc m.core.start h.took h.began in
    let second = reported_more g reports m.core.who (record { stored = top m; taken = taken }) taken_low first in
    record {
      counts = h.counts;
      order = record {
        given = skipped_taken_le_accepted m.core.taken acc m.core.start (omega arith);
        accepted = omega arith;
        kept = base_after_keeps_lower_bound m.core.log.start m.core.base _ h.kept;
      };
      within = record {
        listed = h.listed;
        began = h.began;
        took = taken_low;
        trims = base_after_is_within g m.core.base _ h.trims (λ y is. least_of_names_is_within g _ _ second y is);
      };
      quits = h.quits;
      tells = record { reported = second; votes = h.votes; known = inr (own, omega arith) };
    }

low_advance : (b : Bounds) (g : ℕ) (m : Node) → NumbersAreLow b g m → NumbersAreLow b g (advance_node m)
unfolding raise_accepted_to_told pass_over_below_join
low_advance b g m h =
    let given = h.given in let accepted = h.accepted in
    let acc = max m.core.acc (min m.core.told (top m)) in
    let known : FrontsAreKnownToGroup g m.core.told acc (has_view_of_its_own m) = ⊎_elim
    (λ (k : (m.core.told ≤ g) × (m.core.acc ≤ g)). let t = k.0 in let a = k.1 in inl (t, omega arith))
    (λ (k : (has_view_of_its_own m ≡ true) × (m.core.told ≤ max g m.core.acc)). let t = k.1 in inr (k.0, omega arith))
    h.known in
    record {
      counts = h.counts;
      order = record { given = skipped_taken_le_accepted m.core.taken acc m.core.start (omega arith); accepted = omega arith; kept = h.kept };
      within = record { listed = h.listed; began = h.began; took = over_low g m.core.taken acc m.core.start h.took h.began; trims = h.trims };
      quits = h.quits;
      tells = record { reported = h.reported; votes = h.votes; known = known };
    }

-- who is the sequencer leads
sequencer_leads : (m : Node) → is_sequencer m ≡ true → has_view_of_its_own m ≡ true
sequencer_leads m h = right_of_and (acts_in_its_view m) (has_view_of_its_own m) h

pub refresh_keeps_numbers_low : (b : Bounds) (g : ℕ) (m : Node) → NumbersAreLow b g m → NumbersAreLow b g (refresh m)
unfolding refresh
refresh_keeps_numbers_low b g m h = split_on_bool (is_sequencer m) (λ t. rw t (low_lead b g m (sequencer_leads m t) h)) (λ f. rw f (low_advance b g m h))

-- ---- the end of a step

-- who has something to send isn't leaving
low_settle : (b : Bounds) (g : ℕ) (m : Node) → NumbersAreLow b g m → NumbersAreLow b g (settle_waiting_send m)
low_settle b g m h = settle_keeps_property (NumbersAreLow b g) m h (λ s k w at. record {
  counts = h.counts;
  order = h.order;
  within = h.within;
  quits = λ t. absurd (let none = h.quits t in cc);
  tells = h.tells;
})

-- ---- plans

-- a plan whose node has at most one more
pub record PlanNumbersAreLow (b : Bounds) (g : ℕ) (p : Plan) : Type 0 where
  pub node : NumbersAreLow (bounds_one_higher b) g p.node

-- by what a test says
pub either_plan_has_low_numbers : (b : Bounds) (g : ℕ) (t : Bool) (p q : Plan) → (t ≡ true → PlanNumbersAreLow b g p) → (t ≡ false → PlanNumbersAreLow b g q) → PlanNumbersAreLow b g (if t then p else q)
either_plan_has_low_numbers b g true p q f k = f refl
either_plan_has_low_numbers b g false p q f k = k refl

-- nothing is added, or one
pub low_node_gives_low_plan : (b : Bounds) (g : ℕ) (p : Plan) → NumbersAreLow b g p.node → PlanNumbersAreLow b g p
low_node_gives_low_plan b g p h = record { node = higher_bounds_keep_numbers_low b g p.node h }

pub higher_node_gives_low_plan : (b : Bounds) (g : ℕ) (p : Plan) → NumbersAreLow (bounds_one_higher b) g p.node → PlanNumbersAreLow b g p
higher_node_gives_low_plan b g p h = record { node = h }

pub ruleset ends = (either_plan_has_low_numbers, low_node_gives_low_plan)

-- a plan that is done
pub finish_keeps_numbers_low : (b : Bounds) (g : ℕ) (m : Node) (p : Plan) → PlanNumbersAreLow b g p → NumbersAreLow (bounds_one_higher b) g (finish m p).node
unfolding finish refresh_at_end
finish_keeps_numbers_low b g m p h =
    let k = low_settle (bounds_one_higher b) g (refresh p.node) (refresh_keeps_numbers_low (bounds_one_higher b) g p.node h.node) in
    split_on_bool p.departs (λ t. rw t k) (λ f. rw f k)
