-- The headline, of every run.
use Rattle.am_lawful_runs.proofs.Words.{watch_all_with_one_more, ◌≡◌, ◌≢◌, either, ℕ, ◌<◌, ◌≤◌, true, List, [], ◌∷◌, ◌++◌, length, take, Some, None, slice_get, refl}
use Rattle.am_lawful_runs.proofs.Words.{sym, ap, ◌∙◌, subst, arith, append-nil, append_assoc, drop, take-append-drop, Entry, Rules, MayFound, stamp_is_less, blank}
use Rattle.am_lawful_runs.proofs.Words.{AllEntriesFit, Event, deliveries, item_at, IsBeginningOf, IsGoodList, stamp_of_list, key_of_stamp, key_is_less_for_lesser_stamp, name_of_view_is_byte, view_key_grows_along_list, view_after_pushed_view}
use Rattle.am_lawful_runs.proofs.Words.{shorter_beginning_begins_longer, taken_front_begins_list, begins_through_both, length_of_taken_list, length_of_pushed_list, beginning_of_good_is_good, Group, list_with_chosen_view, view, lowest_name_or_zero}
use Rattle.am_lawful_runs.proofs.Words.{has_log_by_status, Decided, World, happens, run, Watch, watch_run, watch_start, broken_at, lawful_front, BeginsAt}
use Rattle.am_lawful_runs.proofs.Words.{Segment, line_of, BecameComplete, KeepsView, Holds, HeadlineHolds, split_on_bool, run_begins_longer_run, front_is_lawful, acting_name}
use Rattle.am_lawful_runs.proofs.Words.{events_have_effects, item_of_index_has_property, sends_of_sender_in_order, node_bounds_hold_in_runs, bodies_were_sent_in_runs, lawful_front_begins_run, actor_is_below_256}
use Rattle.am_lawful_runs.proofs.Words.{run_trims_only_taken, NotedViewStandsInLog, nil_from_length, NameStands, NotedStands, image_of_whole_list, group_run_is_kept, steps_are_group_moves, Following}
use Rattle.am_abstract_group.specs.Kept as groups
use Rattle.am_safety.specs.Lists.{LawfulListsFit}
use Rattle.am_run_laws.proofs.Holds.{accepted_sends_stand_once}
use Rattle.am_lawful_runs.proofs.Lists.{item_stays_in_longer_list, item_at_in_beginning}
use Rattle.am_lawful_runs.proofs.Fold.{WorldStaysQuiet, PropertyIsKeptByRuns, ViewBecameCompleteInGroup, IsFollowed, HeldUpToFront}
use Rattle.am_lawful_runs.proofs.Begun.{group_follows_unbroken_run}
use Rattle.am_lawful_runs.proofs.Spared.{LawfulUntilLastStop, group_follows_until_last_stop}
use Rattle.am_lawful_runs.proofs.Greatest.{watch_unbroken_before_event}
use Rattle.am_safety.proofs.Told.{NamesHaveTakenInTurn}
use Rattle.am_safety.proofs.Told.{EntryMayBeTaken, entry_taken_is_in_group, same_world_taken_in_turn, idle_record_taken_in_turn, taken_in_turn_after_step, taken_in_turn_at_start}
use Rattle.am_safety.proofs.Moments.{record_was_done_at_moment}
use Rattle.am_safety.proofs.Moments.{given_entry_has_its_moment}
use Rattle.am_refinement.proofs.Words.{cases_lt}

-- ---- the group list

group_good : (rules : Rules) (w : World) (s : Group) → Following rules w s → IsGoodList w.group
group_good rules w s f =
    let k = group_run_is_kept rules.founders (lowest_name_or_zero rules.founders) rules.resilience s f.group in
    subst IsGoodList f.stands.group (beginning_of_good_is_good k.group k.views.good)

-- the view of a name's list is its node's
view_is : (w : World) (s : Group) (j : ℕ) → NameStands w j (w.nodes j) (s.node j) → stamp_of_list (s.node j).list ≡ view (w.nodes j)
unfolding stamp_of_list
view_is w s j h = ap (λ i. i.view) (image_of_whole_list w j (w.nodes j) (s.node j) h)

-- where a run isn't broken, it wasn't before
before_whole : (rules : Rules) (a b : List Event) → broken_at rules (a ++ b) ≡ None → broken_at rules a ≡ None
before_whole rules a [] h = ap (broken_at rules) (sym (append-nil a)) ∙ h
before_whole rules a (e ∷ b) h =
    let one = before_whole rules (a ++ e ∷ []) b (ap (broken_at rules) (append_assoc a (e ∷ []) b) ∙ h) in
    (watch_unbroken_before_event (watch_run rules a) e (ap (λ (x : Watch). x.broken) (sym (watch_all_with_one_more (watch_start rules) a e)) ∙ one)).before

-- ---- a complete view

-- what was accepted up to a complete view's View stands in its line
module _ (rules : Rules) (w : World) (s : Group) (d : Decided) (f : Following rules w s) (became : ViewBecameCompleteInGroup w s d) where
  kept : groups.GroupKeeps s
  kept = group_run_is_kept rules.founders (lowest_name_or_zero rules.founders) rules.resilience s f.group

  noted : NotedStands w s.views d
  noted = f.stands.views.noted became.index d became.there

  long : length (list_with_chosen_view (s.views.chosen (key_of_stamp d.stamp))) ≡ d.number
  long = length_of_pushed_list (s.views.chosen (key_of_stamp d.stamp)).before _ ∙ noted.number

  in_line : (number : ℕ) (e : Entry) → number ≤ d.number → item_at w.group number ≡ Some e → item_at (line_of w d.stamp) number ≡ Some e
  in_line number e low at =
      let same : item_at s.group number ≡ Some e = ap (λ g. item_at g number) f.stands.group ∙ at in
      let chain = item_stays_in_longer_list number e kept.group same in
      let open_ = item_at_in_beginning number e (kept.views.complete (key_of_stamp d.stamp) became.marked_) (let l = long in omega arith) chain in
      ap (λ l. item_at l number) (sym noted.line) ∙ item_stays_in_longer_list number e noted.opens open_

  -- what a name with a lower view accepted of its list lies below the View
  below : (list group : List Entry) (acc number : ℕ) → IsGoodList list → IsBeginningOf (take acc list) group → acc ≤ length list → IsBeginningOf group w.group
      → number ≤ acc → key_of_stamp (stamp_of_list list) < key_of_stamp d.stamp → number < d.number
  below list group acc number good delivered within grows low less = either (cases_lt number d.number)
      (λ fine. fine)
      (λ high. absurd (
      let open_ = list_with_chosen_view (s.views.chosen (key_of_stamp d.stamp)) in
      let part = take acc list in
      let part_long = length_of_taken_list acc list within in
      let l = long in
      let up : IsBeginningOf part s.group = subst (IsBeginningOf part) (sym f.stands.group) (begins_through_both delivered grows) in
      let front : IsBeginningOf open_ part = shorter_beginning_begins_longer (kept.views.complete (key_of_stamp d.stamp) became.marked_) (begins_through_both up kept.group) (omega arith) in
      let risen = view_key_grows_along_list good (begins_through_both front (taken_front_begins_list acc list)) in
      let viewed : stamp_of_list open_ ≡ d.stamp = view_after_pushed_view (s.views.chosen (key_of_stamp d.stamp)).before _ ∙ noted.stamp in
      let same = ap key_of_stamp viewed in
      let z : ⊥ = omega arith in z))

-- of an entry that was given before
number_below : (rules : Rules) (w : World) (s : Group) (d : Decided) (f : Following rules w s) (became : ViewBecameCompleteInGroup w s d) (v : World) (r : Group) (i number : ℕ)
    (e : Entry) → Following rules v r → i < 256 → EntryMayBeTaken (v.nodes i) number e → IsBeginningOf v.group w.group → d.stamp.by < 256
    → stamp_is_less (view (v.nodes i)) d.stamp ≡ true → number < d.number
number_below rules w s d f became v r i number e old few y grows small low =
    let a = old.stands.each i few in
    let k = group_run_is_kept rules.founders (lowest_name_or_zero rules.founders) rules.resilience r old.group in
    let ok = (k.each i).fronts in
    let acc = (old.stands.fronts i few y.stays).acc in
    let good = (old.nodes i few y.stays).good in
    let viewed = view_is v r i a in
    let under = key_is_less_for_lesser_stamp (view (v.nodes i)) d.stamp (subst (λ u. u.by < 256) viewed (name_of_view_is_byte (r.node i).list good)) small low in
    let same = ap key_of_stamp viewed in
    below rules w s d f became (r.node i).list v.group (r.node i).acc number good (subst (IsBeginningOf (take (r.node i).acc (r.node i).list)) old.stands.group
    ok.delivered)
    ok.within grows (omega arith) (omega arith)

-- ---- earlier moments

pub prefix_of_unbroken_is_unbroken : (rules : Rules) (events : List Event) (k : ℕ) → broken_at rules events ≡ None → broken_at rules (take k events) ≡ None
prefix_of_unbroken_is_unbroken rules events k whole = before_whole rules (take k events) (drop k events) (ap (broken_at rules) (take-append-drop k events) ∙ whole)

group_grows : (rules : Rules) (events : List Event) (k : ℕ) → IsBeginningOf (run rules (take k events)).group (run rules events).group
group_grows rules events k = let b = (run_begins_longer_run rules events k).group in record { rest = b.0; same = sym b.1 }

small_view : (rules : Rules) (events : List Event) (d : Decided) (k : ℕ) → MayFound rules → slice_get (run rules events).views k ≡ Some d → d.stamp.by < 256
small_view rules events d k may at = (item_of_index_has_property (NotedViewStandsInLog (run rules events).nodes) (run rules events).views k d (run_trims_only_taken rules events may).blanks.base.noted
    at).by

-- ---- up to the lawful front

module _ (rules : Rules) (may : MayFound rules) where
  abbrev pub HeadlineIsKeptInGroup : World → Group → Type 0
  HeadlineIsKeptInGroup w s = NamesHaveTakenInTurn rules w

  by_idle : (w v : World) (s t : Group) → WorldStaysQuiet w v s t → NamesHaveTakenInTurn rules w → NamesHaveTakenInTurn rules v
  by_idle w v s t q h = either q.idle
      (λ same. same_world_taken_in_turn rules w v (record { nodes = q.stays.nodes; letters = q.stays.letters; group = q.stays.group }) same h)
      (λ one. idle_record_taken_in_turn rules w v one.0 (record { nodes = q.stays.nodes; letters = q.stays.letters; group = q.stays.group }) one.1 one.2 h)

  keeps : PropertyIsKeptByRuns HeadlineIsKeptInGroup rules
  keeps = record {
    by_step = λ {events = events} {e = e} {c = c} {step = step} {s = s} {t = t} x h. taken_in_turn_after_step rules events e c step s t x h;
    by_quiet = by_idle;
  }

  pub kept_in_unbroken_run : (events : List Event) → broken_at rules events ≡ None → HeldUpToFront HeadlineIsKeptInGroup rules events
  kept_in_unbroken_run events whole = group_follows_unbroken_run HeadlineIsKeptInGroup rules keeps steps_are_group_moves may (λ t f. taken_in_turn_at_start rules) events whole

  -- and further, while nobody stops
  pub kept_until_last_stop : (events : List Event) → LawfulUntilLastStop rules events → IsFollowed HeadlineIsKeptInGroup rules (run rules events)
  kept_until_last_stop events until = group_follows_until_last_stop HeadlineIsKeptInGroup rules keeps steps_are_group_moves may (λ t f. taken_in_turn_at_start rules) events until

  -- ---- segment

  has_list : (w : World) (name : ℕ) → NamesHaveTakenInTurn rules w → deliveries w.records name ≢ [] → has_log_by_status (w.nodes name).status ≡ true
  has_list w name h some = split_on_bool (has_log_by_status (w.nodes name).status) (λ t. t)
      (λ f.
      let b = (h.each name).blank f in
      let count = (h.given name).count in
      absurd (some (nil_from_length (deliveries w.records name) (omega arith))))

  pub list_begins_at_start : (w : World) (name : ℕ) → NamesHaveTakenInTurn rules w → has_log_by_status (w.nodes name).status ≡ true → BeginsAt rules w name (w.nodes name).core.start
  list_begins_at_start w name h log =
      let b = (h.each name).begins log in
      record { founder = b.founder; joiner = λ f. (h.welcomed name f ∙ rw log refl, (b.joiner f).there) }

  segment_holds : (w : World) → NamesHaveTakenInTurn rules w → Segment rules w
  segment_holds w h = record {
    each = λ name some. (
      (w.nodes name).core.start,
      list_begins_at_start w name h (has_list w name h some),
      λ k number e at. (let g = (h.given name).each k number e at in (g.0, g.1.there)),
    );
  }

  -- ---- kept

  keeps_view : (events : List Event) → broken_at rules events ≡ None → (d : Decided) → BecameComplete rules events d → KeepsView rules events d
  keeps_view events whole d c =
      let w = run rules events in
      let h = kept_in_unbroken_run events whole in
      let became = h.became d c in
      record {
        taken = λ k number e r at says low.
            (let moment = record_was_done_at_moment rules events k r at in
            let before = prefix_of_unbroken_is_unbroken rules events k whole in
            let o = kept_in_unbroken_run (take k events) before in
            let v = run rules (take k events) in
            let g = given_entry_has_its_moment rules (take k events) moment.event (happens v moment.event) number e r may o.is (events_have_effects v moment.event)
            moment.done says in
            let i = acting_name v moment.event in
            let few = actor_is_below_256 rules v moment.event (run_trims_only_taken rules (take k events) may).blanks.base.named in
            let view_low : stamp_is_less (view (v.nodes i)) d.stamp ≡ true = ap (λ j. stamp_is_less (view (v.nodes j)) d.stamp) (sym g.by) ∙ low in
            let item = entry_taken_is_in_group rules v o.to i number e o.follows few g.taking_ in
            let grows = group_grows rules events k in
            let least = number_below rules w h.to d h.follows became v o.to i number e o.follows few g.taking_ grows
            (small_view rules events d became.index may became.there) view_low in
            (least, in_line rules w h.to d h.follows became number e (omega arith) (item_stays_in_longer_list number e grows item)));
        group = λ number e low at. in_line rules w h.to d h.follows became number e low at;
      }

  -- ---- the headline

  holds : (events : List Event) → broken_at rules events ≡ None → Holds rules events
  holds events whole =
      let w = run rules events in
      let h = kept_in_unbroken_run events whole in
      let fit : AllEntriesFit blank 1 w.group = (group_good rules w h.to h.follows).fit in
      record {
        segment = segment_holds w h.is;
        once = accepted_sends_stand_once w w.group (length w.group) fit h.is.accepted (λ number e at. at.there);
        kept = record { each = keeps_view events whole };
        sent = bodies_were_sent_in_runs rules events may;
        senders_order = sends_of_sender_in_order w fit;
      }

pub headline_holds : HeadlineHolds
headline_holds rules events may = record {
  front = holds rules may (lawful_front rules events) (front_is_lawful rules events);
  begins = lawful_front_begins_run rules events;
  bounded = node_bounds_hold_in_runs rules events may;
}

pub lists_of_runs_fit : LawfulListsFit
lists_of_runs_fit rules events may whole =
    let w = run rules events in
    let h = kept_in_unbroken_run rules may events whole in
    record { fits = (group_good rules w h.to h.follows).fit; listed = λ name some. has_list rules may w name h.is some }
