-- What the group accepted after the last View its coordinator accepted.
use Rattle.am_repair.proofs.Repairable.RepairedWords.{◌≡◌, ◌≢◌, either, ℕ, zero, suc, ◌+◌, ◌-◌, ◌<◌, ◌≤◌, max, ◌==◌, true, false, if◌then◌else◌, List, [], ◌∷◌, Status}
use Rattle.am_repair.proofs.Repairable.RepairedWords.{◌++◌, length, take, drop, Some, slice_get, refl, sym, ap, ◌∙◌, subst, arith, length-append, append_assoc}
use Rattle.am_repair.proofs.Repairable.RepairedWords.{nat_tests, take-append-drop, length-take, take_all, take-append-add, Entry, View, Outcome, Rules, MayFound, Event}
use Rattle.am_repair.proofs.Repairable.RepairedWords.{IsBeginningOf, stamp_of_list, key_of_stamp, equal_keys_have_equal_names, name_of_view_is_byte, view_key_grows_along_list, view_after_pushed_view, list_begins_itself, taken_front_begins_list, begins_through_both}
use Rattle.am_repair.proofs.Repairable.RepairedWords.{shorter_beginning_begins_longer, begins_not_longer_is_same, beginning_is_no_longer, length_of_taken_list, length_of_pushed_list, Group, list_with_chosen_view, current_of, chain_of, GroupKeeps}
use Rattle.am_repair.proofs.Repairable.RepairedWords.{Node, top, view, is_member, founding_stamp, lowest_name_or_zero, has_log_by_status, has_departed, StepResult, is_unfinished_ballot, Letter}
use Rattle.am_repair.proofs.Repairable.RepairedWords.{Decided, World, start, founders_decided, list_with_accepted, run, split_on_bool, both_of_and, Cause, Changes, unchanged, changed}
use Rattle.am_repair.proofs.Repairable.RepairedWords.{EndOfStep, at_end, let_go, closing, item_of_index_has_property, welcomed_node_is_asking, refresh_rests_with_list, own_leave_rests, settle_changes_only_sends, asking_status_has_no_log, number_bounds_hold_in_runs}
use Rattle.am_repair.proofs.Repairable.RepairedWords.{lowest_founder_founds, run_trims_only_taken, NotedViewStandsInLog, lists_only_grow_in_runs, NameStands, Moves, GroupOk, Following, image_of_whole_list, length_of_whole_list}
use Rattle.am_repair.proofs.Repairable.RepairedWords.{take_of_longer_list, group_run_is_kept, step_keeps_departed_node, course_keeps_departed_node, departed_status_is_departed, OneStepWithGroup, parts_of_one_step, one_step_grows_group, PropertyIsKeptByRuns, ListOfNameGoes, same, up}
use Rattle.am_repair.proofs.Repairable.RepairedWords.{gone, property_of_lists_by_moves, ChangeByItsKind, change_has_its_kind}
use Rattle.am_abstract_group.specs.Group as groups
use Rattle.am_lawful_runs.proofs.Ways as ways
use Rattle.am_lawful_runs.proofs.Words.{le_or_gt}

-- ---- a name's list has what was accepted

-- so far as the group list was at the beginning
abbrev Part : Group → Group → ℕ → Type 0
Part r t i = IsBeginningOf (take (length r.group) (t.node i).list) r.group

part_chain : (r t : Group) (i : ℕ) → IsBeginningOf r.group t.group → GroupKeeps t → IsBeginningOf (t.node i).list (chain_of t.views) → Part r t i
part_chain r t i grows k on =
    let l = length-take (length r.group) (t.node i).list in
    shorter_beginning_begins_longer (begins_through_both (taken_front_begins_list (length r.group) (t.node i).list) on) (begins_through_both grows k.group) (omega arith)

part_move : (r s t : Group) (i : ℕ) → IsBeginningOf r.group t.group → GroupKeeps t → ListOfNameGoes s t i → Part r s i → Part r t i
part_move r s t i grows k (same is) h = subst (λ l. IsBeginningOf (take (length r.group) l) r.group) (sym is) h
part_move r s t i grows k (up there) h = part_chain r t i grows k ((k.each i).list there)
part_move r s t i grows k (gone on) h = part_chain r t i grows k on

part_moves : (founders : List ℕ) (first resilience : ℕ) (r s t : Group) (i : ℕ) → IsBeginningOf r.group s.group → GroupOk founders first resilience s → Moves s t
    → Part r s i → Part r t i
part_moves founders first resilience r s t i grows g path h =
    property_of_lists_by_moves (λ q. Part r q i) founders first resilience r s t i (λ a b. part_move r a b i) grows g path h

-- ---- how far a name accepted

record Upward (low : ℕ) (x : Node) : Type 0 where
  listed : has_log_by_status x.status ≡ true
  acc : low ≤ x.core.acc

upward_kind : (low : ℕ) (c : Cause) (o : Outcome) (x y : Node) → ChangeByItsKind c o x y → Upward low x → Upward low y
upward_kind low c o x y (ways.alike a) h = record { listed = ap has_log_by_status a.status ∙ h.listed; acc = let l = h.acc in let e = a.acc in omega arith }
upward_kind low c o x y ways.refreshed h =
    let r = (refresh_rests_with_list x).rests in
    record { listed = ap has_log_by_status r.status ∙ h.listed; acc = let l = h.acc in omega arith }
upward_kind low c o x y ways.settled h = subst (Upward low) (sym (settle_changes_only_sends x)) (record { listed = h.listed; acc = h.acc })
upward_kind low c o x y (ways.began s v base join image is says may) h = absurd (let none_ = asking_status_has_no_log x.status (welcomed_node_is_asking x s v base join image may) in
    cc)
upward_kind low c o x y (ways.left member leaves) h = record { listed = refl; acc = h.acc }
upward_kind low c o x y (ways.asked_in was) h = absurd (let some = h.listed in let z = ap has_log_by_status was in cc)
upward_kind low c o x y (ways.gone member leaves) h = let r = own_leave_rests x in let u = r.acc in record { listed = refl; acc = let l = h.acc in omega arith }
upward_kind low c o x y _ h = record { listed = h.listed; acc = h.acc }

upward : (low : ℕ) (c : Cause) (o : Outcome) (x y : Node) → Changes c o x y → Upward low x → Upward low y
upward low c o x y unchanged h = h
upward low c o x y (changed {n = z} one rest) h = upward low c o z y rest (upward_kind low c o x z (change_has_its_kind x z one) h)

-- ---- what is kept

abbrev pub AcceptedIsUpheld : World → Group → Type 0
AcceptedIsUpheld w s = length w.group ≤ max (length (current_of s.views).before) ((w.nodes s.views.current.by).core.acc)

current_small : (s : Group) → GroupKeeps s → s.views.current.by < 256
current_small s k = subst (λ u. u.by < 256) k.views.view (name_of_view_is_byte (chain_of s.views) k.views.good)

-- the coordinator of the current view has a list
current_listed : (rules : Rules) (events : List Event) (s : Group) → MayFound rules → Following rules (run rules events) s → GroupKeeps s
    → has_log_by_status ((run rules events).nodes s.views.current.by).status ≡ true
current_listed rules events s may old k =
    let was = old.stands.views.decided (key_of_stamp s.views.current) k.views.now in
    let noted = item_of_index_has_property (NotedViewStandsInLog (run rules events).nodes) (run rules events).views was.index was.view (run_trims_only_taken rules events may).blanks.base.noted
    was.there in
    let same_by = equal_keys_have_equal_names was.view.stamp s.views.current noted.by (current_small s k) was.is in
    subst (λ j. has_log_by_status ((run rules events).nodes j).status ≡ true) same_by noted.log_

-- the list that a sequencer added to the group's is that of its own list
grown_begins : (w v : World) (s t : Group) (i : ℕ) (n : Node) → NameStands v i n (t.node i) → s.group ≡ w.group → IsBeginningOf w.group v.group → Part s t i
    → n.core.log.start ≤ length w.group → length w.group ≤ length (t.node i).list → v.group ≡ list_with_accepted w.group n.core → IsBeginningOf v.group (t.node i).list
grown_begins w v s t i n stands group grows part start long is =
    let list = (t.node i).list in
    let g = length w.group in
    let front = take n.core.log.start w.group in
    let front_v : take n.core.log.start v.group ≡ front = take_of_longer_list n.core.log.start w.group v.group grows start in
    let whole_ : list ≡ front ++ n.core.log.entries = stands.list ∙ ap (λ l. l ++ n.core.log.entries) front_v in
    let part_w : IsBeginningOf (take g list) w.group = subst (λ l. IsBeginningOf (take (length l) list) l) group part in
    let taken = length_of_taken_list g list long in
    let all : take g list ≡ w.group = begins_not_longer_is_same part_w (omega arith) in
    let front_long = length_of_taken_list n.core.log.start w.group start in
    let d = g - n.core.log.start in
    let at : g ≡ length front + d = omega arith in
    let pieces : take g list ≡ front ++ take d n.core.log.entries = ap (take g) whole_ ∙ ap (λ k. take k (front ++ n.core.log.entries)) at
    ∙ take-append-add front n.core.log.entries d in
    let rest = drop d n.core.log.entries in
    let split_ : list ≡ w.group ++ rest = whole_ ∙ ap (λ l. front ++ l) (sym (take-append-drop d n.core.log.entries))
    ∙ sym (append_assoc front (take d n.core.log.entries) rest) ∙ ap (λ l. l ++ rest) (sym pieces ∙ all) in
    let k = n.core.acc - g in
    record {
      rest = drop k rest;
      same = ap (λ l. l ++ drop k rest) is ∙ append_assoc w.group (take k rest) (drop k rest) ∙ ap (λ l. w.group ++ l) (take-append-drop k rest) ∙ sym split_;
    }

-- who had departed accepts no more
departed_low : {c : Cause} {o : Outcome} (m n : Node) (letters : List Letter) → EndOfStep c o m letters n → m.status ≡ Status.Departed
    → is_unfinished_ballot m.ballot ≡ false → n.core.acc ≤ max m.core.acc m.core.told
departed_low m n letters (at_end {x = x} deeds) was none_ = (step_keeps_departed_node m x was none_ deeds).low
departed_low m n letters (let_go s v number is heard_ leaves) was none_ = absurd (let a = (both_of_and _ (is_member m.status) heard_).1 in cc)
departed_low m n letters (closing {x = x} ev call course leads leaves alone room same_) was none_ = absurd (
    let r = course_keeps_departed_node m x was course in
    let b = r.status ∙ was in cc)

-- ---- a step

module _ (rules : Rules) (events : List Event) (e : Event) (c : Cause) (step : StepResult) (s t : Group) (one : OneStepWithGroup rules events e c step s t)
    (h : AcceptedIsUpheld (run rules events) s) where
  open parts_of_one_step rules events e step use {w, i, m, n, v}
  open one use {step_.{may, runs, cause, effect}, old, path, grows, shaped, new}
  open one_step_grows_group one use {few, kept_s, kept_t, opens_t, node_v, others_v, group_v, node_run, stands_n, group_grows}

  -- nobody accepts less than it did
  acc_up : (j : ℕ) → has_log_by_status (w.nodes j).status ≡ true → (w.nodes j).core.acc ≤ (v.nodes j).core.acc
  acc_up j log = split_on_bool (j == i)
      (λ u.
      let same : j ≡ i = grind (arith, nat_tests) in
      let log_m : has_log_by_status m.status ≡ true = subst (λ k. has_log_by_status (w.nodes k).status ≡ true) same log in
      let up_ = upward m.core.acc c step.outcome m n effect.changes (record { listed = log_m; acc = omega arith }) in
      subst (λ k. (w.nodes k).core.acc ≤ (v.nodes k).core.acc) (sym same)
      (subst (λ (x : Node). m.core.acc ≤ x.core.acc) (sym node_v) up_.acc))
      (λ f. subst (λ (x : Node). (w.nodes j).core.acc ≤ x.core.acc) (sym (others_v j f)) (omega arith))

  -- as long as the group list doesn't grow
  still : length v.group ≤ length w.group → AcceptedIsUpheld v t
  still low = either (grows.new (key_of_stamp t.views.current) kept_t.views.now)
      (λ was. (let low_s = kept_s.views.order (key_of_stamp t.views.current) was in
      let on = grows.decided (key_of_stamp s.views.current) kept_s.views.now in
      let low_t = kept_t.views.order (key_of_stamp s.views.current) on.0 in
      let same : key_of_stamp t.views.current ≡ key_of_stamp s.views.current = omega arith in
      let by = equal_keys_have_equal_names t.views.current s.views.current (current_small t kept_t) (current_small s kept_s) same in
      let chosen : current_of t.views ≡ current_of s.views = ap t.views.chosen same ∙ on.1 in
      let before = ap (λ (x : groups.Chosen). length x.before) chosen in
      let up_ = acc_up s.views.current.by (current_listed rules events s may old kept_s) in
      let there = ap (λ k. (v.nodes k).core.acc) by in
      omega arith))
      (λ fresh. (let front = beginning_is_no_longer fresh.accepted in
      let size = ap length old.stands.group in
      omega arith))

  -- who had departed adds nothing
  departed_adds : has_departed m.status ≡ true → n.core.acc ≤ length w.group
  departed_adds d =
      let low = departed_low m n step.letters effect.ending (departed_status_is_departed m.status d) (old.gone i few d) in
      let num = (number_bounds_hold_in_runs rules events).each i in
      omega arith

  part_t : has_departed m.status ≡ false → Part s t i
  part_t stays =
      let a = old.stands.each i few in
      part_moves rules.founders (lowest_name_or_zero rules.founders) rules.resilience s s t i (list_begins_itself s.group) old.group path (split_on_bool (s.node i).has_log
      (λ log. part_chain s s i (list_begins_itself s.group) kept_s
      ((kept_s.each i).list (record { log = log; there = record { goes = a.stopped ∙ runs; stays = a.departed ∙ stays } })))
      (λ f. subst (λ l. IsBeginningOf (take (length s.group) l) s.group) (sym ((kept_s.each i).blank f)) (nil_part (length s.group) s.group)))
    where
      nil_part : (k : ℕ) (l : List Entry) → IsBeginningOf (take k []) l
      nil_part k l = subst (λ x. IsBeginningOf x l) (sym (take_all k [] (omega arith))) (record { rest = l; same = refl })

  acc_low : n.core.acc ≤ top n
  acc_low = subst (λ (x : Node). x.core.acc ≤ top x) node_run ((number_bounds_hold_in_runs rules (events ++ e ∷ [])).each i).accepted

  view_n : stamp_of_list (t.node i).list ≡ view n
  unfolding stamp_of_list
  view_n = ap (λ g. g.view) (image_of_whole_list v i n (t.node i) stands_n)

  -- where it does, its name is the current view's, or it reaches no further than the View
  adds : length w.group < length v.group → v.group ≡ list_with_accepted w.group n.core → (view n).by ≡ n.core.who → length v.group ≤ n.core.acc → AcceptedIsUpheld v t
  adds more is_ own high =
      let adds_ = lists_only_grow_in_runs rules events e c step may runs cause effect in
      let stays : has_departed m.status ≡ false = split_on_bool (has_departed m.status) (λ d. absurd (let z = departed_adds d in omega arith)) (λ f. f) in
      let long = length_of_whole_list v i n (t.node i) stands_n in
      let acc_ = acc_low in
      let begins_ = grown_begins w v s t i n stands_n old.stands.group group_grows (part_t stays) adds_.begins (omega arith) is_ in
      let same_group : t.group ≡ v.group = new.stands.group in
      either (le_or_gt (length v.group) (length (current_of t.views).before))
      (λ low. omega arith)
      (λ above. (let ch = current_of t.views in
      let open_ = list_with_chosen_view ch in
      let open_long = length_of_pushed_list ch.before (View ch.view) in
      let in_chain = subst (λ g. IsBeginningOf g (chain_of t.views)) same_group kept_t.group in
      let front : IsBeginningOf open_ v.group = shorter_beginning_begins_longer kept_t.views.opens in_chain (omega arith) in
      let mine = begins_through_both front begins_ in
      let good = shaped.good i in
      let risen = view_key_grows_along_list good mine in
      let stamp = kept_t.views.stamps (key_of_stamp t.views.current) kept_t.views.now in
      let opened = ap key_of_stamp (view_after_pushed_view ch.before ch.view) in
      let some : (t.node i).list ≢ [] = λ nil. (let z = beginning_is_no_longer mine in let y = ap length nil in let k : 0 < length open_ = omega arith in omega arith) in
      let on = shaped.lines i some in
      let decided = (opens_t on.view (t.node i).list on.decided some on.line).decided in
      let most = kept_t.views.order (key_of_stamp (stamp_of_list (t.node i).list)) decided in
      let viewed = view_n in
      let by : (stamp_of_list (t.node i).list).by ≡ t.views.current.by = equal_keys_have_equal_names (stamp_of_list (t.node i).list) t.views.current (name_of_view_is_byte (t.node i).list good)
      (current_small t kept_t) (omega arith) in
      let mine_by : i ≡ t.views.current.by = sym (ap (λ u. u.by) viewed ∙ own ∙ adds_.own) ∙ by in
      let there : n.core.acc ≡ (v.nodes t.views.current.by).core.acc = ap (λ (x : Node). x.core.acc) (sym node_v) ∙ ap (λ k. (v.nodes k).core.acc) mine_by in
      omega arith))

  grown_low : (g : List Entry) → length (list_with_accepted g n.core) ≤ max (length g) n.core.acc
  grown_low g =
      let rest = drop (length g - n.core.log.start) n.core.log.entries in
      let a = length-append g (take (n.core.acc - length g) rest) in
      let b = length-take (n.core.acc - length g) rest in
      omega arith

  pub accepted_is_upheld_by_step : AcceptedIsUpheld v t
  accepted_is_upheld_by_step = either (le_or_gt (length v.group) (length w.group))
      (λ low. still low)
      (λ more. split_on_bool ((view n).by == n.core.who)
      (λ u.
      let own : (view n).by ≡ n.core.who = grind (arith, nat_tests) in
      let is_ : v.group ≡ list_with_accepted w.group n.core = group_v ∙ ap (λ b. if b then list_with_accepted w.group n.core else w.group) u in
      let size = ap length is_ in
      let most = grown_low w.group in
      adds more is_ own (omega arith))
      (λ f. absurd (let size = ap length (group_v ∙ ap (λ b. if b then list_with_accepted w.group n.core else w.group) f) in omega arith)))

-- ---- in every run

pub accepted_is_upheld_at_start : (rules : Rules) (t : Group) → MayFound rules → Following rules (start rules) t → AcceptedIsUpheld (start rules) t
accepted_is_upheld_at_start rules t may f =
    let k = group_run_is_kept rules.founders (lowest_name_or_zero rules.founders) rules.resilience t f.group in
    let was = f.stands.views.decided (key_of_stamp t.views.current) k.views.now in
    let first = only was.index was.view was.there in
    let few = (lowest_founder_founds rules may).few in
    let by = equal_keys_have_equal_names (founding_stamp rules) t.views.current (omega arith) (current_small t k) (ap (λ (d : Decided). key_of_stamp d.stamp) first ∙ was.is) in
    let there = (lowest_founder_founds rules may).founds in
    let acc : ((start rules).nodes t.views.current.by).core.acc ≡ 1 = ap (λ j. ((start rules).nodes j).core.acc) (sym by) ∙ rw there refl in
    omega arith
  where
    only : (j : ℕ) (d : Decided) → slice_get (start rules).views j ≡ Some d → founders_decided rules ≡ d
    only zero d at = cc
    only (suc j) d at = absurd (cc)

pub accepted_is_upheld_by_rules : (rules : Rules) → PropertyIsKeptByRuns AcceptedIsUpheld rules
accepted_is_upheld_by_rules rules = record {
  by_step = λ {events = events} {e = e} {c = c} {step = step} {s = s} {t = t} x h. accepted_is_upheld_by_step rules events e c step s t x h;
  by_quiet = λ w v s t q h. by_parts w v s t q.stays.group q.stays.nodes q.current q.chosen h;
}
  where
    by_parts : (w v : World) (s t : Group) → v.group ≡ w.group → v.nodes ≡ w.nodes → t.views.current ≡ s.views.current → t.views.chosen ≡ s.views.chosen
        → AcceptedIsUpheld w s → AcceptedIsUpheld v t
    by_parts w v s t group nodes current chosen h =
        let size = ap length group in
        let before : length (current_of t.views).before ≡ length (current_of s.views).before = ap (λ f. length (f (key_of_stamp t.views.current)).before) chosen
        ∙ ap (λ u. length (s.views.chosen (key_of_stamp u)).before) current in
        let acc : (v.nodes t.views.current.by).core.acc ≡ (w.nodes s.views.current.by).core.acc = ap (λ f. (f t.views.current.by).core.acc) nodes
        ∙ ap (λ u. (w.nodes u.by).core.acc) current in
        omega arith
