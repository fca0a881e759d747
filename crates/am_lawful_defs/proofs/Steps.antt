-- A step of a name, a stop, and any other event: what is kept afterwards is that of the world afterwards.
use Rattle.am_lawful_defs.proofs.Words.{or_parts, not-true, cases_lt, or-true, or-false, ◌≡◌, ◌≢◌, ℕ, ◌+◌, ◌<◌, ◌≤◌, Bool, true, false, not, ◌&&◌, ◌||◌, ◌==◌}
use Rattle.am_lawful_defs.proofs.Words.{if◌then◌else◌, List, [], ◌∷◌, ◌++◌, length, map, filter, replicate, count_by, min, nat_le, nat_lt, Option, Some, None}
use Rattle.am_lawful_defs.proofs.Words.{slice_index_or, slice_set, refl, sym, ap, ◌∙◌, subst, inl, inr, arith, set-set, get_or-set_same, get_or-set_other}
use Rattle.am_lawful_defs.proofs.Words.{length-set, length-append, length-replicate, get_or-replicate, append-nil, map-append, get_or_past, filter-append}
use Rattle.am_lawful_defs.proofs.Words.{list_any-append, nat_tests, list_any, GroupView, Stamp, Entry, View, has, size, names_of, stamp_is_less}
use Rattle.am_lawful_defs.proofs.Words.{stamps_are_equal, Node, view, is_member, map_with_value, has_departed, Decided, World, last_view_of, Watch, is_view_of, split_on_bool, both_of_and}
use Rattle.am_lawful_defs.proofs.Words.{DecidedView, NameStanding, Pending, Watching, blank_standing, standing, is_there_and_at_most, number_of_view, number_or_else, flags_are_equal, standings_are_alike}
use Rattle.am_lawful_defs.proofs.Words.{watching_with_standing, new_pending, decided_views, watching_with_decided, watching_with_entries, store_view, note_entries, note_entry, entry_is_view}
use Rattle.am_lawful_defs.proofs.Words.{watch_finish, watch_step, pass_event, place_view_among_entries, watch_accepts, standing_of, last_view_of_node, decided_of_view, has_in_list, comes_after, HoldsOfEach, WatchSees}
use Rattle.am_lawful_defs.proofs.Words.{IsNoted, WatchesUpTo, Watches, watch_after, StampIsNew, NameSteps, SteppedTo, SameButWhoStopped, StepsAreWatched, StopsAreWatched, OthersAreWatched}
use Rattle.am_lawful_defs.proofs.Words.{EntriesGoOn, AcceptedGoesOn}
use Rattle.std.proofs.lemmas.List.{map-id}
use Rattle.am_group_defs.specs.World as run
use Rattle.am_lawful_defs.specs.Watching as kept
use Rattle.am_lawful_defs.proofs.{Order.stamp_eq_is_same, Folds.each_with_weaker_property, Numbers.number_of_absent_view, Numbers.number_of_view_in_append, Complete.kept_is_complete_of_world, Looks.LookMayFollowWorld, Looks.look_follows_world}
use Rattle.am_lawful_defs.proofs.{Looks.pass_follows_unchanged_world}

-- ---- each of a list

each_append : {A : Type 0} (P : A → Type 0) (xs ys : List A) → HoldsOfEach P xs → HoldsOfEach P ys → HoldsOfEach P (xs ++ ys)
unfolding HoldsOfEach
each_append P [] ys h g = g
each_append P (x ∷ xs) ys (h, hs) g = (h, each_append P xs ys hs g)

each_map : {A : Type 0} (P Q : A → Type 0) (f : A → A) → ((x : A) → P x → Q (f x)) → (xs : List A) → HoldsOfEach P xs → HoldsOfEach Q (map f xs)
unfolding HoldsOfEach
each_map P Q f g [] h = tt
each_map P Q f g (x ∷ xs) (h, hs) = (g x h, each_map P Q f g xs hs)

map_same : {A B : Type 0} (f : A → A) (g : A → B) → ((x : A) → g (f x) ≡ g x) → (xs : List A) → map g (map f xs) ≡ map g xs
map_same f g h [] = refl
map_same f g h (x ∷ xs) = ap (λ y. y ∷ map g (map f xs)) (h x) ∙ ap (λ ys. g x ∷ ys) (map_same f g h xs)

-- ---- what a name's step makes of the names

standing_one : (k : Watching) (name other : ℕ) (after : NameStanding) → name < length k.names
    → standing (watching_with_standing k name after) other ≡ (if other == name then after else standing k other)
standing_one k name other after h = split_on_bool (other == name)
    (λ t. let e : other ≡ name = grind (arith, nat_tests) in rw t (rw e (get_or-set_same k.names name after blank_standing h)))
    (λ t. let e : other ≢ name = λ e. (let z : ⊥ = grind (arith, nat_tests) in z) in rw t (get_or-set_other k.names name other after blank_standing e))

shown : (b : Bool) (m n : Node) → (if b then standing_of n else standing_of m) ≡ standing_of (if b then n else m)
shown true m n = refl
shown false m n = refl

within_either : (b : Bool) (m n : Node) (most : ℕ) → n.core.log.start ≤ most → m.core.log.start ≤ most → (if b then n else m).core.log.start ≤ most
within_either true m n most h g = h
within_either false m n most h g = g

sees_step : (k : Watching) (w v : World) (name : ℕ) (n : Node) (entries more : List Entry) → WatchSees k w w.group → NameSteps w name n entries
    → SteppedTo w v name n more → WatchSees (watching_with_standing k name (standing_of n)) v w.group
sees_step k w v name n entries more sees steps to = record {
  names = λ other.
      let h : name < length k.names = let p = sees.places in let q = steps.within in omega arith in
      standing_one k name other (standing_of n) h ∙ ap (λ (m : NameStanding). if other == name then standing_of n else m) (sees.names other)
      ∙ shown (other == name) (w.nodes other) n ∙ ap (λ (f : ℕ → Node). standing_of (f other)) (sym to.nodes);
  places = length-set k.names name (standing_of n) ∙ sees.places;
  stopped = sees.stopped ∙ sym to.stopped;
  within = λ other. let e = within_either (other == name) (w.nodes other) n (length w.group) steps.begins (sees.within other) in
      subst (λ (f : ℕ → Node). (f other).core.log.start ≤ length w.group) (sym to.nodes) e;
  more = more;
  goes_on = to.group;
}

-- ---- what it makes of the views

-- a view, once the name stored these entries
abbrev entered : ℕ → List Entry → Pending → Pending
entered name entries v = if list_any (is_view_of v.decided.view.stamp) entries then record v { stored = slice_set v.stored name true } else v

set_one : (entries : List Entry) (name other : ℕ) (v : Pending) (old : Bool) → name < length v.stored → slice_index_or v.stored other false ≡ old
    → slice_index_or (entered name entries v).stored other false ≡ (if other == name then old || list_any (is_view_of v.decided.view.stamp) entries else old)
set_one entries name other v old h is = split_on_bool (list_any (is_view_of v.decided.view.stamp) entries)
    (λ t. split_on_bool (other == name)
    (λ e. let same : other ≡ name = grind (arith, nat_tests) in rw t (rw e (rw same (get_or-set_same v.stored name true false h) ∙ sym (or-true old))))
    (λ e. let apart : other ≢ name = λ same. (let z : ⊥ = grind (arith, nat_tests) in z) in rw t (rw e (get_or-set_other v.stored name other true false apart ∙ is))))
    (λ t. split_on_bool (other == name)
    (λ e. rw t (rw e (is ∙ sym (or-false old))))
    (λ e. rw t (rw e is)))

same_view : (entries : List Entry) (name : ℕ) (v : Pending) → (entered name entries v).decided ≡ v.decided
same_view entries name v = split_on_bool (list_any (is_view_of v.decided.view.stamp) entries) (λ t. rw t refl) (λ t. rw t refl)

same_number : (entries : List Entry) (name : ℕ) (v : Pending) → (entered name entries v).number_in_group ≡ v.number_in_group
same_number entries name v = split_on_bool (list_any (is_view_of v.decided.view.stamp) entries) (λ t. rw t refl) (λ t. rw t refl)

same_places : (entries : List Entry) (name : ℕ) (v : Pending) → length (entered name entries v).stored ≡ length v.stored
same_places entries name v = split_on_bool (list_any (is_view_of v.decided.view.stamp) entries) (λ t. rw t (length-set v.stored name true)) (λ t. rw t refl)

in_list_one : (w v : World) (name other : ℕ) (n : Node) (entries more : List Entry) (s : Stamp) → NameSteps w name n entries → SteppedTo w v name n more
    → has_in_list v s other ≡ (if other == name then has_in_list w s other || list_any (is_view_of s) entries else has_in_list w s other)
in_list_one w v name other n entries more s steps to =
    let it : has_in_list v s other ≡ list_any (is_view_of s) (map_with_value w.nodes name n other).core.log.entries =
    ap (λ (f : ℕ → Node). list_any (is_view_of s) (f other).core.log.entries) to.nodes in
    split_on_bool (other == name)
    (λ e.
    let same : other ≡ name = grind (arith, nat_tests) in
    rw e (it ∙ rw e (steps.views s ∙ ap (λ x. has_in_list w s x || list_any (is_view_of s) entries) (sym same))))
    (λ e. rw e (it ∙ rw e refl))

noted_one : (w v : World) (name : ℕ) (n : Node) (entries more : List Entry) (p : Pending) → NameSteps w name n entries → SteppedTo w v name n more
    → IsNoted w w.group p → IsNoted v w.group (entered name entries p)
noted_one w v name n entries more p steps to noted =
    let same = same_view entries name p in
    record {
      stored = λ other.
          let h : name < length p.stored = let a = noted.places in let b = steps.within in omega arith in
          set_one entries name other p (has_in_list w p.decided.view.stamp other) h (noted.stored other)
          ∙ sym (in_list_one w v name other n entries more p.decided.view.stamp steps to)
          ∙ ap (λ (d : DecidedView). has_in_list v d.view.stamp other) (sym same);
      places = same_places entries name p ∙ noted.places;
      placed = same_number entries name p ∙ noted.placed ∙ ap (λ (d : DecidedView). number_of_view d.view.stamp 1 w.group) (sym same);
    }

is_new : (w : World) (n : Node) → StampIsNew w (view n) → IsNoted w w.group (new_pending (last_view_of_node n))
is_new w n new = record {
  stored = λ name. none_stored name ∙ sym (new.lists name);
  places = length-replicate 256 false;
  placed = sym (number_of_absent_view (view n) 1 w.group new.group);
}
  where
    none_stored : (name : ℕ) → slice_index_or (replicate 256 false) name false ≡ false
    none_stored name = elim (cases_lt name 256) [
      | inl low ↦ get_or-replicate 256 name false false low
      | inr high ↦ (let l = length-replicate 256 false in get_or_past (replicate 256 false) name false (omega arith))
    ]

-- the standings tell which steps decide
decides_is : (k : Watching) (w : World) (name : ℕ) (n : Node) → standing k name ≡ standing_of (w.nodes name) → n.core.who ≡ name
    → kept.watch_decides (standing k name) name (standing_of n) ≡ run.step_decides_view (w.nodes name) n
decides_is k w name n h own = ap (λ (m : NameStanding). is_member m.status && (((view n).by == name) && not (stamps_are_equal m.view (view n)))) h
    ∙ ap (λ who. is_member (w.nodes name).status && (((view n).by == who) && not (stamps_are_equal (view (w.nodes name)) (view n)))) (sym own)

-- ---- the views that may become complete

map_twice : {A : Type 0} (f g h : A → A) → ((x : A) → f (g x) ≡ h x) → (xs : List A) → map f (map g xs) ≡ map h xs
map_twice f g h e [] = refl
map_twice f g h e (x ∷ xs) = ap (λ y. y ∷ map f (map g xs)) (e x) ∙ ap (λ ys. h x ∷ ys) (map_twice f g h e xs)

-- one entry and then the others
entered_twice : (name : ℕ) (w : GroupView) (es : List Entry) (v : Pending)
    → entered name es (store_view name w.stamp v) ≡ entered name (View w ∷ es) v
entered_twice name w es v = split_on_bool (stamps_are_equal w.stamp v.decided.view.stamp)
    (λ t. split_on_bool (list_any (is_view_of v.decided.view.stamp) es)
    (λ u. rw t (rw u (ap (λ stored. record v { stored = stored }) (set-set v.stored name true true))))
    (λ u. rw t (rw u refl)))
    (λ t. rw t refl)

noted_is : (name : ℕ) (entries : List Entry) (ps : List Pending) → note_entries name entries ps ≡ map (entered name entries) ps
unfolding note_entries
noted_is name [] ps = sym (map-id ps)
noted_is name (View v ∷ es) ps = noted_is name es (map (store_view name v.stamp) ps)
    ∙ map_twice (entered name es) (store_view name v.stamp) (entered name (View v ∷ es)) (entered_twice name v es)
    ps
noted_is name (_ ∷ es) ps = noted_is name es ps

views_noted : (name : ℕ) (entries : List Entry) (ps : List Pending)
    → map (λ (p : Pending). decided_of_view p.decided) (map (entered name entries) ps) ≡ map (λ (p : Pending). decided_of_view p.decided) ps
views_noted name entries ps = map_same (entered name entries) (λ (p : Pending). decided_of_view p.decided) (λ p. ap decided_of_view (same_view entries name p)) ps

-- a decided view, where it is above another
abbrev one_above : Bool → Bool → Decided → List Decided
one_above decides above d = if decides then (if above then d ∷ [] else []) else []

decided_cases : (a c : Bool) (v : DecidedView) → map (λ (p : Pending). decided_of_view p.decided) (if a && c then new_pending v ∷ [] else [])
    ≡ one_above a c (decided_of_view v)
decided_cases true true v = refl
decided_cases true false v = refl
decided_cases false c v = refl

after_cases : (decides : Bool) (c : Stamp) (views : List Decided) (d : Decided)
    → filter (comes_after c) views ++ one_above decides (stamp_is_less c d.stamp) d ≡ filter (comes_after c) (if decides then views ++ d ∷ [] else views)
after_cases true c views d = sym (filter-append (comes_after c) views (d ∷ []))
after_cases false c views d = append-nil (filter (comes_after c) views)

pending_step : (k : Watching) (s : Watch) (w : World) (name : ℕ) (n : Node) (entries more : List Entry) → Watches k s → NameSteps s.world name n entries
    → SteppedTo s.world w name n more
    → map (λ (p : Pending). decided_of_view p.decided) (k.pending ++ decided_views k name (standing_of n) (last_view_of_node n))
    ≡ filter (comes_after s.complete.stamp) w.views
pending_step k s w name n entries more is steps to =
    let dec : Pending → Decided = λ p. decided_of_view p.decided in
    let m = s.world.nodes name in
    map-append dec k.pending (decided_views k name (standing_of n) (last_view_of_node n))
    ∙ ap (λ vs. vs ++ map dec (decided_views k name (standing_of n) (last_view_of_node n))) is.pending
    ∙ ap (λ vs. filter (comes_after s.complete.stamp) s.world.views ++ vs)
    (decided_cases (kept.watch_decides (standing k name) name (standing_of n)) (stamp_is_less k.complete.view.stamp (view n)) (last_view_of_node n)
    ∙ ap (λ a. one_above a (stamp_is_less k.complete.view.stamp (view n)) (last_view_of n)) (decides_is k s.world name n (is.sees.names name) steps.own)
    ∙ ap (λ (c : Decided). one_above (run.step_decides_view m n) (stamp_is_less c.stamp (view n)) (last_view_of n)) is.complete)
    ∙ after_cases (run.step_decides_view m n) s.complete.stamp s.world.views (last_view_of n)
    ∙ ap (filter (comes_after s.complete.stamp)) (sym to.views)

decided_each : (a c : Bool) (w : World) (n : Node) → (a ≡ true → StampIsNew w (view n))
    → HoldsOfEach (IsNoted w w.group) (if a && c then new_pending (last_view_of_node n) ∷ [] else [])
unfolding HoldsOfEach
decided_each true true w n new = (is_new w n (new refl), tt)
decided_each true false w n new = tt
decided_each false c w n new = tt

-- ---- a step after which it is looked

-- the kept record when such a step is almost over
abbrev stepping : Watching → ℕ → NameStanding → DecidedView → List Entry → Watching
stepping k name after view entries = watching_with_standing (watching_with_entries (watching_with_decided k name after view) name entries) name after

stepping_ready : (k : Watching) (s : Watch) (w : World) (name : ℕ) (n : Node) (entries more : List Entry) → Watches k s → NameSteps s.world name n entries
    → SteppedTo s.world w name n more → LookMayFollowWorld s.world.group (stepping k name (standing_of n) (last_view_of_node n) entries) s w
stepping_ready k s w name n entries more is steps to =
    let sees = sees_step k s.world w name n entries more is.sees steps to in
    let all = k.pending ++ decided_views k name (standing_of n) (last_view_of_node n) in
    let e : note_entries name entries all ≡ map (entered name entries) all = noted_is name entries all in
    let new = decided_each (kept.watch_decides (standing k name) name (standing_of n)) (stamp_is_less k.complete.view.stamp (view n)) s.world n
    (λ t. steps.new (sym (decides_is k s.world name n (is.sees.names name) steps.own) ∙ t)) in
    let each = each_append (IsNoted s.world s.world.group) k.pending (decided_views k name (standing_of n) (last_view_of_node n)) is.noted new in
    record {
      sees = record { names = sees.names; places = sees.places; stopped = sees.stopped; within = sees.within; more = sees.more; goes_on = sees.goes_on };
      noted = subst (HoldsOfEach (IsNoted w s.world.group)) (sym e)
          (each_map (IsNoted s.world s.world.group) (IsNoted w s.world.group) (entered name entries)
          (λ p h. noted_one s.world w name n entries more p steps to h) all each);
      pending = ap (map (λ (p : Pending). decided_of_view p.decided)) e ∙ views_noted name entries all ∙ pending_step k s w name n entries more is steps to;
      complete = is.complete;
      count = is.count;
      broken = is.broken;
    }

-- ---- a step that changes nothing of what views ask for

same_both : (a b : Bool) → flags_are_equal a b ≡ true → b ≡ a
same_both a b h = grind arith

number_same : (a b : ℕ) → (a == b) ≡ true → b ≡ a
number_same a b h = grind (arith, nat_tests)

record IsAlike (before after : NameStanding) : Type 0 where
  pub view : after.view ≡ before.view
  pub gone : has_departed after.status ≡ has_departed before.status
  pub from : after.from ≡ before.from
  pub start : after.start ≡ before.start

alike_parts : (before after : NameStanding) → standings_are_alike before after ≡ true → IsAlike before after
alike_parts before after h =
    let a = both_of_and _ _ h in
    let b = both_of_and _ _ a.1 in
    let c = both_of_and _ _ b.1 in
    record {
      view = sym (stamp_eq_is_same before.view after.view a.0);
      gone = same_both _ _ b.0;
      from = number_same before.from after.from c.0;
      start = number_same before.start after.start c.1;
    }

standings_alike : (k : Watching) (name other : ℕ) (after : NameStanding) → name < length k.names → IsAlike (standing k name) after
    → IsAlike (standing k other) (standing (watching_with_standing k name after) other)
standings_alike k name other after h alike =
    let e = standing_one k name other after h in
    split_on_bool (other == name)
    (λ t.
    let same : other ≡ name = grind (arith, nat_tests) in
    let g : standing (watching_with_standing k name after) other ≡ after = e ∙ ap (λ b. if b then after else standing k other) t in
    subst (λ m. IsAlike (standing k other) m) (sym g) (subst (λ x. IsAlike (standing k x) after) (sym same) alike))
    (λ t.
    let g : standing (watching_with_standing k name after) other ≡ standing k other = e ∙ ap (λ b. if b then after else standing k other) t in
    subst (λ m. IsAlike (standing k other) m) (sym g) (record { view = refl; gone = refl; from = refl; start = refl }))

abbrev AreAlike : Watching → ℕ → NameStanding → Type 0
AreAlike k name after = (other : ℕ) → IsAlike (standing k other) (standing (watching_with_standing k name after) other)

complete_alike : (k : Watching) (name : ℕ) (after : NameStanding) (v : Pending) → AreAlike k name after
    → kept.watch_is_complete (watching_with_standing k name after) v ≡ kept.watch_is_complete k v
unfolding kept.watch_is_complete
complete_alike k name after v alike =
    let j = watching_with_standing k name after in
    let names = names_of v.decided.view.members in
    let need = min (v.decided.view.resilience + 1) (size v.decided.view.members) in
    let stored : kept.watch_has_stored j v ≡ kept.watch_has_stored k v =
    λ i other. ap (λ from. is_there_and_at_most v.number_in_group from || slice_index_or v.stored other false) (alike other).from i in
    let lags : kept.watch_lags j v.decided.view.stamp ≡ kept.watch_lags k v.decided.view.stamp =
    λ i other. (ap (λ gone. not (kept.watch_has_stopped k other) && (not gone && stamp_is_less (standing j other).view v.decided.view.stamp)) (alike other).gone
    ∙ ap (λ stamp. not (kept.watch_has_stopped k other) && (not (has_departed (standing k other).status) && stamp_is_less stamp v.decided.view.stamp))
    (alike other).view) i in
    ap (λ (f : ℕ → Bool). nat_le need (count_by f names) && not (list_any (kept.watch_lags j v.decided.view.stamp) names)) stored
    ∙ ap (λ (f : ℕ → Bool). nat_le need (count_by (kept.watch_has_stored k v) names) && not (list_any f names)) lags

lawful_alike : (k : Watching) (name : ℕ) (after : NameStanding) (v : DecidedView) → AreAlike k name after
    → kept.watch_is_lawful (watching_with_standing k name after) v ≡ kept.watch_is_lawful k v
unfolding kept.watch_is_lawful
lawful_alike k name after v alike =
    let j = watching_with_standing k name after in
    let lost : kept.watch_is_lost j v ≡ kept.watch_is_lost k v = λ i other.
    (ap (λ start. (has v.view.members other || nat_lt v.number start) && not (has_departed (standing j other).status)) (alike other).start
    ∙ ap (λ gone. (has v.view.members other || nat_lt v.number (standing k other).start) && not gone) (alike other).gone) i in
    ap (λ (f : ℕ → Bool). nat_le (count_by f k.stopped) v.view.resilience) lost

not_decided : (a b c : Bool) → c ≡ true → (a && (b && not c)) ≡ false
not_decided a b c h = grind arith

pub other_entry_has_no_stamp : (s : Stamp) (e : Entry) → entry_is_view e ≡ false → is_view_of s e ≡ false
other_entry_has_no_stamp s (View v) h = absurd (cc)
other_entry_has_no_stamp s _ h = refl

entry_none : (name : ℕ) (e : Entry) (ps : List Pending) → entry_is_view e ≡ false → note_entry name e ps ≡ ps
entry_none name (View v) ps h = absurd (cc)
entry_none name _ ps h = refl

noted_none : (name : ℕ) (entries : List Entry) (ps : List Pending) → list_any entry_is_view entries ≡ false → note_entries name entries ps ≡ ps
unfolding note_entries
noted_none name [] ps h = refl
noted_none name (e ∷ es) ps h =
    let both = or_parts (entry_is_view e) (list_any entry_is_view es) h in
    noted_none name es (note_entry name e ps) both.1 ∙ entry_none name e ps both.0

-- the views that wait are as before
stepping_same : (k : Watching) (name : ℕ) (after : NameStanding) (view : DecidedView) (entries : List Entry) → stamps_are_equal (standing k name).view after.view ≡ true
    → list_any entry_is_view entries ≡ false → (stepping k name after view entries).pending ≡ k.pending
stepping_same k name after view entries same none =
    let test : kept.watch_decides (standing k name) name after ≡ false = not_decided _ _ _ same in
    let no : decided_views k name after view ≡ [] = ap (λ b. if b && stamp_is_less k.complete.view.stamp view.view.stamp then new_pending view ∷ [] else []) test in
    noted_none name entries (k.pending ++ decided_views k name after view) none ∙ ap (λ vs. k.pending ++ vs) no ∙ append-nil k.pending

alike_step : (k : Watching) (s : Watch) (w : World) (name : ℕ) (n : Node) (entries more : List Entry) → Watches k s → NameSteps s.world name n entries
    → SteppedTo s.world w name n more → (standings_are_alike (standing k name) (standing_of n) && not (k.is_due || list_any entry_is_view entries)) ≡ true
    → WatchesUpTo s.world.group (pass_event (stepping k name (standing_of n) (last_view_of_node n) entries)) (watch_after s w)
unfolding kept.watch_is_complete kept.watch_is_lawful
alike_step k s w name n entries more is steps to both =
    let n1 = standing_of n in
    let h : name < length k.names = let p = is.sees.places in let q = steps.within in omega arith in
    let alike : standings_are_alike (standing k name) n1 ≡ true = (both_of_and _ _ both).0 in
    let due : (k.is_due || list_any entry_is_view entries) ≡ false = not-true _ (both_of_and _ _ both).1 in
    let none : list_any entry_is_view entries ≡ false = (or_parts _ _ due).1 in
    let same : stamps_are_equal (standing k name).view n1.view ≡ true = (both_of_and _ _ alike).0 in
    let each : AreAlike k name n1 = λ other. standings_alike k name other n1 h (alike_parts _ _ alike) in
    let j = stepping k name n1 (last_view_of_node n) entries in
    let rest = each_with_weaker_property (λ v. kept.watch_is_complete k v ≡ false) (λ v. kept.watch_is_complete j v ≡ false) (λ v g. refl
    ∙ complete_alike k name n1 v each ∙ g) k.pending is.rest in
    pass_follows_unchanged_world s.world.group j s w (stepping_ready k s w name n entries more is steps to) due
    (subst (HoldsOfEach (λ v. kept.watch_is_complete j v ≡ false)) (sym (stepping_same k name n1 (last_view_of_node n) entries same none)) rest)
    (λ g. refl ∙ lawful_alike k name n1 k.complete each ∙ is.lawful g)

-- ---- the group list

accepted_view : (w : World) (group more : List Entry) (p : Pending) → w.group ≡ group ++ more → IsNoted w group p
    → IsNoted w w.group (place_view_among_entries (length group + 1) more p)
accepted_view w group more p e noted =
    let z : length group + 1 ≡ 1 + length group = omega arith in
    record {
      stored = noted.stored;
      places = noted.places;
      placed = ap (λ o. number_or_else o (number_of_view p.decided.view.stamp (length group + 1) more)) noted.placed
          ∙ ap (λ n. number_or_else (number_of_view p.decided.view.stamp 1 group) (number_of_view p.decided.view.stamp n more)) z
          ∙ sym (number_of_view_in_append p.decided.view.stamp 1 group more)
          ∙ ap (number_of_view p.decided.view.stamp 1) (sym e);
    }

-- a view that was noted, and what is said of it
record IsWaiting (k : Watching) (w : World) (group : List Entry) (v : Pending) : Type 0 where
  noted : IsNoted w group v
  waits : kept.watch_is_complete k v ≡ false

waiting_each : (k : Watching) (w : World) (group : List Entry) (vs : List Pending) → HoldsOfEach (IsNoted w group) vs → HoldsOfEach (λ v. kept.watch_is_complete k v ≡ false) vs
    → HoldsOfEach (IsWaiting k w group) vs
unfolding HoldsOfEach
waiting_each k w group [] h g = tt
waiting_each k w group (v ∷ vs) (h, hs) (g, gs) = (record { noted = h; waits = g }, waiting_each k w group vs hs gs)

accepts : (group more : List Entry) (k : Watching) (s : Watch) → WatchesUpTo group k s → s.world.group ≡ group ++ more
    → Watches (watch_accepts k (length group + 1) more) s
unfolding kept.watch_is_lawful
accepts group more k s is e =
    let w = s.world in
    let j = watch_accepts k (length group + 1) more in
    let longer : length w.group ≡ length group + length more = ap length e ∙ length-append group more in
    let sees : WatchSees j w w.group = record {
      names = is.sees.names;
      places = is.sees.places;
      stopped = is.sees.stopped;
      within = λ name. (let h = is.sees.within name in omega arith);
      more = [];
      goes_on = sym (append-nil w.group);
    } in
    record {
      sees = sees;
      due = is.due;
      noted = each_map (IsNoted w group) (IsNoted w w.group) (place_view_among_entries (length group + 1) more) (λ p h. accepted_view w group more p e h) k.pending is.noted;
      pending = map_same (place_view_among_entries (length group + 1) more) (λ (p : Pending). decided_of_view p.decided) (λ p. refl) k.pending ∙ is.pending;
      rest = each_map (IsWaiting k w group) (λ v. kept.watch_is_complete j v
          ≡ false) (place_view_among_entries (length group + 1) more) (λ p h. kept_is_complete_of_world j w w.group (place_view_among_entries (length group + 1) more p) sees
          (accepted_view w group more p e h.noted) ∙ sym (kept_is_complete_of_world k w group p is.sees h.noted)
          ∙ h.waits) k.pending (waiting_each k w group k.pending is.noted is.rest);
      complete = is.complete;
      count = is.count;
      broken = is.broken;
      lawful = λ h. refl ∙ is.lawful h;
    }

-- ---- the laws

step_is : (k : Watching) (s : Watch) (w : World) (name : ℕ) (n : Node) (entries more : List Entry) → Watches k s → NameSteps s.world name n entries
    → SteppedTo s.world w name n more → WatchesUpTo s.world.group (watch_step k name (standing_of n) (last_view_of_node n) entries) (watch_after s w)
unfolding watch_finish
step_is k s w name n entries more is steps to = split_on_bool (standings_are_alike (standing k name) (standing_of n) && not (k.is_due || list_any entry_is_view entries))
    (λ t. rw t (alike_step k s w name n entries more is steps to t))
    (λ t. rw t (look_follows_world s.world.group (stepping k name (standing_of n) (last_view_of_node n) entries) s w (stepping_ready k s w name n entries more is steps to)))

pub steps_are_watched : StepsAreWatched
steps_are_watched k s w name n entries more is steps to = accepts s.world.group more (watch_step k name (standing_of n) (last_view_of_node n) entries) (watch_after s w)
    (step_is k s w name n entries more is steps to) to.group

-- a world in which the lists and the views are the same
same_noted : (w v : World) (p : Pending) → v.nodes ≡ w.nodes → IsNoted w w.group p → IsNoted v w.group p
same_noted w v p e h = record {
  stored = λ name. h.stored name ∙ ap (λ (f : ℕ → Node). list_any (is_view_of p.decided.view.stamp) (f name).core.log.entries) (sym e);
  places = h.places;
  placed = h.placed;
}

same_ready : (k : Watching) (s : Watch) (w : World) (gone : List ℕ) → Watches k s → SameButWhoStopped s.world w gone → LookMayFollowWorld w.group (record k { stopped = gone }) s w
same_ready k s w gone is same =
    let v = s.world in
    let e = same.group in
    record {
      sees = record {
        names = λ name. is.sees.names name ∙ ap (λ (f : ℕ → Node). standing_of (f name)) (sym same.nodes);
        places = is.sees.places;
        stopped = sym same.stopped;
        within = λ name. subst (λ (f : ℕ → Node). (f name).core.log.start ≤ length w.group) (sym same.nodes)
            (subst (λ (g : List Entry). (v.nodes name).core.log.start ≤ length g) (sym e) (is.sees.within name));
        more = [];
        goes_on = sym (append-nil w.group);
      };
      noted = subst (λ (g : List Entry). HoldsOfEach (IsNoted w g) k.pending) (sym e)
          (each_with_weaker_property (IsNoted v v.group) (IsNoted w v.group) (λ p h. same_noted v w p same.nodes h) k.pending is.noted);
      pending = is.pending ∙ ap (filter (comes_after s.complete.stamp)) (sym same.views);
      complete = is.complete;
      count = is.count;
      broken = is.broken;
    }

pub stops_are_watched : StopsAreWatched
stops_are_watched k s w name is same =
    let gone : k.stopped ++ name ∷ [] ≡ s.world.stopped ++ name ∷ [] = ap (λ g. g ++ name ∷ []) is.sees.stopped in
    look_follows_world w.group (record k { stopped = k.stopped ++ name ∷ [] }) s w
    (subst (λ (g : List ℕ). LookMayFollowWorld w.group (record k { stopped = g }) s w) (sym gone) (same_ready k s w (s.world.stopped ++ name ∷ []) is same))

pub others_are_watched : OthersAreWatched
others_are_watched k s w is same = pass_follows_unchanged_world w.group k s w (subst (λ (g : List ℕ). LookMayFollowWorld w.group (record k { stopped = g }) s w) (sym is.sees.stopped)
    (same_ready k s w s.world.stopped is same)) is.due is.rest is.lawful

placed_twice : (number : ℕ) (xs ys : List Entry) (ps : List Pending)
    → map (place_view_among_entries number (xs ++ ys)) ps ≡ map (place_view_among_entries (number + length xs) ys) (map (place_view_among_entries number xs) ps)
placed_twice number xs ys [] = refl
placed_twice number xs ys (p ∷ ps) = ap (λ q. q ∷ map (place_view_among_entries number (xs ++ ys)) ps) (one number xs ys p)
    ∙ ap (λ qs. place_view_among_entries (number + length xs) ys (place_view_among_entries number xs p) ∷ qs) (placed_twice number xs ys ps)
  where
    assoc : (a b c : Option ℕ) → number_or_else a (number_or_else b c) ≡ number_or_else (number_or_else a b) c
    assoc None b c = refl
    assoc (Some x) b c = refl

    one : (number : ℕ) (xs ys : List Entry) (p : Pending) → place_view_among_entries number (xs ++ ys) p ≡ place_view_among_entries (number + length xs) ys (place_view_among_entries number xs p)
    one number xs ys p = ap (λ o. record p { number_in_group = o }) (ap (number_or_else p.number_in_group) (number_of_view_in_append p.decided.view.stamp number xs ys)
        ∙ assoc p.number_in_group (number_of_view p.decided.view.stamp number xs) (number_of_view p.decided.view.stamp (number + length xs) ys))

pub accepted_goes_on : AcceptedGoesOn
accepted_goes_on k number xs ys = ap (λ ps. record k { pending = ps }) (placed_twice number xs ys k.pending)

noted_push : (name : ℕ) (xs : List Entry) (e : Entry) (ps : List Pending) → note_entries name (xs ++ e ∷ []) ps ≡ note_entry name e (note_entries name xs ps)
unfolding note_entries
noted_push name [] e ps = refl
noted_push name (x ∷ xs) e ps = noted_push name xs e (note_entry name x ps)

any_push : (due : Bool) (xs : List Entry) (e : Entry) → (due || list_any entry_is_view (xs ++ e ∷ [])) ≡ ((due || list_any entry_is_view xs) || entry_is_view e)
any_push true xs e = refl
any_push false xs e = list_any-append entry_is_view xs (e ∷ []) ∙ ap (λ b. list_any entry_is_view xs || b) (or-false (entry_is_view e))

pub entries_go_on : EntriesGoOn
entries_go_on k name xs e = λ i. record k { pending = noted_push name xs e k.pending i; is_due = any_push k.is_due xs e i }
