-- The changes of a node that make no list longer, as moves of the group.
use Rattle.am_refinement.proofs.Words.{number_equals_itself, ◌≡◌, ◌≢◌, ℕ, ◌+◌, ◌<◌, ◌≤◌, ◌==◌, ◌||◌, not, Bool, true, false, List, ◌++◌, length, take, Option, Some, None}
use Rattle.am_refinement.proofs.Words.{refl, sym, ap, ◌∙◌, subst, arith, nat_tests, length-append, length-take, Stamp, Entry, Image, stamp_is_less, has, Log, blank}
use Rattle.am_refinement.proofs.Words.{members_of_image, image_after_entries, image_of_list, is_member_at_end, key_of_stamp, key_is_less_for_lesser_stamp, Group, IsThere, IsUp, Move, IsGreaterBegunStamp, MayDepart, group_with_node, next_own_stamp, put_at_same_index}
use Rattle.am_refinement.proofs.Words.{Status, Node, Ballot, members, is_member, is_asking_status, has_log_by_status, has_departed, is_unfinished_ballot, refresh, BallotVerdict, overtake_lower_ballot}
use Rattle.am_refinement.proofs.Words.{node_with_promise, next_stamp, member_hears_other, World, is_stopped, fold_append, split_on_bool, both_of_and, Cause, hears, BallotIsLookedAt, with_more}
use Rattle.am_refinement.proofs.Words.{without_one, as_it_is, LooksAtBallot, finds_itself_out, finds_too_few, finds_no_room, decides, MayPromise, invited, overtaken_by}
use Rattle.am_refinement.proofs.Words.{told_result, refresh_rests_with_list, member_status_has_log, unordered_stamps_are_equal, NameStands, FrontsStand, StandsBut, within, GoneSays, has_stopped, may_go}
use Rattle.am_refinement.proofs.Words.{MoveIsSound, MayMove, Packet}
use Rattle.am_abstract_group.specs.Group as groups
use Rattle.am_abstract_group.specs.Moves as group
use Rattle.am_model.specs.Node as nodes
use Rattle.am_refinement.proofs.Names.{MovesOntoStandingGroup, standing_group_without_move, standing_group_after_one_move, name_stands_with_same_group, views_stand_if_lines_stay, lines_stay_with_same_log, others_stand_within_changed_node, fronts_stand_within_changed_node}

-- ---- a node that is the same to the group

pub record IsSameToGroup (x y : Node) : Type 0 where
  pub log : y.core.log ≡ x.core.log
  pub log_ : has_log_by_status y.status ≡ has_log_by_status x.status
  pub departed : has_departed y.status ≡ has_departed x.status
  pub leaving : y.leaving ≡ x.leaving
  pub promise : y.core.promise ≡ x.core.promise
  pub ballot : is_unfinished_ballot y.ballot ≡ is_unfinished_ballot x.ballot
  pub start : y.core.start ≡ x.core.start

-- as a refresh leaves it
pub refresh_is_same_to_group : (x : Node) → IsSameToGroup x (refresh x)
refresh_is_same_to_group x =
    let r = refresh_rests_with_list x in
    assumption (ap has_log_by_status r.rests.status, ap has_departed r.rests.status, ap is_unfinished_ballot r.rests.ballot)

-- the same to what stands for it
pub same_node_keeps_name_standing : (w : World) (name i : ℕ) (x y : Node) (a : groups.ChainNode) → IsSameToGroup x y → NameStands (within w name x) i x a → NameStands (within w name y) i y a
same_node_keeps_name_standing w name i x y a u h = record {
  begins = record {
    within = subst (λ (l : Log). l.start ≤ length w.group) (sym u.log) h.begins.within;
    image = subst (λ (l : Log). l.image ≡ image_of_list (take l.start w.group)) (sym u.log) h.begins.image;
  };
  list = h.list ∙ ap (λ (l : Log). take l.start w.group ++ l.entries) (sym u.log);
  flags = record { log_ = h.log_ ∙ sym u.log_; stopped = h.stopped; departed = h.departed ∙ sym u.departed; leaving = h.leaving ∙ sym u.leaving };
  promise = h.promise ∙ sym u.promise;
  ballot = h.ballot ∙ sym u.ballot;
  start = λ t. h.start (sym u.log_ ∙ t) ∙ sym u.start;
}

-- another name's part, in a world where this name's node is another
pub same_node_keeps_others_standing : (w : World) (name : ℕ) (x y : Node) (s : Group) → IsSameToGroup x y
    → ((i : ℕ) → i < 256 → NameStands (within w name x) i ((within w name x).nodes i) (s.node i))
    → (i : ℕ) → i < 256 → NameStands (within w name y) i ((within w name y).nodes i) (s.node i)
same_node_keeps_others_standing w name x y s u h i few = split_on_bool (i == name)
    (λ t. let old : NameStands (within w name x) i x (s.node i) = rw t at (h i few) in rw t (same_node_keeps_name_standing w name i x y (s.node i) u old))
    (λ f. let old : NameStands (within w name x) i (w.nodes i) (s.node i) = rw f at (h i few) in
    rw f (name_stands_with_same_group (within w name x) (within w name y) i (w.nodes i) (s.node i) refl refl old))

pub same_node_keeps_others_fronts : (w : World) (name : ℕ) (x y : Node) (s : Group)
    → ((i : ℕ) → i < 256 → i ≢ name → has_departed ((within w name x).nodes i).status ≡ false → FrontsStand ((within w name x).nodes i) (s.node i))
    → (i : ℕ) → i < 256 → i ≢ name → has_departed ((within w name y).nodes i).status ≡ false → FrontsStand ((within w name y).nodes i) (s.node i)
same_node_keeps_others_fronts w name x y s h i few other = split_on_bool (i == name)
    (λ t. absurd (let same : i ≡ name = grind (arith, nat_tests) in other same))
    (λ f. rw f (λ d. (let old : has_departed (w.nodes i).status ≡ false → FrontsStand (w.nodes i) (s.node i) = rw f at (h i few other) in old d)))

-- a node that is the same to the group
pub same_node_keeps_group_standing : (w : World) (name : ℕ) (x y : Node) (s : Group) → IsSameToGroup x y → StandsBut name (within w name x) s → StandsBut name (within w name y) s
same_node_keeps_group_standing w name x y s u h = record {
  each = same_node_keeps_others_standing w name x y s u h.each;
  fronts = same_node_keeps_others_fronts w name x y s h.fronts;
  views = views_stand_if_lines_stay (within w name x) (within w name y) s.views refl (lines_stay_with_same_log w name x y u.log) h.views;
  group = h.group;
}

pub same_node_stands_without_move : (w : World) (name : ℕ) (x y : Node) (s : Group) → IsSameToGroup x y → StandsBut name (within w name x) s → MovesOntoStandingGroup name (within w name y) s
same_node_stands_without_move w name x y s u h = standing_group_without_move name (within w name y) s (same_node_keeps_group_standing w name x y s u h)

-- ---- a move of one node, whose list stays

moved : (w : World) (name : ℕ) (x y : Node) (s : Group) (b : groups.ChainNode) → y.core.log ≡ x.core.log → (move : Move s (group_with_node s name b)) → MoveIsSound move
    → b.told ≡ (s.node name).told → b.acc ≡ (s.node name).acc → (NameStands (within w name x) name x (s.node name) → NameStands (within w name y) name y b)
    → StandsBut name (within w name x) s → MovesOntoStandingGroup name (within w name y) s
moved w name x y s b log move ok told_ acc_ f h = standing_group_after_one_move name (within w name y) s (group_with_node s name b) move ok b (put_at_same_index s.node name b) told_ acc_
    (record {
      each = others_stand_within_changed_node w name x y s b f h.each;
      fronts = fronts_stand_within_changed_node w name x y s b h.fronts;
      views = views_stand_if_lines_stay (within w name x) (within w name y) s.views refl (lines_stay_with_same_log w name x y log) h.views;
      group = h.group;
    })

-- with the same list and status, and another promise or ballot
name_as : (w : World) (name : ℕ) (x y : Node) (a : groups.ChainNode) (stamp : Stamp) (open_ : Bool) → y.core.log ≡ x.core.log → y.status ≡ x.status
    → y.leaving ≡ x.leaving → y.core.start ≡ x.core.start → stamp ≡ y.core.promise → open_ ≡ is_unfinished_ballot y.ballot
    → NameStands (within w name x) name x a → NameStands (within w name y) name y (record a { promise = stamp; ballot = open_ })
name_as w name x y a stamp open_ log status leaving start_ promise ballot k = record {
  begins = record {
    within = subst (λ (l : Log). l.start ≤ length w.group) (sym log) k.begins.within;
    image = subst (λ (l : Log). l.image ≡ image_of_list (take l.start w.group)) (sym log) k.begins.image;
  };
  list = k.list ∙ ap (λ (l : Log). take l.start w.group ++ l.entries) (sym log);
  flags = record {
    log_ = k.log_ ∙ ap has_log_by_status (sym status);
    stopped = k.stopped;
    departed = k.departed ∙ ap has_departed (sym status);
    leaving = k.leaving ∙ sym leaving;
  };
  promise = promise;
  ballot = ballot;
  start = λ t. k.start (ap has_log_by_status (sym status) ∙ t) ∙ sym start_;
}

-- what stands for the name itself
pub acting_name_stands : (w : World) (name : ℕ) (x : Node) (s : Group) → name < 256 → StandsBut name (within w name x) s
    → NameStands (within w name x) name x (s.node name)
acting_name_stands w name x s few h = rw (number_equals_itself name) at (h.each name few)

-- who runs and hasn't departed is there
pub running_name_is_there : (w : World) (name : ℕ) (x : Node) (a : groups.ChainNode) → is_stopped w name ≡ false → has_departed x.status ≡ false
    → NameStands (within w name x) name x a → IsThere a
running_name_is_there w name x a runs stays h = record { goes = h.stopped ∙ runs; stays = h.departed ∙ stays }

pub member_has_not_departed : (t : Status) → is_member t ≡ true → has_departed t ≡ false
member_has_not_departed Status.Departed h = absurd (cc)
member_has_not_departed _ h = refl

asking_stays : (t : Status) → (is_member t || is_asking_status t) ≡ true → has_departed t ≡ false
asking_stays Status.Departed h = absurd (cc)
asking_stays _ h = refl

pub running_member_is_up : (w : World) (name : ℕ) (x : Node) (a : groups.ChainNode) → is_stopped w name ≡ false → is_member x.status ≡ true
    → NameStands (within w name x) name x a → IsUp a
running_member_is_up w name x a runs member h = record { log = h.log_ ∙ member_status_has_log x.status member; there = running_name_is_there w name x a runs (member_has_not_departed x.status member) h }

-- ---- what a whole list tells

pub image_of_whole_list : (v : World) (i : ℕ) (x : Node) (a : groups.ChainNode) → NameStands v i x a → image_of_list a.list ≡ nodes.image_of_node x
image_of_whole_list v i x a h =
    let start_ = x.core.log.start in
    let front = take start_ v.group in
    let long : length front ≡ start_ = (let b = h.begins.within in let c = length-take start_ v.group in omega arith) in
    let one : 1 + length front ≡ start_ + 1 = omega arith in
    ap image_of_list h.list ∙ fold_append blank 1 front x.core.log.entries ∙ ap (λ (i : Image). image_after_entries i (1 + length front) x.core.log.entries) (sym h.begins.image)
    ∙ ap (λ n. image_after_entries x.core.log.image n x.core.log.entries) one

pub image_of_whole_within_step : (w : World) (name i : ℕ) (x : Node) (a : groups.ChainNode) → NameStands (within w name x) i x a → image_of_list a.list ≡ nodes.image_of_node x
image_of_whole_within_step w name i x a h = image_of_whole_list (within w name x) i x a h

-- and how long it is
pub length_of_whole_list : (v : World) (i : ℕ) (x : Node) (a : groups.ChainNode) → NameStands v i x a → length a.list ≡ nodes.top x
length_of_whole_list v i x a h =
    let t = length-take x.core.log.start v.group in
    let m = length-append (take x.core.log.start v.group) x.core.log.entries in
    let l = ap length h.list in
    omega arith

-- ---- promises

-- an unfinished ballot of the promise is overtaken by what is above it
over : (v : Stamp) (ballot : Option Ballot) → ((b : Ballot) → ballot ≡ Some b → b.is_over ≡ false → stamp_is_less b.stamp v ≡ true)
    → is_unfinished_ballot (overtake_lower_ballot v ballot) ≡ false
over v None f = refl
over v (Some b) f = split_on_bool b.is_over
    (λ t. rw t refl)
    (λ n. let low = f b refl n in rw (n, low) refl)

-- and by nothing else
kept : (v : Stamp) (ballot : Option Ballot) → ((b : Ballot) → ballot ≡ Some b → b.is_over ≡ false → stamp_is_less b.stamp v ≡ false)
    → is_unfinished_ballot (overtake_lower_ballot v ballot) ≡ is_unfinished_ballot ballot
kept v None f = refl
kept v (Some b) f = split_on_bool b.is_over
    (λ t. rw t refl)
    (λ n. let low = f b refl n in rw (n, low) refl)

promiser_stays : (c : Cause) (x : Node) (v : Stamp) → MayPromise c x v → has_departed x.status ≡ false
promiser_stays c x v (invited s _ is heard own) = asking_stays x.status (both_of_and (not (s == x.core.who)) (is_member x.status || is_asking_status x.status) heard).1
promiser_stays c x v (overtaken_by s _ shown is heard above) = member_has_not_departed x.status (both_of_and (not (s == x.core.who)) (is_member x.status) heard).1
promiser_stays c x v (told_result s base number w is heard own other) = member_has_not_departed x.status
    (both_of_and (not (s == x.core.who)) (is_member x.status) heard).1

pub promise_stands_as_move : (w : World) (name : ℕ) (c : Cause) (x : Node) (v : Stamp) (s : Group) → MayMove w name c x s → stamp_is_less v x.core.promise ≡ false
    → MayPromise c x v → StandsBut name (within w name x) s → MovesOntoStandingGroup name (within w name (node_with_promise x v)) s
promise_stands_as_move w name c x v s may low why h =
    let old = acting_name_stands w name x s may.few h in
    let begun = may.stamps v why in
    let small = may.promise in
    split_on_bool (stamp_is_less x.core.promise v)
    (λ t.
    let up : key_of_stamp x.core.promise < key_of_stamp v = key_is_less_for_lesser_stamp x.core.promise v small begun.small t in
    let same : key_of_stamp (s.node name).promise ≡ key_of_stamp x.core.promise = ap key_of_stamp old.promise in
    let other : v.by ≢ name = λ e. (let b : key_of_stamp v ≤ key_of_stamp (s.node name).promise = subst (λ k. key_of_stamp v ≤ key_of_stamp (s.node k).promise) e begun.begun in
    let z : ⊥ = omega arith in z) in
    let above : IsGreaterBegunStamp s.node name v = record { greater = omega arith; small = begun.small; other = other; begun = begun.begun } in
    let ends : is_unfinished_ballot (overtake_lower_ballot v x.ballot) ≡ false = over v x.ballot
    (λ b is open_. subst (λ u. stamp_is_less u v ≡ true) (sym (may.ballot b is open_)) t) in
    moved w name x (node_with_promise x v) s (record (s.node name) { promise = v; ballot = false }) refl
    (group.raises name v (running_name_is_there w name x (s.node name) may.runs (promiser_stays c x v why) old) above) tt refl refl
    (λ k. name_as w name x (node_with_promise x v) (s.node name) _ _ refl refl refl refl refl (sym ends) k) h)
    (λ f.
    let same : v ≡ x.core.promise = unordered_stamps_are_equal v x.core.promise begun.small small low f in
    let stays : is_unfinished_ballot (overtake_lower_ballot v x.ballot) ≡ is_unfinished_ballot x.ballot = kept v x.ballot
    (λ b is open_. subst (λ u. stamp_is_less u v ≡ false) (sym (may.ballot b is open_)) f) in
    same_node_stands_without_move w name x (node_with_promise x v) s (record { log = refl; log_ = refl; departed = refl; leaving = refl; promise = same; ballot = stays; start = refl }) h)

-- ---- ballots

-- a ballot that ends without a decision
given_over : (w : World) (name : ℕ) (x y : Node) (s : Group) → y.core.log ≡ x.core.log → y.status ≡ x.status → y.leaving ≡ x.leaving
    → y.core.promise ≡ x.core.promise → is_unfinished_ballot y.ballot ≡ false → y.core.start ≡ x.core.start → StandsBut name (within w name x) s
    → MovesOntoStandingGroup name (within w name y) s
given_over w name x y s log stays leaving promise ends start_ h =
    moved w name x y s (record (s.node name) { ballot = false }) log (group.gives_over name) tt refl refl
    (λ k. name_as w name x y (s.node name) _ _ log stays leaving start_ (k.promise ∙ sym promise) (sym ends) k) h

pub open_ballot_stands_as_move : (w : World) (name : ℕ) (c : Cause) (x y : Node) (s : Group) → MayMove w name c x s → is_member x.status ≡ true
    → has (members x) x.core.who ≡ true → x.leaving ≡ false → y.core.log ≡ x.core.log → y.status ≡ x.status → y.leaving ≡ x.leaving
    → y.core.promise ≡ next_stamp x → is_unfinished_ballot y.ballot ≡ true → y.core.start ≡ x.core.start → StandsBut name (within w name x) s
    → MovesOntoStandingGroup name (within w name y) s
unfolding is_member_at_end
open_ballot_stands_as_move w name c x y s may member listed stays log same_status same_leaving promise open_ start_ h =
    let old = acting_name_stands w name x s may.few h in
    let up = running_member_is_up w name x (s.node name) may.runs member old in
    let who = may.who in
    let in_list : is_member_at_end (s.node name).list name ≡ true = ap (λ (i : Image). has (members_of_image i) name) (image_of_whole_within_step w name name x (s.node name) old)
    ∙ ap (has (members x)) (sym who) ∙ listed in
    let own : next_own_stamp name (s.node name) ≡ y.core.promise = (λ i. record { round = (old.promise i).round + 1; by = sym who i }) ∙ sym promise in
    moved w name x y s (record (s.node name) { promise = next_own_stamp name (s.node name); ballot = true }) log
    (group.begins name may.few up (old.leaving ∙ stays) in_list) tt refl refl
    (λ k. name_as w name x y (s.node name) _ _ log same_status same_leaving start_ own (sym open_) k) h

abbrev pub LookDecides : {m : Node} {b : Ballot} {v : BallotVerdict} → LooksAtBallot m b v → Type 0
LookDecides (decides may) = Unit {0}
LookDecides _ = ⊥

-- a ballot that goes on is the same to the group, and one that ends is given over
pub undecided_look_stands_as_move : (w : World) (name : ℕ) (c : Cause) (x : Node) (b : Ballot) (v : BallotVerdict) (s : Group) → MayMove w name c x s
    → is_unfinished_ballot x.ballot ≡ true → (look : LooksAtBallot x b v) → (LookDecides look → ⊥) → StandsBut name (within w name x) s
    → MovesOntoStandingGroup name (within w name v.node) s
undecided_look_stands_as_move w name c x b v s may open_ (finds_itself_out y) nothing h = given_over w name x v.node s refl refl refl refl refl refl h
undecided_look_stands_as_move w name c x b v s may open_ (finds_too_few y z) nothing h = given_over w name x v.node s refl refl refl refl refl refl h
undecided_look_stands_as_move w name c x b v s may open_ (finds_no_room y) nothing h = given_over w name x v.node s refl refl refl refl refl refl h
undecided_look_stands_as_move w name c x b v s may open_ (decides y) nothing h = absurd (nothing tt)
undecided_look_stands_as_move w name c x b v s may open_ _ nothing h = same_node_stands_without_move w name x v.node s
    (record { log = refl; log_ = refl; departed = refl; leaving = refl; promise = refl; ballot = sym open_; start = refl }) h

pub looked_at_ballot_is_unfinished : (c : Cause) (x : Node) (b : Ballot) → BallotIsLookedAt c x b → is_unfinished_ballot x.ballot ≡ true
looked_at_ballot_is_unfinished c x b (with_more old s v shown is heard low high o same stays) = ap is_unfinished_ballot o.last ∙ ap not o.open_
looked_at_ballot_is_unfinished c x b (without_one old name is o other) = ap is_unfinished_ballot o.last ∙ ap not o.open_
looked_at_ballot_is_unfinished c x b (as_it_is old o on) = ap is_unfinished_ballot o.last ∙ ap not o.open_

-- ---- leaving

pub leave_request_stands_as_move : (w : World) (name : ℕ) (c : Cause) (x : Node) (s : Group) → MayMove w name c x s → x.status ≡ Status.Member
    → is_unfinished_ballot x.ballot ≡ false → StandsBut name (within w name x) s → MovesOntoStandingGroup name (within w name (record x { leaving = true })) s
leave_request_stands_as_move w name c x s may was none h =
    let old = acting_name_stands w name x s may.few h in
    moved w name x (record x { leaving = true }) s (record (s.node name) { leaving = true }) refl
    (group.asks name (running_member_is_up w name x (s.node name) may.runs (ap is_member was) old) (old.ballot ∙ none)) tt refl refl
    (λ k. assumption) h

-- it is told to go only once it may
may_depart : (w : World) (name number : ℕ) (x : Node) (s : Group) → is_stopped w name ≡ false → IsUp (s.node name) → (s.node name).leaving ≡ true
    → NameStands (within w name x) name x (s.node name) → GoneSays s number name → (before : List Entry) × MayDepart s name before
may_depart w name number x s runs up leaves old (has_stopped t) = absurd (let f : (s.node name).stopped ≡ false = old.stopped ∙ runs in cc)
may_depart w name number x s runs up leaves old
    (may_go before is accepted stored) = (before, record { up = up; leaving = leaves; accepted = accepted; stored = stored })

pub departure_stands_as_move : (w : World) (name from number : ℕ) (v : Stamp) (c : Cause) (x : Node) (s : Group) → MayMove w name c x s
    → c ≡ hears (Packet.Gone from v number) → member_hears_other x from ≡ true → x.leaving ≡ true → StandsBut name (within w name x) s
    → MovesOntoStandingGroup name (within w name (record x { status = Status.Departed })) s
departure_stands_as_move w name from number v c x s may is heard leaves h =
    let old = acting_name_stands w name x s may.few h in
    let member = (both_of_and (not (from == x.core.who)) (is_member x.status) heard).1 in
    let up = running_member_is_up w name x (s.node name) may.runs member old in
    let go = may_depart w name number x s may.runs up (old.leaving ∙ leaves) old (may.gone from v number is) in
    moved w name x (record x { status = Status.Departed }) s (record (s.node name) { departed = true }) refl
    (group.departs name go.0 go.1) tt refl refl
    (λ k. assumption (up.log, k.start (member_status_has_log x.status member))) h
