-- Where a node's list begins after a step: where it did, or at the base that a Welcome told.
use Rattle.am_step_laws.proofs.Words.{number_equals_itself, member_status_has_log, ◌≡◌, ℕ, ◌≤◌, ◌==◌, ◌&&◌, ◌||◌, not, Bool, true, false, if◌then◌else◌, List, None, refl, sym, ap, ◌∙◌}
use Rattle.am_step_laws.proofs.Words.{subst, arith, nat_tests, Outcome, Stamp, Image, Rules, MayFound, stamps_are_equal, Log, Packet, Event, pass_over_below_join, Status, Ballot, view}
use Rattle.am_step_laws.proofs.Words.{is_sequencer, is_member, is_asking_status, has_log_by_status, BallotVerdict, refresh, StepResult, World, run, happens, world_with_step, world_with_record, split_on_bool}
use Rattle.am_step_laws.proofs.Words.{both_of_and, Cause, calls, hears, BallotIsLookedAt, with_more, without_one, as_it_is, LooksAtBallot, finds_itself_out}
use Rattle.am_step_laws.proofs.Words.{whole_entry, by_number, MayPromise, invited, told_result, Change, refreshes, settles, admits}
use Rattle.am_step_laws.proofs.Words.{numbers, notes, stores, begins_list, departs, promises, opens, looks, fetches, stores_view, asks_to_join, closes, Changes}
use Rattle.am_step_laws.proofs.Words.{acting_name, EventHappens, steps, events_have_effects, refresh_rests_with_list, settle_changes_only_sends, changes_keep_property}
use Rattle.am_step_laws.proofs.Watching.StoredWords.{refuses, CauseHasFronts, with_entry, with_number, alone, BeginsBy, by_reset, overtaken, IsBlank, blank_lists_hold_in_runs, sequencer_is_member}
use Rattle.am_step_laws.proofs.Watching.StoredWords.{hearing_member_has_log, standing_of, WelcomeBaseIsWithin, change_keeps_start_within, lists_only_grow_in_runs, list_begins_in_step}
use Rattle.am_node_defs.specs.Cores.{raise_accepted_to_told}
use Rattle.am_model.specs.Node.{Node}
use Rattle.am_packet.specs.declared.packet.Packet.TheVariants as packet
use Rattle.am_model.specs.declared.status.Status.TheVariants as status

-- ---- by another cause than a Welcome no list begins

abbrev IsNoWelcome : Cause → Type 0
IsNoWelcome c = (s : ℕ) (v : Stamp) (base join : ℕ) (image : Image) → c ≡ hears (packet.Welcome s v base join image) → ⊥

look_status : (m : Node) (b : Ballot) (v : BallotVerdict) → LooksAtBallot m b v → v.node.status ≡ m.status
look_status m b v (finds_itself_out x) = refl
look_status m b v _ = refl

abbrev HasNone : Node → Type 0
HasNone m = has_log_by_status m.status ≡ false

change_none : {c : Cause} {o : Outcome} → IsNoWelcome c → (x y : Node) → Change c o x y → HasNone x → HasNone y
change_none other x y refreshes h = ap has_log_by_status (refresh_rests_with_list x).rests.status ∙ h
change_none other x y settles h = ap (λ (n : Node). has_log_by_status n.status) (settle_changes_only_sends x) ∙ h
change_none other x y (begins_list s v base join image is o may) h = absurd (other s v base join image is)
change_none other x y (departs s v number is by leaves) h = absurd (let t = hearing_member_has_log x s by in cc)
change_none other x y (looks b verdict over why look is) h = ap has_log_by_status (look_status x b verdict look) ∙ h
change_none other x y (asks_to_join is was) h = refl
change_none other x y (closes leads leaves last room) h = absurd (let t = member_status_has_log x.status (sequencer_is_member x leads) in cc)
change_none other x y _ h = h

-- ---- by a Welcome it begins at its base, and its node doesn't lead in that step

module _ (s : ℕ) (v : Stamp) (base join : ℕ) (image : Image) where
  abbrev welcome_ : Cause
  welcome_ = hears (packet.Welcome s v base join image)

  no_fronts : {c : Cause} {by : ℕ} {at : Stamp} {low high : ℕ} → CauseHasFronts c by at low high → c ≡ welcome_ → ⊥
  no_fronts (with_entry _ _ _ _ _ _) h = cc
  no_fronts (with_number _ _ _ _ _ _ _) h = cc
  no_fronts (alone _ _ _ _ _ _) h = cc

  no_promise : {c : Cause} {m : Node} {at : Stamp} → MayPromise c m at → c ≡ welcome_ → ⊥
  no_promise (invited _ _ is _ _) h = cc
  no_promise (overtaken _ _ _ is _ _) h = cc
  no_promise (told_result _ _ _ w is _ _ _) h = cc

  no_ballot : {c : Cause} {m : Node} → BeginsBy m c → c ≡ welcome_ → ⊥
  no_ballot (by_reset _ _) h = cc
  no_ballot _ h = cc

  no_look : {c : Cause} {m : Node} {b : Ballot} → BallotIsLookedAt c m b → c ≡ welcome_ → m.ballot ≡ None → ⊥
  no_look (with_more _ _ _ _ is _ _ _ _ _ _) h none = cc
  no_look (without_one _ _ is _ _) h none = cc
  no_look (as_it_is _ open_ on) h none = let last = open_.last in cc

  abbrev Begun : Node → Type 0
  Begun m = (m.core.base ≡ m.core.log.start) × (m.ballot ≡ None) × (is_sequencer m ≡ false) × (is_member m.status ≡ false → m.core.log.start ≡ 0)

  refresh_begun : (m : Node) → Begun m → Begun (refresh m)
  unfolding refresh raise_accepted_to_told pass_over_below_join
  refresh_begun m h = rw h.2 h

  not_true : (b : Bool) → not b ≡ true → b ≡ false
  not_true true h = absurd (cc)
  not_true false h = refl

  -- nobody begins a list by a Welcome of its own name
  not_own : (who by : ℕ) (promise : Stamp) → (by == who) ≡ false → (promise.by == by) ≡ true → (seen : Stamp) (member : Bool)
      → ((member && stamps_are_equal promise seen) && (seen.by == who)) ≡ false
  not_own who by promise other own seen member = grind (arith, nat_tests)

  change_begun : {c : Cause} {o : Outcome} → c ≡ welcome_ → (x y : Node) → Change c o x y → Begun x → Begun y
  change_begun w x y refreshes h = refresh_begun x h
  change_begun w x y settles h = subst Begun (sym (settle_changes_only_sends x)) h
  change_begun w x y (admits s1 v1 is leads fit) h = absurd (let f = h.2 in cc)
  change_begun w x y (numbers e leads room why) h = absurd (let f = h.2 in cc)
  change_begun w x y (notes s1 v1 low acc by from) h = absurd (no_fronts by w)
  change_begun w x y (stores s1 v1 low acc number e (whole_entry _ is) from plain may) h = absurd (cc)
  change_begun w x y (stores s1 v1 low acc number e (by_number _ _ _ is _) from plain may) h = absurd (cc)
  change_begun w x y (begins_list s1 v1 low join1 image1 is o may) h =
      let other = not_true (s1 == x.core.who) (both_of_and (not (s1 == x.core.who)) (is_member x.status || is_asking_status x.status) may.asks).0 in
      (refl, h.1, not_own x.core.who s1 v1 other may.own (view y) true, λ f. absurd (cc))
  change_begun w x y (departs s1 v1 number is by leaves) h = absurd (cc)
  change_begun w x y (promises v1 low why) h = absurd (no_promise why w)
  change_begun w x y (opens least resilience by may) h = absurd (no_ballot by w)
  change_begun w x y (looks b verdict over why look is) h = absurd (no_look why w h.1)
  change_begun w x y (fetches s1 v1 low number e is by promise below from may) h = absurd (cc)
  change_begun w x y (stores_view s1 low number v is by own unlike promise below may) h = absurd (cc)
  change_begun w x y (asks_to_join is was) h = absurd (cc)
  change_begun w x y (closes leads leaves last room) h = absurd (let f = h.2 in cc)
  change_begun w x y _ h = h

-- ---- a step

abbrev BeginsAt : Node → Node → Type 0
BeginsAt m n = n.core.log.start ≡ (if list_begins_in_step (standing_of m) n.status then n.core.base else m.core.log.start)

-- a list that was there begins where it did
there_begins : (m n : Node) → has_log_by_status m.status ≡ true → n.core.log.start ≡ m.core.log.start → BeginsAt m n
there_begins m n t same = rw t same

-- without one it begins at its base, if it begins
none_begins : (m n : Node) → has_log_by_status m.status ≡ false → m.core.log.start ≡ 0
    → (is_member n.status ≡ true → n.core.log.start ≡ n.core.base) → (is_member n.status ≡ false → n.core.log.start ≡ 0) → BeginsAt m n
none_begins m n f zero there none = rw f (split_on_bool (is_member n.status)
    (λ t. rw t (there t))
    (λ u. rw u (none u ∙ sym zero)))

-- a Welcome is heard, or it is something else
data Kind (c : Cause) : Type 0 where
  welcome : (s : ℕ) (v : Stamp) (base join : ℕ) (image : Image) → c ≡ hears (packet.Welcome s v base join image) → Kind c
  other : IsNoWelcome c → Kind c

packet_kind : (p : Packet) → Kind (hears p)
packet_kind (packet.Welcome s v base join image) = welcome s v base join image refl
packet_kind _ = other (λ s v base join image h. cc)

kind : (c : Cause) → Kind c
kind (hears p) = packet_kind p
kind (calls event) = other (λ s v base join image h. cc)
kind refuses = other (λ s v base join image h. cc)

never_leads : (m : Node) → has_log_by_status m.status ≡ false → is_sequencer m ≡ false
never_leads m none = split_on_bool (is_sequencer m) (λ t. absurd (let log = member_status_has_log m.status (sequencer_is_member m t) in cc)) (λ f. f)

begins_by : {c : Cause} {o : Outcome} (m n : Node) → Kind c → Changes c o m n → has_log_by_status m.status ≡ false → IsBlank m → BeginsAt m n
begins_by m n (welcome s v base join image is) changes none blank_ =
    let zero : m.core.log.start ≡ 0 = ap (λ (l : Log). l.start) blank_.log in
    let first : Begun s v base join image m = (blank_.base ∙ sym zero, blank_.ballot, never_leads m none, λ f. zero) in
    let h : Begun s v base join image n = changes_keep_property (Begun s v base join image) (change_begun s v base join image is) changes first in
    none_begins m n none zero (λ t. sym h.0) h.3
begins_by {c = c} m n (other none_heard) changes none blank_ =
    let zero : m.core.log.start ≡ 0 = ap (λ (l : Log). l.start) blank_.log in
    let heard : WelcomeBaseIsWithin c 0 = record { welcome = λ s v base join image is. absurd (none_heard s v base join image is) } in
    let low : n.core.log.start ≤ 0 = changes_keep_property (λ (x : Node). x.core.log.start ≤ 0) (change_keeps_start_within 0 heard) changes (omega arith) in
    let still : HasNone n = changes_keep_property HasNone (change_none none_heard) changes none in
    none_begins m n none zero (λ t. absurd (let log = member_status_has_log n.status t in cc)) (λ f. omega arith)

-- ---- in a run

no_begin : (s : Status) → (not (has_log_by_status s) && is_member s) ≡ false
no_begin status.Stranger = refl
no_begin _ = refl

-- where the node is as it was
begins_same : (m : Node) → BeginsAt m m
begins_same m = rw (no_begin m.status) refl

begins_in : (rules : Rules) (events : List Event) (e : Event) (v : World) → MayFound rules → EventHappens (run rules events) e v
    → BeginsAt ((run rules events).nodes (acting_name (run rules events) e)) (v.nodes (acting_name (run rules events) e))
unfolding world_with_step world_with_record
begins_in rules events e _ may (steps c s running cause effect) =
    let w = run rules events in
    let name = acting_name w e in
    let m = w.nodes name in
    let adds = lists_only_grow_in_runs rules events e c s may running cause effect in
    rw (number_equals_itself name) (split_on_bool (has_log_by_status m.status)
    (λ t. there_begins m s.node t (adds.stays t))
    (λ f. begins_by m s.node (kind c) effect.changes f (blank_lists_hold_in_runs rules events name may adds.within f)))
begins_in rules events e _ may _ = begins_same ((run rules events).nodes (acting_name (run rules events) e))

-- where the list of a name's node begins once it did a step
pub list_start_after_step : (rules : Rules) (events : List Event) (e : Event) (s : StepResult) → MayFound rules
    → happens (run rules events) e ≡ world_with_step (run rules events) e (acting_name (run rules events) e) s
    → BeginsAt ((run rules events).nodes (acting_name (run rules events) e)) s.node
unfolding world_with_step
list_start_after_step rules events e s may is =
    let w = run rules events in
    let name = acting_name w e in
    let h : BeginsAt (w.nodes name) ((world_with_step w e name s).nodes name) =
    begins_in rules events e (world_with_step w e name s) may (subst (EventHappens w e) is (events_have_effects w e)) in
    rw (number_equals_itself name) at h
