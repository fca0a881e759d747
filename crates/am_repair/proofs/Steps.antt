-- Each event of a schedule keeps a world calm.
use Rattle.am_repair.proofs.RepairWords.{eq-eqb, eqb-true, ◌≡◌, ◌⊎◌, inl, inr, either, ℕ, zero, suc, ◌≤◌, ◌==◌, true, false, List, [], ◌∷◌, ◌++◌, Some}
use Rattle.am_repair.proofs.RepairWords.{slice_get, refl, sym, ap, ◌∙◌, subst, arith, All, nat_tests, Stamp, Outcome, Rules, has, Letter, Event, letter_at}
use Rattle.am_repair.proofs.RepairWords.{Node, top, is_sequencer, has_departed, is_unfinished_ballot, next_stamp, StepResult, World, world_with_record, world_with_step, happens}
use Rattle.am_repair.proofs.RepairWords.{split_on_bool, Cause, LetterSays, Effect, acting_name, IsCause, item_of_index_has_property, actor_is_below_256, heard_stamps_have_names, TrimsOnlyTakenAlongStep, WorldTrimsOnlyTaken, heard_welcome_image_is_used}
use Rattle.am_repair.proofs.RepairWords.{each_node_trims_only_taken, Repair, LeadsCalmly, FollowsView, IsApart, IsLeaver, IsElsewhere, IsCalm, Calm, IsOurs, is_stopped}
use Rattle.am_repair.proofs.RepairWords.{MayTellResult, leads, decided, Ballot, ◌<◌}
use Rattle.am_repair.proofs.Going.{StepOfSchedule, WorldAfterScheduledEvent, idles, steps, scheduled_event_steps_or_idles, sequencer_goes_on_by_changes, member_follows_on_by_changes, node_stays_apart_by_changes, leaver_stays_left_by_changes, sender_with_same_status, member_status_has_not_departed}
use Rattle.am_repair.proofs.Nodes.{CalmCause, acting_member_promised_its_view, sequencer_acts_by_own_view, other_name_is_not_sequencer}
use Rattle.am_repair.proofs.RepairLeading.{SequencerGoesOn, told_report_is_of_sender, TrustsReportsTaken}
use Rattle.am_repair.proofs.RepairLeading.{CauseTellsTaken}
use Rattle.am_repair.proofs.RepairLists.{LogGrows, log_grows_to_itself}
use Rattle.am_repair.proofs.Following.{CauseSkipsNumber}
use Rattle.am_repair.proofs.Saying.{RepairWorldGrows, packet_stays_calm_later, SendsOfCalmStep}
use Rattle.am_repair.proofs.Saying.{calm_step_sends_calm_letter}
use Rattle.am_repair.proofs.Leaving.{leaver_is_not_sequencer as leads_not_left}
use Rattle.am_repair.proofs.Silent.{step_sends_nothing_or_stays, sender_of_effect_is_node}

-- ---- names

is_other : (a b : ℕ) → (a == b) ≡ false → (b == a) ≡ false
is_other a b f = grind (arith, nat_tests)

-- ---- letters of a world and more

get_either : (xs ys : List Letter) (k : ℕ) (l : Letter) → slice_get (xs ++ ys) k ≡ Some l
    → (slice_get xs k ≡ Some l) ⊎ ((j : ℕ) × (slice_get ys j ≡ Some l))
get_either [] ys k l h = inr (k, h)
get_either (x ∷ xs) ys zero l h = inl h
get_either (x ∷ xs) ys (suc k) l h = get_either xs ys k l h

pub letter_at_of_appended_letters : (xs ys : List Letter) (number : ℕ) (l : Letter) → letter_at (xs ++ ys) number ≡ Some l
    → (letter_at xs number ≡ Some l) ⊎ ((j : ℕ) × (slice_get ys j ≡ Some l))
letter_at_of_appended_letters xs ys zero l h = absurd (cc)
letter_at_of_appended_letters xs ys (suc before) l h = get_either xs ys before l h

-- ---- an event that no node does

same_grows : (r : Repair) (w v : World) → v.nodes ≡ w.nodes → RepairWorldGrows r w v
same_grows r w v same = subst (λ nodes. RepairWorldGrows r w (record v { nodes = nodes })) (sym same)
    (record {
      log = log_grows_to_itself (w.nodes r.by).core.log;
      stored = λ name there. omega arith;
      taken = λ name there. omega arith;
      acc = λ name there. omega arith;
      kept = λ name there. omega arith;
    })

calm_unchanged : (r : Repair) (w : World) (e : Event) (o : Outcome) → Calm r w → Calm r (world_with_record w e o)
unfolding world_with_record
calm_unchanged r w e o h =
    let v = world_with_record w e o in
    let letters : (number : ℕ) (l : Letter) → r.sent < number → letter_at v.letters number ≡ Some l → IsCalm r v l.packet
    = λ number l late there. packet_stays_calm_later r w v l.packet (same_grows r w v refl) (h.letters number l late there) in
    assumption (letters)

-- ---- a step

-- what is so of the world after a name's step, by what it made of that name's node
record StepKeeps (r : Repair) (w v : World) (name : ℕ) (s : StepResult) : Type 0 where
  who : s.node.core.who ≡ name
  leads : LeadsCalmly r (v.nodes r.by)
  follows : (other : ℕ) → has r.members other ≡ true → (other == r.by) ≡ false → FollowsView r (v.nodes r.by) (v.nodes other)
  apart : (other : ℕ) → has r.members other ≡ false → is_stopped w other ≡ false → has_departed (v.nodes other).status ≡ false → IsElsewhere r (v.nodes other)
  grow : RepairWorldGrows r w v
  letters : (k : ℕ) (l : Letter) → slice_get s.letters k ≡ Some l → IsCalm r v l.packet

calm_stepped : (r : Repair) (w : World) (e : Event) (name : ℕ) (s : StepResult) → Calm r w → StepKeeps r w (world_with_step w e name s) name s
    → Calm r (world_with_step w e name s)
unfolding world_with_step
calm_stepped r w e name s h k =
    let v = world_with_step w e name s in
    let who : (other : ℕ) → (v.nodes other).core.who ≡ other
    = λ other. split_on_bool (other == name) (λ t. rw t (k.who ∙ sym (eqb-true other name t))) (λ f. rw f (h.who other)) in
    let letters : (number : ℕ) (l : Letter) → r.sent < number → letter_at v.letters number ≡ Some l → IsCalm r v l.packet = λ number l late there.
    either (letter_at_of_appended_letters w.letters s.letters number l there)
    (λ old. packet_stays_calm_later r w v l.packet k.grow (h.letters number l late old))
    (λ new. k.letters new.0 l new.1) in
    assumption (k, who, letters)

-- the letters of a step
sent_calm : (r : Repair) (w v : World) (m n : Node) (c : Cause) (letters : List Letter) → CalmCause r w c → SendsOfCalmStep r v m n → All (LetterSays m c n) letters
    → (k : ℕ) (l : Letter) → slice_get letters k ≡ Some l → IsCalm r v l.packet
sent_calm r w v m n c letters calm h all k l there = calm_step_sends_calm_letter r w v m n c l.to l.packet calm h (item_of_index_has_property (LetterSays m c n) letters k l all there).says

-- a promise of its own is of a later round
later_round : (a b : Node) (v : Stamp) → a.core.promise ≡ v → b.core.promise ≡ v → b.core.promise ≡ next_stamp a → ⊥
later_round a b v x y z = let q = ap (λ (s : Stamp). s.round) (sym z ∙ y ∙ sym x) in omega arith

-- ---- one node is another, and all others are as they were

record OneChanged (w v : World) (name : ℕ) (n : Node) : Type 0 where
  here : v.nodes name ≡ n
  others : (other : ℕ) → (other == name) ≡ false → v.nodes other ≡ w.nodes other

one_changed : (w : World) (e : Event) (name : ℕ) (s : StepResult) → OneChanged w (world_with_step w e name s) name s.node
unfolding world_with_step
one_changed w e name s = record { here = (let t = eq-eqb name name refl in rw t refl); others = λ other f. rw f refl }

abbrev NoLess : Node → Node → Type 0
NoLess x y = (top x ≤ top y) × (x.core.taken ≤ y.core.taken) × (x.core.acc ≤ y.core.acc)

grow_changed : (r : Repair) (w v : World) (name : ℕ) (n : Node) → OneChanged w v name n → LogGrows (w.nodes r.by).core.log (v.nodes r.by).core.log
    → ((i : ℕ) → has r.members i ≡ true → ((w.nodes r.by).reports i).stored ≤ ((v.nodes r.by).reports i).stored)
    → (has r.members name ≡ true → NoLess (w.nodes name) n) → RepairWorldGrows r w v
grow_changed r w v name n ch log kept up = record {
  log = log;
  stored = λ other there. (both other there).0;
  taken = λ other there. (both other there).1;
  acc = λ other there. (both other there).2;
  kept = kept;
}
  where
    both : (other : ℕ) → has r.members other ≡ true → NoLess (w.nodes other) (v.nodes other)
    both other there = split_on_bool (other == name)
        (λ t. let e = eqb-true other name t in
        subst (λ i. NoLess (w.nodes i) (v.nodes i)) (sym e) (subst (NoLess (w.nodes name)) (sym ch.here)
        (up (subst (λ i. has r.members i ≡ true) e there))))
        (λ f. subst (NoLess (w.nodes other)) (sym (ch.others other f)) (omega arith, omega arith, omega arith))

same_reports : (r : Repair) (w v : World) (q : Node) → w.nodes r.by ≡ q → v.nodes r.by ≡ q → (i : ℕ) → has r.members i ≡ true
    → ((w.nodes r.by).reports i).stored ≤ ((v.nodes r.by).reports i).stored
same_reports r w v q a b i there = let x = ap (λ (n : Node). (n.reports i).stored) (a ∙ sym b) in omega arith

-- who isn't there stays so
apart_others : (r : Repair) (w v : World) (name other : ℕ) (n : Node) → OneChanged w v name n → Calm r w → (other == name) ≡ false
    → has r.members other ≡ false → is_stopped w other ≡ false → has_departed (v.nodes other).status ≡ false → IsElsewhere r (v.nodes other)
apart_others r w v name other n ch h f none goes there =
    let same = ch.others other f in
    subst (IsElsewhere r) (sym same) (h.apart other none goes (subst (λ (x : Node). has_departed x.status ≡ false) same there))

-- ---- the sequencer's step

-- a set has one of two names and not the other
differs : (set : List ℕ) (a b : ℕ) → has set a ≡ true → has set b ≡ false → (b == a) ≡ false
differs set a b t f = split_on_bool (b == a) (λ same. absurd (let k = ap (has set) (eqb-true b a same) in cc)) (λ g. g)

pub sequencer_goes_on_from_itself : (r : Repair) (w : World) → Calm r w → SequencerGoesOn r (λ name. (w.nodes name).core.taken) (w.nodes r.by) (w.nodes r.by)
sequencer_goes_on_from_itself r w h =
    let q = w.nodes r.by in
    record {
      own = h.who r.by;
      leads = h.leads;
      trusts = record {
        base = λ name there other. (h.follows name there other).base;
        reported = λ name there other. subst (λ k. (q.reports k).taken ≤ (w.nodes name).core.taken) (h.who name) (h.follows name there other).reported;
      };
      grows = log_grows_to_itself q.core.log;
      up = omega arith;
      acc = omega arith;
      kept = λ name there. omega arith;
    }

-- members follow a sequencer that goes on
follows_on : (r : Repair) (w : World) (n : Node) (name : ℕ) → Calm r w → has r.members name ≡ true → (name == r.by) ≡ false
    → SequencerGoesOn r (λ k. (w.nodes k).core.taken) (w.nodes r.by) n → FollowsView r n (w.nodes name)
follows_on r w n name h there other g =
    let f = h.follows name there other in
    let low = f.low in let within = f.within in
    let low_ : n.core.log.start ≤ top (w.nodes name) = omega arith in
    let within_ : top (w.nodes name) ≤ top n = omega arith in
    assumption (
      low_,
      within_,
      f.told_ ∙ sym (g.grows.image (top (w.nodes name)) within),
      g.trusts.base name there other,
      subst (λ k. (n.reports k).taken ≤ (w.nodes name).core.taken) (sym (h.who name)) (g.trusts.reported name there other),
    )

leader_step : (rules : Rules) (r : Repair) (w : World) (e : Event) (s : StepResult) → WorldTrimsOnlyTaken rules w → Calm r w → (k : StepOfSchedule r w e s) → acting_name w e ≡ r.by
    → StepKeeps r w (world_with_step w e (acting_name w e) s) (acting_name w e) s
leader_step rules r w e s laws h k same =
    let name = acting_name w e in
    let n = s.node in
    let q = w.nodes r.by in
    let c = k.cause in
    let v = world_with_step w e name s in
    let ch = one_changed w e name s in
    let effect = subst (λ i. Effect (w.nodes i) c s) same k.effect in
    let along = subst (λ i. TrimsOnlyTakenAlongStep rules (w.nodes i)) same (each_node_trims_only_taken rules w name (actor_is_below_256 rules w e laws.blanks.base.named) laws) in
    let g = sequencer_goes_on_by_changes rules r (λ i. (w.nodes i).core.taken) w q q n h.own k.calm
    (λ i v_ report brings. (told_report_is_of_sender r w c i v_ report brings k.calm).taken) (heard_stamps_have_names rules w e c laws.blanks.base k.is)
    (heard_welcome_image_is_used rules w e c laws k.is) effect.changes along (sequencer_goes_on_from_itself r w h) in
    let node : v.nodes r.by ≡ n = ap (λ i. v.nodes i) (sym same) ∙ ch.here in
    let acts_ = acting_member_promised_its_view n (sequencer_acts_by_own_view n g.leads.leads).0 in
    let sender = sender_with_same_status n effect.sender effect.is effect.stays (member_status_has_not_departed n acts_.0) in
    let before = acting_member_promised_its_view q (sequencer_acts_by_own_view q h.leads.leads).0 in
    let promise : n.core.promise ≡ r.view = acts_.1 ∙ g.leads.view_ in
    let old : q.core.promise ≡ r.view = before.1 ∙ h.leads.view_ in
    let sends : SendsOfCalmStep r v q n = record {
      node = ap (λ i. v.nodes i) g.own ∙ node;
      leaves = λ t. absurd (let f = g.leads.rest.stays in cc);
      no_ballot = h.leads.rest.no_ballot;
      begins_none = λ b is next. later_round q n r.view old promise next;
      tells = λ t mine. promise;
      stays = λ t. g.leads.rest.stays;
      own = λ t. g.own;
      promise = λ t. promise;
      base = λ t. omega arith;
    } in
    let not_own : (other : ℕ) → (other == r.by) ≡ false → (other == name) ≡ false = λ other f. ap (λ i. other == i) same ∙ f in
    let up = subst (λ i. NoLess (w.nodes i) n) (sym same) (g.grows.top, g.up, g.acc) in
    let kept_on : (i : ℕ) → has r.members i ≡ true → (q.reports i).stored ≤ ((v.nodes r.by).reports i).stored = λ i there. subst
    (λ (x : Node). (q.reports i).stored ≤ (x.reports i).stored) (sym node) (g.kept i there) in
    record {
      who = g.own ∙ sym same;
      leads = subst (LeadsCalmly r) (sym node) g.leads;
      follows = λ other there f. subst (λ (x : Node). FollowsView r x (v.nodes other)) (sym node)
          (subst (FollowsView r n) (sym (ch.others other (not_own other f))) (follows_on r w n other h there f g));
      apart = λ other none goes there. apart_others r w v name other n ch h (not_own other (differs r.members r.by other h.listed none)) none goes there;
      grow = grow_changed r w v name n ch (subst (λ (x : Node). LogGrows q.core.log x.core.log) (sym node) g.grows) kept_on (λ there. up);
      letters = sent_calm r w v q n c s.letters k.calm sends (subst (λ (x : Node). All (LetterSays q c x) s.letters) sender effect.letters);
    }

-- ---- a member's step

-- what a node that doesn't lead keeps in its step, so that what it sends is calm
record Aside (r : Repair) (m n : Node) : Type 0 where
  who : n.core.who ≡ m.core.who
  leaves : n.leaving ≡ true → r.gone n.core.who ≡ true
  no_ballot : is_unfinished_ballot m.ballot ≡ false
  begins_none : (b : Ballot) → n.ballot ≡ Some b → n.core.promise ≡ next_stamp m → ⊥
  tells : MayTellResult n → n.core.promise.by ≡ n.core.who → n.core.promise ≡ r.view
  no_leader : is_sequencer n ≡ true → ⊥

aside_calm : (r : Repair) (w : World) (e : Event) (s : StepResult) → Calm r w → (k : StepOfSchedule r w e s) → Aside r (w.nodes (acting_name w e)) s.node
    → k.effect.sender ≡ s.node → (i : ℕ) (l : Letter) → slice_get s.letters i ≡ Some l → IsCalm r (world_with_step w e (acting_name w e) s) l.packet
aside_calm r w e s h k a sender =
    let name = acting_name w e in
    let m = w.nodes name in
    let v = world_with_step w e name s in
    let sends : SendsOfCalmStep r v m s.node = record {
      node = ap (λ i. v.nodes i) (a.who ∙ h.who name) ∙ (one_changed w e name s).here;
      leaves = a.leaves;
      no_ballot = a.no_ballot;
      begins_none = a.begins_none;
      tells = a.tells;
      stays = λ t. absurd (a.no_leader t);
      own = λ t. absurd (a.no_leader t);
      promise = λ t. absurd (a.no_leader t);
      base = λ t. absurd (a.no_leader t);
    } in
    sent_calm r w v m s.node k.cause s.letters k.calm sends (subst (λ (x : Node). All (LetterSays m k.cause x) s.letters) sender k.effect.letters)

member_step : (r : Repair) (w : World) (e : Event) (s : StepResult) → Calm r w → (k : StepOfSchedule r w e s) → (acting_name w e == r.by) ≡ false
    → has r.members (acting_name w e) ≡ true → StepKeeps r w (world_with_step w e (acting_name w e) s) (acting_name w e) s
member_step r w e s h k other there =
    let name = acting_name w e in
    let m = w.nodes name in
    let n = s.node in
    let q = w.nodes r.by in
    let v = world_with_step w e name s in
    let ch = one_changed w e name s in
    let own : (m.core.who == r.by) ≡ false = ap (λ i. i == r.by) (h.who name) ∙ other in
    let f = h.follows name there other in
    let g = member_follows_on_by_changes r w m m n h.own own k.calm k.effect.changes
    (record { who = refl; follows = f; stored = omega arith; taken = omega arith; acc = omega arith; skips = λ x. refl }) in
    let node : v.nodes r.by ≡ q = ch.others r.by (is_other name r.by other) in
    let acts_ = acting_member_promised_its_view n g.follows.acts_ in
    let before = acting_member_promised_its_view m f.acts_ in
    let promise : n.core.promise ≡ r.view = acts_.1 ∙ g.follows.view_ in
    let old : m.core.promise ≡ r.view = before.1 ∙ f.view_ in
    let no_leader : is_sequencer n ≡ true → ⊥ = λ t. other_name_is_not_sequencer n r.by (ap (λ (x : Stamp). x.by) g.follows.view_ ∙ h.own)
    (ap (λ i. i == r.by) g.who ∙ own) t in
    let follows_new : (i : ℕ) → has r.members i ≡ true → (i == r.by) ≡ false → FollowsView r q (v.nodes i) = λ i here d. split_on_bool (i == name)
    (λ t. subst (λ j. FollowsView r q (v.nodes j)) (sym (eqb-true i name t)) (subst (FollowsView r q) (sym ch.here) g.follows))
    (λ t. subst (FollowsView r q) (sym (ch.others i t)) (h.follows i here d)) in
    record {
      who = g.who ∙ h.who name;
      leads = subst (LeadsCalmly r) (sym node) h.leads;
      follows = λ i here d. subst (λ (x : Node). FollowsView r x (v.nodes i)) (sym node) (follows_new i here d);
      apart = λ i none goes here. apart_others r w v name i n ch h (differs r.members name i there none) none goes here;
      grow = grow_changed r w v name n ch (subst (λ (x : Node). LogGrows q.core.log x.core.log) (sym node) (log_grows_to_itself q.core.log))
          (same_reports r w v q refl node) (λ here. (g.stored, g.taken, g.acc));
      letters = aside_calm r w e s h k (record {
        who = g.who;
        leaves = λ t. absurd (let f = g.follows.rest.stays in cc);
        no_ballot = f.rest.no_ballot;
        begins_none = λ b is next. later_round m n r.view old promise next;
        tells = λ t mine. promise;
        no_leader = no_leader;
      }) (sender_with_same_status n k.effect.sender k.effect.is k.effect.stays (member_status_has_not_departed n acts_.0));
    }

-- ---- anybody else's

-- it changes no member
elsewhere_step : (r : Repair) (w : World) (e : Event) (s : StepResult) → Calm r w → (acting_name w e == r.by) ≡ false → has r.members (acting_name w e) ≡ false
    → s.node.core.who ≡ acting_name w e
    → (has_departed s.node.status ≡ false → IsElsewhere r s.node) → ((k : ℕ) (l : Letter) → slice_get s.letters k ≡ Some l
    → IsCalm r (world_with_step w e (acting_name w e) s) l.packet) → StepKeeps r w (world_with_step w e (acting_name w e) s) (acting_name w e) s
elsewhere_step r w e s h other none who apart letters =
    let name = acting_name w e in
    let n = s.node in
    let q = w.nodes r.by in
    let v = world_with_step w e name s in
    let ch = one_changed w e name s in
    let node : v.nodes r.by ≡ q = ch.others r.by (is_other name r.by other) in
    record {
      who = who;
      leads = subst (LeadsCalmly r) (sym node) h.leads;
      follows = λ i here d. subst (λ (x : Node). FollowsView r x (v.nodes i)) (sym node)
          (subst (FollowsView r q) (sym (ch.others i (is_other name i (differs r.members i name here none)))) (h.follows i here d));
      apart = λ i gone goes here. split_on_bool (i == name)
          (λ t. let e = eqb-true i name t in
          let same : v.nodes i ≡ n = ap (λ j. v.nodes j) e ∙ ch.here in
          subst (IsElsewhere r) (sym same) (apart (subst (λ (x : Node). has_departed x.status ≡ false) same here)))
          (λ f. apart_others r w v name i n ch h f gone goes here);
      grow = grow_changed r w v name n ch (subst (λ (x : Node). LogGrows q.core.log x.core.log) (sym node) (log_grows_to_itself q.core.log))
          (same_reports r w v q refl node) (λ here. absurd (cc));
      letters = letters;
    }

-- whoever isn't the leader, nor a member of its view, and hasn't departed
module _ (r : Repair) (w : World) (e : Event) (s : StepResult) (h : Calm r w) (k : StepOfSchedule r w e s) (other : (acting_name w e == r.by) ≡ false)
    (none : has r.members (acting_name w e) ≡ false) (there : has_departed (w.nodes (acting_name w e)).status ≡ false) where
  abbrev was_ : Node
  was_ = w.nodes (acting_name w e)

  abbrev now_ : Node
  now_ = s.node

  apart_step : IsApart r was_ → StepKeeps r w (world_with_step w e (acting_name w e) s) (acting_name w e) s
  apart_step a =
      let own : (was_.core.who == r.by) ≡ false = ap (λ i. i == r.by) (h.who (acting_name w e)) ∙ other in
      let g = node_stays_apart_by_changes r w was_ was_ now_ h.own own k.calm k.effect.changes (record { who = refl; there = there; apart = a }) in
      let no_leader : is_sequencer now_ ≡ true → ⊥ = λ t. (let acts_ = acting_member_promised_its_view now_ (sequencer_acts_by_own_view now_ t).0 in
      other_name_is_not_sequencer now_ r.by (ap (λ (x : Stamp). x.by) (sym acts_.1 ∙ g.apart.promised acts_.0) ∙ h.own) (ap (λ i. i == r.by) g.who ∙ own) t) in
      elsewhere_step r w e s h other none (g.who ∙ h.who (acting_name w e)) (λ here. inl g.apart) (aside_calm r w e s h k (record {
        who = g.who;
        leaves = λ t. absurd (let f = g.apart.stays in cc);
        no_ballot = ap is_unfinished_ballot a.no_ballot;
        begins_none = λ b some next. (let x = g.apart.no_ballot in cc);
        tells = λ t mine. absurd (elim t [
          | leads t ↦ no_leader t
          | decided b number names is answer same ↦ absurd (cc)
        ]);
        no_leader = no_leader;
      }) (sender_with_same_status now_ k.effect.sender k.effect.is k.effect.stays g.there))

  -- a leaver departs, and sends nothing, or goes on
  left_step : IsLeaver r was_ → StepKeeps r w (world_with_step w e (acting_name w e) s) (acting_name w e) s
  left_step a =
      let g = leaver_stays_left_by_changes r w was_ was_ now_ k.calm k.effect.changes (record { who = refl; left = a; promise = inl refl }) in
      elsewhere_step r w e s h other none (g.who ∙ h.who (acting_name w e)) (λ here. inr g.left) (either (step_sends_nothing_or_stays was_ s.letters now_ k.effect.ending there)
      (λ nothing. λ i l there_. absurd (let z = ap (λ ls. slice_get ls i) nothing in cc))
      (λ here. aside_calm r w e s h k (record {
        who = g.who;
        leaves = λ t. g.left.gone;
        no_ballot = a.no_ballot;
        begins_none = λ b some next. not_next was_ now_ g.promise next;
        tells = λ t mine. absurd (g.left.tells t mine);
        no_leader = leads_not_left r now_ g.left;
      }) (sender_of_effect_is_node was_ k.cause s k.effect here)))
    where
      not_next : (m n : Node) → (n.core.promise ≡ m.core.promise) ⊎ ((n.core.promise.by == m.core.who) ≡ false) → n.core.promise ≡ next_stamp m → ⊥
      not_next m n h next = either h
          (λ same. later_round m n m.core.promise refl same next)
          (λ other. let by = ap (λ (u : Stamp). u.by) next in
          let z : ⊥ = grind (arith, nat_tests) in z)

gone_step : (r : Repair) (w : World) (e : Event) (s : StepResult) → Calm r w → (k : StepOfSchedule r w e s) → (acting_name w e == r.by) ≡ false
    → has r.members (acting_name w e) ≡ false → has_departed (w.nodes (acting_name w e)).status ≡ true → StepKeeps r w (world_with_step w e (acting_name w e) s) (acting_name w e) s
gone_step r w e s h k other none gone =
    let still = k.still gone in
    elsewhere_step r w e s h other none (still.who ∙ h.who (acting_name w e)) (λ here. absurd (cc))
    (λ i l there. absurd (let nothing = ap (λ ls. slice_get ls i) still.letters in cc))

-- ---- each event

step_keeps : (rules : Rules) (r : Repair) (w : World) (e : Event) (s : StepResult) → WorldTrimsOnlyTaken rules w → Calm r w → StepOfSchedule r w e s
    → StepKeeps r w (world_with_step w e (acting_name w e) s) (acting_name w e) s
step_keeps rules r w e s laws h k = split_on_bool (acting_name w e == r.by)
    (λ t. leader_step rules r w e s laws h k (eqb-true (acting_name w e) r.by t))
    (λ f. split_on_bool (has r.members (acting_name w e))
    (λ there. member_step r w e s h k f there)
    (λ none. split_on_bool (has_departed (w.nodes (acting_name w e)).status)
    (λ gone. gone_step r w e s h k f none gone)
    (λ here. either (h.apart (acting_name w e) none k.runs here)
    (λ a. apart_step r w e s h k f none here a)
    (λ a. left_step r w e s h k f none here a))))

calm_ours : (rules : Rules) (r : Repair) (w : World) (e : Event) (v : World) → WorldTrimsOnlyTaken rules w → Calm r w → WorldAfterScheduledEvent r w e v → Calm r v
calm_ours rules r w e v laws h (idles o) = calm_unchanged r w e o h
calm_ours rules r w e v laws h (steps s k) = calm_stepped r w e (acting_name w e) s h (step_keeps rules r w e s laws h k)

pub calm_stays_by_scheduled_event : (rules : Rules) (r : Repair) (w : World) (e : Event) → IsOurs r e → WorldTrimsOnlyTaken rules w → Calm r w → Calm r (happens w e)
calm_stays_by_scheduled_event rules r w e is laws h = calm_ours rules r w e (happens w e) laws h (scheduled_event_steps_or_idles r w e is h)

-- ---- what it makes more

ours_grow_by : (rules : Rules) (r : Repair) (w : World) (e : Event) (v : World) → WorldTrimsOnlyTaken rules w → Calm r w → WorldAfterScheduledEvent r w e v → RepairWorldGrows r w v
unfolding world_with_record
ours_grow_by rules r w e v laws h (idles o) = same_grows r w v refl
ours_grow_by rules r w e v laws h (steps s k) = (step_keeps rules r w e s laws h k).grow

pub repair_world_grows_by_event : (rules : Rules) (r : Repair) (w : World) (e : Event) → IsOurs r e → WorldTrimsOnlyTaken rules w → Calm r w → RepairWorldGrows r w (happens w e)
repair_world_grows_by_event rules r w e is laws h = ours_grow_by rules r w e (happens w e) laws h (scheduled_event_steps_or_idles r w e is h)

-- a member whose letter isn't the next entry stores nothing
skip_step : (r : Repair) (w : World) (e : Event) (s : StepResult) (i : ℕ) → Calm r w → (k : StepOfSchedule r w e s) → has r.members i ≡ true → (i == r.by) ≡ false
    → CauseSkipsNumber (top (w.nodes i)) k.cause → top ((world_with_step w e (acting_name w e) s).nodes i) ≡ top (w.nodes i)
skip_step r w e s i h k there other skips = split_on_bool (i == acting_name w e)
    (λ t.
    let name = acting_name w e in
    let m = w.nodes name in
    let same = eqb-true i name t in
    let here = subst (λ j. has r.members j ≡ true) same there in
    let own : (m.core.who == r.by) ≡ false = ap (λ j. j == r.by) (h.who name ∙ sym same) ∙ other in
    let f = h.follows name here (ap (λ j. j == r.by) (sym same) ∙ other) in
    let g = member_follows_on_by_changes r w m m s.node h.own own k.calm k.effect.changes
    (record { who = refl; follows = f; stored = omega arith; taken = omega arith; acc = omega arith; skips = λ x. refl }) in
    let stays = g.skips (subst (λ j. CauseSkipsNumber (top (w.nodes j)) k.cause) same skips) in
    let ch = one_changed w e name s in
    ap (λ j. top ((world_with_step w e name s).nodes j)) same ∙ ap (λ (x : Node). top x) ch.here ∙ stays ∙ ap (λ j. top (w.nodes j)) (sym same))
    (λ f. ap (λ (x : Node). top x) ((one_changed w e (acting_name w e) s).others i f))

ours_skip_by : (r : Repair) (w : World) (e : Event) (v : World) (i : ℕ) → Calm r w → WorldAfterScheduledEvent r w e v → has r.members i ≡ true → (i == r.by) ≡ false
    → ((c : Cause) → IsCause w (acting_name w e) e.act c → CauseSkipsNumber (top (w.nodes i)) c) → top (v.nodes i) ≡ top (w.nodes i)
unfolding world_with_record
ours_skip_by r w e v i h (idles o) there other skips = refl
ours_skip_by r w e v i h (steps s k) there other skips = skip_step r w e s i h k there other (skips k.cause k.is)

pub skipped_cause_keeps_top : (r : Repair) (w : World) (e : Event) (i : ℕ) → IsOurs r e → Calm r w → has r.members i ≡ true → (i == r.by) ≡ false
    → ((c : Cause) → IsCause w (acting_name w e) e.act c → CauseSkipsNumber (top (w.nodes i)) c) → top ((happens w e).nodes i) ≡ top (w.nodes i)
skipped_cause_keeps_top r w e i is h there other skips = ours_skip_by r w e (happens w e) i h (scheduled_event_steps_or_idles r w e is h) there other skips

-- the sequencer goes on to trust what was taken at some time
trust_step : (rules : Rules) (r : Repair) (taken : ℕ → ℕ) (w : World) (e : Event) (s : StepResult) → WorldTrimsOnlyTaken rules w → Calm r w → (k : StepOfSchedule r w e s)
    → CauseTellsTaken r taken k.cause → TrustsReportsTaken r taken (w.nodes r.by) → TrustsReportsTaken r taken ((world_with_step w e (acting_name w e) s).nodes r.by)
trust_step rules r taken w e s laws h k tells t = split_on_bool (acting_name w e == r.by)
    (λ same_.
    let name = acting_name w e in
    let same = eqb-true name r.by same_ in
    let q = w.nodes r.by in
    let c = k.cause in
    let effect = subst (λ i. Effect (w.nodes i) c s) same k.effect in
    let along = subst (λ i. TrimsOnlyTakenAlongStep rules (w.nodes i)) same (each_node_trims_only_taken rules w name (actor_is_below_256 rules w e laws.blanks.base.named) laws) in
    let g = sequencer_goes_on_by_changes rules r taken w q q s.node h.own k.calm tells (heard_stamps_have_names rules w e c laws.blanks.base k.is)
    (heard_welcome_image_is_used rules w e c laws k.is) effect.changes along (record {
      own = h.who r.by;
      leads = h.leads;
      trusts = t;
      grows = log_grows_to_itself q.core.log;
      up = omega arith;
      acc = omega arith;
      kept = λ i there. omega arith;
    }) in
    let node : (world_with_step w e name s).nodes r.by ≡ s.node = ap (λ i. (world_with_step w e name s).nodes i) (sym same) ∙ (one_changed w e name s).here in
    subst (TrustsReportsTaken r taken) (sym node) g.trusts)
    (λ f. subst (TrustsReportsTaken r taken) (sym ((one_changed w e (acting_name w e) s).others r.by (is_other (acting_name w e) r.by f))) t)

ours_trust_by : (rules : Rules) (r : Repair) (taken : ℕ → ℕ) (w : World) (e : Event) (v : World) → WorldTrimsOnlyTaken rules w → Calm r w → WorldAfterScheduledEvent r w e v
    → ((c : Cause) → IsCause w (acting_name w e) e.act c → CauseTellsTaken r taken c) → TrustsReportsTaken r taken (w.nodes r.by) → TrustsReportsTaken r taken (v.nodes r.by)
unfolding world_with_record
ours_trust_by rules r taken w e v laws h (idles o) tells t = t
ours_trust_by rules r taken w e v laws h (steps s k) tells t = trust_step rules r taken w e s laws h k (tells k.cause k.is) t

pub reports_stay_trusted_by_event : (rules : Rules) (r : Repair) (taken : ℕ → ℕ) (w : World) (e : Event) → IsOurs r e → WorldTrimsOnlyTaken rules w → Calm r w
    → ((c : Cause) → IsCause w (acting_name w e) e.act c → CauseTellsTaken r taken c) → TrustsReportsTaken r taken (w.nodes r.by) → TrustsReportsTaken r taken ((happens w e).nodes r.by)
reports_stay_trusted_by_event rules r taken w e is laws h tells t = ours_trust_by rules r taken w e (happens w e) laws h (scheduled_event_steps_or_idles r w e is h) tells t
