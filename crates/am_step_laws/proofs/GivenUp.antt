-- Only stopped names are given up.
use Rattle.am_step_laws.proofs.Words.{◌≡◌, ℕ, ◌==◌, ◌&&◌, ◌||◌, not, Bool, true, List, ◌++◌, Option, Some, None, refl, sym, ap, ◌∙◌, subst, arith, list_any}
use Rattle.am_step_laws.proofs.Words.{nat_tests, list_any-append, Stamp, Outcome, NodeEvent, Leave, Rules, has, stamp_is_less, Act, Event, Node, Ballot, push_entry}
use Rattle.am_step_laws.proofs.Words.{BallotVerdict, overtake_lower_ballot, refresh, refresh_at_end, World, start, current, is_stopped, world_with_record, world_with_step, run, split_on_bool, Cause}
use Rattle.am_step_laws.proofs.Words.{calls, HasOpenBallot, BallotIsLookedAt, with_more, without_one, as_it_is, LooksAtBallot, finds_itself_out, Change, refreshes, settles, promises}
use Rattle.am_step_laws.proofs.Words.{opens, looks, closes, acting_name, IsCall, IsCause, idles, stops, returns, steps, refresh_rests_with_list, end_refresh_rests_with_list, settle_changes_only_sends, changes_keep_property}
use Rattle.am_step_laws.proofs.Words.{EventsKeep, runs_keep_what_events_keep, OnlyStoppedGivenUp}
use Rattle.am_base.specs.declared.event.NodeEvent.TheVariants as does
use Rattle.am_step_laws.specs.Events as event

-- a ballot gives up only such names
abbrev GivesUp : (ℕ → Type 0) → Option Ballot → Type 0
GivesUp S None = Unit {0}
GivesUp S (Some b) = (other : ℕ) → b.given_up other ≡ true → S other

still_overtaken : (S : ℕ → Type 0) (by : Stamp) (ballot : Option Ballot) → GivesUp S ballot → GivesUp S (overtake_lower_ballot by ballot)
still_overtaken S by None h = tt
still_overtaken S by (Some b) h = split_on_bool (not b.is_over && stamp_is_less b.stamp by) (λ t. rw t h) (λ f. rw f h)

-- who is given up by a call has stopped
abbrev Calls : (ℕ → Type 0) → Cause → Type 0
Calls S c = (other : ℕ) → c ≡ calls (does.GiveUp other) → S other

open_gives : (S : ℕ → Type 0) (m : Node) (b : Ballot) → HasOpenBallot m b → GivesUp S m.ballot → GivesUp S (Some b)
open_gives S m b open_ h = subst (GivesUp S) open_.last h

looked_at : (S : ℕ → Type 0) {c : Cause} → Calls S c → (m : Node) (b : Ballot) → BallotIsLookedAt c m b → GivesUp S m.ballot → GivesUp S (Some b)
looked_at S called m b (with_more old s v vote is heard low high open_ same stays) h = open_gives S m old open_ h
looked_at S called m b (as_it_is old open_ on) h = open_gives S m old open_ h
looked_at S called m b (without_one old name is open_ other_) h = λ other up. split_on_bool (other == name)
    (λ t. let same : name ≡ other = grind (arith, nat_tests) in subst S same (called name is))
    (λ f. open_gives S m old open_ h other (rw f at up))

look_gives : (S : ℕ → Type 0) (m : Node) (b : Ballot) (v : BallotVerdict) → LooksAtBallot m b v → GivesUp S (Some b) → GivesUp S v.node.ballot
look_gives S m b v (finds_itself_out x) h = h
look_gives S m b v _ h = h

same_ballot : (S : ℕ → Type 0) (m n : Node) → n.ballot ≡ m.ballot → GivesUp S m.ballot → GivesUp S n.ballot
same_ballot S m n is h = subst (GivesUp S) (sym is) h

abbrev NodeGives : (ℕ → Type 0) → Node → Type 0
NodeGives S m = GivesUp S m.ballot

change_gives : (S : ℕ → Type 0) {c : Cause} {o : Outcome} → Calls S c → (m n : Node) → Change c o m n → NodeGives S m → NodeGives S n
change_gives S called m n refreshes h = same_ballot S m (refresh m) (refresh_rests_with_list m).rests.ballot h
change_gives S called m n settles h = subst (NodeGives S) (sym (settle_changes_only_sends m)) h
change_gives S called m n (promises v low why) h = still_overtaken S v m.ballot h
change_gives S called m n (opens least resilience by may) h = λ other up. absurd (cc)
change_gives S called m n (looks b verdict over why look is) h = look_gives S m b verdict look (looked_at S called m b why h)
change_gives S called m n (closes leads leaves alone room) h =
    same_ballot S m (refresh_at_end (push_entry m (Leave m.core.who))) (end_refresh_rests_with_list (push_entry m (Leave m.core.who))).rests.ballot h
change_gives S called m n _ h = h

-- ---- worlds

record AllGiven (w : World) : Type 0 where
  each : (name : ℕ) → NodeGives (λ other. is_stopped w other ≡ true) (w.nodes name)

any_more : (p : ℕ → Bool) (xs ys : List ℕ) → list_any p xs ≡ true → list_any p (xs ++ ys) ≡ true
any_more p xs ys h = list_any-append p xs ys ∙ ap (λ (b : Bool). b || list_any p ys) h

weaker : (S T : ℕ → Type 0) (ballot : Option Ballot) → ((other : ℕ) → S other → T other) → GivesUp S ballot → GivesUp T ballot
weaker S T None f h = tt
weaker S T (Some b) f h = λ other up. f other (h other up)

call_stopped : (w : World) (a : Act) (ev : NodeEvent) (other : ℕ) → ev ≡ does.GiveUp other → IsCall w a ev → is_stopped w other ≡ true
call_stopped w a ev other is (event.give_up name stopped) = let same : name ≡ other = cc in subst (λ n. is_stopped w n ≡ true) same stopped
call_stopped w a ev other is _ = absurd (cc)

cause_stopped : (w : World) (e : Event) (c : Cause) → IsCause w (acting_name w e) e.act c → Calls (λ other. is_stopped w other ≡ true) c
cause_stopped w e c cause other is = call_stopped w e.act (does.GiveUp other) other refl (subst (IsCause w (acting_name w e) e.act) is cause)

given_stopped : (w v : World) → v.nodes ≡ w.nodes → ((other : ℕ) → is_stopped w other ≡ true → is_stopped v other ≡ true) → AllGiven w → AllGiven v
given_stopped w v nodes more h = record {
  each = rw nodes (λ name. weaker (λ other. is_stopped w other ≡ true) (λ other. is_stopped v other
      ≡ true) (w.nodes name).ballot more (h.each name));
}

each_gives : EventsKeep AllGiven
unfolding world_with_record world_with_step
each_gives w e v (idles o idle) h = given_stopped w v refl (λ other s. s) h
each_gives w e v (stops runs) h = given_stopped w v refl (λ other s. any_more (λ x. x == other) w.stopped _ s) h
each_gives w e v (returns place is left more) h = given_stopped w v refl
    (λ other s. split_on_bool (is_stopped w (current w place)) (λ t. rw t s) (λ f. rw f (any_more (λ x. x == other) w.stopped _ s))) h
each_gives w e v (steps c s runs cause effect) h = record {
  each = λ name. split_on_bool (name == acting_name w e)
      (λ t. rw t (changes_keep_property (NodeGives (λ other. is_stopped w other ≡ true))
      (change_gives (λ other. is_stopped w other ≡ true) (cause_stopped w e c cause)) effect.changes (h.each (acting_name w e))))
      (λ f. rw f (h.each name));
}

given_start : (rules : Rules) → AllGiven (start rules)
given_start rules = record { each = λ name. split_on_bool (has rules.founders name) (λ t. rw t tt) (λ f. rw f tt) }

pub only_stopped_names_given_up : OnlyStoppedGivenUp
only_stopped_names_given_up rules events name other b is up =
    let h = runs_keep_what_events_keep AllGiven each_gives (start rules) events (given_start rules) in
    subst (GivesUp (λ other. is_stopped (run rules events) other ≡ true)) is (h.each name) other up
