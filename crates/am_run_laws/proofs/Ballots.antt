-- What each change keeps of a name's ballot, and each run of all.
use Rattle.am_run_laws.proofs.PromisedWords.{◌≡◌, ℕ, ◌==◌, ◌&&◌, ◌||◌, not, true, false, List, [], ◌∷◌, ◌++◌, Option, Some, None, refl, sym, ap, ◌∙◌, subst, arith}
use Rattle.am_run_laws.proofs.PromisedWords.{list_any, nat_tests, list_any-append, Stamp, Outcome, NodeEvent, stamp_is_less, Rules, has, Act, Node, Ballot, is_member}
use Rattle.am_run_laws.proofs.PromisedWords.{has_log_by_status, BallotVerdict, overtake_lower_ballot, World, start, current, is_stopped, world_with_record, world_with_step, split_on_bool, both_of_and, Cause, calls}
use Rattle.am_run_laws.proofs.PromisedWords.{LooksAtBallot, waits, fetches_from_best, HasOpenBallot, BallotIsLookedAt, with_more, without_one, as_it_is, Change, refreshes}
use Rattle.am_run_laws.proofs.PromisedWords.{settles, begins_list, departs, promises, opens, looks, asks_to_join, closes, acting_name, IsCall, IsCause, idles, stops}
use Rattle.am_run_laws.proofs.PromisedWords.{returns, steps, member_status_has_log, asking_status_has_no_log, welcomed_node_is_asking, refresh_rests_with_list, own_leave_rests, settle_changes_only_sends, changes_keep_property, EventsKeep, runs_keep_what_events_keep, StampIsAtMost}
use Rattle.am_run_laws.proofs.PromisedWords.{IsOfBallot, BallotIsOwn, LastBallotIsSound, BallotsAreOwn}
use Rattle.am_base.specs.declared.event.NodeEvent.TheVariants as does
use Rattle.am_step_laws.specs.Events as event
use Rattle.am_run_laws.proofs.Stamps.{stamp_at_most_itself, stamp_at_most_through_middle}

-- ---- a node

record NodeOk (w : World) (i : ℕ) (x : Node) : Type 0 where
  who : x.core.who ≡ i
  last : LastBallotIsSound w i x.core.promise x.ballot
  blank : has_log_by_status x.status ≡ false → x.ballot ≡ None

same_ballot : (w : World) (i : ℕ) (x y : Node) → y.core.who ≡ x.core.who → y.core.promise ≡ x.core.promise → y.ballot ≡ x.ballot
    → has_log_by_status y.status ≡ has_log_by_status x.status → NodeOk w i x → NodeOk w i y
same_ballot w i x y a b d e h = record {
  who = a ∙ h.who;
  last = subst (λ t. LastBallotIsSound w i y.core.promise t) (sym d) (subst (λ v. LastBallotIsSound w i v x.ballot) (sym b) h.last);
  blank = λ f. d ∙ h.blank (sym e ∙ f);
}

-- only a stopped name is given up
abbrev MayGive : World → Cause → Type 0
MayGive w (calls (does.GiveUp other)) = is_stopped w other ≡ true
MayGive w _ = Unit {0}

open_ok : (w : World) (i : ℕ) (m : Node) (b : Ballot) → HasOpenBallot m b → NodeOk w i m → BallotIsOwn w i m.core.promise b
open_ok w i m b o h = subst (LastBallotIsSound w i m.core.promise) o.last h.last

-- the ballot that is looked at
looked_ok : (w : World) (i : ℕ) (c : Cause) (m : Node) (b : Ballot) → BallotIsLookedAt c m b → MayGive w c → NodeOk w i m → BallotIsOwn w i m.core.promise b
looked_ok w i c m b (with_more old s v vote is heard low high o same stays) g h = assumption (open_ok w i m old o h)
looked_ok w i c m b (as_it_is old o on) g h = open_ok w i m old o h
looked_ok w i c m b (without_one old name is o other) g h =
    let k = open_ok w i m old o h in
    let stopped : is_stopped w name ≡ true = subst (MayGive w) is g in
    let given : (n : ℕ) → b.given_up n ≡ true → is_stopped w n ≡ true = λ n t. split_on_bool (n == name)
    (λ e. let same : name ≡ n = grind (arith, nat_tests) in subst (λ x. is_stopped w x ≡ true) same stopped)
    (λ f. k.given n (rw f at t)) in
    assumption (given, k)

ended : (w : World) (i : ℕ) (promise : Stamp) (b : Ballot) (o : Outcome) → IsOfBallot o → BallotIsOwn w i promise b
    → BallotIsOwn w i promise (record b { answer = o; is_over = true })
ended w i promise b o a h = record { own = h.own; low = λ f. absurd (cc); high = λ f. absurd (cc); given = h.given; answer = a }

going : (w : World) (i : ℕ) (promise : Stamp) (b : Ballot) (o : Outcome) → b.is_over ≡ false → IsOfBallot o → BallotIsOwn w i promise b
    → BallotIsOwn w i promise (record b { answer = o; is_over = false })
going w i promise b o over a h = record { own = h.own; low = λ f. h.low over; high = λ f. h.high over; given = h.given; answer = a }

verdict_ok : (w : World) (i : ℕ) (m : Node) (b : Ballot) (v : BallotVerdict) → LooksAtBallot m b v → b.is_over ≡ false → has_log_by_status m.status ≡ true
    → BallotIsOwn w i m.core.promise b → m.core.who ≡ i → NodeOk w i v.node
verdict_ok w i m b v (waits x y) over log h who = record { who = who; last = going w i m.core.promise b _ over tt h; blank = λ f. absurd (cc) }
verdict_ok w i m b v (fetches_from_best x y z) over log h who = record { who = who; last = going w i m.core.promise b _ over tt h; blank = λ f. absurd (cc) }
verdict_ok w i m b v _ over log h who = record { who = who; last = ended w i m.core.promise b _ tt h; blank = λ f. absurd (cc) }

-- a ballot is of who has a list
balloted : (c : Cause) (m : Node) (b : Ballot) → BallotIsLookedAt c m b → m.ballot ≡ None → ⊥
balloted c m b (with_more old s v vote is heard low high o same stays) z = let y = o.last in absurd (cc)
balloted c m b (without_one old name is o other) z = let y = o.last in absurd (cc)
balloted c m b (as_it_is old o on) z = let y = o.last in absurd (cc)

balloting_log : (w : World) (i : ℕ) (c : Cause) (m : Node) (b : Ballot) → BallotIsLookedAt c m b → NodeOk w i m → has_log_by_status m.status ≡ true
balloting_log w i c m b why h = split_on_bool (has_log_by_status m.status) (λ t. t) (λ f. absurd (balloted c m b why (h.blank f)))

overtaken_ok : (w : World) (i : ℕ) (promise v : Stamp) (b : Option Ballot) → StampIsAtMost promise v → LastBallotIsSound w i promise b → LastBallotIsSound w i v (overtake_lower_ballot v b)
overtaken_ok w i promise v None low h = tt
overtaken_ok w i promise v (Some b) low h = split_on_bool (not b.is_over && stamp_is_less b.stamp v)
    (λ t. rw t (record { own = h.own; low = λ f. absurd (cc); high = λ f. absurd (cc); given = h.given; answer = tt }))
    (λ n.
    let low_ : b.is_over ≡ false → StampIsAtMost b.stamp v = λ f. stamp_at_most_through_middle b.stamp promise v (h.low f) low in
    let high_ : b.is_over ≡ false → StampIsAtMost v b.stamp = λ f. (let x : stamp_is_less b.stamp v ≡ false = grind arith in x) in
    rw n (assumption (low_, high_)))

ballot_change : (w : World) (i : ℕ) (c : Cause) (o : Outcome) (m n : Node) → MayGive w c → Change c o m n → NodeOk w i m → NodeOk w i n
ballot_change w i c o m n g refreshes h = let r = (refresh_rests_with_list m).rests in same_ballot w i m n r.who r.promise r.ballot (ap has_log_by_status r.status) h
ballot_change w i c o m n g settles h = subst (NodeOk w i) (sym (settle_changes_only_sends m)) (same_ballot w i m _ refl refl refl refl h)
ballot_change w i c o m n g (begins_list s v base join image is says may) h =
    let none = h.blank (asking_status_has_no_log m.status (welcomed_node_is_asking m s v base join image may)) in
    record { who = h.who; last = subst (LastBallotIsSound w i v) (sym none) tt; blank = λ f. absurd (cc) }
ballot_change w i c o m n g (departs s v number is heard leaves) h =
    same_ballot w i m n refl refl refl (sym (member_status_has_log m.status (both_of_and (not (s == m.core.who)) (is_member m.status) heard).1)) h
ballot_change w i c o m n g (promises v low why) h = record {
  who = h.who;
  last = overtaken_ok w i m.core.promise v m.ballot low h.last;
  blank = λ f. (ap (overtake_lower_ballot v) (h.blank f));
}
ballot_change w i c o m n g (opens least resilience by may) h = record {
  who = h.who;
  last = record { own = h.who; low = λ f. stamp_at_most_itself n.core.promise; high = λ f. stamp_at_most_itself n.core.promise; given = λ name t. absurd (cc); answer = tt };
  blank = λ f. (let t = member_status_has_log m.status may.member in absurd (cc));
}
ballot_change w i c o m n g (looks b verdict over why look is) h =
    verdict_ok w i m b verdict look over (balloting_log w i c m b why h) (looked_ok w i c m b why g h) h.who
ballot_change w i c o m n g (asks_to_join is was) h = same_ballot w i m n refl refl refl (sym (ap has_log_by_status was)) h
ballot_change w i c o m n g (closes leads leaves last room) h =
    let r = own_leave_rests m in
    same_ballot w i m n r.who r.promise r.ballot (sym (member_status_has_log m.status (both_of_and (is_member m.status) _ (both_of_and _ _ leads).0).0)) h
ballot_change w i c o m n g _ h = same_ballot w i m n refl refl refl refl h

-- ---- runs

record AllOk (w : World) : Type 0 where
  each : (i : ℕ) → NodeOk w i (w.nodes i)

-- whoever stopped stays so
more_stopped : (w v : World) (i : ℕ) (x : Node) → ((name : ℕ) → is_stopped w name ≡ true → is_stopped v name ≡ true) → NodeOk w i x → NodeOk v i x
more_stopped w v i x up h = record { who = h.who; last = last x.ballot h.last; blank = h.blank }
  where
    last : (b : Option Ballot) → LastBallotIsSound w i x.core.promise b → LastBallotIsSound v i x.core.promise b
    last None k = tt
    last (Some b) k = record { own = k.own; low = k.low; high = k.high; given = λ name t. up name (k.given name t); answer = k.answer }

still_stopped : (stopped : List ℕ) (more name : ℕ) → list_any (λ x. x == name) stopped ≡ true → list_any (λ x. x == name) (stopped ++ more ∷ []) ≡ true
still_stopped stopped more name t = list_any-append (λ x. x == name) stopped (more ∷ []) ∙ ap (λ b. b || list_any (λ x. x == name) (more ∷ [])) t

may_give : (w : World) (a : Act) (ev : NodeEvent) → IsCall w a ev → MayGive w (calls ev)
may_give w a ev (event.give_up other stopped) = stopped
may_give w a ev _ = tt

cause_gives : (w : World) (i : ℕ) (a : Act) (c : Cause) → IsCause w i a c → MayGive w c
cause_gives w i a (calls ev) is = may_give w a ev is
cause_gives w i a _ is = tt

each_keeps : EventsKeep AllOk
unfolding world_with_record world_with_step
each_keeps w e v (idles o idle) h = record { each = λ i. more_stopped w v i (w.nodes i) (λ name t. t) (h.each i) }
each_keeps w e v (stops runs) h = record { each = λ i. more_stopped w v i (w.nodes i) (λ name t. still_stopped w.stopped (acting_name w e) name t) (h.each i) }
each_keeps w e v (returns place is gone more) h = record {
  each = λ i. more_stopped w v i (w.nodes i) (λ name t. split_on_bool (is_stopped w (current w place)) (λ a. rw a t)
      (λ a. rw a (still_stopped w.stopped (current w place) name t))) (h.each i);
}
each_keeps w e v (steps c s runs cause effect) h =
    let i = acting_name w e in
    let n = changes_keep_property (NodeOk w i) (λ x y. ballot_change w i c s.outcome x y (cause_gives w i e.act c cause)) effect.changes (h.each i) in
    record {
      each = λ j. split_on_bool (j == i)
          (λ t. let same : i ≡ j = grind (arith, nat_tests) in rw t (subst (λ k. NodeOk v k s.node) same (more_stopped w v i s.node (λ name x. x) n)))
          (λ f. rw f (more_stopped w v j (w.nodes j) (λ name x. x) (h.each j)));
    }

start_ok : (rules : Rules) → AllOk (start rules)
start_ok rules = record {
  each = λ i. split_on_bool (has rules.founders i) (λ t. rw t (record { who = refl; last = tt; blank = λ f. refl }))
      (λ f. rw f (record { who = refl; last = tt; blank = λ g. refl }));
}

pub ballots_are_of_own_names : BallotsAreOwn
ballots_are_of_own_names rules events may =
    let h = runs_keep_what_events_keep AllOk each_keeps (start rules) events (start_ok rules) in
    record { each = λ i. (h.each i).last; blank = λ i. (h.each i).blank }
