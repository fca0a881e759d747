-- The events of exchanges make of a run's two nodes what the exchanges make of them.
use Rattle.am_fetch_runs.proofs.Words.{◌≡◌, ℕ, zero, suc, ◌+◌, ◌-◌, ◌==◌, true, false, List, [], ◌∷◌, ◌++◌, length, slice_get, Some, refl, sym, ap, ◌∙◌, subst, arith, nat_tests}
use Rattle.am_fetch_runs.proofs.Words.{split_on_bool, eqb-true, Event, Node, World, run, is_stopped, names_hold_in_runs}
use Rattle.std.proofs.Common.{append_assoc, append-nil}
use Rattle.std.proofs.lemmas.Bool.{eq-eqb}
use Rattle.std.proofs.lemmas.List.{length-append}
use Rattle.am_base.specs.Names.{place_of_name}
use Rattle.am_base.specs.declared.event.NodeEvent.TheVariants as does
use Rattle.am_base.specs.declared.outcome.Outcome.TheVariants as said
use Rattle.am_packet.specs.declared.packet.Packet.{Packet}
use Rattle.am_packet.specs.Boxes.{Letter}
use Rattle.am_group.specs.Addressed.{is_for}
use Rattle.am_group.specs.Journals.{letter_at}
use Rattle.am_group.specs.declared.event.Act.TheVariants as act
use Rattle.am_group_defs.specs.Settle.{event_at}
use Rattle.am_group_defs.specs.World.{current, world_after_hearing, world_after_node_event, start}
unfoldable use Rattle.am_group_defs.specs.World.{happens, world_after_events, world_with_step, world_with_record}
use Rattle.am_group_defs.proofs.Runs.{runs_go_on}
unfoldable use Rattle.am_model.specs.Step.{step, hear_packet}
use Rattle.am_model.specs.Emit.{StepResult}
use Rattle.am_step_laws.proofs.Words.{slice_get_of_front, changes_keep_property}
use Rattle.am_step_laws.proofs.Named.{HasThisName, change_keeps_name}
use Rattle.am_step_laws.proofs.Hearing.{steps_have_effects, hearing_has_effects}
use Rattle.am_group.proofs.Places.{slice_get_of_append_back}
use Rattle.am_fetch_laws.specs.Exchanges.{TwoNodes, ActsInViewOf}
use Rattle.am_fetch_runs.proofs.Lagging.{lagger_is_another, laggers_reach_view}
unfoldable use Rattle.am_fetch_laws.specs.Exchanges.{hear_letters, exchanges}
use Rattle.am_fetch_runs.specs.Events.{hears_new, tick_of, asked, served, exchange_events, LaggersReachViewInRuns}
unfoldable use Rattle.am_fetch_runs.specs.Events.{hears_from, events_of_exchanges}

-- ---- who does events

-- a current name that runs, under its name
pub record IsThereNow (w : World) (i : ℕ) : Type 0 where
  pub now : current w (place_of_name i) ≡ i
  pub runs : is_stopped w i ≡ false
  pub who : (w.nodes i).core.who ≡ i

hearing_keeps_name : (m : Node) (p : Packet) → (hear_packet m p).node.core.who ≡ m.core.who
hearing_keeps_name m p = changes_keep_property (HasThisName m.core.who) (change_keeps_name m.core.who) (hearing_has_effects m p).changes refl

tick_keeps_name : (m : Node) → (step m does.Tick).node.core.who ≡ m.core.who
tick_keeps_name m = changes_keep_property (HasThisName m.core.who) (change_keeps_name m.core.who) (steps_have_effects m does.Tick).changes refl

pub place_is_of_its_name : (w : World) (i : ℕ) → IsThereNow w i → current w (place_of_name (place_of_name i)) ≡ i
place_is_of_its_name w i h = let same : place_of_name (place_of_name i) ≡ place_of_name i = omega arith in ap (current w) same ∙ h.now

-- ---- what an event changes

-- one node and the letters alone
pub record OneMoved (u v : World) (i : ℕ) (n : Node) (more : List Letter) : Type 0 where
  pub node : v.nodes i ≡ n
  pub others : (j : ℕ) → (j == i) ≡ false → v.nodes j ≡ u.nodes j
  pub letters : v.letters ≡ u.letters ++ more
  pub lives : v.lives ≡ u.lives
  pub stopped : v.stopped ≡ u.stopped

pub stepped : (u : World) (e : Event) (i : ℕ) (s : StepResult) → OneMoved u (world_with_step u e i s) i s.node s.letters
unfolding world_with_step
stepped u e i s = record {
  node = (let t = eq-eqb i i refl in rw t refl);
  others = λ j f. rw f refl;
  letters = refl;
  lives = refl;
  stopped = refl;
}

recorded : (u : World) (e : Event) (i : ℕ) → OneMoved u (world_with_record u e said.NotAddressed) i (u.nodes i) []
unfolding world_with_record
recorded u e i = record { node = refl; others = λ j f. refl; letters = sym (append-nil u.letters); lives = refl; stopped = refl }

moved_in_turn : (u v x : World) (i : ℕ) (n m : Node) (more further : List Letter) → OneMoved u v i n more → OneMoved v x i m further → OneMoved u x i m (more ++ further)
moved_in_turn u v x i n m more further a b = record {
  node = b.node;
  others = λ j f. b.others j f ∙ a.others j f;
  letters = b.letters ∙ ap (λ ls. ls ++ further) a.letters ∙ append_assoc u.letters more further;
  lives = b.lives ∙ a.lives;
  stopped = b.stopped ∙ a.stopped;
}

-- who is there stays there
pub there_after : (u v : World) (i j : ℕ) (n : Node) (more : List Letter) → OneMoved u v i n more → n.core.who ≡ i → IsThereNow u j → IsThereNow v j
there_after u v i j n more a mine h = record {
  now = ap (λ (f : ℕ → ℕ). current (record u { lives = f }) (place_of_name j)) a.lives ∙ h.now;
  runs = ap (λ (xs : List ℕ). is_stopped (record u { stopped = xs }) j) a.stopped ∙ h.runs;
  who = split_on_bool (j == i)
      (λ t. let same = eqb-true j i t in ap (λ k. (v.nodes k).core.who) same ∙ ap (λ (x : Node). x.core.who) a.node ∙ mine ∙ sym same)
      (λ f. ap (λ (x : Node). x.core.who) (a.others j f) ∙ h.who);
}

-- ---- letters in turn

letter_in_front : (xs ys : List Letter) (k : ℕ) (l : Letter) → letter_at xs k ≡ Some l → letter_at (xs ++ ys) k ≡ Some l
letter_in_front xs ys zero l there = absurd (cc)
letter_in_front xs ys (suc before) l there = slice_get_of_front xs ys before l there

letter_behind : (xs ys : List Letter) (j : ℕ) (l : Letter) → slice_get ys j ≡ Some l → letter_at (xs ++ ys) (length xs + 1 + j) ≡ Some l
letter_behind xs ys j l there =
    let at : length xs + 1 + j ≡ suc (length xs + j) = omega arith in
    ap (letter_at (xs ++ ys)) at ∙ slice_get_of_append_back xs ys j ∙ there

-- these letters were sent, from a number on
Sent : World → ℕ → List Letter → Type 0
Sent w number ls = (j : ℕ) (l : Letter) → slice_get ls j ≡ Some l → letter_at w.letters (number + j) ≡ Some l

-- what a name's hearing of a letter comes to
hearing_happens : (u : World) (i k : ℕ) (l : Letter) → IsThereNow u i → letter_at u.letters k ≡ Some l
    → (let e = event_at (place_of_name i) (act.Hear k) in happens u e ≡ world_after_hearing u e i (hear_packet (u.nodes i)) (Some l))
unfolding happens
hearing_happens u i k l h there =
    let e = event_at (place_of_name i) (act.Hear k) in
    ap (λ x. world_after_hearing u e x (hear_packet (u.nodes x)) (letter_at u.letters k)) (place_is_of_its_name u i h)
    ∙ ap (world_after_hearing u e i (hear_packet (u.nodes i))) there

letters_are_heard : (ls : List Letter) (u : World) (i number : ℕ) → IsThereNow u i → Sent u number ls
    → OneMoved u (world_after_events u (hears_from (place_of_name i) number (length ls))) i (hear_letters (u.nodes i) ls).node (hear_letters (u.nodes i) ls).letters
unfolding hears_from world_after_events hear_letters Sent
letters_are_heard [] u i number h sent = record { node = refl; others = λ j f. refl; letters = sym (append-nil u.letters); lives = refl; stopped = refl }
letters_are_heard (l ∷ ls) u i number h sent =
    let e = event_at (place_of_name i) (act.Hear number) in
    let m = u.nodes i in
    let s = hear_packet m l.packet in
    let at : number + 0 ≡ number = omega arith in
    let there : letter_at u.letters number ≡ Some l = ap (letter_at u.letters) (sym at) ∙ sent 0 l refl in
    let is = hearing_happens u i number l h there in
    let v = happens u e in
    split_on_bool (is_for l i)
    (λ t.
    let heard : v ≡ world_with_step u e i s = is ∙ rw (t, h.runs) refl in
    let one : OneMoved u v i s.node s.letters = subst (λ (x : World). OneMoved u x i s.node s.letters) (sym heard) (stepped u e i s) in
    let mine : s.node.core.who ≡ i = hearing_keeps_name m l.packet ∙ h.who in
    let rest = letters_are_heard ls v i (number + 1) (there_after u v i i s.node s.letters one mine h)
    (λ j x later. ap (λ ks. letter_at ks (number + 1 + j)) one.letters ∙ letter_in_front u.letters s.letters (number + 1 + j) x (ap (letter_at u.letters) (next number j) ∙ sent (suc j) x later)) in
    let meant : is_for l m.core.who ≡ true = ap (is_for l) h.who ∙ t in
    let same = one.node in
    rw meant (subst (λ (n : Node). OneMoved u (world_after_events v (hears_from (place_of_name i) (number + 1) (length ls))) i (hear_letters n ls).node (s.letters ++ (hear_letters n ls).letters))
    same (moved_in_turn u v _ i s.node (hear_letters (v.nodes i) ls).node s.letters (hear_letters (v.nodes i) ls).letters one rest)))
    (λ f.
    let heard : v ≡ world_with_record u e said.NotAddressed = is ∙ rw f refl in
    let one : OneMoved u v i m [] = subst (λ (x : World). OneMoved u x i m []) (sym heard) (recorded u e i) in
    let rest = letters_are_heard ls v i (number + 1) (there_after u v i i m [] one h.who h)
    (λ j x later. ap (λ ks. letter_at ks (number + 1 + j)) (one.letters ∙ append-nil u.letters) ∙ (ap (letter_at u.letters) (next number j) ∙ sent (suc j) x later)) in
    let meant : is_for l m.core.who ≡ false = ap (is_for l) h.who ∙ f in
    rw meant (subst (λ (n : Node). OneMoved u (world_after_events v (hears_from (place_of_name i) (number + 1) (length ls))) i (hear_letters n ls).node (hear_letters n ls).letters)
    one.node (moved_in_turn u v _ i m (hear_letters (v.nodes i) ls).node [] (hear_letters (v.nodes i) ls).letters one rest)))
  where
    next : (number j : ℕ) → number + 1 + j ≡ number + suc j
    next number j = omega arith

-- all that a step or more sent
new_letters_are_heard : (u v : World) (i j : ℕ) (n : Node) (more : List Letter) → OneMoved u v j n more → IsThereNow v i
    → OneMoved v (world_after_events v (hears_new v (place_of_name i) (length u.letters))) i (hear_letters (v.nodes i) more).node (hear_letters (v.nodes i) more).letters
unfolding Sent
new_letters_are_heard u v i j n more one h =
    let many : length v.letters - length u.letters ≡ length more = (let a = ap length one.letters in let b = length-append u.letters more in omega arith) in
    subst (λ k. OneMoved v (world_after_events v (hears_from (place_of_name i) (length u.letters + 1) k)) i (hear_letters (v.nodes i) more).node (hear_letters (v.nodes i) more).letters)
    (sym many) (letters_are_heard more v i (length u.letters + 1) h
    (λ k l there. ap (λ ls. letter_at ls (length u.letters + 1 + k)) one.letters ∙ letter_behind u.letters more k l there))

hear_letters_keep_name : (m : Node) (ls : List Letter) → (hear_letters m ls).node.core.who ≡ m.core.who
unfolding hear_letters
hear_letters_keep_name m [] = refl
hear_letters_keep_name m (l ∷ ls) = split_on_bool (is_for l m.core.who)
    (λ t. rw t (hear_letters_keep_name (hear_packet m l.packet).node ls ∙ hearing_keeps_name m l.packet))
    (λ f. rw f (hear_letters_keep_name m ls))

-- ---- an exchange

pub record BothAreThere (w : World) (q name : ℕ) : Type 0 where
  pub leader : IsThereNow w q
  pub lagger : IsThereNow w name
  pub differ : (q == name) ≡ false

abbrev pub two_of : World → ℕ → ℕ → TwoNodes
two_of w q name = record { sequencer = w.nodes q; member_ = w.nodes name }

pub differs_back : (a b : ℕ) → (a == b) ≡ false → (b == a) ≡ false
differs_back a b f = grind (arith, nat_tests)

tick_happens : (w : World) (i : ℕ) → IsThereNow w i → world_after_events w (tick_of i) ≡ world_with_step w (event_at (place_of_name i) act.Tick) i (step (w.nodes i) does.Tick)
unfolding happens world_after_events
tick_happens w i h =
    let e = event_at (place_of_name i) act.Tick in
    let runs = h.runs in
    ap (λ x. world_after_node_event w e x does.Tick) (place_is_of_its_name w i h) ∙ rw runs refl

-- so many exchanges have come about: the two nodes, and nothing else but letters and records
pub record ExchangedSoOften (n : ℕ) (w v : World) (q name : ℕ) : Type 0 where
  pub both : BothAreThere v q name
  pub two : two_of v q name ≡ exchanges n (two_of w q name)
  pub others : (j : ℕ) → (j == q) ≡ false → (j == name) ≡ false → v.nodes j ≡ w.nodes j
  pub lives : v.lives ≡ w.lives
  pub stopped : v.stopped ≡ w.stopped

exchange_happens : (w : World) (q name : ℕ) → BothAreThere w q name → ExchangedSoOften 1 w (world_after_events w (exchange_events w q name)) q name
unfolding exchanges
exchange_happens w q name h =
    let m = w.nodes name in
    let e = event_at (place_of_name name) act.Tick in
    let s = step m does.Tick in
    let w1 = asked w name in
    let other = differs_back q name h.differ in
    let first : OneMoved w w1 name s.node s.letters = subst (λ (x : World). OneMoved w x name s.node s.letters) (sym (tick_happens w name h.lagger)) (stepped w e name s) in
    let mine1 : s.node.core.who ≡ name = tick_keeps_name m ∙ h.lagger.who in
    let q1 = there_after w w1 name q s.node s.letters first mine1 h.leader in
    let m1 = there_after w w1 name name s.node s.letters first mine1 h.lagger in
    let same_q : w1.nodes q ≡ w.nodes q = first.others q h.differ in
    let second = new_letters_are_heard w w1 q name s.node s.letters first q1 in
    let w2 = served w q name in
    let n2 = hear_letters (w1.nodes q) s.letters in
    let mine2 : n2.node.core.who ≡ q = hear_letters_keep_name (w1.nodes q) s.letters ∙ q1.who in
    let q2 = there_after w1 w2 q q n2.node n2.letters second mine2 q1 in
    let m2 = there_after w1 w2 q name n2.node n2.letters second mine2 m1 in
    let third = new_letters_are_heard w1 w2 name q n2.node n2.letters second m2 in
    let w3 = world_after_events w2 (hears_new w2 (place_of_name name) (length w1.letters)) in
    let n3 = hear_letters (w2.nodes name) n2.letters in
    let mine3 : n3.node.core.who ≡ name = hear_letters_keep_name (w2.nodes name) n2.letters ∙ m2.who in
    let whole : world_after_events w (exchange_events w q name) ≡ w3 =
    runs_go_on w (tick_of name) (hears_new w1 (place_of_name q) (length w.letters) ++ hears_new w2 (place_of_name name) (length w1.letters))
    ∙ runs_go_on w1 (hears_new w1 (place_of_name q) (length w.letters)) (hears_new w2 (place_of_name name) (length w1.letters)) in
    let at_q : w3.nodes q ≡ (hear_letters (w.nodes q) s.letters).node = third.others q h.differ ∙ second.node ∙ ap (λ (x : Node). (hear_letters x s.letters).node) same_q in
    let at_m : w2.nodes name ≡ s.node = second.others name other ∙ first.node in
    let said_ : n2.letters ≡ (hear_letters (w.nodes q) s.letters).letters = ap (λ (x : Node). (hear_letters x s.letters).letters) same_q in
    let at_name : w3.nodes name ≡ (hear_letters s.node (hear_letters (w.nodes q) s.letters).letters).node = third.node ∙ (λ i. (hear_letters (at_m i) (said_ i)).node) in
    subst (λ (x : World). ExchangedSoOften 1 w x q name) (sym whole) (record {
      both = record {
        leader = there_after w2 w3 name q n3.node n3.letters third mine3 q2;
        lagger = there_after w2 w3 name name n3.node n3.letters third mine3 m2;
        differ = h.differ;
      };
      two = λ i. record { sequencer = at_q i; member_ = at_name i };
      others = λ j f g. third.others j g ∙ second.others j f ∙ first.others j g;
      lives = third.lives ∙ second.lives ∙ first.lives;
      stopped = third.stopped ∙ second.stopped ∙ first.stopped;
    })

pub exchanges_happen : (n : ℕ) (w : World) (q name : ℕ) → BothAreThere w q name → ExchangedSoOften n w (world_after_events w (events_of_exchanges n w q name)) q name
unfolding events_of_exchanges exchanges world_after_events
exchanges_happen zero w q name h = record { both = h; two = refl; others = λ j f g. refl; lives = refl; stopped = refl }
exchanges_happen (suc left) w q name h =
    let v = world_after_events w (exchange_events w q name) in
    let x = exchange_happens w q name h in
    let y = exchanges_happen left v q name x.both in
    subst (λ (u : World). ExchangedSoOften (suc left) w u q name) (sym (runs_go_on w (exchange_events w q name) (events_of_exchanges left v q name))) (record {
      both = y.both;
      two = y.two ∙ ap (exchanges left) x.two;
      others = λ j f g. y.others j f g ∙ x.others j f g;
      lives = y.lives ∙ x.lives;
      stopped = y.stopped ∙ x.stopped;
    })

pub laggers_reach_view_in_runs : LaggersReachViewInRuns
laggers_reach_view_in_runs rules events q name many may lawful lag now_q now_name far =
    let w = run rules events in
    let who = (names_hold_in_runs rules events may).who in
    let reach = laggers_reach_view rules events q name many may lawful lag far in
    let h : BothAreThere w q name = record {
      leader = record { now = now_q; runs = lag.among.leader_runs; who = who q };
      lagger = record { now = now_name; runs = lag.among.runs; who = who name };
      differ = lagger_is_another w q name lag;
    } in
    let is : (run rules (events ++ events_of_exchanges reach.0 w q name)).nodes name ≡ (exchanges reach.0 (two_of w q name)).member_ =
    ap (λ (u : World). u.nodes name) (runs_go_on (start rules) events (events_of_exchanges reach.0 w q name)) ∙ ap (λ (t : TwoNodes). t.member_) (exchanges_happen reach.0 w q name h).two in
    (reach.0, reach.1, subst (λ (x : Node). ActsInViewOf (w.nodes q) x) (sym is) reach.2)
