-- Which name each node has, and which nodes nobody has been yet.
use Rattle.am_step_laws.proofs.Words.{◌≡◌, ℕ, ◌+◌, ◌<◌, ◌≤◌, ◌==◌, Bool, false, if◌then◌else◌, List, slice_index, refl, sym, ap, ◌∙◌, subst, arith, All, nat_tests}
use Rattle.am_step_laws.proofs.Words.{All-nil, All-append, All-weaker, Outcome, Leave, Rules, MayFound, place_of_name, life_of_name, has, Packet, Letter, Event, Node}
use Rattle.am_step_laws.proofs.Words.{Ballot, push_entry, map_with_value, stranger_node, BallotVerdict, StepResult, World, start, first_node, world_with_record, world_with_step, run, split_on_bool, Cause}
use Rattle.am_step_laws.proofs.Words.{LooksAtBallot, finds_itself_out, Says, request, LetterSays, Change, refreshes, settles, looks, closes, Effect, acting_name, idles, stops}
use Rattle.am_step_laws.proofs.Words.{returns, steps, all_gives_item_at, refresh_rests_with_list, end_refresh_rests_with_list, settle_changes_only_sends, changes_keep_property, EventsKeep, runs_keep_what_events_keep, sender_of, RunsKeepNames}

-- ---- a node keeps its name

abbrev pub HasThisName : ℕ → Node → Type 0
HasThisName name m = m.core.who ≡ name

look_named : (name : ℕ) (m : Node) (b : Ballot) (v : BallotVerdict) → LooksAtBallot m b v → HasThisName name m → HasThisName name v.node
look_named name m b v (finds_itself_out x) h = h
look_named name m b v _ h = h

pub change_keeps_name : (name : ℕ) {c : Cause} {o : Outcome} (m n : Node) → Change c o m n → HasThisName name m → HasThisName name n
change_keeps_name name m n refreshes h = (refresh_rests_with_list m).rests.who ∙ h
change_keeps_name name m n settles h = ap (λ (x : Node). x.core.who) (settle_changes_only_sends m) ∙ h
change_keeps_name name m n (looks b verdict over why look is) h = look_named name m b verdict look h
change_keeps_name name m n (closes leads leaves alone room) h = (end_refresh_rests_with_list (push_entry m (Leave m.core.who))).rests.who ∙ h
change_keeps_name name m n _ h = h

-- and its letters have it
says_named : (m n : Node) (c : Cause) (to : List ℕ) (p : Packet) → Says m c n to p → sender_of p ≡ n.core.who
says_named m n c to p (request _ req body a f s) = refl
says_named m n c to p _ = refl

-- ---- worlds

abbrev SentByName : Letter → Type 0
SentByName letter = sender_of letter.packet < 256

pub record NodesHaveTheirNames (rules : Rules) (w : World) : Type 0 where
  pub who : (name : ℕ) → HasThisName name (w.nodes name)
  pub least : (place : ℕ) → 0 < w.lives place
  pub most : (place : ℕ) → w.lives place ≤ 16
  pub senders : All SentByName w.letters
  pub unborn : (name : ℕ) → w.lives (place_of_name name) < life_of_name name → w.nodes name ≡ stranger_node rules name

-- a current name is one of the 256
pub actor_is_below_256 : (rules : Rules) (w : World) (e : Event) → NodesHaveTheirNames rules w → acting_name w e < 256
actor_is_below_256 rules w e h = let a = h.least (place_of_name e.node) in let b = h.most (place_of_name e.node) in omega arith

-- and its life has begun
actor_born : (rules : Rules) (w : World) (e : Event) → NodesHaveTheirNames rules w → w.lives (place_of_name (acting_name w e)) < life_of_name (acting_name w e) → ⊥
actor_born rules w e h low =
    let life = w.lives (place_of_name e.node) in
    let a = h.least (place_of_name e.node) in
    let p : place_of_name (acting_name w e) ≡ place_of_name e.node = omega arith in
    let l : life_of_name (acting_name w e) ≡ life = omega arith in
    let q : w.lives (place_of_name (acting_name w e)) ≡ life = ap w.lives p in
    omega arith

named_step : (rules : Rules) (w : World) (e : Event) (c : Cause) (s : StepResult) → Effect (w.nodes (acting_name w e)) c s → NodesHaveTheirNames rules w
    → NodesHaveTheirNames rules (world_with_step w e (acting_name w e) s)
unfolding world_with_step
named_step rules w e c s effect h =
    let name = acting_name w e in
    let who = changes_keep_property (HasThisName name) (change_keeps_name name) effect.changes (h.who name) in
    let sender : effect.sender.core.who ≡ name = sym (ap (λ (x : Node). x.core.who) effect.is) ∙ who in
    let few = actor_is_below_256 rules w e h in
    record {
      who = λ other. split_on_bool (other == name)
          (λ t. let same : name ≡ other = grind (arith, nat_tests) in rw t (who ∙ same))
          (λ f. rw f (h.who other));
      least = h.least;
      most = h.most;
      senders = All-append SentByName w.letters s.letters h.senders
          (All-weaker (LetterSays (w.nodes name) c effect.sender) SentByName (λ l x. let is = says_named (w.nodes name) effect.sender c l.to l.packet x.says in
          omega arith) s.letters effect.letters);
      unborn = λ other low. split_on_bool (other == name)
          (λ t. absurd (let same : other ≡ name = grind (arith, nat_tests) in actor_born rules w e h (subst (λ n. w.lives (place_of_name n) < life_of_name n) same low)))
          (λ f. rw f (h.unborn other low));
    }

-- one life more
named_lives : (rules : Rules) (w : World) (place : ℕ) → (w.lives place == 16) ≡ false → (v : World) → v.nodes ≡ w.nodes → v.letters ≡ w.letters
    → v.lives ≡ map_with_value w.lives place (w.lives place + 1) → NodesHaveTheirNames rules w → NodesHaveTheirNames rules v
named_lives rules w place more v nodes letters lives h =
    let old = h.most place in
    let few : w.lives place + 1 ≤ 16 = grind (arith, nat_tests) in
    let at : (k : ℕ) → v.lives k ≡ map_with_value w.lives place (w.lives place + 1) k = λ k. ap (λ f. f k) lives in
    let grows : (k : ℕ) → w.lives k ≤ v.lives k = λ k. split_on_bool (k == place)
    (λ t. let same : k ≡ place = grind (arith, nat_tests) in
    let e : v.lives k ≡ w.lives place + 1 = at k ∙ ap (λ (b : Bool). if b then w.lives place + 1 else w.lives k) t in let q = ap w.lives same in
    omega arith)
    (λ f. let e : v.lives k ≡ w.lives k = at k ∙ ap (λ (b : Bool). if b then w.lives place + 1 else w.lives k) f in omega arith) in
    record {
      who = rw nodes h.who;
      least = λ k. let a = h.least k in let b = grows k in omega arith;
      most = λ k. split_on_bool (k == place)
          (λ t. let e : v.lives k ≡ w.lives place + 1 = at k ∙ ap (λ (b : Bool). if b then w.lives place + 1 else w.lives k) t in omega arith)
          (λ f. let e : v.lives k ≡ w.lives k = at k ∙ ap (λ (b : Bool). if b then w.lives place + 1 else w.lives k) f in let m = h.most k in omega arith);
      senders = rw letters h.senders;
      unborn = λ name low. ap (λ f. f name) nodes ∙ h.unborn name (let b = grows (place_of_name name) in omega arith);
    }

pub events_keep_names : (rules : Rules) → EventsKeep (NodesHaveTheirNames rules)
unfolding world_with_record
events_keep_names rules w e v (idles o idle) h = record { who = h.who; least = h.least; most = h.most; senders = h.senders; unborn = h.unborn }
events_keep_names rules w e v (stops runs) h = record { who = h.who; least = h.least; most = h.most; senders = h.senders; unborn = h.unborn }
events_keep_names rules w e v (returns place is left more) h = named_lives rules w place more v refl refl refl h
events_keep_names rules w e v (steps c s runs cause effect) h = named_step rules w e c s effect h

-- ---- runs

first_named : (rules : Rules) (name : ℕ) → HasThisName name (first_node rules name)
first_named rules name = split_on_bool (has rules.founders name) (λ t. rw t refl) (λ f. rw f refl)

-- a founder has life 1
founders_first : (rules : Rules) (name : ℕ) → MayFound rules → 1 < life_of_name name → has rules.founders name ≡ false
founders_first rules name may high = split_on_bool (has rules.founders name)
    (λ t.
    let place : place_of_name name < 16 = omega arith in
    let first = may.first_lives (place_of_name name) (omega arith) in
    let is : slice_index rules.founders (place_of_name name) ≡ life_of_name name = grind (arith, nat_tests) in
    absurd (omega arith))
    (λ f. f)

pub start_has_names : (rules : Rules) → MayFound rules → NodesHaveTheirNames rules (start rules)
start_has_names rules may = record {
  who = first_named rules;
  least = λ place. omega arith;
  most = λ place. omega arith;
  senders = All-nil SentByName;
  unborn = λ name high. rw (founders_first rules name may high) refl;
}

pub run_has_names : (rules : Rules) (events : List Event) → MayFound rules → NodesHaveTheirNames rules (run rules events)
run_has_names rules events may = runs_keep_what_events_keep (NodesHaveTheirNames rules) (events_keep_names rules) (start rules) events (start_has_names rules may)

pub names_hold_in_runs : RunsKeepNames
names_hold_in_runs rules events may =
    let h = run_has_names rules events may in
    record {
      who = h.who;
      least = h.least;
      most = h.most;
      senders = λ number letter at. all_gives_item_at SentByName (run rules events).letters number letter h.senders at;
      unborn = h.unborn;
    }
