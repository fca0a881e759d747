-- Where a node's last ballot was decided and its promise is its own, it is that of the ballot, in every run.
use Rattle.am_refinement.proofs.WholeSteps.StepWords.{EachNodeHas, events_keep_each_node, first_node_has_property, asking_node_has_no_log, ◌≡◌, inr, either, ℕ, ◌<◌, ◌==◌, ◌&&◌, ◌||◌, not, true, false, List}
use Rattle.am_refinement.proofs.WholeSteps.StepWords.{Option, Some, None, sym, ap, ◌∙◌, subst, arith, nat_tests, Stamp, Outcome, Rules, MayFound, stamp_is_less, no_stamp, Event}
use Rattle.am_refinement.proofs.WholeSteps.StepWords.{Node, Ballot, is_member, is_asking_status, BallotVerdict, overtake_lower_ballot, World, start, run, split_on_bool, both_of_and, Cause, LooksAtBallot, waits}
use Rattle.am_refinement.proofs.WholeSteps.StepWords.{fetches_from_best, finds_too_few, decides, MayPromise, invited, overtaken_by, told_result, Change, refreshes, settles}
use Rattle.am_refinement.proofs.WholeSteps.StepWords.{begins_list, promises, opens, looks, closes, acting_name, refresh_rests_with_list, own_leave_rests, settle_changes_only_sends, changes_keep_property, EventsKeep, runs_keep_what_events_keep}
use Rattle.am_refinement.proofs.WholeSteps.StepWords.{unordered_stamps_are_equal, NodePartsHaveNames, HeardStampsHaveNames, change_keeps_stamp_names, promised_stamp_has_name, NodeBallotFits, change_keeps_list_and_ballot, balloting_looks_at_open_ballot, WorldNotesViewsOnce, events_note_views_once}
use Rattle.am_refinement.proofs.WholeSteps.StepWords.{heard_stamps_have_names, start_notes_views_once, StampIsAtMost, StampIsBegun, stamp_at_most_itself, stamp_at_most_through_middle, HeardStampWasBegun, PromiseWasBegun, change_keeps_promise_begun, PromisesAndStampsWereBegun}
use Rattle.am_refinement.proofs.WholeSteps.StepWords.{heard_stamp_was_begun, events_keep_promises_begun, start_has_promises_begun, OwnDecided}
use Rattle.am_base.specs.declared.outcome.Outcome.TheVariants as said

-- ---- by the parts of a node

abbrev Owning : ℕ → Stamp → Option Ballot → Type 0
Owning who promise ballot = (b : Ballot) (number : ℕ) (names : List ℕ) → ballot ≡ Some b → b.answer ≡ said.Decided number names → promise.by ≡ who
    → promise ≡ b.stamp

same_owning : (x y : Node) → y.core.who ≡ x.core.who → y.core.promise ≡ x.core.promise → y.ballot ≡ x.ballot → OwnDecided x → OwnDecided y
same_owning x y who promise ballot h = subst (λ k. Owning k y.core.promise y.ballot) (sym who)
    (subst (λ (v : Stamp). Owning x.core.who v y.ballot) (sym promise) (subst (Owning x.core.who x.core.promise) (sym ballot) h))

-- a ballot that was decided isn't overtaken
still_decided : (v : Stamp) (ballot : Option Ballot) (b : Ballot) (number : ℕ) (names : List ℕ) → overtake_lower_ballot v ballot ≡ Some b
    → b.answer ≡ said.Decided number names → ballot ≡ Some b
still_decided v None b number names is answer = is
still_decided v (Some a) b number names is answer = split_on_bool (not a.is_over && stamp_is_less a.stamp v)
    (λ t. absurd (let z = rw t at is in
    let same : record a { answer = said.Overtaken v; is_over = true } ≡ b = cc in
    let said_ : said.Overtaken v ≡ said.Decided number names = ap (λ (x : Ballot). x.answer) same ∙ answer in cc))
    (λ f. rw f at is)

-- ---- a change

-- what is known along a step
record Knows (nodes : ℕ → Node) (i : ℕ) (x : Node) : Type 0 where
  named : NodePartsHaveNames x
  balloted : NodeBallotFits x
  promised : PromiseWasBegun nodes i x
  owns : OwnDecided x

promise_owns : (nodes : ℕ → Node) (i : ℕ) (c : Cause) (x : Node) (v : Stamp) → HeardStampsHaveNames c → HeardStampWasBegun nodes c → MayPromise c x v
    → stamp_is_less v x.core.promise ≡ false → StampIsBegun nodes v → Knows nodes i x → Owning x.core.who v (overtake_lower_ballot v x.ballot)
promise_owns nodes i c x v names begun why low is h b number all at answer mine =
    let old = still_decided v x.ballot b number all at answer in
    let who = h.promised.who in
    let small : v.by < 256 = promised_stamp_has_name c x v why names in
    let most : StampIsAtMost v x.core.promise = either is
    (λ z. subst (λ (u : Stamp). StampIsAtMost u x.core.promise) (sym z) (grind (arith, nat_tests)))
    (λ z. stamp_at_most_through_middle v (nodes i).core.promise x.core.promise
    (subst (λ k. StampIsAtMost v (nodes k).core.promise) (mine ∙ who) z) h.promised.up) in
    let same : v ≡ x.core.promise = unordered_stamps_are_equal v x.core.promise small h.named.promise_ low most in
    same ∙ h.owns b number all old answer (ap (λ (u : Stamp). u.by) (sym same) ∙ mine)

abbrev answer_in : Option Ballot → Outcome
answer_in None = said.Asked
answer_in (Some a) = a.answer

abbrev stamp_in : Option Ballot → Stamp
stamp_in None = no_stamp
stamp_in (Some a) = a.stamp

look_owns : (x : Node) (b : Ballot) (v : BallotVerdict) → LooksAtBallot x b v → x.core.promise ≡ b.stamp → OwnDecided v.node
look_owns x b v (waits y z) promise = λ a number names is answer mine. absurd (let u = ap answer_in is ∙ answer in cc)
look_owns x b v (fetches_from_best y z u) promise = λ a number names is answer mine. absurd (let t = ap answer_in is ∙ answer in cc)
look_owns x b v (finds_too_few y z) promise = λ a number names is answer mine. absurd (let u = ap answer_in is ∙ answer in cc)
look_owns x b v (decides may) promise = λ a number names is answer mine. promise ∙ ap stamp_in is
look_owns x b v _ promise = λ a number names is answer mine. absurd (let z = ap answer_in is ∙ answer in cc)

change_owns : (nodes : ℕ → Node) (i : ℕ) (c : Cause) (o : Outcome) (x y : Node) → HeardStampsHaveNames c → HeardStampWasBegun nodes c → Change c o x y → Knows nodes i x
    → OwnDecided y
change_owns nodes i c o x y names begun refreshes h = let r = (refresh_rests_with_list x).rests in same_owning x y r.who r.promise r.ballot h.owns
change_owns nodes i c o x y names begun settles h = same_owning x y (ap (λ (n : Node). n.core.who) (settle_changes_only_sends x))
    (ap (λ (n : Node). n.core.promise) (settle_changes_only_sends x))
    (ap (λ (n : Node). n.ballot) (settle_changes_only_sends x)) h.owns
change_owns nodes i c o x y names begun (begins_list s v base join image is says may) h = λ b number all at answer mine. absurd (
    let asks = both_of_and (not (s == x.core.who)) (is_member x.status || is_asking_status x.status) may.asks in
    let none = h.balloted.none (asking_node_has_no_log x.status may.no_member asks.1) in
    cc)
change_owns nodes i c o x y names begun (promises v low why) h = promise_owns nodes i c x v names begun why low (raised why) h
  where
    raised : {v : Stamp} → MayPromise c x v → StampIsBegun nodes v
    raised (invited s w is heard own) = subst (HeardStampWasBegun nodes) is begun
    raised (overtaken_by s w shown is heard above) = subst (HeardStampWasBegun nodes) is begun
    raised (told_result s base number w is heard own other) = subst (HeardStampWasBegun nodes) is begun
change_owns nodes i c o x y names begun (opens least resilience by may) h = λ b number all at answer mine. absurd (let z = ap answer_in at ∙ answer in cc)
change_owns nodes i c o x y names begun (looks b verdict over why look is) h = look_owns x b verdict look (balloting_looks_at_open_ballot x b why h.balloted).open_.promised
change_owns nodes i c o x y names begun (closes leads leaves alone room) h = let r = own_leave_rests x in same_owning x y r.who r.promise r.ballot h.owns
change_owns nodes i c o x y names begun _ h = h.owns

change_knows : (nodes : ℕ → Node) (i : ℕ) (c : Cause) (o : Outcome) → HeardStampsHaveNames c → HeardStampWasBegun nodes c → (x y : Node) → Change c o x y → Knows nodes i x
    → Knows nodes i y
change_knows nodes i c o names begun x y z h = record {
  named = change_keeps_stamp_names names x y z h.named;
  balloted = (change_keeps_list_and_ballot names x y z h.named h.balloted).balloted;
  promised = change_keeps_promise_begun nodes i c o x y begun z h.promised;
  owns = change_owns nodes i c o x y names begun z h;
}

-- ---- runs

abbrev pub NodesOwnTheirDecisions : Rules → World → Type 0
NodesOwnTheirDecisions rules = EachNodeHas (λ w. WorldNotesViewsOnce rules w × PromisesAndStampsWereBegun w) (λ i n. i < 256 → OwnDecided n)

pub events_keep_own_decisions : (rules : Rules) → EventsKeep (NodesOwnTheirDecisions rules)
events_keep_own_decisions rules = events_keep_each_node (λ w. WorldNotesViewsOnce rules w × PromisesAndStampsWereBegun w) _
    (λ w e v happens h. (events_note_views_once rules w e v happens h.0, events_keep_promises_begun w e v happens h.1))
    (λ w e c s cause effect base owns few.
    let i = acting_name w e in
    let k = base.0.each i few in
    (changes_keep_property (Knows w.nodes i)
    (change_knows w.nodes i c s.outcome (heard_stamps_have_names rules w e c base.0 cause) (heard_stamp_was_begun w i e.act c base.1.letters cause))
    effect.changes (record {
      named = k.names;
      balloted = k.balloted;
      promised = record { who = base.1.who i; up = stamp_at_most_itself (w.nodes i).core.promise; begun = inr (base.1.each i) };
      owns = owns few;
    })).owns)

owns_start : (rules : Rules) → MayFound rules → NodesOwnTheirDecisions rules (start rules)
owns_start rules may = record {
  base = (start_notes_views_once rules may, start_has_promises_begun rules may);
  each = λ i low. first_node_has_property rules OwnDecided i (λ b number all at answer mine. absurd (cc)) (λ b number all at answer mine. absurd (cc));
}

pub run_keeps_own_decisions : (rules : Rules) (events : List Event) → MayFound rules → NodesOwnTheirDecisions rules (run rules events)
run_keeps_own_decisions rules events may = runs_keep_what_events_keep (NodesOwnTheirDecisions rules) (events_keep_own_decisions rules) (start rules) events (owns_start rules may)
