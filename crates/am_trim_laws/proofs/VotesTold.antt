-- In each run a vote tells no more to be taken than the voter has taken: each change of a coordinator keeps it of the votes that it has kept.
use Rattle.am_repair.proofs.RepairWords.{eqb-true, number_equals_itself, MayFound, Rules, has, Outcome, Event, actor_is_below_256, heard_stamps_have_names, split_on_bool, Node}
use Rattle.am_repair.proofs.RepairWords.{Packet, ◌≡◌, ℕ, ◌≤◌, ◌==◌, List, refl, sym, ap, ◌∙◌, subst, arith, All, All-nil, All-append, All-weaker, Letter}
use Rattle.am_repair.proofs.RepairWords.{World, start, world_with_step, packet_heard_by_act, Cause, hears, LetterSays, Changes, no_change, changed, acting_name}
use Rattle.am_repair.proofs.RepairWords.{WasSentTo, IsCause, all_gives_item_at, StepsKeepLaw, HasSameWorldParts, events_keep_by_steps, runs_keep_what_events_keep, WorldTrimsOnlyTaken}
use Rattle.am_repair.proofs.RepairWords.{heard_welcome_image_is_used, each_node_trims_only_taken, events_trim_only_taken, start_trims_only_taken, Ballot, BallotVerdict, LooksAtBallot, Change, refreshes, settles, looks, closes, promises, opens}
use Rattle.am_repair.proofs.RepairWords.{refresh_rests_with_list, settle_changes_only_sends, end_refresh_rests_with_list, push_entry, Leave, Stamp, not, ◌&&◌, stamp_is_less, Says}
use Rattle.std.specs.Prelude.{Option, Some, None}
use Rattle.am_base.specs.declared.image.Vote.{Vote}
use Rattle.am_model.specs.Ballots.{overtake_lower_ballot}
use Rattle.am_step_laws.specs.Looks.{HasOpenBallot, BallotIsLookedAt, with_more, without_one, as_it_is, finds_itself_out}
use Rattle.am_step_laws.specs.Letters.{vote}
use Rattle.am_repair.proofs.Repairable.Began.{node_rises_by_change}
use Rattle.am_trim_laws.specs.Votes.{PacketVoteTellsTaken, BallotVotesTellTaken, WorldVotesTellTaken, VotesTellTaken}

-- ---- a change

abbrev pub CauseVoteTellsTaken : (ℕ → Node) → Cause → Type 0
CauseVoteTellsTaken nodes (hears p) = PacketVoteTellsTaken nodes p
CauseVoteTellsTaken nodes _ = Unit {0}

told_overtaken : (nodes : ℕ → Node) (by : Stamp) (ballot : Option Ballot) → BallotVotesTellTaken nodes ballot → BallotVotesTellTaken nodes (overtake_lower_ballot by ballot)
told_overtaken nodes by None h = tt
told_overtaken nodes by (Some b) h = split_on_bool (not b.is_over && stamp_is_less b.stamp by) (λ t. rw t h) (λ f. rw f h)

told_open : (nodes : ℕ → Node) (m : Node) (b : Ballot) → HasOpenBallot m b → BallotVotesTellTaken nodes m.ballot → BallotVotesTellTaken nodes (Some b)
told_open nodes m b o h = subst (BallotVotesTellTaken nodes) o.last h

-- a ballot that is looked at has the votes that it had, or one more
pub looked_votes_tell_taken : (nodes : ℕ → Node) (c : Cause) (m : Node) (b : Ballot) → CauseVoteTellsTaken nodes c → BallotIsLookedAt c m b → BallotVotesTellTaken nodes m.ballot
    → BallotVotesTellTaken nodes (Some b)
looked_votes_tell_taken nodes c m b heard (as_it_is old o on) h = told_open nodes m old o h
looked_votes_tell_taken nodes c m b heard (without_one old gone is o other) h = λ name shown. split_on_bool (name == gone)
    (λ t. λ at. absurd (let z = rw t at at in cc))
    (λ f. λ at. told_open nodes m old o h name shown (rw f at at))
looked_votes_tell_taken nodes c m b heard (with_more old s v brought is by low high o same stays) h = λ name shown. split_on_bool (name == s)
    (λ t. λ at.
    let its : name ≡ s = eqb-true name s t in
    let is_vote : brought ≡ shown = (let z = rw t at at in cc) in
    let told : brought.taken ≤ (nodes s).core.taken = subst (CauseVoteTellsTaken nodes) is heard in
    subst (λ (x : Vote). x.taken ≤ (nodes name).core.taken) is_vote (subst (λ k. brought.taken ≤ (nodes k).core.taken) (sym its) told))
    (λ f. λ at. told_open nodes m old o h name shown (rw f at at))

told_look : (nodes : ℕ → Node) (m : Node) (b : Ballot) (v : BallotVerdict) → LooksAtBallot m b v → BallotVotesTellTaken nodes (Some b) → BallotVotesTellTaken nodes v.node.ballot
told_look nodes m b v (finds_itself_out a) h = h
told_look nodes m b v _ h = h

told_change : (nodes : ℕ → Node) (c : Cause) (o : Outcome) (m n : Node) → CauseVoteTellsTaken nodes c → Change c o m n → BallotVotesTellTaken nodes m.ballot → BallotVotesTellTaken nodes n.ballot
told_change nodes c o m n heard refreshes h = subst (BallotVotesTellTaken nodes) (sym (refresh_rests_with_list m).rests.ballot) h
told_change nodes c o m n heard settles h = subst (λ (x : Node). BallotVotesTellTaken nodes x.ballot) (sym (settle_changes_only_sends m)) h
told_change nodes c o m n heard (promises v low why) h = told_overtaken nodes v m.ballot h
told_change nodes c o m n heard (opens least resilience begins may) h = λ name shown at. absurd (cc)
told_change nodes c o m n heard (looks b verdict over why look is) h = told_look nodes m b verdict look (looked_votes_tell_taken nodes c m b heard why h)
told_change nodes c o m n heard (closes leads leaves alone room) h =
    subst (BallotVotesTellTaken nodes) (sym (end_refresh_rests_with_list (push_entry m (Leave m.core.who))).rests.ballot) h
told_change nodes c o m n heard _ h = h

pub changes_keep_votes_told : (nodes : ℕ → Node) {c : Cause} {o : Outcome} (m n : Node) → CauseVoteTellsTaken nodes c → Changes c o m n → BallotVotesTellTaken nodes m.ballot → BallotVotesTellTaken nodes n.ballot
changes_keep_votes_told nodes m n heard no_change h = h
changes_keep_votes_told nodes m n heard (changed {n = x} one more) h = changes_keep_votes_told nodes x n heard more (told_change nodes _ _ m x heard one h)

-- ---- who has taken more

more_taken : (old new : ℕ → Node) → ((name : ℕ) → (old name).core.taken ≤ (new name).core.taken) → (p : Packet) → PacketVoteTellsTaken old p → PacketVoteTellsTaken new p
more_taken old new up (Packet.Vote s v shown) h = let a = up s in omega arith
more_taken old new up _ h = tt

more_told : (old new : ℕ → Node) → ((name : ℕ) → (old name).core.taken ≤ (new name).core.taken) → (o : Option Ballot) → BallotVotesTellTaken old o → BallotVotesTellTaken new o
more_told old new up None h = tt
more_told old new up (Some b) h = λ name shown at. let a = h name shown at in let c = up name in omega arith

-- a vote of a step
said_vote : (nodes : ℕ → Node) (m n : Node) (c : Cause) (to : List ℕ) (p : Packet) → n.core.taken ≤ (nodes n.core.who).core.taken → Says m c n to p → PacketVoteTellsTaken nodes p
said_vote nodes m n c to p low (vote s v is) = low
said_vote nodes m n c to p low _ = tt

-- ---- worlds

abbrev LetterTold : (ℕ → Node) → Letter → Type 0
LetterTold nodes l = PacketVoteTellsTaken nodes l.packet

record AllVotesAreTrue (rules : Rules) (w : World) : Type 0 where
  laws : WorldTrimsOnlyTaken rules w
  told : WorldVotesTellTaken w

pub cause_of_run_votes_taken : (w : World) (e : Event) (c : Cause) → All (LetterTold w.nodes) w.letters → IsCause w (acting_name w e) e.act c → CauseVoteTellsTaken w.nodes c
cause_of_run_votes_taken w e (hears p) all cause =
    let was : WasSentTo w (acting_name w e) e.act p = cause in
    subst (PacketVoteTellsTaken w.nodes) was.is (all_gives_item_at (LetterTold w.nodes) w.letters (packet_heard_by_act e.act) was.letter all was.there)
cause_of_run_votes_taken w e _ all cause = tt

told_step : (rules : Rules) → StepsKeepLaw (WorldTrimsOnlyTaken rules) (AllVotesAreTrue rules)
unfolding world_with_step
told_step rules w e c s cause effect laws h =
    let name = acting_name w e in
    let n = s.node in
    let few = actor_is_below_256 rules w e h.laws.blanks.base.named in
    let rises = node_rises_by_change rules (w.nodes name) n (heard_stamps_have_names rules w e c h.laws.blanks.base cause) (heard_welcome_image_is_used rules w e c h.laws cause)
    effect.changes (each_node_trims_only_taken rules w name few h.laws) in
    let mine = changes_keep_votes_told w.nodes (w.nodes name) n (cause_of_run_votes_taken w e c h.told.letters cause) effect.changes (h.told.ballots name few) in
    let v = world_with_step w e name s in
    let itself_ = number_equals_itself name in
    let here : v.nodes name ≡ n = rw itself_ refl in
    let up : (other : ℕ) → (w.nodes other).core.taken ≤ (v.nodes other).core.taken = λ other. split_on_bool (other == name)
    (λ t. let is = eqb-true other name t in let a = rises.taken in rw (t, is) a) (λ f. rw f (omega arith)) in
    let sender = effect.sender in
    let who : n.core.who ≡ name = ap (λ (x : Node). x.core.who) (sym here) ∙ laws.blanks.base.named.who name in
    let same_who : sender.core.who ≡ name = sym (ap (λ (x : Node). x.core.who) effect.is) ∙ who in
    let same_taken : n.core.taken ≡ sender.core.taken = ap (λ (x : Node). x.core.taken) effect.is in
    let at : (v.nodes sender.core.who).core.taken ≡ n.core.taken = ap (λ k. (v.nodes k).core.taken) same_who ∙ ap (λ (x : Node). x.core.taken) here in
    let low : sender.core.taken ≤ (v.nodes sender.core.who).core.taken = omega arith in
    record {
      laws = laws;
      told = record {
        ballots = λ other small. split_on_bool (other == name)
            (λ t. rw t (more_told w.nodes v.nodes up n.ballot mine))
            (λ f. rw f (more_told w.nodes v.nodes up (w.nodes other).ballot (h.told.ballots other small)));
        letters = All-append (LetterTold v.nodes) w.letters s.letters
            (All-weaker (LetterTold w.nodes) (LetterTold v.nodes) (λ l x. more_taken w.nodes v.nodes up l.packet x) w.letters h.told.letters)
            (All-weaker (LetterSays (w.nodes name) c sender) (LetterTold v.nodes)
            (λ l x. said_vote v.nodes (w.nodes name) sender c l.to l.packet low x.says) s.letters effect.letters);
      };
    }

told_same : (rules : Rules) (w v : World) → HasSameWorldParts w v → WorldTrimsOnlyTaken rules v → AllVotesAreTrue rules w → AllVotesAreTrue rules v
told_same rules w v same laws h = record {
  laws = laws;
  told = record { ballots = rw same.nodes h.told.ballots; letters = rw (same.nodes, same.letters) h.told.letters };
}

told_start : (rules : Rules) → MayFound rules → AllVotesAreTrue rules (start rules)
told_start rules may = record {
  laws = start_trims_only_taken rules may;
  told = record {
    ballots = λ i few. split_on_bool (has rules.founders i) (λ t. rw t tt) (λ f. rw f tt);
    letters = All-nil (LetterTold (start rules).nodes);
  };
}

pub votes_tell_taken : VotesTellTaken
votes_tell_taken rules events may = (runs_keep_what_events_keep (AllVotesAreTrue rules)
    (events_keep_by_steps (WorldTrimsOnlyTaken rules) (AllVotesAreTrue rules) (events_trim_only_taken rules) (λ w h. h.laws) (told_step rules) (told_same rules))
    (start rules) events (told_start rules may)).told
