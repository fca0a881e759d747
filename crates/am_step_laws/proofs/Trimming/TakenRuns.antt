-- In each run no node trims more than its own application has taken.
use Rattle.am_step_laws.proofs.Words.{first_node_has_property, first_nodes_keep_bounds, ◌≡◌, ℕ, ◌+◌, ◌<◌, ◌==◌, true, List, slice_index, subst, arith, All, nat_tests, All-nil, All-append}
use Rattle.am_step_laws.proofs.Words.{All-weaker, Outcome, Rules, MayFound, place_of_name, life_of_name, has, image_after_entries, Packet, Letter, unused_places_after_entries, Event, Node, founder, stranger_node}
use Rattle.am_step_laws.proofs.Words.{World, start, world_with_step, run, split_on_bool, Cause, Says, welcome, LetterSays, Changes, no_change, changed, acting_name, heard_packet_has_property}
use Rattle.am_step_laws.proofs.Words.{IsCause, EventsKeep, StepsKeepLaw, HasSameWorldParts, events_keep_by_steps, runs_keep_what_events_keep, NodeIsBounded, change_keeps_node_bounds, TrimmedWasTaken, JoinsAreNextLives}
use Rattle.am_step_laws.proofs.Words.{founding_view}
use Rattle.am_step_laws.proofs.Trimming.LeaderRows.{first_view_has_its_members, blank_image_is_used}
use Rattle.am_step_laws.proofs.Named.{actor_is_below_256}
use Rattle.am_step_laws.proofs.ViewNames.{NodePartsHaveNames, HeardStampsHaveNames, change_keeps_stamp_names}
use Rattle.am_step_laws.proofs.{ViewChanges.NodeBallotFits, ViewChanges.change_keeps_list_and_ballot, Views.heard_stamps_have_names, Views.start_notes_views_once, Blank.IsBlankWithoutLog, Blank.change_keeps_list_blank}
use Rattle.am_step_laws.proofs.Blank.{ListlessNodesAreBlank, events_keep_lists_blank, first_node_has_blank_list}
use Rattle.am_step_laws.proofs.Trimming.Trims.{NodeTrimFronts, TrimsNoMoreThanTaken, WelcomeImageIsUsed}
use Rattle.am_step_laws.proofs.Trimming.Taken.{HeardWelcomeImageIsUsed}
use Rattle.am_step_laws.proofs.Trimming.Taken.{change_keeps_trimmed_taken}

-- ---- what is so of each node along a step

pub record TrimsOnlyTakenAlongStep (rules : Rules) (m : Node) : Type 0 where
  pub names : NodePartsHaveNames m
  pub balloted : NodeBallotFits m
  pub blanked : IsBlankWithoutLog m
  pub kept : NodeIsBounded rules m
  pub owned : TrimsNoMoreThanTaken m

pub changes_trim_only_taken : (rules : Rules) {c : Cause} {o : Outcome} (m n : Node) → HeardStampsHaveNames c → HeardWelcomeImageIsUsed c → Changes c o m n → TrimsOnlyTakenAlongStep rules m → TrimsOnlyTakenAlongStep rules n
changes_trim_only_taken rules m n heard used no_change h = h
changes_trim_only_taken rules m n heard used (changed {n = x} one more) h =
    changes_trim_only_taken rules x n heard used more (record {
      names = change_keeps_stamp_names heard m x one h.names;
      balloted = (change_keeps_list_and_ballot heard m x one h.names h.balloted).balloted;
      blanked = change_keeps_list_blank m x one h.balloted h.blanked;
      kept = change_keeps_node_bounds rules m x one h.kept;
      owned = change_keeps_trimmed_taken _ _ m x used h.kept.itself h.balloted h.blanked one h.owned;
    })

-- ---- letters

welcomes_used : (m n : Node) (c : Cause) (to : List ℕ) (p : Packet) → NodeTrimFronts n → Says m c n to p → WelcomeImageIsUsed p
welcomes_used m n c to p h (welcome s l may) = unused_places_after_entries n.core.log.image (n.core.log.start + 1) _ (omega arith) h.used
welcomes_used m n c to p h _ = tt

-- ---- worlds

abbrev UsedLetter : Letter → Type 0
UsedLetter l = WelcomeImageIsUsed l.packet

-- of nodes and letters
pub record PartsTrimOnlyTaken (rules : Rules) (nodes : ℕ → Node) (sent : List Letter) : Type 0 where
  pub kept : (name : ℕ) → NodeIsBounded rules (nodes name)
  pub each : (name : ℕ) → name < 256 → TrimsNoMoreThanTaken (nodes name)
  pub letters : All UsedLetter sent

pub record WorldTrimsOnlyTaken (rules : Rules) (w : World) : Type 0 where
  pub blanks : ListlessNodesAreBlank rules w
  pub owned : PartsTrimOnlyTaken rules w.nodes w.letters
  pub open owned use *

pub heard_welcome_image_is_used : (rules : Rules) (w : World) (e : Event) (c : Cause) → WorldTrimsOnlyTaken rules w → IsCause w (acting_name w e) e.act c → HeardWelcomeImageIsUsed c
heard_welcome_image_is_used rules w e c h cause p is = heard_packet_has_property WelcomeImageIsUsed w e c p cause is h.letters

pub each_node_trims_only_taken : (rules : Rules) (w : World) (name : ℕ) → name < 256 → WorldTrimsOnlyTaken rules w → TrimsOnlyTakenAlongStep rules (w.nodes name)
each_node_trims_only_taken rules w name few h =
    let k = h.blanks.base.each name few in
    record { names = k.names; balloted = k.balloted; blanked = h.blanks.each name few; kept = h.kept name; owned = h.each name few }

owned_step : (rules : Rules) → StepsKeepLaw (ListlessNodesAreBlank rules) (WorldTrimsOnlyTaken rules)
unfolding world_with_step
owned_step rules w e c s cause effect blanks h =
    let name = acting_name w e in
    let m = w.nodes name in
    let few = actor_is_below_256 rules w e h.blanks.base.named in
    let a = changes_trim_only_taken rules m s.node (heard_stamps_have_names rules w e c h.blanks.base cause) (heard_welcome_image_is_used rules w e c h cause) effect.changes
    (each_node_trims_only_taken rules w name few h) in
    let sender = effect.sender in
    let fronts : NodeTrimFronts sender = subst NodeTrimFronts effect.is a.owned.fronts in
    record {
      blanks = blanks;
      owned = record {
        kept = λ other. split_on_bool (other == name) (λ t. rw t a.kept) (λ f. rw f (h.kept other));
        each = λ other low. split_on_bool (other == name) (λ t. rw t a.owned) (λ f. rw f (h.each other low));
        letters = All-append UsedLetter w.letters s.letters h.letters
            (All-weaker (LetterSays m c sender) UsedLetter (λ l x. welcomes_used m sender c l.to l.packet fronts x.says) s.letters effect.letters);
      };
    }

owned_same : (rules : Rules) (w v : World) → HasSameWorldParts w v → ListlessNodesAreBlank rules v → WorldTrimsOnlyTaken rules w → WorldTrimsOnlyTaken rules v
owned_same rules w v same blanks h = record { blanks = blanks; owned = rw (same.nodes, same.letters) h.owned }

pub events_trim_only_taken : (rules : Rules) → EventsKeep (WorldTrimsOnlyTaken rules)
events_trim_only_taken rules = events_keep_by_steps (ListlessNodesAreBlank rules) (WorldTrimsOnlyTaken rules) (events_keep_lists_blank rules) (λ w h. h.blanks) (owned_step rules) (owned_same rules)

-- ---- the start

founder_owned : (rules : Rules) (name : ℕ) → has rules.founders name ≡ true → TrimsNoMoreThanTaken (founder rules name)
unfolding JoinsAreNextLives image_after_entries
founder_owned rules name there =
    let given : slice_index rules.founders (place_of_name name) ≡ life_of_name name = grind (arith, nat_tests) in
    record {
      fronts = record {
        used = blank_image_is_used;
        joins = (tt, tt);
        kept = omega arith;
        base = omega arith;
        given = omega arith;
        accepted = omega arith;
        reported = rw there (omega arith);
      };
      leads = λ t. first_view_has_its_members (founding_view rules) name given;
      vote = tt;
    }

stranger_owned : (rules : Rules) (name : ℕ) → TrimsNoMoreThanTaken (stranger_node rules name)
unfolding JoinsAreNextLives
stranger_owned rules name = record {
  fronts =
      record { used = blank_image_is_used; joins = tt; kept = omega arith; base = omega arith; given = omega arith; accepted = omega arith; reported = omega arith };
  leads = λ t. absurd (cc);
  vote = tt;
}

pub start_trims_only_taken : (rules : Rules) → MayFound rules → WorldTrimsOnlyTaken rules (start rules)
start_trims_only_taken rules may = record {
  blanks = record { base = start_notes_views_once rules may; each = λ name low. first_node_has_blank_list rules name };
  owned = record {
    kept = λ name. first_node_has_property rules (NodeIsBounded rules) name ((first_nodes_keep_bounds rules).founder_has name) ((first_nodes_keep_bounds rules).stranger_has name);
    each = λ name low. split_on_bool (has rules.founders name) (λ t. rw t (founder_owned rules name t)) (λ f. rw f (stranger_owned rules name));
    letters = All-nil UsedLetter;
  };
}

pub run_trims_only_taken : (rules : Rules) (events : List Event) → MayFound rules → WorldTrimsOnlyTaken rules (run rules events)
run_trims_only_taken rules events may = runs_keep_what_events_keep (WorldTrimsOnlyTaken rules) (events_trim_only_taken rules) (start rules) events (start_trims_only_taken rules may)

pub trimmed_was_taken_in_runs : TrimmedWasTaken
trimmed_was_taken_in_runs rules events name may few = ((run_trims_only_taken rules events may).each name few).fronts.base
