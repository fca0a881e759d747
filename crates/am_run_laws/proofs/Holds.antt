-- What holds of each run in which nobody began a ballot.
use Rattle.am_run_laws.proofs.PromisedWords.{◌≡◌, ℕ, ◌+◌, true, List, [], Some, refl, sym, ◌∙◌, subst, arith, Entry, Data, Rules, World, run, has_log_by_status, split_on_bool}
use Rattle.am_run_laws.proofs.PromisedWords.{item_of_index_has_property, Once, GroupListFits, UnballotedListsFit, nil_from_length}
use Rattle.am_run_laws.proofs.UnballotedWords.{◌≢◌, Join, blank, AllEntriesFit, item_at, deliveries, accepted_sends, BeginsAt, RunsWithoutBallotHold, beginning_of_good_is_good, taken_front_begins_list}
use Rattle.am_run_laws.proofs.UnballotedWords.{sends_of_sender_in_order, each_send_stands_once, node_bounds_hold_in_runs, bodies_were_sent_in_runs}
use Rattle.std.specs.List.{All}
use Rattle.am_run_laws.proofs.Worlds.{AcceptedSendStandsAt, WorldKeepsWholeList, UnballotedWorldHolds}
use Rattle.am_run_laws.proofs.{Lists.item_at_of_take, UnballotedKept.first_founder_of, UnballotedKept.AcceptedStandsAt, UnballotedRuns.run_without_ballot_keeps_world}

-- what is accepted stands in the group's list
in_group : (rules : Rules) (list : List Entry) (acc : ℕ) (w : World) (number : ℕ) (e : Entry) → WorldKeepsWholeList rules list acc w → AcceptedStandsAt list acc number e
    → item_at w.group number ≡ Some e
in_group rules list acc w number e h a = subst (λ g. item_at g number ≡ Some e) (sym h.group) (item_at_of_take acc list number e a.low a.there)

-- who was given something has a list
given_log : (rules : Rules) (list : List Entry) (acc : ℕ) (w : World) (name : ℕ) → WorldKeepsWholeList rules list acc w → deliveries w.records name ≢ []
    → has_log_by_status (w.nodes name).status ≡ true
given_log rules list acc w name h some = split_on_bool (has_log_by_status (w.nodes name).status) (λ t. t)
    (λ f.
    let b = (h.each name).status.blank f in
    let count = (h.given name).count in
    absurd (some (nil_from_length (deliveries w.records name) (omega arith))))

begins_there : (rules : Rules) (list : List Entry) (acc : ℕ) (w : World) (name : ℕ) → WorldKeepsWholeList rules list acc w → has_log_by_status (w.nodes name).status ≡ true
    → BeginsAt rules w name (w.nodes name).core.start
begins_there rules list acc w name h log =
    let b = (h.each name).status.begins log in
    record {
      founder = b.founder;
      joiner = λ f. (h.welcomed name f ∙ rw log refl, in_group rules list acc w (w.nodes name).core.start (Join name) h (b.joiner f));
    }

group_fits : (rules : Rules) (w : World) → UnballotedWorldHolds rules w → AllEntriesFit blank 1 w.group
group_fits rules w h =
    let m = w.nodes (first_founder_of rules) in
    subst (AllEntriesFit blank 1) (sym h.kept.group) (beginning_of_good_is_good (taken_front_begins_list m.core.acc m.core.log.entries) h.first.base.good).fit

-- where what is accepted stands in the group's list, each accepted send stands there once
pub accepted_sends_stand_once : (w : World) (list : List Entry) (acc : ℕ) → AllEntriesFit blank 1 w.group → All (AcceptedSendStandsAt list acc) (accepted_sends w.records)
    → ((number : ℕ) (e : Entry) → AcceptedStandsAt list acc number e → item_at w.group number ≡ Some e) → Once w
accepted_sends_stand_once w list acc fit accepted there = record {
  each = λ k s is.
      let a = item_of_index_has_property (AcceptedSendStandsAt list acc) (accepted_sends w.records) k s accepted is in
      each_send_stands_once w fit s.name s.req s.number a.0 (there s.number (Data s.name s.req a.0) a.1);
}

pub unballoted_runs_hold : RunsWithoutBallotHold
unballoted_runs_hold rules events may none =
    let w = run rules events in
    let h = run_without_ballot_keeps_world rules events may none in
    let m = w.nodes (first_founder_of rules) in
    let list = m.core.log.entries in
    let acc = m.core.acc in
    let fit = group_fits rules w h in
    record {
      segment = record {
        each = λ name some. (
          (w.nodes name).core.start,
          begins_there rules list acc w name h.kept (given_log rules list acc w name h.kept some),
          λ k number e is. (let g = (h.kept.given name).each k number e is in (g.0, in_group rules list acc w ((w.nodes name).core.start + k) e h.kept g.1)),
        );
      };
      once = accepted_sends_stand_once w list acc fit h.kept.accepted (λ number e at. in_group rules list acc w number e h.kept at);
      sent = bodies_were_sent_in_runs rules events may;
      senders_order = sends_of_sender_in_order w fit;
      bounded = node_bounds_hold_in_runs rules events may;
    }

lists_fit : (rules : Rules) (w : World) → UnballotedWorldHolds rules w → GroupListFits w
lists_fit rules w h =
    let m = w.nodes (first_founder_of rules) in
    record { fits = group_fits rules w h; listed = λ name some. given_log rules m.core.log.entries m.core.acc w name h.kept some }

pub unballoted_group_lists_fit : UnballotedListsFit
unballoted_group_lists_fit rules events may none = lists_fit rules (run rules events) (run_without_ballot_keeps_world rules events may none)
