-- What each change keeps. A coordinator that isn't given up is itself a member of the view that it decides.
use Rattle.std.proofs.Common.{◌≡◌, ℕ, ◌+◌, ◌-◌, ◌≤◌, max, false, not, ◌==◌, unwrap_or, refl, sym, ap, subst, ◌∙◌, arith}
use Rattle.std.proofs.lemmas.Bool.Decides.{nat_tests}
use Rattle.am_base.specs.declared.entry.Entry.{Entry}
use Rattle.am_base.specs.declared.entry.Entry.TheVariants.{Leave, View}
use Rattle.am_base.specs.declared.outcome.Outcome.{Outcome}
use Rattle.am_base.specs.Founding.{Rules}
use Rattle.am_base.specs.Names.{size, names_of}
use Rattle.am_node_defs.specs.Reports.{least_of_names}
use Rattle.am_model.specs.Node.{Node, Ballot, top, push_entry, trim_node_up_to}
use Rattle.am_model.specs.Ballots.{BallotVerdict, need_set_of, need_set_without_given_up, taken_number_of_voter, trim_to_least_taken_by, decided_view}
use Rattle.am_model.proofs.Sets.{set_with_name_has_size, passing_name_is_in_those}
use Rattle.am_step_laws.specs.Causes.{Cause}
use Rattle.am_step_laws.specs.Looks.{LooksAtBallot, finds_no_room, decides, HasOpenBallot, BallotIsLookedAt, with_more, without_one, as_it_is}
use Rattle.am_step_laws.specs.Changes.{MayStore, Change, refreshes, settles, numbers, notes, stores, begins_list, promises, opens, looks, fetches, stores_view}
use Rattle.am_step_laws.specs.Changes.{closes}
use Rattle.am_step_laws.proofs.Kept.{BallotKeepsItsCoordinator, NodeIsBounded, entry_within_window_keeps_bounds, pushed_entry_keeps_bounds, trim_keeps_bounds, promise_keeps_bounds, refresh_keeps_bounds, settle_keeps_bounds, end_refresh_keeps_bounds}

-- ---- looks at a ballot

open_itself : (m : Node) (b : Ballot) (who : ℕ) → HasOpenBallot m b → BallotKeepsItsCoordinator who m.ballot → b.given_up who ≡ false
open_itself m b who h own = subst (BallotKeepsItsCoordinator who) h.last own

-- the ballot that is looked at hasn't given up its coordinator
pub open_ballot_keeps_its_coordinator : (c : Cause) (m : Node) (b : Ballot) → BallotIsLookedAt c m b → BallotKeepsItsCoordinator m.core.who m.ballot → b.given_up m.core.who ≡ false
open_ballot_keeps_its_coordinator c m b (with_more old s v vote is heard low high open_ same stays) own = open_itself m old m.core.who open_ own
open_ballot_keeps_its_coordinator c m b (as_it_is old open_ on) own = open_itself m old m.core.who open_ own
open_ballot_keeps_its_coordinator c m b (without_one old name is open_ other) own =
    let flipped : (m.core.who == name) ≡ false = grind (arith, nat_tests) in
    rw flipped (open_itself m old m.core.who open_ own)

kept_look : (rules : Rules) (m : Node) (b : Ballot) (v : BallotVerdict) → LooksAtBallot m b v → b.given_up m.core.who ≡ false → NodeIsBounded rules m → NodeIsBounded rules v.node
kept_look rules m b v (finds_no_room x) own h =
    let k = trim_keeps_bounds rules m (unwrap_or (least_of_names (taken_number_of_voter m.core.who m.core.taken b) (names_of (need_set_without_given_up b (need_set_of m b)))) 0) h in
    record { founding = k.founding; few = k.few; itself = own }
kept_look rules m b v (decides may) own h =
    let names = need_set_without_given_up b (need_set_of m b) in
    let before = trim_to_least_taken_by m b names in
    let some = set_with_name_has_size names m.core.who (passing_name_is_in_those (λ name. not (b.given_up name)) (need_set_of m b) m.core.who may.learned.needed (ap not own)) in
    let same = ap (λ (r : Rules). r.window) h.founding in
    let low : top m + 1 - before.core.base ≤ m.core.rules.window + 16 - size names = grind (arith, nat_tests) in
    let k = trim_keeps_bounds rules m (unwrap_or (least_of_names (taken_number_of_voter m.core.who m.core.taken b) (names_of names)) 0) h in
    let l = entry_within_window_keeps_bounds rules before (View (decided_view m b names)) k (omega arith) in
    record { founding = l.founding; few = l.few; itself = own }
kept_look rules m b v _ own h = record { founding = h.founding; few = h.few; itself = own }

-- ---- entries that are stored

-- the next number is within the bound
kept_stored : (rules : Rules) (m : Node) (base number : ℕ) (e : Entry) → MayStore m m.core.base base number e → NodeIsBounded rules m → NodeIsBounded rules (push_entry m e)
kept_stored rules m base number e may h =
    let same = ap (λ (r : Rules). r.window) h.founding in
    let low : number - m.core.base ≤ m.core.rules.window + 15 = grind (arith, nat_tests) in
    entry_within_window_keeps_bounds rules m e h (omega arith)

kept_fetched : (rules : Rules) (m : Node) (base number : ℕ) (e : Entry) → MayStore m (max m.core.base base) base number e → NodeIsBounded rules m
    → NodeIsBounded rules (push_entry (trim_node_up_to m base) e)
kept_fetched rules m base number e may h = kept_stored rules (trim_node_up_to m base) base number e
    (record { next = may.next; taken = may.taken; stays = may.stays; fits = may.fits; within = may.within }) (trim_keeps_bounds rules m base h)

same_bounds : (rules : Rules) (m n : Node) → n.core.rules ≡ m.core.rules → n.core.who ≡ m.core.who → n.core.base ≡ m.core.base → top n ≡ top m
    → n.ballot ≡ m.ballot → NodeIsBounded rules m → NodeIsBounded rules n
same_bounds rules m n a b c d e h = record {
  founding = a ∙ h.founding;
  few = let f = h.few in omega arith;
  itself = subst (BallotKeepsItsCoordinator n.core.who) (sym e) (subst (λ w. BallotKeepsItsCoordinator w m.ballot) (sym b) h.itself);
}

-- ---- each change

pub change_keeps_node_bounds : (rules : Rules) {c : Cause} {o : Outcome} (m n : Node) → Change c o m n → NodeIsBounded rules m → NodeIsBounded rules n
change_keeps_node_bounds rules m n refreshes h = refresh_keeps_bounds rules m h
change_keeps_node_bounds rules m n settles h = settle_keeps_bounds rules m h
change_keeps_node_bounds rules m n (numbers e leads room why) h = pushed_entry_keeps_bounds rules m e room h
change_keeps_node_bounds rules m n (notes s v base acc by heard) h = trim_keeps_bounds rules m _ h
change_keeps_node_bounds rules m n (stores s v base acc number e by heard plain may) h =
    same_bounds rules (push_entry m e) n refl refl refl refl refl (kept_stored rules m base number e may h)
change_keeps_node_bounds rules m n (begins_list s v base join image is o may) h = record { founding = h.founding; few = omega arith; itself = h.itself }
change_keeps_node_bounds rules m n (promises v low why) h = promise_keeps_bounds rules m v h
change_keeps_node_bounds rules m n (opens least resilience by may) h = record { founding = h.founding; few = h.few; itself = refl }
change_keeps_node_bounds rules m n (looks b verdict over why look is) h = kept_look rules m b verdict look (open_ballot_keeps_its_coordinator _ m b why h.itself) h
change_keeps_node_bounds rules m n (fetches s v base number e is heard promise below from may) h = kept_fetched rules m base number e may h
change_keeps_node_bounds rules m n (stores_view s base number v is heard own other promise below may) h =
    kept_fetched rules m base number (View v) may h
change_keeps_node_bounds rules m n (closes leads leaves alone room) h = end_refresh_keeps_bounds rules (push_entry m (Leave m.core.who)) (pushed_entry_keeps_bounds rules m (Leave m.core.who) room h)
change_keeps_node_bounds rules m n _ h = h
