-- What the end of a node tells, and how it changes, is what the whole node does.
use Rattle.am_node_parts.proofs.Words.{◌≡◌, ℕ, ◌-◌, max, min, nat_lt, if◌then◌else◌, arith, List, Bool, true, false, ◌&&◌, ◌==◌, refl, sym, ◌∙◌, ap, subst}
use Rattle.am_node_parts.proofs.Words.{Image, stamps_are_equal, without_name, Log, top_of_log, image_of_log, members_of_image, log_members_at, CoreState, CoreKeepsEndOf, CoreFrontsAreInOrder, raise_accepted_to_told}
use Rattle.am_node_parts.proofs.Words.{pass_over_below_join, top_of_end_is_top, end_has_image_of_whole_log, image_at_top_is_told, untrimmed_core_keeps_own_log, CoreWithReports, RefreshesAlike, SecondChangesNothing, reports_with_log, raise_own_report, tell_accept_front, advance_with_reports, trim_to_least_taken}
use Rattle.am_node_parts.proofs.Words.{nat_tests, split_on_bool_of_log, end_of_node_keeps_log, refresh_on_whole_log, Node, other_members, is_member, is_sequencer, refresh, refresh_as_sequencer, advance_node}
use Rattle.am_node_parts.proofs.Words.{core_with_reports_of, node_with_core_and_reports, node_with_log, IsEndOf, TellsAlike, ChangesAllAlike}
use Rattle.am_node_parts.proofs.Words.{top, image_of_node, CoreChangesAlike}
use Rattle.am_node_defs.specs.Refresh as fronts

pub untrimmed_node_ends_itself : (m : Node) → m.core.base ≡ m.core.log.start → IsEndOf m m
untrimmed_node_ends_itself m e = record { stands = untrimmed_core_keeps_own_log m.core e; same = refl }

-- a node with this list, of which another keeps the end
pub node_with_log_has_end : (all : Log) (whole n : Node) → CoreKeepsEndOf all n.core → whole ≡ node_with_log n all → IsEndOf whole n
node_with_log_has_end all whole n s e = subst (λ (x : Node). IsEndOf x n) (sym e) (record { stands = s; same = refl })

-- what all lists say that go on above
pub reading_of_end_tells_node : {A : Type 0} (f : Node → A) (m : Node) (x : A) → ((all : Log) → CoreKeepsEndOf all m.core → x ≡ f (node_with_log m all)) → TellsAlike f m x
reading_of_end_tells_node f m x told = λ whole e. told whole.core.log e.stands ∙ ap f e.same

pub change_of_end_changes_node : (f : Node → Node) (old new : Node) → ((all : Log) → CoreKeepsEndOf all old.core → (more : Log) × CoreKeepsEndOf more new.core
    × (f (node_with_log old all) ≡ node_with_log new more)) → ChangesAllAlike f old new
change_of_end_changes_node f old new by = λ whole e.
    let one = by whole.core.log e.stands in
    node_with_log_has_end one.0 (f whole) new one.1 (ap f (sym e.same) ∙ one.2)

pub changes_follow_each_other : (f g : Node → Node) (a b c : Node) → ChangesAllAlike f a b → ChangesAllAlike g b c → ChangesAllAlike (λ m. g (f m)) a c
changes_follow_each_other f g a b c first second = λ whole e. second (f whole) (first whole e)

-- ---- what the end tells

pub told_by_standing_log : (m : Node) (all : Log) → CoreKeepsEndOf all m.core → image_of_log all ≡ image_of_log m.core.log
told_by_standing_log m all s = sym (end_has_image_of_whole_log all m.core.log s.kept)

pub top_of_standing_log : (m : Node) (all : Log) → CoreKeepsEndOf all m.core → top_of_log all ≡ top_of_log m.core.log
top_of_standing_log m all s = sym (top_of_end_is_top all m.core.log s.kept)

leads_same : (m : Node) (all : Log) → CoreKeepsEndOf all m.core → is_sequencer (node_with_log m all) ≡ is_sequencer m
leads_same m all s = ap (λ (i : Image). (is_member m.status && stamps_are_equal m.core.promise i.view) && (i.view.by == m.core.who)) (told_by_standing_log m all s)

pub is_sequencer_tells_node : (m : Node) (x : Bool) → x ≡ is_sequencer m → TellsAlike is_sequencer m x
is_sequencer_tells_node m x is = reading_of_end_tells_node is_sequencer m x (λ all s. is ∙ sym (leads_same m all s))

pub others_of_end_tells_node : (v c : CoreState) (m : Node) (high : ℕ) (all_of set : List ℕ) → v ≡ c → c ≡ m.core → high ≡ top_of_log v.log → all_of ≡ log_members_at v.log high
    → set ≡ without_name all_of v.who → TellsAlike other_members m set
others_of_end_tells_node v c m high all_of set is core top members less = reading_of_end_tells_node other_members m set (λ all s.
    let told : log_members_at v.log high ≡ members_of_image (image_of_log m.core.log) = ap (log_members_at v.log) top ∙ ap members_of_image (image_at_top_is_told v.log)
    ∙ ap (λ (x : CoreState). members_of_image (image_of_log x.log)) (is ∙ core) in
    less ∙ ap (λ xs. without_name xs v.who) (members ∙ told) ∙ ap (λ (x : CoreState). without_name (members_of_image (image_of_log m.core.log)) x.who) (is ∙ core)
    ∙ ap (λ i. without_name (members_of_image i) m.core.who) (sym (told_by_standing_log m all s)))

-- ---- the refresh

pub lead_changes_as_refresh : (old : Node) (new : CoreWithReports) → is_sequencer old ≡ true → RefreshesAlike fronts.refresh_with_reports (core_with_reports_of old) new → ChangesAllAlike refresh old (node_with_core_and_reports old new)
unfolding refresh refresh_as_sequencer
lead_changes_as_refresh old new leads by = change_of_end_changes_node refresh old (node_with_core_and_reports old new) (λ all s.
    let one = by all s in
    let is : is_sequencer (node_with_log old all) ≡ true = leads_same old all s ∙ leads in
    (all, one.0, rw is (ap (λ (l : CoreWithReports). node_with_core_and_reports (node_with_log old all) l) (sym one.1))))

pub advance_changes_as_refresh : (old new : Node) → is_sequencer old ≡ false → new ≡ advance_node old → ChangesAllAlike refresh old new
unfolding refresh raise_accepted_to_told pass_over_below_join
advance_changes_as_refresh old new none is = change_of_end_changes_node refresh old new (λ all s.
    let not_leads : is_sequencer (node_with_log old all) ≡ false = leads_same old all s ∙ none in (
      all,
      subst (λ (x : Node). CoreKeepsEndOf all x.core) (sym is) (record { base = s.base; kept = s.kept }),
      rw not_leads (let t = top_of_standing_log old all s in rw t (ap (λ (x : Node). node_with_log x all) (sym is))),
    ))

-- ---- once more it changes nothing

still_leads : (m : Node) → is_sequencer (refresh_as_sequencer m) ≡ is_sequencer m
unfolding refresh_as_sequencer raise_own_report tell_accept_front advance_with_reports trim_to_least_taken raise_accepted_to_told pass_over_below_join
still_leads m = refl

still_follows : (m : Node) → is_sequencer (advance_node m) ≡ is_sequencer m
unfolding raise_accepted_to_told pass_over_below_join
still_follows m = refl

pub refresh_twice_of_sequencer : (old : Node) (new : CoreWithReports) → is_sequencer old ≡ true → RefreshesAlike fronts.refresh_with_reports (core_with_reports_of old) new → SecondChangesNothing fronts.refresh_with_reports (core_with_reports_of old) new
    → (all : Node) → IsEndOf all old → refresh (refresh all) ≡ refresh all
unfolding refresh refresh_as_sequencer
refresh_twice_of_sequencer old new leads by again all end =
    let s = end.stands in
    let is : is_sequencer all ≡ true = ap is_sequencer (sym end.same) ∙ leads_same old all.core.log s ∙ leads in
    let one = (by all.core.log s).1 in
    let first : refresh_as_sequencer all ≡ node_with_core_and_reports all (fronts.refresh_with_reports (core_with_reports_of all)) = refl in
    let two : fronts.refresh_with_reports (fronts.refresh_with_reports (core_with_reports_of all)) ≡ fronts.refresh_with_reports (core_with_reports_of all) =
    let same : reports_with_log all.core.log (core_with_reports_of old) ≡ core_with_reports_of all = ap core_with_reports_of end.same in
    let at : reports_with_log all.core.log new ≡ fronts.refresh_with_reports (core_with_reports_of all) = one ∙ ap fronts.refresh_with_reports same in
    ap fronts.refresh_with_reports (sym at) ∙ again all.core.log s ∙ at in
    rw is (rw (still_leads all ∙ is) (ap (node_with_core_and_reports all) two))

advance_twice : (m : Node) → advance_node (advance_node m) ≡ advance_node m
unfolding raise_accepted_to_told pass_over_below_join
advance_twice m =
    let top = top_of_log m.core.log in
    let acc : max (max m.core.acc (min m.core.told top)) (min m.core.told top) ≡ max m.core.acc (min m.core.told top) = omega arith in
    let a = max m.core.acc (min m.core.told top) in
    let low = m.core.start - 1 in
    let once = if nat_lt m.core.taken low then max m.core.taken (min a low) else m.core.taken in
    let taken : (if nat_lt once low then max once (min a low) else once) ≡ once = grind (arith, nat_tests) in
    rw acc (ap (λ (t : ℕ). let c : CoreState = record (m.core) { acc = a; taken = t } in record m { core = c }) taken)

pub refresh_twice_of_member : (old : Node) → is_sequencer old ≡ false → (all : Node) → IsEndOf all old → refresh (refresh all) ≡ refresh all
unfolding refresh
refresh_twice_of_member old none all end =
    let is : is_sequencer all ≡ false = ap is_sequencer (sym end.same) ∙ leads_same old all.core.log end.stands ∙ none in
    rw is (rw (still_follows all ∙ is) (advance_twice all))

refresh_log : (m : Node) → node_with_log (refresh m) m.core.log ≡ refresh m
unfolding refresh refresh_as_sequencer raise_own_report tell_accept_front advance_with_reports trim_to_least_taken raise_accepted_to_told pass_over_below_join
refresh_log m = split_on_bool_of_log (is_sequencer m) (λ t. rw t refl) (λ f. rw f refl)

-- a node whose end a refresh leaves, it leaves too
pub end_of_refreshed_is_refreshed : (x m : Node) → IsEndOf (refresh x) m → CoreFrontsAreInOrder m.core → refresh (refresh x) ≡ refresh x → refresh m ≡ m
end_of_refreshed_is_refreshed x m end order again =
    let all = (refresh x).core.log in
    let keeps = end_of_node_keeps_log (refresh x) m end order in
    let both : node_with_log (refresh m) all ≡ node_with_log m all = sym (refresh_on_whole_log all m keeps) ∙ ap refresh end.same ∙ again ∙ sym end.same in
    sym (refresh_log m) ∙ ap (λ (n : Node). node_with_log n m.core.log) both

-- a core that changes as the whole list's
pub change_of_core_changes_node : (f : CoreState → CoreState) (m : Node) (core : CoreState) → CoreChangesAlike f m.core core
    → ChangesAllAlike (λ x. record x { core = f x.core }) m (record m { core = core })
change_of_core_changes_node f m core keeps = change_of_end_changes_node (λ (x : Node). record x { core = f x.core }) m (record m { core = core }) (λ all s.
    let one = keeps all s in
    (all, one.0, ap (λ (c : CoreState). record m { core = c }) (sym one.1)))

-- what all of a node tells, its end tells
pub image_of_node_end : (x m : Node) → IsEndOf x m → image_of_node m ≡ image_of_node x
image_of_node_end x m end = end_has_image_of_whole_log x.core.log m.core.log end.stands.kept

pub top_of_node_end : (x m : Node) → IsEndOf x m → top m ≡ top x
top_of_node_end x m end = top_of_end_is_top x.core.log m.core.log end.stands.kept
