-- So it is in every lawful run: each base was taken by each Member that runs and isn't leaving, or is below its Join.
use Rattle.am_repair.proofs.Repairable.RepairedWords.{◌≡◌, ℕ, ◌<◌, ◌≤◌, ◌==◌, ◌-◌, max, true, false, List, length, take, refl, sym, ap, ◌∙◌, subst, arith, eqb-true, All-nil, All-weaker}
use Rattle.am_repair.proofs.Repairable.RepairedWords.{Rules, MayFound, Event, Group, Node, World, is_stopped, is_sequencer, has_departed, run, start, first_node, has, members, split_on_bool, is_member_at_end, members_of_image}
use Rattle.am_repair.proofs.Repairable.RepairedWords.{item_of_index_has_property, member_status_has_log, member_has_not_departed, lawful_front, steps_are_group_moves, GroupKeeps, group_run_is_kept, lowest_name_or_zero, Following}
use Rattle.am_repair.proofs.Repairable.RepairedWords.{PropertyIsKeptByRuns, WorldStaysQuiet, known_is_taken, sequencers_trim_known, end_keeps_reports_of_others, end_refresh_rests_with_list, run_trims_only_taken}
use Rattle.am_repair.proofs.Repairable.RepairedWords.{WorldTrimsOnlyTaken}
use Rattle.am_repair.proofs.Repairable.RepairedWords.{TrimsOnlyTakenAlongStep, changes_trim_only_taken, each_node_trims_only_taken, Changes, changed, unchanged, refreshes, settles, settle_changes_only_sends, Log, image_of_log, Report}
use Rattle.am_repair.proofs.RepairWords.{nat_lt, refresh, refresh_at_end, settle_waiting_send, refresh_as_sequencer, raise_own_report, tell_accept_front, advance_with_reports, trim_to_least_taken, raise_accepted_to_told, pass_over_below_join}
use Rattle.am_base.specs.declared.outcome.Outcome.TheVariants as said
use Rattle.am_step_laws.specs.Causes.{refuses}
use Rattle.am_repair.proofs.Known.Knowing.{trims_known_after_end}
use Rattle.am_step_laws.proofs.Rests.{is_sequencer_after_rest}
use Rattle.am_lawful_runs.proofs.Spared.{LawfulUntilLastStop, lawful_is_until_last_stop, group_follows_until_last_stop}
use Rattle.am_trim_laws.specs.Trims.{base_of_packet, RunsAndStays, HasComeToJoin, taken_or_below_join, BasesAreTaken, ToldBasesAreTaken, TrimsAreTaken, MembersHaveTakenTrims}
use Rattle.am_trim_laws.proofs.Bases.{follower_end_keeps_base}
use Rattle.am_trim_laws.proofs.Listed.{GoesOn, running_sequencer_lists_member}
use Rattle.am_trim_laws.proofs.Kept.{NumberIsTaken, LetterBaseIsTaken, AllBasesAreTaken, nought_is_taken, step_keeps_bases_taken}
use Rattle.std.specs.Prelude.{All}

-- ---- an event that changes no node

quiet_number : (w v : World) (s t : Group) (b : ℕ) → WorldStaysQuiet w v s t → NumberIsTaken w b → NumberIsTaken v b
quiet_number w v s t b quiet h = record {
  accepted = (let a = ap length quiet.stays.group in let z = h.accepted in omega arith);
  taken = λ j number on member.
      (let node : v.nodes j ≡ w.nodes j = ap (λ f. f j) quiet.stays.nodes in
      let before : GoesOn w j = record {
        small = on.small;
        runs = split_on_bool (is_stopped w j) (λ u. absurd (let z = quiet.stays.stopped j u in let y = on.runs in cc)) (λ f. f);
        here = ap (λ (y : Node). has_departed y.status) (sym node) ∙ on.here;
        stays = ap (λ (y : Node). y.leaving) (sym node) ∙ on.stays;
      } in
      let a = h.taken j number before (subst (λ g. is_member_at_end (take number g) j ≡ true) quiet.stays.group member) in
      let d = ap (λ (y : Node). y.core.taken) node in
      omega arith);
}

quiet_bases : (w v : World) (s t : Group) → WorldStaysQuiet w v s t → AllBasesAreTaken w → AllBasesAreTaken v
quiet_bases w v s t quiet h = record {
  nodes = λ i few here.
      (let node : v.nodes i ≡ w.nodes i = ap (λ f. f i) quiet.stays.nodes in
      subst (λ (y : Node). NumberIsTaken v y.core.base) (sym node)
      (quiet_number w v s t (w.nodes i).core.base quiet (h.nodes i few (ap (λ (y : Node). has_departed y.status) (sym node) ∙ here))));
  letters = subst (All (LetterBaseIsTaken v)) (sym quiet.stays.letters)
      (All-weaker (LetterBaseIsTaken w) (LetterBaseIsTaken v) (λ l a. quiet_number w v s t (base_of_packet l.packet) quiet a) w.letters h.letters);
}

bases_are_kept : (rules : Rules) → PropertyIsKeptByRuns (λ w s. AllBasesAreTaken w) rules
bases_are_kept rules = record {
  by_step = λ {events} {e} {c} {step} {s} {t} x h. step_keeps_bases_taken rules events e c step s t x h;
  by_quiet = quiet_bases;
}

-- ---- the start

start_bases : (rules : Rules) → AllBasesAreTaken (start rules)
start_bases rules = record {
  nodes = λ i few here. subst (NumberIsTaken (start rules)) (sym (none i)) (nought_is_taken (start rules));
  letters = All-nil (LetterBaseIsTaken (start rules));
}
  where
    none : (i : ℕ) → (first_node rules i).core.base ≡ 0
    none i = split_on_bool (has rules.founders i) (λ u. rw u refl) (λ f. rw f refl)

-- ---- the end of a step

-- a node that does nothing but that
end_trims_only_taken : (rules : Rules) (m : Node) → TrimsOnlyTakenAlongStep rules m → TrimsOnlyTakenAlongStep rules (refresh_at_end m)
unfolding refresh_at_end
end_trims_only_taken rules m h = changes_trim_only_taken rules m (refresh_at_end m)
    (record { pieces = λ p is. absurd (cc); senders = λ p is. absurd (cc); stamps = λ p is. absurd (cc) }) (λ p is. absurd (cc)) changes_of_end h
  where
    changes_of_end : Changes refuses said.Ticked m (settle_waiting_send (refresh m))
    changes_of_end = changed refreshes (changed settles unchanged)

-- its application has passed over no more than what is below its Join
refresh_takes_up_to_join : (m : Node) → (refresh m).core.taken ≤ max m.core.taken (m.core.start - 1)
unfolding refresh refresh_as_sequencer raise_own_report tell_accept_front advance_with_reports trim_to_least_taken raise_accepted_to_told pass_over_below_join
refresh_takes_up_to_join m = split_on_bool (is_sequencer m)
    (λ t. rw t (split_on_bool (nat_lt m.core.taken (m.core.start - 1)) (λ u. rw u (omega arith)) (λ f. rw f (omega arith))))
    (λ f. rw f (split_on_bool (nat_lt m.core.taken (m.core.start - 1)) (λ u. rw u (omega arith)) (λ g. rw g (omega arith))))

end_takes_up_to_join : (m : Node) → (refresh_at_end m).core.taken ≤ max m.core.taken (m.core.start - 1)
unfolding refresh_at_end
end_takes_up_to_join m = subst (λ (n : Node). n.core.taken ≤ max m.core.taken (m.core.start - 1)) (sym (settle_changes_only_sends (refresh m))) (refresh_takes_up_to_join m)

-- ---- where a lawful run ends, or one that is lawful until the last stop

pub record EndOfLawfulRun (rules : Rules) (events : List Event) : Type 0 where
  pub group : Group
  pub follows : Following rules (run rules events) group
  pub bases : AllBasesAreTaken (run rules events)

pub end_until_last_stop : (rules : Rules) (events : List Event) → MayFound rules → LawfulUntilLastStop rules events → EndOfLawfulRun rules events
end_until_last_stop rules events may lawful =
    let h = group_follows_until_last_stop (λ w s. AllBasesAreTaken w) rules (bases_are_kept rules) steps_are_group_moves may (λ s f. start_bases rules) events lawful in
    record { group = h.to; follows = h.follows; bases = h.is }

pub end_of_lawful_run : (rules : Rules) (events : List Event) → MayFound rules → lawful_front rules events ≡ events → EndOfLawfulRun rules events
end_of_lawful_run rules events may lawful = end_until_last_stop rules events may (lawful_is_until_last_stop rules events lawful)

-- ---- a Member that runs and stays

module _ (rules : Rules) (events : List Event) (name : ℕ) (may : MayFound rules) (end : EndOfLawfulRun rules events) (on : RunsAndStays (run rules events) name) where
  kept : GroupKeeps end.group
  kept = group_run_is_kept rules.founders (lowest_name_or_zero rules.founders) rules.resilience end.group end.follows.group

  goes : GoesOn (run rules events) name
  goes = record { small = on.small; runs = on.runs; here = member_has_not_departed ((run rules events).nodes name).status on.member_; stays = on.stays }

  -- it was a member where it joined
  joined : is_member_at_end (take ((run rules events).nodes name).core.start (run rules events).group) name ≡ true
  joined =
      let stands = end.follows.stands.each name on.small in
      let log = member_status_has_log ((run rules events).nodes name).status on.member_ in
      let j = (kept.each name).joined (stands.log_ ∙ log) in
      subst (λ k. is_member_at_end (take k (run rules events).group) name ≡ true) (stands.start log)
      (subst (λ g. is_member_at_end (take (end.group.node name).start g) name ≡ true) end.follows.stands.group j.member)

  pub taken_number_is_low : (b : ℕ) → NumberIsTaken (run rules events) b → b ≤ taken_or_below_join ((run rules events).nodes name)
  taken_number_is_low b h = h.taken name ((run rules events).nodes name).core.start goes joined

  -- ---- what a name that runs trims at the end of a step

  module _ (q : ℕ) (few : q < 256) (here : has_departed ((run rules events).nodes q).status ≡ false) (runs : is_stopped (run rules events) q ≡ false) where
    laws : WorldTrimsOnlyTaken rules (run rules events)
    laws = run_trims_only_taken rules events may

    own_base : ((run rules events).nodes q).core.base ≤ taken_or_below_join ((run rules events).nodes name)
    own_base = taken_number_is_low ((run rules events).nodes q).core.base (end.bases.nodes q few here)

    another : (name == q) ≡ false → is_sequencer ((run rules events).nodes q) ≡ true
        → (refresh_at_end ((run rules events).nodes q)).core.base ≤ taken_or_below_join ((run rules events).nodes name)
    another other leads =
        let y = (run rules events).nodes q in
        let r = end_refresh_rests_with_list y in
        let who = laws.blanks.base.named.who q in
        let listed = running_sequencer_lists_member rules (run rules events) end.group q name _ end.follows kept few who leads runs goes joined in
        let told : has (members (refresh_at_end y)) name ≡ true = subst (λ (l : Log). has (members_of_image (image_of_log l)) name ≡ true) (sym r.log) listed in
        let trims = trims_known_after_end y (laws.each q few).fronts (sequencers_trim_known rules events q may few) (is_sequencer_after_rest r.rests ∙ leads) name on.small told in
        let known = known_is_taken rules events q name may few on.small in
        let same = ap (λ (k : Report). k.taken) (end_keeps_reports_of_others y name (ap (λ k. name == k) who ∙ other)) in
        let low = own_base in
        omega arith

    itself : name ≡ q → (refresh_at_end ((run rules events).nodes q)).core.base ≤ taken_or_below_join ((run rules events).nodes name)
    itself is =
        let y = (run rules events).nodes q in
        let base = (end_trims_only_taken rules y (each_node_trims_only_taken rules (run rules events) q few laws)).owned.fronts.base in
        let taken = end_takes_up_to_join y in
        let a = ap (λ k. ((run rules events).nodes k).core.taken) is in
        let b = ap (λ k. ((run rules events).nodes k).core.start) is in
        omega arith

    pub trim_is_low : (refresh_at_end ((run rules events).nodes q)).core.base ≤ taken_or_below_join ((run rules events).nodes name)
    trim_is_low = split_on_bool (is_sequencer ((run rules events).nodes q))
        (λ leads. split_on_bool (name == q) (λ u. itself (eqb-true name q u)) (λ f. another f leads))
        (λ f. let same = follower_end_keeps_base ((run rules events).nodes q) f in let low = own_base in omega arith)

-- ---- in every lawful run

pub bases_are_taken : BasesAreTaken
bases_are_taken rules events q name may lawful few here on =
    let end = end_of_lawful_run rules events may lawful in
    taken_number_is_low rules events name may end on ((run rules events).nodes q).core.base (end.bases.nodes q few here)

pub told_bases_are_taken : ToldBasesAreTaken
told_bases_are_taken rules events k name letter may lawful at on =
    let end = end_of_lawful_run rules events may lawful in
    taken_number_is_low rules events name may end on (base_of_packet letter.packet)
    (item_of_index_has_property (LetterBaseIsTaken (run rules events)) (run rules events).letters k letter end.bases.letters at)

pub trims_are_taken : TrimsAreTaken
trims_are_taken rules events q name may lawful few here runs on =
    trim_is_low rules events name may (end_of_lawful_run rules events may lawful) on q few here runs

pub members_have_taken_trims : MembersHaveTakenTrims
members_have_taken_trims rules events q name may lawful few here runs on come =
    let low = trims_are_taken rules events q name may lawful few here runs on in
    omega arith

-- also in a run that is lawful until the last stop
pub members_have_taken_trims_until_last_stop : (rules : Rules) (events : List Event) (q name : ℕ) → MayFound rules → LawfulUntilLastStop rules events → q < 256
    → has_departed ((run rules events).nodes q).status ≡ false → is_stopped (run rules events) q ≡ false → RunsAndStays (run rules events) name
    → HasComeToJoin ((run rules events).nodes name)
    → (refresh_at_end ((run rules events).nodes q)).core.base ≤ ((run rules events).nodes name).core.taken
members_have_taken_trims_until_last_stop rules events q name may lawful few here runs on come =
    let low = trim_is_low rules events name may (end_until_last_stop rules events may lawful) on q few here runs in
    omega arith
